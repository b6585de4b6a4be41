-- Reading back what is compiled.
use Rattle.std.specs.Prelude.{◌≡◌, ℕ, List, [], ◌∷◌, length, Option, Ok}
use Rattle.doc_types.specs.declared.depex.NamedGuid.{NamedGuid}
use Rattle.doc_types.specs.declared.depex.DepexGroup.{DepexGroup}
use Rattle.doc_types.specs.declared.module_type.ModuleType.{ModuleType}
use Rattle.depex_code.specs.Tree.{Tree, ReadBack}
use Rattle.depex_code.specs.Compiled.{compiled, compiled_tree}

-- GUIDs have sixteen bytes, as the type says
abbrev pub AreGuids : List NamedGuid → Type 0
AreGuids [] = Unit {0}
AreGuids (declared ∷ guids) = (length declared.guid.0 ≡ 16) × AreGuids guids

abbrev pub HaveGuids : List DepexGroup → Type 0
HaveGuids [] = Unit {0}
HaveGuids (group ∷ groups) = AreGuids group.guids × HaveGuids groups

-- what is read back from the bytes is the tree that was compiled, and nothing where there was none
abbrev pub ReadsBack : ModuleType → List DepexGroup → Type 0
ReadsBack t groups =
    (bytes : List ℕ) → (read : Option Tree) → HaveGuids groups → compiled t groups ≡ Ok bytes
    → ReadBack bytes read → compiled_tree t groups ≡ Ok read
