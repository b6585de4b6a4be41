-- The names that are filled in when a rule is used (EDK II FDF specification, [Rule] sections), and
-- the folder of a module's outputs (EDK II Build specification, build output).
use Rattle.std.specs.Prelude.{ℕ, List, [], ◌∷◌, ◌++◌, codes, unwrap_or}
use Rattle.build_base.specs.declared.guid.Guid.{Guid}
use Rattle.build_base.specs.declared.lines.Macro.{Macro}
use Rattle.build_texts.specs.Guids.{guid_text}
use Rattle.build_texts.specs.Words.{arch_word}
use Rattle.doc_types.specs.declared.choice.Module.{Module}
use Rattle.doc_types.specs.declared.module.InfDoc.{InfDoc}
use Rattle.doc_types.specs.declared.platform.PlatformDoc.{PlatformDoc}
use Rattle.macro_expressions.specs.Macros.{replaced}
use Rattle.macro_expressions.specs.declared.macros.Undefined.TheVariants.{Kept}
use Rattle.step_answers.specs.Settings.{stated_guid}
use Rattle.step_answers.specs.Stems.{stem_of}

-- the folder of a module: ARCH, the INF file without its extension, OUTPUT
unfoldable pub module_folder : List ℕ → Module → List ℕ
module_folder folder m = folder ++ codes "/" ++ arch_word m.arch ++ codes "/" ++ stem_of m.inf
    ++ codes "/OUTPUT"

-- the GUID that the module's component states, else that of its INF file
unfoldable pub module_guid : PlatformDoc → Module → InfDoc → Guid
module_guid platform m inf = unwrap_or (stated_guid platform m) inf.file_guid

abbrev pub named : List ℕ → List ℕ → Macro
named name value = record { name = name; value = value }

unfoldable pub NAMED_GUID : List ℕ
NAMED_GUID = codes "NAMED_GUID"

unfoldable pub INF_OUTPUT : List ℕ
INF_OUTPUT = codes "INF_OUTPUT"

unfoldable pub MODULE_NAME : List ℕ
MODULE_NAME = codes "MODULE_NAME"

unfoldable pub INF_VERSION : List ℕ
INF_VERSION = codes "INF_VERSION"

unfoldable pub BUILD_NUMBER : List ℕ
BUILD_NUMBER = codes "BUILD_NUMBER"

-- the five names, of a module of this GUID whose outputs stand in this folder; the number of a
-- build is 0
unfoldable pub rule_names : Guid → List ℕ → InfDoc → List Macro
rule_names guid folder inf =
    named NAMED_GUID (guid_text guid)
    ∷ named INF_OUTPUT folder
    ∷ named MODULE_NAME inf.base_name
    ∷ named INF_VERSION inf.version
    ∷ named BUILD_NUMBER (codes "0")
    ∷ []

-- a text with them filled in, once, from left to right
abbrev pub fill_names : List Macro → List ℕ → List ℕ
fill_names names text = replaced Kept names text

-- the path of the module's own expression: INF_OUTPUT/MODULE_NAME.depex
unfoldable pub own_depex : List ℕ → InfDoc → List ℕ
own_depex folder inf = folder ++ codes "/" ++ inf.base_name ++ codes ".depex"
