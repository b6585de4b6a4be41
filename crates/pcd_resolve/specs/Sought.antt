-- The lines that give the PCDs of a platform's modules their types and their tokens, looked for
-- module by module.
use Rattle.std.specs.Prelude.{ℕ, Bool, true, false, List, [], ◌∷◌, map, Option, Some, None, option_copied}
use Rattle.build_base.specs.First.{or_else, first_of}
use Rattle.doc_types.specs.declared.asks.PlatformAsk.{PlatformAsk}
use Rattle.doc_types.specs.declared.package.DecPcd.{DecPcd}
use Rattle.doc_types.specs.declared.parts.ModuleParts.{ModuleParts}
use Rattle.doc_types.specs.declared.pcd.Kind.{Kind}
use Rattle.pcd_resolve.specs.declared.sought.DeclarationSearch.{DeclarationSearch}
use Rattle.pcd_resolve.specs.Kinds.{claims, head_of, kind_of, of_kind}
use Rattle.pcd_ranks.specs.Listing.{declared_in, stated_for, stated_in, uses_in, uses_of}

-- A PCD of modules: its kind, and of the lines by which the modules' packages declare it the first
-- one of the kind and the first one.
pub record Quest : Type 0 where
  pub name : List ℕ
  pub kind : Option Kind
  pub line : Option DecPcd
  pub first : Option DecPcd

abbrev pub sought_view : DeclarationSearch → Quest
sought_view s =
    record {
      name = s.name.now.items;
      kind = s.kind;
      line = option_copied s.line;
      first =
          option_copied s.first;
    }

abbrev pub of_some : Option Kind → List DecPcd → Option DecPcd
of_some None lines = None
of_some (Some kind) lines = of_kind kind lines

-- what further lines add
abbrev pub widen : Quest → List DecPcd → Quest
widen q lines = record {
  name = q.name;
  kind = q.kind;
  line = or_else q.line (of_some q.kind lines);
  first = or_else q.first (head_of lines);
}

-- what a module's packages add
abbrev pub look : ModuleParts → Quest → Quest
look parts q = widen q (declared_in parts q.name)

abbrev pub look_each : List Quest → ModuleParts → List Quest
look_each qs parts = map (look parts) qs

-- whether one of the lines isn't found yet
abbrev pub misses : Option DecPcd → Option DecPcd → Bool
misses None first = true
misses (Some line) None = true
misses (Some line) (Some first) = false

abbrev pub is_open : Quest → Bool
is_open q = misses q.line q.first

abbrev pub front_if : Bool → List ℕ → List (List ℕ) → List (List ℕ)
front_if true name names = name ∷ names
front_if false name names = names

abbrev pub open_names : List Quest → List (List ℕ)
open_names [] = []
open_names (q ∷ qs) = front_if (is_open q) q.name (open_names qs)

-- the kind of a PCD, by its first line
abbrev pub kind_at : PlatformAsk → List ℕ → Option Kind
kind_at ask pcd =
    kind_of (claims (uses_of pcd (uses_in ask.modules)) (stated_for pcd (stated_in ask.platform)))

abbrev pub new_search : PlatformAsk → List ℕ → Quest
new_search ask pcd = record { name = pcd; kind = kind_at ask pcd; line = None; first = None }

-- where all modules were looked at
abbrev pub found : PlatformAsk → List ℕ → Quest
found ask pcd = record {
  name = pcd;
  kind = kind_at ask pcd;
  line = first_of (map (λ parts. of_some (kind_at ask pcd) (declared_in parts pcd)) ask.modules);
  first = first_of (map (λ parts. head_of (declared_in parts pcd)) ask.modules);
}
