-- What sets a PCD.
use Rattle.std.specs.Prelude.{ℕ, ◌+◌, ◌-◌, ◌*◌, ◌^◌, Bool, false, not, nat_lt, if◌then◌else◌, List, [], ◌∷◌, ◌++◌, map, filter, Option, Some, None}
use Rattle.std.specs.Str.{bytes_eq}
use Rattle.build_base.specs.declared.fault.Place.{Place}
use Rattle.meta_lexer.specs.Numbers.{number_of}
use Rattle.doc_types.specs.declared.platform.Component.{Component}
use Rattle.doc_types.specs.declared.package.DecPcd.{DecPcd}
use Rattle.doc_types.specs.declared.choice.Module.{Module}
use Rattle.doc_types.specs.declared.pcd.Datum.{Datum}
use Rattle.doc_types.specs.declared.platform.PcdLine.{PcdLine}
use Rattle.doc_types.specs.declared.platform.Store.{Store}
use Rattle.doc_types.specs.declared.platform.Store.TheVariants.{Vpd}
use Rattle.doc_types.specs.declared.pcd.PcdSet.{PcdSet}
use Rattle.build_base.specs.Best.{best}
use Rattle.doc_types.specs.Pcds.{full_name}
use Rattle.pcd_ranks.specs.Names.{is_common, is_void}
use Rattle.pcd_ranks.specs.Listing.{Use, Stated, applies}

-- An assignment: its rank, of which 1 is the highest, whether it is for an architecture of its own,
-- where it stands, and the value and the maximum that it states.
pub record Assignment : Type 0 where
  pub rank : ℕ
  pub own : Bool
  pub at : Place
  pub value : Option (List ℕ)
  pub max : Option ℕ

-- what a line states, by the type where it is a VPD line: `MaxSize|Value`, `Value`, or for a VOID*
-- a number alone, which is `MaxSize`
pub record Parts : Type 0 where
  pub value : Option (List ℕ)
  pub max : Option ℕ

-- a maximum has 32 bits
abbrev pub small : Option ℕ → Option ℕ
small None = None
small (Some n) = if nat_lt n (2 ^ 32) then Some n else None

abbrev pub one_field : Datum → List ℕ → Option ℕ → Parts
one_field datum field None = record { value = Some field; max = None }
one_field datum field (Some n) = if is_void datum then record { value = None; max = small (Some n) }
    else record { value = Some field; max = None }

abbrev pub vpd_parts : Datum → List (List ℕ) → Parts
vpd_parts datum [] = record { value = None; max = None }
vpd_parts datum (field ∷ []) = one_field datum field (number_of field)
vpd_parts datum (max ∷ value ∷ more) = record { value = Some value; max = small (number_of max) }

abbrev pub parts_by : Datum → PcdLine → Store → Parts
parts_by datum line (Vpd offset rest) = vpd_parts datum rest
parts_by datum line store = record { value = line.value; max = line.max }

unfoldable pub parts_stated : Datum → PcdLine → Parts
parts_stated datum line = parts_by datum line line.store

-- rank 8: the default of the declaration
unfoldable pub by_declaration : DecPcd → Assignment
by_declaration line =
    record { rank = 8; own = false; at = line.at; value = Some line.default; max = None }

-- rank 7: the first default that an INF of the module states
abbrev pub first_default : List Use → List Assignment
first_default [] = []
first_default (used ∷ uses) = default_or used.line.default (first_default uses)
  where
    default_or : Option (List ℕ) → List Assignment → List Assignment
    default_or None later = later
    default_or (Some text) later =
        record { rank = 7; own = false; at = used.line.at; value = Some text; max = None } ∷ []

abbrev pub rank_at : Option Component → ℕ
rank_at None = 6
rank_at (Some home) = 2

abbrev pub own_at : PcdLine → Option Component → Bool
own_at line None = not (is_common line.arch)
own_at line (Some home) = false

-- rank 6 and 2: a line of a section of the platform, or of a component
unfoldable pub by_line : Datum → Stated → Assignment
by_line datum stated =
    record {
      rank = rank_at stated.home;
      own = own_at stated.line stated.home;
      at = stated.line.at;
      value = (parts_stated datum stated.line).value;
      max = (parts_stated datum stated.line).max;
    }

-- ranks 5, 4, 3 and 1: SET in [Defines] of the FDF, SET elsewhere, what regions set, and the words
unfoldable pub by_set : PcdSet → Assignment
by_set set =
    record { rank = set.rank; own = false; at = set.at; value = Some set.value; max = None }

abbrev pub sets_of : List ℕ → List PcdSet → List PcdSet
sets_of pcd sets = filter (λ set. bytes_eq (full_name set.pcd) pcd) sets

-- the assignments of a PCD for a module, from its declaration, its uses, the platform's lines and
-- the sets that name it
unfoldable pub assignments : Module → DecPcd → List Use → List Stated → List PcdSet
    → List Assignment
assignments user line uses lines sets =
    by_declaration line ∷ first_default uses
    ++ map (by_line line.datum) (filter (applies user) lines) ++ map by_set sets

-- The higher one is greater; of two lines of the platform's sections one for an architecture is
-- greater than a common one.
unfoldable pub precedence : Assignment → ℕ
precedence a = 2 * (256 - a.rank) + (if a.own then 1 else 0)

abbrev pub height_if : {T : Type 0} → Option T → ℕ → ℕ
height_if None n = 0
height_if (Some x) n = n

unfoldable pub value_height : Assignment → ℕ
value_height a = height_if a.value (precedence a)

unfoldable pub max_height : Assignment → ℕ
max_height a = height_if a.max (precedence a)

-- The value is that of the greatest assignment that states one, of equal ones the last; the maximum
-- likewise.
abbrev pub value_from : List Assignment → Option Assignment
value_from all = best value_height all

abbrev pub max_from : List Assignment → Option Assignment
max_from all = best max_height all
