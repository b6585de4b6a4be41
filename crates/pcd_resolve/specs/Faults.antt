-- The faults of a PCD that are no faults of its value. Each is a condition on one line, with its
-- place and detail. Which come first is this project's own rule.
use Rattle.std.specs.Prelude.{ℕ, Bool, true, false, ◌&&◌, ◌||◌, not, if◌then◌else◌, List, [], ◌∷◌, Option, Some, None, Result, Ok, codes}
use Rattle.std.specs.List.{list_any}
use Rattle.std.specs.Str.{bytes_eq}
use Rattle.build_base.specs.First.{first_of, or_fault}
use Rattle.build_base.specs.FaultText.{fault_of}
use Rattle.build_base.specs.declared.fault.Fault.{Fault}
use Rattle.meta_lexer.specs.Faults.{first_fault}
use Rattle.doc_types.specs.declared.platform.Component.{Component}
use Rattle.doc_types.specs.declared.package.DecPcd.{DecPcd}
use Rattle.doc_types.specs.declared.pcd.Datum.{Datum}
use Rattle.doc_types.specs.declared.pcd.Datum.TheVariants.{U8, U16, U32, U64, Boolean, Void}
use Rattle.doc_types.specs.declared.pcd.Kind.{Kind}
use Rattle.doc_types.specs.Pcds.{full_name}
use Rattle.pcd_ranks.specs.Names.{same_kind, same_datum, is_dynamic}
use Rattle.pcd_ranks.specs.Listing.{Use, Stated, applies}
use Rattle.pcd_resolve.specs.Kinds.{asked_kind, has_kind, Claim, claims, kind_of, declaration}
use Rattle.build_base.specs.FaultCodes.{DATUM_CONFLICT, DYNAMIC_IN_COMPONENT, KIND_ASKED, KIND_CONFLICT, NOT_DECLARED, SKU_ON_FIXED}

abbrev pub nothing : {T : Type 0} → List T → Bool
nothing [] = true
nothing (x ∷ xs) = false

-- NotDeclared: no package of the INF declares the PCD for the architecture
unfoldable pub not_declared : Use → Option Fault
not_declared used = if nothing used.own
    then Some (fault_of NOT_DECLARED used.line.at (full_name used.line.pcd))
    else None

-- how a type is written
unfoldable pub datum_text : Datum → List ℕ
datum_text U8 = codes "UINT8"
datum_text U16 = codes "UINT16"
datum_text U32 = codes "UINT32"
datum_text U64 = codes "UINT64"
datum_text Boolean = codes "BOOLEAN"
datum_text Void = codes "VOID*"

abbrev pub datum_differs : Datum → Option DecPcd → Bool
datum_differs datum None = false
datum_differs datum (Some line) = not (same_datum datum line.datum)

-- the packages of a use's module declare the PCD with another type
abbrev pub is_other : Kind → Datum → Use → Bool
is_other kind datum used = datum_differs datum (declaration kind used.all)

-- a line applies to a module whose packages do
abbrev pub is_against : Kind → Datum → Stated → Use → Bool
is_against kind datum stated used = applies used.user stated && is_other kind datum used

abbrev pub datum_fault : Kind → List Use → Stated → Option Datum → Option Fault
datum_fault kind uses stated None = None
datum_fault kind uses stated (Some datum) =
    if list_any (is_against kind datum stated) uses
    then Some (fault_of DATUM_CONFLICT stated.line.at (datum_text datum)) else None

-- DatumConflict: the type that a line of the platform states isn't that of a package of a module to
-- which it applies
unfoldable pub datum_conflict : Kind → List Use → Stated → Option Fault
datum_conflict kind uses stated = datum_fault kind uses stated stated.line.datum

abbrev pub is_inside : Option Component → Bool
is_inside None = false
is_inside (Some home) = true

-- DynamicInComponent: a line of a dynamic kind in a component
unfoldable pub dynamic_in_component : Stated → Option Fault
dynamic_in_component stated = if is_inside stated.home && is_dynamic stated.line.kind
    then Some (fault_of DYNAMIC_IN_COMPONENT stated.line.at (full_name stated.line.pcd)) else None

-- SkuOnFixed: a SKU other than DEFAULT for another kind
unfoldable pub sku_on_fixed : Stated → Option Fault
sku_on_fixed stated =
    if not (is_dynamic stated.line.kind) && not (bytes_eq stated.line.sku (codes "DEFAULT"))
    then Some (fault_of SKU_ON_FIXED stated.line.at (full_name stated.line.pcd)) else None

-- KindConflict: a line says another kind than the first one
unfoldable pub kind_conflict : List ℕ → Kind → Claim → Option Fault
kind_conflict pcd kind claim = if same_kind claim.kind kind then None
    else Some (fault_of KIND_CONFLICT claim.at pcd)

abbrev pub asks_other : Kind → Option Kind → Bool
asks_other kind None = false
asks_other kind (Some asked) = not (same_kind asked kind)

-- KindAsked: an INF asks for another kind, or its packages don't declare the kind
unfoldable pub kind_asked : Kind → Use → Option Fault
kind_asked kind used =
    if asks_other kind (asked_kind used.line.asked) || not (has_kind used.own kind)
    then Some (fault_of KIND_ASKED used.line.at (full_name used.line.pcd)) else None

-- the faults that suppose a kind, each at its first line
unfoldable pub kind_faults : List ℕ → List Use → List Stated → Kind → Option Fault
kind_faults pcd uses lines kind =
    first_of
    (first_fault (datum_conflict kind uses) lines
    ∷ first_fault dynamic_in_component lines
    ∷ first_fault sku_on_fixed lines
    ∷ first_fault (kind_conflict pcd kind) (claims uses lines)
    ∷ first_fault (kind_asked kind) uses ∷ [])

abbrev pub faults_of_kind : List ℕ → List Use → List Stated → Option Kind → Option Fault
faults_of_kind pcd uses lines None = None
faults_of_kind pcd uses lines (Some kind) = kind_faults pcd uses lines kind

-- the first fault of a PCD, from its uses and the platform's lines that name it
unfoldable pub pcd_fault : List ℕ → List Use → List Stated → Option Fault
pcd_fault pcd uses lines =
    first_of (first_fault not_declared uses
    ∷ faults_of_kind pcd uses lines (kind_of (claims uses lines)) ∷ [])

-- the kind of a PCD, or its first fault
unfoldable pub checked_kind : List ℕ → List Use → List Stated → Result (Option Kind) Fault
checked_kind pcd uses lines = or_fault (pcd_fault pcd uses lines) (Ok (kind_of (claims uses lines)))
