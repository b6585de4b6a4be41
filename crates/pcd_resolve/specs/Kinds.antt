-- The kind of a PCD in a platform, and the line that declares it (EDK II DSC, INF and DEC
-- specifications, PCD sections). Which kind [Pcd] takes, and which of several lines counts, is this
-- project's own rule.
use Rattle.std.specs.Prelude.{Bool, if◌then◌else◌, List, [], ◌∷◌, map, Option, Some, None}
use Rattle.std.specs.List.{list_any, flat_map, find}
use Rattle.build_base.specs.First.{or_else, first_of}
use Rattle.build_base.specs.declared.fault.Place.{Place}
use Rattle.doc_types.specs.declared.package.DecPcd.{DecPcd}
use Rattle.doc_types.specs.declared.pcd.Asked.{Asked}
use Rattle.doc_types.specs.declared.pcd.Asked.TheVariants.{Fixed, Feature, Patch, Any, Ex}
use Rattle.doc_types.specs.declared.pcd.Kind.{Kind}
use Rattle.doc_types.specs.declared.pcd.Kind.TheVariants.{FixedAtBuild, PatchableInModule, FeatureFlag, Dynamic, DynamicEx}
use Rattle.pcd_ranks.specs.Names.{same_kind}
use Rattle.pcd_ranks.specs.Listing.{Use, Stated}

-- the kind for which a section of an INF asks; [Pcd] asks for any
abbrev pub asked_kind : Asked → Option Kind
asked_kind Fixed = Some FixedAtBuild
asked_kind Feature = Some FeatureFlag
asked_kind Patch = Some PatchableInModule
asked_kind Ex = Some DynamicEx
asked_kind Any = None

abbrev pub has_kind : List DecPcd → Kind → Bool
has_kind lines kind = list_any (λ line. same_kind line.kind kind) lines

abbrev pub kind_if : Kind → Bool → Option Kind
kind_if kind has = if has then Some kind else None

-- of the kinds that lines declare, the first in this order
unfoldable pub first_kind : List DecPcd → Option Kind
first_kind lines =
    first_of (map (λ kind. kind_if kind (has_kind lines kind))
    (FixedAtBuild ∷ PatchableInModule ∷ FeatureFlag ∷ Dynamic ∷ DynamicEx ∷ []))

-- the kind that a use gives where the platform lists none
unfoldable pub kind_given : Use → Option Kind
kind_given used = or_else (asked_kind used.line.asked) (first_kind used.own)

-- A line that says of which kind a PCD is.
pub record Claim : Type 0 where
  pub at : Place
  pub kind : Kind

abbrev pub claim_of : Place → Option Kind → List Claim
claim_of at None = []
claim_of at (Some kind) = record { at = at; kind = kind } ∷ []

-- the platform's lines, and where it has none the uses
abbrev pub claims : List Use → List Stated → List Claim
claims uses [] = flat_map (λ used. claim_of used.line.at (kind_given used)) uses
claims uses (stated ∷ lines) =
    map (λ s. record { at = s.line.at; kind = s.line.kind }) (stated ∷ lines)

-- the kind is that of the first
abbrev pub kind_of : List Claim → Option Kind
kind_of [] = None
kind_of (claim ∷ more) = Some claim.kind

-- the line that gives a PCD its type and its token: the first one of the kind, else the first
abbrev pub head_of : List DecPcd → Option DecPcd
head_of [] = None
head_of (line ∷ lines) = Some line

abbrev pub of_kind : Kind → List DecPcd → Option DecPcd
of_kind kind lines = find (λ line. same_kind line.kind kind) lines

unfoldable pub declaration : Kind → List DecPcd → Option DecPcd
declaration kind lines = or_else (of_kind kind lines) (head_of lines)
