-- What the steps of volumes and devices ask, once the flash description is known; the rule is this
-- project's own. What its statements mean is told by the EDK II FDF specification.
use Rattle.step_answers.specs.Volumes.{fits_u16, volume_step}
use Rattle.std.specs.Prelude.{ℕ, ◌+◌, Bool, true, false, not, nat_eq, List, [], ◌∷◌, ◌++◌, Option, Some, None, if◌then◌else◌}
use Rattle.std.specs.Cmp.Lexicographic.{pointwise}
use Rattle.std.specs.List.{flat_map, list_all}
use Rattle.step_engine.specs.declared.talk.Ask.{Ask}
use Rattle.step_engine.specs.declared.talk.Ask.TheVariants as ask
use Rattle.doc_types.specs.declared.flash.Region.{Region}
use Rattle.doc_types.specs.declared.flash.RegionKind.{RegionKind}
use Rattle.doc_types.specs.declared.flash.RegionKind.TheVariants as kind
use Rattle.doc_types.specs.declared.volume.Item.{Item}
use Rattle.doc_types.specs.declared.volume.Item.TheVariants as item
use Rattle.doc_types.specs.declared.volume.VolumePlan.{VolumePlan}
use Rattle.step_pack.specs.declared.key.Key.{Key}
use Rattle.step_pack.specs.declared.key.Key.TheVariants as key

abbrev pub is_apriori : Item → Bool
is_apriori (item.Apriori at pei members) = true
is_apriori (item.File plan) = false
is_apriori (item.Inf line) = false

-- the files of the items that are chosen, by their numbers from one on
unfoldable pub files_where : (Item → Bool) → ℕ → ℕ → List Item → List (Ask Key)
files_where choose volume number [] = []
files_where choose volume number (item ∷ items) =
    if choose item then ask.Part (key.File volume number)
    ∷ files_where choose volume (number + 1) items
    else files_where choose volume (number + 1) items

-- the files of a volume: a priori files first
abbrev pub item_asks : ℕ → List Item → List (Ask Key)
item_asks volume items =
    files_where is_apriori volume 0 items
    ++ files_where (λ item. not (is_apriori item)) volume 0 items

-- the numbers of the items that are chosen, from one on
unfoldable pub numbers_where : (Item → Bool) → ℕ → List Item → List ℕ
numbers_where choose n [] = []
numbers_where choose n (it ∷ items) =
    if choose it then n ∷ numbers_where choose (n + 1) items else numbers_where choose (n + 1) items

-- the order of the files of a volume: a priori files first
abbrev pub file_order : List Item → List ℕ
file_order items =
    numbers_where is_apriori 0 items ++ numbers_where (λ it. not (is_apriori it)) 0 items

-- a path is that of the image of vital product data, where there is one
abbrev pub is_vpd : Option (List ℕ) → List ℕ → Bool
is_vpd None path = false
is_vpd (Some image) path = pointwise nat_eq path image

abbrev pub tree_asks : Bool → List ℕ → List (Ask Key)
tree_asks true path = ask.Part key.Vpd ∷ []
tree_asks false path = ask.File path ∷ []

abbrev pub kind_asks : List VolumePlan → Option (List ℕ) → RegionKind → List (Ask Key)
kind_asks volumes vpd kind.Empty = []
kind_asks volumes vpd (kind.Bytes bytes) = []
kind_asks volumes vpd (kind.Tree path) = tree_asks (is_vpd vpd path) path
kind_asks volumes vpd (kind.Volume n) = ask.Part (volume_step volumes n) ∷ []

-- the file, the volume or the image of vital product data of each region
abbrev pub region_asks : List VolumePlan → Option (List ℕ) → List Region → List (Ask Key)
region_asks volumes vpd regions = flat_map (λ region. kind_asks volumes vpd region.kind) regions

-- a region names volumes that there can be alone
abbrev pub kind_below : RegionKind → Bool
kind_below kind.Empty = true
kind_below (kind.Bytes bytes) = true
kind_below (kind.Tree path) = true
kind_below (kind.Volume n) = fits_u16 n

abbrev pub regions_below : List Region → Bool
regions_below regions = list_all (λ region. kind_below region.kind) regions
