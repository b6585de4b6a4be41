-- The checks over a whole flash description (EDK II FDF specification; the limits are this
-- project's own), in the order of their codes; of one code the one of the earliest place.
use Rattle.std.specs.Prelude.{ℕ, Bool, false, ◌*◌, ◌-◌, ◌%◌, nat_le, ◌==◌, if◌then◌else◌, List, [], ◌∷◌, ◌++◌, map, Option, Some, None, is_some, unwrap_or, codes, decimal, slice_get, nat_eq}
use Rattle.std.specs.List.{flat_map}
use Rattle.std.specs.Cmp.Lexicographic.{pointwise}
use Rattle.build_base.specs.First.{first_of, or_else}
use Rattle.build_base.specs.FaultText.{fault_of}
use Rattle.build_base.specs.declared.fault.Fault.{Fault}
use Rattle.build_base.specs.declared.fault.Place.{Place}
use Rattle.meta_lexer.specs.Faults.{first_fault}
use Rattle.doc_types.specs.Volumes.{size_limit}
use Rattle.fdf_words.specs.declared.rows.LineRead.{LineRead}
use Rattle.fdf_words.specs.declared.rows.LineRead.TheVariants.{Heads, Body}
use Rattle.fdf_words.specs.declared.rows.Row.{Row}
use Rattle.fdf_words.specs.declared.rows.Row.TheVariants as row
use Rattle.fdf_words.specs.declared.rows.Content.{Content}
use Rattle.fdf_words.specs.declared.rows.Content.TheVariants as content
use Rattle.fdf_words.specs.declared.rows.RegionContent.{RegionContent}
use Rattle.fdf_words.specs.declared.rows.SectionBody.{SectionBody}
use Rattle.fdf_words.specs.declared.rows.SectionBody.TheVariants as body
use Rattle.fdf_words.specs.declared.rows.SectionLine.{SectionLine}
use Rattle.flash_document.specs.declared.stated.FdfSection.{FdfSection}
use Rattle.flash_document.specs.declared.stated.FdfSection.TheVariants.{Settings, Device, Volume, Rule}
use Rattle.flash_document.specs.declared.stated.FdfStatement.{FdfStatement}
use Rattle.flash_document.specs.declared.stated.FdfStatement.TheVariants as item
use Rattle.flash_document.specs.declared.stated.StatedRegion.{StatedRegion}
use Rattle.flash_document.specs.declared.stated.StatedVolume.{StatedVolume}
use Rattle.flash_document.specs.declared.held.HeldRegion.{HeldRegion}
use Rattle.flash_document.specs.declared.held.HeldSizes.{HeldSizes}
use Rattle.flash_document.specs.declared.check.RegionTest.{RegionTest}
use Rattle.flash_document.specs.declared.check.RegionTest.TheVariants.{TooLarge, Blocks, TwoSizes}
use Rattle.flash_document.specs.Devices.{capped}
use Rattle.flash_document.specs.Names.{lower_case, place_of}
use Rattle.volume_nesting.specs.Numbering.{first_loop}
use Rattle.build_base.specs.FaultCodes.{BLOCKS_DIFFER, FDF_MISSING_KEY, FDF_REPEATED_NAME, SIZE_TOO_LARGE, VOLUME_LOOP, VOLUME_TWO_SIZES, VOLUME_UNKNOWN}

abbrev pub volume_in : FdfSection → List StatedVolume
volume_in (Volume volume) = volume ∷ []
volume_in stated = []

-- the volumes, in file order
abbrev pub volumes_of : List FdfSection → List StatedVolume
volumes_of parts = flat_map volume_in parts

abbrev pub names_of : List FdfSection → List (List ℕ)
names_of parts = map (λ v. v.name) (volumes_of parts)

abbrev pub name_in : Content → List (List ℕ)
name_in (content.Volume name) = name ∷ []
name_in content = []

abbrev pub held_names : Option RegionContent → List (List ℕ)
held_names None = []
held_names (Some stated) = name_in stated.content

abbrev pub region_held : Option ℕ → StatedRegion → List HeldRegion
region_held block region = map (λ name. record { name = name; size = region.size; block = block })
    (held_names region.content)

abbrev pub part_held : FdfSection → List HeldRegion
part_held (Device device) = flat_map (region_held device.first_block) device.regions
part_held stated = []

-- the regions that hold volumes, each with the first block size of its device
abbrev pub all_held : List FdfSection → List HeldRegion
all_held parts = flat_map part_held parts

abbrev pub other_in : ℕ → List HeldRegion → Option ℕ
other_in size [] = None
other_in size (region ∷ regions) = if region.size == size then other_in size regions
    else Some region.size

-- of some regions the first, and the first size that differs from its own
abbrev pub sizes_of : List HeldRegion → Option HeldSizes
sizes_of [] = None
sizes_of (region ∷ regions) =
    Some
    (record { first = region.size; block = region.block; other = other_in region.size regions })

abbrev pub regions_named : List ℕ → List HeldRegion → List HeldRegion
regions_named key [] = []
regions_named key (region ∷ regions) = if pointwise nat_eq (lower_case region.name) key
    then region ∷ regions_named key regions else regions_named key regions

-- the sizes of the regions that hold the volume of a name, which is given in lower case
abbrev pub held_by : List ℕ → List HeldRegion → Option HeldSizes
held_by key regions = sizes_of (regions_named key regions)

abbrev pub held_of : List HeldRegion → StatedVolume → Option HeldSizes
held_of regions volume = held_by (lower_case volume.name) regions

-- the first size that isn't this one
abbrev pub differing_size : ℕ → Option HeldSizes → Option ℕ
differing_size size None = None
differing_size size (Some held) = if held.first == size then held.other else Some held.first

abbrev pub first_size : Option HeldSizes → Option ℕ
first_size None = None
first_size (Some held) = Some held.first

-- its own, else the first of the device that holds it, else 4096
abbrev pub block_size_of : Option ℕ → Option HeldSizes → ℕ
block_size_of (Some own) held = own
block_size_of None (Some held) = unwrap_or held.block 4096
block_size_of None None = 4096

-- its blocks, else its region
abbrev pub volume_size : ℕ → Option ℕ → Option HeldSizes → Option ℕ
volume_size block (Some blocks) held = Some (capped (block * blocks))
volume_size block None held = first_size held

abbrev pub block_of : StatedVolume → Option HeldSizes → ℕ
block_of volume held = block_size_of volume.block_size held

abbrev pub size_of : StatedVolume → Option HeldSizes → Option ℕ
size_of volume held = volume_size (block_of volume held) volume.blocks held

-- `first != second`
abbrev pub unequal : ℕ → ℕ → List ℕ
unequal first second = decimal first ++ codes " != " ++ decimal second

-- a device has a base address and a size
abbrev pub check_is_stated : Place → Option ℕ → Option ℕ → Option Fault
check_is_stated at None size = Some (fault_of FDF_MISSING_KEY at (codes "BaseAddress"))
check_is_stated at (Some base) None = Some (fault_of FDF_MISSING_KEY at (codes "Size"))
check_is_stated at (Some base) (Some size) = None

abbrev pub part_unstated : FdfSection → Option Fault
part_unstated (Device device) = check_is_stated device.at device.base device.size
part_unstated stated = None

-- a volume has at most 0x10000000 bytes
abbrev pub size_fault : Place → Option ℕ → Option Fault
size_fault at (Some size) = if nat_le size size_limit then None
    else Some (fault_of SIZE_TOO_LARGE at (decimal size))
size_fault at None = None

-- a region holds the first volume of its name, so a volume whose name one above has stands in none
abbrev pub held_first : List HeldRegion → Bool → StatedVolume → Option HeldSizes
held_first regions again volume = if again then None else held_of regions volume

abbrev pub part_too_large : List HeldRegion → Bool → FdfSection → Option Fault
part_too_large regions again (Volume volume) =
    size_fault volume.at (size_of volume (held_first regions again volume))
part_too_large regions again stated = None

abbrev pub body_names : SectionBody → List (List ℕ)
body_names (body.Volume name) = name ∷ []
body_names body = []

abbrev pub place_list : Option ℕ → List ℕ
place_list None = []
place_list (Some place) = place ∷ []

abbrev pub section_nest : List (List ℕ) → SectionLine → List ℕ
section_nest names section =
    flat_map (λ name. place_list (place_of names name)) (body_names section.body)

abbrev pub item_nest : List (List ℕ) → FdfStatement → List ℕ
item_nest names (item.File file) = flat_map (section_nest names) file.sections
item_nest names item = []

-- the volumes that a volume holds, in the sections of its files
abbrev pub nest_in : List (List ℕ) → StatedVolume → List ℕ
nest_in names volume = flat_map (item_nest names) volume.items

abbrev pub nests_of : List FdfSection → List (List ℕ)
nests_of parts = map (nest_in (names_of parts)) (volumes_of parts)

abbrev pub loop_at : Option StatedVolume → Option Fault
loop_at None = None
loop_at (Some volume) = Some (fault_of VOLUME_LOOP volume.at volume.name)

abbrev pub loop_named : List StatedVolume → Option ℕ → Option Fault
loop_named volumes None = None
loop_named volumes (Some p) = loop_at (slice_get volumes p)

-- no volume holds itself
abbrev pub loop_fault : List FdfSection → Option Fault
loop_fault parts = loop_named (volumes_of parts) (first_loop (nests_of parts))

abbrev pub unknown : List (List ℕ) → Place → List ℕ → Option Fault
unknown names at name = if is_some (place_of names name)
    then None else Some (fault_of VOLUME_UNKNOWN at name)

abbrev pub content_unknown : List (List ℕ) → Place → Content → Option Fault
content_unknown names at (content.Volume name) = unknown names at name
content_unknown names at content = None

abbrev pub body_unknown : List (List ℕ) → Place → SectionBody → Option Fault
body_unknown names at (body.Volume name) = unknown names at name
body_unknown names at body = None

-- a name in a region or a section is that of a volume
abbrev pub row_unknown : List (List ℕ) → Row → Option Fault
row_unknown names (row.Content stated) = content_unknown names stated.at stated.content
row_unknown names (row.Section section) = body_unknown names section.at section.body
row_unknown names row = None

abbrev pub line_unknown : List (List ℕ) → LineRead → Option Fault
line_unknown names (Heads at scopes) = None
line_unknown names (Body rows) = first_fault (row_unknown names) rows

-- the blocks of a device are its size
abbrev pub device_blocks : Place → ℕ → Option ℕ → Option Fault
device_blocks at blocks (Some size) = if blocks == size then None
    else Some (fault_of BLOCKS_DIFFER at (unequal blocks size))
device_blocks at blocks None = None

-- another size than the first
abbrev pub check_equal_sizes : ℕ → Place → ℕ → Option ℕ → Option Fault
check_equal_sizes code at size (Some other) = Some (fault_of code at (unequal size other))
check_equal_sizes code at size None = None

-- a region's size is a whole number of blocks
abbrev pub whole_blocks : Place → ℕ → Option ℕ → Option Fault
whole_blocks at block (Some size) = if size % block == 0 then None
    else Some (fault_of BLOCKS_DIFFER at (unequal size (size - size % block)))
whole_blocks at block None = None

-- a volume's own size is that of each of its regions; without an own size its first region's counts
abbrev pub blocks_with : Place → Option HeldSizes → ℕ → Option ℕ → Option Fault
blocks_with at held block (Some blocks) =
    check_equal_sizes BLOCKS_DIFFER at (capped (block * blocks)) (differing_size (capped (block * blocks)) held)
blocks_with at held block None = whole_blocks at block (first_size held)

abbrev pub volume_blocks : StatedVolume → Option HeldSizes → Option Fault
volume_blocks volume held = blocks_with volume.at held (block_of volume held) volume.blocks

abbrev pub part_blocks : List HeldRegion → Bool → FdfSection → Option Fault
part_blocks regions again (Device device) = device_blocks device.at device.blocks device.size
part_blocks regions again (Volume volume) = volume_blocks volume (held_first regions again volume)
part_blocks regions again stated = None

abbrev pub two_sizes : Place → Option HeldSizes → Option Fault
two_sizes at None = None
two_sizes at (Some held) = check_equal_sizes VOLUME_TWO_SIZES at held.first held.other

-- the regions that hold a volume have one size
abbrev pub part_sizes : List HeldRegion → Bool → FdfSection → Option Fault
part_sizes regions again (Volume volume) = two_sizes volume.at (held_first regions again volume)
part_sizes regions again stated = None

-- the test of a part that is asked for
abbrev pub part_fault : RegionTest → List HeldRegion → Bool → FdfSection → Option Fault
part_fault TooLarge regions = part_too_large regions
part_fault Blocks regions = part_blocks regions
part_fault TwoSizes regions = part_sizes regions

-- a name with the kind of the thing that has it: D, F or R
abbrev pub part_key : FdfSection → Option (List ℕ)
part_key Settings = None
part_key (Device device) = Some (68 ∷ device.name)
part_key (Volume volume) = Some (70 ∷ volume.name)
part_key (Rule rule) = Some (82 ∷ rule.name)

abbrev pub named_twice : FdfSection → Option Fault
named_twice Settings = None
named_twice (Device device) = Some (fault_of FDF_REPEATED_NAME device.at device.name)
named_twice (Volume volume) = Some (fault_of FDF_REPEATED_NAME volume.at volume.name)
named_twice (Rule rule) = Some (fault_of FDF_REPEATED_NAME rule.rule.at rule.name)

-- a device, volume or rule whose name one above of its kind has
abbrev pub twin : Bool → FdfSection → Option Fault
twin again part = if again then named_twice part else None

abbrev pub is_again : List (List ℕ) → Option (List ℕ) → Bool
is_again above None = false
is_again above (Some key) = is_some (place_of above key)

abbrev pub above_with : List (List ℕ) → Option (List ℕ) → List (List ℕ)
above_with above None = above
above_with above (Some key) = above ++ key ∷ []

-- of each part whether one above of its kind has its name
unfoldable pub twin_marks : List FdfSection → List (List ℕ) → List Bool
twin_marks [] above = []
twin_marks (part ∷ parts) above =
    is_again above (part_key part) ∷ twin_marks parts (above_with above (part_key part))

-- the first fault of some parts, each with whether one above of its kind has its name
abbrev pub first_marked : (Bool → FdfSection → Option Fault) → List FdfSection → List Bool → Option Fault
first_marked fault [] marks = None
first_marked fault (part ∷ parts) [] = None
first_marked fault (part ∷ parts) (again ∷ marks) =
    or_else (fault again part) (first_marked fault parts marks)

-- the first fault of the whole
unfoldable pub whole_fault : List LineRead → List FdfSection → Option Fault
whole_fault lines parts =
    first_of (
    first_fault part_unstated parts
    ∷ first_marked (part_too_large (all_held parts)) parts (twin_marks parts [])
    ∷ loop_fault parts
    ∷ first_fault (line_unknown (names_of parts)) lines
    ∷ first_marked (part_blocks (all_held parts)) parts (twin_marks parts [])
    ∷ first_marked (part_sizes (all_held parts)) parts (twin_marks parts [])
    ∷ first_marked twin parts (twin_marks parts [])
    ∷ [])
