-- The document of a flash description (EDK II FDF specification; UEFI PI specification, volume 3).
use Rattle.std.specs.Prelude.{ℕ, ◌*◌, ◌^◌, false, nat_lt, ◌==◌, if◌then◌else◌, List, [], ◌∷◌, map, get_or, Option, Some, None, unwrap_or, slice_get, bit_or, Result}
use Rattle.std.specs.List.{flat_map, find, range_with_len}
use Rattle.std.specs.Option.{option_map}
use Rattle.std.proofs.Common.{Bor}
use Rattle.build_base.specs.First.{unless}
use Rattle.build_base.specs.declared.fault.Fault.{Fault}
use Rattle.doc_types.specs.declared.flash.FlashDoc.{FlashDoc}
use Rattle.doc_types.specs.declared.flash.DevicePlan.{DevicePlan}
use Rattle.doc_types.specs.declared.flash.Region.{Region}
use Rattle.doc_types.specs.declared.flash.RegionKind.{RegionKind}
use Rattle.doc_types.specs.declared.flash.RegionKind.TheVariants as kind
use Rattle.doc_types.specs.declared.volume.FilePlan.{FilePlan}
use Rattle.doc_types.specs.declared.volume.Item.{Item}
use Rattle.doc_types.specs.declared.volume.Item.TheVariants as item
use Rattle.doc_types.specs.declared.volume.RuleDoc.{RuleDoc}
use Rattle.doc_types.specs.declared.volume.SectionPlan.{SectionPlan}
use Rattle.doc_types.specs.declared.volume.SectionSource.{SectionSource}
use Rattle.doc_types.specs.declared.volume.SectionSource.TheVariants as source
use Rattle.doc_types.specs.declared.volume.VolumePlan.{VolumePlan}
use Rattle.doc_types.specs.declared.volume_head.VolumeHead.{VolumeHead}
use Rattle.fdf_words.specs.declared.rows.Content.{Content}
use Rattle.fdf_words.specs.declared.rows.Content.TheVariants as content
use Rattle.fdf_words.specs.declared.rows.LineRead.{LineRead}
use Rattle.fdf_words.specs.declared.rows.RegionContent.{RegionContent}
use Rattle.fdf_words.specs.declared.rows.SectionBody.{SectionBody}
use Rattle.fdf_words.specs.declared.rows.SectionBody.TheVariants as body
use Rattle.fdf_words.specs.declared.rows.SectionLine.{SectionLine}
use Rattle.flash_document.specs.declared.held.HeldRegion.{HeldRegion}
use Rattle.flash_document.specs.declared.held.HeldSizes.{HeldSizes}
use Rattle.flash_document.specs.declared.stated.FdfSection.{FdfSection}
use Rattle.flash_document.specs.declared.stated.FdfSection.TheVariants.{Device, Rule}
use Rattle.flash_document.specs.declared.stated.StatedDevice.{StatedDevice}
use Rattle.flash_document.specs.declared.stated.StatedFile.{StatedFile}
use Rattle.flash_document.specs.declared.stated.FdfStatement.{FdfStatement}
use Rattle.flash_document.specs.declared.stated.FdfStatement.TheVariants as stated_item
use Rattle.flash_document.specs.declared.stated.StatedRegion.{StatedRegion}
use Rattle.flash_document.specs.declared.stated.StatedVolume.{StatedVolume}
use Rattle.flash_document.specs.Names.{place_of}
use Rattle.volume_nesting.specs.Numbering.{topological_order}
use Rattle.flash_document.specs.Parts.{all_stated}
use Rattle.flash_document.specs.Sets.{all_sets}
use Rattle.flash_document.specs.Whole.{volumes_of, names_of, nests_of, all_held, held_of, block_of, size_of, whole_fault}

-- the volumes, told by their places in the file, in the order of their numbers
abbrev pub numbered : List FdfSection → List ℕ
numbered parts = topological_order (nests_of parts)

-- their names
abbrev pub ordered_names : List FdfSection → List (List ℕ)
ordered_names parts = map (λ p. get_or (names_of parts) p []) (numbered parts)

abbrev pub kind_numbered : Option ℕ → RegionKind
kind_numbered (Some n) = kind.Volume n
kind_numbered None = kind.Empty

abbrev pub content_kind : List (List ℕ) → Content → RegionKind
content_kind names (content.Volume name) = kind_numbered (place_of names name)
content_kind names (content.Tree path) = kind.Tree path
content_kind names (content.Bytes bytes) = kind.Bytes bytes

abbrev pub region_kind : List (List ℕ) → Option RegionContent → RegionKind
region_kind names None = kind.Empty
region_kind names (Some stated) = content_kind names stated.content

abbrev pub region_plan : List (List ℕ) → StatedRegion → Region
region_plan names region =
    record {
      at = region.at;
      offset = region.offset;
      size = region.size;
      kind =
          region_kind names region.content;
    }

-- polarity 1 where none is stated
abbrev pub polarity_of : Option ℕ → ℕ
polarity_of stated = if unwrap_or stated 1 == 0 then 0 else 1

abbrev pub device_plan : List (List ℕ) → StatedDevice → DevicePlan
device_plan names device = record {
  at = device.at;
  name = device.name;
  base = unwrap_or device.base 0;
  size = unwrap_or device.size 0;
  erase = polarity_of device.erase;
  regions = map (region_plan names) device.regions;
}

abbrev pub part_device : List (List ℕ) → FdfSection → List DevicePlan
part_device names (Device device) = device_plan names device ∷ []
part_device names stated = []

abbrev pub part_rule : FdfSection → List RuleDoc
part_rule (Rule rule) = rule.rule ∷ []
part_rule stated = []

abbrev pub body_source : List (List ℕ) → SectionBody → SectionSource
body_source names (body.Tree path) = source.Tree path
body_source names (body.Volume name) = source.Volume (unwrap_or (place_of names name) 0)
body_source names (body.Words text) = source.Words text

abbrev pub section_plan : List (List ℕ) → SectionLine → SectionPlan
section_plan names section = record {
  at = section.at;
  kind = section.kind;
  optional = false;
  align = section.align;
  number = 0;
  guid = section.guid;
  source = body_source names section.body;
}

abbrev pub file_plan : List (List ℕ) → StatedFile → FilePlan
file_plan names file = record {
  at = file.head.at;
  file_type = file.head.file_type;
  guid = file.head.guid;
  fixed = file.head.fixed;
  checksum = file.head.checksum;
  align = file.head.align;
  whole = file.whole;
  sections = map (section_plan names) file.sections;
}

abbrev pub item_plan : List (List ℕ) → FdfStatement → Item
item_plan names (stated_item.Apriori at pei members) = item.Apriori at pei members
item_plan names (stated_item.File file) = item.File (file_plan names file)
item_plan names (stated_item.Inf line) = item.Inf line

-- the number e with 2^e <= n < 2^(e + 1)
unfoldable pub exponent : ℕ → ℕ
exponent n = unwrap_or (find (λ e. nat_lt n (2 * 2 ^ e)) (range_with_len 0 64)) 0

-- EFI_FVB2_ERASE_POLARITY where erased bytes are 0xFF
abbrev pub erase_flag : ℕ → ℕ
erase_flag erase = if erase == 0 then 0 else 2048

-- those that are stated, the erase polarity, and in bits 16 to 20 the exponent of the alignment
abbrev pub attributes_of : StatedVolume → ℕ
attributes_of volume = bit_or (bit_or volume.flags (erase_flag (polarity_of volume.erase)))
    (exponent (unwrap_or volume.alignment 1) * 65536)

abbrev pub head_plan : StatedVolume → Option HeldSizes → VolumeHead
head_plan volume held = record {
  at = volume.at;
  name = volume.name;
  attributes = attributes_of volume;
  erase = polarity_of volume.erase;
  block_size = block_of volume held;
  size = size_of volume held;
  name_guid = volume.name_guid;
  base = volume.base;
  force = volume.force;
  ffs3 = volume.ffs3;
}

abbrev pub volume_plan : List (List ℕ) → List HeldRegion → StatedVolume → VolumePlan
volume_plan names regions volume =
    record {
      head = head_plan volume (held_of regions volume);
      items =
          map (item_plan names) volume.items;
    }

abbrev pub plan_at : List (List ℕ) → List HeldRegion → Option StatedVolume → List VolumePlan
plan_at names regions None = []
plan_at names regions (Some volume) = volume_plan names regions volume ∷ []

-- the plan of the volume of a place, among volumes that are lent
unfoldable pub plan_in : List (List ℕ) → List HeldRegion → List (Bor StatedVolume) → ℕ
    → List VolumePlan
plan_in names regions volumes p =
    plan_at names regions (option_map (λ v. v.now) (slice_get volumes p))

-- the volumes in the order of their numbers
abbrev pub volume_plans : List FdfSection → List VolumePlan
volume_plans parts =
    flat_map (λ p. plan_at (ordered_names parts) (all_held parts) (slice_get (volumes_of parts) p))
    (numbered parts)

unfoldable pub document_of : List ℕ → List LineRead → List FdfSection → FlashDoc
document_of root lines parts = record {
  at = record { path = root; line = 0 };
  sets = all_sets lines;
  devices = flat_map (part_device (ordered_names parts)) parts;
  volumes = volume_plans parts;
  rule_list = flat_map part_rule parts;
}

-- the first fault of the whole, else the document
unfoldable pub flash_of_lines : List ℕ → List LineRead → Result FlashDoc Fault
flash_of_lines root lines = unless (whole_fault lines (all_stated lines))
    (document_of root lines (all_stated lines))
