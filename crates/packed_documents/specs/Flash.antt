-- The encoding of flash descriptions: the fields of a record in order, and an enum as the number of
-- the variant, in the order of declaration, and its fields. The rule is this project's own.
use Rattle.std.specs.Prelude.{◌≡◌, ◌⊎◌, ℕ, List, refl}
use Rattle.std.proofs.Common.{inl, inr}
use Rattle.build_base.specs.declared.fault.Place.{Place}
use Rattle.doc_types.specs.declared.flash.DevicePlan.{DevicePlan}
use Rattle.doc_types.specs.declared.flash.FlashDoc.{FlashDoc}
use Rattle.doc_types.specs.declared.flash.Region.{Region}
use Rattle.doc_types.specs.declared.flash.RegionKind.{RegionKind}
use Rattle.doc_types.specs.declared.flash.RegionKind.TheVariants as region_kind
use Rattle.packed_values.specs.Encoding.{Encoding}
use Rattle.packed_values.specs.Plain.{byte_encoding, number_encoding, text_encoding, path_encoding}
use Rattle.packed_values.specs.Base.{place_encoding}
use Rattle.packed_values.specs.Parts.{encoding_by, pair_encoding, rows_encoding, triple_encoding}
use Rattle.packed_values.specs.Arms.{arm, last_arm, tagged_encoding, unit_encoding}
use Rattle.packed_documents.specs.Pcds.{pcd_set_encoding}
use Rattle.packed_documents.specs.Volume.{rule_doc_encoding, volume_plan_encoding}

abbrev pub RegionKindParts : Type 0
RegionKindParts = (Unit {0}) ⊎ ((List ℕ) ⊎ ((List ℕ) ⊎ ℕ))

abbrev pub region_kind_parts : RegionKind → RegionKindParts
region_kind_parts region_kind.Empty = inl tt
region_kind_parts (region_kind.Bytes text) = inr (inl text)
region_kind_parts (region_kind.Tree path) = inr (inr (inl path))
region_kind_parts (region_kind.Volume number) = inr (inr (inr number))

abbrev pub region_kind_of : RegionKindParts → RegionKind
region_kind_of (inl _) = region_kind.Empty
region_kind_of (inr (inl text)) = region_kind.Bytes text
region_kind_of (inr (inr (inl path))) = region_kind.Tree path
region_kind_of (inr (inr (inr number))) = region_kind.Volume number

pub region_kind_back : (x : RegionKind) → region_kind_of (region_kind_parts x) ≡ x
region_kind_back region_kind.Empty = refl
region_kind_back (region_kind.Bytes text) = refl
region_kind_back (region_kind.Tree path) = refl
region_kind_back (region_kind.Volume number) = refl

unfoldable pub region_kind_encoding : Encoding RegionKind
region_kind_encoding = encoding_by region_kind_parts region_kind_of region_kind_back
    (tagged_encoding
    (arm unit_encoding (arm text_encoding (arm path_encoding (last_arm (number_encoding 4))))))

unfoldable pub region_encoding : Encoding Region
region_encoding = encoding_by (λ x. (x.at, (x.offset, (x.size, x.kind))))
    (λ p. record { at = p.0; offset = p.1.0; size = p.1.1.0; kind = p.1.1.1 }) (λ x. refl)
    (pair_encoding place_encoding
    (pair_encoding (number_encoding 8) (pair_encoding (number_encoding 8) region_kind_encoding)))

abbrev pub device_plan_first : DevicePlan → Place × (List ℕ) × ℕ
device_plan_first x = (x.at, x.name, x.base)

unfoldable pub device_plan_first_encoding : Encoding (Place × (List ℕ) × ℕ)
device_plan_first_encoding = triple_encoding place_encoding text_encoding (number_encoding 8)

abbrev pub device_plan_second : DevicePlan → ℕ × ℕ × (List Region)
device_plan_second x = (x.size, x.erase, x.regions)

unfoldable pub device_plan_second_encoding : Encoding (ℕ × ℕ × (List Region))
device_plan_second_encoding = triple_encoding (number_encoding 8) byte_encoding
    (rows_encoding region_encoding)

abbrev pub device_plan_of : (Place × (List ℕ) × ℕ) × (ℕ × ℕ × (List Region)) → DevicePlan
device_plan_of p =
    record {
      at = p.0.0;
      name = p.0.1;
      base = p.0.2;
      size = p.1.0;
      erase = p.1.1;
      regions = p.1.2;
    }

unfoldable pub device_plan_encoding : Encoding DevicePlan
device_plan_encoding = encoding_by (λ x. (device_plan_first x, device_plan_second x))
    device_plan_of (λ x. refl)
    (pair_encoding device_plan_first_encoding device_plan_second_encoding)

unfoldable pub flash_doc_encoding : Encoding FlashDoc
flash_doc_encoding = encoding_by (λ x. (x.at, (x.sets, (x.devices, (x.volumes, x.rule_list)))))
    (λ p.
    record {
      at = p.0;
      sets = p.1.0;
      devices = p.1.1.0;
      volumes = p.1.1.1.0;
      rule_list =
          p.1.1.1.1;
    }) (λ x. refl)
    (pair_encoding place_encoding
    (pair_encoding (rows_encoding pcd_set_encoding)
    (pair_encoding (rows_encoding device_plan_encoding)
    (pair_encoding (rows_encoding volume_plan_encoding) (rows_encoding rule_doc_encoding)))))
