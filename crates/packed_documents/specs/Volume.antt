-- The encoding of volumes: the fields of a record in order, and an enum as the number of the
-- variant, in the order of declaration, and its fields. The rule is this project's own.
use Rattle.std.specs.Prelude.{◌≡◌, ◌⊎◌, ℕ, Bool, List, Option, refl}
use Rattle.std.proofs.Common.{inl, inr}
use Rattle.build_base.specs.declared.guid.Guid.{Guid}
use Rattle.build_base.specs.declared.fault.Place.{Place}
use Rattle.doc_types.specs.declared.volume.Align.{Align}
use Rattle.doc_types.specs.declared.arch.Arch.{Arch}
use Rattle.doc_types.specs.declared.volume.FilePlan.{FilePlan}
use Rattle.doc_types.specs.declared.volume.InfLine.{InfLine}
use Rattle.doc_types.specs.declared.volume.Item.{Item}
use Rattle.doc_types.specs.declared.volume.Member.{Member}
use Rattle.doc_types.specs.declared.volume.RuleDoc.{RuleDoc}
use Rattle.doc_types.specs.declared.volume.SectionPlan.{SectionPlan}
use Rattle.doc_types.specs.declared.volume.SectionSource.{SectionSource}
use Rattle.doc_types.specs.declared.volume_head.VolumeHead.{VolumeHead}
use Rattle.doc_types.specs.declared.volume.VolumePlan.{VolumePlan}
use Rattle.doc_types.specs.declared.volume.Align.TheVariants as align
use Rattle.doc_types.specs.declared.volume.SectionSource.TheVariants as section_source
use Rattle.doc_types.specs.declared.volume.Member.TheVariants as member
use Rattle.doc_types.specs.declared.volume.Item.TheVariants as item
use Rattle.packed_values.specs.Encoding.{Encoding}
use Rattle.packed_values.specs.Plain.{byte_encoding, number_encoding, bool_encoding, text_encoding, path_encoding, guid_encoding}
use Rattle.packed_values.specs.Base.{place_encoding}
use Rattle.packed_values.specs.Parts.{encoding_by, pair_encoding, option_encoding, rows_encoding, quadruple_encoding, triple_encoding}
use Rattle.packed_values.specs.Arms.{arm, last_arm, tagged_encoding, unit_encoding}
use Rattle.packed_documents.specs.Words.{arch_encoding, module_type_encoding}

abbrev pub AlignParts : Type 0
AlignParts = (Unit {0}) ⊎ ((Unit {0}) ⊎ ℕ)

abbrev pub align_parts : Align → AlignParts
align_parts align.Unset = inl tt
align_parts align.Auto = inr (inl tt)
align_parts (align.Bytes bytes) = inr (inr bytes)

abbrev pub align_of : AlignParts → Align
align_of (inl _) = align.Unset
align_of (inr (inl _)) = align.Auto
align_of (inr (inr bytes)) = align.Bytes bytes

pub align_back : (x : Align) → align_of (align_parts x) ≡ x
align_back align.Unset = refl
align_back align.Auto = refl
align_back (align.Bytes bytes) = refl

unfoldable pub align_encoding : Encoding Align
align_encoding = encoding_by align_parts align_of align_back
    (tagged_encoding (arm unit_encoding (arm unit_encoding (last_arm (number_encoding 4)))))

abbrev pub SectionSourceParts : Type 0
SectionSourceParts = (List ℕ) ⊎ ((List ℕ) ⊎ (ℕ ⊎ ((List ℕ) ⊎ (List ℕ))))

abbrev pub section_source_parts : SectionSource → SectionSourceParts
section_source_parts (section_source.Tree path) = inl path
section_source_parts (section_source.Template text) = inr (inl text)
section_source_parts (section_source.Volume number) = inr (inr (inl number))
section_source_parts (section_source.Words text) = inr (inr (inr (inl text)))
section_source_parts (section_source.Refused text) = inr (inr (inr (inr text)))

abbrev pub section_source_of : SectionSourceParts → SectionSource
section_source_of (inl path) = section_source.Tree path
section_source_of (inr (inl text)) = section_source.Template text
section_source_of (inr (inr (inl number))) = section_source.Volume number
section_source_of (inr (inr (inr (inl text)))) = section_source.Words text
section_source_of (inr (inr (inr (inr text)))) = section_source.Refused text

pub section_source_back : (x : SectionSource) → section_source_of (section_source_parts x) ≡ x
section_source_back (section_source.Tree path) = refl
section_source_back (section_source.Template text) = refl
section_source_back (section_source.Volume number) = refl
section_source_back (section_source.Words text) = refl
section_source_back (section_source.Refused text) = refl

unfoldable pub section_source_encoding : Encoding SectionSource
section_source_encoding = encoding_by section_source_parts section_source_of section_source_back
    (tagged_encoding
    (arm path_encoding
    (arm text_encoding (arm (number_encoding 4) (arm text_encoding (last_arm text_encoding))))))

abbrev pub section_plan_first : SectionPlan → Place × ℕ × Bool × Align
section_plan_first x = (x.at, x.kind, x.optional, x.align)

unfoldable pub section_plan_first_encoding : Encoding (Place × ℕ × Bool × Align)
section_plan_first_encoding = quadruple_encoding place_encoding byte_encoding bool_encoding
    align_encoding

abbrev pub section_plan_second : SectionPlan → ℕ × (Option Guid) × SectionSource
section_plan_second x = (x.number, x.guid, x.source)

unfoldable pub section_plan_second_encoding : Encoding (ℕ × (Option Guid) × SectionSource)
section_plan_second_encoding = triple_encoding (number_encoding 2) (option_encoding guid_encoding)
    section_source_encoding

abbrev pub section_plan_of : (Place × ℕ × Bool × Align) × (ℕ × (Option Guid) × SectionSource)
    → SectionPlan
section_plan_of p =
    record {
      at = p.0.0;
      kind = p.0.1;
      optional = p.0.2;
      align = p.0.3;
      number = p.1.0;
      guid = p.1.1;
      source = p.1.2;
    }

unfoldable pub section_plan_encoding : Encoding SectionPlan
section_plan_encoding = encoding_by (λ x. (section_plan_first x, section_plan_second x))
    section_plan_of (λ x. refl)
    (pair_encoding section_plan_first_encoding section_plan_second_encoding)

abbrev pub file_plan_first : FilePlan → Place × ℕ × (Option Guid) × Bool
file_plan_first x = (x.at, x.file_type, x.guid, x.fixed)

unfoldable pub file_plan_first_encoding : Encoding (Place × ℕ × (Option Guid) × Bool)
file_plan_first_encoding = quadruple_encoding place_encoding byte_encoding
    (option_encoding guid_encoding) bool_encoding

abbrev pub file_plan_second : FilePlan → Bool × Align × (Option (List ℕ)) × (List SectionPlan)
file_plan_second x = (x.checksum, x.align, x.whole, x.sections)

unfoldable pub file_plan_second_encoding : Encoding
    (Bool × Align × (Option (List ℕ)) × (List SectionPlan))
file_plan_second_encoding = quadruple_encoding bool_encoding align_encoding
    (option_encoding path_encoding)
    (rows_encoding section_plan_encoding)

abbrev pub file_plan_of : (Place × ℕ × (Option Guid) × Bool)
    × (Bool × Align × (Option (List ℕ)) × (List SectionPlan)) → FilePlan
file_plan_of p =
    record {
      at = p.0.0;
      file_type = p.0.1;
      guid = p.0.2;
      fixed = p.0.3;
      checksum = p.1.0;
      align = p.1.1;
      whole = p.1.2;
      sections = p.1.3;
    }

unfoldable pub file_plan_encoding : Encoding FilePlan
file_plan_encoding = encoding_by (λ x. (file_plan_first x, file_plan_second x))
    file_plan_of (λ x. refl)
    (pair_encoding file_plan_first_encoding file_plan_second_encoding)

abbrev pub inf_line_first : InfLine → Place × (List ℕ) × (Option Arch)
inf_line_first x = (x.at, x.inf, x.arch)

unfoldable pub inf_line_first_encoding : Encoding (Place × (List ℕ) × (Option Arch))
inf_line_first_encoding = triple_encoding place_encoding path_encoding
    (option_encoding arch_encoding)

abbrev pub inf_line_second : InfLine → (List ℕ) × (Option (List ℕ)) × (Option (List ℕ))
inf_line_second x = (x.template, x.version, x.ui)

unfoldable pub inf_line_second_encoding : Encoding
    ((List ℕ) × (Option (List ℕ)) × (Option (List ℕ)))
inf_line_second_encoding = triple_encoding text_encoding (option_encoding text_encoding)
    (option_encoding text_encoding)

abbrev pub inf_line_of : (Place × (List ℕ) × (Option Arch))
    × ((List ℕ) × (Option (List ℕ)) × (Option (List ℕ))) → InfLine
inf_line_of p =
    record {
      at = p.0.0;
      inf = p.0.1;
      arch = p.0.2;
      template = p.1.0;
      version = p.1.1;
      ui = p.1.2;
    }

unfoldable pub inf_line_encoding : Encoding InfLine
inf_line_encoding = encoding_by (λ x. (inf_line_first x, inf_line_second x))
    inf_line_of (λ x. refl)
    (pair_encoding inf_line_first_encoding inf_line_second_encoding)

abbrev pub MemberParts : Type 0
MemberParts = InfLine ⊎ Guid

abbrev pub member_parts : Member → MemberParts
member_parts (member.Inf line) = inl line
member_parts (member.File guid) = inr guid

abbrev pub member_of : MemberParts → Member
member_of (inl line) = member.Inf line
member_of (inr guid) = member.File guid

pub member_back : (x : Member) → member_of (member_parts x) ≡ x
member_back (member.Inf line) = refl
member_back (member.File guid) = refl

unfoldable pub member_encoding : Encoding Member
member_encoding = encoding_by member_parts member_of member_back
    (tagged_encoding (arm inf_line_encoding (last_arm guid_encoding)))

abbrev pub ItemParts : Type 0
ItemParts = (Place × (Bool × (List Member))) ⊎ (FilePlan ⊎ InfLine)

abbrev pub item_parts : Item → ItemParts
item_parts (item.Apriori at pei members) = inl (at, (pei, members))
item_parts (item.File file) = inr (inl file)
item_parts (item.Inf line) = inr (inr line)

abbrev pub item_of : ItemParts → Item
item_of (inl p) = item.Apriori p.0 p.1.0 p.1.1
item_of (inr (inl file)) = item.File file
item_of (inr (inr line)) = item.Inf line

pub item_back : (x : Item) → item_of (item_parts x) ≡ x
item_back (item.Apriori at pei members) = refl
item_back (item.File file) = refl
item_back (item.Inf line) = refl

unfoldable pub item_encoding : Encoding Item
item_encoding = encoding_by item_parts item_of item_back
    (tagged_encoding
    (arm (pair_encoding place_encoding
    (pair_encoding bool_encoding (rows_encoding member_encoding)))
    (arm file_plan_encoding (last_arm inf_line_encoding))))

unfoldable pub rule_doc_encoding : Encoding RuleDoc
rule_doc_encoding = encoding_by (λ x. (x.at, (x.arch, (x.module_type, (x.template, x.file)))))
    (λ p.
    record {
      at = p.0;
      arch = p.1.0;
      module_type = p.1.1.0;
      template = p.1.1.1.0;
      file =
          p.1.1.1.1;
    }) (λ x. refl)
    (pair_encoding place_encoding
    (pair_encoding arch_encoding
    (pair_encoding module_type_encoding (pair_encoding text_encoding file_plan_encoding))))

abbrev pub volume_head_first : VolumeHead → Place × (List ℕ) × ℕ × ℕ
volume_head_first x = (x.at, x.name, x.attributes, x.erase)

unfoldable pub volume_head_first_encoding : Encoding (Place × (List ℕ) × ℕ × ℕ)
volume_head_first_encoding = quadruple_encoding place_encoding text_encoding (number_encoding 4)
    byte_encoding

abbrev pub volume_head_second : VolumeHead → ℕ × (Option ℕ) × (Option Guid)
volume_head_second x = (x.block_size, x.size, x.name_guid)

unfoldable pub volume_head_second_encoding : Encoding (ℕ × (Option ℕ) × (Option Guid))
volume_head_second_encoding = triple_encoding (number_encoding 8)
    (option_encoding (number_encoding 8))
    (option_encoding guid_encoding)

abbrev pub volume_head_third : VolumeHead → (Option ℕ) × Bool × Bool
volume_head_third x = (x.base, x.force, x.ffs3)

unfoldable pub volume_head_third_encoding : Encoding ((Option ℕ) × Bool × Bool)
volume_head_third_encoding = triple_encoding (option_encoding (number_encoding 8)) bool_encoding
    bool_encoding

abbrev pub volume_head_of : (Place × (List ℕ) × ℕ × ℕ) × (ℕ × (Option ℕ) × (Option Guid))
    × ((Option ℕ) × Bool × Bool) → VolumeHead
volume_head_of p =
    record {
      at = p.0.0;
      name = p.0.1;
      attributes = p.0.2;
      erase = p.0.3;
      block_size = p.1.0;
      size = p.1.1;
      name_guid = p.1.2;
      base = p.2.0;
      force = p.2.1;
      ffs3 = p.2.2;
    }

unfoldable pub volume_head_encoding : Encoding VolumeHead
volume_head_encoding = encoding_by
    (λ x. (volume_head_first x, volume_head_second x, volume_head_third x))
    volume_head_of (λ x. refl)
    (triple_encoding volume_head_first_encoding volume_head_second_encoding
    volume_head_third_encoding)

unfoldable pub volume_plan_encoding : Encoding VolumePlan
volume_plan_encoding = encoding_by (λ x. (x.head, x.items))
    (λ p. record { head = p.0; items = p.1 }) (λ x. refl)
    (pair_encoding volume_head_encoding (rows_encoding item_encoding))
