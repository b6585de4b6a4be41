-- The codes of faults that have names.
use Rattle.std.proofs.Common.{refl}
use Rattle.build_base.specs.FaultNames.{name_in_table, fault_name}
use Rattle.build_base.specs.FaultCodes.{ALIGNMENTS_DIFFER, ALIGNMENT_REFUSED, ARCH_AMBIGUOUS, ARCH_UNSUPPORTED, AUTOGEN_GUID_UNKNOWN, BAD_ARCH, BAD_BYTE, BAD_CLASS_LINE, BAD_COMPONENT, BAD_DIRECTIVE, BAD_EXPRESSION, BAD_INF_LINE, BAD_KEY, BAD_LIBRARY_LINE, BAD_NAME, BAD_NUMBER, BAD_PATH, BAD_PCD_NAME, BAD_PLACE, BAD_REGION, BAD_RULE, BAD_SECTION, BAD_SKU_LINE, BAD_TERM, BAD_TOKEN, BAD_TYPE, BAD_VALUE, BASE_RANGE, BLOCKS_DIFFER, CLASS_NOT_SERVED, CLASS_UNRESOLVED, COMPRESSED_REFUSED, CONSTRUCTOR_LOOP, DATA_TOO_LONG, DATUM_CONFLICT, DEC_BAD_GUID, DEC_BAD_PCD_LINE, DEC_MISSING_KEY, DEC_REPEATED_NAME, DEC_UNKNOWN_SECTION, DEPEX_GUID_UNKNOWN, DOES_NOT_FIT, DSC_BAD_GUID, DSC_BAD_PCD_LINE, DSC_MISSING_KEY, DSC_UNKNOWN_SECTION, DUPLICATE_COMPONENT, DYNAMIC_IN_COMPONENT, FDF_BAD_FILE, FDF_BAD_GUID, FDF_MISSING_KEY, FDF_REPEATED_NAME, FILE_ABSENT, FILE_TOO_LONG, HEADER_TOO_LONG, IMAGE_FILE_TOO_LONG, IMAGE_UNKNOWN, INCLUDE_ABSENT, INCLUDE_LOOP, INCLUDE_TOO_DEEP, INF_BAD_GUID, INF_MISSING_KEY, INF_UNKNOWN_SECTION, KIND_ASKED, KIND_CONFLICT, LINE_TOO_LONG, NOT_A_COMPONENT, NOT_DECLARED, NOT_IN_PLACE, NOT_PE, OPEN_QUOTE, PAD_TOO_LONG, REGION_ORDER, REGION_OUTSIDE, RELOC_BLOCK, RELOC_OUTSIDE, RELOC_TYPE, RULE_ABSENT, RULE_LINE_REFUSED, SECTION_ABSENT, SECTION_TOO_LONG, SIZE_TOO_LARGE, SKU_LOOP, SKU_ON_FIXED, SKU_UNKNOWN, STATEMENT_REFUSED, SUBSYSTEM_TOO_LARGE, TEXT_TOO_LONG, TOO_DEEP, TOO_MANY, TOO_MANY_INSTANCES, TOO_MANY_MACROS, TOO_MANY_SECTIONS, TOP_FILE_TWICE, TOP_FILE_UNALIGNED, TRUNCATED, TYPE_NOT_SERVED, UNBALANCED, UNDEFINED_MACRO, VALUE_RANGE, VOLUME_FULL, VOLUME_LOOP, VOLUME_TWO_SIZES, VOLUME_UNKNOWN, VPD_OVERLAP, VPD_TOO_LONG, ZERO_DIVISOR}
use Rattle.named_faults.specs.Named.{IsNameCode}

pub bad_path_named : IsNameCode BAD_PATH
unfolding fault_name name_in_table
bad_path_named = refl

pub file_too_long_named : IsNameCode FILE_TOO_LONG
unfolding fault_name name_in_table
file_too_long_named = refl

pub file_absent_named : IsNameCode FILE_ABSENT
unfolding fault_name name_in_table
file_absent_named = refl

pub bad_byte_named : IsNameCode BAD_BYTE
unfolding fault_name name_in_table
bad_byte_named = refl

pub open_quote_named : IsNameCode OPEN_QUOTE
unfolding fault_name name_in_table
open_quote_named = refl

pub line_too_long_named : IsNameCode LINE_TOO_LONG
unfolding fault_name name_in_table
line_too_long_named = refl

pub bad_number_named : IsNameCode BAD_NUMBER
unfolding fault_name name_in_table
bad_number_named = refl

pub bad_section_named : IsNameCode BAD_SECTION
unfolding fault_name name_in_table
bad_section_named = refl

pub unbalanced_named : IsNameCode UNBALANCED
unfolding fault_name name_in_table
unbalanced_named = refl

pub include_absent_named : IsNameCode INCLUDE_ABSENT
unfolding fault_name name_in_table
include_absent_named = refl

pub include_too_deep_named : IsNameCode INCLUDE_TOO_DEEP
unfolding fault_name name_in_table
include_too_deep_named = refl

pub include_loop_named : IsNameCode INCLUDE_LOOP
unfolding fault_name name_in_table
include_loop_named = refl

pub bad_expression_named : IsNameCode BAD_EXPRESSION
unfolding fault_name name_in_table
bad_expression_named = refl

pub value_range_named : IsNameCode VALUE_RANGE
unfolding fault_name name_in_table
value_range_named = refl

pub zero_divisor_named : IsNameCode ZERO_DIVISOR
unfolding fault_name name_in_table
zero_divisor_named = refl

pub undefined_macro_named : IsNameCode UNDEFINED_MACRO
unfolding fault_name name_in_table
undefined_macro_named = refl

pub too_many_macros_named : IsNameCode TOO_MANY_MACROS
unfolding fault_name name_in_table
too_many_macros_named = refl

pub bad_directive_named : IsNameCode BAD_DIRECTIVE
unfolding fault_name name_in_table
bad_directive_named = refl

pub dec_missing_key_named : IsNameCode DEC_MISSING_KEY
unfolding fault_name name_in_table
dec_missing_key_named = refl

pub dec_bad_guid_named : IsNameCode DEC_BAD_GUID
unfolding fault_name name_in_table
dec_bad_guid_named = refl

pub dec_bad_pcd_line_named : IsNameCode DEC_BAD_PCD_LINE
unfolding fault_name name_in_table
dec_bad_pcd_line_named = refl

pub dec_repeated_name_named : IsNameCode DEC_REPEATED_NAME
unfolding fault_name name_in_table
dec_repeated_name_named = refl

pub bad_token_named : IsNameCode BAD_TOKEN
unfolding fault_name name_in_table
bad_token_named = refl

pub dec_unknown_section_named : IsNameCode DEC_UNKNOWN_SECTION
unfolding fault_name name_in_table
dec_unknown_section_named = refl

pub inf_missing_key_named : IsNameCode INF_MISSING_KEY
unfolding fault_name name_in_table
inf_missing_key_named = refl

pub inf_bad_guid_named : IsNameCode INF_BAD_GUID
unfolding fault_name name_in_table
inf_bad_guid_named = refl

pub bad_type_named : IsNameCode BAD_TYPE
unfolding fault_name name_in_table
bad_type_named = refl

pub bad_class_line_named : IsNameCode BAD_CLASS_LINE
unfolding fault_name name_in_table
bad_class_line_named = refl

pub bad_pcd_name_named : IsNameCode BAD_PCD_NAME
unfolding fault_name name_in_table
bad_pcd_name_named = refl

pub bad_name_named : IsNameCode BAD_NAME
unfolding fault_name name_in_table
bad_name_named = refl

pub inf_unknown_section_named : IsNameCode INF_UNKNOWN_SECTION
unfolding fault_name name_in_table
inf_unknown_section_named = refl

pub dsc_missing_key_named : IsNameCode DSC_MISSING_KEY
unfolding fault_name name_in_table
dsc_missing_key_named = refl

pub dsc_bad_guid_named : IsNameCode DSC_BAD_GUID
unfolding fault_name name_in_table
dsc_bad_guid_named = refl

pub bad_library_line_named : IsNameCode BAD_LIBRARY_LINE
unfolding fault_name name_in_table
bad_library_line_named = refl

pub bad_component_named : IsNameCode BAD_COMPONENT
unfolding fault_name name_in_table
bad_component_named = refl

pub dsc_bad_pcd_line_named : IsNameCode DSC_BAD_PCD_LINE
unfolding fault_name name_in_table
dsc_bad_pcd_line_named = refl

pub dsc_unknown_section_named : IsNameCode DSC_UNKNOWN_SECTION
unfolding fault_name name_in_table
dsc_unknown_section_named = refl

pub bad_arch_named : IsNameCode BAD_ARCH
unfolding fault_name name_in_table
bad_arch_named = refl

pub duplicate_component_named : IsNameCode DUPLICATE_COMPONENT
unfolding fault_name name_in_table
duplicate_component_named = refl

pub sku_unknown_named : IsNameCode SKU_UNKNOWN
unfolding fault_name name_in_table
sku_unknown_named = refl

pub sku_loop_named : IsNameCode SKU_LOOP
unfolding fault_name name_in_table
sku_loop_named = refl

pub bad_sku_line_named : IsNameCode BAD_SKU_LINE
unfolding fault_name name_in_table
bad_sku_line_named = refl

pub arch_unsupported_named : IsNameCode ARCH_UNSUPPORTED
unfolding fault_name name_in_table
arch_unsupported_named = refl

pub bad_key_named : IsNameCode BAD_KEY
unfolding fault_name name_in_table
bad_key_named = refl

pub fdf_missing_key_named : IsNameCode FDF_MISSING_KEY
unfolding fault_name name_in_table
fdf_missing_key_named = refl

pub statement_refused_named : IsNameCode STATEMENT_REFUSED
unfolding fault_name name_in_table
statement_refused_named = refl

pub bad_region_named : IsNameCode BAD_REGION
unfolding fault_name name_in_table
bad_region_named = refl

pub fdf_bad_file_named : IsNameCode FDF_BAD_FILE
unfolding fault_name name_in_table
fdf_bad_file_named = refl

pub bad_rule_named : IsNameCode BAD_RULE
unfolding fault_name name_in_table
bad_rule_named = refl

pub bad_inf_line_named : IsNameCode BAD_INF_LINE
unfolding fault_name name_in_table
bad_inf_line_named = refl

pub size_too_large_named : IsNameCode SIZE_TOO_LARGE
unfolding fault_name name_in_table
size_too_large_named = refl

pub volume_loop_named : IsNameCode VOLUME_LOOP
unfolding fault_name name_in_table
volume_loop_named = refl

pub volume_unknown_named : IsNameCode VOLUME_UNKNOWN
unfolding fault_name name_in_table
volume_unknown_named = refl

pub compressed_refused_named : IsNameCode COMPRESSED_REFUSED
unfolding fault_name name_in_table
compressed_refused_named = refl

pub rule_absent_named : IsNameCode RULE_ABSENT
unfolding fault_name name_in_table
rule_absent_named = refl

pub arch_ambiguous_named : IsNameCode ARCH_AMBIGUOUS
unfolding fault_name name_in_table
arch_ambiguous_named = refl

pub blocks_differ_named : IsNameCode BLOCKS_DIFFER
unfolding fault_name name_in_table
blocks_differ_named = refl

pub volume_two_sizes_named : IsNameCode VOLUME_TWO_SIZES
unfolding fault_name name_in_table
volume_two_sizes_named = refl

pub rule_line_refused_named : IsNameCode RULE_LINE_REFUSED
unfolding fault_name name_in_table
rule_line_refused_named = refl

pub section_absent_named : IsNameCode SECTION_ABSENT
unfolding fault_name name_in_table
section_absent_named = refl

pub not_a_component_named : IsNameCode NOT_A_COMPONENT
unfolding fault_name name_in_table
not_a_component_named = refl

pub image_unknown_named : IsNameCode IMAGE_UNKNOWN
unfolding fault_name name_in_table
image_unknown_named = refl

pub fdf_repeated_name_named : IsNameCode FDF_REPEATED_NAME
unfolding fault_name name_in_table
fdf_repeated_name_named = refl

pub fdf_bad_guid_named : IsNameCode FDF_BAD_GUID
unfolding fault_name name_in_table
fdf_bad_guid_named = refl

pub too_many_named : IsNameCode TOO_MANY
unfolding fault_name name_in_table
too_many_named = refl

pub class_unresolved_named : IsNameCode CLASS_UNRESOLVED
unfolding fault_name name_in_table
class_unresolved_named = refl

pub type_not_served_named : IsNameCode TYPE_NOT_SERVED
unfolding fault_name name_in_table
type_not_served_named = refl

pub class_not_served_named : IsNameCode CLASS_NOT_SERVED
unfolding fault_name name_in_table
class_not_served_named = refl

pub constructor_loop_named : IsNameCode CONSTRUCTOR_LOOP
unfolding fault_name name_in_table
constructor_loop_named = refl

pub too_many_instances_named : IsNameCode TOO_MANY_INSTANCES
unfolding fault_name name_in_table
too_many_instances_named = refl

pub bad_value_named : IsNameCode BAD_VALUE
unfolding fault_name name_in_table
bad_value_named = refl

pub does_not_fit_named : IsNameCode DOES_NOT_FIT
unfolding fault_name name_in_table
does_not_fit_named = refl

pub text_too_long_named : IsNameCode TEXT_TOO_LONG
unfolding fault_name name_in_table
text_too_long_named = refl

pub not_declared_named : IsNameCode NOT_DECLARED
unfolding fault_name name_in_table
not_declared_named = refl

pub kind_conflict_named : IsNameCode KIND_CONFLICT
unfolding fault_name name_in_table
kind_conflict_named = refl

pub kind_asked_named : IsNameCode KIND_ASKED
unfolding fault_name name_in_table
kind_asked_named = refl

pub datum_conflict_named : IsNameCode DATUM_CONFLICT
unfolding fault_name name_in_table
datum_conflict_named = refl

pub dynamic_in_component_named : IsNameCode DYNAMIC_IN_COMPONENT
unfolding fault_name name_in_table
dynamic_in_component_named = refl

pub sku_on_fixed_named : IsNameCode SKU_ON_FIXED
unfolding fault_name name_in_table
sku_on_fixed_named = refl

pub bad_term_named : IsNameCode BAD_TERM
unfolding fault_name name_in_table
bad_term_named = refl

pub depex_guid_unknown_named : IsNameCode DEPEX_GUID_UNKNOWN
unfolding fault_name name_in_table
depex_guid_unknown_named = refl

pub bad_place_named : IsNameCode BAD_PLACE
unfolding fault_name name_in_table
bad_place_named = refl

pub too_deep_named : IsNameCode TOO_DEEP
unfolding fault_name name_in_table
too_deep_named = refl

pub autogen_guid_unknown_named : IsNameCode AUTOGEN_GUID_UNKNOWN
unfolding fault_name name_in_table
autogen_guid_unknown_named = refl

pub not_pe_named : IsNameCode NOT_PE
unfolding fault_name name_in_table
not_pe_named = refl

pub truncated_named : IsNameCode TRUNCATED
unfolding fault_name name_in_table
truncated_named = refl

pub alignments_differ_named : IsNameCode ALIGNMENTS_DIFFER
unfolding fault_name name_in_table
alignments_differ_named = refl

pub too_many_sections_named : IsNameCode TOO_MANY_SECTIONS
unfolding fault_name name_in_table
too_many_sections_named = refl

pub header_too_long_named : IsNameCode HEADER_TOO_LONG
unfolding fault_name name_in_table
header_too_long_named = refl

pub subsystem_too_large_named : IsNameCode SUBSYSTEM_TOO_LARGE
unfolding fault_name name_in_table
subsystem_too_large_named = refl

pub section_too_long_named : IsNameCode SECTION_TOO_LONG
unfolding fault_name name_in_table
section_too_long_named = refl

pub image_file_too_long_named : IsNameCode IMAGE_FILE_TOO_LONG
unfolding fault_name name_in_table
image_file_too_long_named = refl

pub alignment_refused_named : IsNameCode ALIGNMENT_REFUSED
unfolding fault_name name_in_table
alignment_refused_named = refl

pub volume_full_named : IsNameCode VOLUME_FULL
unfolding fault_name name_in_table
volume_full_named = refl

pub top_file_twice_named : IsNameCode TOP_FILE_TWICE
unfolding fault_name name_in_table
top_file_twice_named = refl

pub top_file_unaligned_named : IsNameCode TOP_FILE_UNALIGNED
unfolding fault_name name_in_table
top_file_unaligned_named = refl

pub pad_too_long_named : IsNameCode PAD_TOO_LONG
unfolding fault_name name_in_table
pad_too_long_named = refl

pub region_order_named : IsNameCode REGION_ORDER
unfolding fault_name name_in_table
region_order_named = refl

pub region_outside_named : IsNameCode REGION_OUTSIDE
unfolding fault_name name_in_table
region_outside_named = refl

pub data_too_long_named : IsNameCode DATA_TOO_LONG
unfolding fault_name name_in_table
data_too_long_named = refl

pub vpd_overlap_named : IsNameCode VPD_OVERLAP
unfolding fault_name name_in_table
vpd_overlap_named = refl

pub vpd_too_long_named : IsNameCode VPD_TOO_LONG
unfolding fault_name name_in_table
vpd_too_long_named = refl

pub reloc_block_named : IsNameCode RELOC_BLOCK
unfolding fault_name name_in_table
reloc_block_named = refl

pub reloc_type_named : IsNameCode RELOC_TYPE
unfolding fault_name name_in_table
reloc_type_named = refl

pub reloc_outside_named : IsNameCode RELOC_OUTSIDE
unfolding fault_name name_in_table
reloc_outside_named = refl

pub not_in_place_named : IsNameCode NOT_IN_PLACE
unfolding fault_name name_in_table
not_in_place_named = refl

pub base_range_named : IsNameCode BASE_RANGE
unfolding fault_name name_in_table
base_range_named = refl
