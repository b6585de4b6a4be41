-- The names of fault codes; codes and names are this project's own.
use Rattle.std.specs.Prelude.{ℕ, ◌==◌, if◌then◌else◌, List, [], ◌∷◌, Option, Some, None, codes}
use Rattle.build_base.specs.FaultCodes.{ALIGNMENTS_DIFFER, ALIGNMENT_REFUSED, ARCH_AMBIGUOUS, ARCH_UNSUPPORTED, AUTOGEN_GUID_UNKNOWN, BAD_ARCH, BAD_BYTE, BAD_CLASS_LINE, BAD_COMPONENT, BAD_DIRECTIVE, BAD_EXPRESSION, BAD_INF_LINE, BAD_KEY, BAD_LIBRARY_LINE, BAD_NAME, BAD_NUMBER, BAD_PATH, BAD_PCD_NAME, BAD_PLACE, BAD_REGION, BAD_RULE, BAD_SECTION, BAD_SKU_LINE, BAD_TERM, BAD_TOKEN, BAD_TYPE, BAD_VALUE, BASE_RANGE, BLOCKS_DIFFER, CLASS_NOT_SERVED, CLASS_UNRESOLVED, COMPRESSED_REFUSED, CONSTRUCTOR_LOOP, DATA_TOO_LONG, DATUM_CONFLICT, DEC_BAD_GUID, DEC_BAD_PCD_LINE, DEC_MISSING_KEY, DEC_REPEATED_NAME, DEC_UNKNOWN_SECTION, DEPEX_GUID_UNKNOWN, DOES_NOT_FIT, DSC_BAD_GUID, DSC_BAD_PCD_LINE, DSC_MISSING_KEY, DSC_UNKNOWN_SECTION, DUPLICATE_COMPONENT, DYNAMIC_IN_COMPONENT, FDF_BAD_FILE, FDF_BAD_GUID, FDF_MISSING_KEY, FDF_REPEATED_NAME, FILE_ABSENT, FILE_TOO_LONG, FROM_ABSENT, HEADER_TOO_LONG, IMAGE_FILE_TOO_LONG, IMAGE_UNKNOWN, INCLUDE_ABSENT, INCLUDE_LOOP, INCLUDE_TOO_DEEP, INF_BAD_GUID, INF_MISSING_KEY, INF_UNKNOWN_SECTION, KIND_ASKED, KIND_CONFLICT, LINE_TOO_LONG, NOT_A_COMPONENT, NOT_DECLARED, NOT_IN_PLACE, NOT_PE, NO_VOLUME, OPEN_QUOTE, PAD_TOO_LONG, REGION_ORDER, REGION_OUTSIDE, RELOC_BLOCK, RELOC_OUTSIDE, RELOC_TYPE, RULE_ABSENT, RULE_LINE_REFUSED, SCRIPT_ABSENT, SECTION_ABSENT, SECTION_TOO_LONG, SIZE_TOO_LARGE, SKU_LOOP, SKU_ON_FIXED, SKU_UNKNOWN, STATEMENT_REFUSED, SUBSYSTEM_TOO_LARGE, TEXT_TOO_LONG, TOO_DEEP, TOO_MANY, TOO_MANY_INSTANCES, TOO_MANY_MACROS, TOO_MANY_SECTIONS, TOP_FILE_TWICE, TOP_FILE_UNALIGNED, TRUNCATED, TYPE_NOT_SERVED, UNBALANCED, UNDEFINED_MACRO, VALUE_RANGE, VOLUME_BAD_FILE, VOLUME_FULL, VOLUME_LOOP, VOLUME_TWO_SIZES, VOLUME_UNKNOWN, VPD_OVERLAP, VPD_TOO_LONG, ZERO_DIVISOR}

-- the name of the first entry of a code
unfoldable pub name_in_table : List (ℕ × List ℕ) → ℕ → Option (List ℕ)
name_in_table [] code = None
name_in_table (entry ∷ entries) code =
    if entry.0 == code then Some entry.1 else name_in_table entries code

-- by hundreds: texts and documents, the four formats, choices, PCDs, dependency expressions,
-- images, devices
abbrev pub names : List (ℕ × List ℕ)
names =
    (BAD_PATH, codes "BadPath") ∷
    (FILE_TOO_LONG, codes "FileTooLong") ∷
    (FILE_ABSENT, codes "FileAbsent") ∷
    (BAD_BYTE, codes "BadByte") ∷
    (OPEN_QUOTE, codes "OpenQuote") ∷
    (LINE_TOO_LONG, codes "LineTooLong") ∷
    (BAD_NUMBER, codes "BadNumber") ∷
    (BAD_SECTION, codes "BadSection") ∷
    (UNBALANCED, codes "Unbalanced") ∷
    (INCLUDE_ABSENT, codes "IncludeAbsent") ∷
    (INCLUDE_TOO_DEEP, codes "IncludeTooDeep") ∷
    (INCLUDE_LOOP, codes "IncludeLoop") ∷
    (BAD_EXPRESSION, codes "BadExpression") ∷
    (VALUE_RANGE, codes "ValueRange") ∷
    (ZERO_DIVISOR, codes "ZeroDivisor") ∷
    (UNDEFINED_MACRO, codes "UndefinedMacro") ∷
    (TOO_MANY_MACROS, codes "TooManyMacros") ∷
    (BAD_DIRECTIVE, codes "BadDirective") ∷
    (SCRIPT_ABSENT, codes "ScriptAbsent") ∷
    (FROM_ABSENT, codes "FromAbsent") ∷
    (DEC_MISSING_KEY, codes "MissingKey") ∷
    (DEC_BAD_GUID, codes "BadGuid") ∷
    (DEC_BAD_PCD_LINE, codes "BadPcdLine") ∷
    (DEC_REPEATED_NAME, codes "RepeatedName") ∷
    (BAD_TOKEN, codes "BadToken") ∷
    (DEC_UNKNOWN_SECTION, codes "UnknownSection") ∷
    (INF_MISSING_KEY, codes "MissingKey") ∷
    (INF_BAD_GUID, codes "BadGuid") ∷
    (BAD_TYPE, codes "BadType") ∷
    (BAD_CLASS_LINE, codes "BadClassLine") ∷
    (BAD_PCD_NAME, codes "BadPcdName") ∷
    (BAD_NAME, codes "BadName") ∷
    (INF_UNKNOWN_SECTION, codes "UnknownSection") ∷
    (DSC_MISSING_KEY, codes "MissingKey") ∷
    (DSC_BAD_GUID, codes "BadGuid") ∷
    (BAD_LIBRARY_LINE, codes "BadLibraryLine") ∷
    (BAD_COMPONENT, codes "BadComponent") ∷
    (DSC_BAD_PCD_LINE, codes "BadPcdLine") ∷
    (DSC_UNKNOWN_SECTION, codes "UnknownSection") ∷
    (BAD_ARCH, codes "BadArch") ∷
    (DUPLICATE_COMPONENT, codes "DuplicateComponent") ∷
    (SKU_UNKNOWN, codes "SkuUnknown") ∷
    (SKU_LOOP, codes "SkuLoop") ∷
    (BAD_SKU_LINE, codes "BadSkuLine") ∷
    (ARCH_UNSUPPORTED, codes "ArchUnsupported") ∷
    (BAD_KEY, codes "BadKey") ∷
    (FDF_MISSING_KEY, codes "MissingKey") ∷
    (STATEMENT_REFUSED, codes "StatementRefused") ∷
    (BAD_REGION, codes "BadRegion") ∷
    (FDF_BAD_FILE, codes "BadFile") ∷
    (BAD_RULE, codes "BadRule") ∷
    (BAD_INF_LINE, codes "BadInfLine") ∷
    (SIZE_TOO_LARGE, codes "SizeTooLarge") ∷
    (VOLUME_LOOP, codes "VolumeLoop") ∷
    (VOLUME_UNKNOWN, codes "VolumeUnknown") ∷
    (COMPRESSED_REFUSED, codes "CompressedRefused") ∷
    (RULE_ABSENT, codes "RuleAbsent") ∷
    (ARCH_AMBIGUOUS, codes "ArchAmbiguous") ∷
    (BLOCKS_DIFFER, codes "BlocksDiffer") ∷
    (VOLUME_TWO_SIZES, codes "VolumeTwoSizes") ∷
    (RULE_LINE_REFUSED, codes "RuleLineRefused") ∷
    (SECTION_ABSENT, codes "SectionAbsent") ∷
    (NOT_A_COMPONENT, codes "NotAComponent") ∷
    (IMAGE_UNKNOWN, codes "ImageUnknown") ∷
    (FDF_REPEATED_NAME, codes "RepeatedName") ∷
    (FDF_BAD_GUID, codes "BadGuid") ∷
    (TOO_MANY, codes "TooMany") ∷
    (CLASS_UNRESOLVED, codes "ClassUnresolved") ∷
    (TYPE_NOT_SERVED, codes "TypeNotServed") ∷
    (CLASS_NOT_SERVED, codes "ClassNotServed") ∷
    (CONSTRUCTOR_LOOP, codes "ConstructorLoop") ∷
    (TOO_MANY_INSTANCES, codes "TooManyInstances") ∷
    (BAD_VALUE, codes "BadValue") ∷
    (DOES_NOT_FIT, codes "DoesNotFit") ∷
    (TEXT_TOO_LONG, codes "TextTooLong") ∷
    (NOT_DECLARED, codes "NotDeclared") ∷
    (KIND_CONFLICT, codes "KindConflict") ∷
    (KIND_ASKED, codes "KindAsked") ∷
    (DATUM_CONFLICT, codes "DatumConflict") ∷
    (DYNAMIC_IN_COMPONENT, codes "DynamicInComponent") ∷
    (SKU_ON_FIXED, codes "SkuOnFixed") ∷
    (BAD_TERM, codes "BadTerm") ∷
    (DEPEX_GUID_UNKNOWN, codes "GuidUnknown") ∷
    (BAD_PLACE, codes "BadPlace") ∷
    (TOO_DEEP, codes "TooDeep") ∷
    (AUTOGEN_GUID_UNKNOWN, codes "GuidUnknown") ∷
    (NOT_PE, codes "NotPe") ∷
    (TRUNCATED, codes "Truncated") ∷
    (ALIGNMENTS_DIFFER, codes "AlignmentsDiffer") ∷
    (TOO_MANY_SECTIONS, codes "TooManySections") ∷
    (HEADER_TOO_LONG, codes "HeaderTooLong") ∷
    (SUBSYSTEM_TOO_LARGE, codes "SubsystemTooLarge") ∷
    (SECTION_TOO_LONG, codes "SectionTooLong") ∷
    (IMAGE_FILE_TOO_LONG, codes "ImageFileTooLong") ∷
    (ALIGNMENT_REFUSED, codes "AlignmentRefused") ∷
    (VOLUME_FULL, codes "VolumeFull") ∷
    (TOP_FILE_TWICE, codes "TopFileTwice") ∷
    (TOP_FILE_UNALIGNED, codes "TopFileUnaligned") ∷
    (PAD_TOO_LONG, codes "PadTooLong") ∷
    (REGION_ORDER, codes "RegionOrder") ∷
    (REGION_OUTSIDE, codes "RegionOutside") ∷
    (DATA_TOO_LONG, codes "DataTooLong") ∷
    (VPD_OVERLAP, codes "VpdOverlap") ∷
    (VPD_TOO_LONG, codes "VpdTooLong") ∷
    (RELOC_BLOCK, codes "RelocBlock") ∷
    (RELOC_TYPE, codes "RelocType") ∷
    (RELOC_OUTSIDE, codes "RelocOutside") ∷
    (NOT_IN_PLACE, codes "NotInPlace") ∷
    (BASE_RANGE, codes "BaseRange") ∷
    (NO_VOLUME, codes "NoVolume") ∷
    (VOLUME_BAD_FILE, codes "BadFile") ∷ []

unfoldable pub fault_name : ℕ → Option (List ℕ)
fault_name code = name_in_table names code
