-- Codes of faults, by subjects; codes and names are this project's own.
use Rattle.std.specs.Prelude.{ℕ}

-- files and texts
abbrev pub BAD_PATH : ℕ
BAD_PATH = 101

abbrev pub FILE_TOO_LONG : ℕ
FILE_TOO_LONG = 102

abbrev pub FILE_ABSENT : ℕ
FILE_ABSENT = 103

abbrev pub BAD_BYTE : ℕ
BAD_BYTE = 110

abbrev pub OPEN_QUOTE : ℕ
OPEN_QUOTE = 111

abbrev pub LINE_TOO_LONG : ℕ
LINE_TOO_LONG = 112

abbrev pub BAD_NUMBER : ℕ
BAD_NUMBER = 113

abbrev pub BAD_SECTION : ℕ
BAD_SECTION = 114

abbrev pub UNBALANCED : ℕ
UNBALANCED = 120

abbrev pub INCLUDE_ABSENT : ℕ
INCLUDE_ABSENT = 121

abbrev pub INCLUDE_TOO_DEEP : ℕ
INCLUDE_TOO_DEEP = 122

abbrev pub INCLUDE_LOOP : ℕ
INCLUDE_LOOP = 123

abbrev pub BAD_EXPRESSION : ℕ
BAD_EXPRESSION = 124

abbrev pub VALUE_RANGE : ℕ
VALUE_RANGE = 125

abbrev pub ZERO_DIVISOR : ℕ
ZERO_DIVISOR = 126

abbrev pub UNDEFINED_MACRO : ℕ
UNDEFINED_MACRO = 127

abbrev pub TOO_MANY_MACROS : ℕ
TOO_MANY_MACROS = 128

abbrev pub BAD_DIRECTIVE : ℕ
BAD_DIRECTIVE = 129

abbrev pub SCRIPT_ABSENT : ℕ
SCRIPT_ABSENT = 131

abbrev pub FROM_ABSENT : ℕ
FROM_ABSENT = 132

-- package documents (DEC)
abbrev pub DEC_MISSING_KEY : ℕ
DEC_MISSING_KEY = 201

abbrev pub DEC_BAD_GUID : ℕ
DEC_BAD_GUID = 202

abbrev pub DEC_BAD_PCD_LINE : ℕ
DEC_BAD_PCD_LINE = 203

abbrev pub DEC_REPEATED_NAME : ℕ
DEC_REPEATED_NAME = 204

abbrev pub BAD_TOKEN : ℕ
BAD_TOKEN = 205

abbrev pub DEC_UNKNOWN_SECTION : ℕ
DEC_UNKNOWN_SECTION = 206

-- module documents (INF)
abbrev pub INF_MISSING_KEY : ℕ
INF_MISSING_KEY = 211

abbrev pub INF_BAD_GUID : ℕ
INF_BAD_GUID = 212

abbrev pub BAD_TYPE : ℕ
BAD_TYPE = 213

abbrev pub BAD_CLASS_LINE : ℕ
BAD_CLASS_LINE = 214

abbrev pub BAD_PCD_NAME : ℕ
BAD_PCD_NAME = 215

abbrev pub BAD_NAME : ℕ
BAD_NAME = 217

abbrev pub INF_UNKNOWN_SECTION : ℕ
INF_UNKNOWN_SECTION = 218

-- platform documents (DSC)
abbrev pub DSC_MISSING_KEY : ℕ
DSC_MISSING_KEY = 221

abbrev pub DSC_BAD_GUID : ℕ
DSC_BAD_GUID = 222

abbrev pub BAD_LIBRARY_LINE : ℕ
BAD_LIBRARY_LINE = 223

abbrev pub BAD_COMPONENT : ℕ
BAD_COMPONENT = 224

abbrev pub DSC_BAD_PCD_LINE : ℕ
DSC_BAD_PCD_LINE = 225

abbrev pub DSC_UNKNOWN_SECTION : ℕ
DSC_UNKNOWN_SECTION = 226

abbrev pub BAD_ARCH : ℕ
BAD_ARCH = 227

abbrev pub DUPLICATE_COMPONENT : ℕ
DUPLICATE_COMPONENT = 228

abbrev pub SKU_UNKNOWN : ℕ
SKU_UNKNOWN = 229

abbrev pub SKU_LOOP : ℕ
SKU_LOOP = 230

abbrev pub BAD_SKU_LINE : ℕ
BAD_SKU_LINE = 231

abbrev pub ARCH_UNSUPPORTED : ℕ
ARCH_UNSUPPORTED = 232

-- flash descriptions (FDF)
abbrev pub BAD_KEY : ℕ
BAD_KEY = 241

abbrev pub FDF_MISSING_KEY : ℕ
FDF_MISSING_KEY = 242

abbrev pub STATEMENT_REFUSED : ℕ
STATEMENT_REFUSED = 243

abbrev pub BAD_REGION : ℕ
BAD_REGION = 244

abbrev pub FDF_BAD_FILE : ℕ
FDF_BAD_FILE = 246

abbrev pub BAD_RULE : ℕ
BAD_RULE = 247

abbrev pub BAD_INF_LINE : ℕ
BAD_INF_LINE = 248

abbrev pub SIZE_TOO_LARGE : ℕ
SIZE_TOO_LARGE = 249

abbrev pub VOLUME_LOOP : ℕ
VOLUME_LOOP = 250

abbrev pub VOLUME_UNKNOWN : ℕ
VOLUME_UNKNOWN = 251

abbrev pub COMPRESSED_REFUSED : ℕ
COMPRESSED_REFUSED = 252

abbrev pub RULE_ABSENT : ℕ
RULE_ABSENT = 253

abbrev pub ARCH_AMBIGUOUS : ℕ
ARCH_AMBIGUOUS = 254

abbrev pub BLOCKS_DIFFER : ℕ
BLOCKS_DIFFER = 255

abbrev pub VOLUME_TWO_SIZES : ℕ
VOLUME_TWO_SIZES = 256

abbrev pub RULE_LINE_REFUSED : ℕ
RULE_LINE_REFUSED = 257

abbrev pub SECTION_ABSENT : ℕ
SECTION_ABSENT = 258

abbrev pub NOT_A_COMPONENT : ℕ
NOT_A_COMPONENT = 259

abbrev pub IMAGE_UNKNOWN : ℕ
IMAGE_UNKNOWN = 260

abbrev pub FDF_REPEATED_NAME : ℕ
FDF_REPEATED_NAME = 261

abbrev pub FDF_BAD_GUID : ℕ
FDF_BAD_GUID = 262

abbrev pub TOO_MANY : ℕ
TOO_MANY = 263

-- choice of libraries
abbrev pub CLASS_UNRESOLVED : ℕ
CLASS_UNRESOLVED = 301

abbrev pub TYPE_NOT_SERVED : ℕ
TYPE_NOT_SERVED = 302

abbrev pub CLASS_NOT_SERVED : ℕ
CLASS_NOT_SERVED = 303

abbrev pub CONSTRUCTOR_LOOP : ℕ
CONSTRUCTOR_LOOP = 304

abbrev pub TOO_MANY_INSTANCES : ℕ
TOO_MANY_INSTANCES = 305

-- values of PCDs, and what is asked of them
abbrev pub BAD_VALUE : ℕ
BAD_VALUE = 401

abbrev pub DOES_NOT_FIT : ℕ
DOES_NOT_FIT = 402

abbrev pub TEXT_TOO_LONG : ℕ
TEXT_TOO_LONG = 403

abbrev pub NOT_DECLARED : ℕ
NOT_DECLARED = 411

abbrev pub KIND_CONFLICT : ℕ
KIND_CONFLICT = 412

abbrev pub KIND_ASKED : ℕ
KIND_ASKED = 413

abbrev pub DATUM_CONFLICT : ℕ
DATUM_CONFLICT = 414

abbrev pub DYNAMIC_IN_COMPONENT : ℕ
DYNAMIC_IN_COMPONENT = 415

abbrev pub SKU_ON_FIXED : ℕ
SKU_ON_FIXED = 416

-- dependency expressions, and the names of GUIDs in generated texts
abbrev pub BAD_TERM : ℕ
BAD_TERM = 501

abbrev pub DEPEX_GUID_UNKNOWN : ℕ
DEPEX_GUID_UNKNOWN = 502

abbrev pub BAD_PLACE : ℕ
BAD_PLACE = 503

abbrev pub TOO_DEEP : ℕ
TOO_DEEP = 504

abbrev pub AUTOGEN_GUID_UNKNOWN : ℕ
AUTOGEN_GUID_UNKNOWN = 511

-- modules as PE32 and TE images
abbrev pub NOT_PE : ℕ
NOT_PE = 601

abbrev pub TRUNCATED : ℕ
TRUNCATED = 602

abbrev pub ALIGNMENTS_DIFFER : ℕ
ALIGNMENTS_DIFFER = 603

abbrev pub TOO_MANY_SECTIONS : ℕ
TOO_MANY_SECTIONS = 604

abbrev pub HEADER_TOO_LONG : ℕ
HEADER_TOO_LONG = 605

abbrev pub SUBSYSTEM_TOO_LARGE : ℕ
SUBSYSTEM_TOO_LARGE = 606

-- sections and files of volumes
abbrev pub SECTION_TOO_LONG : ℕ
SECTION_TOO_LONG = 611

abbrev pub IMAGE_FILE_TOO_LONG : ℕ
IMAGE_FILE_TOO_LONG = 612

abbrev pub ALIGNMENT_REFUSED : ℕ
ALIGNMENT_REFUSED = 613

-- volumes
abbrev pub VOLUME_FULL : ℕ
VOLUME_FULL = 701

abbrev pub TOP_FILE_TWICE : ℕ
TOP_FILE_TWICE = 702

abbrev pub TOP_FILE_UNALIGNED : ℕ
TOP_FILE_UNALIGNED = 703

abbrev pub PAD_TOO_LONG : ℕ
PAD_TOO_LONG = 704

-- devices
abbrev pub REGION_ORDER : ℕ
REGION_ORDER = 711

abbrev pub REGION_OUTSIDE : ℕ
REGION_OUTSIDE = 712

abbrev pub DATA_TOO_LONG : ℕ
DATA_TOO_LONG = 713

-- vital product data
abbrev pub VPD_OVERLAP : ℕ
VPD_OVERLAP = 721

abbrev pub VPD_TOO_LONG : ℕ
VPD_TOO_LONG = 722

-- modules that are moved
abbrev pub RELOC_BLOCK : ℕ
RELOC_BLOCK = 731

abbrev pub RELOC_TYPE : ℕ
RELOC_TYPE = 732

abbrev pub RELOC_OUTSIDE : ℕ
RELOC_OUTSIDE = 733

abbrev pub NOT_IN_PLACE : ℕ
NOT_IN_PLACE = 734

abbrev pub BASE_RANGE : ℕ
BASE_RANGE = 735

-- images that are read
abbrev pub NO_VOLUME : ℕ
NO_VOLUME = 741

abbrev pub VOLUME_BAD_FILE : ℕ
VOLUME_BAD_FILE = 742
