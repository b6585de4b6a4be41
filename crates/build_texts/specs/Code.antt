-- AutoGen.h and AutoGen.c of a module (EDK II Build specification, AutoGen files). Their rows are
-- this project's own.
use Rattle.std.specs.Prelude.{ℕ, Bool, false, ◌&&◌, if◌then◌else◌, List, [], ◌∷◌, ◌++◌, Result, Ok, codes}
use Rattle.std.specs.Int.{w32, to_le_bytes}
use Rattle.std.specs.List.{flat_map}
use Rattle.std.specs.Str.{bytes_eq}
use Rattle.build_base.specs.First.{and_then}
use Rattle.build_base.specs.declared.fault.Fault.{Fault}
use Rattle.build_base.specs.declared.guid.Guid.{Guid}
use Rattle.doc_types.specs.declared.choice.Call.{Call}
use Rattle.doc_types.specs.declared.choice.Choice.{Choice}
use Rattle.doc_types.specs.declared.choice.Module.{Module}
use Rattle.doc_types.specs.declared.module.InfDoc.{InfDoc}
use Rattle.doc_types.specs.declared.module.Named.{Named}
use Rattle.doc_types.specs.declared.pcd.PcdName.{PcdName}
use Rattle.doc_types.specs.declared.texts.Texts.{Texts}
use Rattle.doc_types.specs.declared.values.PcdRow.{PcdRow}
use Rattle.pcd_values.specs.Printing.{number_text, printed}
use Rattle.build_texts.specs.declared.asks.CodeAsk.{CodeAsk}
use Rattle.build_texts.specs.Guids.{guid_text, initializer}
use Rattle.build_texts.specs.Named.{Found, by_name, module_guids}
use Rattle.pcd_resolve.specs.Names.{is_dynamic}
use Rattle.build_texts.specs.Words.{arch_word}

-- `/* INF ARCH */`
unfoldable pub title : Module → List ℕ
title user = codes "/* " ++ user.inf ++ codes " " ++ arch_word user.arch ++ codes " */\n"

-- The first INF file is the module's own.
abbrev pub base_name : List InfDoc → List ℕ
base_name [] = []
base_name (inf ∷ infs) = inf.base_name

abbrev pub entry_points : List InfDoc → List Named
entry_points [] = []
entry_points (inf ∷ infs) = inf.entry_points

-- AutoGen.h.

unfoldable pub define_base_name : List ℕ
define_base_name = codes "#define MODULE_BASE_NAME "

unfoldable pub define_file_guid : List ℕ
define_file_guid = codes "#define MODULE_FILE_GUID "

unfoldable pub define_value : List ℕ
define_value = codes "#define PCD_VALUE_"

unfoldable pub define_token : List ℕ
define_token = codes "#define PCD_TOKEN_"

abbrev pub quoted : List ℕ → List ℕ
quoted text = codes "\"" ++ text ++ codes "\"\n"

-- `#define MODULE_BASE_NAME "BASE_NAME"`
abbrev pub base_name_line : List ℕ → List ℕ
base_name_line name = define_base_name ++ quoted name

-- `#define MODULE_FILE_GUID "guid"`
abbrev pub file_guid_line : Guid → List ℕ
file_guid_line guid = define_file_guid ++ quoted (guid_text guid)

-- `Space_Name`
abbrev pub macro_name : PcdName → List ℕ
macro_name pcd = pcd.space ++ codes "_" ++ pcd.name

-- `#define PCD_VALUE_Space_Name V`
abbrev pub value_line : PcdRow → List ℕ
value_line row = define_value ++ macro_name row.pcd ++ codes " " ++ printed row.datum row.value
    ++ codes "\n"

-- `#define PCD_TOKEN_Space_Name 0xT`
abbrev pub token_line : PcdRow → List ℕ
token_line row = define_token ++ macro_name row.pcd ++ codes " "
    ++ number_text (to_le_bytes w32 row.token) ++ codes "\n"

abbrev pub same_pcd : PcdName → PcdName → Bool
same_pcd first second = bytes_eq first.space second.space && bytes_eq first.name second.name

-- the row below is of the same PCD
abbrev pub goes_on : PcdName → List PcdRow → Bool
goes_on pcd [] = false
goes_on pcd (row ∷ rows) = same_pcd pcd row.pcd

-- The rows of a PCD stand together. One of a dynamic kind has a row for each SKU, and its token
-- stands once, where they end.
unfoldable pub pcd_line : PcdRow → List PcdRow → List ℕ
pcd_line row rows = if is_dynamic row.kind
    then (if goes_on row.pcd rows then [] else token_line row) else value_line row

unfoldable pub pcd_lines : List PcdRow → List ℕ
pcd_lines [] = []
pcd_lines (row ∷ rows) = pcd_line row rows ++ pcd_lines rows

unfoldable pub header_text : CodeAsk → List ℕ
header_text ask =
    title ask.parts.«module» ++ base_name_line (base_name ask.parts.infs)
    ++ file_guid_line ask.file_guid
    ++ pcd_lines ask.values.rows

-- AutoGen.c.

-- `GUID name = {..};`
unfoldable pub guid_line : Found → List ℕ
guid_line line = codes "GUID " ++ line.0 ++ codes " = " ++ initializer line.1.0 ++ codes ";\n"

unfoldable pub call_line : List ℕ → List ℕ
call_line name = codes "  " ++ name ++ codes "();\n"

abbrev pub calls : List Call → List ℕ
calls listed = flat_map (λ (call : Call). call_line call.name) listed

abbrev pub entries : List Named → List ℕ
entries listed = flat_map (λ (named : Named). call_line named.name) listed

unfoldable pub function_head : List ℕ → List ℕ
function_head name = codes "void " ++ name ++ codes "(void) {\n"

-- a function that makes calls
unfoldable pub function : List ℕ → List ℕ → List ℕ
function name lines = function_head name ++ lines ++ codes "}\n"

unfoldable pub constructor_list : Choice → List ℕ
constructor_list choice = function (codes "ConstructorList") (calls choice.constructors)

unfoldable pub destructor_list : Choice → List ℕ
destructor_list choice = function (codes "DestructorList") (calls choice.destructors)

unfoldable pub entry_point_list : List InfDoc → List ℕ
entry_point_list infs = function (codes "EntryPointList") (entries (entry_points infs))

unfoldable pub include_line : List ℕ
include_line = codes "#include \"AutoGen.h\"\n"

unfoldable pub source_text : CodeAsk → List Found → List ℕ
source_text ask named =
    title ask.parts.«module» ++ include_line ++ flat_map guid_line (by_name named)
    ++ constructor_list ask.choice
    ++ destructor_list ask.choice ++ entry_point_list ask.parts.infs

abbrev pub texts_of : CodeAsk → List Found → Texts
texts_of ask named = record { c = source_text ask named; h = header_text ask }

-- both texts, or the fault of the first name that no package of its INF declares
unfoldable pub code_texts : CodeAsk → Result Texts Fault
code_texts ask = and_then (module_guids ask.parts) (λ named. Ok (texts_of ask named))
