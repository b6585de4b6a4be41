-- The report of a build: the platform, its SKUs, and the values, libraries and constructors of its
-- modules (EDK II Build specification, build report). Its rows are this project's own.
use Rattle.std.specs.Prelude.{ℕ, if◌then◌else◌, List, [], ◌++◌, codes, decimal}
use Rattle.std.specs.List.{flat_map}
use Rattle.doc_types.specs.declared.choice.Call.{Call}
use Rattle.doc_types.specs.declared.choice.Module.{Module}
use Rattle.doc_types.specs.declared.platform.PlatformDoc.{PlatformDoc}
use Rattle.doc_types.specs.declared.platform.Sku.{Sku}
use Rattle.doc_types.specs.declared.values.PcdRow.{PcdRow}
use Rattle.pcd_values.specs.Printing.{printed}
use Rattle.build_texts.specs.declared.asks.ModuleReport.{ModuleReport}
use Rattle.build_texts.specs.declared.asks.ReportAsk.{ReportAsk}
use Rattle.build_texts.specs.Guids.{guid_text}
use Rattle.pcd_resolve.specs.Names.{is_dynamic}
use Rattle.build_texts.specs.Words.{arch_word, kind_word, datum_word, source_word}

-- `platform NAME guid`
unfoldable pub platform_line : PlatformDoc → List ℕ
platform_line platform = codes "platform " ++ platform.name ++ codes " " ++ guid_text platform.guid
    ++ codes "\n"

-- `target TARGET_TAG`
unfoldable pub target_line : List ℕ → List ℕ → List ℕ
target_line target tag = codes "target " ++ target ++ codes "_" ++ tag ++ codes "\n"

-- `sku ID NAME`
unfoldable pub sku_line : Sku → List ℕ
sku_line sku = codes "sku " ++ decimal sku.id ++ codes " " ++ sku.name ++ codes "\n"

unfoldable pub pcd_name : PcdRow → List ℕ
pcd_name row = codes "pcd " ++ row.pcd.space ++ codes "." ++ row.pcd.name

-- a word behind a blank
unfoldable pub in_row : List ℕ → List ℕ
in_row word = codes " " ++ word

-- `pcd Space.Name KIND DATUM SKU V SOURCE`
unfoldable pub pcd_line : List ℕ → PcdRow → List ℕ
pcd_line sku row =
    pcd_name row ++ in_row (kind_word row.kind) ++ in_row (datum_word row.datum) ++ in_row sku
    ++ in_row (printed row.datum row.value) ++ in_row (source_word row.rank) ++ codes "\n"

unfoldable pub dynamic_line : PcdRow → List ℕ
dynamic_line row = if is_dynamic row.kind then pcd_line row.sku row else []

-- a row of another kind is of every SKU
unfoldable pub fixed_line : PcdRow → List ℕ
fixed_line row = if is_dynamic row.kind then [] else pcd_line (codes "-") row

-- `module ARCH INF`
unfoldable pub module_line : Module → List ℕ
module_line user = codes "module " ++ arch_word user.arch ++ codes " " ++ user.inf ++ codes "\n"

-- `library PATH`
unfoldable pub library_line : List ℕ → List ℕ
library_line path = codes "library " ++ path ++ codes "\n"

-- `constructor PATH NAME`
unfoldable pub constructor_line : Call → List ℕ
constructor_line call = codes "constructor " ++ call.inf ++ codes " " ++ call.name ++ codes "\n"

-- the lines of a module; a library has none
unfoldable pub module_lines : ModuleReport → List ℕ
module_lines built =
    if built.choice.library then [] else
    module_line built.«module» ++ flat_map library_line built.choice.instances
    ++ flat_map constructor_line built.choice.constructors ++ flat_map fixed_line built.values.rows

unfoldable pub report_text : ReportAsk → List ℕ
report_text ask =
    platform_line ask.platform ++ target_line ask.target ask.tag ++ flat_map sku_line ask.skus
    ++ flat_map dynamic_line ask.dynamic.rows ++ flat_map module_lines ask.modules
