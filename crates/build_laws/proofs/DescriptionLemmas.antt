-- The description of a module has the path of its file.
use Rattle.std.proofs.Common.{◌≡◌, ℕ, List, [], Option, Some, None, Result, Ok, Err, refl, sym, ap, ◌∙◌}
use Rattle.build_base.specs.First.{and_then, or_fault}
use Rattle.build_base.specs.World.{World, got}
use Rattle.build_base.specs.declared.fault.Fault.{Fault}
use Rattle.build_base.specs.declared.guid.Guid.{Guid as GuidBytes}
use Rattle.build_base.specs.declared.lines.Lines.{Lines}
use Rattle.build_base.specs.declared.lines.Macro.{Macro}
use Rattle.doc_reading.specs.Grammar.{first_fault, read_of}
use Rattle.doc_types.specs.declared.depex.DepexPart.{DepexPart}
use Rattle.doc_types.specs.declared.module.InfDoc.{InfDoc}
use Rattle.doc_types.specs.declared.module_type.ModuleType.{ModuleType}
use Rattle.document_stages.specs.Worlds.{world_lines}
use Rattle.inf_docs.specs.declared.tables.ModuleTables.{ModuleTables}
use Rattle.inf_docs.specs.Depex.{all_parts}
use Rattle.inf_docs.specs.Modules.{inf_grammar, tables_of, with_required, required, document_of, module_made, module_of}
use Rattle.macro_conditions.specs.Expansion.{Env, Stop, bad, need, begun, document, rooted, expansion}
use Rattle.macro_conditions.specs.LineMeaning.{◌>>=◌}
use Rattle.macro_conditions.specs.Sources.{Source}
use Rattle.macro_conditions.specs.Worlds.{told}
use Rattle.build_rules.specs.Values.{lines_in, inf_value}

required_path : (root : List ℕ) (tables : ModuleTables) (parts : List DepexPart) (name : Option (List ℕ)) (guid : Option GuidBytes) (kind : Option ModuleType) (inf : InfDoc)
    → required root tables parts name guid kind ≡ Ok inf → inf.at.path ≡ root
required_path root tables parts None guid kind inf e = absurd cc
required_path root tables parts (Some name) None kind inf e = absurd cc
required_path root tables parts (Some name) (Some guid) None inf e = absurd cc
required_path root tables parts (Some name) (Some guid) (Some kind) inf e =
    let is : with_required root tables parts name guid kind ≡ inf = cc in ap (λ (i : InfDoc). i.at.path) (sym is)

after_fault : (q : Option Fault) (r : Result InfDoc Fault) (inf : InfDoc) → or_fault q r ≡ Ok inf → r ≡ Ok inf
after_fault None r inf e = e
after_fault (Some fault) r inf e = absurd cc

module_path : (lines : Lines) (inf : InfDoc) → module_of lines ≡ Ok inf → inf.at.path ≡ lines.root
unfolding module_of module_made document_of
module_path lines inf e =
    let reads = read_of inf_grammar lines.rows in
    let tables = tables_of reads in
    required_path lines.root tables (all_parts reads) tables.base_name tables.file_guid tables.kind inf
    (after_fault (first_fault inf_grammar lines.rows) (module_made lines reads) inf e)

of_document : (root : List ℕ) (r : Result Env Stop) (lines : Lines) → world_lines (r >>= (λ e. document root e)) ≡ Ok lines → lines.root ≡ root
of_document root (Ok env) lines e =
    let is : record { root = root; rows = env.rows; macros = env.macros } ≡ lines = cc in ap (λ (l : Lines). l.root) (sym is)
of_document root (Err (bad fault)) lines e = absurd cc
of_document root (Err (need path)) lines e = absurd cc

lines_root : (s : Source) (root : List ℕ) (macros fixed : List Macro) (lines : Lines) → world_lines (expansion s root macros fixed) ≡ Ok lines → lines.root ≡ root
unfolding expansion
lines_root s root macros fixed lines e = of_document root (rooted s fixed root (begun macros) (s root)) lines e

pub described_path : (w : World) (path : List ℕ) (inf : InfDoc) → inf_value w path ≡ Ok inf → inf.at.path ≡ path
described_path w path inf e =
    (elim (lines_in w path [] []) as (λ r. lines_in w path [] [] ≡ r → and_then r module_of ≡ Ok inf → inf.at.path ≡ path) [
      | Ok lines ↦ λ l e. module_path lines inf e ∙ lines_root (told (got w)) path [] [] lines l
      | Err fault ↦ λ l e. absurd cc
    ]) refl e
