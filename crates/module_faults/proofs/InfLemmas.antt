-- The name of a module that is read is an identifier.
use Rattle.std.specs.List.{flat_map}
use Rattle.std.proofs.Common.{◌≡◌, ℕ, true, List, Option, Some, None, Ok, subst}
use Rattle.build_base.specs.declared.guid.Guid.{Guid as GuidBytes}
use Rattle.build_base.specs.declared.lines.Lines.{Lines}
use Rattle.doc_reading.specs.Grammar.{first_fault, read_of, rows_of}
use Rattle.doc_types.specs.declared.depex.DepexPart.{DepexPart}
use Rattle.doc_types.specs.declared.module.InfDoc.{InfDoc}
use Rattle.doc_types.specs.declared.module_type.ModuleType.{ModuleType}
use Rattle.inf_docs.specs.Depex.{all_parts}
use Rattle.inf_docs.specs.Modules.{inf_grammar, base_name_in, no_tables, with_rows, tables_of, with_required, required, document_of, module_made, module_of}
use Rattle.inf_docs.proofs.NameLemmas.{NameFits, name_fits}
use Rattle.meta_lexer.specs.Words.{is_identifier}
use Rattle.module_faults.proofs.PartLemmas.{TypeOf, Holds, after_fault}
use Rattle.module_faults.proofs.RowLemmas.{mapped_all, last_holds, rows_have}

abbrev IsName : List ℕ → Type 0
IsName text = is_identifier text ≡ true

required_name : (root : List ℕ) (tables : TypeOf no_tables) (parts : List DepexPart) (name : Option (List ℕ)) (guid : Option GuidBytes) (kind : Option ModuleType) (inf : InfDoc)
    → Holds IsName name → required root tables parts name guid kind ≡ Ok inf → IsName inf.base_name
required_name root tables parts None guid kind inf h e = absurd cc
required_name root tables parts (Some name) None kind inf h e = absurd cc
required_name root tables parts (Some name) (Some guid) None inf h e = absurd cc
required_name root tables parts (Some name) (Some guid) (Some kind) inf h e =
    let same : with_required root tables parts name guid kind ≡ inf = cc in subst (λ (i : InfDoc). IsName i.base_name) same h

pub module_name : (lines : Lines) (inf : InfDoc) → module_of lines ≡ Ok inf → is_identifier inf.base_name ≡ true
unfolding module_of module_made document_of with_rows
module_name lines inf e =
    let reads : TypeOf (read_of inf_grammar lines.rows) = read_of inf_grammar lines.rows in
    let fit = rows_have inf_grammar NameFits (λ above line scope f. name_fits line scope f) lines.rows in
    required_name lines.root (tables_of reads) (all_parts reads) (tables_of reads).base_name (tables_of reads).file_guid (tables_of reads).kind inf
    (last_holds IsName None (flat_map base_name_in (rows_of reads)) tt (mapped_all NameFits IsName base_name_in (λ r h. h) (rows_of reads) fit))
    (after_fault (first_fault inf_grammar lines.rows) (module_made lines reads) inf e)
