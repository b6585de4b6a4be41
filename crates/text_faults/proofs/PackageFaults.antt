-- The fault of a package's declarations has a name.
use Rattle.std.proofs.Common.{ℕ, ◌==◌, nat_lt, List, [], ◌∷◌, length, Option, Some, None}
use Rattle.std.specs.List.{list_any}
use Rattle.build_base.specs.FaultText.{fault_of}
use Rattle.build_base.specs.FaultCodes.{BAD_NUMBER, BAD_TOKEN, DEC_BAD_GUID, DEC_REPEATED_NAME, DEC_UNKNOWN_SECTION}
use Rattle.build_base.specs.Guid.{guid_of}
use Rattle.build_base.specs.declared.guid.Guid.{Guid as GuidBytes}
use Rattle.build_base.specs.declared.lines.Lines.{Lines}
use Rattle.build_base.specs.declared.lines.Taken.{Taken}
use Rattle.meta_lexer.specs.GuidBraces.{guid_of_braces}
use Rattle.meta_lexer.specs.Numbers.{number_of}
use Rattle.meta_lexer.specs.Parts.{field_texts}
use Rattle.meta_lexer.specs.Words.{split_once, is_identifier}
use Rattle.doc_reading.specs.Least.{fault_in}
use Rattle.doc_reading.specs.SegmentNames.{segment_name}
use Rattle.doc_reading.specs.ValueFields.{undefined_macro}
use Rattle.doc_reading.specs.Values.{require, of_read_line}
use Rattle.doc_types.specs.Pcds.{datum_named, pcd_name_of}
use Rattle.doc_types.specs.declared.pcd.Datum.{Datum}
use Rattle.doc_types.specs.declared.pcd.PcdName.{PcdName}
use Rattle.dec_docs.specs.declared.rows.Declared.{Declared}
use Rattle.dec_docs.specs.declared.section.DecSection.{DecSection}
use Rattle.dec_docs.specs.declared.section.DecSection.TheVariants.{Defines, Guids, Pcds}
use Rattle.dec_docs.specs.declared.section.Entry.{Entry}
use Rattle.dec_docs.specs.GuidLines.{words_fault, bad_line, pair_fault, field_faults, guid_field, guid_line_faults}
use Rattle.dec_docs.specs.KeyLines.{keys, key_named, key_faults, pair_faults, key_line_faults}
use Rattle.dec_docs.specs.Package.{faults_in, line_faults, dec_grammar, required, with_required, document_of, package_made, package_of}
use Rattle.dec_docs.specs.PcdLines as pcd
use Rattle.dec_docs.specs.Repeats.{repeats, row_at, row_name, repeat_fault, repeats_fault}
use Rattle.dec_docs.specs.Sections.{head_meaning}
use Rattle.named_faults.specs.Named.{IsNamed, FailsByName}
use Rattle.named_faults.proofs.NamedLemmas.{if_named, AreNamed, first_named, unless_fails}
use Rattle.named_faults.proofs.CodeLemmas.{bad_number_named, bad_token_named, dec_bad_guid_named, dec_bad_pcd_line_named, dec_missing_key_named, dec_repeated_name_named, dec_unknown_section_named}
use Rattle.text_faults.proofs.GrammarLemmas.{fault_in_named, lines_named, IsNamedGrammar, whole_fails}
use Rattle.text_faults.proofs.PartLemmas.{lookup_holds, first_fault_named}
use Rattle.text_faults.proofs.ValueLemmas.{require_named, read_line_named, macros_named, segment_name_fails, meaning_named}

-- The lines of [Defines].

name_key_named : (line : Taken) (value : List ℕ) → AreNamed (of_read_line line (fault_in (segment_name line.at value) ∷ []))
name_key_named line value =
    read_line_named line (fault_in (segment_name line.at value) ∷ []) (fault_in_named (segment_name line.at value) (segment_name_fails line.at value), tt)

guid_named : (line : Taken) (value : List ℕ) (guid : Option GuidBytes) → IsNamed (require guid (fault_of DEC_BAD_GUID line.at value))
guid_named line value guid = require_named guid (fault_of DEC_BAD_GUID line.at value) dec_bad_guid_named

guid_key_named : (line : Taken) (value : List ℕ) → AreNamed (of_read_line line (undefined_macro line.at value ∷ require (guid_of value) (fault_of DEC_BAD_GUID line.at value) ∷ []))
guid_key_named line value =
    read_line_named line (undefined_macro line.at value ∷ require (guid_of value) (fault_of DEC_BAD_GUID line.at value) ∷ []) (macros_named line.at value, (guid_named line value (guid_of value), tt))

keys_named : (line : Taken) (word value : List ℕ) → AreNamed (key_faults line (key_named word) value)
unfolding key_named
keys_named line word value = lookup_holds (λ found. AreNamed (key_faults line found value)) keys word (name_key_named line value, (guid_key_named line value, tt)) tt

pairs_named : (line : Taken) (pair : Option (List ℕ × List ℕ)) → AreNamed (pair_faults line pair)
pairs_named line (Some pair) = keys_named line pair.0 pair.1
pairs_named line None = tt

key_lines_named : (line : Taken) → AreNamed (key_line_faults line)
unfolding key_line_faults
key_lines_named line = pairs_named line (split_once 61 line.text)

-- The lines of GUIDs.

pair_named : (line : Taken) (name value : List ℕ) (guid : Option GuidBytes) → IsNamed (pair_fault line name value guid)
pair_named line name value guid =
    if_named (is_identifier name) (require guid (fault_of DEC_BAD_GUID line.at value)) (Some (bad_line line)) (guid_named line value guid) dec_bad_guid_named

words_named : (line : Taken) (name value : List ℕ) → IsNamed (words_fault line name value)
words_named line name value =
    first_named (undefined_macro line.at name ∷ undefined_macro line.at value ∷ []) (macros_named line.at name, (macros_named line.at value, tt))

field_named : (line : Taken) (field : List ℕ) (pair : Option (List ℕ × List ℕ)) → AreNamed (field_faults line field pair)
field_named line field (Some pair) = (words_named line pair.0 pair.1, (pair_named line pair.0 pair.1 (guid_of_braces pair.1), tt))
field_named line field None = (macros_named line.at field, (dec_bad_guid_named, tt))

guid_lines_named : (line : Taken) → AreNamed (guid_line_faults line)
unfolding guid_line_faults
guid_lines_named line =
    read_line_named line (field_faults line (guid_field line) (split_once 61 (guid_field line))) (field_named line (guid_field line) (split_once 61 (guid_field line)))

-- The lines of PCDs.

texts_named : (line : Taken) (name default datum : List ℕ) → IsNamed (pcd.words_fault line name default datum)
texts_named line name default datum =
    first_named (undefined_macro line.at name ∷ undefined_macro line.at default ∷ undefined_macro line.at datum ∷ [])
    (macros_named line.at name, (macros_named line.at default, (macros_named line.at datum, tt)))

number_named : (line : Taken) (token : List ℕ) (number : Option ℕ) → IsNamed (require number (fault_of BAD_NUMBER line.at token))
number_named line token number = require_named number (fault_of BAD_NUMBER line.at token) bad_number_named

parts_named : (line : Taken) (name : Option PcdName) (default : List ℕ) (datum : Option Datum) → IsNamed (pcd.parts_fault line name default datum)
parts_named line (Some name) default (Some datum) = if_named (length default == 0) (Some (pcd.bad_line line)) None dec_bad_pcd_line_named tt
parts_named line (Some name) default None = dec_bad_pcd_line_named
parts_named line None default datum = dec_bad_pcd_line_named

token_named : (line : Taken) (token : List ℕ) (number : Option ℕ) → IsNamed (pcd.token_fault line token number)
token_named line token (Some number) = if_named (nat_lt number 4294967296) None (Some (fault_of BAD_TOKEN line.at token)) tt bad_token_named
token_named line token None = tt

other_named : (line : Taken) (fields : List (List ℕ)) → AreNamed (pcd.other_faults line fields)
other_named line fields = (first_fault_named (undefined_macro line.at) fields (macros_named line.at), (dec_bad_pcd_line_named, tt))

fields_named : (line : Taken) (fields : List (List ℕ)) → AreNamed (pcd.fields_faults line fields)
fields_named line [] = other_named line []
fields_named line (a ∷ []) = other_named line (a ∷ [])
fields_named line (a ∷ b ∷ []) = other_named line (a ∷ b ∷ [])
fields_named line (a ∷ b ∷ c ∷ []) = other_named line (a ∷ b ∷ c ∷ [])
fields_named line (name ∷ default ∷ datum ∷ token ∷ []) =
    let number = number_of token in
    let parts = parts_named line (pcd_name_of name) default (datum_named datum) in
    (number_named line token number, (texts_named line name default datum, (parts, (token_named line token number, tt))))
fields_named line (a ∷ b ∷ c ∷ d ∷ e ∷ fields) = other_named line (a ∷ b ∷ c ∷ d ∷ e ∷ fields)

pcd_lines_named : (line : Taken) → AreNamed (pcd.pcd_line_faults line)
unfolding pcd.pcd_line_faults
pcd_lines_named line = read_line_named line (pcd.fields_faults line (field_texts line.text)) (fields_named line (field_texts line.text))

-- The document.

section_named : (line : Taken) (section : DecSection) → AreNamed (faults_in line section)
section_named line Defines = key_lines_named line
section_named line Guids = guid_lines_named line
section_named line (Pcds kind) = pcd_lines_named line

lines_below_named : (line : Taken) (entry : Entry) → AreNamed (line_faults line entry)
unfolding line_faults
lines_below_named line entry = section_named line entry.section

grammar_named : IsNamedGrammar dec_grammar
grammar_named = record {
  heads = λ line head. meaning_named DEC_UNKNOWN_SECTION line head (head_meaning head) dec_unknown_section_named;
  stray = dec_unknown_section_named;
  rows = λ above line entry. lines_below_named line entry;
  at_heads = λ above line heads. tt;
  left_open = λ above line. tt;
}

repeat_named : (above : List Declared) (row : Declared) → IsNamed (repeat_fault above row)
repeat_named above row =
    if_named (list_any (λ old. repeats old row) above) (Some (fault_of DEC_REPEATED_NAME (row_at row) (row_name row))) None dec_repeated_name_named tt

repeats_named : (rows : List Declared) → IsNamed (repeats_fault rows)
unfolding repeats_fault
repeats_named rows = lines_named (λ above row last. repeat_fault above row) [] rows (λ above row last. repeat_named above row)

required_fails : (root : List ℕ) (rows : List Declared) (name : Option (List ℕ)) (guid : Option GuidBytes) → FailsByName (required root rows name guid)
required_fails root rows None guid = dec_missing_key_named
required_fails root rows (Some name) None = dec_missing_key_named
required_fails root rows (Some name) (Some guid) = unless_fails (repeats_fault rows) (with_required root name guid rows) (repeats_named rows)

-- what the lines of a package make fails by a name
pub package_fails : (lines : Lines) → FailsByName (package_of lines)
unfolding package_of document_of
package_fails lines = whole_fails dec_grammar grammar_named (package_made lines) lines.rows (λ e. required_fails lines.root _ _ _)
