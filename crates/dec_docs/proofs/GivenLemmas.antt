-- Lines of which no condition holds give rows.
use Rattle.std.proofs.Common.{◌≡◌, ◌==◌, nat_lt, ℕ, Bool, true, false, if◌then◌else◌, List, [], ◌∷◌, length, Option, Some, None, option_map, refl}
use Rattle.std.specs.Option.{IsSome}
use Rattle.build_base.specs.Guid.{guid_of}
use Rattle.build_base.specs.FaultText.{fault_of}
use Rattle.build_base.specs.declared.fault.Fault.{Fault}
use Rattle.build_base.specs.declared.guid.Guid.{Guid as GuidBytes}
use Rattle.build_base.specs.declared.lines.Taken.{Taken}
use Rattle.doc_reading.specs.Least.{least_of}
use Rattle.doc_reading.specs.ValueFields.{undefined_macro}
use Rattle.doc_reading.specs.Values.{require}
use Rattle.doc_reading.proofs.FaultlessLemmas.{least_first, least_rest, least_read, wanted_given}
use Rattle.doc_types.specs.Pcds.{datum_named, pcd_name_of}
use Rattle.doc_types.specs.declared.arch.Arch.{Arch}
use Rattle.doc_types.specs.declared.pcd.Datum.{Datum}
use Rattle.doc_types.specs.declared.pcd.Kind.{Kind}
use Rattle.doc_types.specs.declared.pcd.PcdName.{PcdName}
use Rattle.meta_lexer.specs.Faults.{first_fault}
use Rattle.meta_lexer.specs.GuidBraces.{guid_of_braces}
use Rattle.meta_lexer.specs.Numbers.{number_of}
use Rattle.meta_lexer.specs.Parts.{field_texts}
use Rattle.meta_lexer.specs.Words.{split_once, is_identifier}
use Rattle.dec_docs.specs.declared.key_line.DecKey.{DecKey}
use Rattle.dec_docs.specs.declared.key_line.DecKey.TheVariants as key
use Rattle.dec_docs.specs.declared.section.DecSection.{DecSection}
use Rattle.dec_docs.specs.declared.section.DecSection.TheVariants.{Defines, Guids, Pcds}
use Rattle.dec_docs.specs.declared.section.Entry.{Entry}
use Rattle.dec_docs.specs.GuidLines as guids
use Rattle.dec_docs.specs.KeyLines.{key_faults, key_row}
use Rattle.dec_docs.specs.Package.{faults_in, row_in, line_faults, line_row, Lists}
use Rattle.dec_docs.specs.PcdLines as pcds
use Rattle.build_base.specs.FaultCodes.{BAD_NUMBER, BAD_TOKEN, DEC_BAD_GUID}

-- a GUID's line
named : (line : Taken) (arch : Arch) (name : List ℕ) (guid : Option GuidBytes) (t : Bool) (one other : Fault)
    → (if t then require guid one else Some other) ≡ None → IsSome (guids.named_guid line arch name guid)
named line arch name (Some guid) true one other e = refl
named line arch name None true one other e = absurd cc
named line arch name guid false one other e = absurd cc

guid_field_given : (line : Taken) (arch : Arch) (field : List ℕ) (pair : Option (List ℕ × List ℕ)) → least_of (guids.field_faults line field pair) ≡ None → IsSome (guids.field_row line arch pair)
guid_field_given line arch field (Some p) e =
    named line arch p.0 (guid_of_braces p.1) (is_identifier p.0) (fault_of DEC_BAD_GUID line.at p.1) (guids.bad_line line)
    (least_first (guids.pair_fault line p.0 p.1 (guid_of_braces p.1)) [] (least_rest (guids.words_fault line p.0 p.1) (guids.pair_fault line p.0 p.1 (guid_of_braces p.1) ∷ []) e))
guid_field_given line arch field None e = absurd (bad (least_rest (undefined_macro line.at field) (Some (guids.bad_line line) ∷ []) e))
  where
    bad : least_of (Some (guids.bad_line line) ∷ []) ≡ None → ⊥
    bad h = cc

guid_given : (line : Taken) (arch : Arch) → least_of (guids.guid_line_faults line) ≡ None → IsSome (guids.guid_line_row line arch)
unfolding guids.guid_line_faults guids.guid_line_row
guid_given line arch e = guid_field_given line arch (guids.guid_field line) (split_once 61 (guids.guid_field line)) (least_read line _ e)

-- a PCD's line
made : (line : Taken) (arch : Arch) (kind : Kind) (pcd : Option PcdName) (default : List ℕ) (datum : Option Datum) (token : List ℕ) (number : Option ℕ) (missing : Fault)
    → require number missing ≡ None → pcds.parts_fault line pcd default datum ≡ None → pcds.token_fault line token number ≡ None
    → IsSome (pcds.made_pcd line arch kind pcd default datum (pcds.token_of number))
made line arch kind None default datum token number missing w p t = absurd cc
made line arch kind (Some pcd) default None token number missing w p t = absurd cc
made line arch kind (Some pcd) default (Some datum) token None missing w p t = absurd cc
made line arch kind (Some pcd) default (Some datum) token (Some number) missing w p t = fits (nat_lt number 4294967296) t
  where
    fits : (b : Bool) → (if b then None else Some (fault_of BAD_TOKEN line.at token)) ≡ None → IsSome (pcds.made_pcd line arch kind (Some pcd) default (Some datum) (if b then Some number else None))
    fits true h = refl
    fits false h = absurd cc

other : {X : Type 0} (line : Taken) (fields : List (List ℕ)) → least_of (pcds.other_faults line fields) ≡ None → X
other line fields e = absurd (bad (least_rest (first_fault (undefined_macro line.at) fields) (Some (pcds.bad_line line) ∷ []) e))
  where
    bad : least_of (Some (pcds.bad_line line) ∷ []) ≡ None → ⊥
    bad h = cc

fields_given : (line : Taken) (arch : Arch) (kind : Kind) (fields : List (List ℕ)) → least_of (pcds.fields_faults line fields) ≡ None → IsSome (pcds.fields_row line arch kind fields)
fields_given line arch kind [] e = other line [] e
fields_given line arch kind (name ∷ []) e = other line (name ∷ []) e
fields_given line arch kind (name ∷ default ∷ []) e = other line (name ∷ default ∷ []) e
fields_given line arch kind (name ∷ default ∷ datum ∷ []) e = other line (name ∷ default ∷ datum ∷ []) e
fields_given line arch kind (name ∷ default ∷ datum ∷ token ∷ []) e =
    let number = require (number_of token) (fault_of BAD_NUMBER line.at token) in
    let words = pcds.words_fault line name default datum in
    let parts = pcds.parts_fault line (pcd_name_of name) default (datum_named datum) in
    let last = pcds.token_fault line token (number_of token) in
    let after = least_rest number (words ∷ parts ∷ last ∷ []) e in
    let behind = least_rest words (parts ∷ last ∷ []) after in
    made line arch kind (pcd_name_of name) default (datum_named datum) token (number_of token) (fault_of BAD_NUMBER line.at token)
    (least_first number (words ∷ parts ∷ last ∷ []) e)
    (least_first parts (last ∷ []) behind)
    (least_first last [] (least_rest parts (last ∷ []) behind))
fields_given line arch kind (name ∷ default ∷ datum ∷ token ∷ fifth ∷ more) e = other line (name ∷ default ∷ datum ∷ token ∷ fifth ∷ more) e

pcd_given : (line : Taken) (arch : Arch) (kind : Kind) → least_of (pcds.pcd_line_faults line) ≡ None → IsSome (pcds.pcd_line_row line arch kind)
unfolding pcds.pcd_line_faults pcds.pcd_line_row
pcd_given line arch kind e = fields_given line arch kind (field_texts line.text) (least_read line _ e)

given_by : (line : Taken) (arch : Arch) (section : DecSection) → Lists section → least_of (faults_in line section) ≡ None → IsSome (row_in line arch section)
given_by line arch Defines l e = absurd l
given_by line arch Guids l e = guid_given line arch e
given_by line arch (Pcds kind) l e = pcd_given line arch kind e

pub listed_given : (line : Taken) (entry : Entry) → Lists entry.section → least_of (line_faults line entry) ≡ None → IsSome (line_row line entry)
unfolding line_faults line_row
listed_given line entry l e = given_by line entry.arch entry.section l e

mapped : {A B : Type 0} (f : A → B) (o : Option A) → IsSome o → IsSome (option_map f o)
mapped f (Some x) h = refl
mapped f None h = absurd cc

-- a key's line
pub key_given : (line : Taken) (k : DecKey) (value : List ℕ) → least_of (key_faults line (Some k) value) ≡ None → IsSome (key_row (Some k) value)
key_given line key.Name value e = refl
key_given line key.Guid value e =
    let guid = require (guid_of value) (fault_of DEC_BAD_GUID line.at value) in
    mapped _ (guid_of value)
    (wanted_given (guid_of value) (fault_of DEC_BAD_GUID line.at value)
    (least_first guid [] (least_rest (undefined_macro line.at value) (guid ∷ []) (least_read line (undefined_macro line.at value ∷ guid ∷ []) e))))
