-- Lines SET and lines of a device of which no condition holds give rows.
use Rattle.std.proofs.Common.{◌≡◌, ℕ, Bool, List, [], ◌∷◌, Option, Some, None, option_map, Result, Ok, Err, refl}
use Rattle.std.specs.Option.{IsSome}
use Rattle.build_base.specs.FaultCodes.{BAD_KEY, BAD_PATH, BAD_REGION}
use Rattle.build_base.specs.FaultText.{fault_of}
use Rattle.build_base.specs.Path.{path_field}
use Rattle.build_base.specs.declared.fault.Fault.{Fault}
use Rattle.build_base.specs.declared.lines.Taken.{Taken}
use Rattle.meta_lexer.specs.Faults.{first_fault}
use Rattle.meta_lexer.specs.Parts.{first_text, field_texts}
use Rattle.meta_lexer.specs.Words.{split_once}
use Rattle.macro_expressions.specs.Macros.{without_workspace}
use Rattle.doc_reading.specs.Least.{least_of, fault_in}
use Rattle.doc_reading.specs.ValueFields.{undefined_macro, number_value}
use Rattle.doc_reading.specs.Values.{require}
use Rattle.doc_reading.proofs.FaultlessLemmas.{least_first, least_rest, wanted_given}
use Rattle.doc_types.specs.Pcds.{pcd_name_of}
use Rattle.doc_types.specs.declared.pcd.PcdName.{PcdName}
use Rattle.fdf_words.specs.declared.keys.DeviceWord.{DeviceWord}
use Rattle.fdf_words.specs.declared.keys.DeviceWord.TheVariants as word
use Rattle.fdf_words.specs.declared.marks.Marks.{Marks}
use Rattle.fdf_words.specs.declared.marks.Waiting.{Waiting}
use Rattle.fdf_words.specs.declared.number.NumberForm.{NumberForm}
use Rattle.fdf_words.specs.declared.rows.DeviceKey.{DeviceKey}
use Rattle.fdf_words.specs.DataBytes.{data_of}
use Rattle.fdf_words.specs.DeviceLines as devices
use Rattle.fdf_words.specs.Keys.{device_word, key_pair}
use Rattle.fdf_words.specs.Numbers as numbers
use Rattle.fdf_words.specs.SetLines as sets
use Rattle.fdf_words.specs.Words.{word_of, after_word}

pub mapped : {A B : Type 0} (f : A → B) (o : Option A) → IsSome o → IsSome (option_map f o)
mapped f (Some x) h = refl
mapped f None h = absurd cc

pub held : {X : Type 0} (fault : Fault) → least_of (Some fault ∷ []) ≡ None → X
held fault e = absurd cc

-- a second condition that always holds
pub second : {X : Type 0} (first : Option Fault) (fault : Fault) → least_of (first ∷ Some fault ∷ []) ≡ None → X
second first fault e = held fault (least_rest first (Some fault ∷ []) e)

-- a line SET
set_made : (line : Taken) (rank : ℕ) (name value : List ℕ) (pcd : Option PcdName) → sets.parts_fault line name pcd value ≡ None → IsSome (sets.made_set line rank pcd value)
set_made line rank name value (Some pcd) e = refl
set_made line rank name value None e = absurd cc

set_by : (line : Taken) (rank : ℕ) (text : List ℕ) (pair : Option (List ℕ × List ℕ)) → least_of (sets.halves_faults line text pair) ≡ None → IsSome (sets.halves_row line rank pair)
set_by line rank text (Some p) e =
    let last = sets.parts_fault line p.0 (pcd_name_of p.0) p.1 in
    set_made line rank p.0 p.1 (pcd_name_of p.0)
    (least_first last []
    (least_rest (undefined_macro line.at p.1) (last ∷ [])
    (least_rest (undefined_macro line.at p.0) (undefined_macro line.at p.1 ∷ last ∷ []) e)))
set_by line rank text None e = second (undefined_macro line.at text) (fault_of BAD_KEY line.at (sets.told_of line text)) e

pub set_given : (line : Taken) (rank : ℕ) → least_of (sets.set_faults line) ≡ None → IsSome (sets.set_row line rank)
unfolding sets.set_faults sets.set_row
set_given line rank e = set_by line rank (after_word line.text) (split_once 61 (after_word line.text)) e

-- a line of a device
numbered : (value : Result ℕ Fault) (pcd : Option PcdName) (rest : List (Option Fault)) → least_of (fault_in value ∷ rest) ≡ None → IsSome (numbers.numbered value pcd)
numbered (Ok number) pcd rest e = refl
numbered (Err fault) pcd rest e = absurd (bad (least_first (Some fault) rest e))
  where
    bad : Some fault ≡ None → ⊥
    bad h = cc

pub number_given : (line : Taken) (form : NumberForm) (key value : List ℕ) (misplaced : Bool) → least_of (numbers.number_faults line form key value misplaced) ≡ None → IsSome (numbers.number_of_field line form value)
unfolding numbers.number_faults numbers.number_of_field
number_given line form key value misplaced e = numbered (number_value line.at (first_text (field_texts value))) (numbers.named_pcd form (field_texts value))
    (numbers.later_macros line (field_texts value)
    ∷ numbers.form_fault line value (field_texts value) (numbers.named_pcd form (field_texts value))
    ∷ numbers.limit_found line form value (number_value line.at (first_text (field_texts value)))
    ∷ numbers.order_fault line key misplaced ∷ []) e

number_made : (line : Taken) (key : DeviceKey) (number : Option _) → IsSome number → IsSome (devices.made_number line key number)
number_made line key (Some number) h = refl
number_made line key None h = absurd cc

tree_made : (line : Taken) (path : Option (List ℕ)) → IsSome path → IsSome (devices.tree_row line path)
tree_made line (Some path) h = refl
tree_made line None h = absurd cc

bytes_made : (line : Taken) (bytes : Option (List ℕ)) → IsSome bytes → IsSome (devices.bytes_row line bytes)
bytes_made line (Some bytes) h = refl
bytes_made line None h = absurd cc

keyed : (line : Taken) (marks : Marks) (key value : List ℕ) (known : Option DeviceWord) → least_of (devices.keyed_faults line marks key value known) ≡ None → IsSome (devices.keyed_row line value known)
keyed line marks key value (Some (word.Number known)) e =
    number_made line known (numbers.number_of_field line (devices.number_form known) value)
    (number_given line (devices.number_form known) key value (devices.misplaced marks.pair known) e)
keyed line marks key value (Some word.Volume) e = refl
keyed line marks key value (Some word.Tree) e =
    tree_made line (path_field (without_workspace value))
    (wanted_given (path_field (without_workspace value)) (fault_of BAD_PATH line.at value) (least_first (require (path_field (without_workspace value)) (fault_of BAD_PATH line.at value)) (devices.content_fault line marks.waiting ∷ []) e))
keyed line marks key value (Some word.Bytes) e =
    let bytes = require (data_of value) (numbers.bad_line BAD_REGION line) in
    let last = devices.content_fault line marks.waiting ∷ [] in
    bytes_made line (data_of value)
    (wanted_given (data_of value) (numbers.bad_line BAD_REGION line)
    (least_first bytes last (least_rest (undefined_macro line.at value) (bytes ∷ last) e)))
keyed line marks key value None e = second (undefined_macro line.at value) (fault_of BAD_KEY line.at key) e

one_given : (line : Taken) (waiting : Waiting) (pcd : Option PcdName) → least_of (devices.one_faults line waiting pcd) ≡ None → IsSome (devices.one_row line pcd)
one_given line waiting (Some pcd) e = refl
one_given line waiting None e = second (undefined_macro line.at line.text) (numbers.bad_line BAD_REGION line) e

extent_given : (line : Taken) (offset size : Result ℕ Fault) → least_of (fault_in offset ∷ fault_in size ∷ []) ≡ None → IsSome (devices.extent_row line offset size)
extent_given line (Ok offset) (Ok size) e = refl
extent_given line (Ok offset) (Err fault) e = second None fault e
extent_given line (Err fault) size e = absurd (bad (least_first (Some fault) (fault_in size ∷ []) e))
  where
    bad : Some fault ≡ None → ⊥
    bad h = cc

pair_given : (line : Taken) (waiting : Waiting) (a b : List ℕ) (first other : Option PcdName) → least_of (devices.pair_faults line waiting a b first other) ≡ None → IsSome (devices.pair_row line a b first other)
pair_given line waiting a b (Some first) (Some other) e = refl
pair_given line waiting a b (Some first) None e = extent_given line (number_value line.at a) (number_value line.at b) e
pair_given line waiting a b None other e = extent_given line (number_value line.at a) (number_value line.at b) e

other_fields : {X : Type 0} (line : Taken) (fields : List (List ℕ)) → least_of (devices.other_faults line fields) ≡ None → X
other_fields line fields e = second (first_fault (undefined_macro line.at) fields) (numbers.bad_line BAD_REGION line) e

fields_given : (line : Taken) (waiting : Waiting) (fields : List (List ℕ)) → least_of (devices.fields_faults line waiting fields) ≡ None → IsSome (devices.fields_row line fields)
fields_given line waiting [] e = other_fields line [] e
fields_given line waiting (a ∷ []) e = one_given line waiting (pcd_name_of a) e
fields_given line waiting (a ∷ b ∷ []) e = pair_given line waiting a b (pcd_name_of a) (pcd_name_of b) e
fields_given line waiting (a ∷ b ∷ c ∷ more) e = other_fields line (a ∷ b ∷ c ∷ more) e

unkeyed_given : (line : Taken) (waiting : Waiting) (known : Option DeviceWord) → least_of (devices.unkeyed_faults line waiting known) ≡ None → IsSome (devices.unkeyed_row line known)
unkeyed_given line waiting (Some (word.Number known)) e = second (undefined_macro line.at line.text) (fault_of BAD_KEY line.at (word_of line.text)) e
unkeyed_given line waiting (Some word.Volume) e = fields_given line waiting (field_texts line.text) e
unkeyed_given line waiting (Some word.Tree) e = fields_given line waiting (field_texts line.text) e
unkeyed_given line waiting (Some word.Bytes) e = fields_given line waiting (field_texts line.text) e
unkeyed_given line waiting None e = fields_given line waiting (field_texts line.text) e

device_by : (line : Taken) (marks : Marks) (pair : Option (List ℕ × List ℕ)) → least_of (devices.pair_or_faults line marks pair) ≡ None → IsSome (devices.pair_or_row line pair)
device_by line marks (Some p) e = keyed line marks p.0 p.1 (device_word p.0) e
device_by line marks None e = unkeyed_given line marks.waiting (device_word (word_of line.text)) e

pub device_given : (line : Taken) (marks : Marks) → least_of (devices.device_faults line marks) ≡ None → IsSome (devices.device_row line)
unfolding devices.device_faults devices.device_row
device_given line marks e = device_by line marks (key_pair line.text) e
