-- The faults of the settings and the lines of a device have names.
use Rattle.std.proofs.Common.{ℕ, Bool, nat_le, ◌==◌, List, [], ◌∷◌, length, Option, Some, None, Result, Ok, Err}
use Rattle.std.specs.Prelude.{decimal}
use Rattle.build_base.specs.FaultText.{fault_of}
use Rattle.build_base.specs.Path.{path_field}
use Rattle.build_base.specs.declared.fault.Fault.{Fault}
use Rattle.build_base.specs.declared.lines.Taken.{Taken}
use Rattle.macro_expressions.specs.Macros.{without_workspace}
use Rattle.meta_lexer.specs.Parts.{first_text, field_texts}
use Rattle.meta_lexer.specs.Words.{split_once}
use Rattle.doc_reading.specs.ValueFields.{undefined_macro, number_value}
use Rattle.doc_types.specs.Pcds.{pcd_name_of}
use Rattle.doc_types.specs.Volumes.{size_limit}
use Rattle.doc_types.specs.declared.pcd.PcdName.{PcdName}
use Rattle.fdf_words.specs.DataBytes.{data_of}
use Rattle.fdf_words.specs.DeviceLines as device
use Rattle.fdf_words.specs.Keys.{device_word, key_pair}
use Rattle.fdf_words.specs.Numbers as numbers
use Rattle.fdf_words.specs.SetLines as set
use Rattle.fdf_words.specs.Words.{word_of, after_word}
use Rattle.fdf_words.specs.declared.keys.DeviceWord.{DeviceWord}
use Rattle.fdf_words.specs.declared.keys.DeviceWord.TheVariants as word
use Rattle.fdf_words.specs.declared.marks.Marks.{Marks}
use Rattle.fdf_words.specs.declared.marks.Waiting.{Waiting}
use Rattle.fdf_words.specs.declared.marks.Waiting.TheVariants.{NoRegion, Started, Named}
use Rattle.fdf_words.specs.declared.number.NumberForm.{NumberForm}
use Rattle.fdf_words.specs.declared.number.NumberForm.TheVariants.{Plain, Polarity, Address, Size}
use Rattle.build_base.specs.FaultCodes.{BAD_KEY, BAD_PATH, BAD_REGION, SIZE_TOO_LARGE}
use Rattle.named_faults.specs.Named.{IsNamed}
use Rattle.named_faults.proofs.NamedLemmas.{AreNamed, if_named}
use Rattle.named_faults.proofs.CodeLemmas.{bad_key_named, bad_path_named, bad_region_named, size_too_large_named}
use Rattle.text_faults.proofs.PartLemmas.{first_fault_named}
use Rattle.doc_reading.specs.Least.{fault_in}
use Rattle.text_faults.proofs.GrammarLemmas.{fault_in_named}
use Rattle.text_faults.proofs.ValueLemmas.{require_named, macros_named, number_value_fails}

-- numbers
later_named : (line : Taken) (fields : List (List ℕ)) → IsNamed (numbers.later_macros line fields)
later_named line [] = tt
later_named line (number ∷ fields) = first_fault_named (undefined_macro line.at) fields (macros_named line.at)

form_named : (line : Taken) (value : List ℕ) (fields : List (List ℕ)) (o : Option PcdName) → IsNamed (numbers.form_fault line value fields o)
form_named line value [] o = bad_key_named
form_named line value (number ∷ []) o = tt
form_named line value (number ∷ name ∷ []) (Some pcd) = tt
form_named line value (number ∷ name ∷ []) None = bad_key_named
form_named line value (number ∷ name ∷ more ∷ fields) o = bad_key_named

limit_named : (line : Taken) (f : NumberForm) (value : List ℕ) (r : Result ℕ Fault) → IsNamed (numbers.limit_found line f value r)
limit_named line Polarity value (Ok n) = if_named (nat_le n 1) None (Some (numbers.bad_value line value)) tt bad_key_named
limit_named line Size value (Ok n) = if_named (nat_le n size_limit) None (Some (fault_of SIZE_TOO_LARGE line.at (decimal n))) tt size_too_large_named
limit_named line Plain value (Ok n) = tt
limit_named line Address value (Ok n) = tt
limit_named line f value (Err fault) = tt

pub number_named : (line : Taken) (f : NumberForm) (key value : List ℕ) (misplaced : Bool) → AreNamed (numbers.number_faults line f key value misplaced)
unfolding numbers.number_faults
number_named line f key value misplaced =
    let fields : List (List ℕ) = field_texts value in
    let number : Result ℕ Fault = number_value line.at (first_text fields) in (
      fault_in_named number (number_value_fails line.at (first_text fields)),
      (
        later_named line fields,
        (
          form_named line value fields (numbers.named_pcd f fields),
          (limit_named line f value number, (if_named misplaced (Some (fault_of BAD_KEY line.at key)) None bad_key_named tt, tt)),
        ),
      ),
    )

-- SET
set_parts_named : (line : Taken) (name : List ℕ) (o : Option PcdName) (value : List ℕ) → IsNamed (set.parts_fault line name o value)
set_parts_named line name (Some pcd) value = if_named (length value == 0) (Some (fault_of BAD_KEY line.at name)) None bad_key_named tt
set_parts_named line name None value = bad_key_named

set_halves_named : (line : Taken) (text : List ℕ) (o : Option (List ℕ × List ℕ)) → AreNamed (set.halves_faults line text o)
set_halves_named line text (Some p) = (macros_named line.at p.0, (macros_named line.at p.1, (set_parts_named line p.0 (pcd_name_of p.0) p.1, tt)))
set_halves_named line text None = (macros_named line.at text, (bad_key_named, tt))

pub set_named : (line : Taken) → AreNamed (set.set_faults line)
unfolding set.set_faults
set_named line = set_halves_named line (after_word line.text) (split_once 61 (after_word line.text))

-- a device
pcds_named : (line : Taken) (waiting : Waiting) → IsNamed (device.pcds_fault line waiting)
pcds_named line Started = tt
pcds_named line Named = bad_region_named
pcds_named line NoRegion = bad_region_named

content_named : (line : Taken) (waiting : Waiting) → IsNamed (device.content_fault line waiting)
content_named line Started = tt
content_named line Named = tt
content_named line NoRegion = bad_region_named

no_form_named : (line : Taken) → AreNamed (device.no_form_faults line)
no_form_named line = (macros_named line.at line.text, (bad_region_named, tt))

keyed_named : (line : Taken) (marks : Marks) (key value : List ℕ) (o : Option DeviceWord) → AreNamed (device.keyed_faults line marks key value o)
keyed_named line marks key value (Some (word.Number known)) = number_named line (device.number_form known) key value (device.misplaced marks.pair known)
keyed_named line marks key value (Some word.Volume) = (macros_named line.at value, (content_named line marks.waiting, tt))
keyed_named line marks key value (Some word.Tree) =
    (require_named (path_field (without_workspace value)) (fault_of BAD_PATH line.at value) bad_path_named, (content_named line marks.waiting, tt))
keyed_named line marks key value (Some word.Bytes) =
    (macros_named line.at value, (require_named (data_of value) (numbers.bad_line BAD_REGION line) bad_region_named, (content_named line marks.waiting, tt)))
keyed_named line marks key value None = (macros_named line.at value, (bad_key_named, tt))

one_named : (line : Taken) (waiting : Waiting) (o : Option PcdName) → AreNamed (device.one_faults line waiting o)
one_named line waiting (Some pcd) = (pcds_named line waiting, tt)
one_named line waiting None = no_form_named line

extent_named : (line : Taken) (a b : List ℕ) → AreNamed (fault_in (number_value line.at a) ∷ fault_in (number_value line.at b) ∷ [])
extent_named line a b = (fault_in_named (number_value line.at a) (number_value_fails line.at a), (fault_in_named (number_value line.at b) (number_value_fails line.at b), tt))

pair_named : (line : Taken) (waiting : Waiting) (a b : List ℕ) (first second : Option PcdName) → AreNamed (device.pair_faults line waiting a b first second)
pair_named line waiting a b (Some first) (Some second) = (pcds_named line waiting, tt)
pair_named line waiting a b (Some first) None = extent_named line a b
pair_named line waiting a b None second = extent_named line a b

other_named : (line : Taken) (fields : List (List ℕ)) → AreNamed (device.other_faults line fields)
other_named line fields = (first_fault_named (undefined_macro line.at) fields (macros_named line.at), (bad_region_named, tt))

fields_named : (line : Taken) (waiting : Waiting) (fields : List (List ℕ)) → AreNamed (device.fields_faults line waiting fields)
fields_named line waiting [] = other_named line []
fields_named line waiting (a ∷ []) = one_named line waiting (pcd_name_of a)
fields_named line waiting (a ∷ b ∷ []) = pair_named line waiting a b (pcd_name_of a) (pcd_name_of b)
fields_named line waiting (a ∷ b ∷ c ∷ fields) = other_named line (a ∷ b ∷ c ∷ fields)

unkeyed_named : (line : Taken) (waiting : Waiting) (o : Option DeviceWord) → AreNamed (device.unkeyed_faults line waiting o)
unkeyed_named line waiting (Some (word.Number known)) = (macros_named line.at line.text, (bad_key_named, tt))
unkeyed_named line waiting (Some word.Volume) = fields_named line waiting (field_texts line.text)
unkeyed_named line waiting (Some word.Tree) = fields_named line waiting (field_texts line.text)
unkeyed_named line waiting (Some word.Bytes) = fields_named line waiting (field_texts line.text)
unkeyed_named line waiting None = fields_named line waiting (field_texts line.text)

pair_or_named : (line : Taken) (marks : Marks) (o : Option (List ℕ × List ℕ)) → AreNamed (device.pair_or_faults line marks o)
pair_or_named line marks (Some p) = keyed_named line marks p.0 p.1 (device_word p.0)
pair_or_named line marks None = unkeyed_named line marks.waiting (device_word (word_of line.text))

pub device_named : (line : Taken) (marks : Marks) → AreNamed (device.device_faults line marks)
unfolding device.device_faults
device_named line marks = pair_or_named line marks (key_pair line.text)
