-- Lines SET and lines of a device, form by form.
use Rattle.std.proofs.Common.{◌≡◌, ◌==◌, ◌&&◌, ℕ, Bool, true, false, not, if◌then◌else◌, List, [], ◌∷◌, length, Option, Some, None, Result, Ok, refl, ap, ap₂, ◌∙◌, le-leb, codes, decimal, arith}
use Rattle.std.proofs.lemmas.Bool.Decides.{nat_tests}
use Rattle.build_base.specs.FaultCodes.{OPEN_QUOTE, SIZE_TOO_LARGE}
use Rattle.build_base.specs.FaultText.{fault_of}
use Rattle.build_base.specs.declared.fault.Fault.{Fault}
use Rattle.build_base.specs.declared.lines.Taken.{Taken}
use Rattle.meta_lexer.specs.Fields.{ends_quoted}
use Rattle.meta_lexer.specs.Parts.{field_texts}
use Rattle.meta_lexer.specs.Words.{split_once, has_macro_use, same_word}
use Rattle.doc_reading.specs.Gathering.{unless_faulty}
use Rattle.doc_reading.specs.Least.{least_of}
use Rattle.doc_reading.specs.ValueFields.{number_value}
use Rattle.doc_reading.specs.Values.{of_read_line}
use Rattle.doc_types.specs.Pcds.{pcd_name_of}
use Rattle.doc_types.specs.Volumes.{size_limit}
use Rattle.doc_types.specs.declared.pcd.PcdName.{PcdName}
use Rattle.fdf_words.specs.declared.keys.DeviceWord.{DeviceWord}
use Rattle.fdf_words.specs.declared.keys.DeviceWord.TheVariants as device
use Rattle.fdf_words.specs.declared.marks.Marks.{Marks}
use Rattle.fdf_words.specs.declared.marks.Waiting.{Waiting}
use Rattle.fdf_words.specs.declared.marks.Waiting.TheVariants.{NoRegion, Started, Named}
use Rattle.fdf_words.specs.declared.number.NumberForm.{NumberForm}
use Rattle.fdf_words.specs.declared.number.NumberForm.TheVariants as form
use Rattle.fdf_words.specs.declared.rows.Content as content_type
use Rattle.fdf_words.specs.declared.rows.Content.TheVariants as content
use Rattle.fdf_words.specs.declared.rows.DeviceKey.{DeviceKey}
use Rattle.fdf_words.specs.declared.rows.Row.{Row}
use Rattle.fdf_words.specs.declared.rows.Row.TheVariants as row
use Rattle.fdf_words.specs.declared.rows.Scope.{Scope}
use Rattle.fdf_words.specs.declared.rows.Scope.TheVariants as scope
use Rattle.fdf_words.specs.DeviceLines as devices
use Rattle.fdf_words.specs.Keys.{device_word, key_pair, is_set}
use Rattle.fdf_words.specs.Numbers as numbers
use Rattle.fdf_words.specs.SetLines as sets
use Rattle.fdf_words.specs.Words.{begins_with, word_of, after_word}
use Rattle.fdf_lines.specs.Grammar.{line_faults, line_row, rank_of, scope_faults, scope_row}
use Rattle.document_laws.specs.FlashForms.{Says, IsPlain, IsSet, InLimit, TakesPcd, IsNumber, IsDeviceNumber, IsNoNumberKey, IsUnkeyed, NotBoth, IsRegion, ArePcds, IsRegionPcds, IsWaiting, Fills, IsContent}
use Rattle.document_laws.proofs.TextLemmas.{pair_found, split_found, word_found, rest_found, no_pair}

-- a line of SET
closed_line : (line : Taken) (faults : List (Option Fault)) → ends_quoted line.text ≡ false → of_read_line line faults ≡ faults
closed_line line faults e = ap (λ t. if t then Some (fault_of OPEN_QUOTE line.at (codes "\"")) ∷ [] else faults) e

set_line : (line : Taken) → same_word (word_of line.text) (codes "SET") ≡ true → begins_with 61 (after_word line.text) ≡ false → is_set line.text ≡ true
unfolding is_set
set_line line e f = ap₂ (λ a b. a && not b) e f

set_parts : (line : Taken) (rank : ℕ) (name value : List ℕ) (pcd : PcdName) → split_once 61 (after_word line.text) ≡ Some (name, value) → pcd_name_of name ≡ Some pcd → (length value == 0) ≡ false → has_macro_use name ≡ false → has_macro_use value ≡ false
    → unless_faulty (sets.set_faults line) (sets.set_row line rank) ≡ Ok (Some (row.Set (record { at = line.at; rank = rank; pcd = pcd; value = value })))
unfolding sets.set_faults sets.set_row
set_parts line rank name value pcd h p l m n = rw (h, p, l, m, n) refl

pub set_says : (line : Taken) (marks : Marks) (full : Bool) (s : Scope) (pcd : PcdName) (value : List ℕ) → IsSet line pcd value → Says line marks full s (row.Set (record { at = line.at; rank = rank_of s; pcd = pcd; value = value }))
unfolding line_faults line_row
set_says line marks full s pcd value h =
    let word = word_found line.text h.word h.rest h.worded in
    let rest = rest_found line.text h.word h.rest h.worded in
    let set = set_line line (ap (λ w. same_word w (codes "SET")) word ∙ h.word_is) (ap (begins_with 61) rest ∙ h.no_key) in
    let some : (length value == 0) ≡ false = (let l = h.some in grind (arith, nat_tests)) in
    ap (λ t. unless_faulty (if t then of_read_line line (sets.set_faults line) else scope_faults line marks full s) (if t then sets.set_row line (rank_of s) else scope_row line marks s)) set
    ∙ ap (λ fs. unless_faulty fs (sets.set_row line (rank_of s))) (closed_line line (sets.set_faults line) h.closed)
    ∙ set_parts line (rank_of s) h.name value pcd (ap (split_once 61) rest ∙ split_found h.rest h.name value h.split) h.pcd_is some h.name_filled h.value_filled

-- any other line
pub plain_line : (line : Taken) (marks : Marks) (full : Bool) (s : Scope) (x : Result (Option Row) Fault) → IsPlain line → unless_faulty (scope_faults line marks full s) (scope_row line marks s) ≡ x → unless_faulty (line_faults line marks full s) (line_row line marks s) ≡ x
unfolding line_faults line_row
plain_line line marks full s x h e =
    ap (λ t. unless_faulty (if t then of_read_line line (sets.set_faults line) else scope_faults line marks full s) (if t then sets.set_row line (rank_of s) else scope_row line marks s)) h.unset ∙ e

pub read_line : (line : Taken) (faults : List (Option Fault)) (o : Option Row) (x : Result (Option Row) Fault) → IsPlain line → unless_faulty faults o ≡ x → unless_faulty (of_read_line line faults) o ≡ x
read_line line faults o x h e = ap (λ fs. unless_faulty fs o) (closed_line line faults h.closed) ∙ e

pub passed_says : (line : Taken) (marks : Marks) (full : Bool) → IsPlain line → Says line marks full scope.Settings row.Ignored
passed_says line marks full h = plain_line line marks full scope.Settings (Ok (Some row.Ignored)) h refl

device_line : (line : Taken) (marks : Marks) (full : Bool) (name : List ℕ) (r : Row) → IsPlain line → unless_faulty (devices.device_faults line marks) (devices.device_row line) ≡ Ok (Some r) → Says line marks full (scope.Device name) r
device_line line marks full name r h e = plain_line line marks full (scope.Device name) (Ok (Some r)) h (read_line line (devices.device_faults line marks) (devices.device_row line) (Ok (Some r)) h e)

-- a number
within : (line : Taken) (f : NumberForm) (value : List ℕ) (number : ℕ) → InLimit f number → numbers.limit_fault line f value number ≡ None
within line form.Polarity value number l = ap (λ t. if t then None else Some (numbers.bad_value line value)) (le-leb number 1 l)
within line form.Size value number l = ap (λ t. if t then None else Some (fault_of SIZE_TOO_LARGE line.at (decimal number))) (le-leb number size_limit l)
within line form.Plain value number l = refl
within line form.Address value number l = refl

named_by : (f : NumberForm) (field name : List ℕ) (pcd : PcdName) → TakesPcd f → pcd_name_of name ≡ Some pcd → numbers.named_pcd f (field ∷ name ∷ []) ≡ Some pcd
named_by form.Address field name pcd t e = e
named_by form.Size field name pcd t e = e
named_by form.Plain field name pcd t e = absurd t
named_by form.Polarity field name pcd t e = absurd t

pub number_faultless : (line : Taken) (f : NumberForm) (key value : List ℕ) (number : ℕ) (pcd : Option PcdName) → IsNumber line f value number pcd → least_of (numbers.number_faults line f key value false) ≡ None
unfolding numbers.number_faults
number_faultless line f key value number None h = rw (h.fields, h.number_is, within line f value number h.limit) refl
number_faultless line f key value number (Some pcd) h =
    let p = h.fields in
    rw (p.1, h.number_is, p.3, within line f value number h.limit, named_by f h.field p.0 pcd p.4 p.2) refl

pub number_found : (line : Taken) (f : NumberForm) (value : List ℕ) (number : ℕ) (pcd : Option PcdName) → IsNumber line f value number pcd → numbers.number_of_field line f value ≡ Some (record { number = number; pcd = pcd })
unfolding numbers.number_of_field
number_found line form.Address value number None h = rw (h.fields, h.number_is) refl
number_found line form.Size value number None h = rw (h.fields, h.number_is) refl
number_found line form.Plain value number None h = rw (h.fields, h.number_is) refl
number_found line form.Polarity value number None h = rw (h.fields, h.number_is) refl
number_found line f value number (Some pcd) h =
    let p = h.fields in
    rw (p.1, h.number_is, named_by f h.field p.0 pcd p.4 p.2) refl

device_pair : (line : Taken) (marks : Marks) (key value : List ℕ) (known : DeviceWord) (x : Result (Option Row) Fault) → key_pair line.text ≡ Some (key, value) → device_word key ≡ Some known
    → unless_faulty (devices.keyed_faults line marks key value (Some known)) (devices.keyed_row line value (Some known)) ≡ x
    → unless_faulty (devices.device_faults line marks) (devices.device_row line) ≡ x
unfolding devices.device_faults devices.device_row
device_pair line marks key value known x p w e =
    ap (λ o. unless_faulty (devices.pair_or_faults line marks o) (devices.pair_or_row line o)) p
    ∙ ap (λ o. unless_faulty (devices.keyed_faults line marks key value o) (devices.keyed_row line value o)) w ∙ e

pub number_says : (line : Taken) (marks : Marks) (full : Bool) (name : List ℕ) (known : DeviceKey) (number : ℕ) (pcd : Option PcdName) → IsDeviceNumber line marks known number pcd
    → Says line marks full (scope.Device name) (row.Number (record { at = line.at; key = known; number = number; pcd = pcd }))
number_says line marks full name known number pcd h =
    let f = devices.number_form known in
    device_line line marks full name _ h.plain
    (device_pair line marks h.key h.value (device.Number known) _ (pair_found line.text h.key h.value h.pair) h.word_is
    (ap (λ m. unless_faulty (numbers.number_faults line f h.key h.value m) (devices.made_number line known (numbers.number_of_field line f h.value))) h.placed
    ∙ ap (λ o. unless_faulty (numbers.number_faults line f h.key h.value false) (devices.made_number line known o)) (number_found line f h.value number pcd h.number_is)
    ∙ faultless (numbers.number_faults line f h.key h.value false) (number_faultless line f h.key h.value number pcd h.number_is)))
  where
    faultless : (faults : List (Option Fault)) → least_of faults ≡ None → unless_faulty faults (devices.made_number line known (Some (record { number = number; pcd = pcd }))) ≡ Ok (Some (row.Number (record { at = line.at; key = known; number = number; pcd = pcd })))
    faultless faults e = rw e refl

-- what fills a region
waits : (line : Taken) (waiting : Waiting) → IsWaiting waiting → devices.content_fault line waiting ≡ None
waits line NoRegion h = absurd h
waits line Started h = refl
waits line Named h = refl

filled_by : (line : Taken) (marks : Marks) (key value : List ℕ) (known : DeviceWord) (filled : content_type.Content) → Fills known value filled → IsWaiting marks.waiting
    → unless_faulty (devices.keyed_faults line marks key value (Some known)) (devices.keyed_row line value (Some known)) ≡ Ok (Some (row.Content (record { at = line.at; content = filled })))
filled_by line marks key value device.Volume (content.Volume name) h w = rw (h.1, waits line marks.waiting w, h.0) refl
filled_by line marks key value device.Volume (content.Tree path) h w = absurd h
filled_by line marks key value device.Volume (content.Bytes bytes) h w = absurd h
filled_by line marks key value device.Tree (content.Tree path) h w = rw (h, waits line marks.waiting w) refl
filled_by line marks key value device.Tree (content.Volume name) h w = absurd h
filled_by line marks key value device.Tree (content.Bytes bytes) h w = absurd h
filled_by line marks key value device.Bytes (content.Bytes bytes) h w = rw (h.1, h.0, waits line marks.waiting w) refl
filled_by line marks key value device.Bytes (content.Volume name) h w = absurd h
filled_by line marks key value device.Bytes (content.Tree path) h w = absurd h
filled_by line marks key value (device.Number known) filled h w = absurd h

pub content_says : (line : Taken) (marks : Marks) (full : Bool) (name : List ℕ) (filled : content_type.Content) → IsContent line marks filled → Says line marks full (scope.Device name) (row.Content (record { at = line.at; content = filled }))
content_says line marks full name filled h =
    device_line line marks full name (row.Content (record { at = line.at; content = filled })) h.plain
    (device_pair line marks h.key h.value h.word (Ok (Some (row.Content (record { at = line.at; content = filled })))) (pair_found line.text h.key h.value h.pair) h.word_is
    (filled_by line marks h.key h.value h.word filled h.fills h.waiting))

-- a line without `=`
unkeyed_by : (line : Taken) (marks : Marks) (known : Option DeviceWord) → IsNoNumberKey known
    → (x : Result (Option Row) Fault) → unless_faulty (devices.fields_faults line marks.waiting (field_texts line.text)) (devices.fields_row line (field_texts line.text)) ≡ x
    → unless_faulty (devices.unkeyed_faults line marks.waiting known) (devices.unkeyed_row line known) ≡ x
unkeyed_by line marks (Some (device.Number known)) h x e = absurd h
unkeyed_by line marks (Some device.Volume) h x e = e
unkeyed_by line marks (Some device.Tree) h x e = e
unkeyed_by line marks (Some device.Bytes) h x e = e
unkeyed_by line marks None h x e = e

unkeyed : (line : Taken) (marks : Marks) (full : Bool) (name : List ℕ) (r : Row) → IsUnkeyed line
    → unless_faulty (devices.fields_faults line marks.waiting (field_texts line.text)) (devices.fields_row line (field_texts line.text)) ≡ Ok (Some r)
    → Says line marks full (scope.Device name) r
unfolding devices.device_faults devices.device_row
unkeyed line marks full name r h e =
    device_line line marks full name r h.plain
    (ap (λ o. unless_faulty (devices.pair_or_faults line marks o) (devices.pair_or_row line o)) (no_pair line.text h.unequal)
    ∙ unkeyed_by line marks (device_word (word_of line.text)) h.word_is (Ok (Some r)) e)

extent : (line : Taken) (marks : Marks) (a b : List ℕ) (first second : Option PcdName) (offset size : ℕ) → NotBoth first second → number_value line.at a ≡ Ok offset → number_value line.at b ≡ Ok size
    → unless_faulty (devices.pair_faults line marks.waiting a b first second) (devices.pair_row line a b first second) ≡ Ok (Some (row.Region (record { at = line.at; offset = offset; size = size })))
extent line marks a b (Some first) (Some second) offset size n e f = absurd n
extent line marks a b (Some first) None offset size n e f = rw (e, f) refl
extent line marks a b None second offset size n e f = rw (e, f) refl

pub region_says : (line : Taken) (marks : Marks) (full : Bool) (name : List ℕ) (offset size : ℕ) → IsRegion line offset size → Says line marks full (scope.Device name) (row.Region (record { at = line.at; offset = offset; size = size }))
region_says line marks full name offset size h =
    unkeyed line marks full name (row.Region (record { at = line.at; offset = offset; size = size })) h.unkeyed
    (ap (λ fields. unless_faulty (devices.fields_faults line marks.waiting fields) (devices.fields_row line fields)) h.fields
    ∙ extent line marks h.first h.second (pcd_name_of h.first) (pcd_name_of h.second) offset size h.no_pcds h.offset_is h.size_is)

pcds_by : (line : Taken) (waiting : Waiting) (fields : List (List ℕ)) (first : PcdName) (second : Option PcdName) → ArePcds fields first second → waiting ≡ Started
    → unless_faulty (devices.fields_faults line waiting fields) (devices.fields_row line fields) ≡ Ok (Some (row.Pcds (record { at = line.at; first = first; second = second })))
pcds_by line waiting [] first second h s = absurd h
pcds_by line waiting (a ∷ []) first None h s = rw (h, s) refl
pcds_by line waiting (a ∷ []) first (Some second) h s = absurd h
pcds_by line waiting (a ∷ b ∷ []) first None h s = absurd h
pcds_by line waiting (a ∷ b ∷ []) first (Some second) h s = rw (h.0, h.1, s) refl
pcds_by line waiting (a ∷ b ∷ c ∷ more) first None h s = absurd h
pcds_by line waiting (a ∷ b ∷ c ∷ more) first (Some second) h s = absurd h

pub pcds_says : (line : Taken) (marks : Marks) (full : Bool) (name : List ℕ) (first : PcdName) (second : Option PcdName) → IsRegionPcds line marks first second → Says line marks full (scope.Device name) (row.Pcds (record { at = line.at; first = first; second = second }))
pcds_says line marks full name first second h =
    unkeyed line marks full name (row.Pcds (record { at = line.at; first = first; second = second })) h.unkeyed
    (pcds_by line marks.waiting (field_texts line.text) first second h.pcds h.started)
