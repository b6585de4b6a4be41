-- The folder of a build, and the files in it, have paths.
use Rattle.std.specs.Prelude.{◌&&◌, ◌||◌}
use Rattle.std.specs.List.{list_all}
use Rattle.std.specs.Option.{is_some}
use Rattle.std.proofs.Common.{◌≡◌, ℕ, ◌+◌, ◌<◌, ◌≤◌, ◌==◌, nat_le, Bool, true, false, if◌then◌else◌, List, ◌++◌, length, codes, Result, Ok, Err, refl, sym, ap, subst, arith, length-append}
use Rattle.std.proofs.lemmas.Bool.{and_from, and_parts}
use Rattle.std.proofs.lemmas.Bool.Decides.{nat_tests}
use Rattle.build_base.specs.Path.{IsPathField, is_path_byte, path_field}
use Rattle.build_base.specs.declared.fault.Fault.{Fault}
use Rattle.build_stages.specs.Stages.{impossible_answer}
use Rattle.job_fields.specs.Values.{is_name, is_name_byte}
use Rattle.job_fields.specs.Readings.{or_default}
use Rattle.step_answers.specs.Folders.{path_below, output_folder}
use Rattle.named_faults.specs.Named.{FailsByName}
use Rattle.module_faults.specs.Folders.{folder_limit, IsNameOrNone}
use Rattle.module_faults.proofs.PathLemmas.{name_byte, both_bytes, long_path, field_there}
use Rattle.job_fields.proofs.LineLemmas.{all_as}

abbrev below_where : Bool → List ℕ → List ℕ → Result (List ℕ) Fault
below_where t folder rest = if t then Ok (folder ++ codes "/" ++ rest) else Err impossible_answer

-- a path in a folder of no more bytes than both may have
pub below_fails : (folder rest : List ℕ) → IsPathField rest → length folder + 1 + length rest ≤ 2048 → FailsByName (path_below folder rest)
unfolding path_below
below_fails folder rest h l =
    let there : (is_some (path_field rest) && nat_le (length folder + 1 + length rest) 2048) ≡ true =
    and_from (is_some (path_field rest)) (nat_le (length folder + 1 + length rest) 2048) (field_there rest h) (grind (arith, nat_tests, l)) in
    subst (λ b. FailsByName (below_where b folder rest)) (sym there) (record {})

pub below_length : (folder rest path : List ℕ) → path_below folder rest ≡ Ok path → length path ≡ length folder + 1 + length rest
unfolding path_below
below_length folder rest path e = by (is_some (path_field rest) && nat_le (length folder + 1 + length rest) 2048) e
  where
    by : (b : Bool) → below_where b folder rest ≡ Ok path → length path ≡ length folder + 1 + length rest
    by true f =
        let same : folder ++ codes "/" ++ rest ≡ path = cc in
        let n = ap length (sym same) in
        let both = length-append (folder ++ codes "/") rest in
        let one = length-append folder (codes "/") in
        omega arith
    by false f = absurd cc

-- The folder of a build.

-- a name, or what stands in its place, of at most 64 bytes
pub record IsWord (text : List ℕ) : Type 0 where
  pub bytes : list_all is_path_byte text ≡ true
  pub some : 0 < length text
  pub short : length text ≤ 64

named : (text : List ℕ) → is_name text ≡ true → IsWord text
unfolding is_name
named text e =
    let all = and_parts (nat_le 1 (length text) && nat_le (length text) 64) (list_all is_name_byte text) e in
    let both = and_parts (nat_le 1 (length text)) (nat_le (length text) 64) all.0 in
    let low = both.0 in
    let high = both.1 in
    record {
      bytes = all_as is_name_byte is_path_byte name_byte text all.1;
      some = grind (arith, nat_tests, low);
      short = grind (arith, nat_tests, high);
    }

default_word : (text default : List ℕ) → IsWord default → IsNameOrNone text → IsWord (or_default text default)
default_word text default d e = by (length text == 0) e
  where
    by : (b : Bool) → (b || is_name text) ≡ true → IsWord (if b then default else text)
    by true f = d
    by false f = named text f

debug_word : IsWord (codes "DEBUG")
unfolding is_path_byte
debug_word = record { bytes = refl; some = omega arith; short = omega arith }

gcc_word : IsWord (codes "GCC")
unfolding is_path_byte
gcc_word = record { bytes = refl; some = omega arith; short = omega arith }

joined_bytes : (xs ys : List ℕ) → list_all is_path_byte xs ≡ true → list_all is_path_byte ys ≡ true → list_all is_path_byte (xs ++ codes "_" ++ ys) ≡ true
unfolding is_path_byte
joined_bytes xs ys a b = both_bytes (xs ++ codes "_") ys (both_bytes xs (codes "_") a refl) b

-- two names with a `_` between them
joined_field : (xs ys : List ℕ) → IsWord xs → IsWord ys → IsPathField (xs ++ codes "_" ++ ys)
joined_field xs ys x y =
    let some = x.some in
    let more = y.some in
    let few = x.short in
    let less = y.short in
    let long = length-append (xs ++ codes "_") ys in
    let front = length-append xs (codes "_") in
    record {
      segments = long_path (xs ++ codes "_" ++ ys) (joined_bytes xs ys x.bytes y.bytes) (omega arith);
      short = omega arith;
    }

joined_length : (xs ys : List ℕ) → IsWord xs → IsWord ys → length (xs ++ codes "_" ++ ys) ≤ 129
joined_length xs ys x y =
    let few = x.short in
    let less = y.short in
    let long = length-append (xs ++ codes "_") ys in
    let front = length-append xs (codes "_") in
    omega arith

pub folder_fails : (output target tag : List ℕ) → IsPathField output → IsNameOrNone target → IsNameOrNone tag → FailsByName (output_folder output target tag)
folder_fails output target tag o a b =
    let x = default_word target (codes "DEBUG") debug_word a in
    let y = default_word tag (codes "GCC") gcc_word b in
    let few = o.short in
    let less = joined_length (or_default target (codes "DEBUG")) (or_default tag (codes "GCC")) x y in
    below_fails output (or_default target (codes "DEBUG") ++ codes "_" ++ or_default tag (codes "GCC")) (joined_field (or_default target (codes "DEBUG")) (or_default tag (codes "GCC")) x y) (omega arith)

pub folder_short : (output target tag folder : List ℕ) → IsPathField output → IsNameOrNone target → IsNameOrNone tag → output_folder output target tag ≡ Ok folder → length folder ≤ folder_limit
folder_short output target tag folder o a b e =
    let x = default_word target (codes "DEBUG") debug_word a in
    let y = default_word tag (codes "GCC") gcc_word b in
    let few = o.short in
    let less = joined_length (or_default target (codes "DEBUG")) (or_default tag (codes "GCC")) x y in
    let long = below_length output (or_default target (codes "DEBUG") ++ codes "_" ++ or_default tag (codes "GCC")) folder e in
    omega arith
