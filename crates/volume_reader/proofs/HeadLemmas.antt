-- What is known of a header.
use Rattle.std.proofs.Common.{◌≡◌, ℕ, ◌≤◌, Bool, true, IsTrue, List, length, arith, rules}
use Rattle.std.proofs.lemmas.Bool.Decides.{nat_tests}
use Rattle.volume_reader.specs.Head.{has_names, has_lengths, is_head, header_length, fv_length}

is_true : (b : Bool) → IsTrue b → b ≡ true
is_true b h = search rules

pub record HeadKnown (bytes : List ℕ) : Type 0 where
  pub long : 0x48 ≤ length bytes
  pub least : 0x48 ≤ header_length bytes
  pub whole : header_length bytes ≤ fv_length bytes
  pub inside : fv_length bytes ≤ length bytes

named_long : (bytes : List ℕ) → has_names bytes ≡ true → 0x48 ≤ length bytes
unfolding has_names
named_long bytes h = grind (arith, nat_tests)

lengths_least : (bytes : List ℕ) → has_lengths bytes ≡ true → 0x48 ≤ header_length bytes
unfolding has_lengths
lengths_least bytes h = grind (arith, nat_tests)

lengths_whole : (bytes : List ℕ) → has_lengths bytes ≡ true → header_length bytes ≤ fv_length bytes
unfolding has_lengths
lengths_whole bytes h = grind (arith, nat_tests)

lengths_inside : (bytes : List ℕ) → has_lengths bytes ≡ true → fv_length bytes ≤ length bytes
unfolding has_lengths
lengths_inside bytes h = grind (arith, nat_tests)

head_names : (bytes : List ℕ) → is_head bytes ≡ true → has_names bytes ≡ true
unfolding is_head
head_names bytes h = grind (arith, nat_tests)

head_lengths : (bytes : List ℕ) → is_head bytes ≡ true → has_lengths bytes ≡ true
unfolding is_head
head_lengths bytes h = grind (arith, nat_tests)

pub known_of : (bytes : List ℕ) → is_head bytes ≡ true → HeadKnown bytes
known_of bytes h =
    let l = head_lengths bytes h in record {
      long = named_long bytes (head_names bytes h);
      least = lengths_least bytes l;
      whole = lengths_whole bytes l;
      inside = lengths_inside bytes l;
    }

pub head_known : (bytes : List ℕ) → IsTrue (is_head bytes) → HeadKnown bytes
head_known bytes t = known_of bytes (is_true (is_head bytes) t)
