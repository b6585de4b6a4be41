-- Where the faults of items have names, so has the first of them. What holds of each entry of a table
-- holds of what is looked up.
use Rattle.std.proofs.Common.{ℕ, List, [], ◌∷◌, Option, Some, None}
use Rattle.build_base.specs.declared.fault.Fault.{Fault}
use Rattle.meta_lexer.specs.Faults.{first_fault}
use Rattle.meta_lexer.specs.Lookup.{lookup}
use Rattle.meta_lexer.specs.Words.{same_word}
use Rattle.named_faults.specs.Named.{IsNamed}
use Rattle.named_faults.proofs.NamedLemmas.{if_holds, or_else_named}

-- the first fault of some items
pub first_fault_named : {A : Type 0} (fault : A → Option Fault) (xs : List A) → ((x : A) → IsNamed (fault x)) → IsNamed (first_fault fault xs)
first_fault_named fault [] n = tt
first_fault_named fault (x ∷ xs) n = or_else_named (fault x) (first_fault fault xs) (n x) (first_fault_named fault xs n)

-- the property holds of what each entry gives
abbrev pub HoldsOfEntries : {K : Type 0} → (Option K → Type 0) → List (List ℕ × K) → Type 0
HoldsOfEntries holds [] = Unit {0}
HoldsOfEntries holds (entry ∷ entries) = holds (Some entry.1) × HoldsOfEntries holds entries

pub lookup_holds : {K : Type 0} (holds : Option K → Type 0) (table : List (List ℕ × K)) (word : List ℕ) → HoldsOfEntries holds table → holds None → holds (lookup table word)
unfolding lookup
lookup_holds holds [] word h none = none
lookup_holds holds (entry ∷ entries) word h none =
    if_holds holds (same_word word entry.0) (Some entry.1) (lookup entries word) h.0 (lookup_holds holds entries word h.1 none)
