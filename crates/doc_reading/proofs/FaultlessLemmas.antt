-- Lines of which no condition holds.
use Rattle.std.proofs.Common.{◌≡◌, nat_lt, Bool, true, false, if◌then◌else◌, List, [], ◌∷◌, Option, Some, None, refl}
use Rattle.std.specs.Option.{IsSome}
use Rattle.build_base.specs.declared.fault.Fault.{Fault}
use Rattle.build_base.specs.declared.lines.Taken.{Taken}
use Rattle.meta_lexer.specs.Fields.{ends_quoted}
use Rattle.doc_reading.specs.Least.{lesser, least_of}
use Rattle.doc_reading.specs.Values.{require, of_read_line}

one_of_both : {X : Type 0} (t : Bool) (a b : Fault) → (if t then Some b else Some a) ≡ None → X
one_of_both true a b e = absurd cc
one_of_both false a b e = absurd cc

-- neither of two
pub both_none : (f g : Option Fault) → lesser f g ≡ None → (f ≡ None) × (g ≡ None)
both_none None g e = (refl, e)
both_none (Some a) None e = absurd cc
both_none (Some a) (Some b) e = one_of_both (nat_lt b.code a.code) a b e

-- the first condition doesn't hold
pub least_first : (f : Option Fault) (fs : List (Option Fault)) → least_of (f ∷ fs) ≡ None → f ≡ None
least_first f fs e = (both_none f (least_of fs) e).0

-- and none of the others
pub least_rest : (f : Option Fault) (fs : List (Option Fault)) → least_of (f ∷ fs) ≡ None → least_of fs ≡ None
least_rest f fs e = (both_none f (least_of fs) e).1

unquoted : (t : Bool) (fault : Fault) (faults : List (Option Fault)) → least_of (if t then Some fault ∷ [] else faults) ≡ None → least_of faults ≡ None
unquoted true fault faults e = absurd cc
unquoted false fault faults e = e

-- no condition of a line that is read
pub least_read : (line : Taken) (faults : List (Option Fault)) → least_of (of_read_line line faults) ≡ None → least_of faults ≡ None
least_read line faults e = unquoted (ends_quoted line.text) _ faults e

-- a value that is wanted is there
pub wanted_given : {T : Type 0} (value : Option T) (fault : Fault) → require value fault ≡ None → IsSome value
wanted_given (Some value) fault e = refl
wanted_given None fault e = absurd cc
