-- The types of things that a crate below doesn't name for others.
use Rattle.std.proofs.Common.{List, Option}

-- the type of a list's items
abbrev pub ItemOf : {A : Type 0} → List A → Type 0
ItemOf {A = A} xs = A

-- the type of an option's value
abbrev pub ValueOf : {A : Type 0} → Option A → Type 0
ValueOf {A = A} value = A
