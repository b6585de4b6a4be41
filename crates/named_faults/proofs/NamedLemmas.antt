-- Faults of parts have names, so those of the whole have.
use Rattle.std.proofs.Common.{◌≡◌, Bool, true, false, ◌&&◌, if◌then◌else◌, List, [], ◌∷◌, map, Option, Some, None, Result, Ok, Err, refl, subst}
use Rattle.std.proofs.lemmas.List.Elements.{All-head, All-tail}
use Rattle.std.specs.List.{All, AllByRecursion}
use Rattle.std.specs.Option.{option_map}
use Rattle.std.specs.Result.{result_err}
use Rattle.build_base.specs.First.{or_else, first_of, first_holding, unless, and_then, or_fault, with_front, all_ok}
use Rattle.build_base.specs.declared.fault.Fault.{Fault}
use Rattle.named_faults.specs.Named.{HasName, IsNamed, FailsByName}

-- Branches.

-- what holds of both branches holds of the one that is taken
pub if_holds : {A : Type 0} (holds : A → Type 0) (t : Bool) (a b : A) → holds a → holds b → holds (if t then a else b)
if_holds holds true a b x y = x
if_holds holds false a b x y = y

pub if_named : (t : Bool) (a b : Option Fault) → IsNamed a → IsNamed b → IsNamed (if t then a else b)
if_named t a b x y = if_holds IsNamed t a b x y

pub if_fails : {T : Type 0} (t : Bool) (a b : Result T Fault) → FailsByName a → FailsByName b → FailsByName (if t then a else b)
if_fails t a b x y = if_holds FailsByName t a b x y

-- a fault where a test holds
pub fault_if_named : (t : Bool) (fault : Fault) → HasName fault → IsNamed (if t then Some fault else None)
fault_if_named t fault n = if_named t (Some fault) None n tt

-- a fault unless a test holds
pub fault_unless_named : (t : Bool) (fault : Fault) → HasName fault → IsNamed (if t then None else Some fault)
fault_unless_named t fault n = if_named t None (Some fault) tt n

-- where two tests hold
pub both_fail : {T : Type 0} (a b : Bool) (x y : Result T Fault) → a ≡ true → b ≡ true → FailsByName x → FailsByName (if a && b then x else y)
both_fail true true x y d e n = n
both_fail true false x y d e n = absurd cc
both_fail false b x y d e n = absurd cc

-- Options.

pub mapped_option_named : {A : Type 0} (f : A → Fault) (x : Option A) → ((a : A) → HasName (f a)) → IsNamed (option_map f x)
mapped_option_named f None n = tt
mapped_option_named f (Some a) n = n a

pub or_else_named : (a b : Option Fault) → IsNamed a → IsNamed b → IsNamed (or_else a b)
or_else_named None b x y = y
or_else_named (Some fault) b x y = x

-- all of some options have names
abbrev pub AreNamed : List (Option Fault) → Type 0
AreNamed [] = Unit {0}
AreNamed (x ∷ xs) = IsNamed x × AreNamed xs

pub first_named : (xs : List (Option Fault)) → AreNamed xs → IsNamed (first_of xs)
first_named [] n = tt
first_named (x ∷ xs) n = or_else_named x (first_of xs) n.0 (first_named xs n.1)

pub mapped_named : {A : Type 0} (f : A → Option Fault) (xs : List A) → ((x : A) → IsNamed (f x)) → AreNamed (map f xs)
mapped_named f [] n = tt
mapped_named f (x ∷ xs) n = (n x, mapped_named f xs n)

-- all of some rows of conditions have names
abbrev pub AreRowsNamed : List (Bool × Fault) → Type 0
AreRowsNamed [] = Unit {0}
AreRowsNamed (row ∷ rows) = HasName row.1 × AreRowsNamed rows

pub holding_named : (rows : List (Bool × Fault)) → AreRowsNamed rows → IsNamed (first_holding rows)
holding_named [] n = tt
holding_named (row ∷ rows) n = if_named row.0 (Some row.1) (first_holding rows) n.0 (holding_named rows n.1)

-- Outcomes.

pub err_named : {T : Type 0} (r : Result T Fault) → FailsByName r → IsNamed (result_err r)
err_named (Ok x) n = tt
err_named (Err fault) n = n

pub then_fails : {A B : Type 0} (r : Result A Fault) (f : A → Result B Fault) → FailsByName r → ((x : A) → r ≡ Ok x → FailsByName (f x)) → FailsByName (and_then r f)
then_fails (Ok x) f n m = m x refl
then_fails (Err fault) f n m = n

pub unless_fails : {T : Type 0} (a : Option Fault) (x : T) → IsNamed a → FailsByName (unless a x)
unless_fails None x n = tt
unless_fails (Some fault) x n = n

pub or_fault_fails : {T : Type 0} (a : Option Fault) (r : Result T Fault) → IsNamed a → (a ≡ None → FailsByName r) → FailsByName (or_fault a r)
or_fault_fails None r n m = m refl
or_fault_fails (Some fault) r n m = n

pub front_fails : {B : Type 0} (front : List B) (r : Result (List B) Fault) → FailsByName r → FailsByName (with_front front r)
front_fails front (Ok xs) n = tt
front_fails front (Err fault) n = n

-- all of some outcomes fail by names
abbrev pub AllFailByName : {T : Type 0} → List (Result T Fault) → Type 0
AllFailByName [] = Unit {0}
AllFailByName (r ∷ rs) = FailsByName r × AllFailByName rs

pub all_fails : {T : Type 0} (rs : List (Result T Fault)) → AllFailByName rs → FailsByName (all_ok rs)
all_fails [] n = tt
all_fails (r ∷ rs) n = then_fails r (λ x. with_front (x ∷ []) (all_ok rs)) n.0 (λ x e. front_fails (x ∷ []) (all_ok rs) (all_fails rs n.1))

pub mapped_fails : {A T : Type 0} (f : A → Result T Fault) (xs : List A) → ((x : A) → FailsByName (f x)) → AllFailByName (map f xs)
mapped_fails f [] n = tt
mapped_fails f (x ∷ xs) n = (n x, mapped_fails f xs n)

-- outcomes that fail by names where their items have a property
pub mapped_where : {A T : Type 0} (P : A → Type 0) (f : A → Result T Fault) → ((x : A) → P x → FailsByName (f x)) → (xs : List A) → AllByRecursion P xs → AllFailByName (map f xs)
mapped_where P f n [] h = tt
mapped_where P f n (x ∷ xs) h = (n x h.0, mapped_where P f n xs h.1)

by_recursion : {A : Type 0} (P : A → Type 0) (xs : List A) → All P xs → AllByRecursion P xs
by_recursion P [] h = tt
by_recursion P (x ∷ xs) h = (All-head P x xs h, by_recursion P xs (All-tail P x xs h))

pub each_fails : {A T : Type 0} (P : A → Type 0) (f : A → Result T Fault) (items : List A) → ((a : A) → P a → FailsByName (f a)) → All P items → AllFailByName (map f items)
each_fails P f items h p = mapped_where P f h items (by_recursion P items p)

-- the fault of an outcome that fails by a name
pub name_of_fault : {T : Type 0} (r : Result T Fault) (fault : Fault) → FailsByName r → r ≡ Err fault → HasName fault
name_of_fault r fault n e = subst FailsByName e n
