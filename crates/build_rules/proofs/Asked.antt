-- The right answers to asks, and what comes of them by their asks.
use Rattle.std.specs.List.{flat_map}
use Rattle.std.specs.Result.{result_err}
use Rattle.std.proofs.Common.{◌≡◌, ℕ, zero, suc, List, [], ◌∷◌, ◌++◌, map, Contains, Option, Some, None, Result, Ok, Err, refl, sym, ap, ◌∙◌, arith}
use Rattle.std.proofs.lemmas.List.{map-append}
use Rattle.std.proofs.lemmas.List.Elements.{Contains-append_left, Contains-append_right}
use Rattle.build_base.specs.First.{and_then, or_else, or_fault, first_of, with_front, all_ok}
use Rattle.build_base.specs.World.{World, got, field}
use Rattle.build_base.specs.declared.fault.Fault.{Fault}
use Rattle.build_base.specs.declared.outside.Got.{Got}
use Rattle.build_base.specs.declared.outside.Got.TheVariants.{File, Absent, TooLong}
use Rattle.step_engine.specs.Meaning.{right, answer_of}
use Rattle.step_engine.specs.declared.talk.Ask.{Ask}
use Rattle.step_engine.specs.declared.talk.Ask.TheVariants as ask
use Rattle.step_engine.specs.declared.talk.Answer.{Answer}
use Rattle.step_engine.specs.declared.talk.Answer.TheVariants as answer
use Rattle.step_engine.specs.declared.talk.Outcome.{Outcome}
use Rattle.step_engine.specs.declared.talk.Pair.{Pair}
use Rattle.build_stages.specs.Stages.{fault_in, with_answers, outcome_of, meaning_of}
use Rattle.build_stages.specs.Told.{told_file, told_field, told_part}
use Rattle.build_stages.specs.Writing.{part_of, field_of, file_of, given_part, given_field, given_file}
use Rattle.step_pack.specs.KeyLaws.{keys_total, keys_exact}
use Rattle.step_pack.specs.Keys.{key_cmp}
use Rattle.step_pack.specs.declared.key.Key.{Key}
use Rattle.step_pack.specs.declared.out.Out.{Out}
use Rattle.step_answers.specs.Readers.{given_as}
use Rattle.build_rules.specs.Rules.{edk, value_in}
use Rattle.build_rules.proofs.FirstFaults.{none_both, first_append}

-- the right answers to asks in a world, and the asks with them
abbrev pub answers_in : World → List (Ask Key) → List (Answer Out)
answers_in w asks = map (right (meaning_of key_cmp edk) w) asks

abbrev pub given_in : World → List (Ask Key) → List (Pair Key Out)
given_in w asks = with_answers asks (answers_in w asks)

-- the first fault among the steps that are asked
unfoldable pub fault_asked : World → List (Ask Key) → Option Fault
fault_asked w asks = first_of (map fault_in (answers_in w asks))

-- what comes of the answers to asks, where no step that is asked has a fault
abbrev pub by_answers : {A : Type 0} → World → List (Ask Key) → (List (Pair Key Out) → Result A Fault) → Result A Fault
by_answers w asks f = or_fault (fault_asked w asks) (f (given_in w asks))

-- asks that are all among others

abbrev pub AreIn : List (Ask Key) → List (Ask Key) → Type 0
AreIn xs ys = (a : Ask Key) → Contains xs a → Contains ys a

pub in_whole : (xs : List (Ask Key)) → AreIn xs xs
in_whole xs a c = c

pub in_here : (a : Ask Key) (xs : List (Ask Key)) → Contains (a ∷ xs) a
in_here a xs = (0, omega arith, refl)

pub in_there : (a : Ask Key) (xs : List (Ask Key)) → AreIn xs (a ∷ xs)
in_there a xs b (i, l, e) = (suc i, omega (arith, l), e)

pub in_first : (xs ys zs : List (Ask Key)) → AreIn (xs ++ ys) zs → AreIn xs zs
in_first xs ys zs h a c = h a (Contains-append_left xs ys a c)

pub in_behind : (xs ys zs : List (Ask Key)) → AreIn (xs ++ ys) zs → AreIn ys zs
in_behind xs ys zs h a c = h a (Contains-append_right xs ys a c)

pub in_one : (a : Ask Key) (xs zs : List (Ask Key)) → AreIn (a ∷ xs) zs → Contains zs a
in_one a xs zs h = h a (in_here a xs)

pub in_more : (a : Ask Key) (xs zs : List (Ask Key)) → AreIn (a ∷ xs) zs → AreIn xs zs
in_more a xs zs h b c = h b (in_there a xs b c)

-- an ask that is made is told the right answer

pub part_told : (w : World) (asks : List (Ask Key)) (k : Key) → Contains asks (ask.Part k) → given_part key_cmp (given_in w asks) k ≡ part_of (Some (answer.Part (value_in w k)))
part_told w asks k c = ap part_of (told_part key_cmp keys_total keys_exact (right (meaning_of key_cmp edk) w) asks k c)

pub field_told : (w : World) (asks : List (Ask Key)) (n : ℕ) → Contains asks (ask.Field n) → given_field (given_in w asks) n ≡ Ok (field w n)
field_told w asks n c = ap field_of (told_field (right (meaning_of key_cmp edk) w) asks n c)

pub file_told : (w : World) (asks : List (Ask Key)) (path : List ℕ) → Contains asks (ask.File path) → given_file (given_in w asks) path ≡ file_of (Some (answer_of (got w path)))
file_told w asks path c = ap file_of (told_file (right (meaning_of key_cmp edk) w) asks path c)

-- where no step that is asked has a fault, none of these has
no_fault : (w : World) (asks : List (Ask Key)) (a : Ask Key) → first_of (map fault_in (answers_in w asks)) ≡ None → Contains asks a → fault_in (right (meaning_of key_cmp edk) w a) ≡ None
no_fault w [] a none c = absurd (omega (arith, c.1))
no_fault w (b ∷ asks) a none (zero, l, e) =
    sym (ap (λ (x : Ask Key). fault_in (right (meaning_of key_cmp edk) w x)) e)
    ∙ (none_both (fault_in (right (meaning_of key_cmp edk) w b)) (first_of (map fault_in (answers_in w asks))) none).0
no_fault w (b ∷ asks) a none (suc i, l, e) =
    no_fault w asks a (none_both (fault_in (right (meaning_of key_cmp edk) w b)) (first_of (map fault_in (answers_in w asks))) none).1 (i, omega (arith, l), e)

told_value : {Y : Type 0} (variant : Y → Out) (r : Result Y Fault) (unwrap : Out → Result Y Fault) → ((y : Y) → r ≡ Ok y → unwrap (variant y) ≡ Ok y)
    → fault_in (answer.Part (outcome_of (given_as variant r))) ≡ None → and_then (part_of (Some (answer.Part (outcome_of (given_as variant r))))) unwrap ≡ r
told_value variant (Ok y) unwrap h none = h y refl
told_value variant (Err fault) unwrap h none = absurd cc

-- a step that is asked, where none has a fault, is read as its value
pub step_told : {Y : Type 0} (w : World) (asks : List (Ask Key)) (k : Key) (variant : Y → Out) (r : Result Y Fault) (unwrap : Out → Result Y Fault)
    → fault_asked w asks ≡ None → Contains asks (ask.Part k) → value_in w k ≡ outcome_of (given_as variant r) → ((y : Y) → r ≡ Ok y → unwrap (variant y) ≡ Ok y)
    → and_then (given_part key_cmp (given_in w asks) k) unwrap ≡ r
unfolding fault_asked
step_told {Y} w asks k variant r unwrap none c v h =
    ap (λ (q : Result Out Fault). and_then q unwrap) (part_told w asks k c)
    ∙ ap (λ (v : Outcome Out). and_then (part_of (Some (answer.Part v))) unwrap) v
    ∙ told_value variant r unwrap h (ap (λ (v : Outcome Out). fault_in (answer.Part v)) (sym v) ∙ no_fault w asks (ask.Part k) none c)

-- readers of some things, each by asks of its own
pub each_told : {X Y : Type 0} (asks : List (Ask Key)) (own : X → List (Ask Key)) (read value : X → Result Y Fault) → ((x : X) → AreIn (own x) asks → read x ≡ value x)
    → (xs : List X) → AreIn (flat_map own xs) asks → all_ok (map read xs) ≡ all_ok (map value xs)
each_told asks own read value h [] sub = refl
each_told {X} {Y} asks own read value h (x ∷ xs) sub =
    ap (λ (r : Result Y Fault). and_then r (λ y. with_front (y ∷ []) (all_ok (map read xs)))) (h x (in_first (own x) (flat_map own xs) asks sub))
    ∙ ap (λ (r : Result (List Y) Fault). and_then (value x) (λ y. with_front (y ∷ []) r)) (each_told asks own read value h xs (in_behind (own x) (flat_map own xs) asks sub))

-- the fault of a value comes of the value
pub or_err : {A B : Type 0} (r : Result A Fault) (f : A → Result B Fault) → or_fault (result_err r) (and_then r f) ≡ and_then r f
or_err (Ok x) f = refl
or_err (Err fault) f = refl

front_err : {Y : Type 0} (r : Result Y Fault) (q : Option Fault) (t : Result (List Y) Fault)
    → or_fault (or_else (result_err r) q) (and_then r (λ y. with_front (y ∷ []) t)) ≡ and_then r (λ y. with_front (y ∷ []) (or_fault q t))
front_err (Err fault) q t = refl
front_err (Ok y) None t = refl
front_err (Ok y) (Some fault) t = refl

pub err_each : {X Y : Type 0} (value : X → Result Y Fault) (xs : List X) → or_fault (first_of (map (λ x. result_err (value x)) xs)) (all_ok (map value xs)) ≡ all_ok (map value xs)
err_each value [] = refl
err_each {X} {Y} value (x ∷ xs) =
    front_err (value x) (first_of (map (λ x. result_err (value x)) xs)) (all_ok (map value xs))
    ∙ ap (λ (t : Result (List Y) Fault). and_then (value x) (λ y. with_front (y ∷ []) t)) (err_each value xs)

answers_append : (w : World) (xs ys : List (Ask Key)) → answers_in w (xs ++ ys) ≡ answers_in w xs ++ answers_in w ys
answers_append w xs ys = map-append (right (meaning_of key_cmp edk) w) xs ys

-- the first faults of two, and of each of some things

pub fault_append : (w : World) (xs ys : List (Ask Key)) → fault_asked w (xs ++ ys) ≡ or_else (fault_asked w xs) (fault_asked w ys)
unfolding fault_asked
fault_append w xs ys =
    ap (λ (l : List (Answer Out)). first_of (map fault_in l)) (answers_append w xs ys)
    ∙ ap first_of (map-append fault_in (answers_in w xs) (answers_in w ys))
    ∙ first_append (map fault_in (answers_in w xs)) (map fault_in (answers_in w ys))

pub fault_each : {X : Type 0} (w : World) (asks : X → List (Ask Key)) (stop : X → Option Fault) → ((x : X) → fault_asked w (asks x) ≡ stop x)
    → (xs : List X) → fault_asked w (flat_map asks xs) ≡ first_of (map stop xs)
unfolding fault_asked
fault_each w asks stop h [] = refl
fault_each w asks stop h (x ∷ xs) =
    fault_append w (asks x) (flat_map asks xs)
    ∙ ap (λ (q : Option Fault). or_else q (fault_asked w (flat_map asks xs))) (h x)
    ∙ ap (λ (q : Option Fault). or_else (stop x) q) (fault_each w asks stop h xs)

-- a file is no fault
pub got_no_fault : (g : Got) → fault_in {O = Out} (answer_of g) ≡ None
got_no_fault (File bytes) = refl
got_no_fault Absent = refl
got_no_fault TooLong = refl

-- the fault of a step is that of its value
pub step_fault : {A : Type 0} (variant : A → Out) (r : Result A Fault) → fault_in (answer.Part (outcome_of (given_as variant r))) ≡ result_err r
step_fault variant (Ok x) = refl
step_fault variant (Err fault) = refl

-- what follows a value, and a fault

pub or_value : {A B : Type 0} (r : Result A Fault) (s : Result B Fault) (f : A → Result B Fault) → ((x : A) → r ≡ Ok x → s ≡ f x) → or_fault (result_err r) s ≡ and_then r f
or_value (Ok x) s f h = h x refl
or_value (Err fault) s f h = refl

pub or_and : {A B : Type 0} (q : Option Fault) (r : Result A Fault) (f : A → Result B Fault) → or_fault q (and_then r f) ≡ and_then (or_fault q r) f
or_and None r f = refl
or_and (Some fault) r f = refl

pub checked_and : {B : Type 0} (q : Option Fault) (s : Result B Fault) → and_then (or_fault q (Ok tt)) (λ (u : Unit {0}). s) ≡ or_fault q s
checked_and None s = refl
checked_and (Some fault) s = refl

pub else_none : (q : Option Fault) → or_else q None ≡ q
else_none None = refl
else_none (Some fault) = refl
