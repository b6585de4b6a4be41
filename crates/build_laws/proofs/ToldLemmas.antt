-- What the stages of descriptions, packages and libraries come to in a world.
use Rattle.std.specs.Prelude.{nat_eq}
use Rattle.std.specs.List.{flat_map}
use Rattle.std.specs.Result.{result_err}
use Rattle.std.specs.Cmp.Lexicographic.{pointwise}
use Rattle.std.proofs.Common.{◌≡◌, ℕ, true, List, [], ◌∷◌, map, Contains, Option, None, Result, Ok, Err, refl, sym, ap, ◌∙◌, subst}
use Rattle.std.proofs.lemmas.Cmp.{nat_list_eq_equiv}
use Rattle.build_base.specs.First.{and_then, or_else, or_fault, first_of, with_front, all_ok}
use Rattle.build_base.specs.World.{World}
use Rattle.build_base.specs.declared.fault.Fault.{Fault}
use Rattle.step_engine.specs.Meaning.{right, IsWorld}
use Rattle.step_engine.specs.declared.talk.Ask.{Ask}
use Rattle.step_engine.specs.declared.talk.Ask.TheVariants as ask
use Rattle.step_engine.specs.declared.talk.Answer.TheVariants as answer
use Rattle.step_engine.specs.declared.talk.Outcome.{Outcome}
use Rattle.step_engine.specs.declared.talk.Pair.{Pair}
use Rattle.build_stages.specs.Stages.{Stages, end, stage, run, fault_in, meaning_of, outcome_of}
use Rattle.build_stages.specs.Writing.{attempt, given_part}
use Rattle.doc_types.specs.declared.module.InfDoc.{InfDoc}
use Rattle.step_pack.specs.Keys.{key_cmp}
use Rattle.step_pack.specs.declared.key.Key.{Key}
use Rattle.step_pack.specs.declared.key.Key.TheVariants as key
use Rattle.step_pack.specs.declared.out.Out.{Out}
use Rattle.step_pack.specs.declared.out.Out.TheVariants as out
use Rattle.library_steps.specs.declared.parts.Described.{Described}
use Rattle.library_steps.specs.declared.parts.Linked.{Linked}
use Rattle.library_steps.specs.Asks.{inf_asks, dec_asks}
use Rattle.step_answers.specs.Readers.{inf_of_path, inf_of_out, inf_in, EdkStages, given_as, platform_of_out, platform_in}
use Rattle.library_steps.specs.Parts.{infs_from, dec_of_out, dec_in, package_in, packages_from, held_package, described, described_in, package_paths, parts, parts_in}
use Rattle.step_answers.specs.Fits.{fits}
use Rattle.build_rules.specs.Rules.{edk, value_in}
use Rattle.build_rules.specs.Values.{inf_value, dec_value, platform_value}
use Rattle.build_rules.proofs.Asked.{given_in, fault_asked, AreIn, in_whole, in_one, step_told, each_told, fault_each, step_fault}
use Rattle.build_rules.proofs.KindLemmas.{stage_run}
use Rattle.build_rules.proofs.FirstFaults.{or_same}
use Rattle.build_rules.proofs.ValueLemmas.{dec_is, inf_is, platform_is}
use Rattle.build_laws.specs.ModuleValues.{infs_value, described_value, package_value, packages_value, parts_value}
use Rattle.build_laws.proofs.DescriptionLemmas.{described_path}
use Rattle.build_laws.proofs.ImageValues.{given_or, part_fault}

-- what stages of any kind give in a world
abbrev pub comes : {A : Type 0} → World → Stages Key Out A → Result A Fault
comes w s = run fits (right (meaning_of key_cmp edk) w) s

-- Things that are read by asks of their own. Where no step has a fault each is read as its value,
-- and else the first fault is that of the value.
pub record Reads {X Y : Type 0} (w : World) (own : X → List (Ask Key)) (read : List (Pair Key Out) → X → Result Y Fault) (value : X → Result Y Fault) : Type 0 where
  pub told : (asks : List (Ask Key)) → fault_asked w asks ≡ None → (x : X) → AreIn (own x) asks → read (given_in w asks) x ≡ value x
  pub stop : (x : X) → fault_asked w (own x) ≡ result_err (value x)

-- the fault of a step is asked first
first_fault : {Y : Type 0} (w : World) (k : Key) (variant : Y → Out) (r : Result Y Fault) (asks : List (Ask Key)) → value_in w k ≡ outcome_of (given_as variant r)
    → fault_asked w (ask.Part k ∷ asks) ≡ or_else (result_err r) (fault_asked w asks)
unfolding fault_asked
first_fault w k variant r asks e =
    ap (λ (v : Outcome Out). or_else (fault_in (answer.Part v)) (fault_asked w asks)) e ∙ ap (λ (q : Option Fault). or_else q (fault_asked w asks)) (step_fault variant r)

-- a step that gives its value
pub step_reads : {X Y : Type 0} (w : World) (step : X → Key) (variant : Y → Out) (value : X → Result Y Fault) (unwrap : X → Out → Result Y Fault)
    → ((x : X) → value_in w (step x) ≡ outcome_of (given_as variant (value x)))
    → ((x : X) (y : Y) → value x ≡ Ok y → unwrap x (variant y) ≡ Ok y)
    → Reads w (λ x. ask.Part (step x) ∷ []) (λ given x. and_then (given_part key_cmp given (step x)) (unwrap x)) value
unfolding fault_asked
step_reads w step variant value unwrap is out_is = record {
  told = λ asks none x sub. step_told w asks (step x) variant (value x) (unwrap x) none (in_one (ask.Part (step x)) [] asks sub) (is x) (out_is x);
  stop = λ x. part_fault w (step x) variant (value x) (is x);
}

-- what is made of each of some things by what is read for something within it
made_err : {Y Z : Type 0} (r : Result Y Fault) (make : Y → Result Z Fault) (built : Y → Z) → ((y : Y) → make y ≡ Ok (built y)) → result_err r ≡ result_err (and_then r make)
made_err (Ok y) make built made = sym (ap result_err (made y))
made_err (Err fault) make built made = refl

pub then_reads : {X Y Z V : Type 0} (w : World) (own : X → List (Ask Key)) (read : List (Pair Key Out) → X → Result Y Fault) (value : X → Result Y Fault)
    (within : V → X) (make : V → Y → Result Z Fault) (built : V → Y → Z) → ((v : V) (y : Y) → make v y ≡ Ok (built v y)) → Reads w own read value
    → Reads w (λ v. own (within v)) (λ given v. and_then (read given (within v)) (make v)) (λ v. and_then (value (within v)) (make v))
then_reads {X} {Y} {Z} {V} w own read value within make built made reads = record {
  told = λ asks none v sub. ap (λ (r : Result Y Fault). and_then r (make v)) (reads.told asks none (within v) sub);
  stop = λ v. reads.stop (within v) ∙ made_err (value (within v)) (make v) (built v) (made v);
}

-- all of some things
front_err : {Y : Type 0} (r : Result Y Fault) (rest : Result (List Y) Fault) → or_else (result_err r) (result_err rest) ≡ result_err (and_then r (λ y. with_front (y ∷ []) rest))
front_err (Err fault) rest = refl
front_err (Ok y) (Ok ys) = refl
front_err (Ok y) (Err fault) = refl

all_err : {X Y : Type 0} (value : X → Result Y Fault) (xs : List X) → first_of (map (λ x. result_err (value x)) xs) ≡ result_err (all_ok (map value xs))
all_err value [] = refl
all_err value (x ∷ xs) =
    ap (λ (q : Option Fault). or_else (result_err (value x)) q) (all_err value xs) ∙ front_err (value x) (all_ok (map value xs))

pub each_reads : {X Y : Type 0} (w : World) (own : X → List (Ask Key)) (read : List (Pair Key Out) → X → Result Y Fault) (value : X → Result Y Fault) → Reads w own read value
    → Reads w (λ xs. flat_map own xs) (λ given xs. all_ok (map (read given) xs)) (λ xs. all_ok (map value xs))
each_reads w own read value reads = record {
  told = λ asks none xs sub. each_told asks own (read (given_in w asks)) value (λ x s. reads.told asks none x s) xs sub;
  stop = λ xs. fault_each w own (λ x. result_err (value x)) reads.stop xs ∙ all_err value xs;
}

-- the steps of some things are asked one by one
one_by_one : {X : Type 0} (step : X → Key) (xs : List X) → flat_map (λ x. ask.Part (step x) ∷ []) xs ≡ map (λ x. ask.Part (step x)) xs
one_by_one step [] = refl
one_by_one step (x ∷ xs) = ap (λ (l : List (Ask Key)). ask.Part (step x) ∷ l) (one_by_one step xs)

pub steps_read : {X Y : Type 0} (w : World) (step : X → Key) (read : List (Pair Key Out) → X → Result Y Fault) (value : X → Result Y Fault) → Reads w (λ x. ask.Part (step x) ∷ []) read value
    → Reads w (λ xs. map (λ x. ask.Part (step x)) xs) (λ given xs. all_ok (map (read given) xs)) (λ xs. all_ok (map value xs))
steps_read w step read value reads =
    let each = each_reads w (λ x. ask.Part (step x) ∷ []) read value reads in record {
      told = λ asks none xs sub. each.told asks none xs (subst (λ (l : List (Ask Key)). AreIn l asks) (sym (one_by_one step xs)) sub);
      stop = λ xs. ap (fault_asked w) (sym (one_by_one step xs)) ∙ each.stop xs;
    }

-- a stage that reads them comes to their values
own_fault : {Y : Type 0} (r : Result Y Fault) → or_fault (result_err r) r ≡ r
own_fault (Ok y) = refl
own_fault (Err fault) = refl

pub reads_run : {X Y : Type 0} (w : World) (own : X → List (Ask Key)) (read : List (Pair Key Out) → X → Result Y Fault) (value : X → Result Y Fault) → Reads w own read value
    → (x : X) → comes w (stage (own x) (λ given. end (read given x))) ≡ value x
reads_run w own read value reads x =
    stage_run w (own x) (λ given. end (read given x))
    ∙ or_same (fault_asked w (own x)) (fault_asked w (own x)) (read (given_in w (own x)) x) (value x) refl (λ none. reads.told (own x) none x (in_whole (own x)))
    ∙ ap (λ (q : Option Fault). or_fault q (value x)) (reads.stop x)
    ∙ own_fault (value x)

-- the libraries' descriptions, and the packages

pub named_path : (path : List ℕ) (inf : InfDoc) → inf.at.path ≡ path → inf_of_path path inf ≡ Ok inf
named_path path inf e =
    let same : pointwise nat_eq inf.at.path path ≡ true = ap (λ p. pointwise nat_eq p path) e ∙ nat_list_eq_equiv.refl path in rw same refl

pub infs_read : (w : World) → Reads w inf_asks infs_from (infs_value w)
unfolding inf_in
infs_read w =
    steps_read w key.Inf inf_in (inf_value w)
    (step_reads w key.Inf out.Inf (inf_value w) inf_of_out (λ path. inf_is w path) (λ path inf e. named_path path inf (described_path w path inf e)))

packages_read : (w : World) → Reads w dec_asks packages_from (packages_value w)
unfolding package_in
packages_read w =
    steps_read w key.Dec package_in (package_value w)
    (then_reads w (λ path. ask.Part (key.Dec path) ∷ []) dec_in (dec_value w) (λ path. path) held_package
    (λ path dec. record { path = path; doc = dec }) (λ path dec. refl)
    (step_reads w key.Dec out.Dec (dec_value w) (λ path. dec_of_out) (λ path. dec_is w path) (λ path dec e. refl)))

-- a module with its descriptions
pub described_reads : (w : World) → Reads w (λ (held : Linked). inf_asks held.paths) described_in (described_value w)
unfolding described_in
described_reads w =
    then_reads w inf_asks infs_from (infs_value w) (λ (held : Linked). held.paths) described
    (λ held infs. record { «module» = held.«module»; infs = infs; packages = package_paths held.«module».arch infs }) (λ held infs. refl) (infs_read w)

-- and with its packages
pub parts_reads : (w : World) → Reads w (λ (held : Described). dec_asks held.packages) parts_in (parts_value w)
unfolding parts_in
parts_reads w =
    then_reads w dec_asks packages_from (packages_value w) (λ (held : Described). held.packages) parts
    (λ held packages. record { «module» = held.«module»; infs = held.infs; decs = packages }) (λ held packages. refl) (packages_read w)

-- Stages that try what is read, one after the other.

-- the stage where no step has a fault, and the faults of the steps
pub asked_run : {A : Type 0} (w : World) (variant : A → Out) (asks : List (Ask Key)) (next : List (Pair Key Out) → EdkStages) (r : Result A Fault)
    → (fault_asked w asks ≡ None → comes w (next (given_in w asks)) ≡ given_as variant r) → or_fault (fault_asked w asks) r ≡ r
    → comes w (stage asks next) ≡ given_as variant r
asked_run {A} w variant asks next r h e =
    stage_run w asks next
    ∙ or_same (fault_asked w asks) (fault_asked w asks) (comes w (next (given_in w asks))) (given_as variant r) refl h
    ∙ given_or variant (fault_asked w asks) r
    ∙ ap (λ (t : Result A Fault). given_as variant t) e

found_next : {A B : Type 0} (w : World) (variant : B → Out) (r : Result A Fault) (next : A → EdkStages) (f : A → Result B Fault)
    → ((x : A) → r ≡ Ok x → comes w (next x) ≡ given_as variant (f x)) → comes w (attempt r next) ≡ given_as variant (and_then r f)
found_next w variant (Ok x) next f h = h x refl
found_next w variant (Err fault) next f h = refl

-- what is read is the value
pub read_run : {A B : Type 0} (w : World) (variant : B → Out) (p r : Result A Fault) (next : A → EdkStages) (f : A → Result B Fault) → p ≡ r
    → ((x : A) → r ≡ Ok x → comes w (next x) ≡ given_as variant (f x)) → comes w (attempt p next) ≡ given_as variant (and_then r f)
read_run {A} {B} w variant p r next f e h = ap (λ (t : Result A Fault). comes w (attempt t next)) e ∙ found_next w variant r next f h

stops_value : {A B : Type 0} (r : Result A Fault) (q : Option Fault) (f : A → Result B Fault) → ((x : A) → or_fault q (f x) ≡ f x) → or_fault (or_else (result_err r) q) (and_then r f) ≡ and_then r f
stops_value (Ok x) q f h = h x
stops_value (Err fault) q f h = refl

-- the fault of a step that is asked is that of its value
pub stops_first : {A B : Type 0} (w : World) (k : Key) (variant : A → Out) (r : Result A Fault) (asks : List (Ask Key)) (f : A → Result B Fault) → value_in w k ≡ outcome_of (given_as variant r)
    → ((x : A) → or_fault (fault_asked w asks) (f x) ≡ f x) → or_fault (fault_asked w (ask.Part k ∷ asks)) (and_then r f) ≡ and_then r f
stops_first {A} {B} w k variant r asks f e h =
    ap (λ (q : Option Fault). or_fault q (and_then r f)) (first_fault w k variant r asks e) ∙ stops_value r (fault_asked w asks) f h

-- and fields have none
pub fields_stop : {A : Type 0} (w : World) (fields : List ℕ) (r : Result A Fault) → or_fault (fault_asked w (map (λ n. ask.Field n) fields)) r ≡ r
unfolding fault_asked
fields_stop w [] r = refl
fields_stop w (n ∷ fields) r = fields_stop w fields r

pub platform_told : (w : World) (asks : List (Ask Key)) → IsWorld (meaning_of key_cmp edk) w → fault_asked w asks ≡ None → Contains asks (ask.Part key.Platform)
    → platform_in (given_in w asks) ≡ platform_value w
platform_told w asks e none c = step_told w asks key.Platform out.Platform (platform_value w) platform_of_out none c (platform_is w e) (λ platform h. refl)
