-- Where a talk has all that a round asks for, the round goes on with it.
use Rattle.std.proofs.Common.{◌≡◌, ◌⊎◌, ◌∙◌, inl, inr, ⊎_elim, ℕ, Bool, true, false, true≢false, cond, nat_eq, List, [], ◌∷◌, ◌++◌, Option, Some, None, Result, Ok, append_assoc, refl, sym, ap, ap₂, subst}
use Rattle.std.specs.Option.{option_map}
use Rattle.std.specs.Cmp.{tied_itself}
use Rattle.std.specs.Cmp.Lexicographic.{pointwise}
use Rattle.std.specs.Ordering.{is_eq}
use Rattle.build_base.specs.First.{and_then, with_front}
use Rattle.build_base.specs.declared.fault.Fault.{Fault}
use Rattle.step_engine.specs.declared.talk.Ask.TheVariants as ask
use Rattle.step_engine.specs.declared.talk.Answer.{Answer}
use Rattle.step_engine.specs.declared.talk.Answer.TheVariants as answer
use Rattle.step_engine.specs.declared.talk.Outcome.TheVariants.{Good, Bad}
use Rattle.step_engine.specs.declared.talk.Pair.{Pair}
use Rattle.build_stages.specs.Asks.{same_ask}
use Rattle.build_stages.specs.Known.{Table, known_at, with_first, advance_at}
use Rattle.build_stages.specs.Stages.{Known, Halt, with_answers, cons_both, answered, first_stop, gathered, missing, ended, judged}
use Rattle.build_stages.specs.Told.{part_is}
use Rattle.build_stages.specs.Writing.{is_part, answer_where, part_of}
use Rattle.doc_types.specs.declared.module.InfDoc.{InfDoc}
use Rattle.library_choice.specs.Walks.{Among}
use Rattle.step_pack.specs.KeyLaws.{keys_exact, keys_total}
use Rattle.step_pack.specs.Keys.{key_cmp}
use Rattle.step_pack.specs.declared.key.Key.{Key}
use Rattle.step_pack.specs.declared.key.Key.TheVariants as key
use Rattle.step_pack.specs.declared.out.Out.{Out}
use Rattle.step_pack.specs.declared.out.Out.TheVariants as out
use Rattle.step_answers.specs.Fits.{fits}
use Rattle.step_answers.specs.Readers.{inf_in, inf_of_out}
use Rattle.library_steps.specs.Asks.{inf_asks}
use Rattle.library_steps.specs.Choices.{behind}
use Rattle.library_steps.specs.HeldInfs.{held_doc, held_known, held_inf, held_infs}
use Rattle.library_steps.specs.ModuleTrees.{round_stages}
use Rattle.library_steps.specs.Parts.{infs_from}

-- what is held of a path is its answer
record IsHeld (path : List ℕ) (o : Option (Answer Out)) (inf : InfDoc) : Type 0 where
  is : o ≡ Some (answer.Part (Good (out.Inf inf)))
  own : pointwise nat_eq inf.at.path path ≡ true

held-doc : (path : List ℕ) (given : Out) (inf : InfDoc) → held_doc path given ≡ Some inf → IsHeld path (Some (answer.Part (Good given))) inf
held-doc path (out.Dec x) inf e = absurd cc
held-doc path (out.Platform x) inf e = absurd cc
held-doc path (out.Flash x) inf e = absurd cc
held-doc path (out.Choice x) inf e = absurd cc
held-doc path (out.Values x) inf e = absurd cc
held-doc path (out.Code x) inf e = absurd cc
held-doc path (out.Depex x) inf e = absurd cc
held-doc path (out.File x) inf e = absurd cc
held-doc path (out.Volume x) inf e = absurd cc
held-doc path (out.Device x) inf e = absurd cc
held-doc path (out.Report x) inf e = absurd cc
held-doc path (out.All x) inf e = absurd cc
held-doc path (out.Vpd x) inf e = absurd cc
held-doc path (out.Inf x) inf e = by (pointwise nat_eq x.at.path path) refl e
  where
    by : (b : Bool) → pointwise nat_eq x.at.path path ≡ b → cond b (Some x) None ≡ Some inf → IsHeld path (Some (answer.Part (Good (out.Inf x)))) inf
    by true t e =
        let same : x ≡ inf = cc in
        record { is = ap (λ (i : InfDoc). Some (answer.Part (Good (out.Inf i)))) same; own = subst (λ (i : InfDoc). pointwise nat_eq i.at.path path ≡ true) same t }
    by false t e = absurd cc

held-known : (path : List ℕ) (o : Option (Answer Out)) (inf : InfDoc) → held_known path o ≡ Some inf → IsHeld path o inf
held-known path None inf e = absurd cc
held-known path (Some answer.Absent) inf e = absurd cc
held-known path (Some answer.TooLong) inf e = absurd cc
held-known path (Some (answer.Bytes x)) inf e = absurd cc
held-known path (Some (answer.Field x)) inf e = absurd cc
held-known path (Some (answer.Part (Bad x))) inf e = absurd cc
held-known path (Some (answer.Part (Good x))) inf e = held-doc path x inf e

-- pairs tell of these paths what is known
abbrev Tells : Known Key Out → List (Pair Key Out) → List (List ℕ) → Type 0
Tells known given paths = (x : List ℕ) → Among paths x → answer_where (is_part key_cmp (key.Inf x)) given ≡ known (ask.Part (key.Inf x))

itself : (path : List ℕ) → is_part key_cmp (key.Inf path) (ask.Part (key.Inf path)) ≡ true
itself path = ap is_eq (tied_itself keys_total (key.Inf path))

told-first : (known : Known Key Out) (p : List ℕ) (ps : List (List ℕ)) (a : Answer Out) (rest : List (Pair Key Out)) → known (ask.Part (key.Inf p)) ≡ Some a → Tells known rest ps
    → (x : List ℕ) → (p ≡ x) ⊎ Among ps x → (b : Bool) → is_part key_cmp (key.Inf x) (ask.Part (key.Inf p)) ≡ b
    → cond b (Some a) (answer_where (is_part key_cmp (key.Inf x)) rest) ≡ known (ask.Part (key.Inf x))
told-first known p ps a rest k t x h true e = sym k ∙ ap known (part_is key_cmp keys_exact (key.Inf x) (ask.Part (key.Inf p)) e)
told-first known p ps a rest k t x h false e =
    ⊎_elim (λ (same : p ≡ x). absurd (true≢false (sym (subst (λ z. is_part key_cmp (key.Inf x) (ask.Part (key.Inf z)) ≡ true) (sym same) (itself x)) ∙ e)))
    (λ (there : Among ps x). t x there) h

told-cons : (known : Known Key Out) (p : List ℕ) (ps : List (List ℕ)) (o : Option (Answer Out)) (r : Option (List (Answer Out))) (answers : List (Answer Out))
    → known (ask.Part (key.Inf p)) ≡ o → cons_both o r ≡ Some answers → ((xs : List (Answer Out)) → r ≡ Some xs → Tells known (with_answers (inf_asks ps) xs) ps)
    → Tells known (with_answers (inf_asks (p ∷ ps)) answers) (p ∷ ps)
told-cons known p ps None r answers k e ih = absurd cc
told-cons known p ps (Some a) None answers k e ih = absurd cc
told-cons known p ps (Some a) (Some xs) answers k e ih =
    let is : a ∷ xs ≡ answers = cc in
    subst (λ (ys : List (Answer Out)). Tells known (with_answers (inf_asks (p ∷ ps)) ys) (p ∷ ps)) is
    (λ x h. told-first known p ps a (with_answers (inf_asks ps) xs) k (ih xs refl) x h (is_part key_cmp (key.Inf x) (ask.Part (key.Inf p))) refl)

told : (known : Known Key Out) (ps : List (List ℕ)) (answers : List (Answer Out)) → answered known (inf_asks ps) ≡ Some answers → Tells known (with_answers (inf_asks ps) answers) ps
told known [] answers e = λ x h. absurd h
told known (p ∷ ps) answers e = told-cons known p ps (known (ask.Part (key.Inf p))) (answered known (inf_asks ps)) answers refl e (told known ps)

-- what is held of all paths
record AreHeld (known : Known Key Out) (ps : List (List ℕ)) (infs : List InfDoc) : Type 0 where
  answers : List (Answer Out)
  are : answered known (inf_asks ps) ≡ Some answers
  free : first_stop fits (inf_asks ps) answers ≡ None
  gives : (given : List (Pair Key Out)) → Tells known given ps → infs_from given ps ≡ Ok infs

reads : (known : Known Key Out) (given : List (Pair Key Out)) (p : List ℕ) (inf : InfDoc) → answer_where (is_part key_cmp (key.Inf p)) given ≡ known (ask.Part (key.Inf p)) → IsHeld p (known (ask.Part (key.Inf p))) inf → inf_in given p ≡ Ok inf
unfolding inf_in
reads known given p inf e h =
    ap (λ (o : Option (Answer Out)). and_then (part_of o) (inf_of_out p)) (e ∙ h.is)
    ∙ ap (λ (b : Bool). cond b (Ok inf) (inf_of_out p (out.Report []))) h.own

held-cons : (known : Known Key Out) (p : List ℕ) (ps : List (List ℕ)) (d : InfDoc) (ds : List InfDoc) → IsHeld p (known (ask.Part (key.Inf p))) d → AreHeld known ps ds → AreHeld known (p ∷ ps) (d ∷ ds)
held-cons known p ps d ds h t = record {
  answers = answer.Part (Good (out.Inf d)) ∷ t.answers;
  are = ap₂ cons_both h.is t.are;
  free = t.free;
  gives = λ given tells.
      ap₂ (λ (r : Result InfDoc Fault) (s : Result (List InfDoc) Fault). and_then r (λ x. with_front (x ∷ []) s)) (reads known given p d (tells p (inl refl)) h) (t.gives given (λ x there. tells x (inr there)));
}

held-by : (known : Known Key Out) (p : List ℕ) (ps : List (List ℕ)) (o : Option InfDoc) (r : Option (List InfDoc)) (infs : List InfDoc) → held_inf known p ≡ o → held_infs known ps ≡ r → cons_both o r ≡ Some infs
    → ((ds : List InfDoc) → held_infs known ps ≡ Some ds → AreHeld known ps ds) → AreHeld known (p ∷ ps) infs
held-by known p ps None r infs h t e ih = absurd cc
held-by known p ps (Some d) None infs h t e ih = absurd cc
held-by known p ps (Some d) (Some ds) infs h t e ih =
    let is : d ∷ ds ≡ infs = cc in
    subst (AreHeld known (p ∷ ps)) is (held-cons known p ps d ds (held-known p (known (ask.Part (key.Inf p))) d h) (ih ds t))

all-held : (known : Known Key Out) (ps : List (List ℕ)) (infs : List InfDoc) → held_infs known ps ≡ Some infs → AreHeld known ps infs
all-held known [] infs e =
    let is : [] ≡ infs = cc in
    record { answers = []; are = refl; free = refl; gives = λ given tells. ap Ok is }
all-held known (p ∷ ps) infs e = held-by known p ps (held_inf known p) (held_infs known ps) infs refl refl e (all-held known ps)

pub held_round : (t : Table Key Out) (paths : List (List ℕ)) (infs old : List InfDoc) → Some infs ≡ held_infs (known_at key_cmp t) paths → advance_at key_cmp fits t (round_stages old paths) ≡ Ok (old ++ infs)
held_round t paths infs old e =
    let known : Known Key Out = known_at key_cmp t in
    let held = all-held (known_at key_cmp t) paths infs (sym e) in
    let given : List (Pair Key Out) = with_answers (inf_asks paths) held.answers in
    let goes : List (Pair Key Out) → Result (List InfDoc) (Halt Key) = λ g. ended (and_then (infs_from g paths) (behind old)) in
    ap (λ (o : Option (List (Answer Out))). and_then (gathered fits (inf_asks paths) (missing (same_ask key_cmp) known (inf_asks paths)) o) goes) held.are
    ∙ ap (λ (o : Option Fault). and_then (judged o given) goes) held.free
    ∙ ap (λ (r : Result (List InfDoc) Fault). ended (and_then r (behind old))) (held.gives given (told known paths held.answers held.are))

-- one description more
pub held_more : (o : Option InfDoc) (r : Option (List InfDoc)) (old new : List InfDoc) → option_map (λ (inf : InfDoc). old ++ inf ∷ []) o ≡ Some new → with_first new r ≡ with_first old (cons_both o r)
held_more None r old new e = absurd cc
held_more (Some x) None old new e = refl
held_more (Some x) (Some xs) old new e =
    let is : old ++ x ∷ [] ≡ new = cc in
    ap Some (ap (λ l. l ++ xs) (sym is) ∙ append_assoc old (x ∷ []) xs)
