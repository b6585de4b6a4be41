-- Options, one behind the other.
use Rattle.std.proofs.Common.{◌≡◌, ◌<◌, ◌⊎◌, inl, inr, ℕ, zero, suc, ◌+◌, if◌then◌else◌, List, [], ◌∷◌, Option, Some, None, is_some, refl, sym, ap, ap₂, ◌∙◌, arith}
use Rattle.std.specs.Option.{option_and_then}
use Rattle.fdf_words.specs.Words as words
use Rattle.fdf_volumes.specs.declared.inf_line.InfOption.{InfOption}
use Rattle.fdf_volumes.specs.declared.inf_line.InfOption.TheVariants.{RuleOverride, Use, Version, Ui}
use Rattle.fdf_volumes.specs.declared.inf_line.InfOptions.{InfOptions}
use Rattle.fdf_volumes.specs.InfLines as infs
use Rattle.document_laws.specs.StatedOptions.{IsNew, with_stated, IsValue, IsInfOption, BeginsNoOption, AreInfOptions, StatesInf}

-- so many steps
module _ {S : Type 0} (next : S → List ℕ → Option (S × List ℕ)) where
  abbrev pub steps : ℕ → S × List ℕ → Option (S × List ℕ)
  steps zero p = Some p
  steps (suc n) p = option_and_then (steps n) (next p.0 p.1)

  abbrev pub and_step : Option (S × List ℕ) → Option (S × List ℕ)
  and_step = option_and_then (λ p. next p.0 p.1)

  pub last_step : (o : Option (S × List ℕ)) → o ≡ option_and_then (steps 0) o
  last_step None = refl
  last_step (Some p) = refl

  pub one_more : (n : ℕ) (after : Option (S × List ℕ) → Option (S × List ℕ)) → ((o : Option (S × List ℕ)) → after o ≡ option_and_then (steps n) o)
      → (o : Option (S × List ℕ)) → after (and_step o) ≡ option_and_then (steps (suc n)) o
  one_more n after e None = e None
  one_more n after e (Some p) = e (next p.0 p.1)

  pub stays : (n : ℕ) (s : S) (text : List ℕ) → next s text ≡ Some (s, text) → steps n (s, text) ≡ Some (s, text)
  stays zero s text e = refl
  stays (suc n) s text e = ap (option_and_then (steps n)) e ∙ stays n s text e

  pub two_steps : (o : Option (S × List ℕ)) → and_step (and_step o) ≡ option_and_then (steps 2) o
  two_steps o = one_more 1 and_step (one_more 0 (λ x. x) last_step) o

  pub four_steps : (o : Option (S × List ℕ)) → and_step (and_step (and_step (and_step o))) ≡ option_and_then (steps 4) o
  four_steps o = one_more 3 (λ x. and_step (and_step (and_step x))) (one_more 2 (λ x. and_step (and_step x)) two_steps) o

-- options of a module
abbrev left_of : Option (List ℕ) → ℕ
left_of None = 1
left_of (Some value) = 0

abbrev left_in : InfOptions → ℕ
left_in o = left_of o.template + left_of o.arch + left_of o.version + left_of o.ui

fewer : (o : InfOptions) (option : InfOption) (value : List ℕ) → IsNew o option → left_in o ≡ suc (left_in (with_stated o option value))
fewer o RuleOverride value e = ap (λ t. left_of t + left_of o.arch + left_of o.version + left_of o.ui) e ∙ omega arith
fewer o Use value e = ap (λ t. left_of o.template + left_of t + left_of o.version + left_of o.ui) e ∙ omega arith
fewer o Version value e = ap (λ t. left_of o.template + left_of o.arch + left_of t + left_of o.ui) e ∙ omega arith
fewer o Ui value e = ap (λ t. left_of o.template + left_of o.arch + left_of o.version + left_of t) e ∙ omega arith

-- a text that no option begins
no_option : (options : InfOptions) (text : List ℕ) → BeginsNoOption text → infs.next_inf options text ≡ Some (options, text)
unfolding infs.next_inf
no_option options text (inl e) = ap (λ o. infs.with_inf options text o (words.after_equals (words.after_word text))) e ∙ nameless (words.after_equals (words.after_word text))
  where
    nameless : (value : Option (List ℕ)) → infs.with_inf options text None value ≡ Some (options, text)
    nameless (Some value) = refl
    nameless None = refl
no_option options text (inr e) = ap (infs.with_inf options text (infs.inf_option (words.word_of text))) e ∙ valueless (infs.inf_option (words.word_of text))
  where
    valueless : (option : Option InfOption) → infs.with_inf options text option None ≡ Some (options, text)
    valueless (Some RuleOverride) = refl
    valueless (Some Use) = refl
    valueless (Some Version) = refl
    valueless (Some Ui) = refl
    valueless None = refl

-- an option that stands there for the first time
valued : (options : InfOptions) (text : List ℕ) (option : InfOption) (stated value next : List ℕ) → IsNew options option → IsValue option stated value next
    → infs.with_inf options text (Some option) (Some stated) ≡ Some (with_stated options option value, next)
valued options text RuleOverride stated value next n v = rw n (ap₂ (λ w r. Some (with_stated options RuleOverride w, r)) v.0 v.1)
valued options text Use stated value next n v = rw n (ap₂ (λ w r. Some (with_stated options Use w, r)) v.0 v.1)
valued options text Version stated value next n v = rw (v, n) refl
valued options text Ui stated value next n v = rw (v, n) refl

one_option : (options : InfOptions) (text : List ℕ) (option : InfOption) (value next : List ℕ) → IsNew options option → IsInfOption text option value next
    → infs.next_inf options text ≡ Some (with_stated options option value, next)
unfolding infs.next_inf
one_option options text option value next n h = ap₂ (infs.with_inf options text) h.name h.equals ∙ valued options text option h.stated value next n h.value_is

inf_only : (stated : List (InfOption × List ℕ)) (n : ℕ) (before : InfOptions) (text : List ℕ) (after : InfOptions) (rest : List ℕ) → left_in before < n → AreInfOptions before text stated after rest
    → steps infs.next_inf n (before, text) ≡ Some (after, rest)
inf_only [] n before text after rest l h = stays infs.next_inf n before text (no_option before text h.2) ∙ ap₂ (λ o t. Some (o, t)) h.0 h.1
inf_only (option ∷ options) zero before text after rest l h = absurd (omega (arith, l))
inf_only (option ∷ options) (suc n) before text after rest l h =
    let few = fewer before option.0 option.1 h.0 in
    ap (option_and_then (steps infs.next_inf n)) (one_option before text option.0 option.1 h.1.0 h.0 h.1.1)
    ∙ inf_only options n (with_stated before option.0 option.1) h.1.0 after rest (omega (arith, few, l)) h.1.2

-- what one step comes to
abbrev pair_of : InfOptions × List ℕ → Option (InfOptions × List ℕ)
pair_of p = Some p

same_pair : (p q : InfOptions × List ℕ) → pair_of p ≡ pair_of q → p ≡ q
same_pair p q e = cc

first_time : (t : Option (List ℕ)) (p q : InfOptions × List ℕ) → (if is_some t then None else Some p) ≡ pair_of q → (t ≡ None) × (p ≡ q)
first_time (Some x) p q e = absurd cc
first_time None p q e = (refl, same_pair p q e)

-- an option for the first time, before these options and this text
pub record InfStep (options : InfOptions) (text : List ℕ) (p : InfOptions × List ℕ) : Type 0 where
  pub option : InfOption
  pub value : List ℕ
  pub next : List ℕ
  pub is_new : IsNew options option
  pub is_option : IsInfOption text option value next
  pub after : (with_stated options option value, next) ≡ p

abbrev StepOf : InfOptions → List ℕ → InfOptions × List ℕ → Type 0
StepOf options text p = (BeginsNoOption text × ((options, text) ≡ p)) ⊎ InfStep options text p

version_step : (options : InfOptions) (stated : List ℕ) (p : InfOptions × List ℕ) (o : Option (List ℕ × List ℕ)) → infs.quoted_front stated ≡ o → infs.with_version options o ≡ pair_of p
    → (q : List ℕ × List ℕ) × (infs.quoted_front stated ≡ Some (q.0, q.1)) × (options.version ≡ None) × ((with_stated options Version q.0, q.1) ≡ p)
version_step options stated p (Some q) e f = let t = first_time options.version (with_stated options Version q.0, q.1) p f in (q, e, t.0, t.1)
version_step options stated p None e f = absurd cc

ui_step : (options : InfOptions) (stated : List ℕ) (p : InfOptions × List ℕ) (o : Option (List ℕ × List ℕ)) → infs.quoted_front stated ≡ o → infs.with_ui options o ≡ pair_of p
    → (q : List ℕ × List ℕ) × (infs.quoted_front stated ≡ Some (q.0, q.1)) × (options.ui ≡ None) × ((with_stated options Ui q.0, q.1) ≡ p)
ui_step options stated p (Some q) e f = let t = first_time options.ui (with_stated options Ui q.0, q.1) p f in (q, e, t.0, t.1)
ui_step options stated p None e f = absurd cc

step_by : (options : InfOptions) (text : List ℕ) (p : InfOptions × List ℕ) (o : Option InfOption) (v : Option (List ℕ)) → infs.inf_option (words.word_of text) ≡ o → words.after_equals (words.after_word text) ≡ v
    → infs.with_inf options text o v ≡ pair_of p → StepOf options text p
step_by options text p None (Some stated) e f g = inl (inl e, same_pair (options, text) p g)
step_by options text p None None e f g = inl (inl e, same_pair (options, text) p g)
step_by options text p (Some RuleOverride) None e f g = inl (inr f, same_pair (options, text) p g)
step_by options text p (Some Use) None e f g = inl (inr f, same_pair (options, text) p g)
step_by options text p (Some Version) None e f g = inl (inr f, same_pair (options, text) p g)
step_by options text p (Some Ui) None e f g = inl (inr f, same_pair (options, text) p g)
step_by options text p (Some RuleOverride) (Some stated) e f g =
    let t = first_time options.template (with_stated options RuleOverride (words.word_of stated), words.after_word stated) p g in
    inr (record { option = RuleOverride; value = words.word_of stated; next = words.after_word stated; is_new = t.0; is_option = record { stated = stated; name = e; equals = f; value_is = (refl, refl) }; after = t.1 })
step_by options text p (Some Use) (Some stated) e f g =
    let t = first_time options.arch (with_stated options Use (words.word_of stated), words.after_word stated) p g in
    inr (record { option = Use; value = words.word_of stated; next = words.after_word stated; is_new = t.0; is_option = record { stated = stated; name = e; equals = f; value_is = (refl, refl) }; after = t.1 })
step_by options text p (Some Version) (Some stated) e f g =
    let t = version_step options stated p (infs.quoted_front stated) refl g in
    inr (record { option = Version; value = t.0.0; next = t.0.1; is_new = t.2; is_option = record { stated = stated; name = e; equals = f; value_is = t.1 }; after = t.3 })
step_by options text p (Some Ui) (Some stated) e f g =
    let t = ui_step options stated p (infs.quoted_front stated) refl g in
    inr (record { option = Ui; value = t.0.0; next = t.0.1; is_new = t.2; is_option = record { stated = stated; name = e; equals = f; value_is = t.1 }; after = t.3 })

step_is : (options : InfOptions) (text : List ℕ) (p : InfOptions × List ℕ) → infs.next_inf options text ≡ pair_of p → StepOf options text p
unfolding infs.next_inf
step_is options text p e = step_by options text p (infs.inf_option (words.word_of text)) (words.after_equals (words.after_word text)) refl refl e

pub record InfWalk (before : InfOptions) (text : List ℕ) (after : InfOptions) (rest : List ℕ) : Type 0 where
  pub stated : List (InfOption × List ℕ)
  pub are : AreInfOptions before text stated after rest

inf_walk : (n : ℕ) (before : InfOptions) (text : List ℕ) (after : InfOptions) (rest : List ℕ) → left_in before < n → steps infs.next_inf n (before, text) ≡ pair_of (after, rest) → InfWalk before text after rest
inf_walk zero before text after rest l e = absurd (omega (arith, l))
inf_walk (suc n) before text after rest l e = by (inf_walk n) (infs.next_inf before text) refl e
  where
    on : ((before : InfOptions) (text : List ℕ) (after : InfOptions) (rest : List ℕ) → left_in before < n → steps infs.next_inf n (before, text) ≡ pair_of (after, rest) → InfWalk before text after rest)
        → (p : InfOptions × List ℕ) → infs.next_inf before text ≡ pair_of p → StepOf before text p → steps infs.next_inf n p ≡ pair_of (after, rest) → InfWalk before text after rest
    on again p s (inl none) f =
        let q = same_pair (before, text) (after, rest) (sym (stays infs.next_inf n before text (s ∙ ap pair_of (sym none.1))) ∙ ap (steps infs.next_inf n) none.1 ∙ f) in
        record { stated = []; are = (ap (λ p. p.0) q, ap (λ p. p.1) q, none.0) }
    on again p s (inr step) f =
        let few = fewer before step.option step.value step.is_new in
        let w = again (with_stated before step.option step.value) step.next after rest (omega (arith, few, l)) (ap (steps infs.next_inf n) step.after ∙ f) in
        record { stated = (step.option, step.value) ∷ w.stated; are = (step.is_new, (step.next, step.is_option, w.are)) }

    by : ((before : InfOptions) (text : List ℕ) (after : InfOptions) (rest : List ℕ) → left_in before < n → steps infs.next_inf n (before, text) ≡ pair_of (after, rest) → InfWalk before text after rest)
        → (o : Option (InfOptions × List ℕ)) → infs.next_inf before text ≡ o → option_and_then (steps infs.next_inf n) o ≡ pair_of (after, rest) → InfWalk before text after rest
    by again (Some p) s f = on again p s (step_is before text p s) f
    by again None s f = absurd cc

parts_by : (text : List ℕ) → infs.inf_parts text ≡ steps infs.next_inf 5 (infs.no_inf_options, text)
unfolding infs.inf_parts
parts_by text = four_steps infs.next_inf (infs.next_inf infs.no_inf_options text)

pub inf_states : (text : List ℕ) (options : InfOptions) (rest : List ℕ) → StatesInf text options rest → infs.inf_parts text ≡ Some (options, rest)
inf_states text options rest h = parts_by text ∙ inf_only h.stated 5 infs.no_inf_options text options rest (omega arith) h.are

pub inf_found : (text : List ℕ) (options : InfOptions) (rest : List ℕ) → infs.inf_parts text ≡ Some (options, rest) → StatesInf text options rest
inf_found text options rest e =
    let w = inf_walk 5 infs.no_inf_options text options rest (omega arith) (sym (parts_by text) ∙ e) in
    record { stated = w.stated; are = w.are }
