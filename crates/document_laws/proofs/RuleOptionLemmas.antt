-- Options of a rule's section, one behind the other.
use Rattle.std.proofs.Common.{◌≡◌, ◌<◌, ◌⊎◌, inl, inr, ℕ, zero, suc, ◌+◌, ◌||◌, Bool, true, false, true≢false, if◌then◌else◌, List, [], ◌∷◌, Option, Some, None, option_map, refl, sym, ap, ap₂, subst, ◌∙◌, arith}
use Rattle.std.proofs.lemmas.Bool.{or_parts}
use Rattle.meta_lexer.specs.Words.{same_word}
use Rattle.doc_types.specs.declared.volume.Align.{Align}
use Rattle.doc_types.specs.declared.volume.Align.TheVariants.{Unset, Auto, Bytes}
use Rattle.fdf_words.specs.Words.{word_of, after_word, after_equals, alignment_of}
use Rattle.fdf_lines.specs.declared.rule_options.RuleOption.{RuleOption}
use Rattle.fdf_lines.specs.declared.rule_options.RuleOption.TheVariants as rule
use Rattle.fdf_lines.specs.declared.rule_options.RuleOptions.{RuleOptions}
use Rattle.fdf_lines.specs.Rules as rules
use Rattle.document_laws.specs.StatedOptions.{IsNewInRule, IsRuleOption, IsNoRuleOption, AreInRule, StatesRule}

abbrev Parts : Type 0
Parts = RuleOptions × List ℕ × List ℕ

-- so many steps
abbrev steps : ℕ → Parts → Parts
steps zero p = p
steps (suc n) p = steps n (rules.next_rule p.0 p.1 p.2)

parts_by : (text : List ℕ) → rules.rule_parts text ≡ steps 4 (rules.no_rule_options, [], text)
unfolding rules.rule_parts
parts_by text = refl

abbrev left_of : Bool → ℕ
left_of false = 1
left_of true = 0

abbrev left_align : Align → ℕ
left_align Unset = 1
left_align Auto = 0
left_align (Bytes n) = 0

abbrev left_in : RuleOptions → ℕ
left_in o = left_of o.optional + left_align o.align + left_of o.numbered

no_option : (options : RuleOptions) (number text : List ℕ) (o : Option RuleOption) (v : Option (List ℕ)) → IsNoRuleOption o v → rules.with_rule_option options number text o v ≡ (options, number, text)
no_option options number text None (Some value) h = refl
no_option options number text None None h = refl
no_option options number text (Some rule.Optional) v h = absurd h
no_option options number text (Some rule.Aligned) None h = refl
no_option options number text (Some rule.Aligned) (Some value) h = absurd h
no_option options number text (Some rule.BuildNumber) None h = refl
no_option options number text (Some rule.BuildNumber) (Some value) h = absurd h

passes : (options : RuleOptions) (number text : List ℕ) → IsNoRuleOption (rules.rule_option (word_of text)) (after_equals (after_word text)) → rules.next_rule options number text ≡ (options, number, text)
unfolding rules.next_rule
passes options number text h = no_option options number text (rules.rule_option (word_of text)) (after_equals (after_word text)) h

stays : (n : ℕ) (options : RuleOptions) (number text : List ℕ) → rules.next_rule options number text ≡ (options, number, text) → steps n (options, number, text) ≡ (options, number, text)
stays zero options number text e = refl
stays (suc n) options number text e = ap (steps n) e ∙ stays n options number text e

set_align : (word : List ℕ) (align : Align) → rules.rule_align word ≡ Some align → left_align align ≡ 0
unfolding rules.rule_align
set_align word Unset e = absurd (by (same_word word _) (alignment_of word) e)
  where
    by : (t : Bool) (o : Option ℕ) → (if t then Some Auto else option_map Bytes o) ≡ Some Unset → ⊥
    by true o f = cc
    by false (Some n) f = cc
    by false None f = cc
set_align word Auto e = refl
set_align word (Bytes n) e = refl

-- an option for the first time
one_option : (before : RuleOptions) (number text : List ℕ) (option : RuleOption) (after : RuleOptions) (written next : List ℕ) → before.wrong ≡ false → IsNewInRule before option → rules.rule_option (word_of text) ≡ Some option → IsRuleOption text before number option after written next
    → rules.next_rule before number text ≡ (after, written, next)
unfolding rules.next_rule
one_option before number text rule.Optional after written next w n o h =
    ap (λ o. rules.with_rule_option before number text o (after_equals (after_word text))) o
    ∙ (λ i. (record before { optional = true; wrong = ((ap₂ (λ a b. a || b) w n) ∙ sym w) i }, number, after_word text))
    ∙ (λ i. (h.0 i, h.1 i, h.2 i))
one_option before number text rule.Aligned after written next w n o h =
    ap₂ (rules.with_rule_option before number text) o h.2
    ∙ ap (λ a. (rules.with_rule_align before a, number, after_word h.0)) h.3
    ∙ ap (λ t. (if t then record before { align = h.1 } else record before { wrong = true }, number, after_word h.0)) (ap rules.is_unset n)
    ∙ (λ i. (h.4 i, h.5 i, h.6 i))
one_option before number text rule.BuildNumber after written next w n o h =
    ap₂ (rules.with_rule_option before number text) o h.1
    ∙ (λ i. (record before { numbered = true; wrong = ((ap₂ (λ a b. a || b) w n) ∙ sym w) i }, rules.first_number before number (word_of h.0), after_word h.0))
    ∙ ap (λ t. (record before { numbered = true }, if t then number else word_of h.0, after_word h.0)) n
    ∙ (λ i. (h.2 i, h.3 i, h.4 i))

fewer : (before : RuleOptions) (number text : List ℕ) (option : RuleOption) (after : RuleOptions) (written next : List ℕ) → IsNewInRule before option → IsRuleOption text before number option after written next → left_in before ≡ suc (left_in after)
fewer before number text rule.Optional after written next n h =
    ap (λ t. left_of t + left_align before.align + left_of before.numbered) n ∙ omega (arith, ap left_in h.0)
fewer before number text rule.Aligned after written next n h =
    ap (λ a. left_of before.optional + left_align a + left_of before.numbered) n ∙ omega (arith, ap left_in h.4, set_align (word_of h.0) h.1 h.3)
fewer before number text rule.BuildNumber after written next n h =
    ap (λ t. left_of before.optional + left_align before.align + left_of t) n ∙ omega (arith, ap left_in h.2)

right_after : (before : RuleOptions) (number text : List ℕ) (option : RuleOption) (after : RuleOptions) (written next : List ℕ) → before.wrong ≡ false → IsRuleOption text before number option after written next → after.wrong ≡ false
right_after before number text rule.Optional after written next w h = ap (λ (o : RuleOptions). o.wrong) (sym h.0) ∙ w
right_after before number text rule.Aligned after written next w h = ap (λ (o : RuleOptions). o.wrong) (sym h.4) ∙ w
right_after before number text rule.BuildNumber after written next w h = ap (λ (o : RuleOptions). o.wrong) (sym h.2) ∙ w

only : (stated : List RuleOption) (n : ℕ) (before : RuleOptions) (number text : List ℕ) (after : RuleOptions) (written rest : List ℕ) → left_in before < n → before.wrong ≡ false → AreInRule before number text stated after written rest
    → (steps n (before, number, text) ≡ (after, written, rest)) × (after.wrong ≡ false)
only [] n before number text after written rest l w h =
    (stays n before number text (passes before number text h.3) ∙ (λ i. (h.0 i, h.1 i, h.2 i)), ap (λ (o : RuleOptions). o.wrong) (sym h.0) ∙ w)
only (first ∷ more_options) zero before number text after written rest l w h = absurd (omega (arith, l))
only (first ∷ more_options) (suc n) before number text after written rest l w h =
    let m = h.2 in
    let more = only more_options n m.0 m.1 m.2 after written rest (omega (arith, l, fewer before number text first m.0 m.1 m.2 h.0 m.3)) (right_after before number text first m.0 m.1 m.2 w m.3) m.4 in
    (ap (steps n) (one_option before number text first m.0 m.1 m.2 w h.0 h.1 m.3) ∙ more.0, more.1)

pub rule_states : (text : List ℕ) (options : RuleOptions) (written rest : List ℕ) → StatesRule text options written rest → (rules.rule_parts text ≡ (options, written, rest)) × (options.wrong ≡ false)
rule_states text options written rest h =
    let o = only h.stated 4 rules.no_rule_options [] text options written rest (omega arith) refl h.are in
    (parts_by text ∙ o.0, o.1)

-- an alignment, where none is stated above
abbrev align_by : RuleOptions → Align → Bool → RuleOptions
align_by o a unset = if unset then record o { align = a } else record o { wrong = true }

-- what is wrong stays wrong
wrong_by : (o : RuleOptions) (number text : List ℕ) (option : Option RuleOption) (v : Option (List ℕ)) → o.wrong ≡ true → (rules.with_rule_option o number text option v).0.wrong ≡ true
wrong_by o number text None (Some value) w = w
wrong_by o number text None None w = w
wrong_by o number text (Some rule.Optional) (Some value) w = ap (λ t. t || o.optional) w
wrong_by o number text (Some rule.Optional) None w = ap (λ t. t || o.optional) w
wrong_by o number text (Some rule.Aligned) (Some value) w = by (rules.rule_align (word_of value))
  where
    on : (a : Align) (t : Bool) → (align_by o a t).wrong ≡ true
    on a true = w
    on a false = refl

    by : (a : Option Align) → (rules.with_rule_align o a).wrong ≡ true
    by (Some a) = on a (rules.is_unset o.align)
    by None = refl
wrong_by o number text (Some rule.Aligned) None w = w
wrong_by o number text (Some rule.BuildNumber) (Some value) w = ap (λ t. t || o.numbered) w
wrong_by o number text (Some rule.BuildNumber) None w = w

wrong_next : (p : Parts) → p.0.wrong ≡ true → (rules.next_rule p.0 p.1 p.2).0.wrong ≡ true
unfolding rules.next_rule
wrong_next p w = wrong_by p.0 p.1 p.2 (rules.rule_option (word_of p.2)) (after_equals (after_word p.2)) w

wrong_stays : (n : ℕ) (p : Parts) → p.0.wrong ≡ true → (steps n p).0.wrong ≡ true
wrong_stays zero p w = w
wrong_stays (suc n) p w = wrong_stays n (rules.next_rule p.0 p.1 p.2) (wrong_next p w)

pub record RuleStep (before : RuleOptions) (number text : List ℕ) (p : Parts) : Type 0 where
  pub option : RuleOption
  pub is_new : IsNewInRule before option
  pub name : rules.rule_option (word_of text) ≡ Some option
  pub is_option : IsRuleOption text before number option p.0 p.1 p.2

abbrev StepOf : RuleOptions → List ℕ → List ℕ → Parts → Type 0
StepOf before number text p = (IsNoRuleOption (rules.rule_option (word_of text)) (after_equals (after_word text)) × ((before, number, text) ≡ p)) ⊎ RuleStep before number text p

align_step : (before : RuleOptions) (number text value : List ℕ) (a : Align) (b : Align) → before.align ≡ b → rules.rule_align (word_of value) ≡ Some a → rules.rule_option (word_of text) ≡ Some rule.Aligned → after_equals (after_word text) ≡ Some value → (align_by before a (rules.is_unset b)).wrong ≡ false
    → RuleStep before number text (align_by before a (rules.is_unset b), number, after_word value)
align_step before number text value a Unset u e f g w = record { option = rule.Aligned; is_new = u; name = f; is_option = (value, a, g, e, refl, refl, refl) }
align_step before number text value a Auto u e f g w = absurd (true≢false w)
align_step before number text value a (Bytes n) u e f g w = absurd (true≢false w)

some_align : (before : RuleOptions) (number text value : List ℕ) (a : Option Align) → rules.rule_align (word_of value) ≡ a → rules.rule_option (word_of text) ≡ Some rule.Aligned → after_equals (after_word text) ≡ Some value → (rules.with_rule_align before a).wrong ≡ false
    → RuleStep before number text (rules.with_rule_align before a, number, after_word value)
some_align before number text value (Some a) e f g w = align_step before number text value a before.align refl e f g w
some_align before number text value None e f g w = absurd (true≢false w)

step_by : (before : RuleOptions) (number text : List ℕ) (o : Option RuleOption) (v : Option (List ℕ)) → rules.rule_option (word_of text) ≡ o → after_equals (after_word text) ≡ v → (rules.with_rule_option before number text o v).0.wrong ≡ false
    → StepOf before number text (rules.with_rule_option before number text o v)
step_by before number text None v e f w = inl (subst (λ o. IsNoRuleOption o (after_equals (after_word text))) (sym e) tt, sym (no_option before number text None v tt))
step_by before number text (Some rule.Optional) v e f w =
    let parts = or_parts before.wrong before.optional w in
    inr (record { option = rule.Optional; is_new = parts.1; name = e; is_option = ((λ i. record before { optional = true; wrong = (parts.0 ∙ sym w) i }), refl, refl) })
step_by before number text (Some rule.Aligned) (Some value) e f w = inr (some_align before number text value (rules.rule_align (word_of value)) refl e f w)
step_by before number text (Some rule.Aligned) None e f w = inl (subst (λ o. IsNoRuleOption o (after_equals (after_word text))) (sym e) (subst (IsNoRuleOption (Some rule.Aligned)) (sym f) tt), refl)
step_by before number text (Some rule.BuildNumber) (Some value) e f w =
    let parts = or_parts before.wrong before.numbered w in
    inr (record { option = rule.BuildNumber; is_new = parts.1; name = e; is_option = (value, f, (λ i. record before { numbered = true; wrong = (parts.0 ∙ sym w) i }), ap (λ t. if t then number else word_of value) (sym parts.1), refl) })
step_by before number text (Some rule.BuildNumber) None e f w = inl (subst (λ o. IsNoRuleOption o (after_equals (after_word text))) (sym e) (subst (IsNoRuleOption (Some rule.BuildNumber)) (sym f) tt), refl)

step_is : (before : RuleOptions) (number text : List ℕ) → (rules.next_rule before number text).0.wrong ≡ false → StepOf before number text (rules.next_rule before number text)
unfolding rules.next_rule
step_is before number text w = step_by before number text (rules.rule_option (word_of text)) (after_equals (after_word text)) refl refl w

pub record RuleWalk (before : RuleOptions) (number text : List ℕ) (after : RuleOptions) (written rest : List ℕ) : Type 0 where
  pub stated : List RuleOption
  pub are : AreInRule before number text stated after written rest

walk : (n : ℕ) (before : RuleOptions) (number text : List ℕ) (after : RuleOptions) (written rest : List ℕ) → left_in before < n → steps n (before, number, text) ≡ (after, written, rest) → after.wrong ≡ false → RuleWalk before number text after written rest
walk zero before number text after written rest l e w = absurd (omega (arith, l))
walk (suc n) before number text after written rest l e w = by (walk n) (rules.next_rule before number text).0.wrong refl
  where
    on : ((before : RuleOptions) (number text : List ℕ) (after : RuleOptions) (written rest : List ℕ) → left_in before < n → steps n (before, number, text) ≡ (after, written, rest) → after.wrong ≡ false → RuleWalk before number text after written rest)
        → StepOf before number text (rules.next_rule before number text) → RuleWalk before number text after written rest
    on again (inl none) =
        let q = sym (stays (suc n) before number text (passes before number text none.0)) ∙ e in
        record { stated = []; are = (ap (λ p. p.0) q, ap (λ p. p.1) q, ap (λ p. p.2) q, none.0) }
    on again (inr step) =
        let p = rules.next_rule before number text in
        let few = fewer before number text step.option p.0 p.1 p.2 step.is_new step.is_option in
        let more = again p.0 p.1 p.2 after written rest (omega (arith, few, l)) e w in
        record { stated = step.option ∷ more.stated; are = (step.is_new, step.name, (p.0, p.1, p.2, step.is_option, more.are)) }

    by : ((before : RuleOptions) (number text : List ℕ) (after : RuleOptions) (written rest : List ℕ) → left_in before < n → steps n (before, number, text) ≡ (after, written, rest) → after.wrong ≡ false → RuleWalk before number text after written rest)
        → (t : Bool) → (rules.next_rule before number text).0.wrong ≡ t → RuleWalk before number text after written rest
    by again true s = absurd (true≢false (sym (wrong_stays n (rules.next_rule before number text) s) ∙ ap (λ (p : Parts). p.0.wrong) e ∙ w))
    by again false s = on again (step_is before number text s)

pub rule_found : (text : List ℕ) (options : RuleOptions) (written rest : List ℕ) → rules.rule_parts text ≡ (options, written, rest) → options.wrong ≡ false → StatesRule text options written rest
rule_found text options written rest e w =
    let h = walk 4 rules.no_rule_options [] text options written rest (omega arith) (sym (parts_by text) ∙ e) w in
    record { stated = h.stated; are = h.are }
