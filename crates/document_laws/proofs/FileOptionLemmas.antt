-- Options of a file, one behind the other.
use Rattle.std.proofs.Common.{◌≡◌, ◌≤◌, ℕ, zero, suc, ◌+◌, ◌==◌, Bool, true, false, if◌then◌else◌, List, [], ◌∷◌, length, Option, Some, None, refl, sym, ap, ap₂, ◌∙◌, arith}
use Rattle.std.specs.Option.{option_and_then}
use Rattle.std.proofs.lemmas.Bool.Decides.{nat_tests}
use Rattle.meta_lexer.specs.Lookup.{lookup}
use Rattle.meta_lexer.specs.Words.{same_word}
use Rattle.doc_types.specs.declared.volume.Align.{Align}
use Rattle.doc_types.specs.declared.volume.Align.TheVariants.{Unset, Auto, Bytes}
use Rattle.fdf_words.specs.declared.words.FileOption.{FileOption}
use Rattle.fdf_words.specs.declared.words.FileOption.TheVariants.{Fixed, Checksum, Aligned}
use Rattle.fdf_words.specs.declared.words.Options.{Options}
use Rattle.fdf_words.specs.Words.{word_of, after_word, option_named, stated_align, is_unset, with_align, with_option, next_option, no_options, options_whole, options_of}
use Rattle.document_laws.specs.StatedOptions.{IsNewInFile, IsFileOption, AreFileOptions, StatesFile}
use Rattle.document_laws.proofs.OptionLemmas.{steps, stays, two_steps}

abbrev left_of : Bool → ℕ
left_of false = 1
left_of true = 0

abbrev left_align : Align → ℕ
left_align Unset = 1
left_align Auto = 0
left_align (Bytes n) = 0

abbrev left_in : Options → ℕ
left_in o = left_of o.fixed + left_of o.checksum + left_align o.align

some_left : (x : ℕ) (xs : List ℕ) → (length (x ∷ xs) == 0) ≡ false
some_left x xs = (let l : length (x ∷ xs) ≡ suc (length xs) = refl in grind (arith, nat_tests))

no_name : (option : FileOption) → option_named (word_of []) ≡ Some option → ⊥
unfolding option_named word_of lookup same_word
no_name option e = cc

passes : (options : Options) → next_option options [] ≡ Some (options, [])
unfolding next_option
passes options = refl

by_name : (options : Options) (text : List ℕ) (option : FileOption) → option_named (word_of text) ≡ Some option → next_option options text ≡ with_option options (after_word text) (Some option)
unfolding next_option
by_name options [] option e = absurd (no_name option e)
by_name options (x ∷ xs) option e =
    ap (λ t. if t then Some (options, x ∷ xs) else with_option options (after_word (x ∷ xs)) (option_named (word_of (x ∷ xs)))) (some_left x xs)
    ∙ ap (with_option options (after_word (x ∷ xs))) e

unset : (options : Options) → options.align ≡ Unset → is_unset options.align ≡ true
unset options e = ap is_unset e

one_option : (options : Options) (text : List ℕ) (option : FileOption) (after : Options) (next : List ℕ) → IsNewInFile options option → IsFileOption text options option after next
    → with_option options (after_word text) (Some option) ≡ Some (after, next)
one_option options text Fixed after next n h = ap (λ t. if t then None else Some (record options { fixed = true }, after_word text)) n ∙ ap₂ (λ o r. Some (o, r)) h.0 h.1
one_option options text Checksum after next n h = ap (λ t. if t then None else Some (record options { checksum = true }, after_word text)) n ∙ ap₂ (λ o r. Some (o, r)) h.0 h.1
one_option options text Aligned after next n h =
    ap (with_align options) h.1
    ∙ ap (λ t. if t then Some (record options { align = Bytes h.0 }, next) else None) (unset options n)
    ∙ ap (λ o. Some (o, next)) h.2

fewer : (options : Options) (text : List ℕ) (option : FileOption) (after : Options) (next : List ℕ) → IsNewInFile options option → IsFileOption text options option after next → left_in options ≡ suc (left_in after)
fewer options text Fixed after next n h = ap (λ t. left_of t + left_of options.checksum + left_align options.align) n ∙ add ∙ ap (λ o. suc (left_in o)) h.0
  where
    add : 1 + left_of options.checksum + left_align options.align ≡ suc (0 + left_of options.checksum + left_align options.align)
    add = omega arith
fewer options text Checksum after next n h = ap (λ t. left_of options.fixed + left_of t + left_align options.align) n ∙ add ∙ ap (λ o. suc (left_in o)) h.0
  where
    add : left_of options.fixed + 1 + left_align options.align ≡ suc (left_of options.fixed + 0 + left_align options.align)
    add = omega arith
fewer options text Aligned after next n h = ap (λ a. left_of options.fixed + left_of options.checksum + left_align a) n ∙ add ∙ ap (λ o. suc (left_in o)) h.2
  where
    add : left_of options.fixed + left_of options.checksum + 1 ≡ suc (left_of options.fixed + left_of options.checksum + 0)
    add = omega arith

file_only : (stated : List FileOption) (n : ℕ) (before : Options) (text : List ℕ) (after : Options) → left_in before ≤ n → AreFileOptions before text stated after → steps next_option n (before, text) ≡ Some (after, [])
file_only [] n before text after l h =
    ap (λ t. steps next_option n (before, t)) h.1 ∙ stays next_option n before [] (passes before) ∙ ap (λ o. Some (o, [])) h.0
file_only (option ∷ options) zero before text after l h = absurd (omega (arith, l, fewer before text option h.2.0 h.2.1 h.0 h.2.2))
file_only (option ∷ options) (suc n) before text after l h =
    let m = h.2 in
    ap (option_and_then (steps next_option n)) (by_name before text option h.1 ∙ one_option before text option m.0 m.1 h.0 m.2)
    ∙ file_only options n m.0 m.1 after (omega (arith, l, fewer before text option m.0 m.1 h.0 m.2)) m.3

-- what is found
abbrev pair_of : Options × List ℕ → Option (Options × List ℕ)
pair_of p = Some p

same_pair : (p q : Options × List ℕ) → pair_of p ≡ pair_of q → p ≡ q
same_pair p q e = cc

pub record FileStep (options : Options) (text : List ℕ) (p : Options × List ℕ) : Type 0 where
  pub option : FileOption
  pub is_new : IsNewInFile options option
  pub name : option_named (word_of text) ≡ Some option
  pub is_option : IsFileOption text options option p.0 p.1

new_flag : (t : Bool) (q p : Options × List ℕ) → (if t then None else Some q) ≡ pair_of p → (t ≡ false) × (q ≡ p)
new_flag true q p e = absurd cc
new_flag false q p e = (refl, same_pair q p e)

new_align : (a : Align) (q p : Options × List ℕ) → (if is_unset a then Some q else None) ≡ pair_of p → (a ≡ Unset) × (q ≡ p)
new_align Unset q p e = (refl, same_pair q p e)
new_align Auto q p e = absurd cc
new_align (Bytes n) q p e = absurd cc

align_step : (options : Options) (text : List ℕ) (p : Options × List ℕ) (o : Option (ℕ × List ℕ)) → option_named (word_of text) ≡ Some Aligned → stated_align (after_word text) ≡ o → with_align options o ≡ pair_of p → FileStep options text p
align_step options text p (Some q) n e f =
    let t = new_align options.align (record options { align = Bytes q.0 }, q.1) p f in
    record { option = Aligned; is_new = t.0; name = n; is_option = (q.0, e ∙ ap (λ r. Some (q.0, r)) (ap (λ p. p.1) t.1), ap (λ p. p.0) t.1) }
align_step options text p None n e f = absurd cc

step_by : (options : Options) (text : List ℕ) (p : Options × List ℕ) (o : Option FileOption) → option_named (word_of text) ≡ o → with_option options (after_word text) o ≡ pair_of p → FileStep options text p
step_by options text p (Some Fixed) e f =
    let t = new_flag options.fixed (record options { fixed = true }, after_word text) p f in
    record { option = Fixed; is_new = t.0; name = e; is_option = (ap (λ p. p.0) t.1, ap (λ p. p.1) t.1) }
step_by options text p (Some Checksum) e f =
    let t = new_flag options.checksum (record options { checksum = true }, after_word text) p f in
    record { option = Checksum; is_new = t.0; name = e; is_option = (ap (λ p. p.0) t.1, ap (λ p. p.1) t.1) }
step_by options text p (Some Aligned) e f = align_step options text p (stated_align (after_word text)) e refl f
step_by options text p None e f = absurd cc

pub record FileWalk (before : Options) (text : List ℕ) (after : Options) : Type 0 where
  pub stated : List FileOption
  pub are : AreFileOptions before text stated after

step_is : (options : Options) (x : ℕ) (xs : List ℕ) (p : Options × List ℕ) → next_option options (x ∷ xs) ≡ pair_of p → FileStep options (x ∷ xs) p
unfolding next_option
step_is options x xs p e =
    step_by options (x ∷ xs) p (option_named (word_of (x ∷ xs))) refl
    (sym (ap (λ t. if t then Some (options, x ∷ xs) else with_option options (after_word (x ∷ xs)) (option_named (word_of (x ∷ xs)))) (some_left x xs)) ∙ e)

file_walk : (n : ℕ) (before : Options) (text : List ℕ) (after : Options) → steps next_option n (before, text) ≡ pair_of (after, []) → FileWalk before text after
file_walk zero before text after e = let q = same_pair (before, text) (after, []) e in record { stated = []; are = (ap (λ p. p.0) q, ap (λ p. p.1) q) }
file_walk (suc n) before [] after e =
    let q = same_pair (before, []) (after, []) (sym (stays next_option (suc n) before [] (passes before)) ∙ e) in
    record { stated = []; are = (ap (λ p. p.0) q, refl) }
file_walk (suc n) before (x ∷ xs) after e = by (file_walk n) (next_option before (x ∷ xs)) refl e
  where
    by : ((before : Options) (text : List ℕ) (after : Options) → steps next_option n (before, text) ≡ pair_of (after, []) → FileWalk before text after)
        → (o : Option (Options × List ℕ)) → next_option before (x ∷ xs) ≡ o → option_and_then (steps next_option n) o ≡ pair_of (after, []) → FileWalk before (x ∷ xs) after
    by again (Some p) s f =
        let step = step_is before x xs p s in
        let w = again p.0 p.1 after f in
        record { stated = step.option ∷ w.stated; are = (step.is_new, step.name, (p.0, p.1, step.is_option, w.are)) }
    by again None s f = absurd cc

options_by : (text : List ℕ) → options_of text ≡ option_and_then options_whole (steps next_option 3 (no_options, text))
unfolding options_of
options_by text = ap (option_and_then options_whole) (two_steps next_option (next_option no_options text))

pub file_states : (text : List ℕ) (options : Options) → StatesFile text options → options_of text ≡ Some options
file_states text options h = options_by text ∙ ap (option_and_then options_whole) (file_only h.stated 3 no_options text options (omega arith) h.are)

abbrev some_of : Options → Option Options
some_of o = Some o

whole_by : (before : Options) (text : List ℕ) (options : Options) → options_whole (before, text) ≡ some_of options → pair_of (before, text) ≡ pair_of (options, [])
whole_by before [] options e = ap (λ o. pair_of (o, [])) (same e)
  where
    same : some_of before ≡ some_of options → before ≡ options
    same f = cc
whole_by before (x ∷ xs) options e = absurd (none (sym (ap (λ t. if t then some_of before else None) (some_left x xs)) ∙ e))
  where
    none : None ≡ some_of options → ⊥
    none f = cc

pub file_found : (text : List ℕ) (options : Options) → options_of text ≡ Some options → StatesFile text options
file_found text options e = by (steps next_option 3 (no_options, text)) refl (sym (options_by text) ∙ e)
  where
    by : (o : Option (Options × List ℕ)) → steps next_option 3 (no_options, text) ≡ o → option_and_then options_whole o ≡ some_of options → StatesFile text options
    by (Some p) s f =
        let w = file_walk 3 no_options text options (s ∙ whole_by p.0 p.1 options f) in
        record { stated = w.stated; are = w.are }
    by None s f = absurd cc
