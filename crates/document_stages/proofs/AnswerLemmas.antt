-- What lists of known files answer.
use Rattle.std.proofs.Common.{◌≡◌, ℕ, refl, sym, ap, ◌∙◌, subst, cond, true, false, List, [], ◌∷◌, All, Option, Some, None}
use Rattle.std.specs.Cmp.Lexicographic.{same_text as text_same}
use Rattle.std.proofs.lemmas.List.Elements.{All-head, All-tail}
use Rattle.build_base.specs.First.{or_else}
use Rattle.build_base.specs.declared.outside.Got.{Got}
use Rattle.macro_conditions.specs.declared.known.Known.{Known}
use Rattle.macro_expressions.specs.Macros.{same_text}
use Rattle.macro_conditions.specs.Sources.{Source, answer}
use Rattle.macro_conditions.specs.Counting.{with_answer}
use Rattle.macro_conditions.specs.Worlds.{MoreAnswers}
use Rattle.macro_conditions.proofs.LeftFalls.{answer_more, same_self}

-- what holds of each file holds of what is answered
pub answered_by : (P : List ℕ → Got → Type 0) (files : List Known) → All (λ (k : Known). P k.path k.got) files → (path : List ℕ) (got : Got) → answer files path ≡ Some got → P path got
unfolding answer
answered_by P [] a path got e = absurd (cc)
answered_by P (k ∷ files) a path got e =
    elim (same_text k.path path) as (λ b. same_text k.path path ≡ b → cond b (Some k.got) (answer files path) ≡ Some got → P path got) [
      | true ↦ λ t h.
          let here : k.path ≡ path = text_same _ _ (sym t) in
          let is : k.got ≡ got = cc in
          subst (λ p. P p got) here (subst (P k.path) is (All-head (λ (k : Known). P k.path k.got) k files a))
      | false ↦ λ t h. answered_by P files (All-tail (λ (k : Known). P k.path k.got) k files a) path got h
    ] refl e

-- the answer of one path, where there is none before
abbrev at_path : List ℕ → Got → List ℕ → Option Got
at_path p g path = cond (same_text p path) (Some g) None

answer_added : (files : List Known) (p : List ℕ) (g : Got) (path : List ℕ) → answer (with_answer files p g) path ≡ or_else (answer files path) (at_path p g path)
unfolding answer
answer_added [] p g path = refl
answer_added (k ∷ files) p g path =
    elim (same_text k.path path) as (λ b. cond b (Some k.got) (answer (with_answer files p g) path) ≡ or_else (cond b (Some k.got) (answer files path)) (at_path p g path)) [
      | true ↦ refl
      | false ↦ answer_added files p g path
    ]

pub none_more : (more : Source) → MoreAnswers (answer []) more
unfolding answer
none_more more path got e = absurd (cc)

-- an answer that is there already adds none
pub one_more : (files : List Known) (more : Source) (p : List ℕ) (g : Got) → MoreAnswers (answer files) more → more p ≡ Some g → MoreAnswers (answer (with_answer files p g)) more
one_more files more p g m is path got e =
    (elim (answer files path) as (λ o. answer files path ≡ o → or_else o (at_path p g path) ≡ Some got → more path ≡ Some got) [
      | Some x ↦ λ a h. m path got (a ∙ h)
      | None ↦ λ a h. (elim (same_text p path) as (λ b. same_text p path ≡ b → cond b (Some g) None ≡ Some got → more path ≡ Some got) [
        | true ↦ λ t h. let here : p ≡ path = text_same _ _ (sym t) in subst (λ q. more q ≡ Some got) here (is ∙ h)
        | false ↦ λ t h. absurd (cc)
      ]) refl h
    ]) refl (sym (answer_added files p g path) ∙ e)

pub both_more : (files others : List Known) (p : List ℕ) (g : Got) → MoreAnswers (answer files) (answer others) → answer others p ≡ None → MoreAnswers (answer (with_answer files p g)) (answer (with_answer others p g))
both_more files others p g m none =
    one_more files (answer (with_answer others p g)) p g (λ path got e. answer_more others p g path got (m path got e))
    (answer_added others p g p ∙ ap (λ o. or_else o (at_path p g p)) none ∙ ap (λ b. cond b (Some g) None) (same_self p))
