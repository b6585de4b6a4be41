-- The value of a text is that of a tree.
use Rattle.std.proofs.Common.{◌≡◌, ℕ, Bool, true, false, cond, List, [], Option, Some, None, Result, Ok, Err, inl, inr, refl, sym, ap, ◌∙◌, subst}
use Rattle.build_base.specs.declared.fault.Place.{Place}
use Rattle.build_base.specs.declared.refusal.Refusal.{Refusal}
use Rattle.build_base.specs.declared.refusal.Refusal.TheVariants.{Bad, WantOfMemory}
use Rattle.build_base.specs.declared.fault.Fault.{Fault}
use Rattle.build_base.specs.Answer.{Finds}
use Rattle.build_base.specs.FaultText.{fault_of}
use Rattle.meta_lexer.specs.Fields.{ends_quoted, open_quote}
use Rattle.meta_lexer.specs.Tokens.{tokens_of, tokens_after}
use Rattle.macro_expressions.specs.declared.expression.Value.{Value}
use Rattle.macro_expressions.specs.Values.{Outcome, word, number, faulty, ill}
use Rattle.macro_expressions.specs.ExpressionTree.{Tree, IsTree, value_of, IsNoExpression}
use Rattle.macro_expressions.specs.ExpressionMachine.{wanting, run}
use Rattle.macro_expressions.specs.Expressions.{symbols_of, answered, value_of_tokens, value_of_text, IsValueOf, IsMeaningOf}
use Rattle.macro_expressions.proofs.ExpressionComplete.{complete}
use Rattle.macro_expressions.proofs.ExpressionSound.{sound}

no_value : (text : List ℕ) → run (Some (wanting [])) (symbols_of text) ≡ None → IsNoExpression (symbols_of text)
no_value text e = λ t is. cc (complete (symbols_of text) t is)

some_is : {A : Type 0} (x y : A) → Some x ≡ Some y → x ≡ y
some_is x y e = cc

ill_value : (text : List ℕ) → run (Some (wanting [])) (symbols_of text) ≡ Some ill → IsNoExpression (symbols_of text)
ill_value text e = λ t is. some_is (value_of t) ill (sym (complete (symbols_of text) t is) ∙ e)

value_by : (text : List ℕ) → ends_quoted text ≡ false → (o : Option Outcome) → run (Some (wanting [])) (symbols_of text) ≡ o → IsValueOf text (answered o)
value_by text closed None e = inr (inl (refl, closed, no_value text e))
value_by text closed (Some ill) e = inr (inl (refl, closed, ill_value text e))
value_by text closed (Some (faulty c)) e = inr (inr (closed, sound (symbols_of text) (faulty c) e))
value_by text closed (Some (number n)) e = (closed, sound (symbols_of text) (number n) e)
value_by text closed (Some (word w)) e = (closed, sound (symbols_of text) (word w) e)

quoted_by : (text : List ℕ) (b : Bool) → ends_quoted text ≡ b → IsValueOf text (value_of_tokens text (cond b (Err (open_quote text)) (Ok (tokens_after 0 0 text))))
quoted_by text true e = inl (refl, e)
quoted_by text false e = value_by text e (run (Some (wanting [])) (symbols_of text)) refl

pub value_is : (text : List ℕ) → IsValueOf text (value_of_text text)
unfolding value_of_text tokens_of
value_is text = quoted_by text (ends_quoted text) refl

-- each tree of the text has the value that the text comes to
answered_by : (text : List ℕ) (b : Bool) → b ≡ false → value_of_tokens text (cond b (Err (open_quote text)) (Ok (tokens_after 0 0 text))) ≡ answered (run (Some (wanting [])) (symbols_of text))
answered_by text true e = absurd (cc)
answered_by text false e = refl

pub tree_has_value : (text : List ℕ) (t : Tree) → ends_quoted text ≡ false → IsTree (symbols_of text) t → value_of_text text ≡ answered (Some (value_of t))
unfolding value_of_text tokens_of
tree_has_value text t e is = answered_by text (ends_quoted text) e ∙ ap answered (complete (symbols_of text) t is)

-- a value that was found
pub meaning_of : (text : List ℕ) (r : Result Value ℕ) → r ≡ value_of_text text → IsValueOf text r
meaning_of text r e = subst (IsValueOf text) (sym e) (value_is text)

-- a fault that was found
pub meaning_of_fault : (text : List ℕ) (at : Place) (detail : List ℕ) (code : ℕ) (e : Refusal) → Finds e (Some (fault_of code at detail)) → IsValueOf text (Err code) → IsMeaningOf text (Err e)
meaning_of_fault text at detail code (Bad fault) h is = subst (λ (f : Fault). IsValueOf text (Err f.code)) (some_is (fault_of code at detail) fault h) is
meaning_of_fault text at detail code WantOfMemory h is = tt
