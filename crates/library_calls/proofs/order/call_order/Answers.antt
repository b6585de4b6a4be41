use Rattle.std.proofs.Common.{◌≡◌, ◌∙◌, ◌==◌, ℕ, ◌<◌, ◌++◌, ◌∷◌, [], List, Some, None, map, length, get_or, remove, sym, ap, subst, append_assoc, append-nil}
use Rattle.std.proofs.lemmas.List.{get_or_read}
use Rattle.std.proofs.lemmas.List.Quantifiers.{position-Some}
use Rattle.library_calls.specs.Calls.{before}
use Rattle.library_calls.specs.Order.{call_order}
use Rattle.library_calls.specs.declared.order.Waiting.{Waiting}
use Rattle.library_calls.specs.Waiting.{waits_of, places_of, first_free, without}
use Rattle.library_calls.proofs.WaitingLemmas.{turn-waits, turn-none, places-waits}
use Rattle.library_calls.proofs.order.call_order.Goals as goal

pub loop-place-init : goal.loop-place-init
loop-place-init c =
    let b = before c.args.rows.now in
    let places : places_of c.in_ok-left.left.items ≡ c.args.all.now = ap places_of c.in_ok-left.ensures ∙ places-waits b c.args.all.now c.args.all.now in (
      c.in_ok-left.ensures ∙ ap (waits_of b) (sym places),
      ap (λ (l : List ℕ). l ++ call_order b (places_of c.in_ok-left.left.items)) c.new-order.ensures ∙ ap (call_order b) places,
    )

pub loop-place-preserved : goal.loop-place-preserved
loop-place-preserved c =
    let b = before c.args.rows.now in
    let ws = c.loop-place.left.items in
    let vs = c.in_ok-left-2.left.items in
    let next = c.remove-next.result in
    let free : Some c.in-Some.place ≡ first_free ws = subst (λ (l : List Waiting). Some c.in-Some.place ≡ first_free l) c.as_slice.ensures.value c.in-Some.ensures in
    let within : c.in-Some.place < length ws = (position-Some (λ (w : Waiting). w.count == 0) ws c.in-Some.place next (sym free)).0 in
    let is : next ≡ get_or ws c.in-Some.place next = get_or_read ws c.in-Some.place next within c.remove-next.ensures.value next in
    let new : vs ≡ map (without b next.place) (remove ws c.in-Some.place) =
    c.in_ok-left-2.ensures ∙ ap (map (without b next.place)) (c.as_slice-in-Some.ensures.value ∙ c.remove-next.ensures.items) in
    let turn = turn-waits b ws vs c.in-Some.place next c.loop-place.invariant.0 free is new in (
      turn.0,
      ap (λ (l : List ℕ). l ++ call_order b (places_of vs)) c.in_ok-push.ensures.ok
          ∙ append_assoc c.loop-place.order (next.place ∷ []) (call_order b (places_of vs))
          ∙ ap (λ (l : List ℕ). c.loop-place.order ++ l) (sym turn.1)
          ∙ c.loop-place.invariant.1,
    )

pub returns : goal.returns
returns c =
    let b = before c.args.rows.now in
    let none : None ≡ first_free c.loop-place.left.items = subst (λ (l : List Waiting). None ≡ first_free l) c.as_slice.ensures.value c.in_default.ensures in
    sym (append-nil c.loop-place.order) ∙ ap (λ (l : List ℕ). c.loop-place.order ++ l) (sym (turn-none b c.loop-place.left.items c.loop-place.invariant.0 none)) ∙ c.loop-place.invariant.1
