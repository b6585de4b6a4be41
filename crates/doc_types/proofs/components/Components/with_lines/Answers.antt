use Rattle.std.proofs.Common.{rules, arith, ◌∙◌, sym, ap, subst, map, filter, drop, ◌+◌, List, ◌++◌, get_or}
use Rattle.std.proofs.lemmas.List.{length-map}
use Rattle.number_chains.specs.Chains.{IsNext}
use Rattle.doc_types.specs.declared.platform.Component.{Component}
use Rattle.std.specs.Borrow.{Bor}
use Rattle.doc_types.specs.Components.{has_lines, lines_number}
use Rattle.doc_types.proofs.ComponentLemmas.{lines_behind, lines_kept}
use Rattle.doc_types.proofs.components.Components.with_lines.Goals as goal

pub loop-place-init : goal.loop-place-init
loop-place-init c =
    let rows = c.items-rows.result.now in
    let n : IsNext (map lines_number rows) 0 1 c.first-place.result =
    subst (λ r. IsNext (map lines_number r) 0 1 c.first-place.result) (sym c.items-rows.ensures) (c.first-place.ensures (map lines_number c.self.inside.rows) c.self.invariant.1) in
    record {
      rows = search rules;
      rest = ap (λ (xs : List (Bor Component)). map (λ (x : Bor Component). x.now) xs ++ filter has_lines (drop c.first-place.result rows)) c.new-found.ensures.items
          ∙ sym (lines_behind rows 0 c.first-place.result n);
      stands = λ h. n.stands (omega (arith, h, length-map rows lines_number));
    }

pub loop-place-preserved : goal.loop-place-preserved
loop-place-preserved c =
    let rows = c.items-rows.result.now in
    let place = c.loop-place.place in
    let x = c.index-rows-place.result in
    let is = c.loop-place.invariant.stands c.loop-place-test.true in
    let n : IsNext (map lines_number rows) (place + 1) 1 c.next-place.result =
    subst (λ d. IsNext (map lines_number rows) (place + 1) d c.next-place.result) is
    (subst (λ r. IsNext (map lines_number r) (place + 1) (get_or (map lines_number r) place 0) c.next-place.result) (sym c.items-rows.ensures)
    (c.next-place.ensures (map lines_number c.self.inside.rows) c.self.invariant.1)) in
    record {
      rows = search rules;
      rest = ap (λ (cs : List Component). cs ++ filter has_lines (drop c.next-place.result rows)) c.in_ok-push_component.ensures
          ∙ lines_kept (map (λ (b : Bor Component). b.now) c.loop-place.found.items) rows place c.next-place.result x c.loop-place-test.true c.index-rows-place.is is n
          ∙ c.loop-place.invariant.rest;
      stands = λ h. n.stands (omega (arith, h, length-map rows lines_number));
    }
