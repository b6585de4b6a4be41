use Rattle.std.proofs.Common.{arith, ◌≡◌, ◌∙◌, ℕ, sym, ap, subst, map, filter, drop, ◌+◌, List, ◌++◌, get_or, Bor}
use Rattle.std.proofs.lemmas.List.{length-map}
use Rattle.number_chains.specs.Chains.{IsNext, IsChained}
use Rattle.number_chains.specs.Marks.{has}
use Rattle.number_chains.proofs.MarkLemmas.{rows_behind, row_kept}
use Rattle.number_chains.proofs.chains.Chains.push_rows.Goals as goal

pub loop-place-init : goal.loop-place-init
loop-place-init g c =
    let rows = c.args.rows.now in
    let found = map (λ (r : Bor g.row.T.Denot). r.now) c.args.found.now.items in
    record {
      rest = λ f chained. ap (λ l. found ++ l) (sym (rows_behind f c.args.number rows 0 c.first-place.result (c.first-place.ensures (map f rows) chained)));
      stands = λ f chained h. (c.first-place.ensures (map f rows) chained).stands (omega (arith, h, length-map rows f));
    }

pub loop-place-preserved : goal.loop-place-preserved
loop-place-preserved g c =
    let rows = c.args.rows.now in
    let number = c.args.number in
    let place = c.loop-place.place in
    let next = c.next-place.result in
    let stood : (f : g.row.T.Denot → ℕ) → IsChained (map f rows) c.args.self.now → get_or (map f rows) place 0 ≡ number = λ f chained. c.loop-place.invariant.stands f chained c.loop-place-test.true in
    record {
      rest = λ f chained.
          let n : IsNext (map f rows) (place + 1) number next = subst (λ d. IsNext (map f rows) (place + 1) d next) (stood f chained) (c.next-place.ensures (map f rows) chained) in
          ap (λ (l : List g.row.T.Denot). l ++ filter (has f number) (drop next rows)) c.in_ok-push_row.ensures
          ∙ row_kept f number (map (λ (r : Bor g.row.T.Denot). r.now) c.loop-place.found.items) rows place next c.index-rows-place.result c.loop-place-test.true c.index-rows-place.is (stood f chained) n
          ∙ c.loop-place.invariant.rest f chained;
      stands = λ f chained h.
          let n : IsNext (map f rows) (place + 1) number next = subst (λ d. IsNext (map f rows) (place + 1) d next) (stood f chained) (c.next-place.ensures (map f rows) chained) in
          n.stands (omega (arith, h, length-map rows f));
    }
