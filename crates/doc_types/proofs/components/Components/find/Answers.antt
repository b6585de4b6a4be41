use Rattle.std.proofs.Common.{rules, arith, ◌∙◌, sym, subst, map, ◌+◌, get_or}
use Rattle.build_base.specs.Digest.{digest}
use Rattle.std.proofs.lemmas.List.{length-map}
use Rattle.number_chains.specs.Chains.{IsNext}
use Rattle.doc_types.specs.Components.{is_component, inf_number}
use Rattle.doc_types.proofs.ComponentLemmas.{found_behind, passed}
use Rattle.doc_types.proofs.components.Components.find.Goals as goal

pub loop-place-init : goal.loop-place-init
loop-place-init c =
    let rows = c.items-rows.result.now in
    let n : IsNext (map inf_number rows) 0 (digest c.args.inf.now) c.first-place.result =
    subst (λ r. IsNext (map inf_number r) 0 (digest c.args.inf.now) c.first-place.result) (sym c.items-rows.ensures)
    (subst (λ d. IsNext (map inf_number c.self.inside.rows) 0 d c.first-place.result) c.digest.ensures (c.first-place.ensures (map inf_number c.self.inside.rows) c.self.invariant.0)) in
    record {
      rows = search rules;
      rest = sym (found_behind c.args.inf.now c.args.arch rows 0 c.first-place.result n);
      stands = λ h. n.stands (omega (arith, h, length-map rows inf_number));
    }

pub loop-place-preserved : goal.loop-place-preserved
loop-place-preserved c =
    let rows = c.items-rows.result.now in
    let place = c.loop-place.place in
    let n : IsNext (map inf_number rows) (place + 1) (digest c.args.inf.now) c.next-place.result =
    subst (λ d. IsNext (map inf_number rows) (place + 1) d c.next-place.result) (c.loop-place.invariant.stands c.loop-place-test.true)
    (subst (λ r. IsNext (map inf_number r) (place + 1) (get_or (map inf_number r) place 0) c.next-place.result) (sym c.items-rows.ensures)
    (c.next-place.ensures (map inf_number c.self.inside.rows) c.self.invariant.0)) in
    record {
      rows = search rules;
      rest = sym (found_behind c.args.inf.now c.args.arch rows (place + 1) c.next-place.result n)
          ∙ sym (passed (is_component c.args.inf.now c.args.arch) rows place c.index-rows-place.result c.loop-place-test.true c.index-rows-place.is (search rules))
          ∙ c.loop-place.invariant.rest;
      stands = λ h. n.stands (omega (arith, h, length-map rows inf_number));
    }
