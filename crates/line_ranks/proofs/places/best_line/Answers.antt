use Rattle.std.proofs.Common.{rules, arith, ◌∙◌, sym, ap, subst, map, drop, ◌+◌, get_or, false, Option}
use Rattle.std.proofs.lemmas.List.{length-map}
use Rattle.std.specs.Option.{option_copied}
use Rattle.build_base.specs.Best.{best, over}
use Rattle.build_base.specs.Digest.{digest}
use Rattle.build_base.proofs.BestLemmas.{best_end}
use Rattle.number_chains.specs.Chains.{IsNext}
use Rattle.doc_types.specs.LibraryLines.{class_number}
use Rattle.doc_types.specs.declared.platform.LibraryLine.{LibraryLine}
use Rattle.line_ranks.specs.Lines.{weight}
use Rattle.line_ranks.proofs.PlaceLemmas.{best_behind, best_step}
use Rattle.line_ranks.proofs.places.best_line.Goals as goal

pub loop-place-init : goal.loop-place-init
loop-place-init c =
    let rows = c.items-rows.result.now in
    let n : IsNext (map class_number rows) 0 (digest c.args.class.now) c.first_place-place.result =
    subst (λ r. IsNext (map class_number r) 0 (digest c.args.class.now) c.first_place-place.result) (sym c.items-rows.ensures) c.first_place-place.ensures in
    record {
      rows = search rules;
      rest = sym (best_behind c.args.user c.args.class.now rows 0 c.first_place-place.result n);
      stands = λ h. n.stands (omega (arith, h, length-map rows class_number));
    }

pub loop-place-preserved : goal.loop-place-preserved
loop-place-preserved c =
    let rows = c.items-rows.result.now in
    let place = c.loop-place.place in
    let w = weight c.args.user false c.args.class.now in
    let n : IsNext (map class_number rows) (place + 1) (digest c.args.class.now) c.next_place-place.result =
    subst (λ d. IsNext (map class_number rows) (place + 1) d c.next_place-place.result) (c.loop-place.invariant.stands c.loop-place-test.true)
    (subst (λ r. IsNext (map class_number r) (place + 1) (get_or (map class_number r) place 0) c.next_place-place.result) (sym c.items-rows.ensures) c.next_place-place.ensures) in
    record {
      rows = search rules;
      rest = ap (λ (o : Option LibraryLine). over w o (best w (drop c.next_place-place.result rows))) c.greater-held.ensures
          ∙ best_step c.args.user c.args.class.now rows place c.next_place-place.result c.index-rows-place.result (option_copied c.loop-place.held) c.loop-place-test.true c.index-rows-place.is n
          ∙ c.loop-place.invariant.rest;
      stands = λ h. n.stands (omega (arith, h, length-map rows class_number));
    }

pub returns : goal.returns
returns c =
    let w = weight c.args.user false c.args.class.now in
    sym (best_end w c.items-rows.result.now c.loop-place.place (option_copied c.loop-place.held) c.loop-place-test.false)
    ∙ c.loop-place.invariant.rest
    ∙ ap (best w) c.loop-place.invariant.rows
