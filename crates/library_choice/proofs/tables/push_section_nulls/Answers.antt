use Rattle.std.proofs.Common.{rules, arith, ℕ, ◌∙◌, sym, ap, subst, map, drop, List, ◌+◌, ◌++◌, ◌∷◌, [], get_or, codes, append_assoc}
use Rattle.std.proofs.lemmas.List.{length-map}
use Rattle.std.specs.List.{filter_map}
use Rattle.build_base.specs.Digest.{digest}
use Rattle.number_chains.specs.Chains.{IsNext}
use Rattle.doc_types.specs.LibraryLines.{class_number}
use Rattle.library_choice.specs.Closure.{null_of}
use Rattle.library_choice.proofs.NullLemmas.{nulls_behind, nulls_step}
use Rattle.library_choice.proofs.tables.push_section_nulls.Goals as goal

pub loop-place-init : goal.loop-place-init
loop-place-init c =
    let lines = c.items-lines.result.now in
    let n : IsNext (map class_number lines) 0 (digest (codes "NULL")) c.first_place-place.result =
    subst (λ r. IsNext (map class_number r) 0 (digest (codes "NULL")) c.first_place-place.result) (sym c.items-lines.ensures) c.first_place-place.ensures in
    record {
      lines = search rules;
      rest = ap (λ r. c.args.paths.now ++ r) (sym (nulls_behind c.args.user lines 0 c.first_place-place.result n));
      stands = λ h. n.stands (omega (arith, h, length-map lines class_number));
    }

pub loop-place-preserved : goal.loop-place-preserved
loop-place-preserved c =
    let lines = c.items-lines.result.now in
    let place = c.loop-place.place in
    let x = c.index-lines-place.result in
    let n : IsNext (map class_number lines) (place + 1) (digest (codes "NULL")) c.next_place-place.result =
    subst (λ d. IsNext (map class_number lines) (place + 1) d c.next_place-place.result) (c.loop-place.invariant.stands c.loop-place-test.true)
    (subst (λ r. IsNext (map class_number r) (place + 1) (get_or (map class_number r) place 0) c.next_place-place.result) (sym c.items-lines.ensures) c.next_place-place.ensures) in
    record {
      lines = search rules;
      rest = ap (λ (ps : List (List ℕ)). ps ++ filter_map (null_of c.args.user) (drop c.next_place-place.result lines)) c.in_ok-push_null.ensures
          ∙ append_assoc c.loop-place.paths (filter_map (null_of c.args.user) (x ∷ [])) (filter_map (null_of c.args.user) (drop c.next_place-place.result lines))
          ∙ ap (λ r. c.loop-place.paths ++ r) (nulls_step c.args.user lines place c.next_place-place.result x c.loop-place-test.true c.index-lines-place.is n)
          ∙ c.loop-place.invariant.rest;
      stands = λ h. n.stands (omega (arith, h, length-map lines class_number));
    }
