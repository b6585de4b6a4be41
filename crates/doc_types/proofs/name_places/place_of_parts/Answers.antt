use Rattle.std.proofs.Common.{◌∙◌, ◌∷◌, [], ℕ, drop, fold, sym, ap, append_assoc}
use Rattle.build_base.proofs.RunLemmas.{tail_is}
use Rattle.doc_types.specs.NamePlaces.{step, place_of}
use Rattle.doc_types.proofs.NamePlaceLemmas as lemmas
use Rattle.doc_types.proofs.name_places.place_of_parts.Goals as goal

pub returns : goal.returns
returns c =
    let space = c.args.space.now in
    let name = c.args.name.now in
    c.place_from-3.ensures.place
    ∙ ap (λ (p : ℕ). fold step p name) (c.place_from-2.ensures.place
    ∙ ap (λ (p : ℕ). fold step p (46 ∷ [])) (c.place_from.ensures.place ∙ ap (fold step 0) (tail_is space c.saturating_sub.result)
    ∙ ap (λ (n : ℕ). fold step 0 (drop n space)) c.saturating_sub.ensures))
    ∙ lemmas.place_of_parts space name c.requires ∙ sym (ap place_of (append_assoc space (46 ∷ []) name))
