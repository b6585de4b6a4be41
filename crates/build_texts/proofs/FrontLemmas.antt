-- One more outcome behind what was found.
use Rattle.std.proofs.Common.{◌≡◌, ◌∙◌, ◌+◌, ◌<◌, ℕ, List, ◌++◌, map, length, drop, get_or, append_assoc, refl, sym, ap}
use Rattle.std.specs.Prelude.{Result, Ok, Err}
use Rattle.build_base.proofs.Steps.{head_drop}
use Rattle.build_base.specs.First.{and_then, with_front}
use Rattle.build_base.specs.declared.fault.Fault.{Fault}
use Rattle.build_texts.specs.Named.{Found, all_of}

joined : (old more : List Found) (outcome : Result (List Found) Fault) → with_front old (with_front more outcome) ≡ with_front (old ++ more) outcome
joined old more (Ok xs) = ap Ok (sym (append_assoc old more xs))
joined old more (Err fault) = refl

pub front_step : {X : Type 0} (f : X → Result (List Found) Fault) (xs : List X) (i : ℕ) (x : X) (old more new : List Found)
    → i < length xs → x ≡ get_or xs i x → f x ≡ Ok more → new ≡ old ++ more
    → with_front new (all_of (map f (drop (i + 1) xs))) ≡ with_front old (all_of (map f (drop i xs)))
front_step f xs i x old more new h e ok grown =
    ap (λ ys. with_front ys (all_of (map f (drop (i + 1) xs)))) grown
    ∙ sym (joined old more (all_of (map f (drop (i + 1) xs))))
    ∙ ap (λ r. with_front old (and_then r (λ front. with_front front (all_of (map f (drop (i + 1) xs)))))) (sym ok)
    ∙ ap (λ ys. with_front old (all_of (map f ys))) (sym (head_drop xs i x h e))
