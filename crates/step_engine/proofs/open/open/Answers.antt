-- The old entry is checked.
use Rattle.std.proofs.Common.{refl, sym, ◌∙◌}
use Rattle.step_engine.proofs.OpeningLemmas.{kept_entry}
use Rattle.step_engine.proofs.open.open.Goals as goal

pub returns-in_ok-note-in-Some-clause-ok : goal.returns-in_ok-note-in-Some-clause-ok
returns-in_ok-note-in-Some-clause-ok g c =
    let e = kept_entry _ _ _ c.in-Some.entry c.get-kept.ensures.some c.get-kept.ensures.only (rw c.in-Some.is at c.in_ok-entry.ensures) in
    (sym c.get.ensures ∙ c.in-None.is, refl, rw c.in_ok-noted-in-Some.ensures at c.in_ok-note-in-Some.ensures.ok, e.0, e.1, e.2, refl)
