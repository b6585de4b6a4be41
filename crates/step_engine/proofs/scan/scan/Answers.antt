-- The key waits.
use Rattle.std.proofs.Common.{refl}
use Rattle.step_engine.proofs.ScanLemmas.{scan_held}
use Rattle.step_engine.proofs.LookLemmas.{looks_one}
use Rattle.step_engine.proofs.scan.scan.Goals as goal

pub returns-in_err-parts-clause-noted : goal.returns-in_err-parts-clause-noted
returns-in_err-parts-clause-noted g c = c.open_parts.ensures.noted

pub returns-then-is_err-clause-noted : goal.returns-then-is_err-clause-noted
returns-then-is_err-clause-noted g c = c.open_parts.ensures.noted

pub returns-clause-noted : goal.returns-clause-noted
returns-clause-noted g c = c.open_parts.ensures.noted

pub returns-clause-ok : goal.returns-clause-ok
returns-clause-ok g c = c.in_ok-parts.ensures.ok

pub returns-clause-held : goal.returns-clause-held
returns-clause-held g c = λ a h. scan_held c.args.waiting.now.items c.push.new.self.items (record { item = c.args.item; parts = c.in_ok-parts.parts }) a (rw (c.push.ensures.items, c.if-is_err.ensures.negation) refl) h

pub returns-clause-looks : goal.returns-clause-looks
returns-clause-looks g c = looks_one _ _ _ (record { item = c.args.item; parts = c.in_ok-parts.parts }) _ _ _ _ c.in_ok-parts.ensures.opens c.in_ok-parts.ensures.grows c.in_ok-parts.ensures.waits (rw (c.push.ensures.items, c.if-is_err.ensures.negation) refl)
