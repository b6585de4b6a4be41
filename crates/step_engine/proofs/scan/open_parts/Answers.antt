-- The parts were opened.
use Rattle.std.proofs.Common.{refl}
use Rattle.step_engine.proofs.ScanLemmas.{scans, scans_noted, scans_still}
use Rattle.step_engine.proofs.LookLemmas.{opened_behind, kept_behind, waits_opened}
use Rattle.step_engine.proofs.scan.open_parts.Goals as goal

pub returns-in_err-parts-clause-noted : goal.returns-in_err-parts-clause-noted
returns-in_err-parts-clause-noted g c = scans_still _ _ _ _

pub returns-in_err-more-clause-noted : goal.returns-in_err-more-clause-noted
returns-in_err-more-clause-noted g c = scans_noted _ _ _ _ _ _ c.in_ok-parts.ensures.among c.open_all.ensures.noted

pub returns-then-is_err-clause-noted : goal.returns-then-is_err-clause-noted
returns-then-is_err-clause-noted g c = scans_noted _ _ _ _ _ _ c.in_ok-parts.ensures.among c.open_all.ensures.noted

pub returns-clause-noted : goal.returns-clause-noted
returns-clause-noted g c = scans_noted _ _ _ _ _ _ c.in_ok-parts.ensures.among c.open_all.ensures.noted

pub returns-clause-ok : goal.returns-clause-ok
returns-clause-ok g c = (c.in_ok-more.more.items, rw (c.append.ensures.items, c.if-is_err.ensures.negation) refl, scans _ _ _ _ _ _ _ _ c.in_ok-parts.ensures.among c.in_ok-more.ensures.ok)

pub returns-clause-opens : goal.returns-clause-opens
returns-clause-opens g c = opened_behind _ _ c.args.opened.now.items c.in_ok-more.more.items c.append.new.self.items (rw (c.append.ensures.items, c.if-is_err.ensures.negation) refl) c.in_ok-more.ensures.opened

pub returns-clause-grows : goal.returns-clause-grows
returns-clause-grows g c = kept_behind c.args.opened.now.items c.in_ok-more.more.items c.append.new.self.items (rw (c.append.ensures.items, c.if-is_err.ensures.negation) refl)

pub returns-clause-waits : goal.returns-clause-waits
returns-clause-waits g c = waits_opened _ _ _ _ _ c.in_ok-more.more.items c.in_ok-more.ensures.opened c.in_ok-more.ensures.met c.in_ok-parts.ensures.all
