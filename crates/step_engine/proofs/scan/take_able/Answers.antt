-- Keys are taken out.
use Rattle.std.proofs.Common.{refl}
use Rattle.step_engine.proofs.ScanLemmas.{readies, readies_noted, able_held}
use Rattle.step_engine.proofs.LookLemmas.{parted}
use Rattle.step_engine.proofs.scan.take_able.Goals as goal

pub returns-in_err-opened-clause-noted : goal.returns-in_err-opened-clause-noted
returns-in_err-opened-clause-noted g c = readies_noted g.R.Key.Ord.cmp c.args.pool.now c.replace-news.result.items c.replace-waiting.result.items (rw c.replace-news.ensures.value refl) (rw c.replace-waiting.ensures.value refl) _ _ _ _ c.scan_all.ensures.noted

pub returns-in_err-able-clause-noted : goal.returns-in_err-able-clause-noted
returns-in_err-able-clause-noted g c = readies_noted g.R.Key.Ord.cmp c.args.pool.now c.replace-news.result.items c.replace-waiting.result.items (rw c.replace-news.ensures.value refl) (rw c.replace-waiting.ensures.value refl) _ _ _ _ c.scan_all.ensures.noted

pub returns-clause-noted : goal.returns-clause-noted
returns-clause-noted g c = readies_noted g.R.Key.Ord.cmp c.args.pool.now c.replace-news.result.items c.replace-waiting.result.items (rw c.replace-news.ensures.value refl) (rw c.replace-waiting.ensures.value refl) _ _ _ _ c.scan_all.ensures.noted

pub returns-clause-ok : goal.returns-clause-ok
returns-clause-ok g c = readies g.R.Key.Ord.cmp c.args.pool.now c.replace-news.result.items c.replace-waiting.result.items (rw c.replace-news.ensures.value refl) (rw c.replace-waiting.ensures.value refl) _ _ _ _ _ _ c.in_ok-opened.ensures.ok

pub returns-clause-held : goal.returns-clause-held
returns-clause-held g c = able_held g.R.Key.Ord.cmp c.args.pool.now c.replace-news.result.items c.replace-waiting.result.items (rw c.replace-news.ensures.value refl) (rw c.replace-waiting.ensures.value refl) c.scan_all.new.waiting.items c.in_ok-able.able.items c.replace-waiting.new.dest.items c.sort_all.new.parked (rw (c.replace-waiting.ensures.after, c.new-2.ensures.items) refl) c.in_ok-opened.ensures.held c.in_ok-able.ensures.among

pub returns-clause-parts : goal.returns-clause-parts
returns-clause-parts g c = parted g.R.Key.Ord.cmp g.R.Rules.means.rank _ _ c.args.pool.now (record { news = c.in_ok-opened.opened; woken = c.replace-waiting.new.dest; parked = c.sort_all.new.parked }) c.replace-news.result.items c.replace-waiting.result.items c.scan_all.new.waiting.items c.in_ok-able.able.items (rw c.replace-news.ensures.value refl) (rw c.replace-waiting.ensures.value refl) (rw (c.replace-waiting.ensures.after, c.new-2.ensures.items) refl) c.in_ok-opened.ensures.looks (c.in_ok-able.ensures.sorts g.R.Rules.means.rank)
