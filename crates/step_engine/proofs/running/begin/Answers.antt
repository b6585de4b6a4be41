-- One key is opened.
use Rattle.std.proofs.Common.{◌≡◌, refl, arith, [], ◌∷◌}
use Rattle.step_engine.proofs.ScanLemmas.{begins, opens_still, opens_same}
use Rattle.step_engine.proofs.VisitLemmas.{begins_whole}
use Rattle.step_engine.proofs.running.begin.Goals as goal

pub returns-in_err-key-clause-noted : goal.returns-in_err-key-clause-noted
returns-in_err-key-clause-noted g c = opens_still (c.args.top.now ∷ []) _ _ _

pub returns-then-is_err-clause-noted : goal.returns-then-is_err-clause-noted
returns-then-is_err-clause-noted g c = opens_still (c.args.top.now ∷ []) _ _ _

pub returns-in_err-news-clause-noted : goal.returns-in_err-news-clause-noted
returns-in_err-news-clause-noted g c =
    let ks : c.push.new.self.items ≡ c.args.top.now ∷ [] = rw (c.push.ensures.items, c.if-is_err.ensures.negation, c.new-keys.ensures.items, c.in_ok-key.ensures) refl in
    opens_same _ (c.args.top.now ∷ []) _ _ _ _ ks c.open_all.ensures.noted

pub returns-clause-noted : goal.returns-clause-noted
returns-clause-noted g c =
    let ks : c.push.new.self.items ≡ c.args.top.now ∷ [] = rw (c.push.ensures.items, c.if-is_err.ensures.negation, c.new-keys.ensures.items, c.in_ok-key.ensures) refl in
    opens_same _ (c.args.top.now ∷ []) _ _ _ _ ks c.open_all.ensures.noted

pub returns-clause-ok : goal.returns-clause-ok
returns-clause-ok g c =
    let ks : c.push.new.self.items ≡ c.args.top.now ∷ [] = rw (c.push.ensures.items, c.if-is_err.ensures.negation, c.new-keys.ensures.items, c.in_ok-key.ensures) refl in
    begins _ _ _ _ _ _ _ _ (record { news = c.in_ok-news.news; woken = c.new.result; parked = c.new-2.result }) ks c.in_ok-news.ensures.ok c.new.ensures.items c.new-2.ensures

pub returns-clause-whole : goal.returns-clause-whole
returns-clause-whole g c = λ rank new. begins_whole _ _ _ _ (record { news = c.in_ok-news.news; woken = c.new.result; parked = c.new-2.result }) new c.in_ok-news.ensures.opened c.new.ensures.items c.new-2.ensures

pub returns-clause-met : goal.returns-clause-met
returns-clause-met g c =
    let ks : c.push.new.self.items ≡ c.args.top.now ∷ [] = rw (c.push.ensures.items, c.if-is_err.ensures.negation, c.new-keys.ensures.items, c.in_ok-key.ensures) refl in
    c.in_ok-news.ensures.met c.args.top.now (rw ks (0, omega arith, refl))
