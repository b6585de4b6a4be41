-- The asks of the item.
use Rattle.std.proofs.Common.{refl}
use Rattle.step_engine.proofs.WantingLemmas.{want_asked, want_check}
use Rattle.step_engine.proofs.WantedLemmas.{wants_asked, wants_check}
use Rattle.step_engine.proofs.wanted.want_item.Goals as goal

pub returns-in_ok-want_asks-in-Asked-clause-among : goal.returns-in_ok-want_asks-in-Asked-clause-among
returns-in_ok-want_asks-in-Asked-clause-among g c = want_asked _ c.in-Asked.asked _ _ c.in-Asked.is c.in_ok-want_asks-in-Asked.ensures.among

pub returns-in_ok-want_pairs-in-Some-clause-among : goal.returns-in_ok-want_pairs-in-Some-clause-among
returns-in_ok-want_pairs-in-Some-clause-among g c =
    let a = c.in-Some.ensures.some in
    want_check _ c.in-Check.check _ c.in-Some.batch.now _ _ c.in-Check.is refl a.0 a.1 c.in_ok-want_pairs-in-Some.ensures.among

pub returns-in_ok-want_asks-in-Asked-clause-all : goal.returns-in_ok-want_asks-in-Asked-clause-all
returns-in_ok-want_asks-in-Asked-clause-all g c = wants_asked _ _ _ c.in-Asked.asked _ _ c.in-Asked.is c.in_ok-want_asks-in-Asked.ensures.all

pub returns-in_ok-want_pairs-in-Some-clause-all : goal.returns-in_ok-want_pairs-in-Some-clause-all
returns-in_ok-want_pairs-in-Some-clause-all g c =
    let a = c.in-Some.ensures.some in
    wants_check _ _ _ c.in-Check.check _ c.in-Some.batch.now _ _ c.in-Check.is refl a.0 a.1 c.in_ok-want_pairs-in-Some.ensures.all
