use Rattle.volume_reader.proofs.FoundLemmas.{found_turn, found_fails, found_end}
use Rattle.volume_reader.proofs.listing.volumes.Goals as goal

pub returns-in-Err : goal.returns-in-Err
returns-in-Err c = found_fails c.args.bytes.now c.loop-at.rows c.loop-at.from c.in-Some.at c.in-Err.refusal c.loop-at.invariant.room c.in-Some.ensures.value c.in-Err.ensures.value c.loop-at.invariant.whole

pub loop-at-preserved : goal.loop-at-preserved
loop-at-preserved c =
    let n =
    found_turn c.args.bytes.now c.loop-at.rows c.push.new.self c.loop-at.from c.in-Some.at c.in-Ok.found c.in-Some.ensures.value c.in-Ok.ensures.value c.in_ok-push-in-Ok.ensures.ok c.in-Some.ensures.after c.in-Some.ensures.inside c.in-Ok.ensures.some
    c.loop-at.invariant.count c.loop-at.invariant.whole in
    record { count = n.count; room = n.room; whole = n.whole }

pub returns : goal.returns
returns c = found_end c.args.bytes.now c.loop-at.rows c.loop-at.from c.in_default.ensures.value c.loop-at.invariant.whole
