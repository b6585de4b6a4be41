use Rattle.std.proofs.Common.{◌∙◌, sym, ap, arith, IsTrue, Ok}
use Rattle.volume_reader.specs.Files.{is_file}
use Rattle.volume_reader.proofs.HeldLemmas.{held_turn, held_wrong, held_end, busy, idle}
use Rattle.volume_reader.proofs.volume.held_from.Goals as goal

pub returns-then-not-is_file-clause-value : goal.returns-then-not-is_file-clause-value
returns-then-not-is_file-clause-value c =
    held_wrong c.args.ffs3 c.args.erase c.args.volume.now c.args.first c.loop-at.files c.loop-at.at c.loop-at.invariant.room
    (c.erased_from-end.ensures.value c.loop-at.at ∙ busy c.erased_from-end.result c.loop-at.at c.loop-at-test.true)
    (ap (is_file c.args.ffs3 c.args.erase) (sym c.rest-bytes.ensures) ∙ sym c.is_file.ensures.value ∙ c.if-not-is_file.true) c.loop-at.invariant.whole

pub loop-at-preserved : goal.loop-at-preserved
loop-at-preserved c =
    let t : IsTrue c.is_file.result = c.if-not-is_file.false in
    let b = c.is_file.ensures.body t in
    let h = b.head in
    let l = b.least in
    let z = c.stated_size-size.ensures in
    let n =
    held_turn c.args.ffs3 c.args.erase c.args.volume.now c.args.first c.loop-at.files c.push.new.self c.loop-at.at c.stated_size-size.result c.up8-at.result c.rest-bytes.result.now c.in_ok-file.file c.rest-bytes.ensures c.in_ok-file.ensures
    c.stated_size-size.ensures c.up8-at.ensures.value c.in_ok-push.ensures.ok c.up8-at.ensures.after (omega arith) c.loop-at.invariant.count (omega arith)
    (c.erased_from-end.ensures.value c.loop-at.at ∙ busy c.erased_from-end.result c.loop-at.at c.loop-at-test.true) (sym c.is_file.ensures.value ∙ c.if-not-is_file.false) c.loop-at.invariant.whole in
    record { count = n.count; room = n.room; whole = n.whole }

pub returns-clause-value : goal.returns-clause-value
returns-clause-value c =
    held_end c.args.ffs3 c.args.erase c.args.volume.now c.args.first c.loop-at.files c.loop-at.at c.loop-at.invariant.room
    (c.erased_from-end.ensures.value c.loop-at.at ∙ idle c.erased_from-end.result c.loop-at.at (omega arith)) c.loop-at.invariant.whole
    ∙ ap (λ n. Ok (record { files = c.loop-at.files; free = n })) (sym c.bytes_behind-free.ensures)
