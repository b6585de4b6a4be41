use Rattle.edk_build.proofs.KeptLemmas.{ended_by, stopped_by, told_brought, on_ok, text_left}
use Rattle.edk_build.proofs.RunLemmas.{over_ran, over_all, over_read, read_none}
use Rattle.edk_build.proofs.kept_build.build_from.Goals as goal

pub returns-in-Err-clause-ran : goal.returns-in-Err-clause-ran
returns-in-Err-clause-ran g c = over_ran _ _ _ _ _ _ _ c.new-edits.ensures c.in-Ok.ensures c.bring_all.ensures.ran

pub returns-clause-ran : goal.returns-clause-ran
returns-clause-ran g c = over_ran _ _ _ _ _ _ _ c.new-edits.ensures c.in-Ok.ensures c.bring_all.ensures.ran

pub returns-clause-read : goal.returns-clause-read
returns-clause-read g c = over_read _ _ _ _ _ _ _ c.new-edits.ensures c.in-Ok.ensures c.bring_all.ensures.read

pub returns-clause-ended : goal.returns-clause-ended
returns-clause-ended g c =
    let b = c.in-Ok-bring_all.brought in
    ended_by c.emit_kept.result (g.T.Tree.held c.args.tree.now) c.args.job.now c.args.loaded.cache b.cache b.given b.steps b.reused _ _
    c.emit_kept.ensures.all c.emit_kept.ensures.status c.in-Ok-bring_all.ensures.own c.in-Ok-bring_all.ensures.sound
    (told_brought (g.T.Tree.held c.args.tree.now) c.new-edits.result c.args.job.now c.in-Ok.fields c.args.loaded.cache b.cache b.given b.steps b.reused
    c.requires.job c.new-edits.ensures c.in-Ok.ensures c.in-Ok-bring_all.ensures.brought)

pub returns-clause-stopped : goal.returns-clause-stopped
returns-clause-stopped g c =
    let b = c.in-Ok-bring_all.brought in
    stopped_by c.emit_kept.result (g.T.Tree.held c.args.tree.now) c.args.job.now c.args.loaded.cache b.cache b.given b.steps b.reused _ _
    c.emit_kept.ensures.failed c.in-Ok-bring_all.ensures.own c.in-Ok-bring_all.ensures.sound
    (told_brought (g.T.Tree.held c.args.tree.now) c.new-edits.result c.args.job.now c.in-Ok.fields c.args.loaded.cache b.cache b.given b.steps b.reused
    c.requires.job c.new-edits.ensures c.in-Ok.ensures c.in-Ok-bring_all.ensures.brought)

pub returns-clause-all : goal.returns-clause-all
returns-clause-all g c = on_ok c.emit_kept.result _ (over_all _ _ _ _ _ _ _ c.new-edits.ensures c.in-Ok.ensures c.in-Ok-bring_all.ensures.all)

pub returns-in_default-clause-read : goal.returns-in_default-clause-read
returns-in_default-clause-read g c = read_none _ _ _ _

pub emit_kept-requires : goal.emit_kept-requires
emit_kept-requires g c =
    text_left _ c.args.loaded.cache c.in-Ok-bring_all.brought.cache c.args.loaded.is_text c.in-Ok-bring_all.brought.unchanged c.keeps_text-is_kept.result
    c.keeps_text-is_kept.ensures c.in-Ok-bring_all.ensures.unchanged c.requires.text
