use Rattle.std.proofs.Common.{arith, ◌∙◌, refl}
use Rattle.vpd_image.proofs.ImageLemmas.{put_next, put_none}
use Rattle.vpd_image.proofs.image.put_entries.Goals as goal

pub loop-i-init : goal.loop-i-init
loop-i-init c = rw c.new-out.ensures.items refl

pub loop-i-preserved : goal.loop-i-preserved
loop-i-preserved c = put_next _ _ c.args.all.now c.loop-i.i c.index-all-i.result (omega arith) c.index-all-i.is c.in_ok-put_entry.ensures ∙ c.loop-i.invariant

pub returns : goal.returns
returns c = put_none _ c.args.all.now c.loop-i.i (omega arith) ∙ c.loop-i.invariant
