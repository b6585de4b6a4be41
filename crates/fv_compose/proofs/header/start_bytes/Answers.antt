use Rattle.std.proofs.Common.{◌≡◌, ◌∙◌, sym, ap, length, arith}
use Rattle.std.proofs.lemmas.Grind.{common_steps}
use Rattle.fv_compose.specs.Header.{head_of}
use Rattle.fv_compose.proofs.HeaderLemmas.{start_plain, start_named, head_length}
use Rattle.fv_compose.proofs.header.start_bytes.Goals as goal

pub returns-in_ok-put_extended-in-Some-clause-items : goal.returns-in_ok-put_extended-in-Some-clause-items
returns-in_ok-put_extended-in-Some-clause-items c =
    let h : c.put_volume_head.new.out.items ≡ head_of c.args.plan.now c.args.size = rw c.new-out.ensures.items at c.in_ok-put_volume_head.ensures in
    c.in_ok-put_extended-in-Some.ensures.value ∙ rw h (sym (start_named c.args.plan.now c.args.size c.in-Some.name c.in-Some.is))

pub returns-in_ok-put_extended-in-Some-clause-length : goal.returns-in_ok-put_extended-in-Some-clause-length
returns-in_ok-put_extended-in-Some-clause-length c =
    let h : c.put_volume_head.new.out.items ≡ head_of c.args.plan.now c.args.size = rw c.new-out.ensures.items at c.in_ok-put_volume_head.ensures in
    let l = ap length h ∙ head_length c.args.plan.now c.args.size in
    rw c.in-Some.is (grind (arith, common_steps))

pub returns-in-None-clause-items : goal.returns-in-None-clause-items
returns-in-None-clause-items c =
    let h : c.put_volume_head.new.out.items ≡ head_of c.args.plan.now c.args.size = rw c.new-out.ensures.items at c.in_ok-put_volume_head.ensures in
    h ∙ sym (start_plain c.args.plan.now c.args.size c.in-None.is)

pub returns-in-None-clause-length : goal.returns-in-None-clause-length
returns-in-None-clause-length c =
    let h : c.put_volume_head.new.out.items ≡ head_of c.args.plan.now c.args.size = rw c.new-out.ensures.items at c.in_ok-put_volume_head.ensures in
    let l = ap length h ∙ head_length c.args.plan.now c.args.size in
    rw c.in-None.is (grind (arith, common_steps))
