use Rattle.std.proofs.Common.{subst}
use Rattle.volume_nesting.specs.Looping.{Saw}
use Rattle.volume_nesting.specs.declared.loops.Level.{Level}
use Rattle.volume_nesting.proofs.LoopLemmas.{reached_first}
use Rattle.volume_nesting.proofs.loops.Level.begin.Goals as goal

pub returns : goal.returns
returns c =
    let bare : Level = record { alloc = c.args.alloc; seen = c.new.result; edge = c.new-2.result } in
    reached_first c.args.nests.now c.args.volume bare _ c.new.ensures.empty c.new-2.ensures (subst (λ xs. Saw xs bare c.see_all.new.self) c.nest_of.ensures c.in_ok-see_all.ensures)
