use Rattle.std.proofs.Common.{◌++◌, ◌∷◌, [], refl, sym, subst, ◌∙◌}
use Rattle.volume_nesting.specs.Turning.{Standing}
use Rattle.volume_nesting.specs.declared.numbering.Sorter.{Sorter}
use Rattle.volume_nesting.proofs.TurnLemmas.{numbered_more}
use Rattle.volume_nesting.proofs.numbering.Sorter.number.Goals as goal

pub returns : goal.returns
returns c = λ order h.
    let turns : Sorter = record { alloc = c.args.self.now.alloc; numbered = c.insert.new.set; ready = c.args.self.now.ready; waiting = c.take_waiting-rows.new.table } in
    c.in_ok-settle_all.ensures (order ++ c.args.volume ∷ [])
    (subst (λ rows. Standing c.args.nests.now (order ++ c.args.volume ∷ []) rows turns) (sym (c.items.ensures ∙ c.take_waiting-rows.ensures.rows))
    (numbered_more c.args.nests.now order c.args.volume c.args.self.now turns h c.in_ok-insert.ensures refl c.take_waiting-rows.ensures.others))
