use Rattle.std.proofs.Common.{◌≡◌, ◌∙◌, refl, sym, ap, get_or, take, true}
use Rattle.volume_nesting.specs.Numbering.{has, all_among, nest_of}
use Rattle.volume_nesting.specs.Turning.{Passed}
use Rattle.std.proofs.lemmas.List.Elements.{All-head}
use Rattle.volume_nesting.proofs.TurnLemmas.{settled_ready, settled_waiting, has-at}
use Rattle.volume_nesting.proofs.numbering.Sorter.settle.Goals as goal

pub returns-in_ok-add_waiting-in-Some : goal.returns-in_ok-add_waiting-in-Some
returns-in_ok-add_waiting-in-Some c = λ order rest h.
    let nest = nest_of c.args.nests.now c.args.row.volume in
    let first : Passed c.args.nests.now order c.args.row = All-head (Passed c.args.nests.now order) c.args.row rest h.looked in
    let same : c.nest_of-nest.result.now ≡ nest = c.nest_of-nest.ensures in
    let told = c.in-Some.ensures.open order h.numbered (ap (λ xs. all_among order (take c.args.row.at xs)) same ∙ first.passed) in
    let held : has c.nest_of-nest.result.now (get_or c.nest_of-nest.result.now c.in-Some.at 0) ≡ true = has-at c.nest_of-nest.result.now c.in-Some.at 0 c.in-Some.ensures.within in
    settled_waiting c.args.nests.now order c.args.row _ rest (get_or c.nest_of-nest.result.now c.in-Some.at 0) c.args.self.now _ h refl told.0
    (ap (λ xs. has xs (get_or c.nest_of-nest.result.now c.in-Some.at 0)) (sym same) ∙ held) (ap (λ xs. all_among order (take c.in-Some.at xs)) (sym same) ∙ told.1) refl refl c.in_ok-add_waiting-in-Some.ensures

pub returns-in_ok-insert-in-None : goal.returns-in_ok-insert-in-None
returns-in_ok-insert-in-None c = λ order rest h.
    let nest = nest_of c.args.nests.now c.args.row.volume in
    let first : Passed c.args.nests.now order c.args.row = All-head (Passed c.args.nests.now order) c.args.row rest h.looked in
    let same : c.nest_of-nest.result.now ≡ nest = c.nest_of-nest.ensures in
    settled_ready c.args.nests.now order c.args.row rest c.args.self.now _ h
    (ap (all_among order) (sym same) ∙ c.in-None.ensures.whole order h.numbered (ap (λ xs. all_among order (take c.args.row.at xs)) same ∙ first.passed)) refl refl c.in_ok-insert-in-None.ensures
