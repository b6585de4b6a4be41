use Rattle.std.specs.List.{filter_map}
use Rattle.library_choice.specs.Closure.{same_path, is_known, instance_of, next, nulls}
use Rattle.library_choice.proofs.FrontLemmas.{rest-few, rest-many}
use Rattle.library_choice.proofs.MadeLemmas.{both_end}
use Rattle.library_choice.proofs.PathLemmas.{path_same}
use Rattle.library_choice.proofs.front.pass_both.Goals as goal

pub returns-then-not-branch-clause-ends : goal.returns-then-not-branch-clause-ends
returns-then-not-branch-clause-ends c = λ inf f g.
    let s = c.args.tables.now in
    rest-many same_path path_same (is_known s.infs) (next s) (filter_map (instance_of s) inf.classes) (nulls s) c.args.first.now c.pass.new.found c.args.first_at c.in_ok-pass.field-0
    c.in_ok-pass.ensures.passed c.if-not-branch.true f.stands

pub returns-clause-ends : goal.returns-clause-ends
returns-clause-ends c = λ inf f g.
    let s = c.args.tables.now in
    both_end s inf c.pass.new.found c.args.second.now c.pass-2.new.found c.args.second_at c.in_ok-few.few
    (rest-few same_path path_same (is_known s.infs) (next s) (filter_map (instance_of s) inf.classes) c.args.first.now c.pass.new.found c.args.first_at c.in_ok-pass.field-0 c.in_ok-pass.ensures.passed
    c.if-not-branch.false f.stands)
    c.in_ok-few.ensures.passed g
