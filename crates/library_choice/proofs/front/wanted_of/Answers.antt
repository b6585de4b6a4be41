use Rattle.std.proofs.Common.{◌∙◌, length, refl}
use Rattle.std.specs.Prelude.{nat_le}
use Rattle.library_choice.specs.Closure.{same_path}
use Rattle.library_choice.specs.Found.{add}
use Rattle.library_choice.proofs.FoundLemmas.{Prefix-trans}
use Rattle.library_choice.proofs.MadeLemmas.{all_ended, none_wanted, wants_both}
use Rattle.library_choice.proofs.front.wanted_of.Goals as goal

pub returns-then-not-branch-clause-wanted : goal.returns-then-not-branch-clause-wanted
returns-then-not-branch-clause-wanted c = λ inf f g.
    c.new.ensures
    ∙ none_wanted c.args.tables.now inf c.pass_both.new.first c.pass_both.new.second c.in_ok-pass_both.field-0 (c.in_ok-pass_both.ensures.ends inf f g) c.if-not-branch.true

pub returns-then-not-branch-clause-first : goal.returns-then-not-branch-clause-first
returns-then-not-branch-clause-first c = c.in_ok-pass_both.ensures.first

pub returns-then-not-branch-clause-second : goal.returns-then-not-branch-clause-second
returns-then-not-branch-clause-second c = c.in_ok-pass_both.ensures.second

pub returns-clause-wanted : goal.returns-clause-wanted
returns-clause-wanted c = λ inf f g.
    let s = c.args.tables.now in
    let w = wants_both s inf c.args.first.now c.pass_both.new.first c.args.second.now c.pass_both.new.second c.in_ok-unknown.unknown c.args.first_at c.args.second_at f g c.in_ok-pass_both.ensures.first
    c.in_ok-pass_both.ensures.second (all_ended s inf c.pass_both.new.first c.pass_both.new.second c.in_ok-pass_both.field-0 (c.in_ok-pass_both.ensures.ends inf f g) c.if-not-branch.false) c.in_ok-unknown.ensures in
    c.in_ok-wanted.ensures.few w.bound ∙ w.is (nat_le (length (add same_path c.pass_both.new.first c.pass_both.new.second)) 1024) refl

pub returns-clause-first : goal.returns-clause-first
returns-clause-first c = Prefix-trans c.args.first.now c.pass_both.new.first c.unless_many.new.first c.in_ok-pass_both.ensures.first c.in_ok-wanted.ensures.grows

pub returns-clause-second : goal.returns-clause-second
returns-clause-second c = c.in_ok-pass_both.ensures.second
