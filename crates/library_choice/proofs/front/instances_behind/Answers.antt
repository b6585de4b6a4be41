use Rattle.std.proofs.Common.{◌≡◌, ◌∙◌, ap, sym, subst, arith, length, List, ℕ, Some}
use Rattle.library_choice.specs.Closure.{same_path}
use Rattle.library_choice.specs.Found.{add}
use Rattle.library_choice.specs.Fronts.{FindsFor}
use Rattle.library_choice.proofs.MadeLemmas.{all_ended, not_ended, found_both, found_many}
use Rattle.library_choice.proofs.front.instances_behind.Goals as goal

pub returns-then-not-branch : goal.returns-then-not-branch
returns-then-not-branch c = λ inf fronts.
    not_ended c.args.tables.now inf c.pass_both.new.first c.pass_both.new.second c.in_ok-pass_both.field-0 (c.in_ok-pass_both.ensures.ends inf fronts.classes fronts.nulls) c.if-not-branch.true

pub returns-then-len-gt-MOST_INSTANCES : goal.returns-then-len-gt-MOST_INSTANCES
returns-then-len-gt-MOST_INSTANCES c = λ inf fronts.
    let put : c.put_paths.new.found ≡ add same_path c.pass_both.new.first c.pass_both.new.second = c.in_ok-put_paths.ensures ∙ ap (add same_path c.pass_both.new.first) c.items.ensures in
    found_many c.args.tables.now inf c.pass_both.new.first c.pass_both.new.second
    (all_ended c.args.tables.now inf c.pass_both.new.first c.pass_both.new.second c.in_ok-pass_both.field-0 (c.in_ok-pass_both.ensures.ends inf fronts.classes fronts.nulls) c.if-not-branch.false)
    (omega (arith, ap length put, c.len.ensures, c.if-len-gt-MOST_INSTANCES.true))

pub returns : goal.returns
returns c = λ inf fronts.
    let put : c.put_paths.new.found ≡ add same_path c.pass_both.new.first c.pass_both.new.second = c.in_ok-put_paths.ensures ∙ ap (add same_path c.pass_both.new.first) c.items.ensures in
    subst (λ (l : List (List ℕ)). FindsFor c.args.tables.now inf (Some l)) (sym put)
    (found_both c.args.tables.now inf c.pass_both.new.first c.pass_both.new.second
    (all_ended c.args.tables.now inf c.pass_both.new.first c.pass_both.new.second c.in_ok-pass_both.field-0 (c.in_ok-pass_both.ensures.ends inf fronts.classes fronts.nulls) c.if-not-branch.false)
    (omega (arith, ap length put, c.len.ensures, c.if-len-gt-MOST_INSTANCES.false)))
