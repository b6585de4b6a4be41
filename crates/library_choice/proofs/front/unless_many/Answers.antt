use Rattle.std.proofs.Common.{◌≡◌, ◌∙◌, ℕ, List, [], ap, arith, cond, length, sym, subst}
use Rattle.std.proofs.lemmas.Bool.{le-leb, lt-leb}
use Rattle.library_choice.specs.Closure.{same_path}
use Rattle.library_choice.specs.Found.{add}
use Rattle.library_choice.specs.Search.{Prefix}
use Rattle.library_choice.proofs.FoundLemmas.{add-grows}
use Rattle.library_choice.proofs.front.unless_many.Goals as goal

pub returns-then-len-gt-MOST_INSTANCES-clause-few : goal.returns-then-len-gt-MOST_INSTANCES-clause-few
returns-then-len-gt-MOST_INSTANCES-clause-few c = λ h.
    let put : c.put_paths.new.found ≡ add same_path c.args.first.now c.args.second.now = c.in_ok-put_paths.ensures ∙ ap (add same_path c.args.first.now) c.items-2.ensures in
    c.new.ensures
    ∙ sym (ap (λ b. cond b c.args.unknown []) (lt-leb (length (add same_path c.args.first.now c.args.second.now)) 1024 (omega (arith, ap length put, c.len.ensures, c.if-len-gt-MOST_INSTANCES.true))))

pub returns-then-len-gt-MOST_INSTANCES-clause-grows : goal.returns-then-len-gt-MOST_INSTANCES-clause-grows
returns-then-len-gt-MOST_INSTANCES-clause-grows c =
    subst (λ (l : List (List ℕ)). Prefix c.args.first.now l) (sym c.in_ok-put_paths.ensures) (add-grows same_path c.args.first.now c.items-2.result.now)

pub returns-clause-few : goal.returns-clause-few
returns-clause-few c = λ h.
    let put : c.put_paths.new.found ≡ add same_path c.args.first.now c.args.second.now = c.in_ok-put_paths.ensures ∙ ap (add same_path c.args.first.now) c.items-2.ensures in
    sym (ap (λ b. cond b c.args.unknown []) (le-leb (length (add same_path c.args.first.now c.args.second.now)) 1024 (omega (arith, ap length put, c.len.ensures, c.if-len-gt-MOST_INSTANCES.false))))

pub returns-clause-grows : goal.returns-clause-grows
returns-clause-grows c =
    subst (λ (l : List (List ℕ)). Prefix c.args.first.now l) (sym c.in_ok-put_paths.ensures) (add-grows same_path c.args.first.now c.items-2.result.now)
