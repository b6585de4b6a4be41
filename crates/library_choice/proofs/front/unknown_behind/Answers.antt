use Rattle.std.proofs.Common.{◌≡◌, ◌∙◌, ◌++◌, ℕ, List, ap, drop}
use Rattle.std.specs.Prelude.{filter}
use Rattle.library_choice.specs.Closure.{is_unknown}
use Rattle.library_choice.specs.Fronts.{is_apart}
use Rattle.library_choice.proofs.MadeLemmas.{apart_none}
use Rattle.library_choice.proofs.front.unknown_behind.Goals as goal

pub returns : goal.returns
returns c =
    let one : c.push_aparts.new.paths ≡ filter (is_unknown c.args.tables.now.infs) (drop c.args.first_at c.args.first.now) =
    c.in_ok-push_aparts.ensures
    ∙ ap (λ (l : List (List ℕ)). l ++ filter (is_apart c.args.tables.now c.new-none.result) c.behind.result.now) c.new-paths.ensures
    ∙ ap (λ (l : List (List ℕ)). filter (is_apart c.args.tables.now l) c.behind.result.now) c.new-none.ensures
    ∙ apart_none c.args.tables.now c.behind.result.now
    ∙ ap (filter (is_unknown c.args.tables.now.infs)) c.behind.ensures in
    c.in_ok-push_aparts-2.ensures
    ∙ ap (λ (l : List (List ℕ)). l ++ filter (is_apart c.args.tables.now c.args.first.now) c.behind-2.result.now) one
    ∙ ap (λ (l : List (List ℕ)). filter (is_unknown c.args.tables.now.infs) (drop c.args.first_at c.args.first.now) ++ filter (is_apart c.args.tables.now c.args.first.now) l) c.behind-2.ensures
