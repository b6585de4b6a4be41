use Rattle.std.proofs.Common.{ℕ, ◌+◌, ◌==◌, take, drop, ap, sym, ◌∙◌}
use Rattle.std.specs.List.{position_or_len}
use Rattle.macro_expressions.specs.Macros.{meaning}
use Rattle.macro_expressions.specs.Scopes.{scope_of}
use Rattle.macro_expressions.proofs.MacroFronts.{behind_first, front_use, front_plain, written_front}
use Rattle.macro_expressions.proofs.macros.write_front.Goals as goal

pub returns-in_ok-write_use-in-Some-clause-text : goal.returns-in_ok-write_use-in-Some-clause-text
returns-in_ok-write_use-in-Some-clause-text c = written_front c.args.undefined (scope_of c.args.scope) c.args.out.now.items c.write_use.new.out.items (meaning c.args.undefined (scope_of c.args.scope) c.in-Some.n c.args.rest.now) c.args.rest.now (drop (c.in-Some.n + 3) c.args.rest.now) c.in_ok-write_use-in-Some.ensures (front_use c.args.undefined (scope_of c.args.scope) c.args.rest.now c.in-Some.n c.requires (sym c.in-Some.ensures.at))

pub returns-in_ok-push_bytes-in-None-clause-text : goal.returns-in_ok-push_bytes-in-None-clause-text
returns-in_ok-push_bytes-in-None-clause-text c =
    let n : ℕ = c.place_of-plain.result in
    written_front c.args.undefined (scope_of c.args.scope) c.args.out.now.items c.push_bytes.new.out.items (take (n + 1) c.args.rest.now) c.args.rest.now (drop (n + 1) c.args.rest.now) c.in_ok-push_bytes-in-None.ensures
    (rw (c.place_of-plain.ensures.at ∙ ap (position_or_len (λ b. b == 36)) (behind_first c.args.rest.now)) (front_plain c.args.undefined (scope_of c.args.scope) c.args.rest.now c.requires (sym c.in-None.ensures.at)))
