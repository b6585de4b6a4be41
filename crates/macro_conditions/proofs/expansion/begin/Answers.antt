use Rattle.std.proofs.Common.{subst, sym, List, [], ◌∷◌}
use Rattle.macro_conditions.specs.Sources.{answer}
use Rattle.macro_conditions.specs.Expansion.{Env}
use Rattle.macro_conditions.specs.OpenFiles.{Opened, IsLeft, opened_of, within}
use Rattle.macro_conditions.proofs.OpeningLemmas.{root_begins, root_halts}
use Rattle.macro_conditions.proofs.expansion.begin.Goals as goal

pub returns-in_ok-rooted-in-Ok : goal.returns-in_ok-rooted-in-Ok
returns-in_ok-rooted-in-Ok c =
    let known = answer c.args.given.known.now in
    let f = opened_of c.in-Ok.file in
    subst (λ (fs : List Opened). IsLeft known c.args.root.now c.args.macros.now c.args.given.fixed.now fs (within c.in_ok-rooted-in-Ok.field-0)) (sym c.in_ok-rooted-in-Ok.ensures.0)
    (subst (λ (e : Env). IsLeft known c.args.root.now c.args.macros.now c.args.given.fixed.now (f ∷ []) e) (sym c.in_ok-rooted-in-Ok.ensures.1)
    (root_begins known c.args.root.now c.args.macros.now c.args.given.fixed.now f c.in-Ok.ensures))

pub returns-in-Err : goal.returns-in-Err
returns-in-Err c = root_halts (answer c.args.given.known.now) c.args.root.now c.args.macros.now c.args.given.fixed.now c.in-Err.stopped c.in-Err.ensures
