-- What a table has after a value is put in.
use Rattle.std.proofs.Common.{subst, List, Some}
use Rattle.step_engine.specs.Table.{Puts}
use Rattle.step_engine.proofs.TableLemmas.{sets_same, on_ok}
use Rattle.step_engine.proofs.key_table.KeyTable.insert.Goals as goal

pub returns-clause-puts : goal.returns-clause-puts
returns-clause-puts g c =
    let law = (g.met.K.Ord g.world.𝓛 g.world.𝓜 g.world.𝓡 ((λ s x. x), (λ x. x), (λ x. x), λ x. x)).matches_eq in
    subst (λ (old : List _). Puts g.K.Ord.cmp c.args.key c.args.value old c.insert.new.self.entries) c.self.view_is
    (sets_same g.K.PartialEq.eq g.K.Ord.cmp law c.args.key (Some c.args.value) _ _ (on_ok _ _ c.if-is_err.ensures.value c.insert.ensures.updates).0)
