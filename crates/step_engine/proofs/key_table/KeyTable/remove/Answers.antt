-- What is taken out of a table, and what it has then.
use Rattle.std.proofs.Common.{◌∙◌, ap, subst, List, None}
use Rattle.std.specs.BTreeMap.{is_at}
use Rattle.std.specs.Map.{lookup}
use Rattle.step_engine.specs.Table.{Sets}
use Rattle.step_engine.proofs.TableLemmas.{found_same, sets_same}
use Rattle.step_engine.proofs.key_table.KeyTable.remove.Goals as goal

pub returns-clause-value : goal.returns-clause-value
returns-clause-value g c =
    let law = (g.met.K.Ord g.world.𝓛 g.world.𝓜 g.world.𝓡 ((λ s x. x), (λ x. x), (λ x. x), λ x. x)).matches_eq in
    c.swap_remove.ensures.value ∙ found_same g.K.PartialEq.eq g.K.Ord.cmp law c.self.inside.map.entries c.args.key.now
    ∙ ap (λ (entries : List _). lookup (is_at (g.K.Ord.cmp c.args.key.now)) entries) c.self.view_is

pub returns-clause-sets : goal.returns-clause-sets
returns-clause-sets g c =
    let law = (g.met.K.Ord g.world.𝓛 g.world.𝓜 g.world.𝓡 ((λ s x. x), (λ x. x), (λ x. x), λ x. x)).matches_eq in
    subst (λ (old : List _). Sets g.K.Ord.cmp c.args.key.now None old c.swap_remove.new.self.entries) c.self.view_is
    (sets_same g.K.PartialEq.eq g.K.Ord.cmp law c.args.key.now None _ _ c.swap_remove.ensures.updates.0)
