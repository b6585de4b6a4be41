-- What is found of a key.
use Rattle.std.proofs.Common.{◌∙◌, ap, List}
use Rattle.std.specs.BTreeMap.{is_at}
use Rattle.std.specs.Map.{lookup}
use Rattle.step_engine.proofs.TableLemmas.{found_same}
use Rattle.step_engine.proofs.key_table.KeyTable.get.Goals as goal

pub returns : goal.returns
returns g c =
    let law = (g.met.K.Ord g.world.𝓛 g.world.𝓜 g.world.𝓡 ((λ s x. x), (λ x. x), (λ x. x), λ x. x)).matches_eq in
    c.get.ensures.value ∙ found_same g.K.PartialEq.eq g.K.Ord.cmp law c.self.inside.map.entries c.args.key.now
    ∙ ap (λ (entries : List _). lookup (is_at (g.K.Ord.cmp c.args.key.now)) entries) c.self.view_is
