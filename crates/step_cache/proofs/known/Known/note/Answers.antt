-- What is noted of a part.
use Rattle.std.proofs.Common.{List, ℕ, subst}
use Rattle.step_engine.specs.Table.{IsPlaced}
use Rattle.step_engine.proofs.TableLemmas.{placed}
use Rattle.step_pack.specs.KeyLaws.{keys_exact}
use Rattle.step_pack.specs.Keys.{key_cmp}
use Rattle.step_pack.specs.declared.key.Key.{Key}
use Rattle.step_cache.specs.Known.{number_at}
use Rattle.step_cache.proofs.known.Known.note.Goals as goal

pub returns : goal.returns
returns c =
    subst (λ (old : List (Key × ℕ)). IsPlaced c.args.part c.args.number (number_at old) (number_at c.insert.new.self)) c.self.view_is
    (placed key_cmp keys_exact c.args.part c.args.number c.self.inside.table c.insert.new.self c.in_ok-insert.ensures.puts c.in_ok-insert.ensures.here)
