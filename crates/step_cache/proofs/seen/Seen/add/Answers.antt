use Rattle.step_cache.proofs.TableLemmas.{add_text}
use Rattle.step_cache.proofs.seen.Seen.add.Goals as goal

pub returns : goal.returns
returns c =
    add_text c.args.self.now c.self.inside.texts.keys c.add_key.new.texts.keys c.args.text c.in_ok-added.added c.self.view_is c.in_ok-added.ensures.keys c.in_ok-added.ensures.added
