use Rattle.std.proofs.Common.{◌∙◌, ℕ, List, Bor, map}
use Rattle.build_texts.specs.Named.{line_guids}
use Rattle.build_texts.specs.Views.{seen}
use Rattle.build_texts.proofs.FrontLemmas.{front_step}
use Rattle.build_texts.proofs.names.lines_guids.Goals as goal

pub loop-named-preserved : goal.loop-named-preserved
loop-named-preserved c = λ lines h.
    front_step (line_guids c.args.arch lines (map {A = Bor (List ℕ)} {B = List ℕ} (λ p. p.now) c.args.paths.now)) c.args.names.now
    c.loop-named.named-index _ (seen c.loop-named.guids.items) _ (seen c.put_found.new.guids.items) c.loop-named-test.true c.named-item.is
    (c.in_ok-found.ensures lines h) c.in_ok-put_found.ensures
    ∙ c.loop-named.invariant lines h
