use Rattle.std.proofs.lemmas.List.Elements.{at_read}
use Rattle.std.proofs.Common.{◌≡◌, ◌∙◌, ◌<◌, ◌+◌, ◌-◌, ℕ, length, sym, subst, arith}
use Rattle.std.specs.declared.cmp.Ordering.TheVariants.{Greater}
use Rattle.step_engine.specs.Caches.{AreBelow}
use Rattle.step_engine.specs.declared.talk.Entry.{Entry}
use Rattle.step_engine.proofs.Caches.{below_more}
use Rattle.step_engine.proofs.place.is_above.Goals as goal

pub returns-in-Greater : goal.returns-in-Greater
returns-in-Greater g c = λ _.
    let ord = g.met.K.Ord g.world.𝓛 g.world.𝓜 g.world.𝓡 ((λ s x. x), (λ x. x), (λ x. x), λ x. x) in
    let xs = c.args.entries.now.items in
    let at = c.len-count.result - 1 in
    let inside : at < length xs = omega (arith, c.len-count.ensures, c.if-count-eq0.false) in
    let end : at + 1 ≡ length xs = omega (arith, c.len-count.ensures, c.if-count-eq0.false) in
    let here = at_read xs (λ (e : Entry _ _). g.K.Ord.cmp c.args.key.now e.key ≡ Greater) at c.index.result.now inside c.index.ensures (sym c.cmp.ensures ∙ c.in-Greater.is) in
    record {
      inside = omega arith;
      below = subst (λ (n : ℕ). AreBelow g.K.Ord.cmp c.args.key.now xs n) end (below_more g.K.Ord.cmp ord.total c.args.key.now xs at c.requires inside here);
      above = λ d below. absurd (omega (arith, below));
    }
