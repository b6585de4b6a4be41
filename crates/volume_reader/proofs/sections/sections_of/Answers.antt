use Rattle.std.proofs.Common.{◌∙◌, sym, arith, IsTrue}
use Rattle.volume_reader.proofs.SectionLemmas.{sections_turn, sections_end, sections_none}
use Rattle.volume_reader.proofs.sections.sections_of.Goals as goal

pub returns-then-not-follows : goal.returns-then-not-follows
returns-then-not-follows c =
    sections_none c.args.ffs3 c.args.place c.args.body.now c.loop-at.rows c.loop-at.at c.loop-at.invariant.count (omega arith) (sym c.follows.ensures.value ∙ c.if-not-follows.true) c.loop-at.invariant.whole

pub loop-at-preserved : goal.loop-at-preserved
loop-at-preserved c =
    let t : IsTrue c.follows.result = c.if-not-follows.false in
    let n =
    sections_turn c.args.ffs3 c.args.place c.args.body.now c.loop-at.rows c.push.new.self c.loop-at.at c.up4-start.result c.section_size.result c.rest-bytes.result.now c.listed_section.result c.up4-start.ensures.value c.rest-bytes.ensures
    c.section_size.ensures c.listed_section.ensures c.in_ok-push.ensures.ok (c.follows.ensures.next t) c.loop-at.invariant.count (omega arith) (sym c.follows.ensures.value ∙ c.if-not-follows.false) c.loop-at.invariant.whole in
    record { inside = n.inside; count = n.count; whole = n.whole }

pub returns : goal.returns
returns c = sections_end c.args.ffs3 c.args.place c.args.body.now c.loop-at.rows c.loop-at.at c.loop-at.invariant.count (omega arith) c.loop-at.invariant.whole
