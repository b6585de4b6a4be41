use Rattle.std.proofs.Common.{arith, ◌≡◌, ◌<◌, ◌+◌, ◌-◌, ◌∙◌, ap, map, length}
use Rattle.vpd_image.specs.Tables.{entry_view}
use Rattle.vpd_image.proofs.EntryLemmas.{left_none, entries_none, left_drop, entries_more}
use Rattle.vpd_image.proofs.lines.entries_up.Goals as goal

pub loop-place-init : goal.loop-place-init
loop-place-init c = record {
  place = omega arith;
  table = left_none c.args.arches.now c.args.rows.now c.args.lines.now c.in_ok-table.table c.in_ok-table.ensures;
  found = ap (map entry_view) c.new-found.ensures.items ∙ entries_none c.args.arches.now c.args.rows.now c.args.lines.now;
}

pub loop-place-preserved : goal.loop-place-preserved
loop-place-preserved c =
    let n = c.loop-place.place - 1 in
    let next : c.loop-place.place ≡ n + 1 = omega (arith, c.loop-place-test.true) in
    let inside : n < length c.args.lines.now = omega (arith, c.loop-place.invariant.place, c.loop-place-test.true) in
    record {
      place = omega (arith, c.loop-place.invariant.place);
      table = left_drop c.args.arches.now c.args.rows.now c.args.lines.now n c.loop-place.place c.index-lines-place.result c.put_line.new.table next inside c.index-lines-place.is (c.in_ok-put_line.ensures.left _ c.loop-place.invariant.table);
      found = c.in_ok-put_line.ensures.found _ c.loop-place.invariant.table ∙ entries_more c.args.arches.now c.args.rows.now c.args.lines.now n c.loop-place.place c.index-lines-place.result _ next inside c.index-lines-place.is c.loop-place.invariant.found;
    }
