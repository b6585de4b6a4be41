use Rattle.std.proofs.Common.{◌-◌, arith}
use Rattle.file_steps.proofs.RequiredLemmas.{table_more}
use Rattle.file_steps.proofs.required.places_of.Goals as goal

pub loop-place-preserved : goal.loop-place-preserved
loop-place-preserved c = record {
  place = omega (arith, c.loop-place.invariant.place);
  table = table_more c.args.sections.now (c.loop-place.place - 1) c.loop-place.place c.index-sections-place.result c.loop-place.places c.put_section.new.places
      (omega (arith, c.loop-place-test.true)) (omega (arith, c.loop-place.invariant.place, c.loop-place-test.true)) c.index-sections-place.is c.in_ok-put_section.ensures c.loop-place.invariant.table;
}
