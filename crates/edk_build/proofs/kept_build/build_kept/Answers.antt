use Rattle.std.proofs.Common.{inr}
use Rattle.edk_build.proofs.KeptLemmas.{built_loaded, built_stopped, completes, end_built, end_reads, stays, stopped_reads, text_still}
use Rattle.edk_build.proofs.RunLemmas.{on_end, on_stop}
use Rattle.edk_build.proofs.kept_build.build_kept.Goals as goal

pub build_from-requires-clause-text : goal.build_from-requires-clause-text
build_from-requires-clause-text g c = λ κs q. text_still _ _ c.in-Ok.loaded.cache c.in-Ok.loaded.is_text c.in-Ok.ensures.kept c.in-Ok.ensures.text

pub returns-in-Ok-build_from-clause-built : goal.returns-in-Ok-build_from-clause-built
returns-in-Ok-build_from-clause-built g c =
    let e = c.in-Ok-build_from.ensures in
    built_loaded _ _ _ c.in-Ok.loaded.cache _ _ _ _ _ _ _ c.in-Ok.ensures.kept c.in-Ok.ensures.count c.in-Ok.ensures.stands
    (λ stands. end_built _ _ _ c.in-Ok.loaded.cache _ _ stands e.ended e.sink_count e.keeper_count)

pub returns-in-Ok-build_from-clause-steps : goal.returns-in-Ok-build_from-clause-steps
returns-in-Ok-build_from-clause-steps g c = record {
  ran = inr (c.in-Ok.loaded.cache, c.in-Ok.ensures.stands, c.build_from.ensures.ran);
  all = on_end c.in-Ok-build_from.status _ (c.in-Ok.loaded.cache, c.in-Ok.ensures.stands, c.in-Ok-build_from.ensures.all);
  read = inr (c.in-Ok.loaded.cache, c.in-Ok.ensures.stands, c.build_from.ensures.read);
}

pub returns-in-Ok-build_from-clause-complete : goal.returns-in-Ok-build_from-clause-complete
returns-in-Ok-build_from-clause-complete g c =
    completes _ _ _ _ _ _ (returns-in-Ok-build_from-clause-built g c) (end_reads _ c.in-Ok-build_from.ensures.ended.left _ c.in-Ok-build_from.ensures.ended.own)

pub returns-in-Ok-build_from-clause-stays_sound : goal.returns-in-Ok-build_from-clause-stays_sound
returns-in-Ok-build_from-clause-stays_sound g c = stays _ _ _ _ _ (returns-in-Ok-build_from-clause-built g c)

pub returns-in-Err-build_from-clause-built : goal.returns-in-Err-build_from-clause-built
returns-in-Err-build_from-clause-built g c =
    let e = c.in-Err-build_from.ensures in
    built_loaded _ _ _ c.in-Ok.loaded.cache _ _ _ _ _ _ _ c.in-Ok.ensures.kept c.in-Ok.ensures.count c.in-Ok.ensures.stands
    (λ stands. built_stopped _ c.in-Err-build_from.stop _ _ c.in-Ok.loaded.cache _ _ c.status-in-Err-build_from.ensures stands e.stopped e.kept e.unwritten e.write_fault)

pub returns-in-Err-build_from-clause-steps : goal.returns-in-Err-build_from-clause-steps
returns-in-Err-build_from-clause-steps g c = record {
  ran = inr (c.in-Ok.loaded.cache, c.in-Ok.ensures.stands, c.build_from.ensures.ran);
  all = on_stop _ c.in-Err-build_from.stop _ c.status-in-Err-build_from.ensures;
  read = inr (c.in-Ok.loaded.cache, c.in-Ok.ensures.stands, c.build_from.ensures.read);
}

pub returns-in-Err-build_from-clause-complete : goal.returns-in-Err-build_from-clause-complete
returns-in-Err-build_from-clause-complete g c =
    completes _ _ _ _ _ _ (returns-in-Err-build_from-clause-built g c)
    (stopped_reads _ c.in-Err-build_from.stop _ _ c.status-in-Err-build_from.ensures c.in-Err-build_from.ensures.read_fault)

pub returns-in-Err-build_from-clause-stays_sound : goal.returns-in-Err-build_from-clause-stays_sound
returns-in-Err-build_from-clause-stays_sound g c = stays _ _ _ _ _ (returns-in-Err-build_from-clause-built g c)
