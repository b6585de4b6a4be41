use Rattle.std.proofs.Common.{◌∙◌, [], ◌∷◌}
use Rattle.build_base.proofs.SpellingLemmas.{Spelled-text, Spelled-then}
use Rattle.build_base.specs.Spelling.{text}
use Rattle.build_base.specs.declared.outside.Target.TheVariants.{Out as ToOut}
use Rattle.edk_build.proofs.StoreLemmas.{wrote_all, emitted_all, no_rise, keeper_no_rise, stored_all}
use Rattle.edk_build.specs.Made.{made_outputs}
use Rattle.edk_build.proofs.kept_build.write_kept.Goals as goal

pub returns-clause-all : goal.returns-clause-all
returns-clause-all g c = record {
  written =
      Spelled-then _ _ _ (made_outputs c.args.ready.now.made) (text ToOut c.args.ready.now.summary ∷ [])
      (wrote_all _ _ (made_outputs c.args.ready.now.made) c.write_outputs.result c.if-is_err.ensures.value c.write_outputs.ensures.written)
      (Spelled-text _ _ ToOut c.args.ready.now.summary (emitted_all _ _ ToOut c.args.ready.now.summary c.write_summary.result c.if-is_err-3.ensures.value c.write_summary.ensures.written));
  kept = stored_all _ _ c.bytes.result.now c.args.text.now c.store.result c.if-is_err-2.ensures.value c.bytes.ensures c.store.ensures.kept;
  sink =
      no_rise _ _ c.write_summary.result c.if-is_err-3.ensures.value c.write_summary.ensures.cause
      ∙ no_rise _ _ c.write_outputs.result c.if-is_err.ensures.value c.write_outputs.ensures.cause;
  keeper = keeper_no_rise _ _ c.store.result c.if-is_err-2.ensures.value c.store.ensures.cause;
}
