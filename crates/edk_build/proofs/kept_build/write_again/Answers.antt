use Rattle.std.proofs.Common.{◌∙◌, [], ◌∷◌, refl}
use Rattle.build_base.proofs.SpellingLemmas.{Spelled-text, Spelled-then}
use Rattle.build_base.specs.Spelling.{text}
use Rattle.build_base.specs.declared.outside.Target.TheVariants.{Out as ToOut}
use Rattle.edk_build.proofs.StoreLemmas.{wrote_all, emitted_all, no_rise, kept_again}
use Rattle.edk_build.specs.Made.{made_outputs}
use Rattle.edk_build.proofs.kept_build.write_again.Goals as goal

pub returns-clause-all : goal.returns-clause-all
returns-clause-all g c = λ stored h. record {
  written =
      Spelled-then _ _ _ (made_outputs c.args.ready.now.made) (text ToOut c.args.ready.now.summary ∷ [])
      (wrote_all _ _ (made_outputs c.args.ready.now.made) c.write_outputs.result c.if-is_err.ensures.value c.write_outputs.ensures.written)
      (Spelled-text _ _ ToOut c.args.ready.now.summary (emitted_all _ _ ToOut c.args.ready.now.summary c.write_summary.result c.if-is_err-2.ensures.value c.write_summary.ensures.written));
  kept = kept_again _ stored h;
  sink =
      no_rise _ _ c.write_summary.result c.if-is_err-2.ensures.value c.write_summary.ensures.cause
      ∙ no_rise _ _ c.write_outputs.result c.if-is_err.ensures.value c.write_outputs.ensures.cause;
  keeper = refl;
}
