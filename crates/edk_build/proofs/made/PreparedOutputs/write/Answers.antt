use Rattle.std.proofs.Common.{[], ◌∷◌, ◌++◌}
use Rattle.build_base.specs.Spelling.{text}
use Rattle.build_base.specs.declared.outside.Target.TheVariants.{Out as ToOut}
use Rattle.build_base.proofs.SpellingLemmas.{Grew-then, Spelled-then, SpellsCut-append, SpellsCut-more}
use Rattle.edk_build.specs.Made.{made_outputs}
use Rattle.edk_build.proofs.made.PreparedOutputs.write.Goals as goal

pub returns-in-Err-clause-written : goal.returns-in-Err-clause-written
returns-in-Err-clause-written g c =
    let w = c.in-Err.ensures.written in
    (w.0, SpellsCut-more (made_outputs c.args.self.now.made) (text ToOut c.args.self.now.summary ∷ []) w.0 w.1, w.2)

pub returns-in-Err-write_text-clause-written : goal.returns-in-Err-write_text-clause-written
returns-in-Err-write_text-clause-written g c =
    let s = c.in_default.ensures.written in
    let t = c.in-Err-write_text.ensures.written in
    (s.0 ++ t.0, SpellsCut-append (made_outputs c.args.self.now.made) (text ToOut c.args.self.now.summary ∷ []) s.0 t.0 s.1 t.1, Grew-then _ _ _ s.0 t.0 s.2 t.2)

pub returns-clause-written : goal.returns-clause-written
returns-clause-written g c =
    Spelled-then _ _ _ (made_outputs c.args.self.now.made) (text ToOut c.args.self.now.summary ∷ []) c.in_default.ensures.written c.in_default-write_text.ensures.written
