use Rattle.build_base.proofs.SpellingLemmas.{Writes-text}
use Rattle.edk_build.proofs.made.write_text.Goals as goal

pub returns-clause-written : goal.returns-clause-written
returns-clause-written g c = rw (← c.bytes.ensures) (Writes-text _ _ _ _ _ _ c.emit.ensures.written)
