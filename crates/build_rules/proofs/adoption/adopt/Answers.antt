use Rattle.std.proofs.Common.{◌∙◌, sym, subst}
use Rattle.build_stages.specs.Stages.{meaning_of}
use Rattle.step_engine.specs.Entries.{AreSound}
use Rattle.step_pack.specs.Keys.{key_cmp}
use Rattle.build_rules.specs.Rules.{edk}
use Rattle.build_rules.proofs.AdoptLemmas.{adopted_sound, newest_stay}
use Rattle.build_rules.proofs.adoption.adopt.Goals as goal

pub returns-clause-kept : goal.returns-clause-kept
returns-clause-kept c = c.keep_staying.ensures

pub returns-clause-newest : goal.returns-clause-newest
returns-clause-newest c = λ newest. c.keep_staying.ensures ∙ newest_stay c.args.edition c.args.cache newest

pub returns-clause-sound : goal.returns-clause-sound
returns-clause-sound c = λ few older are sound.
    subst (AreSound (meaning_of key_cmp edk)) (sym c.keep_staying.ensures) (adopted_sound c.args.edition older are few c.args.cache sound)
