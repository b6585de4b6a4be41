-- The steps of dependency expressions before conjunctions were simplified (edition 2), beside those
-- of today. The rule is this project's own.
use Rattle.std.specs.Prelude.{List}
use Rattle.build_stages.specs.Stages.{bind, end, stage}
use Rattle.build_stages.specs.Writing.{attempt}
use Rattle.doc_types.specs.declared.choice.Choice.{Choice}
use Rattle.doc_types.specs.declared.choice.Module.{Module}
use Rattle.step_answers.specs.Readers.{choice_in, EdkStages, given_as}
use Rattle.step_engine.specs.declared.talk.Pair.{Pair}
use Rattle.step_pack.specs.declared.key.Key.{Key}
use Rattle.step_pack.specs.declared.key.Key.TheVariants as key
use Rattle.step_pack.specs.declared.out.Out.{Out}
use Rattle.step_pack.specs.declared.out.Out.TheVariants as out
use Rattle.text_steps.specs.Depex.{older_depex_given}
use Rattle.library_steps.specs.ModuleTrees.{module_parts}
use Rattle.build_rules.specs.Rules.{stages_of}
use Rattle.text_steps.specs.TextTrees.{depex_asks}

abbrev pub older_depex_from : Module → Choice → EdkStages
older_depex_from m choice =
    bind (module_parts m choice)
    (λ parts. end (given_as out.Depex (older_depex_given choice parts)))

abbrev pub older_depex_first : Module → List (Pair Key Out) → EdkStages
older_depex_first m given = attempt (choice_in given m) (λ choice. older_depex_from m choice)

abbrev pub older_depex_stages : Module → EdkStages
older_depex_stages m = stage (depex_asks m) (older_depex_first m)

-- the steps of edition 2, where those of images and of the whole build were these
abbrev pub second_edition : (Key → EdkStages) → Key → EdkStages
second_edition images (key.Depex m) = older_depex_stages m
second_edition images (key.File v i) = images (key.File v i)
second_edition images (key.Volume v) = images (key.Volume v)
second_edition images (key.Based v) = images (key.Based v)
second_edition images (key.Device d) = images (key.Device d)
second_edition images key.All = images key.All
second_edition images k = stages_of k
