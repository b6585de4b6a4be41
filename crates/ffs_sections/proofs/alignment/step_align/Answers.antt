use Rattle.std.proofs.lemmas.List.Elements.{Contains-get_or}
use Rattle.ffs_sections.specs.Alignment.{alignments}
use Rattle.ffs_sections.proofs.alignment.step_align.Goals as goal

pub returns-clause-known : goal.returns-clause-known
returns-clause-known c = Contains-get_or alignments c.args.step 0 c.requires
