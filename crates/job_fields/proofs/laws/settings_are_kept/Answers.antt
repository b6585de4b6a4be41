use Rattle.job_fields.proofs.ReadLemmas.{setting_kept}
use Rattle.job_fields.proofs.laws.settings_are_kept.Goals as goal

pub returns : goal.returns
returns c = setting_kept
