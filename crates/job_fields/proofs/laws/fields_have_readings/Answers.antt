use Rattle.job_fields.proofs.ReadLemmas.{arches_there, sets_there, job_read}
use Rattle.job_fields.proofs.laws.fields_have_readings.Goals as goal

pub returns-clause-arches : goal.returns-clause-arches
returns-clause-arches c = arches_there

pub returns-clause-pcds : goal.returns-clause-pcds
returns-clause-pcds c = sets_there

pub returns-clause-job : goal.returns-clause-job
returns-clause-job c = job_read
