use Rattle.module_faults.proofs.OutputLemmas.{module_files_fail, shaped_volumes_fail, shaped_devices_fail, vpd_files_fail}
use Rattle.module_faults.proofs.laws.files_fail_by_names.Goals as goal

pub returns-clause-modules : goal.returns-clause-modules
returns-clause-modules c = module_files_fail

pub returns-clause-volumes : goal.returns-clause-volumes
returns-clause-volumes c = shaped_volumes_fail

pub returns-clause-devices : goal.returns-clause-devices
returns-clause-devices c = shaped_devices_fail

pub returns-clause-vpd : goal.returns-clause-vpd
returns-clause-vpd c = vpd_files_fail
