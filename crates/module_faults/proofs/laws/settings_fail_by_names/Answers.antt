use Rattle.module_faults.proofs.SettingLemmas.{built_fails, modules_fail, commands_fail, setting_fails, report_fails}
use Rattle.module_faults.proofs.laws.settings_fail_by_names.Goals as goal

pub returns-clause-arches : goal.returns-clause-arches
returns-clause-arches c = built_fails

pub returns-clause-modules : goal.returns-clause-modules
returns-clause-modules c = modules_fail

pub returns-clause-commands : goal.returns-clause-commands
returns-clause-commands c = commands_fail

pub returns-clause-setting : goal.returns-clause-setting
returns-clause-setting c = setting_fails

pub returns-clause-report : goal.returns-clause-report
returns-clause-report c = report_fails
