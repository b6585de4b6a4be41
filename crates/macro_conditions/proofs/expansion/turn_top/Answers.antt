use Rattle.std.proofs.Common.{◌≡◌, ◌-◌, length, arith}
use Rattle.std.proofs.lemmas.Grind.{common_steps}
use Rattle.macro_conditions.specs.Sources.{answer}
use Rattle.macro_conditions.specs.Work.{env_of}
use Rattle.macro_conditions.specs.OpenFiles.{opened_of}
use Rattle.macro_conditions.proofs.OpenFileLemmas.{tops_within, tops_wants}
use Rattle.macro_conditions.proofs.expansion.turn_top.Goals as goal

pub returns-in_ok-push_two-in-Ok-Within : goal.returns-in_ok-push_two-in-Ok-Within
returns-in_ok-push_two-in-Ok-Within c =
    let lv : c.saturating_sub-levels.result ≡ 31 - length c.args.files.now.items = grind (arith, common_steps) in
    tops_within (answer c.args.given.known.now) c.args.given.fixed.now c.saturating_sub-levels.result (opened_of c.args.file) (env_of c.args.work.now) (env_of c.turn_file.new.work) c.args.files.now.items c.push_two.new.files.items lv
    c.in-Ok-Within.field-0 c.in-Ok-Within.file c.in-Ok-Within.inner c.in-Ok-Within.field-0-is c.in-Ok-Within.ensures c.in_ok-push_two-in-Ok-Within.ensures

pub returns-in_ok-push_one-in-Ok-Wants : goal.returns-in_ok-push_one-in-Ok-Wants
returns-in_ok-push_one-in-Ok-Wants c =
    let lv : c.saturating_sub-levels.result ≡ 31 - length c.args.files.now.items = grind (arith, common_steps) in
    tops_wants (answer c.args.given.known.now) c.args.given.fixed.now c.saturating_sub-levels.result (opened_of c.args.file) (env_of c.args.work.now) (env_of c.turn_file.new.work) c.args.files.now.items c.push_one.new.files.items lv
    c.in-Ok-Wants.field-0 c.in-Ok-Wants.file c.in-Ok-Wants.path c.in-Ok-Wants.field-0-is c.in-Ok-Wants.ensures c.in_ok-push_one-in-Ok-Wants.ensures
