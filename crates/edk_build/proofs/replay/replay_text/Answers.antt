use Rattle.std.proofs.Common.{◌≡◌, ◌≤◌, length, inr, sym, subst, Some}
use Rattle.std.specs.Option.{IfSome}
use Rattle.edk_build.proofs.ReplayLemmas.{follows_script}
use Rattle.edk_build.proofs.ReadLemmas.{script_read}
use Rattle.edk_build.proofs.ScriptLemmas.{script_has}
use Rattle.edk_build.specs.Script.{HaveJobs, script_of}
use Rattle.edk_build.proofs.replay.replay_text.Goals as goal

pub replay_lines-requires-clause-jobs : goal.replay_lines-requires-clause-jobs
replay_lines-requires-clause-jobs g c κs within =
    subst HaveJobs (sym c.items.ensures) (script_has c.args.bytes.now c.in-Ok-Some.lines (cc (c.in-Ok-Some.ensures.script, c.in-Ok-Some.field-0-is)))

pub replay_lines-requires-clause-few : goal.replay_lines-requires-clause-few
replay_lines-requires-clause-few g c κs within =
    subst (λ z. length z ≤ 1000) (sym c.items.ensures) (subst (λ z. IfSome z (λ found. length found ≤ 1000)) c.in-Ok-Some.field-0-is c.in-Ok-Some.ensures.few)

pub returns-in-Ok-Some-clause-read : goal.returns-in-Ok-Some-clause-read
returns-in-Ok-Some-clause-read g c =
    let said : script_of c.args.bytes.now ≡ Some c.in-Ok-Some.lines = cc (c.in-Ok-Some.ensures.script, c.in-Ok-Some.field-0-is) in
    script_read (script_of c.args.bytes.now) _ _ _ (subst (λ z. script_of c.args.bytes.now ≡ Some z) (sym c.items.ensures) said) c.replay_lines.ensures.read

pub returns-in-Ok-Some-clause-follows : goal.returns-in-Ok-Some-clause-follows
returns-in-Ok-Some-clause-follows g c =
    let said : script_of c.args.bytes.now ≡ Some c.in-Ok-Some.lines = cc (c.in-Ok-Some.ensures.script, c.in-Ok-Some.field-0-is) in
    inr (follows_script _ _ (script_of c.args.bytes.now) _ _ _ _ _ _ (subst (λ z. script_of c.args.bytes.now ≡ Some z) (sym c.items.ensures) said) c.replay_lines.ensures.follows)
