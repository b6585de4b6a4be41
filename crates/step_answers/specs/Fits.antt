-- Which answers a world can give to an ask of a build, as far as a step looks. The rule is this
-- project's own.
use Rattle.std.specs.Prelude.{ℕ, Bool, true, false, ◌==◌, Err}
use Rattle.build_stages.specs.Stages.{Staged, end, impossible_answer}
use Rattle.step_engine.specs.declared.talk.Ask.{Ask}
use Rattle.step_engine.specs.declared.talk.Ask.TheVariants as ask
use Rattle.step_engine.specs.declared.talk.Answer.{Answer}
use Rattle.step_engine.specs.declared.talk.Answer.TheVariants as answer
use Rattle.step_engine.specs.declared.talk.Outcome.TheVariants.{Good, Bad}
use Rattle.step_pack.specs.declared.key.Key.{Key}
use Rattle.step_pack.specs.declared.key.Key.TheVariants as key
use Rattle.step_pack.specs.declared.out.Out.{Out}
use Rattle.step_pack.specs.declared.out.Out.TheVariants as out

-- what the steps give, by number
abbrev pub kind_of : Out → ℕ
kind_of (out.Dec document) = 0
kind_of (out.Inf document) = 1
kind_of (out.Platform document) = 2
kind_of (out.Flash document) = 3
kind_of (out.Choice choice) = 4
kind_of (out.Values values) = 5
kind_of (out.Code texts) = 6
kind_of (out.Depex bytes) = 7
kind_of (out.File file) = 8
kind_of (out.Volume image) = 9
kind_of (out.Device image) = 10
kind_of (out.Report text) = 11
kind_of (out.All outputs) = 12
kind_of (out.Vpd image) = 13

-- and what the step of a key gives
abbrev pub kind_at : Key → ℕ
kind_at (key.Dec path) = 0
kind_at (key.Inf path) = 1
kind_at key.Platform = 2
kind_at key.Flash = 3
kind_at (key.Choice m) = 4
kind_at key.PlatformPcds = 5
kind_at (key.Values m) = 5
kind_at (key.Code m) = 6
kind_at (key.Depex m) = 7
kind_at (key.File v i) = 8
kind_at (key.Volume v) = 9
kind_at (key.Device d) = 10
kind_at key.Report = 11
kind_at key.All = 12
kind_at key.Vpd = 13
kind_at (key.Based v) = 9

-- an answer of its ask's kind; a part is a fault, or what the step of its key gives
abbrev pub fits : Ask Key → Answer Out → Bool
fits (ask.File path) (answer.Bytes bytes) = true
fits (ask.File path) answer.Absent = true
fits (ask.File path) answer.TooLong = true
fits (ask.Field i) (answer.Field text) = true
fits (ask.Part k) (answer.Part (Good given)) = kind_at k == kind_of given
fits (ask.Part k) (answer.Part (Bad fault)) = true
fits _ _ = false

-- a set of steps of which nothing but the test of answers counts: each is at its end at once
abbrev pub answers_alone : Staged Key Out
answers_alone = record {
  stages = λ k. end (Err impossible_answer);
  rank = λ k. 0;
  most = λ k. 0;
  fits = fits;
  is_job = λ fields. false;
}
