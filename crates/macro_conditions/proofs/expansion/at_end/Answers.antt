use Rattle.std.proofs.Common.{◌≡◌, ◌∙◌, ℕ, List, [], drop, None, Result, sym, ap, subst}
use Rattle.std.proofs.lemmas.List.{drop_all}
use Rattle.std.proofs.Math.ListN.{length-map}
use Rattle.macro_conditions.specs.LineMeaning.{at_end}
use Rattle.macro_conditions.specs.LineStack.{outermost}
use Rattle.macro_conditions.specs.Sources.{answer}
use Rattle.macro_conditions.specs.Expansion.{Env, Stop, acts}
use Rattle.macro_conditions.specs.Work.{env_of, frames_of, idle, Halts, stop_in}
use Rattle.macro_conditions.specs.OpenFiles.{opened_of, lines_at}
use Rattle.macro_conditions.proofs.OpenFileLemmas.{ended_turns, ended_halts}
use Rattle.macro_conditions.proofs.expansion.at_end.Goals as goal

pub returns : goal.returns
returns c =
    let f = c.args.file in
    let end : List ℕ → List ℕ → Result Env Stop = λ p b. at_end (acts c.args.given.fixed.now idle) (outermost (frames_of p b f.frames.items) None) (env_of c.args.work.now) in
    let none : drop f.next (lines_at f.path f.text f.lines.items) ≡ [] = drop_all f.next (lines_at f.path f.text f.lines.items) (simp length-map c.requires) in
    ended_turns (answer c.args.given.known.now) c.args.given.fixed.now c.args.levels (opened_of f) (env_of c.args.work.now) (env_of c.leave.new.work) none
    (ap (λ p. end p f.text) (sym c.file_text.ensures.path) ∙ ap (λ b. end c.file_text.result.path.now b) (sym c.file_text.ensures.bytes) ∙ c.in_default.ensures (env_of c.args.work.now))
    c.leave.ensures

pub returns-in-Err : goal.returns-in-Err
returns-in-Err c =
    let f = c.args.file in
    let end : List ℕ → List ℕ → Result Env Stop = λ p b. at_end (acts c.args.given.fixed.now idle) (outermost (frames_of p b f.frames.items) None) (env_of c.args.work.now) in
    let none : drop f.next (lines_at f.path f.text f.lines.items) ≡ [] = drop_all f.next (lines_at f.path f.text f.lines.items) (simp length-map c.requires) in
    ended_halts (answer c.args.given.known.now) c.args.given.fixed.now c.args.levels c.in-Err.stopped (opened_of f) (env_of c.args.work.now) (env_of c.args.work.now) none
    (subst (λ (r : Result Env Stop). Halts c.in-Err.stopped (stop_in r)) (ap (λ b. end c.file_text.result.path.now b) c.file_text.ensures.bytes ∙ ap (λ p. end p f.text) c.file_text.ensures.path) (c.in-Err.ensures (env_of c.args.work.now)))
