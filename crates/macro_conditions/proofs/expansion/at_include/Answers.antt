use Rattle.std.proofs.Common.{◌≡◌, ◌∙◌, ◌+◌, List, ◌∷◌, drop, get_or, refl, sym, ap, subst}
use Rattle.build_base.specs.declared.lines.Taken.{Taken as Line}
use Rattle.macro_conditions.specs.Sources.{answer}
use Rattle.macro_conditions.specs.Expansion.{Env, inside, included}
use Rattle.macro_conditions.specs.Work.{env_of, frames_of, line_in, source_view, Halts, stop_in}
use Rattle.macro_conditions.specs.OpenFiles.{Opened, opened_of, lines_at, Opens, Moves}
use Rattle.macro_conditions.proofs.FileTurns.{drop-lines}
use Rattle.macro_conditions.proofs.OpenFileLemmas.{include_turns, include_ends, few_lines}
use Rattle.macro_conditions.proofs.expansion.at_include.Goals as goal

pub returns-in_ok-enter-in-Ok : goal.returns-in_ok-enter-in-Ok
returns-in_ok-enter-in-Ok c =
    let known = answer c.args.given.known.now in
    let fixed = c.args.given.fixed.now in
    let f = c.args.file in
    let d = c.index.result.now in
    let l : Line = line_in f.path f.text (get_or f.lines.items f.next d) in
    let ls : List Line = drop (f.next + 1) (lines_at f.path f.text f.lines.items) in
    let at : drop f.next (lines_at f.path f.text f.lines.items) ≡ l ∷ ls = drop-lines f.path f.text f.lines.items f.next d c.requires.0 in
    let line : source_view c.line-line.result ≡ l = c.line-line.ensures ∙ ap (λ p. line_in p c.file_text.result.bytes.now d) c.file_text.ensures.path ∙ ap (λ b. line_in f.path b d) c.file_text.ensures.bytes ∙ ap (line_in f.path f.text) c.index.ensures in
    let g : Opened = record { path = f.path; frames = frames_of f.path f.text f.frames.items; lines = ls } in
    let inner : Opened = opened_of c.in-Ok.inner in
    let opens : Opens known fixed c.args.levels l (env_of c.args.work.now) inner = subst (λ x. Opens known fixed c.args.levels x (env_of c.args.work.now) inner) line c.in-Ok.ensures in
    let env : env_of c.enter.new.work ≡ inside inner.path (env_of c.args.work.now) = c.in_ok-enter-in-Ok.ensures ∙ ap (λ p. inside p (env_of c.args.work.now)) c.in_ok-copy-in-Ok.ensures in
    λ fs lv named.
    let t = include_turns known fixed c.args.levels (opened_of f) g inner (env_of c.args.work.now) l ls at refl (c.requires.1 d) opens (few_lines c.in-Ok.inner) fs lv named in
    (subst (λ (x : Env). Moves known fixed (opened_of f ∷ fs) (env_of c.args.work.now) (inner ∷ g ∷ fs) x) (sym env) t.0, t.1)

pub returns-in-Err : goal.returns-in-Err
returns-in-Err c =
    let known = answer c.args.given.known.now in
    let fixed = c.args.given.fixed.now in
    let f = c.args.file in
    let d = c.index.result.now in
    let l : Line = line_in f.path f.text (get_or f.lines.items f.next d) in
    let ls : List Line = drop (f.next + 1) (lines_at f.path f.text f.lines.items) in
    let at : drop f.next (lines_at f.path f.text f.lines.items) ≡ l ∷ ls = drop-lines f.path f.text f.lines.items f.next d c.requires.0 in
    let line : source_view c.line-line.result ≡ l = c.line-line.ensures ∙ ap (λ p. line_in p c.file_text.result.bytes.now d) c.file_text.ensures.path ∙ ap (λ b. line_in f.path b d) c.file_text.ensures.bytes ∙ ap (line_in f.path f.text) c.index.ensures in
    include_ends known fixed c.args.levels f (env_of c.args.work.now) l ls c.in-Err.stopped c.stopped_at.result at (c.requires.1 d) c.stopped_at.ensures
    (subst (λ (x : Line). Halts c.in-Err.stopped (stop_in (included known fixed c.args.levels x (env_of c.args.work.now)))) line c.in-Err.ensures)
