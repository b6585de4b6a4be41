use Rattle.std.proofs.Common.{[], ◌∷◌, ◌++◌, ◌+◌, take, drop, subst, sym, ap, ◌∙◌}
use Rattle.std.proofs.lemmas.List.{take_more}
use Rattle.build_base.specs.First.{or_else}
use Rattle.doc_reading.specs.Reading.{lines_fault}
use Rattle.build_base.proofs.AnswerLemmas.{finds_first}
use Rattle.doc_reading.proofs.Turns.{faults_more}
use Rattle.doc_reading.proofs.reader.read_lines.Goals as goal

pub returns-in-Err-clause-fault : goal.returns-in-Err-clause-fault
returns-in-Err-clause-fault g c =
    let x = c.index-lines-i.result in
    let i = c.loop-i.i in
    let ls = c.args.lines.now in
    finds_first c.in-Err.refusal _ _ _
    (sym c.loop-i.invariant.faults ∙ faults_more g.R.Reader.fault ls i x c.loop-i-test.true c.index-lines-i.is)
    (c.in-Err.ensures.fault (take i ls) c.loop-i.invariant.rows)

pub loop-i-preserved : goal.loop-i-preserved
loop-i-preserved g c =
    let x = c.index-lines-i.result in
    let i = c.loop-i.i in
    let ls = c.args.lines.now in
    let told = c.in_default.ensures.fault (take i ls) c.loop-i.invariant.rows in
    record {
      rows = subst (λ ys. g.R.Reader.read ys c.line.new.self) (ap (λ z. take i ls ++ z ∷ []) c.index-lines-i.is ∙ sym (take_more ls i x c.loop-i-test.true)) (c.in_default.ensures.rows (take i ls) c.loop-i.invariant.rows);
      faults = sym (faults_more g.R.Reader.fault ls i x c.loop-i-test.true c.index-lines-i.is ∙ ap (λ o. or_else o (lines_fault g.R.Reader.fault (take (i + 1) ls) (drop (i + 1) ls))) told) ∙ c.loop-i.invariant.faults;
    }
