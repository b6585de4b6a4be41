use Rattle.std.proofs.Common.{[], ◌∷◌, ◌++◌, ◌+◌, take, drop, subst, refl, sym, ap, ◌∙◌}
use Rattle.std.proofs.lemmas.List.{take_more}
use Rattle.build_base.specs.First.{or_else}
use Rattle.build_base.proofs.AnswerLemmas.{finds_first}
use Rattle.doc_reading.specs.Reading.{lines_fault}
use Rattle.doc_reading.proofs.Turns.{faults_more}
use Rattle.dsc_platform.specs.Repeats.{Arched, repeat_fault, repeats_fault}
use Rattle.dsc_platform.proofs.RepeatLemmas.{arched_none}
use Rattle.dsc_platform.proofs.repeats.check_repeats.Goals as goal

pub loop-component-init : goal.loop-component-init
unfolding repeats_fault
loop-component-init c = record {
  arched = arched_none c.new-table.result c.new-table.ensures.empty;
  faults = refl;
}

pub returns-in-Err : goal.returns-in-Err
returns-in-Err c =
    let cs = c.args.components.now in
    let i = c.loop-component.component-index in
    finds_first c.in-Err.refusal _ _ _
    (sym c.loop-component.invariant.faults ∙ faults_more (λ above x last. repeat_fault above x) cs i c.component-item.result c.loop-component-test.true c.component-item.is)
    (c.in-Err.ensures.fault (take i cs) c.loop-component.invariant.arched)

pub loop-component-preserved : goal.loop-component-preserved
loop-component-preserved c =
    let cs = c.args.components.now in
    let i = c.loop-component.component-index in
    let x = c.component-item.result in
    let told = c.in_default.ensures.fault (take i cs) c.loop-component.invariant.arched in
    record {
      arched = subst (λ above. Arched above c.check_component.new.table) (ap (λ z. take i cs ++ z ∷ []) c.component-item.is ∙ sym (take_more cs i x c.loop-component-test.true)) (c.in_default.ensures.table (take i cs) c.loop-component.invariant.arched);
      faults = sym (faults_more (λ above r last. repeat_fault above r) cs i x c.loop-component-test.true c.component-item.is ∙ ap (λ o. or_else o (lines_fault (λ above r last. repeat_fault above r) (take (i + 1) cs) (drop (i + 1) cs))) told) ∙ c.loop-component.invariant.faults;
    }
