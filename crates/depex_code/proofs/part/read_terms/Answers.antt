use Rattle.std.proofs.Common.{◌≡◌, ℕ, List, Result, sym, ap, ◌∙◌, subst, arith}
use Rattle.build_base.specs.declared.fault.Fault.{Fault}
use Rattle.build_base.specs.Answer.{AnswersAs, Finds}
use Rattle.depex_code.specs.Words.{token_of}
use Rattle.depex_code.specs.Sizes.{Size, sizes}
use Rattle.depex_code.specs.Terms.{wanting, step}
use Rattle.depex_code.specs.Kept.{waits_of, state_of, piece_size}
use Rattle.depex_code.specs.Compiled.{own_code}
use Rattle.depex_code.proofs.PartLemmas.{follows-init, follows-step, follows-fault, follows-end, seen_fault}
use Rattle.depex_code.proofs.part.read_terms.Goals as goal

pub loop-term-init : goal.loop-term-init
loop-term-init c = follows-init _ _ _ _ _ (ap (λ ws. wanting (waits_of ws)) c.new-waits.ensures.items)

pub returns-in-Err : goal.returns-in-Err
returns-in-Err c =
    let state = state_of c.loop-term.waits.items c.loop-term.stage in
    follows-fault c.args.at.now c.args.guids.now c.args.edge c.args.terms.now c.loop-term.term-index c.term-item.result state c.in-Err.e
    c.loop-term.invariant c.loop-term-test.true c.term-item.is
    (subst (λ (t : List ℕ). Finds c.in-Err.e (seen_fault c.args.at.now c.args.edge (state_of c.loop-term.waits.items c.loop-term.stage) (token_of c.args.guids.now t) t)) c.bytes.ensures c.in-Err.ensures)

pub loop-term-preserved : goal.loop-term-preserved
loop-term-preserved c =
    let state = state_of c.loop-term.waits.items c.loop-term.stage in
    let same : token_of c.args.guids.now c.bytes.result.now ≡ token_of c.args.guids.now c.term-item.result = ap (token_of c.args.guids.now) c.bytes.ensures in
    let read = c.in-Ok.ensures in
    follows-step c.args.at.now c.args.guids.now c.args.edge c.args.terms.now c.loop-term.term-index c.term-item.result state c.turn.new.waits.items c.in-Ok.next
    c.loop-term.invariant c.loop-term-test.true c.term-item.is
    (ap (step sizes (state_of c.loop-term.waits.items c.loop-term.stage)) (sym same) ∙ read.0) (ap (λ (t : List ℕ). own_code c.args.edge t (token_of c.args.guids.now t)) (sym c.bytes.ensures) ∙ read.1)

pub returns : goal.returns
returns c = subst (λ (r : Result Size Fault). AnswersAs piece_size c.whole.result r)
    (follows-end c.args.at.now c.args.guids.now c.args.edge c.args.terms.now c.loop-term.term-index (state_of c.loop-term.waits.items c.loop-term.stage) c.loop-term.invariant (omega (arith, c.loop-term-test.false))) c.whole.ensures
