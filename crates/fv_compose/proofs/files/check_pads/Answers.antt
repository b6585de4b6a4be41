use Rattle.std.proofs.Common.{◌∙◌, arith}
use Rattle.build_base.proofs.AnswerLemmas.{finds_first, finds_rest}
use Rattle.fv_compose.proofs.FileLemmas.{end_more, pads_more, pads_all, alignment_at}
use Rattle.fv_compose.proofs.LayoutLemmas.{start_here, start_below}
use Rattle.fv_compose.proofs.files.check_pads.Goals as goal

pub bounds-starts-i : goal.bounds-starts-i
bounds-starts-i c =
    let here = start_here c.args.starts.now c.loop-i.at c.args.files.now c.loop-i.i c.index-files-i.result (omega arith) c.index-files-i.is c.loop-i.invariant.starts in
    here.inside

pub check_own_pad-requires-clause-start : goal.check_own_pad-requires-clause-start
check_own_pad-requires-clause-start c =
    let here = start_here c.args.starts.now c.loop-i.at c.args.files.now c.loop-i.i c.index-files-i.result (omega arith) c.index-files-i.is c.loop-i.invariant.starts in
    here.start 0

pub check_own_pad-requires-clause-near : goal.check_own_pad-requires-clause-near
check_own_pad-requires-clause-near c =
    let here = start_here c.args.starts.now c.loop-i.at c.args.files.now c.loop-i.i c.index-files-i.result (omega arith) c.index-files-i.is c.loop-i.invariant.starts in
    omega (arith, here.start 0, start_below c.loop-i.at c.args.files.now c.loop-i.i c.index-files-i.result c.requires.aligned (omega arith) c.index-files-i.is, c.loop-i.invariant.short)

pub check_own_pad-requires-clause-aligned : goal.check_own_pad-requires-clause-aligned
check_own_pad-requires-clause-aligned c = alignment_at c.args.files.now c.loop-i.i c.index-files-i.result c.requires.aligned (omega arith) c.index-files-i.is

pub next_end-at-requires : goal.next_end-at-requires
next_end-at-requires c =
    let here = start_here c.args.starts.now c.loop-i.at c.args.files.now c.loop-i.i c.index-files-i.result (omega arith) c.index-files-i.is c.loop-i.invariant.starts in
    omega (arith, here.start 0, start_below c.loop-i.at c.args.files.now c.loop-i.i c.index-files-i.result c.requires.aligned (omega arith) c.index-files-i.is, c.loop-i.invariant.short)

pub returns-in-Err : goal.returns-in-Err
returns-in-Err c =
    finds_first c.in-Err.refusal _ _ _ (c.loop-i.invariant.fault ∙ pads_more c.args.ffs3 c.loop-i.at c.args.files.now c.loop-i.i c.index-files-i.result (omega arith) c.index-files-i.is) c.in-Err.ensures

pub loop-i-preserved : goal.loop-i-preserved
loop-i-preserved c =
    let here = start_here c.args.starts.now c.loop-i.at c.args.files.now c.loop-i.i c.index-files-i.result (omega arith) c.index-files-i.is c.loop-i.invariant.starts in
    let end = c.next_end-at.ensures.value c.loop-i.at (here.start 0) in
    rw end record {
      fault =
          finds_rest _ _ _ (c.loop-i.invariant.fault ∙ pads_more c.args.ffs3 c.loop-i.at c.args.files.now c.loop-i.i c.index-files-i.result (omega arith) c.index-files-i.is) c.in_default.ensures;
      starts = here.rest;
      short = omega (arith, end_more c.loop-i.at c.args.files.now c.loop-i.i c.index-files-i.result (omega arith) c.index-files-i.is, c.loop-i.invariant.short);
    }

pub returns : goal.returns
returns c = c.loop-i.invariant.fault ∙ pads_all c.args.ffs3 c.loop-i.at c.args.files.now c.loop-i.i (omega arith)
