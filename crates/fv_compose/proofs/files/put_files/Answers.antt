use Rattle.std.proofs.Common.{length, ap, arith, ◌∙◌}
use Rattle.std.proofs.lemmas.Grind.{common_steps}
use Rattle.build_base.specs.Runs.{free_byte}
use Rattle.fv_compose.proofs.FileLemmas.{filed_more, filed_end, length_own, end_left, alignment_at, bytes_more}
use Rattle.fv_compose.proofs.LayoutLemmas.{start_here, start_below}
use Rattle.fv_compose.proofs.files.put_files.Goals as goal

pub bounds-starts-i : goal.bounds-starts-i
bounds-starts-i c =
    let here = start_here c.args.starts.now (length c.loop-i.out.bytes) c.args.files.now c.loop-i.i c.index-files-i.result (omega arith) c.index-files-i.is c.loop-i.invariant.starts in
    here.inside

pub overflow_cast-start : goal.overflow_cast-start
overflow_cast-start c =
    let here = start_here c.args.starts.now (length c.loop-i.out.bytes) c.args.files.now c.loop-i.i c.index-files-i.result (omega arith) c.index-files-i.is c.loop-i.invariant.starts in
    let below = start_below (length c.loop-i.out.bytes) c.args.files.now c.loop-i.i c.index-files-i.result c.requires.aligned (omega arith) c.index-files-i.is in
    let last = c.loop-i.invariant.filed.last_is in
    omega (arith, here.start 0)

pub put_file-requires-clause-start : goal.put_file-requires-clause-start
put_file-requires-clause-start c =
    let here = start_here c.args.starts.now (length c.loop-i.out.bytes) c.args.files.now c.loop-i.i c.index-files-i.result (omega arith) c.index-files-i.is c.loop-i.invariant.starts in
    here.start 0

pub put_file-requires-clause-near : goal.put_file-requires-clause-near
put_file-requires-clause-near c =
    let e = end_left (length c.loop-i.out.bytes) c.args.files.now c.loop-i.i c.requires.aligned in
    let s = c.loop-i.invariant.filed.last_is in grind (arith, common_steps)

pub put_file-requires-clause-aligned : goal.put_file-requires-clause-aligned
put_file-requires-clause-aligned c = alignment_at c.args.files.now c.loop-i.i c.index-files-i.result c.requires.aligned (omega arith) c.index-files-i.is

pub loop-i-preserved : goal.loop-i-preserved
loop-i-preserved c = record {
  filed =
      filed_more _ _ _ _ _ c.args.files.now c.loop-i.i c.index-files-i.result c.loop-i.invariant.filed (alignment_at c.args.files.now c.loop-i.i c.index-files-i.result c.requires.aligned (omega arith) c.index-files-i.is) (omega arith) c.index-files-i.is c.in_ok-put_file.ensures.bytes;
  starts =
      let here = start_here c.args.starts.now (length c.loop-i.out.bytes) c.args.files.now c.loop-i.i c.index-files-i.result (omega arith) c.index-files-i.is c.loop-i.invariant.starts in
      let l = length_own (free_byte c.args.erase) c.args.erase c.loop-i.out.bytes c.index-files-i.result (alignment_at c.args.files.now c.loop-i.i c.index-files-i.result c.requires.aligned (omega arith) c.index-files-i.is) in
      rw (ap length c.in_ok-put_file.ensures.bytes ∙ l) here.rest;
  kept =
      omega (arith, bytes_more c.args.files.now c.loop-i.i c.index-files-i.result (omega arith) c.index-files-i.is, c.in_ok-put_file.ensures.kept, c.loop-i.invariant.kept);
  free = c.in_ok-put_file.ensures.free ∙ c.loop-i.invariant.free;
}

pub returns-clause-bytes : goal.returns-clause-bytes
returns-clause-bytes c = (filed_end _ _ _ _ c.args.files.now c.loop-i.i c.loop-i.invariant.filed (omega arith)).0

pub returns-clause-len : goal.returns-clause-len
returns-clause-len c = (filed_end _ _ _ _ c.args.files.now c.loop-i.i c.loop-i.invariant.filed (omega arith)).1

pub returns-clause-kept : goal.returns-clause-kept
returns-clause-kept c = omega (arith, c.loop-i.invariant.kept)
