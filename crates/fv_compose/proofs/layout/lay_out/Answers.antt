use Rattle.std.proofs.Common.{◌∙◌, ◌++◌, arith, sym, ap, append_assoc, append-nil}
use Rattle.fv_compose.proofs.FileLemmas.{end_more, end_all, end_after, alignment_at, aligned_plain}
use Rattle.fv_compose.proofs.LayoutLemmas.{starts_more, starts_all}
use Rattle.fv_compose.specs.Files.{plain_files}
use Rattle.fv_compose.proofs.layout.lay_out.Goals as goal

pub own_start-start-requires-clause-aligned : goal.own_start-start-requires-clause-aligned
own_start-start-requires-clause-aligned c = alignment_at c.args.files.now c.loop-file.file-index c.file-item.result c.requires.aligned (omega arith) c.file-item.is

pub loop-file-preserved : goal.loop-file-preserved
loop-file-preserved c =
    let end = c.next_end-end.ensures.value c.loop-file.end c.own_start-start.ensures.value in
    rw end record {
      starts =
          c.loop-file.invariant.starts ∙ ap (λ z. c.loop-file.starts ++ z) (starts_more c.loop-file.end c.args.files.now c.loop-file.file-index c.file-item.result (omega arith) c.file-item.is)
          ∙ rw (c.in_ok-push.ensures.ok, c.own_start-start.ensures.value) (sym (append_assoc c.loop-file.starts _ _));
      value = c.loop-file.invariant.value ∙ end_more c.loop-file.end c.args.files.now c.loop-file.file-index c.file-item.result (omega arith) c.file-item.is;
      small = omega (arith, end, c.next_end-end.ensures.near, c.own_start-start.ensures.near, c.loop-file.invariant.small);
    }

pub returns-clause-laid : goal.returns-clause-laid
returns-clause-laid c = record {
  starts = sym (c.loop-file.invariant.starts ∙ rw (starts_all c.loop-file.end c.args.files.now c.loop-file.file-index (omega arith)) (append-nil c.loop-file.starts));
  end = sym (c.loop-file.invariant.value ∙ end_all c.loop-file.end c.args.files.now c.loop-file.file-index (omega arith));
}

pub returns-clause-after : goal.returns-clause-after
returns-clause-after c =
    omega (arith, end_after c.args.first (plain_files c.args.files.now) (aligned_plain c.args.files.now c.requires.aligned), c.loop-file.invariant.value, end_all c.loop-file.end c.args.files.now c.loop-file.file-index (omega arith))
