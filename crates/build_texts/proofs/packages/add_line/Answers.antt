use Rattle.std.proofs.Common.{◌∙◌, ap, sym}
use Rattle.build_texts.specs.Named.{declared_name, line_from}
use Rattle.build_texts.specs.Views.{declared_view}
use Rattle.pcd_resolve.specs.NameFilter.{is_kept}
use Rattle.pcd_resolve.proofs.GroupLemmas.{kept_more, kept_passed}
use Rattle.build_texts.proofs.packages.add_line.Goals as goal

pub returns : goal.returns
returns c = λ xs h.
    kept_more c.args.marks.now declared_view declared_name xs _ c.in_ok-name.name c.args.table.now c.add.new.table
    (c.in_ok-name.ensures.items ∙ c.bytes-2.ensures) (λ q. c.in_ok-add.ensures q) h

pub returns-then-not-is_kept : goal.returns-then-not-is_kept
returns-then-not-is_kept c = λ xs h.
    kept_passed c.args.marks.now declared_view declared_name xs (line_from c.args.from.now c.args.line.now) c.args.table.now
    (ap (is_kept c.args.marks.now) (sym c.bytes.ensures) ∙ sym c.is_kept.ensures ∙ c.if-not-is_kept.true) h
