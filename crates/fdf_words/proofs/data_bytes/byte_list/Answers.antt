use Rattle.std.proofs.Common.{◌∙◌, sym, arith}
use Rattle.fdf_words.proofs.Listed.{listed_none, listed_more, listed_end}
use Rattle.fdf_words.proofs.data_bytes.byte_list.Goals as goal

pub returns-in-None : goal.returns-in-None
returns-in-None c =
    sym (listed_none _ c.loop-span.bytes.items _ c.loop-span.span-index _ (omega arith) (rw c.bytes_at.ensures at (sym c.byte_field.ensures ∙ c.in-None.is)))
    ∙ c.loop-span.invariant

pub loop-span-preserved : goal.loop-span-preserved
loop-span-preserved c =
    rw c.in_ok-push_byte-in-Some.ensures
    (sym (listed_more _ c.loop-span.bytes.items _ c.loop-span.span-index _ _ (omega arith) (rw c.bytes_at.ensures at (sym c.byte_field.ensures ∙ c.in-Some.is)))
    ∙ c.loop-span.invariant)

pub returns : goal.returns
returns c = sym (listed_end c.args.text.now c.loop-span.bytes.items c.deref-span-items.result.now c.loop-span.span-index (omega arith)) ∙ c.loop-span.invariant
