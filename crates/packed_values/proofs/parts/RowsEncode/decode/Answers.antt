use Rattle.std.proofs.Common.{rules, arith}
use Rattle.packed_values.proofs.RowsLemmas.{row_read, rows_unread, all-push, count_push}
use Rattle.packed_values.proofs.parts.RowsEncode.decode.Goals as goal

pub returns-in-None-2 : goal.returns-in-None-2
returns-in-None-2 g c =
    let i = c.loop-at.invariant in
    rows_unread g.T.Encode.encoding c.args.input.now c.decode.new.input c.loop-at.input c.in-Some.count c.loop-at.rows (search rules) i.bytes i.values (omega arith) (search rules)

pub loop-at-preserved : goal.loop-at-preserved
loop-at-preserved g c =
    let i = c.loop-at.invariant in
    let encoding = g.T.Encode.encoding in
    rw c.in_ok-push-in-Some-2.ensures.ok record {
      bytes = row_read encoding c.decode.new.input c.loop-at.input c.decode-in-loop-at.new.input c.loop-at.rows c.in-Some-2.item i.bytes (search rules);
      values = all-push encoding.is_value c.loop-at.rows c.in-Some-2.item i.values (search rules);
      count = count_push c.loop-at.rows c.in-Some-2.item c.loop-at._at i.count;
    }
