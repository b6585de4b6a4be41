use Rattle.std.proofs.Common.{rules, arith, take, ◌+◌, ◌≡◌, ◌++◌, ◌∷◌, []}
use Rattle.std.proofs.lemmas.Grind.{common_steps}
use Rattle.packed_values.proofs.RowsLemmas.{row_appended, all-push}
use Rattle.packed_values.proofs.parts.RowsEncode.encode.Goals as goal

pub loop-item-preserved : goal.loop-item-preserved
loop-item-preserved g c =
    let i = c.loop-item.invariant in
    let xs = c.items-item-items.result.now in
    let more : take (c.loop-item.item-index + 1) xs ≡ take c.loop-item.item-index xs ++ c.item-item.result ∷ [] = grind (arith, common_steps) in
    rw more record {
      bytes = row_appended g.T.Encode.encoding c.encode.new.out.items c.loop-item.out.items c.encode-in-loop-item.new.out.items (take c.loop-item.item-index xs) c.item-item.result i.bytes (search rules);
      values = all-push (g.T.Encode.encoding).is_value (take c.loop-item.item-index xs) c.item-item.result i.values (search rules);
    }
