use Rattle.std.proofs.Common.{rules, ◌≡◌, ◌∙◌, ◌++◌, ◌^◌, true, length, take, drop, nat_lt, ap, sym}
use Rattle.std.specs.Int.{bytes_low_first}
use Rattle.packed_values.specs.Plain.{text_encoding}
use Rattle.packed_values.specs.Parts.{rows_encoding}
use Rattle.step_cache.specs.Places.{texts_at, IsPool}
use Rattle.step_cache.proofs.PoolTextLemmas.{counted, counted_values}
use Rattle.step_cache.proofs.pool.Pool.into_bytes.Goals as goal

pub returns-clause-texts : goal.returns-clause-texts
returns-clause-texts c =
    let bytes = c.make_room.new.bytes.items in
    let items = c.put_number.new.bytes.items in
    let spans = c.self.inside.spans.items in
    let is : items ≡ take 20 bytes ++ bytes_low_first 0 8 (length spans) ++ drop 28 bytes = search rules in
    let same : texts_at bytes spans ≡ c.args.self = search rules in
    let pool : IsPool bytes spans c.self.inside.table = rw c.as_slice.ensures.value at c.in_ok-make_room.ensures.pool in
    counted bytes items spans c.self.inside.table pool c.in_ok-make_room.ensures.room is
    ∙ ap (rows_encoding text_encoding).encode same

pub returns-clause-value : goal.returns-clause-value
returns-clause-value c =
    let bytes = c.make_room.new.bytes.items in
    let spans = c.self.inside.spans.items in
    let same : texts_at bytes spans ≡ c.args.self = search rules in
    let fits : nat_lt (length spans) (256 ^ 8) ≡ true = search rules in
    let pool : IsPool bytes spans c.self.inside.table = rw c.as_slice.ensures.value at c.in_ok-make_room.ensures.pool in
    sym (ap (rows_encoding text_encoding).is_value same)
    ∙ counted_values bytes c.put_number.new.bytes.items spans c.self.inside.table pool c.in_ok-make_room.ensures.room (search rules) fits
