use Rattle.std.proofs.Common.{rules, ◌≡◌, ◌∙◌, ◌++◌, ◌+◌, ◌-◌, [], ◌∷◌, List, ℕ, length, take, drop, true, nat_lt, ◌^◌}
use Rattle.std.specs.Int.{bytes_low_first}
use Rattle.step_cache.specs.Places.{texts_at, IsPlaced}
use Rattle.step_cache.proofs.PoolTextLemmas.{last_span, added, texts_added, length_texts}
use Rattle.step_cache.proofs.pool.add.Goals as goal

pub returns-clause-pool : goal.returns-clause-pool
returns-clause-pool c =
    let bytes = c.args.bytes.now.items in
    let start = c.args.start in
    let items = c.put_number.new.bytes.items in
    let spans = c.args.spans.now.items in
    let is : items ≡ take start bytes ++ bytes_low_first 0 8 (length bytes - (start + 8)) ++ drop (start + 8) bytes = search rules in
    let last : c.push.new.self.items ≡ spans ++ last_span start bytes ∷ [] = search rules in
    let texts : List (List ℕ) = texts_at (take start bytes) spans in
    let count : length spans ≡ c.len-number.result = search rules in
    let placed : IsPlaced (texts ++ drop (start + 8) bytes ∷ []) c.note.new.table =
    c.in_ok-note.ensures (drop (start + 8) bytes) texts c.requires.digest c.requires.none
    (length_texts (take start bytes) spans ∙ count) c.requires.pool.placed in
    let fits : nat_lt (length bytes) (256 ^ 8) ≡ true = search rules in
    rw last (added start bytes items spans c.args.table.now c.note.new.table c.requires.room c.requires.pool is c.requires.front fits placed)

pub returns-clause-texts : goal.returns-clause-texts
returns-clause-texts c =
    let bytes = c.args.bytes.now.items in
    let start = c.args.start in
    let items = c.put_number.new.bytes.items in
    let spans = c.args.spans.now.items in
    let is : items ≡ take start bytes ++ bytes_low_first 0 8 (length bytes - (start + 8)) ++ drop (start + 8) bytes = search rules in
    let last : c.push.new.self.items ≡ spans ++ last_span start bytes ∷ [] = search rules in
    rw last (texts_added start bytes items spans c.args.table.now c.note.new.table c.requires.room c.requires.pool is)
