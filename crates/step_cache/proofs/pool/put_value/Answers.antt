use Rattle.std.proofs.Common.{rules, ◌≡◌, ◌∙◌, ◌++◌, ◌+◌, List, ℕ, length, take, drop, ap, ap₂, sym, subst, arith, length-append}
use Rattle.packed_values.specs.Plain.{number_encoding}
use Rattle.step_cache.specs.Places.{texts_at, IsPool}
use Rattle.step_cache.specs.Pools.{with_text, number_in}
use Rattle.step_cache.proofs.PoolTextLemmas.{front_of, tail_of, length_form}
use Rattle.step_cache.proofs.pool.put_value.Goals as goal

pub close-requires-clause-room : goal.close-requires-clause-room
close-requires-clause-room g c =
    let before = c.make_room.new.bytes.items in
    let form = (number_encoding 8).encode 0 in
    let encoding = g.P.Encode.encoding.encode c.args.value.now in
    let start : c.len-start.result ≡ length before = search rules in
    omega (
      arith,
      start,
      ap length c.in_ok-encode-2.ensures.bytes,
      ap length c.in_ok-encode.ensures.bytes,
      length-append (before ++ form) encoding,
      length-append c.encode.new.out.items encoding,
      length-append before form,
      length_form 0,
    )

pub close-requires-clause-pool : goal.close-requires-clause-pool
close-requires-clause-pool g c =
    let before = c.make_room.new.bytes.items in
    let form = (number_encoding 8).encode 0 in
    let encoding = g.P.Encode.encoding.encode c.args.value.now in
    let start : length before ≡ c.len-start.result = search rules in
    let is : c.encode-2.new.out.items ≡ (before ++ form) ++ encoding =
    c.in_ok-encode-2.ensures.bytes ∙ ap (λ (b : List ℕ). b ++ encoding) c.in_ok-encode.ensures.bytes in
    let front : take c.len-start.result c.encode-2.new.out.items ≡ before =
    ap (λ (n : ℕ). take n c.encode-2.new.out.items) (sym start) ∙ front_of before form encoding c.encode-2.new.out.items is (length_form 0) in
    subst (λ (b : List ℕ). IsPool b c.args.spans.now.items c.args.table.now) (sym front) (search rules)

pub returns-clause-texts : goal.returns-clause-texts
returns-clause-texts g c =
    let before = c.make_room.new.bytes.items in
    let form = (number_encoding 8).encode 0 in
    let encoding = g.P.Encode.encoding.encode c.args.value.now in
    let items = c.encode-2.new.out.items in
    let spans = c.args.spans.now.items in
    let start : length before ≡ c.len-start.result = search rules in
    let is : items ≡ (before ++ form) ++ encoding =
    c.in_ok-encode-2.ensures.bytes ∙ ap (λ (b : List ℕ). b ++ encoding) c.in_ok-encode.ensures.bytes in
    let front : take c.len-start.result items ≡ before =
    ap (λ (n : ℕ). take n items) (sym start) ∙ front_of before form encoding items is (length_form 0) in
    let tail : drop (c.len-start.result + 8) items ≡ encoding =
    ap (λ (n : ℕ). drop (n + 8) items) (sym start) ∙ tail_of before form encoding items is (length_form 0) in
    let same : texts_at before spans ≡ texts_at c.args.bytes.now.items spans = search rules in
    c.in_ok-number.ensures.texts ∙ ap₂ (λ (b t : List ℕ). with_text (texts_at b spans) t) front tail
    ∙ ap (λ (all : List (List ℕ)). with_text all encoding) same

pub returns-clause-number : goal.returns-clause-number
returns-clause-number g c =
    let before = c.make_room.new.bytes.items in
    let form = (number_encoding 8).encode 0 in
    let encoding = g.P.Encode.encoding.encode c.args.value.now in
    let items = c.encode-2.new.out.items in
    let start : length before ≡ c.len-start.result = search rules in
    let is : items ≡ (before ++ form) ++ encoding =
    c.in_ok-encode-2.ensures.bytes ∙ ap (λ (b : List ℕ). b ++ encoding) c.in_ok-encode.ensures.bytes in
    let tail : drop (c.len-start.result + 8) items ≡ encoding =
    ap (λ (n : ℕ). drop (n + 8) items) (sym start) ∙ tail_of before form encoding items is (length_form 0) in
    c.in_ok-number.ensures.number ∙ ap (number_in (texts_at c.close.new.bytes.items c.close.new.spans.items)) tail
