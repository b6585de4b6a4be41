-- The parts of a cache, and the entries that are read from parts.
use Rattle.std.proofs.Common.{◌≡◌, ◌∙◌, ℕ, List, [], ◌∷◌, Bool, true, false, cond, length, map, take, sym, ap, ap₂, refl, arith, Option, Some, None, subst, option_map, take_all}
use Rattle.std.specs.List.{list_all, flat_map}
use Rattle.std.proofs.lemmas.Bool.{and_from, eqb-true, eq-eqb, true≢false}
use Rattle.packed_values.specs.Plain.{and_left}
use Rattle.packed_values.specs.Parts.{and_right}
use Rattle.packed_outcomes.specs.Talk.{answer_encoding, outcome_encoding}
use Rattle.step_engine.specs.declared.talk.Answer.{Answer}
use Rattle.step_engine.specs.declared.talk.Batch.{Batch}
use Rattle.step_engine.specs.declared.talk.Entry.{Entry}
use Rattle.step_engine.specs.declared.talk.Outcome.{Outcome}
use Rattle.step_engine.specs.declared.talk.Pair.{Pair}
use Rattle.step_pack.specs.declared.key.Key.{Key}
use Rattle.step_pack.specs.declared.out.Out.{Out}
use Rattle.step_cache.specs.CacheText.{pair_text, pair_texts, batch_texts, entry_texts, cache_texts, numbered_pair, numbered_batch, numbered, pooled, pair_is_value, batch_is_value, entry_is_value}
use Rattle.step_cache.specs.Checking.{use_number, then_uses, ask_uses, asks_use, batches_use, entry_uses, entries_use, each_new, is_all, are_used, ascend, IsCacheOf}
use Rattle.step_cache.specs.Decoding.{AreDecoded, HasTexts, value_at, all_some, pair_of, pair_at, batch_of, batch_at, entry_with, entry_at}
use Rattle.step_cache.specs.Pools.{with_texts, number_in, pool_of}
use Rattle.step_cache.specs.declared.numbered.Asked.{Asked}
use Rattle.step_cache.specs.declared.numbered.Numbered.{Numbered}
use Rattle.step_cache.specs.declared.numbered.Pooled.{Pooled}
use Rattle.step_cache.proofs.PoolLemmas.{all_there, has_left, has_right, with_texts-append}
use Rattle.step_cache.proofs.OnceLemmas.{EachOnce, once_none, once_texts, once_all, new_all}
use Rattle.step_cache.proofs.UseLemmas.{Within, within_all, within-then, use_put, Counts, counts_list, use_found, IsFound, Finds, finds_list}
use Rattle.step_cache.proofs.GivenLemmas.{value_back, value_from, Reads, reads_list}
use Rattle.step_cache.proofs.OrderLemmas.{order_of, ascend_of}

-- the numbers of entries count their texts
module _ (whole : List (List ℕ)) where
  count_pair : Counts whole (ask_uses (length whole)) (numbered_pair whole) pair_texts
  count_pair pair pool w = use_put whole pool (pair_text pair) w

  count_batch : Counts whole (asks_use (length whole)) (numbered_batch whole) batch_texts
  count_batch batch pool w = counts_list whole (ask_uses (length whole)) (numbered_pair whole) pair_texts count_pair batch.pairs pool w

  count_batches : Counts whole (batches_use (length whole)) (map (numbered_batch whole)) (flat_map batch_texts)
  count_batches batches pool w = counts_list whole (asks_use (length whole)) (numbered_batch whole) batch_texts count_batch batches pool w

  count_entry : Counts whole (entry_uses (length whole)) (numbered whole) entry_texts
  count_entry entry pool w =
      let talk = flat_map batch_texts entry.talk.batches in
      let last = outcome_encoding.encode entry.result in
      let first = with_texts pool talk in
      let joins : with_texts pool (entry_texts entry) ≡ with_texts first (last ∷ []) = with_texts-append pool talk (last ∷ []) in
      let rest : Within (with_texts first (last ∷ [])) whole = subst (λ (p : List (List ℕ)). Within p whole) joins w in
      let here : Within first whole = within-then first (with_texts first (last ∷ [])) whole (within_all first (last ∷ [])) rest in
      ap (λ (seen : Option ℕ). then_uses seen (λ now. use_number (length whole) now (number_in whole last))) (count_batches entry.talk.batches pool here)
      ∙ use_put whole first last rest
      ∙ ap (λ (p : List (List ℕ)). Some (length p)) (sym joins)

  count_entries : Counts whole (entries_use (length whole)) (map (numbered whole)) cache_texts
  count_entries entries pool w = counts_list whole (entry_uses (length whole)) (numbered whole) entry_texts count_entry entries pool w

-- entries are read from their numbers, and what is read has these numbers
module _ (pool : List (List ℕ)) (answers : List (Option (Answer Out))) (results : List (Option (Outcome Out))) (decoded : AreDecoded pool answers results) where
  read_pair : Reads pool (pair_at answers) (numbered_pair pool) pair_is_value pair_texts
  read_pair pair v h = ap (option_map (pair_of (numbered_pair pool pair))) (value_back answer_encoding pool answers pair.answer decoded.answers v h.0)

  read_batch : Reads pool (batch_at answers) (numbered_batch pool) batch_is_value batch_texts
  read_batch batch v h = ap (option_map batch_of) (reads_list pool (pair_at answers) (numbered_pair pool) pair_is_value pair_texts read_pair batch.pairs v h)

  read_batches : Reads pool (all_some (batch_at answers)) (map (numbered_batch pool)) (list_all batch_is_value) (flat_map batch_texts)
  read_batches = reads_list pool (batch_at answers) (numbered_batch pool) batch_is_value batch_texts read_batch

  read_entry : Reads pool (entry_at answers results) (numbered pool) entry_is_value entry_texts
  read_entry entry v h =
      let talk = flat_map batch_texts entry.talk.batches in
      let last = outcome_encoding.encode entry.result ∷ [] in
      let join : Option (List (Batch Key Out)) → Option (Outcome Out) → Option (Entry Key Out) = λ a b. entry_with entry.key a b in
      ap₂ join (read_batches entry.talk.batches (and_left (list_all batch_is_value entry.talk.batches) (outcome_encoding.is_value entry.result) v) (has_left pool talk last h))
      (value_back outcome_encoding pool results entry.result decoded.results (and_right (list_all batch_is_value entry.talk.batches) (outcome_encoding.is_value entry.result) v) (has_right pool talk last h).0)

  pub read_entries : Reads pool (all_some (entry_at answers results)) (map (numbered pool)) (list_all entry_is_value) cache_texts
  read_entries = reads_list pool (entry_at answers results) (numbered pool) entry_is_value entry_texts read_entry

  module _ (once : EachOnce pool) where
    find_pair : Finds pool (pair_at answers) (ask_uses (length pool)) (numbered_pair pool) pair_is_value pair_texts
    find_pair asked pair s t le e u = step (value_at answers asked.number) refl e
      where
        step : (a : Option (Answer Out)) → value_at answers asked.number ≡ a → option_map (pair_of asked) a ≡ Some pair
            → IsFound pool (numbered_pair pool) pair_is_value pair_texts asked pair s t
        step None fa e = cc
        step (Some given) fa e =
            let from = value_from answer_encoding pool answers asked.number given decoded.answers fa in
            let here = use_found pool s asked.number t (answer_encoding.encode given) once le from.1 u in
            let is : pair_of asked given ≡ pair = cc in
            subst (λ (p : Pair Key Out). IsFound pool (numbered_pair pool) pair_is_value pair_texts asked p s t) is (record {
              most = here.0;
              puts = here.1;
              is = ap (λ (n : ℕ). record { ask = asked.ask; number = n }) (sym (once asked.number (answer_encoding.encode given) from.1));
              passes = from.0;
            })

    find_batch : Finds pool (batch_at answers) (asks_use (length pool)) (numbered_batch pool) batch_is_value batch_texts
    find_batch asked batch s t le e u = step (all_some (pair_at answers) asked) refl e
      where
        step : (a : Option (List (Pair Key Out))) → all_some (pair_at answers) asked ≡ a → option_map batch_of a ≡ Some batch
            → IsFound pool (numbered_batch pool) batch_is_value batch_texts asked batch s t
        step None fa e = cc
        step (Some pairs) fa e =
            let here = finds_list pool (pair_at answers) (ask_uses (length pool)) (numbered_pair pool) pair_is_value pair_texts find_pair asked pairs s t le fa u in
            let is : batch_of pairs ≡ batch = cc in
            subst (λ (b : Batch Key Out). IsFound pool (numbered_batch pool) batch_is_value batch_texts asked b s t) is
            (record { most = here.most; puts = here.puts; is = here.is; passes = here.passes })

    find_batches : Finds pool (all_some (batch_at answers)) (batches_use (length pool)) (map (numbered_batch pool)) (list_all batch_is_value) (flat_map batch_texts)
    find_batches = finds_list pool (batch_at answers) (asks_use (length pool)) (numbered_batch pool) batch_is_value batch_texts find_batch

    find_entry : Finds pool (entry_at answers results) (entry_uses (length pool)) (numbered pool) entry_is_value entry_texts
    find_entry number entry s t le e u =
        step (all_some (batch_at answers) number.batches) (value_at results number.result) (batches_use (length pool) number.batches s) refl refl refl e u
      where
        step : (a : Option (List (Batch Key Out))) (b : Option (Outcome Out)) (c : Option ℕ) → all_some (batch_at answers) number.batches ≡ a
            → value_at results number.result ≡ b → batches_use (length pool) number.batches s ≡ c → entry_with number.key a b ≡ Some entry
            → then_uses c (λ now. use_number (length pool) now number.result) ≡ Some t → IsFound pool (numbered pool) entry_is_value entry_texts number entry s t
        step None b c fa fb fc e u = cc
        step (Some batches) None c fa fb fc e u = cc
        step (Some batches) (Some given) None fa fb fc e u = cc
        step (Some batches) (Some given) (Some r) fa fb fc e u =
            let talk = find_batches number.batches batches s r le fa fc in
            let from = value_from outcome_encoding pool results number.result given decoded.results fb in
            let last = use_found pool r number.result t (outcome_encoding.encode given) once talk.most from.1 u in
            let is : record { key = number.key; talk = record { batches = batches }; result = given } ≡ entry = cc in
            let numbers : List (List Asked) → ℕ → Numbered = λ rows n. record { key = number.key; batches = rows; result = n } in
            subst (λ (x : Entry Key Out). IsFound pool (numbered pool) entry_is_value entry_texts number x s t) is (record {
              most = last.0;
              puts = with_texts-append (take s pool) (flat_map batch_texts batches) (outcome_encoding.encode given ∷ [])
                  ∙ ap (λ (p : List (List ℕ)). with_texts p (outcome_encoding.encode given ∷ [])) talk.puts ∙ last.1;
              is = ap₂ numbers talk.is (sym (once number.result (outcome_encoding.encode given) from.1));
              passes = and_from (list_all batch_is_value batches) (outcome_encoding.is_value given) talk.passes from.0;
            })

    find_entries : Finds pool (all_some (entry_at answers results)) (entries_use (length pool)) (map (numbered pool)) (list_all entry_is_value) cache_texts
    find_entries = finds_list pool (entry_at answers results) (entry_uses (length pool)) (numbered pool) entry_is_value entry_texts find_entry

  -- parts that pass are those of the entries that are read
  pub is_cache : (numbers : List Numbered) (entries : List (Entry Key Out)) → each_new [] pool ≡ true → entries_use (length pool) numbers 0 ≡ Some (length pool)
      → all_some (entry_at answers results) numbers ≡ Some entries → ascend entries ≡ true → IsCacheOf (record { pool = pool; entries = numbers }) entries
  unfolding pooled
  is_cache numbers entries new uses reads ascends =
      let found = find_entries (once_all [] pool once_none new) numbers entries 0 (length pool) (omega arith) reads uses in
      let all : pool_of (cache_texts entries) ≡ pool = found.puts ∙ take_all (length pool) pool (omega arith) in
      let both : List (List ℕ) → List Numbered → Pooled = λ p n. record { pool = p; entries = n } in
      record {
        order = order_of entries ascends;
        answers = found.passes;
        is = ap₂ both (sym all) (found.is ∙ ap (λ (p : List (List ℕ)). map (numbered p) entries) (sym all));
      }

-- what the parts of a cache pass
module _ (parts : Pooled) (entries : List (Entry Key Out)) (c : IsCacheOf parts entries) where
  pool_is : parts.pool ≡ pool_of (cache_texts entries)
  unfolding pooled
  pool_is = ap (λ (p : Pooled). p.pool) c.is

  numbers_are : parts.entries ≡ map (numbered parts.pool) entries
  unfolding pooled
  numbers_are = subst (λ (p : Pooled). p.entries ≡ map (numbered p.pool) entries) (sym c.is) refl

  pub parts_new : each_new [] parts.pool ≡ true
  parts_new = new_all [] parts.pool (subst EachOnce (sym pool_is) (once_texts [] (cache_texts entries) once_none))

  pub parts_use : entries_use (length parts.pool) parts.entries 0 ≡ Some (length parts.pool)
  parts_use =
      let whole = pool_of (cache_texts entries) in
      let same : Within whole whole = within_all whole [] in
      let fits : Within (with_texts [] (cache_texts entries)) parts.pool = subst (λ (p : List (List ℕ)). Within whole p) (sym pool_is) same in
      ap (λ (n : List Numbered). entries_use (length parts.pool) n 0) numbers_are ∙ count_entries parts.pool entries [] fits
      ∙ ap (λ (p : List (List ℕ)). Some (length p)) (sym pool_is)

  pub parts_read : (answers : List (Option (Answer Out))) (results : List (Option (Outcome Out))) → AreDecoded parts.pool answers results
      → all_some (entry_at answers results) parts.entries ≡ Some entries
  parts_read answers results decoded =
      ap (all_some (entry_at answers results)) numbers_are
      ∙ read_entries parts.pool answers results decoded entries c.answers
      (subst (λ (p : List (List ℕ)). HasTexts p (cache_texts entries)) (sym pool_is) (all_there [] (cache_texts entries)))

  pub parts_ascend : ascend entries ≡ true
  parts_ascend = ascend_of entries c.order

-- the parts that a test refuses are those of no cache
pub used_parts : (parts : Pooled) → are_used parts ≡ true → (each_new [] parts.pool ≡ true) × (entries_use (length parts.pool) parts.entries 0 ≡ Some (length parts.pool))
unfolding are_used
used_parts parts e = step (each_new [] parts.pool) (entries_use (length parts.pool) parts.entries 0) e
  where
    step : (a : Bool) (b : Option ℕ) → cond a (is_all (length parts.pool) b) false ≡ true → (a ≡ true) × (b ≡ Some (length parts.pool))
    step true None e = cc
    step true (Some seen) e = (refl, ap Some (eqb-true seen (length parts.pool) e))
    step false b e = cc

pub not_used : (parts : Pooled) → are_used parts ≡ false → (entries : List (Entry Key Out)) → IsCacheOf parts entries → ⊥
unfolding are_used
not_used parts e entries c =
    let uses : is_all (length parts.pool) (entries_use (length parts.pool) parts.entries 0) ≡ true =
    ap (is_all (length parts.pool)) (parts_use parts entries c) ∙ eq-eqb (length parts.pool) (length parts.pool) refl in
    let yes : cond (each_new [] parts.pool) (is_all (length parts.pool) (entries_use (length parts.pool) parts.entries 0)) false ≡ true =
    ap (λ (b : Bool). cond b (is_all (length parts.pool) (entries_use (length parts.pool) parts.entries 0)) false) (parts_new parts entries c) ∙ uses in
    true≢false (sym yes ∙ e)

pub not_read : (parts : Pooled) (answers : List (Option (Answer Out))) (results : List (Option (Outcome Out))) → AreDecoded parts.pool answers results
    → all_some (entry_at answers results) parts.entries ≡ None → (entries : List (Entry Key Out)) → IsCacheOf parts entries → ⊥
not_read parts answers results decoded e entries c = let is = parts_read parts entries c answers results decoded in cc

pub not_ascending : (parts : Pooled) (answers : List (Option (Answer Out))) (results : List (Option (Outcome Out))) (found : List (Entry Key Out))
    → AreDecoded parts.pool answers results → all_some (entry_at answers results) parts.entries ≡ Some found → ascend found ≡ false
    → (entries : List (Entry Key Out)) → IsCacheOf parts entries → ⊥
not_ascending parts answers results found decoded e falls entries c =
    let is = parts_read parts entries c answers results decoded in
    let same : found ≡ entries = some_is (sym e ∙ is) in
    true≢false (sym (parts_ascend parts entries c) ∙ ap ascend (sym same) ∙ falls)
  where
    some_is : Some found ≡ Some entries → found ≡ entries
    some_is e = cc

pub is_cache_of : (parts : Pooled) (answers : List (Option (Answer Out))) (results : List (Option (Outcome Out))) (found cache : List (Entry Key Out))
    → are_used parts ≡ true → AreDecoded parts.pool answers results → all_some (entry_at answers results) parts.entries ≡ Some found → ascend found ≡ true
    → cache ≡ found → IsCacheOf parts cache
is_cache_of parts answers results found cache uses decoded e ascends same =
    let both = used_parts parts uses in
    subst (IsCacheOf parts) (sym same) (is_cache parts.pool answers results decoded parts.entries found both.0 both.1 e ascends)
