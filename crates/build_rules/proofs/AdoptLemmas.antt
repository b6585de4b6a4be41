-- The entries of an older cache that stay are sound today.
use Rattle.std.proofs.Common.{◌≡◌, inl, inr, ℕ, zero, suc, ◌<◌, ◌≤◌, ◌++◌, arith, Bool, true, false, List, [], ◌∷◌, All, Contains, refl, sym, ap, ◌∙◌, cond, Some, Result, Ok, Err}
use Rattle.std.specs.Prelude.{not, ◌&&◌, ◌||◌, nat_le, nat_lt}
use Rattle.std.proofs.lemmas.Bool.{leb-true}
use Rattle.std.proofs.lemmas.List.Elements.{All-nil, All-cons, All-head, All-tail, All-weaker, All-contains_itself}
use Rattle.build_base.specs.World.{World}
use Rattle.build_stages.specs.Asks.{same_ask}
use Rattle.build_stages.specs.Bounds.{both_hold}
use Rattle.build_stages.specs.Stages.{Halt, wants, fails, impossible_answer, end, stage, IsLower, AreLower, advance, known_in, meaning_of, oracle, outcome_of, run, turned, value_by, wanted_in}
use Rattle.build_stages.specs.StagesLaws.{run_same}
use Rattle.build_stages.specs.StagesTurns.{wants_lower}
use Rattle.step_engine.specs.Caches.{Keeps}
use Rattle.step_engine.specs.Entries.{IsSound, AreSound}
use Rattle.step_engine.specs.Meaning.{Meaning, FollowsFrom, IsRight, AreRight, asks_of, right}
use Rattle.step_engine.specs.declared.talk.Answer.TheVariants as answer
use Rattle.step_engine.specs.declared.talk.Ask.{Ask}
use Rattle.step_engine.specs.declared.talk.Ask.TheVariants as ask
use Rattle.step_engine.specs.declared.talk.Batch.{Batch}
use Rattle.step_engine.specs.declared.talk.Entry.{Entry}
use Rattle.step_engine.specs.declared.talk.Outcome.{Outcome}
use Rattle.step_engine.specs.declared.talk.Outcome.TheVariants.{Bad}
use Rattle.step_engine.specs.declared.talk.Pair.{Pair}
use Rattle.step_pack.specs.Keys.{key_cmp}
use Rattle.step_pack.specs.declared.key.Key.{Key}
use Rattle.step_pack.specs.declared.key.Key.TheVariants as key
use Rattle.step_pack.specs.declared.out.Out.{Out}
use Rattle.build_rules.specs.Adopting.{is_same, is_vpd, stays, adopted, AreOlder, by_older}
use Rattle.step_answers.specs.Fits.{fits}
use Rattle.build_rules.specs.Rules.{edk, rank_of, stages_of}
use Rattle.build_rules.specs.RulesBounds.{edk_is_bounded}
use Rattle.build_rules.specs.TextBounds.{report_lower}
use Rattle.step_answers.specs.Readers.{EdkStages}

-- the steps that are the same ask steps below rank 7 alone, and these are the same
low_same : (edition : ℕ) (k : Key) → rank_of k < 7 → is_same edition k ≡ true
low_same edition (key.Dec path) h = refl
low_same edition (key.Inf path) h = refl
low_same edition key.Platform h = refl
low_same edition key.Flash h = refl
low_same edition (key.Choice m) h = refl
low_same edition key.PlatformPcds h = refl
low_same edition (key.Values m) h = refl
low_same edition (key.Code m) h = refl
low_same edition (key.Depex m) h = absurd (omega (arith, h))
low_same edition (key.File v i) h = absurd (omega (arith, h))
low_same edition (key.Volume v) h = absurd (omega (arith, h))
low_same edition (key.Device d) h = absurd (omega (arith, h))
low_same edition key.Report h = refl
low_same edition key.All h = absurd (omega (arith, h))
low_same edition key.Vpd h = refl
low_same edition (key.Based v) h = absurd (omega (arith, h))

ask_more : (a b : ℕ) → a ≤ b → (x : Ask Key) → IsLower rank_of a x → IsLower rank_of b x
ask_more a b le (ask.File path) h = tt
ask_more a b le (ask.Field i) h = tt
ask_more a b le (ask.Part k) h = omega (arith, le, h)

lower_more : (a b : ℕ) → a ≤ b → (s : EdkStages) → AreLower rank_of a s → AreLower rank_of b s
lower_more a b le (end r) h = tt
lower_more a b le (stage asks next) h =
    (All-weaker (IsLower rank_of a) (IsLower rank_of b) (ask_more a b le) asks h.0, λ given. lower_more a b le (next given) (h.1 given))

lower_at : (k : Key) → AreLower rank_of (rank_of k) (stages_of k)
lower_at = edk_is_bounded.lower

same_low : (edition : ℕ) (k : Key) → is_same edition k ≡ true → AreLower rank_of 7 (stages_of k)
same_low edition (key.Dec path) h = lower_more 1 7 (omega arith) (stages_of (key.Dec path)) (lower_at (key.Dec path))
same_low edition (key.Inf path) h = lower_more 1 7 (omega arith) (stages_of (key.Inf path)) (lower_at (key.Inf path))
same_low edition key.Platform h = lower_more 2 7 (omega arith) (stages_of key.Platform) (lower_at key.Platform)
same_low edition key.Flash h = lower_more 3 7 (omega arith) (stages_of key.Flash) (lower_at key.Flash)
same_low edition (key.Choice m) h = lower_more 4 7 (omega arith) (stages_of (key.Choice m)) (lower_at (key.Choice m))
same_low edition key.PlatformPcds h = lower_more 5 7 (omega arith) (stages_of key.PlatformPcds) (lower_at key.PlatformPcds)
same_low edition (key.Values m) h = lower_more 6 7 (omega arith) (stages_of (key.Values m)) (lower_at (key.Values m))
same_low edition (key.Code m) h = lower_at (key.Code m)
same_low edition (key.Depex m) h = lower_at (key.Depex m)
same_low edition (key.File v i) h = absurd cc
same_low edition (key.Volume v) h = absurd cc
same_low edition (key.Device d) h = absurd cc
same_low edition key.Report h = report_lower 7 (omega arith)
same_low edition key.All h = absurd cc
same_low edition key.Vpd h = lower_more 6 7 (omega arith) (stages_of key.Vpd) (lower_at key.Vpd)
same_low edition (key.Based v) h = absurd cc

wanted_is : (r : Result Out (Halt Key)) (asks : List (Ask Key)) → wanted_in r ≡ Some asks → r ≡ Err (wants asks)
wanted_is (Ok out) asks e = absurd cc
wanted_is (Err (fails fault)) asks e = absurd cc
wanted_is (Err (wants here)) asks e = let same : here ≡ asks = cc in ap (λ l. Err (wants l)) same

-- what such a step asks next
next_low : (edition : ℕ) (k : Key) → is_same edition k ≡ true → (talk : List (Batch Key Out)) (asks : List (Ask Key))
    → (meaning_of key_cmp edk).next k talk ≡ Some asks → (a : Ask Key) → Contains asks a → IsLower rank_of 7 a
next_low edition k h talk asks e a c =
    wants_lower (same_ask key_cmp) fits rank_of 7 (known_in (same_ask key_cmp) talk) (stages_of k) asks (same_low edition k h)
    (wanted_is (turned key_cmp edk k talk) asks e) a c

module _ (edition : ℕ) (older : Key → EdkStages) (are : AreOlder edition older) where
  abbrev old : Meaning Key Out
  old = meaning_of key_cmp (by_older older)

  abbrev today : Meaning Key Out
  today = meaning_of key_cmp edk

  next_same : (k : Key) → is_same edition k ≡ true → (talk : List (Batch Key Out)) → old.next k talk ≡ today.next k talk
  next_same k h talk =
      ap (λ (s : EdkStages). wanted_in (advance (same_ask key_cmp) fits (known_in (same_ask key_cmp) talk) s)) (are k h)

  value_at : (n : ℕ) (w : World) (k : Key) → is_same edition k ≡ true → value_by (by_older older) n w k ≡ value_by edk n w k
  unfolding value_by
  value_at zero w k h = ap (λ (s : EdkStages). outcome_of (run fits (oracle (λ part. Bad impossible_answer) w) s)) (are k h)
  value_at (suc n) w k h =
      ap (λ (s : EdkStages). outcome_of (run fits (oracle (value_by (by_older older) n w) w) s)) (are k h)
      ∙ ap outcome_of (run_same fits rank_of 7 (oracle (value_by (by_older older) n w) w) (oracle (value_by edk n w) w)
      (elim [ ask.File p ↦ λ l. refl | ask.Field i ↦ λ l. refl | ask.Part part ↦ λ l. ap (λ (r : Outcome Out). answer.Part r) (value_at n w part (low_same edition part l)) ])
      (stages_of k) (same_low edition k h))

  right_at : (w : World) (a : Ask Key) → IsLower rank_of 7 a → right today w a ≡ right old w a
  right_at w (ask.File path) l = refl
  right_at w (ask.Field i) l = refl
  right_at w (ask.Part k) l = ap (λ (r : Outcome Out). answer.Part r) (sym (value_at (rank_of k) w k (low_same edition k l)))

  pairs_right : (w : World) (pairs : List (Pair Key Out)) → All (IsLower rank_of 7) (asks_of pairs) → AreRight today w pairs → AreRight old w pairs
  pairs_right w [] l r = All-nil (λ p. p.answer ≡ right old w p.ask)
  pairs_right w (p ∷ pairs) l r =
      All-cons (λ (p : Pair Key Out). p.answer ≡ right old w p.ask) p pairs
      (All-head (λ (p : Pair Key Out). p.answer ≡ right today w p.ask) p pairs r ∙ right_at w p.ask (All-head (IsLower rank_of 7) p.ask (asks_of pairs) l))
      (pairs_right w pairs (All-tail (IsLower rank_of 7) p.ask (asks_of pairs) l) (All-tail (λ (p : Pair Key Out). p.answer ≡ right today w p.ask) p pairs r))

  all_low : (asks : List (Ask Key)) → ((a : Ask Key) → Contains asks a → IsLower rank_of 7 a) → All (IsLower rank_of 7) asks
  all_low asks h = All-weaker (Contains asks) (IsLower rank_of 7) h asks (All-contains_itself asks)

  follows_at : (k : Key) → is_same edition k ≡ true → (before talk : List (Batch Key Out)) → FollowsFrom old k before talk → FollowsFrom today k before talk
  follows_at k h before [] f = tt
  follows_at k h before (b ∷ rest) f = (sym (next_same k h before) ∙ f.0, follows_at k h (before ++ b ∷ []) rest f.1)

  talk_right : (w : World) (k : Key) → is_same edition k ≡ true → (before talk : List (Batch Key Out)) → FollowsFrom today k before talk → IsRight today w talk → IsRight old w talk
  talk_right w k h before [] f r = All-nil (λ b. AreRight old w b.pairs)
  talk_right w k h before (b ∷ rest) f r =
      All-cons (λ (b : Batch Key Out). AreRight old w b.pairs) b rest
      (pairs_right w b.pairs (all_low (asks_of b.pairs) (next_low edition k h before (asks_of b.pairs) f.0)) (All-head (λ (b : Batch Key Out). AreRight today w b.pairs) b rest r))
      (talk_right w k h (before ++ b ∷ []) rest f.1 (All-tail (λ (b : Batch Key Out). AreRight today w b.pairs) b rest r))

  entry_sound : (e : Entry Key Out) → is_same edition e.key ≡ true → IsSound old e → IsSound today e
  entry_sound e h s =
      let follows : FollowsFrom today e.key [] e.talk.batches = follows_at e.key h [] e.talk.batches s.follows in record {
        follows = follows;
        ends = sym (next_same e.key h e.talk.batches) ∙ s.ends;
        value = λ w i r. sym (value_at (rank_of e.key) w e.key h) ∙ s.value w i (talk_right w e.key h [] e.talk.batches follows r);
      }

  stays_same : edition < 5 → (k : Key) → stays edition k ≡ true → is_same edition k ≡ true
  stays_same few k e =
      (elim (nat_le 5 edition) as (λ b. nat_le 5 edition ≡ b → (b || (is_same edition k && (not (is_vpd k) || nat_lt 3 edition))) ≡ true → is_same edition k ≡ true) [
        | true ↦ λ q h. let most : 5 ≤ edition = leb-true 5 edition q in absurd (omega (arith, few, most))
        | false ↦ λ q h. (both_hold (is_same edition k) (not (is_vpd k) || nat_lt 3 edition) h).0
      ]) refl e

  pub adopted_sound : edition < 5 → (cache : List (Entry Key Out)) → AreSound old cache → AreSound today (adopted edition cache)
  unfolding adopted
  adopted_sound few [] s = All-nil (IsSound today)
  adopted_sound few (e ∷ cache) s =
      let rest : AreSound today (adopted edition cache) = adopted_sound few cache (All-tail (IsSound old) e cache s) in
      (elim (stays edition e.key) as (λ b. stays edition e.key ≡ b → AreSound today (cond b (e ∷ adopted edition cache) (adopted edition cache))) [
        | true ↦ λ q. All-cons (IsSound today) e (adopted edition cache) (entry_sound e (stays_same few e.key q) (All-head (IsSound old) e cache s)) rest
        | false ↦ λ q. rest
      ]) refl

-- the newest edition's stay all
pub all_stay : (cache : List (Entry Key Out)) → adopted 5 cache ≡ cache
unfolding adopted
all_stay [] = refl
all_stay (e ∷ cache) = ap (λ (l : List (Entry Key Out)). e ∷ l) (all_stay cache)

pub newest_stay : (edition : ℕ) (cache : List (Entry Key Out)) → edition ≡ 5 → adopted edition cache ≡ cache
newest_stay edition cache e = ap (λ (n : ℕ). adopted n cache) e ∙ all_stay cache

-- what is kept by a test that answers whether an entry stays
pub keeps_adopted : (edition : ℕ) (answers : Key → Bool → Type 0) (old new : List (Entry Key Out)) → Keeps answers old new
    → ((k : Key) (b : Bool) → answers k b → b ≡ stays edition k) → new ≡ adopted edition old
unfolding adopted
keeps_adopted edition answers [] new k h = k
keeps_adopted edition answers (e ∷ old) new (inl k) h =
    k.2 ∙ ap (λ (l : List (Entry Key Out)). e ∷ l) (keeps_adopted edition answers old k.0 k.3 h)
    ∙ ap (λ (b : Bool). cond b (e ∷ adopted edition old) (adopted edition old)) (h e.key true k.1)
keeps_adopted edition answers (e ∷ old) new (inr k) h =
    keeps_adopted edition answers old new k.1 h
    ∙ ap (λ (b : Bool). cond b (e ∷ adopted edition old) (adopted edition old)) (h e.key false k.0)
