-- Each step keeps the rule of a wave's table.
use Rattle.std.proofs.Common.{◌≡◌, ◌≢◌, ℕ, zero, suc, ◌+◌, ◌%◌, ◌^◌, ◌<◌, ◌≤◌, List, [], ◌∷◌, ◌++◌, map, length, set, sym, refl, ap, ◌∙◌, subst, ⊎_elim, arith, Option, Some, None, All, sum_by}
use mathlib.Core.Option.{none, some, some-ne-none}
use mathlib.Core.Option as maybe
use lib.ListN.{get_elem?}
use Rattle.std.specs.Prelude.{slice_get, slice_index}
use Rattle.std.proofs.lemmas.List.Sums.{sum_by-append, sum_by_push}
use Rattle.atomic_table.specs.Table.{State, Me, step, Act, keeps, takes, stepped, Allows, Splits, Joins, opening}
use Rattle.atomic_table.proofs.Lists.{at_set, set_again, at_snoc}
use Rattle.drawn_waves.specs.declared.table.WorkerView.{WorkerView}
use Rattle.drawn_waves.specs.Drawing.{upto, past, count_past, at_home, hand, spent_view, longer_view, kept_half, given_half, joined_view, IsWorkerView, Drawn, Drew, drew, looked}
use Rattle.drawn_waves.proofs.Sums.{sum_at, part_le, sums_le, sums_lt, all_alone, past_le, upto_past, upto_none, upto_more, none_past, past_none_all, count_all, count_upto}
use Rattle.drawn_waves.proofs.Homes.{at_home_here, at_home_more, at_home_past, at_home_first}

module _ {I : Type 0} (items : List I) (workers : ℕ) where
  abbrev St : Type 0
  St = State (Option I) (WorkerView I)

  abbrev Rule : St → Type 0
  Rule = Drawn items workers

  abbrev Each : List (WorkerView I) → Type 0
  Each views = (j : ℕ) (u : WorkerView I) → get_elem? views j ≡ some u → IsWorkerView items workers u

  each_set : (views : List (WorkerView I)) (id : ℕ) (w : WorkerView I) → Each views → IsWorkerView items workers w → Each (set views id w)
  each_set views id w each mine j u e = ⊎_elim (λ (t : (j ≡ id) × (w ≡ u)). subst (IsWorkerView items workers) t.1 mine) (λ (t : (j ≢ id) × (get_elem? views j ≡ some u)). each j u t.1) (at_set views id j w u e)

  each_more : (views : List (WorkerView I)) (w : WorkerView I) → Each views → IsWorkerView items workers w → Each (views ++ w ∷ [])
  each_more views w each mine j u e = ⊎_elim (each j u) (λ (t : w ≡ u). subst (IsWorkerView items workers) t mine) (at_snoc views w u j e)

  nobody : IsWorkerView items workers spent_view
  nobody = record { idle = λ _. refl; items_are = λ l. absurd (omega arith); workers_are = λ l. absurd (omega arith); ends = omega arith }

  abbrev share_of : WorkerView I → ℕ
  share_of v = v.share

  abbrev weigh : (ℕ → ℕ) → WorkerView I → ℕ
  weigh h v = sum_by h v.numbers

  -- the word is at most the length and the workers
  pub bounded : (s : St) (r : Rule s) → r.drawn ≤ length items + workers
  bounded s r = let n : ℕ = length items in let a = upto_past n r.drawn in let b = r.numbers (past n) in
      let c = sums_le (weigh (past n)) share_of s.views (λ j u e. (r.each j u e).ends) in let d = r.shares in omega arith

  -- the number that a view with a share draws next is less than the length and the workers
  near_of : (s : St) (r : Rule s) (id : ℕ) (v : WorkerView I) → get_elem? s.views id ≡ some v → 0 < v.share → All (λ x. x < length v.items) v.numbers → r.drawn < length items + workers
  near_of s r id v at live below = let n : ℕ = length items in let a = upto_past n r.drawn in let b = r.numbers (past n) in
      let none : count_past (length items) v.numbers ≡ 0 = past_none_all _ _ (subst (λ (xs : List I). All (λ x. x < length xs) v.numbers) ((r.each id v at).items_are live) below) in
      let c = sums_lt (weigh (past n)) share_of s.views id v (λ j u e. (r.each j u e).ends) at (omega arith) in let d = r.shares in omega arith

  -- a view with all shares has every number below the word
  all_of : (s : St) (r : Rule s) (id : ℕ) (v : WorkerView I) → get_elem? s.views id ≡ some v → v.share ≡ workers → (h : ℕ → ℕ) → sum_by h v.numbers ≡ sum_by h (upto r.drawn)
  all_of s r id v at whole h = all_alone (weigh h) share_of s.views id v (λ j u e z. ap (λ (xs : List ℕ). sum_by h xs) ((r.each j u e).idle z)) at (whole ∙ sym r.shares) ∙ r.numbers h

  next_of : (s : St) (r : Rule s) (id : ℕ) (v : WorkerView I) → get_elem? s.views id ≡ some v → v.share ≡ workers → r.drawn ≡ length v.numbers
  next_of s r id v at whole = sym (sym (count_all v.numbers) ∙ all_of s r id v at whole (λ _. 1) ∙ count_upto r.drawn)

  -- each number in a view is below the word
  pub drawn_below : (s : St) (r : Rule s) (id : ℕ) (v : WorkerView I) → get_elem? s.views id ≡ some v → All (λ x. x < r.drawn) v.numbers
  drawn_below s r id v at = let a = r.numbers (past r.drawn) in let b = upto_none r.drawn r.drawn (omega arith) in
      let c = part_le (weigh (past r.drawn)) s.views id v at in none_past r.drawn v.numbers (omega arith)

  -- after a draw of the number of a slot, or of one without
  drawn_more : (s : St) (r : Rule s) (id k : ℕ) (v : WorkerView I) (homes : List (maybe.Option (Option I))) → k ≡ r.drawn → get_elem? s.views id ≡ some v → 0 < v.share → All (λ x. x < length v.items) v.numbers
      → homes ≡ at_home (suc k) items → Rule record { words = set s.words 0 ((k + 1) % 18446744073709551616); homes = homes; views = set s.views id (longer_view v k) }
  drawn_more s r id k v homes is at live below homes_are = let w : WorkerView I = longer_view v k in let mine = r.each id v at in
      let b = bounded s r in let short = r.short in let few = r.few in let small : (k + 1) % 18446744073709551616 ≡ suc k = omega arith in
      let none : count_past (length items) v.numbers ≡ 0 = past_none_all _ _ (subst (λ (xs : List I). All (λ x. x < length xs) v.numbers) (mine.items_are live) below) in record {
        drawn = suc k;
        word_is = ap (λ (ws : List ℕ). set ws 0 ((k + 1) % 18446744073709551616)) r.word_is ∙ ap (λ (x : ℕ). x ∷ []) small;
        homes_are = homes_are;
        short = r.short;
        few = r.few;
        shares = let a = sum_at share_of s.views id v w at in let d = r.shares in omega arith;
        numbers = λ h. let a = sum_at (weigh h) s.views id v w at in let d = r.numbers h in let c = sum_by_push h v.numbers k in let u = upto_more h k in
            let e : sum_by h (upto k) ≡ sum_by h (upto r.drawn) = ap (λ (x : ℕ). sum_by h (upto x)) is in omega arith;
        each = each_set s.views id w r.each record {
          idle = λ z. absurd (omega arith);
          items_are = mine.items_are;
          workers_are = mine.workers_are;
          ends = let c = sum_by_push (past (length items)) v.numbers k in let p = past_le (length items) k in omega arith;
        };
      }

  abbrev M : Type 0
  M = Me (Option I) (WorkerView I)

  -- what a draw owes of a state
  abbrev Owes : St → ℕ → M → ℕ → Type 0
  Owes s id me k = (w : WorkerView I) × (a : Act (Option I)) × Rattle.atomic_table.specs.Table.Valid s.homes me.1 a × Rule (stepped s 0 ((k + 1) % 18446744073709551616) id me.1 w a)
      × Drew me k (w, Rattle.atomic_table.specs.Table.carried_after me.1 a)

  owes : (s : St) (r : Rule s) (id k : ℕ) (me : M) → k ≡ r.drawn → get_elem? s.views id ≡ some me.0 → 0 < me.0.share → All (λ x. x < length me.0.items) me.0.numbers
      → (o : Option I) → slice_get items k ≡ o → Owes s id me k
  owes s r id k me is at live below (Some x) e =
      let here : s.homes ≡ at_home k items = r.homes_are ∙ ap (λ (j : ℕ). at_home j items) (sym is) in
      let same : me.0.items ≡ items = (r.each id me.0 at).items_are live in (
        longer_view me.0 k,
        takes k (Some x),
        ap (λ hs. get_elem? hs k) here ∙ at_home_here items k x e,
        drawn_more s r id k me.0 _ is at live below (ap (λ hs. set hs k none) here ∙ at_home_more items k x e),
        record {
          view = refl;
          greater = subst (λ (j : ℕ). All (λ x. x < j) me.0.numbers) (sym is) (drawn_below s r id me.0 at);
          near = let n = near_of s r id me.0 at live below in let l : length me.0.items ≡ length items = ap length same in let f = r.few in omega arith;
          next = λ whole. is ∙ next_of s r id me.0 at (whole ∙ (r.each id me.0 at).workers_are live);
          slot = λ y f. ap (λ (o : Option I). (k, o) ∷ me.1) (sym e ∙ ap (λ (xs : List I). slice_get xs k) (sym same) ∙ f);
        },
      )
  owes s r id k me is at live below None e =
      let here : s.homes ≡ at_home k items = r.homes_are ∙ ap (λ (j : ℕ). at_home j items) (sym is) in
      let same : me.0.items ≡ items = (r.each id me.0 at).items_are live in (
        longer_view me.0 k,
        keeps,
        tt,
        drawn_more s r id k me.0 _ is at live below (here ∙ at_home_past items k e),
        record {
          view = refl;
          greater = subst (λ (j : ℕ). All (λ x. x < j) me.0.numbers) (sym is) (drawn_below s r id me.0 at);
          near = let n = near_of s r id me.0 at live below in let l : length me.0.items ≡ length items = ap length same in let f = r.few in omega arith;
          next = λ whole. is ∙ next_of s r id me.0 at (whole ∙ (r.each id me.0 at).workers_are live);
          slot = λ y f. absurd (Rattle.std.proofs.lemmas.Option.none-some y (sym e ∙ ap (λ (xs : List I). slice_get xs k) (sym same) ∙ f));
        },
      )

  pub draws : (slots id : ℕ) (me : M) → 0 < me.0.share → All (λ x. x < length me.0.items) me.0.numbers
      → Allows Rule slots id me 0 (λ n. (n + 1) % 18446744073709551616) (drew (step slots 0 1 0 none) me)
  draws slots id me live below s r _ at _ = owes s r id (slice_index s.words 0) me (ap (λ ws. slice_index ws 0) r.word_is) at live below _ refl

  pub halves : (id : ℕ) (v : WorkerView I) → 2 ≤ v.share → All (λ x. x < length v.items) v.numbers → Splits Rule id v (kept_half v) (given_half v)
  halves id v two below s r at = let l : WorkerView I = kept_half v in let g : WorkerView I = given_half v in let mine = r.each id v at in let vs : List (WorkerView I) = set s.views id l in
      let none : count_past (length items) v.numbers ≡ 0 = past_none_all _ _ (subst (λ (xs : List I). All (λ x. x < length xs) v.numbers) (mine.items_are (omega arith)) below) in record {
        drawn = r.drawn;
        word_is = r.word_is;
        homes_are = r.homes_are;
        short = r.short;
        few = r.few;
        shares = let a = sum_at share_of s.views id v l at in let b = sum_by_push share_of vs g in let d = r.shares in omega arith;
        numbers = λ h. let a = sum_at (weigh h) s.views id v l at in let b = sum_by_push (weigh h) vs g in let d = r.numbers h in omega arith;
        each = each_more vs g (each_set s.views id l r.each record {
          idle = λ z. absurd (omega arith);
          items_are = λ _. mine.items_are (omega arith);
          workers_are = λ _. mine.workers_are (omega arith);
          ends = omega arith;
        })
            record { idle = λ _. refl; items_are = λ _. mine.items_are (omega arith); workers_are = λ _. mine.workers_are (omega arith); ends = omega arith };
      }

  pub lifts : (id : ℕ) (v : WorkerView I) → Splits Rule id v spent_view v
  lifts id v s r at = let vs : List (WorkerView I) = set s.views id spent_view in record {
    drawn = r.drawn;
    word_is = r.word_is;
    homes_are = r.homes_are;
    short = r.short;
    few = r.few;
    shares = let a = sum_at share_of s.views id v spent_view at in let b = sum_by_push share_of vs v in let d = r.shares in omega arith;
    numbers = λ h. let a = sum_at (weigh h) s.views id v spent_view at in let b = sum_by_push (weigh h) vs v in let d = r.numbers h in omega arith;
    each = each_more vs v (each_set s.views id spent_view r.each nobody) (r.each id v at);
  }

  pub gathers : (id : ℕ) (v : WorkerView I) (other : ℕ) (w : WorkerView I) → 0 < v.share → Joins Rule id v other w (joined_view v w) spent_view
  gathers id v other w live s r at apart there = let b : WorkerView I = joined_view v w in let vs : List (WorkerView I) = set s.views id b in let mine = r.each id v at in
      let was : get_elem? s.views other ≡ some w = ⊎_elim (λ (t : (other ≡ id) × (b ≡ w)). absurd (apart t.0)) (λ (t : (other ≢ id) × (get_elem? s.views other ≡ some w)). t.1) (at_set s.views id other b w there) in
      let theirs = r.each other w was in record {
        drawn = r.drawn;
        word_is = r.word_is;
        homes_are = r.homes_are;
        short = r.short;
        few = r.few;
        shares = let x = sum_at share_of s.views id v b at in let y = sum_at share_of vs other w spent_view there in let d = r.shares in omega arith;
        numbers = λ h. let x = sum_at (weigh h) s.views id v b at in let y = sum_at (weigh h) vs other w spent_view there in let z = sum_by-append h v.numbers w.numbers in let d = r.numbers h in omega arith;
        each = each_set vs other spent_view (each_set s.views id b r.each record {
          idle = λ z. absurd (omega arith);
          items_are = λ _. mine.items_are live;
          workers_are = λ _. mine.workers_are live;
          ends = let z = sum_by-append (past (length items)) v.numbers w.numbers in let x = mine.ends in let y = theirs.ends in omega arith;
        })
            nobody;
      }

  pub looks : (slots id : ℕ) (me : M) → 0 < me.0.share → Allows Rule slots id me 0 (λ n. n) (looked (step slots 0 0 0 none) me)
  looks slots id me live s r _ at _ = let k : ℕ = slice_index s.words 0 in let is : k ≡ r.drawn = ap (λ ws. slice_index ws 0) r.word_is in let mine = r.each id me.0 at in
      let same : set s.words 0 k ≡ s.words = ap (λ (ws : List ℕ). set ws 0 k) r.word_is ∙ ap (λ (x : ℕ). x ∷ []) is ∙ sym r.word_is in (
        me.0,
        keeps,
        tt,
        subst Rule (λ i. record { words = sym same i; homes = s.homes; views = sym (set_again s.views id me.0 at) i }) r,
        record {
          same = refl;
          all = λ whole h. all_of s r id me.0 at (whole ∙ mine.workers_are live) h ∙ ap (λ (x : ℕ). sum_by h (upto x)) (sym is);
        },
      )

  starts : 1 ≤ workers → workers ≤ 64 → length items ≤ 2 ^ 62 → Rule (opening (0 ∷ []) (map Some items) (hand workers [] items workers))
  unfolding upto
  starts least most short = record {
    drawn = 0;
    word_is = refl;
    homes_are = at_home_first items;
    short = short;
    few = most;
    shares = omega arith;
    numbers = λ h. refl;
    each = λ j u e. first j u e;
  }
    where
      first : (j : ℕ) (u : WorkerView I) → get_elem? (hand workers [] items workers ∷ []) j ≡ some u → IsWorkerView items workers u
      first zero u e = subst (IsWorkerView items workers) (mathlib.Core.Option.some-injective _ _ e) record { idle = λ _. refl; items_are = λ _. refl; workers_are = λ _. refl; ends = omega arith }
      first (suc j) u e = absurd (some-ne-none u (sym e))

  pub starts_with : (slots : List (Option I)) → slots ≡ map Some items → 1 ≤ workers → workers ≤ 64 → length items ≤ 2 ^ 62 → Rule (opening (0 ∷ []) slots (hand workers [] items workers))
  starts_with slots are least most short = subst (λ (xs : List (Option I)). Rule (opening (0 ∷ []) xs (hand workers [] items workers))) (sym are) (starts least most short)
