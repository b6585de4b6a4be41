-- The steps of a build, over plain variables.
use Rattle.std.proofs.Common.{◌≡◌, ℕ, suc, ◌++◌, ◌<◌, ◌≤◌, ◌+◌, List, [], ◌∷◌, Option, Some, Bool, true, false, refl, sym, ap, ◌∙◌, subst, All, Contains, arith, inl, inr, take, drop, get_or, length, slice_index_or, IsTrue, ◌↔◌}
use Rattle.std.proofs.lemmas.List.{take_more, take_all}
use Rattle.std.proofs.lemmas.List.Elements.{Contains-push_cases, All-push, All-more, All-get_or, All-contains, All-nil, All-cons, All-head, All-tail, All-contains_itself}
use Rattle.std.proofs.Math.Seq.{split_at}
use Rattle.build_base.specs.Outside.{Files}
use Rattle.build_base.specs.World.{World}
use Rattle.step_engine.specs.Reading.{IsRead, IsReadOk}
use Rattle.step_engine.specs.Meaning.{Meaning, asks_of, right, AreRight, Follows, IsSmall, ArePairsSmall}
use Rattle.step_engine.specs.Entries.{IsSound, IsValid}
use Rattle.step_engine.specs.Needed.{IsNeededBy}
use Rattle.step_engine.specs.Needed.IsNeededBy.{asked}
use Rattle.step_engine.specs.Turns.{AreLawful}
use Rattle.step_engine.specs.Build.{Setting, setting, IsHere, IsEntryOf}
use Rattle.step_engine.specs.Agreeing.{IsPartAnswer, HaveParts, HasTalkParts}
use Rattle.step_engine.specs.Engine.{State, AreKept, IsKnown, Adds, Moves, IsNext, IsPathAsked, Grows, IsAnswered, AreAnswered, IsCheckedBatch}
use Rattle.step_engine.specs.Loops.{IsUnderWay, IsAnswering, IsCheckingBatch, IsChecking, IsRunning}
use Rattle.step_engine.proofs.Talks.{follows_front, follows_push, next_asked}
use Rattle.step_engine.proofs.Moves.{none_in, one_in, added_none, moves_none, moves_then, adds_then, needed_itself}
use Rattle.step_engine.proofs.AgreeLemmas.{parts_grow, parts_push}
use Rattle.step_engine.specs.declared.talk.Ask.{Ask}
use Rattle.step_engine.specs.declared.talk.Ask.TheVariants as ask
use Rattle.step_engine.specs.declared.talk.Answer.{Answer}
use Rattle.step_engine.specs.declared.talk.Answer.TheVariants as answer
use Rattle.step_engine.specs.declared.talk.Outcome.{Outcome}
use Rattle.step_engine.specs.declared.talk.Pair.{Pair}
use Rattle.step_engine.specs.declared.talk.Batch.{Batch}
use Rattle.step_engine.specs.declared.talk.Entry.{Entry}

-- the setting, with what the tree tells later
abbrev pub at_held : {K O : Type 0} → Setting K O → Option Files → Setting K O
at_held s h = setting s.means h s.job s.old

-- the asks of a batch have the ask, and are next
abbrev AskedNext : {K O : Type 0} → Meaning K O → World → K → Ask K → Type 0
AskedNext {K} m w k a = (asks : List (Ask K)) × Contains asks a × IsNext m w k asks

pub part_asked : {K O : Type 0} (m : Meaning K O) (law : AreLawful m) (w : World) (k : K) (a : Ask K) (part : K) → AskedNext m w k a → a ≡ ask.Part part → IsNeededBy m w (k ∷ []) part
part_asked {K} m law w k a part n e = asked (needed_itself m w k) (next_asked m law w k n.0 (ask.Part part) n.2 (subst (λ (a : Ask K). Contains n.0 a) e n.1))

pub file_asked : {K O : Type 0} (m : Meaning K O) (law : AreLawful m) (w : World) (k : K) (a : Ask K) (p : List ℕ) → AskedNext m w k a → a ≡ ask.File p → IsPathAsked m w (k ∷ []) p
file_asked {K} m law w k a p n e = (k, needed_itself m w k, next_asked m law w k n.0 (ask.File p) n.2 (subst (λ (a : Ask K). Contains n.0 a) e n.1))

pub here_back : {K O : Type 0} (s : Setting K O) (k : K) (h1 : (Option Files)) (c0 c1 : ℕ) (x y : State K O) → IsUnderWay s k h1 c0 c1 x y → (w : World) → IsHere (at_held s h1) w → IsHere s w
here_back s k h1 c0 c1 x y way w i = subst (λ h. IsHere (at_held s h) w) way.held_is i

pub here_on : {K O : Type 0} (s : Setting K O) (k : K) (h1 : (Option Files)) (c0 c1 : ℕ) (x y : State K O) → IsUnderWay s k h1 c0 c1 x y → (w : World) → IsHere s w → IsHere (at_held s h1) w
here_on s k h1 c0 c1 x y way w i = subst (λ h. IsHere (at_held s h) w) (sym way.held_is) i

module _ {K O : Type 0} (s : Setting K O) (k : K) (h1 : Option Files) (c0 c1 : ℕ) (x y z : State K O) (way : IsUnderWay s k h1 c0 c1 x y) where
  pub way_moves : Moves (at_held s h1) k y z → Moves s k x z
  way_moves m = moves_then s k x y z way.moves (subst (λ h. Moves (at_held s h) k y z) way.held_is m)

  pub way_adds : Adds (at_held s h1) k y z → Adds s k x z
  way_adds a = adds_then s k x y z way.moves (subst (λ h. Adds (at_held s h) k y z) way.held_is a)

  pub way_more : (h2 : Option Files) (c2 : ℕ) → Moves (at_held s h1) k y z → AreKept (at_held s h1) z → h2 ≡ h1 → c2 ≡ c1 → IsUnderWay s k h2 c0 c2 x z
  way_more h2 c2 m q e d = record {
    held_is = e ∙ way.held_is;
    count = d ∙ way.count;
    moves = way_moves m;
    kept = subst (λ h. AreKept (at_held s h) z) way.held_is q;
  }

pub way_none : {K O : Type 0} (s : Setting K O) (k : K) (c : ℕ) (x : State K O) → AreKept s x → IsUnderWay s k s.held c c x x
way_none s k c x q = record { held_is = refl; count = refl; moves = moves_none s k x; kept = q }

-- a field
pub answered_field : {K O : Type 0} (s : Setting K O) (k : K) (i : ℕ) (x : State K O) (text : List ℕ) → AreKept s x → text ≡ slice_index_or s.job i [] → IsAnswered s k (ask.Field i) x x (answer.Field text)
answered_field {K} {O} s k i x text q e = record {
  moves = moves_none s k x;
  kept = q;
  right = λ w h. ap answer.Field (e ∙ ap (λ (f : List (List ℕ)). slice_index_or f i []) (sym h.fields));
  small = tt;
  parts = λ part f. cc;
}

-- a part
pub answered_part : {K O : Type 0} (s : Setting K O) (k part : K) (x y : State K O) (r : Outcome O) → Moves s k x y → AreKept s y → IsEntryOf part r y.fresh → IsAnswered s k (ask.Part part) x y (answer.Part r)
answered_part {K} {O} s k part x y r moves q f =
    let e = f.0 in
    record {
      moves = moves;
      kept = q;
      right = λ w h.
          let sound : IsSound s.means e = All-contains (IsSound s.means) y.fresh e (q.sound h.sound) f.1 in
          let valid : IsValid s.means w e = All-contains (IsValid s.means w) y.fresh e (q.right w h) f.1 in
          ap answer.Part (sym f.3 ∙ (sym (sound.value w h.world valid) ∙ ap (λ (k : K). s.means.value k w) f.2));
      small = tt;
      parts = λ p h. (let same : part ≡ p = cc in subst (λ p. IsPartAnswer y.fresh p (answer.Part r)) same (r, f, refl));
    }

-- a file
pub adds_read : {K O : Type 0} (s : Setting K O) (k : K) (p : List ℕ) (x y : State K O) → ((w : World) → IsHere s w → IsPathAsked s.means w (k ∷ []) p) → IsRead p x.learned.files x.reads y.reads → Adds s k x y
adds_read s k p x y n (inl l) = record {
  added = [];
  is = l ∙ added_none x.reads;
  distinct = tt;
  is_new = λ q h _. none_in q h;
  asked = λ w i q h. absurd (none_in q h);
}
adds_read s k p x y n (inr l) = record {
  added = p ∷ [];
  is = l.0;
  distinct = (none_in p, tt);
  is_new = λ q h o. l.1 (subst (IsKnown x.learned.files) (sym (one_in q p h)) o);
  asked = λ w i q h. subst (IsPathAsked s.means w (k ∷ [])) (one_in q p h) (n w i);
}

path_read : {K O : Type 0} (s : Setting K O) (k : K) (p : List ℕ) (x y : State K O) (n : (w : World) → IsHere s w → IsPathAsked s.means w (k ∷ []) p) (r : IsRead p x.learned.files x.reads y.reads) → IsKnown y.learned.files p → (q : List ℕ) → Contains (adds_read s k p x y n r).added q → IsKnown y.learned.files q
unfolding adds_read
path_read s k p x y n (inl l) has q h = absurd (none_in q h)
path_read s k p x y n (inr l) has q h = subst (IsKnown y.learned.files) (one_in q p h) has

pub answered_file : {K O : Type 0} (s : Setting K O) (k : K) (p : List ℕ) (x y : State K O) (a : Answer O) → y.fresh ≡ x.fresh → ((w : World) → IsHere s w → IsPathAsked s.means w (k ∷ []) p) → IsRead p x.learned.files x.reads y.reads → AreKept s x → y.learned.compared ≡ x.learned.compared → IsReadOk p s.held x.learned.files y.learned.files a → IsAnswered s k (ask.File p) x y a
unfolding adds_read
answered_file {K} {O} s k p x y a f n r q c o = record {
  moves = record {
    adds = adds_read s k p x y n r;
    read = path_read s k p x y n r o.has;
    grows = λ d h. rw f h;
    grows_files = o.grows;
  };
  kept = record {
    sound = λ old. rw f (q.sound old);
    right = λ w i. rw f (q.right w i);
    closed = rw f q.closed;
    known = o.known;
    within = o.within;
    compared = rw (f, c) q.compared;
  };
  right = λ w i. o.right w.files i.told;
  small = o.small;
  parts = λ part g. cc;
}

pub take_one : {A : Type 0} (xs : List A) (i : ℕ) (a : A) → i < length xs → a ≡ get_or xs i a → take (i + 1) xs ≡ take i xs ++ a ∷ []
take_one {A} xs i a l e = take_more xs i a l ∙ ap (λ (b : A). take i xs ++ b ∷ []) (sym e)

-- one more answer
pub answering_none : {K O : Type 0} (s : Setting K O) (asks : List (Ask K)) (y : State K O) → IsAnswering s asks 0 y []
answering_none {K} {O} s asks y = record {
  asks_are = refl;
  right = λ w i. All-nil (λ (p : Pair K O). p.answer ≡ right s.means w p.ask);
  small = All-nil (λ (p : Pair K O). IsSmall p.answer);
  parts = λ part p h. absurd (none_in p h);
}

asks_push : {K O : Type 0} (ps : List (Pair K O)) (p : Pair K O) → asks_of (ps ++ p ∷ []) ≡ asks_of ps ++ p.ask ∷ []
asks_push [] p = refl
asks_push (q ∷ ps) p = ap (λ l. q.ask ∷ l) (asks_push ps p)

pub answering_more : {K O : Type 0} (s : Setting K O) (asks : List (Ask K)) (i : ℕ) (y z : State K O) (pairs : List (Pair K O)) (a : Ask K) (r : Answer O) → IsAnswering s asks i y pairs → i < length asks → a ≡ get_or asks i a → Grows y.fresh z.fresh → ((w : World) → IsHere s w → r ≡ right s.means w a) → IsSmall r → ((part : K) → a ≡ ask.Part part → IsPartAnswer z.fresh part r) → IsAnswering s asks (i + 1) z (pairs ++ record { ask = a; answer = r } ∷ [])
answering_more {K} {O} s asks i y z pairs a r n l e grows t small parts =
    let p : Pair K O = record { ask = a; answer = r } in
    let more : take (i + 1) asks ≡ take i asks ++ a ∷ [] = take_one asks i a l e in
    record {
      asks_are = asks_push pairs p ∙ (ap (λ (l : List (Ask K)). l ++ a ∷ []) n.asks_are ∙ sym more);
      right = λ w h. All-push (λ (p : Pair K O). p.answer ≡ right s.means w p.ask) pairs p (n.right w h) (t w h);
      small = All-push (λ (p : Pair K O). IsSmall p.answer) pairs p n.small small;
      parts = parts_push y.fresh z.fresh pairs p grows n.parts parts;
    }

-- one more pair is checked
pub checking_batch_none : {K O : Type 0} (s : Setting K O) (pairs : List (Pair K O)) (y : State K O) → IsCheckingBatch s pairs 0 y true
checking_batch_none {K} {O} s pairs y = record {
  right = λ e w i. All-nil (λ (p : Pair K O). p.answer ≡ right s.means w p.ask);
  parts = λ e part p h. absurd (none_in p h);
  wrong = λ e. cc;
}

pub checking_batch_same : {K O : Type 0} (s : Setting K O) (k : K) (pairs : List (Pair K O)) (i : ℕ) (x y z : State K O) (p : Pair K O) (r : Answer O) (b : Bool) → IsCheckingBatch s pairs i y b → i < length pairs → p ≡ get_or pairs i p → Grows y.fresh z.fresh → ((w : World) → IsHere s w → r ≡ right s.means w p.ask) → ((part : K) → p.ask ≡ ask.Part part → IsPartAnswer z.fresh part r) → r ≡ p.answer → IsCheckingBatch s pairs (i + 1) z b
checking_batch_same {K} {O} s k pairs i x y z p r b n l e grows t parts same = record {
  right = λ f w h.
      let P : Pair K O → Type 0 = λ p. p.answer ≡ right s.means w p.ask in
      let here : P p = sym same ∙ t w h in
      All-more P pairs i p l (n.right f w h) (subst P e here);
  parts = λ f. rw (take_one pairs i p l e) (parts_push y.fresh z.fresh (take i pairs) p grows (n.parts f) (λ part h. subst (IsPartAnswer z.fresh part) same (parts part h)));
  wrong = n.wrong;
}

pub checking_batch_other : {K O : Type 0} (s : Setting K O) (k : K) (pairs : List (Pair K O)) (i : ℕ) (x y z : State K O) (p : Pair K O) (r : Answer O) (b : Bool) → IsCheckingBatch s pairs i y b → i < length pairs → p ≡ get_or pairs i p → Grows y.fresh z.fresh → ((w : World) → IsHere s w → r ≡ right s.means w p.ask) → (r ≡ p.answer → ⊥) → IsCheckingBatch s pairs (i + 1) z false
checking_batch_other {K} {O} s k pairs i x y z p r b n l e grows t other = record {
  right = λ f. cc;
  parts = λ f. cc;
  wrong = λ f w h a.
      let P : Pair K O → Type 0 = λ p. p.answer ≡ right s.means w p.ask in
      let here : P p = subst P (sym e) (All-get_or P pairs i p l a) in
      other (t w h ∙ sym here);
}

-- one more batch is checked
pub checking_none : {K O : Type 0} (s : Setting K O) (talk : List (Batch K O)) (y : State K O) → IsChecking s talk 0 y
checking_none {K} {O} s talk y = record {
  right = λ w i. All-nil (λ (b : Batch K O). AreRight s.means w b.pairs);
  parts = λ b h. absurd (none_in b h);
}

pub has_parts_push : {K O : Type 0} (fresh fresh' : List (Entry K O)) (talk : List (Batch K O)) (b : Batch K O) → Grows fresh fresh' → HasTalkParts fresh talk → HaveParts fresh' b.pairs → HasTalkParts fresh' (talk ++ b ∷ [])
has_parts_push {K} {O} fresh fresh' talk b grows h g c d = elim (Contains-push_cases talk b c d) as (λ _. HaveParts fresh' c.pairs) [
  | inl l ↦ parts_grow fresh fresh' talk grows h c l
  | inr r ↦ subst (λ (b : Batch K O). HaveParts fresh' b.pairs) r g
]

pub checking_more : {K O : Type 0} (s : Setting K O) (talk : List (Batch K O)) (i : ℕ) (y z : State K O) (b : Batch K O) → IsChecking s talk i y → i < length talk → b ≡ get_or talk i b → Grows y.fresh z.fresh → ((w : World) → IsHere s w → AreRight s.means w b.pairs) → HaveParts z.fresh b.pairs → IsChecking s talk (i + 1) z
checking_more {K} {O} s talk i y z b n l e grows t parts =
    let P : World → Batch K O → Type 0 = λ w b. AreRight s.means w b.pairs in
    let more : take (i + 1) talk ≡ take i talk ++ b ∷ [] = take_one talk i b l e in
    record {
      right = λ w h. All-more (P w) talk i b l (n.right w h) (subst (P w) e (t w h));
      parts = rw more (has_parts_push y.fresh z.fresh (take i talk) b grows n.parts parts);
    }

-- the next asks of a sound entry of which a front was checked
pub checking_next : {K O : Type 0} (s : Setting K O) (e : Entry K O) (i : ℕ) (y : State K O) (b : Batch K O) → Contains s.old e → IsChecking s e.talk.batches i y → i < length e.talk.batches → b ≡ get_or e.talk.batches i b → (w : World) → IsHere s w → IsNext s.means w e.key (asks_of b.pairs)
checking_next {K} {O} s e i y b o n l g w h =
    let talk = e.talk.batches in
    let sound : IsSound s.means e = All-contains (IsSound s.means) s.old e h.sound o in
    let cut : talk ≡ take i talk ++ b ∷ drop (suc i) talk = split_at talk i b l ∙ ap (λ (c : Batch K O). take i talk ++ c ∷ drop (suc i) talk) (sym g) in
    let f : Follows s.means e.key (take i talk ++ b ∷ drop (suc i) talk) = subst (Follows s.means e.key) cut sound.follows in
    let front = follows_front s.means e.key (take i talk) (drop (suc i) talk) b f in
    record { talk = take i talk; follows = front.0; right = n.right w h; next = front.1 }

pub item_in : {A : Type 0} (xs ys : List A) (i : ℕ) (a : A) → xs ≡ ys → i < length xs → a ≡ get_or xs i a → Contains ys a
item_in {A} xs ys i a e l g = subst (λ (ys : List A). Contains ys a) e (i, l, sym g)

pub take_whole : {A : Type 0} (xs : List A) (i : ℕ) → length xs ≤ i → take i xs ≡ xs
take_whole xs i l = grind (arith, take_all)

pub answering_all : {K O : Type 0} (s : Setting K O) (k : K) (h1 : (Option Files)) (c0 c1 : ℕ) (x y : State K O) (items asks : List (Ask K)) (i : ℕ) (pairs : List (Pair K O)) → IsUnderWay s k h1 c0 c1 x y → IsAnswering s items i y pairs → items ≡ asks → length items ≤ i → AreAnswered s k asks x y pairs
answering_all {K} s k h1 c0 c1 x y items asks i pairs way n e l = record {
  moves = way.moves;
  kept = way.kept;
  asks_are = n.asks_are ∙ (take_whole items i l ∙ e);
  right = n.right;
  small = n.small;
  parts = n.parts;
}

pub checking_batch_all : {K O : Type 0} (s : Setting K O) (k : K) (h1 : (Option Files)) (c0 c1 : ℕ) (x y : State K O) (items pairs : List (Pair K O)) (i : ℕ) (r : Bool) → IsUnderWay s k h1 c0 c1 x y → IsCheckingBatch s items i y r → items ≡ pairs → length items ≤ i → IsCheckedBatch s k pairs x y r
checking_batch_all {K} {O} s k h1 c0 c1 x y items pairs i r way n e l =
    let whole : take i items ≡ pairs = take_whole items i l ∙ e in
    record {
      moves = way.moves;
      kept = way.kept;
      right = λ f w h. subst (AreRight s.means w) whole (n.right f w h);
      parts = λ f. subst (HaveParts y.fresh) whole (n.parts f);
      wrong = λ f w h a. n.wrong f w h (subst (AreRight s.means w) (sym e) a);
    }

All-from_map : {K O : Type 0} (asks : List (Ask K)) (ps : List (Pair K O)) → All (Contains asks) (asks_of ps) → All (λ (q : Pair K O). Contains asks q.ask) ps
All-from_map {K} {O} asks [] h = All-nil (λ (q : Pair K O). Contains asks q.ask)
All-from_map {K} {O} asks (p ∷ ps) h = All-cons (λ (q : Pair K O). Contains asks q.ask) p ps (All-head (Contains asks) p.ask (asks_of ps) h) (All-from_map asks ps (All-tail (Contains asks) p.ask (asks_of ps) h))

All-asks : {K O : Type 0} (ps : List (Pair K O)) → All (λ (q : Pair K O). Contains (asks_of ps) q.ask) ps
All-asks {K} {O} ps = All-from_map (asks_of ps) ps (All-contains_itself (asks_of ps))

pub asks_have : {K O : Type 0} (ps : List (Pair K O)) (p : Pair K O) → Contains ps p → Contains (asks_of ps) p.ask
asks_have {K} {O} ps p h =
    let P : Pair K O → Type 0 = λ q. Contains (asks_of ps) q.ask in
    All-contains P ps p (All-asks ps) h

-- an ask that isn't of lower rank
pub checking_batch_high : {K O : Type 0} (s : Setting K O) (law : AreLawful s.means) (k part : K) (h1 : (Option Files)) (c0 c1 : ℕ) (x y : State K O) (items pairs : List (Pair K O)) (i : ℕ) (p : Pair K O) → IsUnderWay s k h1 c0 c1 x y → items ≡ pairs → i < length items → p ≡ get_or items i p → p.ask ≡ ask.Part part → s.means.rank k ≤ s.means.rank part → ((w : World) → IsHere s w → IsNext s.means w k (asks_of pairs)) → IsCheckedBatch s k pairs x y false
checking_batch_high {K} {O} s law k part h1 c0 c1 x y items pairs i p way e l g q high next = record {
  moves = way.moves;
  kept = way.kept;
  right = λ f. cc;
  parts = λ f. cc;
  wrong = λ f w h a.
      let n = next w h in
      let c : Contains (asks_of pairs) (ask.Part part) = subst (λ (a : Ask K). Contains (asks_of pairs) a) q (asks_have pairs p (item_in items pairs i p e l g)) in
      absurd (omega (arith, law.lower k part n.talk (asks_of pairs) n.next c, high));
}

-- a run
pub running_none : {K O : Type 0} (s : Setting K O) (k : K) (y : State K O) → IsRunning s k y []
running_none {K} {O} s k y = record {
  follows = tt;
  right = λ w i. All-nil (λ (b : Batch K O). AreRight s.means w b.pairs);
  small = All-nil (λ (b : Batch K O). ArePairsSmall b.pairs);
  parts = λ b h. absurd (none_in b h);
}

pub running_next : {K O : Type 0} (s : Setting K O) (k : K) (y : State K O) (talk : List (Batch K O)) (asks : List (Ask K)) → IsRunning s k y talk → s.means.next k talk ≡ Some asks → (w : World) → IsHere s w → IsNext s.means w k asks
running_next s k y talk asks n e w h = record { talk = talk; follows = n.follows; right = n.right w h; next = e }

pub running_more : {K O : Type 0} (s : Setting K O) (k : K) (y z : State K O) (talk : List (Batch K O)) (pairs : List (Pair K O)) (asks : List (Ask K)) → IsRunning s k y talk → s.means.next k talk ≡ Some asks → asks_of pairs ≡ asks → Grows y.fresh z.fresh → ((w : World) → IsHere s w → AreRight s.means w pairs) → ArePairsSmall pairs → HaveParts z.fresh pairs → IsRunning s k z (talk ++ record { pairs = pairs } ∷ [])
running_more {K} {O} s k y z talk pairs asks n e is grows t small parts =
    let b : Batch K O = record { pairs = pairs } in
    record {
      follows = follows_push s.means k talk b n.follows (e ∙ ap Some (sym is));
      right = λ w h. All-push (λ (b : Batch K O). AreRight s.means w b.pairs) talk b (n.right w h) (t w h);
      small = All-push (λ (b : Batch K O). ArePairsSmall b.pairs) talk b n.small small;
      parts = has_parts_push y.fresh z.fresh talk b grows n.parts parts;
    }

pub checking_batch_step : {K O : Type 0} (s : Setting K O) (k : K) (pairs : List (Pair K O)) (i : ℕ) (x y z : State K O) (p : Pair K O) (r : Answer O) (b c same : Bool) → IsCheckingBatch s pairs i y b → i < length pairs → p ≡ get_or pairs i p → Grows y.fresh z.fresh → ((w : World) → IsHere s w → r ≡ right s.means w p.ask) → ((part : K) → p.ask ≡ ask.Part part → IsPartAnswer z.fresh part r) → (IsTrue same ↔ (r ≡ p.answer)) → (same ≡ true → c ≡ b) → (same ≡ false → c ≡ false) → IsCheckingBatch s pairs (i + 1) z c
checking_batch_step s k pairs i x y z p r b c true n l e grows t parts d same_right other_right = rw (same_right refl) (checking_batch_same s k pairs i x y z p r b n l e grows t parts (d.0 refl))
checking_batch_step s k pairs i x y z p r b c false n l e grows t parts d same_right other_right = rw (other_right refl) (checking_batch_other s k pairs i x y z p r b n l e grows t (λ q. let h = d.1 q in cc))
