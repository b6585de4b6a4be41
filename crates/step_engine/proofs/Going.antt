-- Each act of a build keeps what holds between its calls, whatever comes before and after it.
use Rattle.std.proofs.Common.{◌≡◌, ℕ, ◌++◌, List, [], ◌∷◌, Option, Some, None, refl, sym, ap, ◌∙◌, subst, append_assoc, append-nil, Contains, inl, inr, ◌⊎◌, length}
use Rattle.std.proofs.lemmas.List.Elements.{Contains-push_cases, Contains-append_cases, Contains-append_left, All-push, All-weaker}
use Rattle.build_base.specs.World.{World}
use Rattle.step_engine.specs.Entries.{IsSound, AreSound, IsValid}
use Rattle.step_engine.specs.Needed.{IsNeeded, IsStale}
use Rattle.step_engine.specs.Build.{Setting, IsHere, HasRead, added_to}
use Rattle.step_engine.specs.Engine.{State, state, Knowledge, AreKept, IsKnown, IsPathAsked, IsFrom, Grows, Adds, Moves}
use Rattle.step_engine.specs.Agreeing.{HasTalkParts}
use Rattle.step_engine.proofs.AgreeLemmas.{parts_grow, compared_grows}
use Rattle.step_engine.proofs.Moves.{none_in, one_in, added_none, added_twice, distinct_append, known_grows, asked_through, needs_one}
use Rattle.step_engine.specs.declared.talk.Entry.{Entry}
use Rattle.step_engine.specs.Table.{Known, IsPlaced, IsDone, IsStarted}
use Rattle.step_engine.specs.Rounds.{IsWanted, AreNoted, IsGoing}
use Rattle.step_engine.specs.declared.places.Place.TheVariants.{Checking, Running, Done}
use Rattle.step_engine.proofs.TableLemmas.{table_checking, table_running, table_done, get_in}

abbrev pub pushing : {K O : Type 0} → Entry K O → State K O → State K O
pushing e y = state (y.fresh ++ e ∷ []) y.learned y.ran y.reads

abbrev pub granting : {K O : Type 0} → K → State K O → State K O
granting k y = state y.fresh y.learned (y.ran ++ k ∷ []) y.reads

-- the reads alone: the state without the entries and the book
abbrev pub reading : {K O : Type 0} → State K O → State K O
reading y = state y.fresh y.learned [] y.reads

-- a build begins
pub going_none : {K O : Type 0} (s : Setting K O) (top : K) (x : State K O) (t : Known K) → x.fresh ≡ [] → ((k : K) → t k ≡ None) → IsGoing s top x x t
going_none {K} {O} s top x t none blank =
    let out : (e : Entry K O) → Contains x.fresh e → ⊥ = λ e h. none_in e (subst (λ (xs : List (Entry K O)). Contains xs e) none h) in
    record {
      added = [];
      is = sym (append-nil x.ran);
      distinct = tt;
      step = λ w i k h. absurd (none_in k h);
      paths = [];
      reads = added_none x.reads;
      paths_distinct = tt;
      paths_known = λ p h. absurd (none_in p h);
      asked = λ w i p h. absurd (none_in p h);
      needed = λ w i e h. absurd (out e h);
      from = λ w i e h. absurd (out e h);
      sources = λ e h. absurd (out e h);
      table = record {
        one = λ i e h. absurd (out e (get_in x.fresh i e h));
        started = λ k h. absurd (none_in k h);
        running = λ k h. absurd (let a : None ≡ Some Running = sym (blank k) ∙ h in cc);
        finds = λ k i h. absurd (let a : None ≡ Some (Done i) = sym (blank k) ∙ h in cc);
      };
    }

-- what holds of the book and the reads
pub going_noted : {K O : Type 0} (s : Setting K O) (top : K) (x y : State K O) (t : Known K) → IsGoing s top x y t → AreNoted s top x y
going_noted s top x y t g = record {
  ran = (g.added, g.is, g.distinct, λ w i k h. (let q = g.step w i k h in record { needed = q.0; stale = q.1 }));
  read = (g.paths, g.reads, g.paths_distinct, g.asked);
}

module _ {K O : Type 0} (s : Setting K O) (top : K) (x y : State K O) (t u : Known K) (g : IsGoing s top x y t) where
  -- an old entry is checked
  pub going_checking : (k : K) → (IsStarted (t k) → ⊥) → IsPlaced k Checking t u → IsGoing s top x y u
  going_checking k idle p = record {
    added = g.added;
    is = g.is;
    distinct = g.distinct;
    step = g.step;
    paths = g.paths;
    reads = g.reads;
    paths_distinct = g.paths_distinct;
    paths_known = g.paths_known;
    asked = g.asked;
    needed = g.needed;
    from = g.from;
    sources = g.sources;
    table = table_checking t u k g.added y.fresh idle p g.table;
  }

  -- a permit is granted
  pub going_granted : (k : K) → (IsStarted (t k) → ⊥) → IsPlaced k Running t u → IsWanted s top k → ((w : World) → IsHere s w → IsStale s.means w s.old k) → IsGoing s top x (granting k y) u
  going_granted k idle p wanted stale = record {
    added = g.added ++ k ∷ [];
    is = ap (λ r. r ++ k ∷ []) g.is ∙ append_assoc x.ran g.added (k ∷ []);
    distinct = distinct_append g.added (k ∷ []) g.distinct (none_in k, tt) (λ j l r. idle (subst (λ j. IsStarted (t j)) (sym (one_in j k r)) (g.table.started j l)));
    step = λ w i j h. (elim (Contains-push_cases g.added k j h) as (λ _. IsNeeded s.means w top j × IsStale s.means w s.old j) [
      | inl l ↦ g.step w i j l
      | inr e ↦ subst (λ j. IsNeeded s.means w top j × IsStale s.means w s.old j) e (wanted w i, stale w i)
    ]);
    paths = g.paths;
    reads = g.reads;
    paths_distinct = g.paths_distinct;
    paths_known = g.paths_known;
    asked = g.asked;
    needed = g.needed;
    from = λ w i e h. (elim (g.from w i e h) as (λ _. IsFrom s w (g.added ++ k ∷ []) e.key) [ inl l ↦ inl (Contains-append_left g.added (k ∷ []) e.key l) | inr r ↦ inr r ]);
    sources = λ e h. (elim (g.sources e h) as (λ _. Contains (g.added ++ k ∷ []) e.key ⊎ Contains s.old e) [ inl l ↦ inl (Contains-append_left g.added (k ∷ []) e.key l) | inr r ↦ inr r ]);
    table = table_running t u k g.added y.fresh idle p g.table;
  }

  -- an entry is made
  going_made : (e : Entry K O) → (IsDone (t e.key) → ⊥) → IsPlaced e.key (Done (length y.fresh)) t u → IsWanted s top e.key → ((w : World) → IsHere s w → IsFrom s w g.added e.key) → Contains g.added e.key ⊎ Contains s.old e → IsGoing s top x (pushing e y) u
  going_made e out p wanted from source = record {
    added = g.added;
    is = g.is;
    distinct = g.distinct;
    step = g.step;
    paths = g.paths;
    reads = g.reads;
    paths_distinct = g.paths_distinct;
    paths_known = g.paths_known;
    asked = g.asked;
    needed = λ w i d h. (elim (Contains-push_cases y.fresh e d h) as (λ _. IsNeeded s.means w top d.key) [
      | inl l ↦ g.needed w i d l
      | inr q ↦ subst (λ (d : Entry K O). IsNeeded s.means w top d.key) q (wanted w i)
    ]);
    from = λ w i d h. (elim (Contains-push_cases y.fresh e d h) as (λ _. IsFrom s w g.added d.key) [
      | inl l ↦ g.from w i d l
      | inr q ↦ subst (λ (d : Entry K O). IsFrom s w g.added d.key) q (from w i)
    ]);
    sources = λ d h. (elim (Contains-push_cases y.fresh e d h) as (λ _. Contains g.added d.key ⊎ Contains s.old d) [
      | inl l ↦ g.sources d l
      | inr q ↦ subst (λ (d : Entry K O). Contains g.added d.key ⊎ Contains s.old d) q source
    ]);
    table = table_done t u e g.added y.fresh out p g.table;
  }

  -- the entry of a key that ran
  pub going_ran : (e : Entry K O) → IsPlaced e.key (Done (length y.fresh)) t u → IsWanted s top e.key → t e.key ≡ Some Running → IsGoing s top x (pushing e y) u
  going_ran e p wanted here = going_made e (λ d. absurd (let a : Some Running ≡ Some (Done d.0) = sym here ∙ d.1 in cc)) p wanted (λ w i. inl (g.table.running e.key here)) (inl (g.table.running e.key here))

  -- an old entry that is valid
  pub going_reused : (e : Entry K O) → IsPlaced e.key (Done (length y.fresh)) t u → IsWanted s top e.key → t e.key ≡ Some Checking → Contains s.old e → ((w : World) → IsHere s w → IsValid s.means w e) → IsGoing s top x (pushing e y) u
  going_reused e p wanted here old valid = going_made e (λ d. absurd (let a : Some Checking ≡ Some (Done d.0) = sym here ∙ d.1 in cc)) p wanted (λ w i. inr (e, old, refl, valid w i)) (inr old)

-- files were read for a key that is needed
module _ {K O : Type 0} (s : Setting K O) (top k : K) (x y : State K O) (t : Known K) (g : IsGoing s top x y t) (wanted : IsWanted s top k) (learned : Knowledge K) (reads : Option (List (List ℕ))) where
  paths_more : Adds s k (reading y) (state y.fresh learned [] reads) → (HasRead s top x.reads reads)
  paths_more b = (
    g.paths ++ b.added,
    b.is ∙ (ap (λ r. added_to r b.added) g.reads ∙ added_twice x.reads g.paths b.added),
    distinct_append g.paths b.added g.paths_distinct b.distinct (λ p l r. b.is_new p r (g.paths_known p l)),
    λ w i p h. (elim (Contains-append_cases g.paths b.added p h) as (λ _. IsPathAsked s.means w (top ∷ []) p) [
      | inl l ↦ g.asked w i p l
      | inr r ↦ asked_through s.means w (top ∷ []) (k ∷ []) p (needs_one s.means w (top ∷ []) k (wanted w i)) (b.asked w i p r)
    ]),
  )

  pub noted_read : Adds s k (reading y) (state y.fresh learned [] reads) → AreNoted s top x (state y.fresh learned y.ran reads)
  noted_read b = record { ran = (let n = going_noted s top x y t g in n.ran); read = paths_more b }

  pub going_read : Moves s k (reading y) (state y.fresh learned [] reads) → IsGoing s top x (state y.fresh learned y.ran reads) t
  going_read m =
      let b = m.adds in
      record {
        added = g.added;
        is = g.is;
        distinct = g.distinct;
        step = g.step;
        paths = g.paths ++ b.added;
        reads = b.is ∙ (ap (λ r. added_to r b.added) g.reads ∙ added_twice x.reads g.paths b.added);
        paths_distinct = distinct_append g.paths b.added g.paths_distinct b.distinct (λ p l r. b.is_new p r (g.paths_known p l));
        paths_known = λ p h. (elim (Contains-append_cases g.paths b.added p h) as (λ _. IsKnown learned.files p) [
          | inl l ↦ known_grows y.learned.files learned.files p m.grows_files (g.paths_known p l)
          | inr q ↦ m.read p q
        ]);
        asked = λ w i p h. (elim (Contains-append_cases g.paths b.added p h) as (λ _. IsPathAsked s.means w (top ∷ []) p) [
          | inl l ↦ g.asked w i p l
          | inr r ↦ asked_through s.means w (top ∷ []) (k ∷ []) p (needs_one s.means w (top ∷ []) k (wanted w i)) (b.asked w i p r)
        ]);
        needed = g.needed;
        from = g.from;
        sources = g.sources;
        table = g.table;
      }

-- an entry is pushed
pub kept_push : {K O : Type 0} (s : Setting K O) (e : Entry K O) (y : State K O) → AreKept s y → (AreSound s.means s.old → IsSound s.means e) → ((w : World) → IsHere s w → IsValid s.means w e) → HasTalkParts y.fresh e.talk.batches → AreKept s (pushing e y)
kept_push {K} {O} s e y q sound valid parts =
    let all = y.fresh ++ e ∷ [] in
    let P : Entry K O → Type 0 = λ e. HasTalkParts y.fresh e.talk.batches in
    let Q : Entry K O → Type 0 = λ e. HasTalkParts all e.talk.batches in
    let grows : Grows y.fresh all = λ d h. Contains-append_left y.fresh (e ∷ []) d h in
    let on : (d : Entry K O) → P d → Q d = λ d h. parts_grow y.fresh all d.talk.batches grows h in
    record {
      sound = λ o. All-push (IsSound s.means) y.fresh e (q.sound o) (sound o);
      right = λ w i. All-push (IsValid s.means w) y.fresh e (q.right w i) (valid w i);
      closed = All-push Q y.fresh e (All-weaker P Q on y.fresh q.closed) (on e parts);
      known = q.known;
      within = q.within;
      compared = compared_grows s.old y.fresh all y.learned.compared grows q.compared;
    }
