-- Keys under way that are looked at.
use Rattle.std.proofs.Common.{◌≡◌, ◌++◌, ◌⊎◌, List, [], ◌∷◌, Option, Some, None, refl, sym, ◌∙◌, subst, Contains, All, inl, inr}
use Rattle.std.proofs.lemmas.List.Elements.{All-nil, All-cons, All-weaker, All-contains, All-contains_itself, Contains-append_cases, Contains-push_cases}
use Rattle.std.specs.declared.cmp.Ordering.{Ordering}
use Rattle.build_base.specs.Outside.{Files}
use Rattle.step_engine.specs.Turns.{AreLawful}
use Rattle.step_engine.specs.Build.{Setting, IsEntryOf}
use Rattle.step_engine.specs.Engine.{State, state}
use Rattle.step_engine.specs.declared.talk.Entry.{Entry}
use Rattle.step_engine.specs.declared.talk.Outcome.{Outcome}
use Rattle.step_engine.specs.Table.{Known}
use Rattle.step_engine.specs.Rounds.{IsWanted}
use Rattle.step_engine.specs.Items.{IsItem, item_key, IsReady, AreItems, AreItemsWanted, AreWanted}
use Rattle.step_engine.specs.Taking.{IsList, ListNotes}
use Rattle.step_engine.specs.Opening.{Opens, OpensNoted}
use Rattle.step_engine.specs.Wanting.{IsAskedBy}
use Rattle.step_engine.specs.Pooling.{Holds, Parks, IsIn}
use Rattle.step_engine.specs.Scanning.{Scans, ScansNoted, ScansAll, ScansAllNoted, AreUnderWay, AreAllWanted, Readies, ReadiesNoted}
use Rattle.step_engine.specs.Settling.{IsVisited, IsBroughtTo, TopNotes, IsSettling, Begins}
use Rattle.step_engine.specs.declared.items.Item.{Item}
use Rattle.step_engine.specs.declared.items.Waiting.{Waiting}
use Rattle.step_engine.specs.declared.items.Queue.{Queue}
use Rattle.step_engine.specs.declared.pool.Pool.{Pool}
use Rattle.step_engine.proofs.Moves.{none_in, needed_itself}
use Rattle.step_engine.proofs.Steps.{at_held}
use Rattle.step_engine.proofs.Going.{going_noted}
use Rattle.step_engine.proofs.Advancing.{item_on}
use Rattle.step_engine.proofs.Listing.{items_on, list_none, list_noted, list_item, need_item}
use Rattle.step_engine.proofs.OpeningLemmas.{opens_none, opens_noted}
use Rattle.step_engine.proofs.WantingLemmas.{item_part}
use Rattle.step_engine.proofs.PoolLemmas.{holds_none, holds_push}

all_join : {A : Type 0} (P : A → Type 0) (xs ys : List A) → All P xs → All P ys → All P (xs ++ ys)
all_join P xs ys h i = All-weaker (Contains (xs ++ ys)) P (λ a c. (elim (Contains-append_cases xs ys a c) as (λ _. P a) [
  | inl l ↦ All-contains P xs a h l
  | inr r ↦ All-contains P ys a i r
])) (xs ++ ys) (All-contains_itself (xs ++ ys))

-- the premise may be another that implies it
pub list_under : {K O : Type 0} (s : Setting K O) (y z : State K O) (t u : Known K) (B C : K → Type 0) (rest : List (Item K O)) → IsList s y z t u C [] rest → ((top : K) → B top → C top) → IsList s y z t u B [] rest
list_under s y z t u B C rest l f = record {
  ready = l.ready;
  grows = l.grows;
  going = λ top x g b. l.going top x g (f top b);
  runs_are = l.runs_are;
  rest_are = l.rest_are;
  runs_wanted = λ top b. l.runs_wanted top (f top b);
  rest_wanted = λ top b. l.rest_wanted top (f top b);
}

-- one list after another
pub list_join : {K O : Type 0} (s : Setting K O) (y z v : State K O) (t u w : Known K) (B C : K → Type 0) (rest more : List (Item K O)) → IsList s y z t u B [] rest → IsList s z v u w C [] more → ((top : K) → B top → C top) → IsList s y v t w B [] (rest ++ more)
list_join {K} {O} s y z v t u w B C rest more l m f = record {
  ready = m.ready;
  grows = λ e h. m.grows e (l.grows e h);
  going = λ top x g b. m.going top x (l.going top x g b) (f top b);
  runs_are = m.runs_are;
  rest_are = all_join (λ (a : Item K O). IsItem s v a) rest more (items_on s z v rest m.grows l.rest_are) m.rest_are;
  runs_wanted = l.runs_wanted;
  rest_wanted = λ top b. all_join (λ (a : Item K O). IsWanted s top (item_key a)) rest more (l.rest_wanted top b) (m.rest_wanted top (f top b));
}

-- the parts that a needed key asks for are needed
asked_wanted : {K O : Type 0} (s : Setting K O) (law : AreLawful s.means) (top : K) (y : State K O) (a : Item K O) (parts : List K) → ((k : K) → Contains parts k → IsAskedBy k a) → IsItem s y a → IsWanted s top (item_key a) → AreWanted s top parts
asked_wanted s law top y a parts f i w = All-weaker (Contains parts) (IsWanted s top) (λ k c. item_part s law top k y a i w (f k c)) parts (All-contains_itself parts)

pub scans : {K O : Type 0} (a : Item K O) (old : List (Entry K O)) (book book' : List K) (t u : Known K) (parts : List K) (more : List (Item K O)) → ((k : K) → Contains parts k → IsAskedBy k a) → Opens parts old book t book' u more → Scans a old book t book' u more
scans a old book book' t u parts more f so s y law o e r i = list_under s y (state y.fresh y.learned book' y.reads) t u (λ top. IsWanted s top (item_key a)) (λ top. AreWanted s top parts) more (so s y o e r) (λ top w. asked_wanted s law top y a parts f i w)

pub scans_noted : {K O : Type 0} (a : Item K O) (old : List (Entry K O)) (book book' : List K) (t : Known K) (parts : List K) → ((k : K) → Contains parts k → IsAskedBy k a) → OpensNoted parts old book t book' → ScansNoted a old book t book'
scans_noted a old book book' t parts f n s y law o e r i top x g w = n s y o e r top x g (asked_wanted s law top y a parts f i w)

-- nothing was opened
pub scans_still : {K O : Type 0} (a : Item K O) (old : List (Entry K O)) (book : List K) (t : Known K) → ScansNoted a old book t book
scans_still a old book t = scans_noted a old book book t [] (λ k c. absurd (none_in k c)) (opens_noted [] old book book t t [] (opens_none [] old book t))

-- the key waits
pub scan_held : {K O : Type 0} (old new : List (Waiting K O)) (w : Waiting K O) (a : Item K O) → new ≡ old ++ w ∷ [] → Holds new a → (w.item ≡ a) ⊎ Holds old a
scan_held {K} {O} old new w a e h = holds_push old w a (subst (λ (ws : List (Waiting K O)). Holds ws a) e h)

pub scan_all_none : {K O : Type 0} (items : List (Item K O)) (old : List (Entry K O)) (book : List K) (t : Known K) → ScansAll items old book t book t []
scan_all_none items old book t s y law o e r h = rw (sym e) (list_none s y t (λ top. AreItemsWanted s top items) r)

pub scan_all_more : {K O : Type 0} (items : List (Item K O)) (old : List (Entry K O)) (book book1 book2 : List K) (t u v : Known K) (opened more after : List (Item K O)) (a : Item K O) → ScansAll items old book t book1 u opened → Contains items a → after ≡ opened ++ more → Scans a old book1 u book2 v more → ScansAll items old book t book2 v after
scan_all_more items old book book1 book2 t u v opened more after a so c is m s y law o e r h =
    let z = state y.fresh y.learned book1 y.reads in
    let l = so s y law o e r h in
    let n = m s z law o refl l.ready (list_item s y z items a l.grows h c) in
    rw is (list_join s y z (state y.fresh y.learned book2 y.reads) t u v (λ top. AreItemsWanted s top items) (λ top. IsWanted s top (item_key a)) opened more l n (need_item s items a c))

pub scan_all_noted : {K O : Type 0} (items : List (Item K O)) (old : List (Entry K O)) (book book1 : List K) (t u : Known K) (opened : List (Item K O)) → ScansAll items old book t book1 u opened → ScansAllNoted items old book t book1
scan_all_noted items old book book1 t u opened so s y law o e r h top x g w = list_noted s y (state y.fresh y.learned book1 y.reads) t u (λ top. AreItemsWanted s top items) [] opened (so s y law o e r h) top x g w

pub scan_all_refused : {K O : Type 0} (items : List (Item K O)) (old : List (Entry K O)) (book book1 book2 : List K) (t u : Known K) (opened : List (Item K O)) (a : Item K O) → ScansAll items old book t book1 u opened → Contains items a → ScansNoted a old book1 u book2 → ScansAllNoted items old book t book2
scan_all_refused items old book book1 book2 t u opened a so c n s y law o e r h top x g w =
    let z = state y.fresh y.learned book1 y.reads in
    let l = so s y law o e r h in
    n s z law o refl l.ready (list_item s y z items a l.grows h c) top x (l.going top x g w) (need_item s items a c top w)

-- one more waits
pub scan_held_more : {K O : Type 0} (items : List (Item K O)) (first mid new : List (Waiting K O)) (i : Item K O) → Contains items i → ((a : Item K O) → Holds mid a → Contains items a ⊎ Holds first a) → ((a : Item K O) → Holds new a → (i ≡ a) ⊎ Holds mid a) → (a : Item K O) → Holds new a → Contains items a ⊎ Holds first a
scan_held_more {K} {O} items first mid new i c f m a h = elim (m a h) as (λ _. Contains items a ⊎ Holds first a) [
  | inl l ↦ inl (subst (Contains items) l c)
  | inr r ↦ f a r
]

-- a key is able to go on
pub sort_able : {K O : Type 0} (P : Item K O → Type 0) (able after : List (Item K O)) (i : Item K O) → after ≡ able ++ i ∷ [] → (a : Item K O) → Contains after a ⊎ P a → (i ≡ a) ⊎ (Contains able a ⊎ P a)
sort_able {K} {O} P able after i e a (inr p) = inr (inr p)
sort_able {K} {O} P able after i e a (inl c) = elim (Contains-push_cases able i a (subst (λ (xs : List (Item K O)). Contains xs a) e c)) as (λ _. (i ≡ a) ⊎ (Contains able a ⊎ P a)) [ inl l ↦ inr (inl l) | inr r ↦ inl r ]

-- or waits
pub sort_parked : {K O : Type 0} (P Q : Item K O → Type 0) (able : List (Item K O)) (i : Item K O) → ((a : Item K O) → Q a → (i ≡ a) ⊎ P a) → (a : Item K O) → Contains able a ⊎ Q a → (i ≡ a) ⊎ (Contains able a ⊎ P a)
sort_parked P Q able i f a (inl c) = inr (inl c)
sort_parked P Q able i f a (inr q) = elim (f a q) as (λ _. (i ≡ a) ⊎ (Contains able a ⊎ P a)) [ inl l ↦ inl l | inr r ↦ inr (inr r) ]

pub sort_none : {K O : Type 0} (P H : Item K O → Type 0) (able : List (Item K O)) → able ≡ [] → (a : Item K O) → Contains able a ⊎ P a → H a ⊎ P a
sort_none P H able e a (inl c) = absurd (none_in a (rw e at c))
sort_none P H able e a (inr p) = inr p

pub sort_more : {K O : Type 0} (P Q R : Item K O → Type 0) (ws : List (Waiting K O)) (able after : List (Item K O)) (w : Waiting K O) → Contains ws w → ((a : Item K O) → Contains able a ⊎ Q a → Holds ws a ⊎ P a) → ((a : Item K O) → Contains after a ⊎ R a → (w.item ≡ a) ⊎ (Contains able a ⊎ Q a)) → (a : Item K O) → Contains after a ⊎ R a → Holds ws a ⊎ P a
sort_more P Q R ws able after w c f m a h = elim (m a h) as (λ _. Holds ws a ⊎ P a) [
  | inl l ↦ inl (w, c, l)
  | inr r ↦ f a r
]

module _ {K O : Type 0} (cmp : K → K → Ordering) (pool : Pool K O) (news : List (Item K O)) (woken : List (Waiting K O)) (news_is : news ≡ pool.news.items) (woken_is : woken ≡ pool.woken.items) where
  -- keys of the pool are as those that were looked at
  under_news : (s : Setting K O) (y : State K O) → AreUnderWay cmp s y pool → AreItems s y news
  under_news s y h = All-weaker (Contains news) (λ (a : Item K O). IsItem s y a) (λ a c. h a (inl (subst (λ (xs : List (Item K O)). Contains xs a) news_is c))) news (All-contains_itself news)

  wanted_news : (s : Setting K O) (top : K) → AreAllWanted cmp s top pool → AreItemsWanted s top news
  wanted_news s top h = All-weaker (Contains news) (λ (a : Item K O). IsWanted s top (item_key a)) (λ a c. h a (inl (subst (λ (xs : List (Item K O)). Contains xs a) news_is c))) news (All-contains_itself news)

  pub readies : (old : List (Entry K O)) (book book' : List K) (t u : Known K) (opened : List (Item K O)) → ScansAll news old book t book' u opened → Readies cmp pool old book t book' u opened
  readies old book book' t u opened so s y law o e r h = list_under s y (state y.fresh y.learned book' y.reads) t u (λ top. AreAllWanted cmp s top pool) (λ top. AreItemsWanted s top news) opened (so s y law o e r (under_news s y h)) (wanted_news s)

  pub readies_noted : (old : List (Entry K O)) (book book' : List K) (t : Known K) → ScansAllNoted news old book t book' → ReadiesNoted cmp pool old book t book'
  readies_noted old book book' t n s y law o e r h top x g w = n s y law o e r (under_news s y h) top x g (wanted_news s top w)

  pub able_held : (waiting : List (Waiting K O)) (able : List (Item K O)) (empty : List (Waiting K O)) (parked : List (K × Queue K O)) → empty ≡ [] → ((a : Item K O) → Holds waiting a → Contains news a ⊎ Holds woken a) → ((a : Item K O) → Contains able a ⊎ Parks cmp parked a → Holds waiting a ⊎ Parks cmp pool.parked a) → (a : Item K O) → Contains able a ⊎ (Holds empty a ⊎ Parks cmp parked a) → IsIn cmp pool a
  able_held waiting able empty parked none f m a h =
      let before : Contains able a ⊎ Parks cmp parked a = elim h as (λ _. Contains able a ⊎ Parks cmp parked a) [
        | inl l ↦ inl l
        | inr r ↦ (elim r as (λ _. Contains able a ⊎ Parks cmp parked a) [ inl q ↦ absurd (holds_none a (rw none at q)) | inr q ↦ inr q ])
      ] in
      elim (m a before) as (λ _. IsIn cmp pool a) [
        | inl l ↦ (elim (f a l) as (λ _. IsIn cmp pool a) [
          | inl n ↦ inl (subst (λ (xs : List (Item K O)). Contains xs a) news_is n)
          | inr n ↦ inr (inl (subst (λ (ws : List (Waiting K O)). Holds ws a) woken_is n))
        ])
        | inr r ↦ inr (inr r)
      ]

-- what is left is put back
pub put_back_held : {K O : Type 0} (cmp : K → K → Ordering) (pool pool' : Pool K O) (left news : List (Item K O)) → news ≡ pool.news.items ++ left → pool'.news.items ≡ news → ((a : Item K O) → Parks cmp pool'.parked a ⊎ Holds pool'.woken.items a → Parks cmp pool.parked a ⊎ Holds pool.woken.items a) → (a : Item K O) → IsIn cmp pool' a → Contains left a ⊎ IsIn cmp pool a
put_back_held {K} {O} cmp pool pool' left news is same f a (inl c) = elim (Contains-append_cases pool.news.items left a (subst (λ (xs : List (Item K O)). Contains xs a) (same ∙ is) c)) as (λ _. Contains left a ⊎ IsIn cmp pool a) [ inl l ↦ inr (inl l) | inr r ↦ inl r ]
put_back_held {K} {O} cmp pool pool' left news is same f a (inr h) =
    let before : Parks cmp pool'.parked a ⊎ Holds pool'.woken.items a = elim h as (λ _. Parks cmp pool'.parked a ⊎ Holds pool'.woken.items a) [ inl l ↦ inr l | inr r ↦ inl r ] in
    elim (f a before) as (λ _. Contains left a ⊎ IsIn cmp pool a) [ inl l ↦ inr (inr (inr l)) | inr r ↦ inr (inr (inl r)) ]

module _ {K O : Type 0} (cmp : K → K → Ordering) (s : Setting K O) (law : AreLawful s.means) (y : State K O) (t : Known K) (ready : IsReady s y t) (before mid : Pool K O) (under : AreUnderWay cmp s y before) (book1 : List K) (u : Known K) (able : List (Item K O)) (so : Readies cmp before s.old y.ran t book1 u mid.news.items) (held : (a : Item K O) → Contains able a ⊎ (Holds mid.woken.items a ⊎ Parks cmp mid.parked a) → IsIn cmp before a) where
  -- the keys that are able to go on
  pub able_ready : IsReady s (state y.fresh y.learned book1 y.reads) u
  able_ready = let l = so s y law refl refl ready under in l.ready

  pub able_items : AreItems s (state y.fresh y.learned book1 y.reads) able
  able_items = All-weaker (Contains able) (λ (a : Item K O). IsItem s (state y.fresh y.learned book1 y.reads) a) (λ a c. item_on s y (state y.fresh y.learned book1 y.reads) a (λ e h. h) (under a (held a (inl c)))) able (All-contains_itself able)

  able_wanted : (top : K) → AreAllWanted cmp s top before → AreItemsWanted s top able
  able_wanted top w = All-weaker (Contains able) (λ (a : Item K O). IsWanted s top (item_key a)) (λ a c. w a (held a (inl c))) able (All-contains_itself able)

  pub visit_noted : (z : State K O) → ListNotes s (state y.fresh y.learned book1 y.reads) z u (λ top. AreItemsWanted s top able) → ListNotes s y z t (λ top. AreAllWanted cmp s top before)
  visit_noted z n top x g w = (let l = so s y law refl refl ready under in n top x (l.going top x g w) (able_wanted top w))

  module _ (z : State K O) (v : Known K) (left : List (Item K O)) (m : IsList s (state y.fresh y.learned book1 y.reads) z u v (λ top. AreItemsWanted s top able) [] left) (after : Pool K O) (put : (a : Item K O) → IsIn cmp after a → Contains left a ⊎ IsIn cmp mid a) where
    mid_item : (a : Item K O) → IsIn cmp mid a → IsItem s z a
    mid_item a (inl c) = (let l = so s y law refl refl ready under in item_on s (state y.fresh y.learned book1 y.reads) z a m.grows (All-contains (λ (a : Item K O). IsItem s (state y.fresh y.learned book1 y.reads) a) mid.news.items a l.rest_are c))
    mid_item a (inr h) = item_on s y z a m.grows (under a (held a (inr h)))

    mid_wanted : (top : K) → AreAllWanted cmp s top before → (a : Item K O) → IsIn cmp mid a → IsWanted s top (item_key a)
    mid_wanted top w a (inl c) = (let l = so s y law refl refl ready under in All-contains (λ (a : Item K O). IsWanted s top (item_key a)) mid.news.items a (l.rest_wanted top w) c)
    mid_wanted top w a (inr h) = w a (held a (inr h))

    pub visited : IsVisited cmp s y z t v before after
    visited = record {
      ready = m.ready;
      items = λ a i. (elim (put a i) as (λ _. IsItem s z a) [
        | inl c ↦ All-contains (λ (a : Item K O). IsItem s z a) left a m.rest_are c
        | inr h ↦ mid_item a h
      ]);
      going = λ top x g w. (let l = so s y law refl refl ready under in m.going top x (l.going top x g w) (able_wanted top w));
      wanted = λ top w a i. (elim (put a i) as (λ _. IsWanted s top (item_key a)) [
        | inl c ↦ All-contains (λ (a : Item K O). IsWanted s top (item_key a)) left a (m.rest_wanted top (able_wanted top w)) c
        | inr h ↦ mid_wanted top w a h
      ]);
    }

top_wanted : {K O : Type 0} (s : Setting K O) (top : K) → AreWanted s top (top ∷ [])
top_wanted s top = All-cons (IsWanted s top) top [] (λ w i. needed_itself s.means w top) (All-nil (IsWanted s top))

parks_none : {K O : Type 0} (cmp : K → K → Ordering) (m : List (K × Queue K O)) (a : Item K O) → m ≡ [] → Parks cmp m a → ⊥
parks_none {K} {O} cmp m a e h = absurd (let f : None ≡ Some h.1 = rw e at h.2 in cc)

first_only : {K O : Type 0} (cmp : K → K → Ordering) (pool : Pool K O) → pool.woken.items ≡ [] → pool.parked ≡ [] → (a : Item K O) → IsIn cmp pool a → Contains pool.news.items a
first_only cmp pool none empty a (inl c) = c
first_only cmp pool none empty a (inr (inl h)) = absurd (holds_none a (rw none at h))
first_only cmp pool none empty a (inr (inr h)) = absurd (parks_none cmp pool.parked a empty h)

-- one key is under way
pub begins : {K O : Type 0} (cmp : K → K → Ordering) (top : K) (keys : List K) (old : List (Entry K O)) (book book' : List K) (t u : Known K) (pool : Pool K O) → keys ≡ top ∷ [] → Opens keys old book t book' u pool.news.items → pool.woken.items ≡ [] → pool.parked ≡ [] → Begins cmp top old book t book' u pool
begins {K} {O} cmp top keys old book book' t u pool ks so none empty s y o e r =
    let z = state y.fresh y.learned book' y.reads in
    let l = so s y o e r in
    let w : AreWanted s top keys = rw ks (top_wanted s top) in
    record {
      ready = l.ready;
      items = λ a i. All-contains (λ (a : Item K O). IsItem s z a) pool.news.items a l.rest_are (first_only cmp pool none empty a i);
      going = λ x g. l.going top x g w;
      wanted = λ a i. All-contains (λ (a : Item K O). IsWanted s top (item_key a)) pool.news.items a (l.rest_wanted top w) (first_only cmp pool none empty a i);
    }

-- one more visit
pub settling_more : {K O : Type 0} (cmp : K → K → Ordering) (s : Setting K O) (top : K) (y z v : State K O) (t u w : Known K) (before after : Pool K O) → IsSettling cmp s top y z t u before → IsVisited cmp s z v u w before after → IsSettling cmp s top y v t w after
settling_more cmp s top y z v t u w before after k q = record {
  ready = q.ready;
  items = q.items;
  going = λ x g. q.going top x (k.going x g) k.wanted;
  wanted = q.wanted top k.wanted;
}

pub settling_noted : {K O : Type 0} (cmp : K → K → Ordering) (s : Setting K O) (top : K) (y z : State K O) (t u : Known K) (pool : Pool K O) → IsSettling cmp s top y z t u pool → TopNotes s top y z t
settling_noted cmp s top y z t u pool k x g = going_noted s top x z u (k.going x g)

pub settling_refused : {K O : Type 0} (cmp : K → K → Ordering) (s : Setting K O) (top : K) (y z v : State K O) (t u : Known K) (pool : Pool K O) → IsSettling cmp s top y z t u pool → ListNotes s z v u (λ top. AreAllWanted cmp s top pool) → TopNotes s top y v t
settling_refused cmp s top y z v t u pool k n x g = n top x (k.going x g) k.wanted

pub begins_noted : {K O : Type 0} (s : Setting K O) (top : K) (y : State K O) (t : Known K) (book' : List K) → IsReady s y t → OpensNoted (top ∷ []) s.old y.ran t book' → TopNotes s top y (state y.fresh y.learned book' y.reads) t
begins_noted s top y t book' r n x g = n s y refl refl r top x g (top_wanted s top)

pub brought_to : {K O : Type 0} (cmp : K → K → Ordering) (s : Setting K O) (top : K) (y z : State K O) (t u : Known K) (pool : Pool K O) (r q : Outcome O) → IsSettling cmp s top y z t u pool → IsEntryOf top q z.fresh → r ≡ q → IsBroughtTo s top y z t u r
brought_to cmp s top y z t u pool r q k e is = rw is (record { ready = k.ready; going = k.going; entry = e })

-- nothing was opened yet
pub opens_still : {K O : Type 0} (keys : List K) (old : List (Entry K O)) (book : List K) (t : Known K) → OpensNoted keys old book t book
opens_still keys old book t = opens_noted keys old book book t t [] (opens_none keys old book t)

pub opens_same : {K O : Type 0} (keys same : List K) (old : List (Entry K O)) (book book' : List K) (t : Known K) → keys ≡ same → OpensNoted keys old book t book' → OpensNoted same old book t book'
opens_same {K} {O} keys same old book book' t e n = subst (λ (ks : List K). OpensNoted ks old book t book') e n

pub under_held : {K O : Type 0} (cmp : K → K → Ordering) (s : Setting K O) (h : Option Files) (z : State K O) (pool : Pool K O) → h ≡ s.held → AreUnderWay cmp s z pool → AreUnderWay cmp (at_held s h) z pool
under_held cmp s h z pool e r = subst (λ h. AreUnderWay cmp (at_held s h) z pool) (sym e) r

pub visited_held : {K O : Type 0} (cmp : K → K → Ordering) (s : Setting K O) (h : Option Files) (z v : State K O) (u w : Known K) (before after : Pool K O) → h ≡ s.held → IsVisited cmp (at_held s h) z v u w before after → IsVisited cmp s z v u w before after
visited_held cmp s h z v u w before after e r = subst (λ h. IsVisited cmp (at_held s h) z v u w before after) e r

pub visit_notes_held : {K O : Type 0} (cmp : K → K → Ordering) (s : Setting K O) (h : Option Files) (z v : State K O) (u : Known K) (pool : Pool K O) → h ≡ s.held → ListNotes (at_held s h) z v u (λ top. AreAllWanted cmp (at_held s h) top pool) → ListNotes s z v u (λ top. AreAllWanted cmp s top pool)
visit_notes_held cmp s h z v u pool e r = subst (λ h. ListNotes (at_held s h) z v u (λ top. AreAllWanted cmp (at_held s h) top pool)) e r
