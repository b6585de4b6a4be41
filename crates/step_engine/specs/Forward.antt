-- How a build goes forward: where the keys under way are, and for which parts they wait. The rule is
-- this project's own.
use Rattle.std.specs.Prelude.{◌≡◌, ◌⊎◌, ◌<◌, ◌≤◌, ◌++◌, ℕ, List, [], ◌∷◌, Option, Some, None, Contains}
use Rattle.std.specs.BTreeMap.{is_at}
use Rattle.std.specs.Map.{lookup}
use Rattle.std.specs.declared.cmp.Ordering.{Ordering}
use Rattle.step_engine.specs.Caches.{HasKey}
use Rattle.step_engine.specs.Table.{Known, IsDone}
use Rattle.step_engine.specs.Items.{item_key}
use Rattle.step_engine.specs.Wanting.{IsAskedBy}
use Rattle.step_engine.specs.declared.talk.Entry.{Entry}
use Rattle.step_engine.specs.declared.places.Place.{Place}
use Rattle.step_engine.specs.declared.places.Place.TheVariants.{Checking, Running, Done}
use Rattle.step_engine.specs.declared.items.Run.{Run}
use Rattle.step_engine.specs.declared.items.Turned.{Turned}
use Rattle.step_engine.specs.declared.items.Item.{Item}
use Rattle.step_engine.specs.declared.items.Item.TheVariants as item
use Rattle.step_engine.specs.declared.items.Waiting.{Waiting}
use Rattle.step_engine.specs.declared.items.Queue.{Queue}
use Rattle.step_engine.specs.declared.pool.Pool.{Pool}

-- the key was met
abbrev pub IsMet : Option Place → Type 0
IsMet p = (q : Place) × (p ≡ Some q)

-- a key at this place is under way
abbrev pub IsOpen : Place → Type 0
IsOpen Checking = Unit {0}
IsOpen Running = Unit {0}
IsOpen (Done i) = ⊥

-- the place of a key of which this is under way
abbrev pub item_place : {K O : Type 0} → Item K O → Place
item_place (item.Run r) = Running
item_place (item.Asked a) = Running
item_place (item.Check c) = Checking

-- one of them is of the key, at the place
abbrev pub HasItem : {K O : Type 0} → List (Item K O) → K → Place → Type 0
HasItem {K} {O} items k p = (a : Item K O) × Contains items a × (item_key a ≡ k)
    × (item_place a ≡ p)

abbrev pub HasRun : {K O : Type 0} → List (Run K O) → K → Place → Type 0
HasRun {K} {O} runs k p = (r : Run K O) × Contains runs r × (r.key ≡ k) × (Running ≡ p)

abbrev pub HasTurned : {K O : Type 0} → List (Turned K O) → K → Place → Type 0
HasTurned {K} {O} done k p = (d : Turned K O) × Contains done d × (d.key ≡ k) × (Running ≡ p)

abbrev pub HasWaiting : {K O : Type 0} → List (Waiting K O) → K → Place → Type 0
HasWaiting {K} {O} waiting k p = (w : Waiting K O) × Contains waiting w × (item_key w.item ≡ k)
    × (item_place w.item ≡ p)

-- the keys that wait for a part
abbrev pub queued : {K O : Type 0} → Option (Queue K O) → List (Waiting K O)
queued None = []
queued (Some q) = q.list.items

abbrev pub queue_at : {K O : Type 0} → (K → K → Ordering) → List (K × Queue K O) → K
    → List (Waiting K O)
queue_at cmp parked part = queued (lookup (is_at (cmp part)) parked)

abbrev pub HasParked : {K O : Type 0} → (K → K → Ordering) → List (K × Queue K O) → K → Place
    → Type 0
HasParked {K} {O} cmp parked k p = (part : K) × HasWaiting (queue_at cmp parked part) k p

abbrev pub InPool : {K O : Type 0} → (K → K → Ordering) → Pool K O → K → Place → Type 0
InPool cmp pool k p = HasItem pool.news.items k p
    ⊎ (HasWaiting pool.woken.items k p ⊎ HasParked cmp pool.parked k p)

-- what is left of a key is of the key, at the place
abbrev pub IsLeftAt : {K O : Type 0} → Option (Item K O) → K → Place → Type 0
IsLeftAt None k p = ⊥
IsLeftAt (Some a) k p = (item_key a ≡ k) × (item_place a ≡ p)

-- each key under way is among these, at its place
abbrev pub Covers : {K : Type 0} → Known K → (K → Place → Type 0) → Type 0
Covers {K} t Has = (k : K) (p : Place) → IsOpen p → t k ≡ Some p → Has k p

-- the parts for which a key under way waits: of lower rank, met, and all that it asks for and that
-- aren't done
pub record Waits {K O : Type 0} (rank : K → ℕ) (t : Known K) (a : Item K O) (parts : List K)
    : Type 0 where
  pub lower : (p : K) → Contains parts p → rank p < rank (item_key a)
  pub met : (p : K) → Contains parts p → IsMet (t p)
  pub whole : (p : K) → IsAskedBy p a → rank p < rank (item_key a) → IsDone (t p)
      ⊎ Contains parts p

-- all parts of lower rank that it asks for are done
abbrev pub IsAble : {K O : Type 0} → (K → ℕ) → Known K → Item K O → Type 0
IsAble {K} rank t a = (p : K) → IsAskedBy p a → rank p < rank (item_key a) → IsDone (t p)

abbrev pub AreAble : {K O : Type 0} → (K → ℕ) → Known K → List (Item K O) → Type 0
AreAble {K} {O} rank t items = (a : Item K O) → Contains items a → IsAble rank t a

-- each that isn't parked has its parts
abbrev pub AreWaiting : {K O : Type 0} → (K → ℕ) → Known K → List (Waiting K O) → Type 0
AreWaiting {K} {O} rank t waiting = (w : Waiting K O) → Contains waiting w
    → Waits rank t w.item w.parts.items

-- each that is parked waits for the part at which it is parked, too
abbrev pub AreParked : {K O : Type 0} → (K → K → Ordering) → (K → ℕ) → Known K
    → List (K × Queue K O) → Type 0
AreParked {K} {O} cmp rank t parked = (k : K) (w : Waiting K O) → Contains (queue_at cmp parked k) w
    → Waits rank t w.item (w.parts.items ++ k ∷ [])

-- none is parked at a part that is done
abbrev pub AreUndone : {K O : Type 0} → (K → K → Ordering) → Known K → List (K × Queue K O)
    → Type 0
AreUndone {K} {O} cmp t parked = (k : K) (q : Queue K O) → lookup (is_at (cmp k)) parked ≡ Some q
    → IsDone (t k) → ⊥

-- each key under way is in the pool, and waits for what is under way
pub record IsWhole {K O : Type 0} (cmp : K → K → Ordering) (rank : K → ℕ) (t : Known K)
    (pool : Pool K O) : Type 0 where
  pub covers : Covers t (InPool cmp pool)
  pub waiting : AreWaiting rank t pool.woken.items
  pub parked : AreParked cmp rank t pool.parked
  pub undone : AreUndone cmp t pool.parked

-- from the one to the other no key is lost, and each that became done got a number that is not below
-- the first
pub record Later {K : Type 0} (n m : ℕ) (t u : Known K) : Type 0 where
  pub grows : n ≤ m
  pub met : (k : K) → IsMet (t k) → IsMet (u k)
  pub done : (k : K) → IsDone (t k) → IsDone (u k)
  pub made : (k : K) (i : ℕ) → u k ≡ Some (Done i) → (t k ≡ Some (Done i)) ⊎ (n ≤ i)

-- an act for a key that stands at the place: it is done, or stands where what is left of it is
pub record Goes {K : Type 0} (k : K) (p : Place) (n m : ℕ) (t u : Known K)
    (Left : K → Place → Type 0) : Type 0 where
  pub grows : n ≤ m
  pub own : t k ≡ Some p → IsDone (u k) ⊎ ((q : Place) × (u k ≡ Some q) × Left k q)
  pub other : (j : K) → (u j ≡ t j) ⊎ ((j ≡ k) × (t j ≡ Some p))
  pub made : (j : K) (i : ℕ) → u j ≡ Some (Done i) → (t j ≡ Some (Done i)) ⊎ (n ≤ i)

-- acts for a list of keys: what is left of them
pub record GoesOn {K : Type 0} (O : Type 0) (cmp : K → K → Ordering) (n m : ℕ) (t u : Known K)
    (Before Left : K → Place → Type 0) : Type 0 where
  pub later : Later n m t u
  pub covers : (pool : Pool K O) → Covers t (λ k p. InPool cmp pool k p ⊎ Before k p)
      → Covers u (λ k p. InPool cmp pool k p ⊎ Left k p)

-- the count rose, where it can
abbrev pub Rises : ℕ → ℕ → Type 0
Rises before now = before < 18446744073709551615 → before < now

-- what is left of a key makes its turn
abbrev pub IsRun : {K O : Type 0} → Option (Item K O) → Type 0
IsRun {K} {O} r = (q : Run K O) × (r ≡ Some (item.Run q))

-- one of them is there
abbrev pub HasOne : {A : Type 0} → List A → Type 0
HasOne {A} xs = (x : A) × Contains xs x

-- the count never falls, and it rises or the key makes its turn where all its parts are done
pub record Acts {K O : Type 0} (rank : K → ℕ) (t : Known K) (a : Item K O) (n m : ℕ)
    (Turns : Type 0) : Type 0 where
  pub grows : n ≤ m
  pub able : IsAble rank t a → Rises n m ⊎ Turns

-- and so for a list of keys of which there is one
pub record AllAct {K O : Type 0} (rank : K → ℕ) (t : Known K) (items : List (Item K O)) (n m : ℕ)
    (Turns : Type 0) : Type 0 where
  pub grows : n ≤ m
  pub able : AreAble rank t items → HasOne items → Rises n m ⊎ Turns

-- the parts that are wanted of a key: of lower rank, and all that aren't done
pub record Wants {K : Type 0} (rank : K → ℕ) (t : Known K) (k : K) (IsPart : K → Type 0)
    (before after : List K) : Type 0 where
  pub lower : (p : K) → Contains after p → Contains before p ⊎ (rank p < rank k)
  pub kept : (p : K) → Contains before p → Contains after p
  pub whole : (p : K) → IsPart p → rank p < rank k → IsDone (t p) ⊎ Contains after p

-- of the parts before, those behind the part are done, and it isn't
pub record Misses {K : Type 0} (t : Known K) (before after : List K) (part : K) : Type 0 where
  pub undone : IsDone (t part) → ⊥
  pub among : (p : K) → Contains (after ++ part ∷ []) p → Contains before p
  pub rest : (p : K) → Contains before p → IsDone (t p) ⊎ Contains (after ++ part ∷ []) p

-- all of them are done
abbrev pub AreDone : {K : Type 0} → Known K → List K → Type 0
AreDone {K} t parts = (p : K) → Contains parts p → IsDone (t p)

-- all of them are met
abbrev pub AreMet : {K : Type 0} → Known K → List K → Type 0
AreMet {K} t keys = (k : K) → Contains keys k → IsMet (t k)

-- each new place is that of a key that was opened
abbrev pub AreOpened : {K O : Type 0} → Known K → Known K → List (Item K O) → Type 0
AreOpened {K} t u items = (k : K) → (u k ≡ t k)
    ⊎ ((t k ≡ None) × (p : Place) × (u k ≡ Some p) × HasItem items k p)

-- one more waits for the part
pub record Queues {K O : Type 0} (cmp : K → K → Ordering) (part : K) (w : Waiting K O)
    (parked parked' : List (K × Queue K O)) : Type 0 where
  pub here : queue_at cmp parked' part ≡ queue_at cmp parked part ++ w ∷ []
  pub cases : (k : K) → (part ≡ k) ⊎ (queue_at cmp parked' k ≡ queue_at cmp parked k)
  pub parts : (k : K) (q : Queue K O) → lookup (is_at (cmp k)) parked' ≡ Some q → (part ≡ k)
      ⊎ (lookup (is_at (cmp k)) parked ≡ Some q)

-- those that waited for one of the parts are woken
pub record Wakes {K O : Type 0} (cmp : K → K → Ordering) (Part : K → Type 0)
    (parked parked' : List (K × Queue K O)) (woken woken' : List (Waiting K O)) : Type 0 where
  pub among : (w : Waiting K O) → Contains woken' w → Contains woken w ⊎ ((k : K) × Part k
      × Contains (queue_at cmp parked k) w)
  pub fewer : (k : K) (q : Queue K O) → lookup (is_at (cmp k)) parked' ≡ Some q
      → lookup (is_at (cmp k)) parked ≡ Some q
  pub gone : (k : K) → Part k → lookup (is_at (cmp k)) parked' ≡ None
  pub all : (k : K) (w : Waiting K O) → Contains (queue_at cmp parked k) w
      → Contains woken' w ⊎ Contains (queue_at cmp parked' k) w
  pub kept : (w : Waiting K O) → Contains woken w → Contains woken' w

-- keys under way are looked at: what they wait for, and what was opened for them
pub record Looks {K O : Type 0} (rank : K → ℕ) (t u : Known K) (Seen : K → Place → Type 0)
    (opened opened' : List (Item K O)) (waiting waiting' : List (Waiting K O)) : Type 0 where
  pub opens : AreOpened t u opened'
  pub grows : (a : Item K O) → Contains opened a → Contains opened' a
  pub waits : AreWaiting rank t waiting → AreWaiting rank u waiting'
  pub kept : (w : Waiting K O) → Contains waiting w → Contains waiting' w
  pub all : (k : K) (p : Place) → Seen k p → HasWaiting waiting' k p

-- keys that wait, where they have their parts, are sorted: those that are able to go on, and the
-- others
pub record Sorts {K O : Type 0} (cmp : K → K → Ordering) (rank : K → ℕ) (t : Known K)
    (Ready : Type 0) (Seen : K → Place → Type 0) (parked parked' : List (K × Queue K O))
    (able able' : List (Item K O)) : Type 0 where
  pub are_able : Ready → AreAble rank t able → AreAble rank t able'
  pub waits : Ready → AreParked cmp rank t parked → AreParked cmp rank t parked'
  pub undone : AreUndone cmp t parked → AreUndone cmp t parked'
  pub kept : (k : K) (p : Place) → HasItem able k p ⊎ HasParked cmp parked k p
      → HasItem able' k p ⊎ HasParked cmp parked' k p
  pub all : (k : K) (p : Place) → Seen k p → HasItem able' k p ⊎ HasParked cmp parked' k p

-- the keys that are able to go on were taken out of the pool, which has what was opened
pub record IsParted {K O : Type 0} (cmp : K → K → Ordering) (rank : K → ℕ) (t u : Known K)
    (pool : Pool K O) (able : List (Item K O)) : Type 0 where
  pub opens : AreOpened t u pool.news.items
  pub woken : pool.woken.items ≡ []
  pub covers : Covers u (λ k p. InPool cmp pool k p ⊎ HasItem able k p)
  pub are_able : AreAble rank u able
  pub parked : AreParked cmp rank u pool.parked
  pub undone : AreUndone cmp u pool.parked

-- what is left is put to the new ones, and those that wait for the entries made are woken
pub record PutsBack {K O : Type 0} (cmp : K → K → Ordering) (left : List (Item K O))
    (made : List (Entry K O)) (pool pool' : Pool K O) : Type 0 where
  pub news : pool'.news.items ≡ pool.news.items ++ left
  pub wakes : Wakes cmp (HasKey made) pool.parked pool'.parked pool.woken.items pool'.woken.items

-- a part of these isn't done
abbrev pub LacksPart : {K : Type 0} → Known K → (K → Type 0) → Type 0
LacksPart {K} t IsPart = (part : K) × IsPart part × (IsDone (t part) → ⊥)

-- the key of each entry is done
abbrev pub AreEntered : {K O : Type 0} → Known K → List (Entry K O) → Type 0
AreEntered {K} {O} t fresh = (e : Entry K O) → Contains fresh e → IsDone (t e.key)

-- and is so on
abbrev pub Enters : {K O : Type 0} → Known K → Known K → List (Entry K O) → List (Entry K O)
    → Type 0
Enters t u fresh fresh' = AreEntered t fresh → AreEntered u fresh'

-- a visit: all goes on to hold, no key is lost, and something was done where a key is under way
pub record IsForward {K O : Type 0} (cmp : K → K → Ordering) (rank : K → ℕ) (t v : Known K)
    (after : Pool K O) (fresh : List (Entry K O)) (n m : ℕ) : Type 0 where
  pub whole : IsWhole cmp rank v after
  pub entered : AreEntered v fresh
  pub met : (k : K) → IsMet (t k) → IsMet (v k)
  pub acts : (k : K) (p : Place) → IsOpen p → t k ≡ Some p → Rises n m
