-- Keys under way that are looked at for the first time, and those of which all parts are done.
use Rattle.std.specs.Prelude.{◌≡◌, List, []}
use Rattle.std.specs.declared.cmp.Ordering.{Ordering}
use Rattle.step_engine.specs.Turns.{AreLawful}
use Rattle.step_engine.specs.Build.{Setting}
use Rattle.step_engine.specs.Engine.{State, state}
use Rattle.step_engine.specs.declared.talk.Entry.{Entry}
use Rattle.step_engine.specs.Table.{Known}
use Rattle.step_engine.specs.Rounds.{IsWanted, AreNoted, IsGoing}
use Rattle.step_engine.specs.Items.{IsItem, item_key, IsReady, AreItems, AreItemsWanted}
use Rattle.step_engine.specs.Taking.{IsList}
use Rattle.step_engine.specs.Pooling.{IsIn}
use Rattle.step_engine.specs.declared.items.Item.{Item}
use Rattle.step_engine.specs.declared.pool.Pool.{Pool}

-- the parts that the key asks for were opened
abbrev pub Scans : {K O : Type 0} → Item K O → List (Entry K O) → List K → Known K → List K
    → Known K → List (Item K O) → Type 0
Scans {K} {O} a old book t book' u opened =
    (s : Setting K O) (y : State K O) → AreLawful s.means → s.old ≡ old → y.ran ≡ book
    → IsReady s y t → IsItem s y a → IsList s y (state y.fresh y.learned book' y.reads) t u
    (λ top. IsWanted s top (item_key a)) [] opened

-- after every answer
abbrev pub ScansNoted : {K O : Type 0} → Item K O → List (Entry K O) → List K → Known K → List K
    → Type 0
ScansNoted {K} {O} a old book t book' = (s : Setting K O) (y : State K O) → AreLawful s.means
    → s.old ≡ old → y.ran ≡ book → IsReady s y t → IsItem s y a → (top : K) (x : State K O)
    → IsGoing s top x y t → IsWanted s top (item_key a)
    → AreNoted s top x (state y.fresh y.learned book' y.reads)

-- the parts that the keys ask for were opened
abbrev pub ScansAll : {K O : Type 0} → List (Item K O) → List (Entry K O) → List K → Known K
    → List K → Known K → List (Item K O) → Type 0
ScansAll {K} {O} items old book t book' u opened =
    (s : Setting K O) (y : State K O) → AreLawful s.means → s.old ≡ old → y.ran ≡ book
    → IsReady s y t → AreItems s y items
    → IsList s y (state y.fresh y.learned book' y.reads) t u (λ top. AreItemsWanted s top items) []
    opened

-- after every answer
abbrev pub ScansAllNoted : {K O : Type 0} → List (Item K O) → List (Entry K O) → List K → Known K
    → List K → Type 0
ScansAllNoted {K} {O} items old book t book' =
    (s : Setting K O) (y : State K O) → AreLawful s.means → s.old ≡ old → y.ran ≡ book
    → IsReady s y t → AreItems s y items → (top : K) (x : State K O) → IsGoing s top x y t
    → AreItemsWanted s top items → AreNoted s top x (state y.fresh y.learned book' y.reads)

-- what holds of each key under way
abbrev pub AreUnderWay : {K O : Type 0} → (K → K → Ordering) → Setting K O → State K O → Pool K O
    → Type 0
AreUnderWay {K} {O} cmp s y pool = (a : Item K O) → IsIn cmp pool a → IsItem s y a

-- each key under way is needed
abbrev pub AreAllWanted : {K O : Type 0} → (K → K → Ordering) → Setting K O → K → Pool K O → Type 0
AreAllWanted {K} {O} cmp s top pool = (a : Item K O) → IsIn cmp pool a → IsWanted s top (item_key a)

-- keys were taken out of those under way, and parts were opened
abbrev pub Readies : {K O : Type 0} → (K → K → Ordering) → Pool K O → List (Entry K O) → List K
    → Known K → List K → Known K → List (Item K O) → Type 0
Readies {K} {O} cmp pool old book t book' u opened =
    (s : Setting K O) (y : State K O) → AreLawful s.means → s.old ≡ old → y.ran ≡ book
    → IsReady s y t → AreUnderWay cmp s y pool
    → IsList s y (state y.fresh y.learned book' y.reads) t u (λ top. AreAllWanted cmp s top pool) []
    opened

-- after every answer
abbrev pub ReadiesNoted : {K O : Type 0} → (K → K → Ordering) → Pool K O → List (Entry K O) → List K
    → Known K → List K → Type 0
ReadiesNoted {K} {O} cmp pool old book t book' =
    (s : Setting K O) (y : State K O) → AreLawful s.means → s.old ≡ old → y.ran ≡ book
    → IsReady s y t → AreUnderWay cmp s y pool → (top : K) (x : State K O) → IsGoing s top x y t
    → AreAllWanted cmp s top pool → AreNoted s top x (state y.fresh y.learned book' y.reads)
