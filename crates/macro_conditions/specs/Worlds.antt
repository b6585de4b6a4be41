-- What an expansion says of the worlds that agree with what is known.
use Rattle.std.specs.Prelude.{◌≡◌, ℕ, List, Some, None, Result, Ok, Err}
use Rattle.build_base.specs.declared.lines.Lines.{Lines}
use Rattle.build_base.specs.declared.outside.Got.{Got}
use Rattle.build_base.specs.declared.refusal.Refusal.{Refusal}
use Rattle.build_base.specs.declared.refusal.Refusal.TheVariants as refusals
use Rattle.macro_conditions.specs.declared.expansion.Turned.{Turned}
use Rattle.macro_conditions.specs.declared.expansion.Turned.TheVariants as turned
use Rattle.macro_conditions.specs.Sources.{Source}
use Rattle.macro_conditions.specs.Expansion.{Stop, bad, need}

-- what is known by one is known by the other
abbrev pub MoreAnswers : Source → Source → Type 0
MoreAnswers less more = (path : List ℕ) (got : Got) → less path ≡ Some got → more path ≡ Some got

-- what is found without a need is found again, and a need stays where nothing more is known of its
-- path
abbrev pub Stays : {A : Type 0} → Source → Result A Stop → Result A Stop → Type 0
Stays more (Ok x) outcome = outcome ≡ Ok x
Stays more (Err (bad fault)) outcome = outcome ≡ Err (bad fault)
Stays more (Err (need path)) outcome = more path ≡ None → outcome ≡ Err (need path)

-- a world tells what is got of every path
abbrev pub told : (List ℕ → Got) → Source
told world path = Some (world path)

-- what is known is what the world tells
abbrev pub AgreesWith : (List ℕ → Got) → Source → Type 0
AgreesWith world known = (path : List ℕ) (got : Got) → known path ≡ Some got → world path ≡ got

-- lines and faults are those of the world
abbrev pub HoldsIn : Result Turned Refusal → Result Lines Stop → Type 0
HoldsIn (Ok (turned.Whole lines)) outcome = outcome ≡ Ok lines
HoldsIn (Ok (turned.Need paths)) outcome = Unit {0}
HoldsIn (Err (refusals.Bad fault)) outcome = outcome ≡ Err (bad fault)
HoldsIn (Err refusals.WantOfMemory) outcome = Unit {0}
