-- What a step learns of one file more, and of all lines. The rule is this project's own.
use Rattle.std.specs.Prelude.{◌≡◌, ℕ, List, Result, Ok, Err}
use Rattle.std.specs.List.{All}
use Rattle.std.specs.declared.cmp.Ordering.{Ordering}
use Rattle.build_base.specs.Outside.{IsWithin}
use Rattle.build_base.specs.World.{file_limit}
use Rattle.build_base.specs.declared.outside.Got.{Got}
use Rattle.build_base.specs.declared.book.Permit.{Permit}
use Rattle.build_base.specs.declared.lines.Lines.{Lines}
use Rattle.build_base.specs.declared.lines.Macro.{Macro}
use Rattle.macro_conditions.specs.declared.known.Known.{Known}
use Rattle.macro_conditions.specs.Asked.{Asked, learnt}
use Rattle.build_stages.specs.Asks.{same_ask}
use Rattle.build_stages.specs.Stages.{Fits, Halt}
use Rattle.build_stages.specs.Known.{Table, known_at, advance_at}
use Rattle.build_stages.specs.Gives.{Gives, Stops}
use Rattle.build_stages.specs.declared.stop.Stop.{Stop}
use Rattle.document_stages.specs.Documents.{got_step, lines_of}

abbrev pub Learned : {K : Type 0} → Result Got (Halt K) → List ℕ → Asked → Asked → Type 0
Learned step path old new =
    (got : Got) × (step ≡ Ok got) × (new ≡ learnt old path got) × IsWithin file_limit got

-- what a table tells of one file
abbrev pub gets : {K O : Type 0} → (K → K → Ordering) → Fits K O → Table K O → List ℕ
    → Result Got (Halt K)
gets cmp fits t path = got_step (same_ask cmp) fits (known_at cmp t) path

-- a file of which the step gets what is known of it
abbrev pub IsTold : {K : Type 0} → (List ℕ → Result Got (Halt K)) → Known → Type 0
IsTold step known = step known.path ≡ Ok known.got

abbrev pub AreTold : {K : Type 0} → (List ℕ → Result Got (Halt K)) → List Known → Type 0
AreTold step files = All (IsTold step) files

-- a document that is asked for, of which only files are known that are told
pub record IsBegun {K : Type 0} (step : List ℕ → Result Got (Halt K)) (path : List ℕ)
    (ms above : List Macro) (d : Asked) : Type 0 where
  pub root : d.root ≡ path
  pub macros : d.macros ≡ ms
  pub fixed : d.fixed ≡ above
  pub told : AreTold step d.files

abbrev pub Learns : {K : Type 0} → Result Permit (Stop K) → (List ℕ → Result Got (Halt K)) → List ℕ
    → Asked → Asked → Type 0
Learns (Ok permit) step path old new = Learned (step path) path old new
Learns (Err s) step path old new = Stops s (step path)

-- what a table tells of the lines of a document
abbrev pub GivesLines : {K O : Type 0} → (K → K → Ordering) → Fits K O → Table K O → List ℕ
    → List Macro → List Macro → Result (Lines × Permit) (Stop K) → Type 0
GivesLines cmp fits t root macros fixed r =
    Gives (λ x. x.0) r (advance_at cmp fits t (lines_of root macros fixed))
