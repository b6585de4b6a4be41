-- What a step's function answers, in this project's own form of steps.
use Rattle.std.specs.Prelude.{◌≡◌, List, Result, Ok, Err}
use Rattle.build_base.specs.declared.fault.Fault.{Fault}
use Rattle.build_base.specs.declared.refusal.Refusal.{Refusal}
use Rattle.build_base.specs.declared.refusal.Refusal.TheVariants as refusal
use Rattle.step_engine.specs.declared.talk.Answer.{Answer}
use Rattle.step_engine.specs.declared.talk.Ask.{Ask}
use Rattle.build_stages.specs.Stages.{Fits, Halt, wants, fails, impossible_answer, first_stop, judged, with_answers}
use Rattle.build_stages.specs.declared.stop.Stop.{Stop}
use Rattle.build_stages.specs.declared.stop.Stop.TheVariants as stop

abbrev pub stop_by : {K : Type 0} → Refusal → Stop K
stop_by (refusal.Bad fault) = stop.Fails fault
stop_by refusal.WantOfMemory = stop.WantOfMemory

-- it stops as told, unless memory was wanting
abbrev pub Stops : {A K : Type 0} → Stop K → Result A (Halt K) → Type 0
Stops (stop.Wants asks permit) r = r ≡ Err (wants asks)
Stops (stop.Fails fault) r = r ≡ Err (fails fault)
Stops stop.ImpossibleAnswer r = r ≡ Err (fails impossible_answer)
Stops stop.WantOfMemory r = Unit {0}

-- what it answers stands for this, unless memory was wanting
abbrev pub Gives : {A B K : Type 0} → (A → B) → Result A (Stop K) → Result B (Halt K) → Type 0
Gives view (Ok x) r = r ≡ Ok (view x)
Gives view (Err s) r = Stops s r

-- the same of an answer that wants nothing more
abbrev pub StopsIn : {A K : Type 0} → Stop K → Result A Fault → Type 0
StopsIn (stop.Wants asks permit) r = ⊥
StopsIn (stop.Fails fault) r = r ≡ Err fault
StopsIn stop.ImpossibleAnswer r = r ≡ Err impossible_answer
StopsIn stop.WantOfMemory r = Unit {0}

abbrev pub GivesIn : {A B K : Type 0} → (A → B) → Result A (Stop K) → Result B Fault → Type 0
GivesIn view (Ok x) r = r ≡ Ok (view x)
GivesIn view (Err s) r = StopsIn s r

-- it stops at the first answer that ends the step
abbrev pub Judges : {A K O : Type 0} → Fits K O → List (Ask K) → List (Answer O) → Result A (Stop K)
    → Type 0
Judges fits asks answers r =
    Gives (λ _. with_answers asks answers) r
    (judged (first_stop fits asks answers) (with_answers asks answers))
