-- Faults and outcomes found one after another.
use Rattle.std.proofs.Common.{◌≡◌, ap, ◌∙◌, Option, None, Result, Ok}
use Rattle.build_base.specs.declared.fault.Fault.{Fault}
use Rattle.build_base.specs.declared.refusal.Refusal.{Refusal}
use Rattle.build_base.specs.declared.refusal.Refusal.TheVariants.{Bad, WantOfMemory}
use Rattle.build_base.specs.First.{or_else, and_then}
use Rattle.build_base.specs.Answer.{Finds, Refused}

-- a fault found first is that of the whole
pub finds_first : (e : Refusal) (a b all : Option Fault) → all ≡ or_else a b → Finds e a → Finds e all
finds_first (Bad fault) a b all h k = h ∙ ap (λ z. or_else z b) k
finds_first WantOfMemory a b all h k = tt

-- where there is none, the fault of the whole is that of the rest
pub finds_rest : (a b all : Option Fault) → all ≡ or_else a b → a ≡ None → all ≡ b
finds_rest a b all h k = h ∙ ap (λ z. or_else z b) k

-- a refusal of the first step is that of the whole
pub refused_first : {A B : Type 0} (e : Refusal) (more : A → Result B Fault) (first : Result A Fault) (whole : Result B Fault) → whole ≡ and_then first more → Refused e first → Refused e whole
refused_first (Bad fault) more first whole h k = h ∙ ap (λ z. and_then z more) k
refused_first WantOfMemory more first whole h k = tt

-- where it gives a value, the whole is what comes of that value
pub answers_rest : {A B : Type 0} (more : A → Result B Fault) (first : Result A Fault) (whole : Result B Fault) (x : A) → whole ≡ and_then first more → first ≡ Ok x → whole ≡ more x
answers_rest more first whole x h e = h ∙ ap (λ z. and_then z more) e
