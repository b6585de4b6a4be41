-- The first fault over a list, or what each item makes.
use Rattle.std.specs.Prelude.{◌≡◌, ℕ, List, [], ◌∷◌, map, Option, None, Result, Ok, Err}
use Rattle.build_base.specs.First.{or_else, unless}
use Rattle.meta_lexer.specs.declared.refusal.LexRefusal.{LexRefusal}
use Rattle.meta_lexer.specs.declared.refusal.LexRefusal.TheVariants.{Bad, WantOfMemory}

-- where a fault stands
pub record Spot : Type 0 where
  pub code : ℕ
  pub line : ℕ
  pub start : ℕ
  pub end : ℕ

-- the first fault of the items, if any has one
abbrev pub first_fault : {A F : Type 0} → (A → Option F) → List A → Option F
first_fault fault [] = None
first_fault fault (x ∷ xs) = or_else (fault x) (first_fault fault xs)

-- what each item makes, where none has a fault
abbrev pub each_or_first : {A B F : Type 0} → (A → Option F) → (A → B) → List A → Result (List B) F
each_or_first fault make xs = unless (first_fault fault xs) (map make xs)

-- What a function returned, seen by view, is what the definition gives, unless memory ran out.
abbrev pub Fails : {Y : Type 0} → LexRefusal → Result Y Spot → Type 0
Fails WantOfMemory read = Unit {0}
Fails (Bad code line start end) read = read
    ≡ Err (record { code = code; line = line; start = start; end = end })

abbrev pub ReadsAs : {X Y : Type 0} → (X → Y) → Result X LexRefusal → Result Y Spot → Type 0
ReadsAs view (Ok x) read = read ≡ Ok (view x)
ReadsAs view (Err e) read = Fails e read
