-- Asks with their answers, and how one of them is looked for. The rules are this project's own.
use Rattle.std.specs.Prelude.{◌≡◌, ℕ, ◌<◌, Bool, true, List, length, Some, slice_get}
use Rattle.std.specs.Option.{option_map}
use Rattle.std.specs.declared.cmp.Ordering.{Ordering}
use Rattle.step_engine.specs.declared.talk.Ask.{Ask}
use Rattle.step_engine.specs.declared.talk.Answer.{Answer}
use Rattle.build_stages.specs.Writing.{is_file, is_field, is_part}
use Rattle.build_stages.specs.declared.given.Wanted.{Wanted}
use Rattle.build_stages.specs.declared.given.Wanted.TheVariants as wanted

-- each ask has an answer, and the same ask the same one
pub record AreAnswered {K O : Type 0} (asks : List (Ask K)) (answers : List (Answer O)) : Type 0 where
  pub each : length answers ≡ length asks
  pub same : (i j : ℕ) → i < length asks → slice_get asks i ≡ slice_get asks j
      → slice_get answers i ≡ slice_get answers j

-- such an ask stands at a place
abbrev pub IsPlace : {K : Type 0} → (Ask K → Bool) → List (Ask K) → ℕ → Type 0
IsPlace is asks i = option_map is (slice_get asks i) ≡ Some true

-- which asks are looked for
abbrev pub is_wanted : {K : Type 0} → (K → K → Ordering) → Wanted K → Ask K → Bool
is_wanted cmp (wanted.File path) = is_file path.now
is_wanted cmp (wanted.Field i) = is_field i
is_wanted cmp (wanted.Part k) = is_part cmp k.now
