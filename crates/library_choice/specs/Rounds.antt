-- A number that falls from round to round, where each round makes the INF files known that were
-- wanted.
use Rattle.std.specs.Prelude.{◌≡◌, ℕ, ◌-◌, ◌<◌, true, List, ◌++◌, length, filter, Option, Some, None, if◌then◌else◌}
use Rattle.doc_types.specs.declared.choice.Module.{Module}
use Rattle.doc_types.specs.declared.module.InfDoc.{InfDoc}
use Rattle.doc_types.specs.declared.platform.PlatformDoc.{PlatformDoc}
use Rattle.library_choice.specs.Closure.{known, is_known, instances, are_few, is_library, same_path, setting_of, wanted}
use Rattle.library_choice.specs.Found.{is_in}
use Rattle.library_choice.specs.Lines.{Setting}

-- how many of the instances that a module may have aren't found and known yet
unfoldable pub unknown_left : Setting → InfDoc → ℕ
unknown_left s inf =
    if are_few s inf then 1025 - length (filter (is_known s.infs) (instances s inf)) else 0

abbrev pub left_for : Module → PlatformDoc → List InfDoc → Option InfDoc → ℕ
left_for user platform infs None = 0
left_for user platform infs (Some inf) =
    if is_library inf then 0 else unknown_left (setting_of user platform infs inf) inf

unfoldable pub rounds_left : Module → PlatformDoc → List InfDoc → ℕ
rounds_left user platform infs = left_for user platform infs (known infs user.inf)

-- it falls where something is wanted, once all that is wanted is known
abbrev pub Falls : Module → PlatformDoc → List InfDoc → Type 0
Falls user platform infs =
    (more : List InfDoc) → 0 < length (wanted user platform infs)
    → ((path : List ℕ) → is_in same_path (wanted user platform infs) path ≡ true
    → is_known (infs ++ more) path ≡ true)
    → rounds_left user platform (infs ++ more) < rounds_left user platform infs
