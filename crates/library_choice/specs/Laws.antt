-- What makes the definitions worth having: laws that `choose` and `next_wanted` tell.
use Rattle.std.specs.Prelude.{◌≡◌, ℕ, Bool, true, false, List, Some, None}
use Rattle.std.specs.List.{filter_map}
use Rattle.doc_types.specs.declared.choice.Module.{Module}
use Rattle.doc_types.specs.declared.module.InfDoc.{InfDoc}
use Rattle.doc_types.specs.declared.platform.PlatformDoc.{PlatformDoc}
use Rattle.doc_types.specs.declared.platform.LibraryLine.{LibraryLine}
use Rattle.line_ranks.specs.declared.user.Consumer.{Consumer}
use Rattle.build_base.specs.Best.{best, Greatest}
use Rattle.library_choice.specs.Choices.{callers, reach, before, places, loop_fault}
use Rattle.library_choice.specs.Closure.{same_path, known, instance_of, next, nulls, instances, are_few, is_library, setting_of}
use Rattle.library_choice.specs.Found.{IsFound}
use Rattle.library_choice.specs.Lines.{Setting, weight}
use Rattle.library_calls.specs.Order.{IsCallOrder, call_order}

-- calls that don't need each other come in the least order that respects what must come before what
abbrev pub IsLeastOrder : Setting → List (List ℕ) → Type 0
IsLeastOrder s found =
    loop_fault (reach s (callers s.infs found)) (callers s.infs found) ≡ None
    → IsCallOrder (before (reach s (callers s.infs found))) (places (callers s.infs found))
    (call_order (before (reach s (callers s.infs found))) (places (callers s.infs found)))

-- what is found is found by walks of any number of steps from the number of the found on
pub record IsLawful (s : Setting) (inf : InfDoc) : Type 0 where
  pub whole : IsFound same_path (next s) (filter_map (instance_of s) inf.classes) (nulls s)
      (instances s inf)
  pub least : IsLeastOrder s (instances s inf)

abbrev pub AreLawful : Module → PlatformDoc → List InfDoc → Type 0
AreLawful user platform infs =
    (inf : InfDoc) → known infs user.inf ≡ Some inf → is_library inf ≡ false
    → are_few (setting_of user platform infs inf) inf ≡ true
    → IsLawful (setting_of user platform infs inf) inf

-- the line of a class is the greatest by rank, and of one rank the last
abbrev pub IsByRank : Consumer → Bool → List ℕ → List LibraryLine → Type 0
IsByRank user own class lines =
    Greatest (weight user own class) lines (best (weight user own class) lines)
