use Rattle.std.proofs.Common.{◌≡◌, ℕ, ◌<◌, ◌==◌, is_some, get_or}
use Rattle.doc_types.specs.declared.image.Part.{Part}
use Rattle.ffs_sections.proofs.sections.all_guids.Given as goal

abbrev pub invariant-loop-part : goal.invariant-loop-part
invariant-loop-part l = (k : ℕ) (d : Part) → k < l.part-index → is_some (get_or l.parts k d).guid ≡ ((get_or l.parts k d).kind == 0x18)
