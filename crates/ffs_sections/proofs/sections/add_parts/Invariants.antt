use Rattle.std.proofs.Common.{◌≡◌, drop}
use Rattle.ffs_sections.specs.Sections.{with_parts}
use Rattle.ffs_sections.proofs.sections.add_parts.Given as goal

abbrev pub invariant-loop-part : goal.invariant-loop-part
invariant-loop-part l =
    with_parts l.ffs3 l.place l.fn.out.items l.parts ≡ with_parts l.ffs3 l.place l.out.items (drop l.part-index l.parts)
