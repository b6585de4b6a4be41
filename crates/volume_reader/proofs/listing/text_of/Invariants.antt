use Rattle.std.proofs.Common.{◌≡◌, ◌++◌, length}
use Rattle.std.specs.List.{flat_map}
use Rattle.volume_reader.specs.Listing.{found_text}
use Rattle.volume_reader.proofs.listing.text_of.Given as goal

abbrev pub invariant-loop-left : goal.invariant-loop-left
invariant-loop-left l = l.out.items ++ flat_map (found_text l.bytes) l.left ≡ flat_map (found_text l.bytes) l.volumes

abbrev pub decreases-loop-left : goal.decreases-loop-left
decreases-loop-left l = length l.left
