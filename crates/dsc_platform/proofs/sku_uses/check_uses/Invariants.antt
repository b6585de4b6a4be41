use Rattle.std.proofs.Common.{◌≡◌, ◌≤◌, ℕ, List, drop, length}
use Rattle.std.specs.List.{list_any}
use Rattle.build_base.specs.Answer.{Checks}
use Rattle.dsc_lines.specs.SkuNames.{Placed}
use Rattle.dsc_platform.specs.SkuUses.{uses_fault, is_chosen}
use Rattle.dsc_platform.proofs.sku_uses.check_uses.Given as goal

abbrev pub invariant-loop-left : goal.invariant-loop-left
invariant-loop-left l = record {
  within : l.left ≤ length l.uses;
  chosen : l.chosen ≡ list_any is_chosen (drop l.left l.uses);
  found : (ns : List (List ℕ)) → Placed ns l.names → Checks l.found (uses_fault ns (drop l.left l.uses));
}

abbrev pub decreases-loop-left : goal.decreases-loop-left
decreases-loop-left l = l.left
