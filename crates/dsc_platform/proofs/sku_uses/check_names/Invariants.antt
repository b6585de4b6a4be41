use Rattle.std.proofs.Common.{◌≡◌, ℕ, List, drop}
use Rattle.meta_lexer.specs.Faults.{first_fault}
use Rattle.dsc_lines.specs.SkuNames.{Placed}
use Rattle.dsc_platform.specs.SkuUses.{unknown}
use Rattle.dsc_platform.proofs.sku_uses.check_names.Given as goal

abbrev pub invariant-loop-field : goal.invariant-loop-field
invariant-loop-field l = (ns : List (List ℕ)) → Placed ns l.names → first_fault (unknown l.at ns) (drop l.field-index l.fields) ≡ first_fault (unknown l.at ns) l.fields
