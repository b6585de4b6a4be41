use Rattle.std.proofs.Common.{◌≡◌, ◌++◌, drop}
use Rattle.dsc_lines.proofs.pcd_store.copied_texts.Given as goal

abbrev pub invariant-loop-text : goal.invariant-loop-text
invariant-loop-text l = l.rows ++ drop l.text-index l.texts ≡ l.texts
