use Rattle.std.proofs.Common.{sym, rules}
use Rattle.std.proofs.lemmas.Grind.{common_steps}
use Rattle.build_base.proofs.MemoryTreeLemmas.{file_at-put, file_at-add}
use Rattle.build_base.proofs.memory_tree.put_in.Goals as goal

pub returns-in-Some-clause-ok : goal.returns-in-Some-clause-ok
returns-in-Some-clause-ok c = rw c.set.ensures (file_at-put c.args.files.now c.in-Some.place c.args.path c.args.bytes (rw c.items.ensures at (sym c.in-Some.ensures)))

pub returns-in-None-clause-ok : goal.returns-in-None-clause-ok
returns-in-None-clause-ok c = grind (rules, common_steps, c.push.ensures.ok, file_at-add c.args.files.now c.args.path c.args.bytes (rw c.items.ensures at (sym c.in-None.ensures)))
