use Rattle.std.proofs.Common.{List, ℕ, ap, ◌∙◌, rules, nat_eq, not}
use Rattle.std.specs.Cmp.Lexicographic.{pointwise}
use Rattle.std.proofs.lemmas.Fn.{filter_same}
use Rattle.build_base.specs.MemoryTree.{file_at}
use Rattle.build_base.proofs.MemoryTreeLemmas.{file_at-drop}
use Rattle.build_base.proofs.memory_tree.drop_from.Goals as goal

pub returns : goal.returns
returns c =
    let path : List ℕ = c.args.path.now in
    let kept = filter_same _ (λ entry. not (pointwise nat_eq entry.path path)) _ (λ x b f' k. search rules) c.args.files.now c.retain.new.self c.retain.ensures in
    ap file_at kept ∙ file_at-drop c.args.files.now path
