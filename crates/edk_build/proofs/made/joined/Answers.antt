use Rattle.std.proofs.Common.{rules, ◌≡◌, ◌++◌, ◌∷◌, []}
use Rattle.edk_build.proofs.MadeLemmas.{below_is_path}
use Rattle.edk_build.proofs.made.joined.Goals as goal

pub unreachable-requires : goal.unreachable-requires
unreachable-requires c =
    let whole : c.from_vec.result ≡ (c.args.folder.now ++ 47 ∷ []) ++ c.args.path.now = search (rules) in
    below_is_path c.args.folder.now c.args.path.now c.from_vec.result c.bytes.ensures.form c.bytes-2.ensures.form whole c.in-None.ensures
