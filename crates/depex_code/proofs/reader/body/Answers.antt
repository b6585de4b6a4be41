use Rattle.std.proofs.Common.{◌≡◌, ◌∷◌, [], ap, arith}
use Rattle.depex_code.specs.Tree.{tree_of, nest}
use Rattle.depex_code.specs.Postfix.{trees}
use Rattle.depex_code.proofs.PostfixBodies.{body_runs, body_only, body_is, body_some}
use Rattle.depex_code.proofs.reader.body.Goals as goal

pub returns-in-None : goal.returns-in-None
returns-in-None c = λ t b.
    let r = rw c.in-None.is at c.in_ok-stack.ensures in
    r (t ∷ []) (body_runs c.args.bytes.now c.args.extra t b) (omega (arith, b.short, c.requires))

pub returns-in-None-only : goal.returns-in-None-only
returns-in-None-only c = λ t b.
    let r = rw c.in-Some.is at c.in_ok-stack.ensures in
    c.in-None-only.ensures t (body_only c.args.bytes.now c.args.extra t (trees c.in-Some.stack.items) r.0 b)

pub returns-then-held-extra : goal.returns-then-held-extra
returns-then-held-extra c = λ t b.
    let r = rw c.in-Some.is at c.in_ok-stack.ensures in
    let e : t ≡ tree_of c.in-Some-only.held.tree = body_is c.args.bytes.now c.args.extra t (tree_of c.in-Some-only.held.tree) (trees c.in-Some.stack.items) r.0 c.in-Some-only.ensures b in
    let n : nest t ≡ nest (tree_of c.in-Some-only.held.tree) = ap nest e in
    absurd (omega (arith, b.shallow, n, c.in-Some-only.held.counted, c.if-held-extra.true))

pub returns : goal.returns
returns c =
    let r = rw c.in-Some.is at c.in_ok-stack.ensures in
    body_some c.args.bytes.now c.args.extra (tree_of c.in-Some-only.held.tree) (trees c.in-Some.stack.items) r.0 c.in-Some-only.ensures
    (omega (arith, c.in-Some-only.held.counted, c.if-held-extra.false, c.requires)) (omega (arith, r.1, c.requires))
