use Rattle.std.proofs.Common.{sym, ◌∙◌, take, drop, length, ◌-◌, option_map}
use Rattle.depex_code.specs.Tree.{tree_of}
use Rattle.depex_code.proofs.PostfixBodies.{plain_form, sor_form, nine, not_nine}
use Rattle.depex_code.proofs.reader.read_front.Goals as goal

pub returns : goal.returns
returns c = plain_form c.args.front.now (option_map tree_of c.in_ok-read-2.read) (not_nine c.args.front.now (sym c.begins_with_sor-sor.ensures ∙ c.if-sor.false)) c.in_ok-read-2.ensures

pub returns-then-sor : goal.returns-then-sor
returns-then-sor c =
    let e = nine c.args.front.now (sym c.begins_with_sor-sor.ensures ∙ c.if-sor.true) in
    sor_form c.args.front.now (take (length c.args.front.now - 1) (drop 1 c.args.front.now)) (option_map tree_of c.in_ok-read.read) e.1 c.in_ok-read.ensures
