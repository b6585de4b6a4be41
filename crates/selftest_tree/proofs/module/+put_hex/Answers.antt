use Rattle.std.proofs.Common.{sym, ap, ◌∙◌, ◌-◌, ◌/◌, ◌%◌, ◌++◌, ◌∷◌, [], append_assoc}
use Rattle.selftest_tree.specs.Texts.{hex_digit, hex_digits}
use Rattle.selftest_tree.proofs.HexLemmas.{hex_more}
use Rattle.selftest_tree.proofs.module.+put_hex.Goals as goal

pub returns : goal.returns
returns t c =
    c.in_ok-put_digit.ensures ∙ ap (λ z. z ++ hex_digit (c.args.k % 16) ∷ []) c.in_ok-put_hex.ensures
    ∙ append_assoc c.args.out.now.items (hex_digits (c.args.count - 1) (c.args.k / 16)) (hex_digit (c.args.k % 16) ∷ [])
    ∙ ap (λ z. c.args.out.now.items ++ z) (sym (hex_more c.args.count c.args.k c.if-count-eq0.false))
