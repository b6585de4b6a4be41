use Rattle.std.proofs.Common.{ap, sym, ◌∙◌, ◌++◌, append-nil, arith, Ok, Err, cond}
use Rattle.meta_lexer.specs.Fields.{open_quote}
use Rattle.meta_lexer.specs.Tokens.{tokens_of, tokens_after}
use Rattle.meta_lexer.proofs.TokenLemmas.{tokens_end}
use Rattle.meta_lexer.proofs.token.tokens.Goals as goal

pub returns-clause-tokens : goal.returns-clause-tokens
unfolding tokens_of
returns-clause-tokens c =
    let all = sym c.loop-i.invariant.so_far ∙ ap (λ ts. c.loop-i.found.items ++ ts) (tokens_end c.loop-i.i c.args.text.now c.loop-i.i (omega arith)) ∙ append-nil c.loop-i.found.items in
    ap (λ b. cond b (Err (open_quote c.args.text.now)) (Ok (tokens_after 0 0 c.args.text.now))) (sym c.ends_quoted.ensures ∙ c.if-ends_quoted.false) ∙ ap (λ ts. Ok ts) all
