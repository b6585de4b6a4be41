use Rattle.std.proofs.Common.{ap, sym, ◌∙◌, ◌+◌, [], ◌∷◌, ◌++◌, drop}
use Rattle.meta_lexer.specs.Tokens.{tokens_after, token_at, front_view}
use Rattle.meta_lexer.proofs.TokenLemmas.{front_blank, front_token, found_more}
use Rattle.meta_lexer.proofs.token.push_front.Goals as goal

pub returns-then-is_blank-clause-tokens : goal.returns-then-is_blank-clause-tokens
returns-then-is_blank-clause-tokens c =
    ap (λ ts. c.args.found.now.items ++ ts) (front_blank c.args.at c.args.rest.now c.requires.some (sym c.is_blank.ensures ∙ c.if-is_blank.true))

pub returns-in-Ok-clause-tokens : goal.returns-in-Ok-clause-tokens
returns-in-Ok-clause-tokens c =
    let front = front_view c.read_front-front.result in
    found_more c.args.found.now.items c.push.new.self.items (token_at c.args.at front ∷ []) (tokens_after (c.args.at + front.size) 0 (drop front.size c.args.rest.now)) (tokens_after c.args.at 0 c.args.rest.now)
    c.in-Ok.ensures.items
    (front_token c.args.at c.args.rest.now front c.requires.some (sym c.is_blank.ensures ∙ c.if-is_blank.false) c.read_front-front.ensures.front c.read_front-front.ensures.some)
