use Rattle.meta_lexer.proofs.PieceLemmas.{pieces_cut_at}
use Rattle.meta_lexer.proofs.line.split_line.Goals as goal

pub returns-then-i-rest-clause-pieces : goal.returns-then-i-rest-clause-pieces
returns-then-i-rest-clause-pieces c = λ n at. pieces_cut_at c.args.rest.now n at c.feed_at-i.result c.feed_at-i.ensures.at c.if-i-rest.true
