use Rattle.library_choice.proofs.front.advance.Goals as goal

pub returns : goal.returns
returns c = λ starts front. record {
  known = c.in_ok-at.ensures.known front.known;
  stands = c.in_ok-at.ensures.stands starts front.stands;
}
