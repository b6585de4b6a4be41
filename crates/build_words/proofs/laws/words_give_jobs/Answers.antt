use Rattle.build_words.proofs.WordLemmas.{words_have}
use Rattle.build_words.proofs.laws.words_give_jobs.Goals as goal

pub returns : goal.returns
returns c = words_have
