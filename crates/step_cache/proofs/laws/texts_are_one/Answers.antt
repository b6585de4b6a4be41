-- Laws of texts.
use Rattle.step_cache.proofs.CacheLemmas.{same_cache}
use Rattle.step_cache.proofs.TextLemmas.{cut_text, edition_stands, other_text, same_edition}
use Rattle.step_cache.proofs.laws.texts_are_one.Goals as goal

pub returns-clause-edition : goal.returns-clause-edition
returns-clause-edition c = same_edition

pub returns-clause-cache : goal.returns-clause-cache
returns-clause-cache c = same_cache

pub returns-clause-cut : goal.returns-clause-cut
returns-clause-cut c = cut_text

pub returns-clause-stands : goal.returns-clause-stands
returns-clause-stands c = edition_stands

pub returns-clause-other : goal.returns-clause-other
returns-clause-other c = other_text
