use Rattle.library_choice.proofs.RoundLemmas.{falls}
use Rattle.library_choice.proofs.wanted.next_wanted.Goals as goal

pub returns-in_err-copy-clause-falls : goal.returns-in_err-copy-clause-falls
returns-in_err-copy-clause-falls c = falls c.args.«module».now c.args.platform.now c.args.infs.now

pub returns-in_err-search-clause-falls : goal.returns-in_err-search-clause-falls
returns-in_err-search-clause-falls c = falls c.args.«module».now c.args.platform.now c.args.infs.now

pub returns-in_err-wanted-clause-falls : goal.returns-in_err-wanted-clause-falls
returns-in_err-wanted-clause-falls c = falls c.args.«module».now c.args.platform.now c.args.infs.now

pub returns-clause-falls : goal.returns-clause-falls
returns-clause-falls c = falls c.args.«module».now c.args.platform.now c.args.infs.now
