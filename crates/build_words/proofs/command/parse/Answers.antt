use Rattle.std.proofs.Common.{rules}
use Rattle.build_words.proofs.CommandLemmas.{taken_where, rows_where, refused_where}
use Rattle.build_words.proofs.command.parse.Goals as goal

pub returns-in-Ok-clause-taken : goal.returns-in-Ok-clause-taken
returns-in-Ok-clause-taken c = taken_where _ _ c.in_ok-command.ensures c.in-Ok.ensures.kinds

pub returns-in-Ok-clause-rows : goal.returns-in-Ok-clause-rows
returns-in-Ok-clause-rows c = rows_where _ _ _ c.in_ok-command.ensures c.in-Ok.ensures.matches

pub returns : goal.returns
returns c = record {
  taken = refused_where _ _ c.in-Err.error c.in_ok-command.ensures c.in-Err.ensures.kinds (search rules);
  rows = tt;
}
