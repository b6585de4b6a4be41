use Rattle.std.proofs.Common.{◌≡◌}
use Rattle.build_stages.specs.Known.{advance_at}
use Rattle.step_pack.specs.Keys.{key_cmp}
use Rattle.step_answers.specs.Fits.{fits}
use Rattle.library_steps.specs.ModuleTrees.{choice_after, most_rounds}
use Rattle.library_steps.proofs.modules.rounds.Given as goal

abbrev pub invariant-loop-left : goal.invariant-loop-left
invariant-loop-left l = record {
  rest : advance_at key_cmp fits l.known (choice_after l.left l.«module» l.platform l.search.infs) ≡ advance_at key_cmp fits l.known (choice_after most_rounds l.«module» l.platform l.fn.first);
  user : l.search.user ≡ l.«module»;
  platform : l.search.platform ≡ l.platform;
}

abbrev pub decreases-loop-left : goal.decreases-loop-left
decreases-loop-left l = l.left
