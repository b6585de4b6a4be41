use Rattle.std.proofs.Common.{◌≡◌, ◌+◌, drop}
use Rattle.std.specs.List.{position_or_len}
use Rattle.fdf_words.specs.Words.{ends_word}
use Rattle.fdf_words.proofs.words.word_end.Given as goal

abbrev pub invariant-loop-i : goal.invariant-loop-i
invariant-loop-i l = l.i + position_or_len ends_word (drop l.i l.text) ≡ position_or_len ends_word l.text
