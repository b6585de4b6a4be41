-- A file that stands ready to be written, by its path and its bytes.
use Rattle.std.specs.Prelude.{ℕ, List}
use Rattle.build_base.specs.Spelling.{Output, file}

pub record FilePair : Type 0 where
  pub path : List ℕ
  pub bytes : List ℕ

abbrev pub output_of : FilePair → Output
output_of pair = file pair.path pair.bytes
