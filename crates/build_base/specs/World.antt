-- A world of a build: the files of a workspace, and the fields of a job.
use Rattle.std.specs.Prelude.{ℕ, List, [], slice_index_or}
use Rattle.build_base.specs.Outside.{Files, got_of}
use Rattle.build_base.specs.declared.outside.Got.{Got}

pub record World : Type 0 where
  pub files : Files
  pub fields : List (List ℕ)

-- the most bytes that a file may have to be read
abbrev pub file_limit : ℕ
file_limit = 67108864

-- what a build gets of a path in a world
abbrev pub got : World → List ℕ → Got
got w path = got_of file_limit (w.files path)

-- a field of the job; one that isn't there is empty
abbrev pub field : World → ℕ → List ℕ
field w i = slice_index_or w.fields i []
