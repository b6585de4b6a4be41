-- Where the files of an expansion come from: what is known of a path, and the paths that an include
-- names.
use Rattle.std.specs.Prelude.{ℕ, ◌+◌, nat_le, if◌then◌else◌, List, [], ◌∷◌, ◌++◌, length, Option, Some, None}
use Rattle.build_base.specs.declared.outside.Got.{Got}
use Rattle.build_base.specs.declared.outside.Got.TheVariants.{File, Absent, TooLong}
use Rattle.build_base.specs.Path.{folder_of}
use Rattle.macro_conditions.specs.declared.known.Known.{Known}
use Rattle.macro_expressions.specs.Macros.{same_text}

-- what is known of each path, where something is
abbrev pub Source : Type 0
Source = List ℕ → Option Got

-- the first answer for a path
unfoldable pub answer : List Known → List ℕ → Option Got
answer [] path = None
answer (known ∷ more) path = if same_text known.path path then Some known.got else answer more path

-- the file of this path in the folder, where the joined path has at most 2,048 bytes
abbrev pub in_folder : Option (List ℕ) → List ℕ → List (List ℕ)
in_folder None path = []
in_folder (Some folder) path = if nat_le (length folder + 1 + length path) 2048
    then (folder ++ 47 ∷ path) ∷ [] else []

-- the places of an included file: the workspace's root, and then the folder of the file that
-- includes it
unfoldable pub places : List ℕ → List ℕ → List (List ℕ)
places from path = path ∷ in_folder (folder_of from) path

-- what is known of the first place that has a file
pub data Located : Type 0 where
  wanted : List ℕ → Located
  missing : Located
  over_limit : List ℕ → Located
  there : List ℕ → List ℕ → Located

abbrev pub at_place : List ℕ → Option Got → Located
at_place path None = wanted path
at_place path (Some Absent) = missing
at_place path (Some TooLong) = over_limit path
at_place path (Some (File bytes)) = there path bytes

abbrev pub or_located : Located → Located → Located
or_located (wanted path) rest = wanted path
or_located missing rest = rest
or_located (over_limit path) rest = over_limit path
or_located (there path bytes) rest = there path bytes

abbrev pub located : Source → List (List ℕ) → Located
located known [] = missing
located known (path ∷ paths) = or_located (at_place path (known path)) (located known paths)
