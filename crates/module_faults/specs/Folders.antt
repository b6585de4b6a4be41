-- How long the folder of a build may be; the limits are this project's own.
use Rattle.std.specs.Prelude.{◌≡◌, ℕ, ◌==◌, ◌||◌, true, List, length}
use Rattle.job_fields.specs.Values.{is_name}

-- the most bytes of a build's folder: those of OUTPUT_DIRECTORY, a slash, and two names of 64 bytes
-- with a `_` between them
abbrev pub folder_limit : ℕ
folder_limit = 642

-- the name of a target or a tag, where one is given
abbrev pub IsNameOrNone : List ℕ → Type 0
IsNameOrNone text = (length text == 0 || is_name text) ≡ true
