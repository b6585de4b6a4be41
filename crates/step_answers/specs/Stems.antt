-- The path of a module without the extension of its INF file, below which its outputs stand (EDK II
-- Build specification, build output; which part of a name is its extension is this project's own
-- rule).
use Rattle.std.specs.Prelude.{ℕ, ◌-◌, ◌+◌, ◌==◌, not, if◌then◌else◌, List, length, take, drop}
use Rattle.std.specs.List.{list_all, suffix_len}

-- how many bytes of a text stand up to and with the last of a kind
abbrev pub size_to : ℕ → List ℕ → ℕ
size_to byte text = length text - suffix_len (λ b. not (b == byte)) text

-- the last segment of a path
abbrev pub last_name : List ℕ → List ℕ
last_name path = drop (size_to 47 path) path

-- what stands before the last dot of a name, nothing where it has none
abbrev pub before_dot : List ℕ → List ℕ
before_dot name = take (size_to 46 name - 1) name

-- A name's extension begins at its last dot. Where nothing but dots stands before that, the name
-- has none.
unfoldable pub stem_of : List ℕ → List ℕ
stem_of path =
    if list_all (λ b. b == 46) (before_dot (last_name path)) then path
    else take (size_to 47 path + (size_to 46 (last_name path) - 1)) path
