-- The form of a path: segments joined by single slashes.
use Rattle.std.specs.Prelude.{◌==◌, ◌≤◌, ◌-◌, ◌||◌, ◌&&◌, not, Bool, ℕ, nat_le, nat_lt, List, length, take, IsTrue, Option, Some, None, if◌then◌else◌}
use Rattle.std.specs.List.{slice_split, list_all, suffix_len}

abbrev pub is_between : ℕ → ℕ → ℕ → Bool
is_between low high byte = nat_le low byte && nat_le byte high

-- letters, digits, `_`, `-`, `+`, `.`
unfoldable pub is_path_byte : ℕ → Bool
is_path_byte byte =
    is_between 97 122 byte || is_between 65 90 byte || is_between 48 57 byte || byte == 95
    || byte == 45 || byte == 43 || byte == 46

-- nothing, `.` or `..`
unfoldable pub is_dots : List ℕ → Bool
is_dots segment = nat_le (length segment) 2 && list_all (λ byte. byte == 46) segment

unfoldable pub is_segment : List ℕ → Bool
is_segment segment = list_all is_path_byte segment && not (is_dots segment)

unfoldable pub is_path : List ℕ → Bool
is_path text = list_all is_segment (slice_split (λ byte. byte == 47) text)

abbrev pub IsPath : List ℕ → Type 0
IsPath text = IsTrue (is_path text)

-- as a field of a document: at most 512 bytes
pub record IsPathField (text : List ℕ) : Type 0 where
  pub segments : IsPath text
  pub short : length text ≤ 512

-- the path that a field of a document names
abbrev pub path_field : List ℕ → Option (List ℕ)
path_field text = if is_path text && nat_le (length text) 512 then Some text else None

-- how long a path is up to and with its last slash
abbrev pub folder_size : List ℕ → ℕ
folder_size path = length path - suffix_len (λ byte. not (byte == 47)) path

-- the folder of a file, where it isn't the root
abbrev pub folder_of : List ℕ → Option (List ℕ)
folder_of path = if nat_lt 0 (folder_size path) then Some (take (folder_size path - 1) path)
    else None
