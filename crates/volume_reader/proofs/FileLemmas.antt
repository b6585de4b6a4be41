-- The body of a file.
use Rattle.std.proofs.Common.{ℕ, ◌+◌, ◌≤◌, List, length, take, arith, length-drop}
use Rattle.std.proofs.lemmas.List.{length-take-le}
use Rattle.ffs_sections.specs.File.{header_len}
use Rattle.volume_reader.specs.Files.{stated_size, body_in, HasBody}

-- it lies behind the header, within the bytes
pub body_short : (bytes : List ℕ) → HasBody bytes → header_len bytes + length (body_in bytes) ≤ length bytes
unfolding body_in
body_short bytes h =
    let d = length-drop (header_len bytes) (take (stated_size bytes) bytes) in
    let t = length-take-le (stated_size bytes) bytes h.inside in
    let l = h.least in
    let i = h.inside in omega arith
