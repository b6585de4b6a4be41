-- The lengths of pad files.
use Rattle.std.proofs.Common.{◌≡◌, ℕ, ◌-◌, ◌≤◌, ◌<◌, Bool, true, false, length, refl, arith, length-append, replicate, nat_lt}
use Rattle.std.proofs.lemmas.List.{length-replicate}
use Rattle.std.proofs.lemmas.Bool.Decides.{nat_tests}
use Rattle.build_base.specs.Runs.{free_byte}
use Rattle.ffs_sections.specs.File.{head_len}
use Rattle.ffs_sections.proofs.HeadLemmas.{length_head}
use Rattle.fv_compose.specs.Pads.{is_large_pad, pad_header, pad_bytes}

pub length_pad_header : (erase size : ℕ) → length (pad_header erase size) ≡ head_len (is_large_pad size)
length_pad_header erase size = length_head (is_large_pad size) (replicate 16 255) _ refl

-- a pad of at least 24 bytes has room for its header
room_in : (b : Bool) (size : ℕ) → nat_lt 0xFFFFFF size ≡ b → 24 ≤ size → head_len b ≤ size
room_in true size e h =
    let lt : 0xFFFFFF < size = grind (arith, nat_tests) in
    let g : 32 ≤ size = omega arith in
    g
room_in false size e h = h

pub pad_room : (size : ℕ) → 24 ≤ size → head_len (is_large_pad size) ≤ size
pad_room size h = room_in (is_large_pad size) size refl h

short_head_len : (b : Bool) → head_len b ≤ 32
short_head_len true = let g : 32 ≤ 32 = omega arith in g
short_head_len false = let g : 24 ≤ 32 = omega arith in g

pub pad_head_short : (size : ℕ) → head_len (is_large_pad size) ≤ 32
pad_head_short size = short_head_len (is_large_pad size)

pub length_pad : (erase size : ℕ) → 24 ≤ size → length (pad_bytes erase size) ≡ size
unfolding pad_bytes
length_pad erase size h =
    let n : ℕ = head_len (is_large_pad size) in
    let r : n ≤ size = pad_room size h in
    let a : length (pad_header erase size) ≡ n = length_pad_header erase size in
    let b : length (replicate (size - n) (free_byte erase)) ≡ size - n = length-replicate (size - n) (free_byte erase) in
    let l = length-append (pad_header erase size) (replicate (size - n) (free_byte erase)) in
    omega arith
