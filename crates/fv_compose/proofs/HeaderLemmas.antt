-- The lengths of a volume's header and of what stands behind it.
use Rattle.std.proofs.Common.{◌≡◌, ℕ, ◌+◌, ◌-◌, ◌/◌, ◌++◌, Bool, true, false, [], ◌∷◌, List, length, refl, arith, length-append, ap, ◌∙◌, replicate, Some, None, append-nil}
use Rattle.build_base.specs.declared.guid.Guid.{Guid}
use Rattle.build_base.specs.Pieces.{Piece, put_pieces}
use Rattle.doc_types.specs.declared.volume_head.VolumeHead.{VolumeHead}
use Rattle.fv_compose.specs.Pads.{pad_header}
use Rattle.fv_compose.proofs.PadLemmas.{length_pad_header}
use Rattle.fv_compose.specs.Header.{head_of, head_list, head_front, head_start, head_back, zero_word, extended_place, extended_bytes, extended_pieces, start_pieces}
use Rattle.build_base.specs.Runs.{free_byte}

front_length : (ffs3 : Bool) (size attributes : ℕ) → length (head_front ffs3 size attributes) ≡ 50
unfolding head_front head_start
front_length true size attributes = refl
front_length false size attributes = refl

back_length : (sum extended blocks block_size : ℕ) → length (head_back sum extended blocks block_size) ≡ 22
unfolding head_back
back_length sum extended blocks block_size = refl

list_length : (plan : VolumeHead) (size sum : ℕ) → length (head_list plan size sum) ≡ 72
unfolding head_list
list_length plan size sum =
    let f = front_length plan.ffs3 size plan.attributes in
    let b = back_length sum (extended_place plan.name_guid) (size / plan.block_size) plan.block_size in
    length-append (head_front plan.ffs3 size plan.attributes) (head_back sum (extended_place plan.name_guid) (size / plan.block_size) plan.block_size) ∙ omega arith

pub head_length : (plan : VolumeHead) (size : ℕ) → length (head_of plan size) ≡ 72
unfolding head_of
head_length plan size = list_length plan size (zero_word (head_list plan size 0))

pub extended_length : (erase : ℕ) (name : List ℕ) → length (extended_bytes erase name) ≡ length name + 28
unfolding extended_bytes
extended_length erase name =
    let h : length (pad_header erase 44) ≡ 24 = length_pad_header erase 44 in simp length-append (omega arith)

pub written : (free erase : ℕ) (head : List ℕ) (name : Guid) → length head ≡ 72
    → put_pieces free [] (record { start = 0; bytes = head } ∷ extended_pieces erase (Some name)) ≡ head ++ extended_bytes erase name.0
unfolding put_pieces
written free erase head name h =
    let e : replicate (72 - length head) free ≡ [] = ap (λ n. replicate (72 - n) free) h in
    ap (λ z. (head ++ z) ++ extended_bytes erase name.0) e ∙ ap (λ z. z ++ extended_bytes erase name.0) (append-nil head)

pub start_plain : (plan : VolumeHead) (size : ℕ) → plan.name_guid ≡ None → put_pieces (free_byte plan.erase) [] (start_pieces plan size) ≡ head_of plan size
unfolding start_pieces put_pieces
start_plain plan size n =
    let head : Piece = record { start = 0; bytes = head_of plan size } in
    ap (λ g. put_pieces (free_byte plan.erase) [] (head ∷ extended_pieces plan.erase g)) n

pub start_named : (plan : VolumeHead) (size : ℕ) (name : Guid) → plan.name_guid ≡ Some name → put_pieces (free_byte plan.erase) [] (start_pieces plan size) ≡ head_of plan size ++ extended_bytes plan.erase name.0
unfolding start_pieces
start_named plan size name n =
    let head : Piece = record { start = 0; bytes = head_of plan size } in
    ap (λ g. put_pieces (free_byte plan.erase) [] (head ∷ extended_pieces plan.erase g)) n ∙ written (free_byte plan.erase) plan.erase (head_of plan size) name (head_length plan size)
