-- Blocks of a directory, one after another.
use Rattle.std.proofs.Common.{◌≡◌, ℕ, suc, ◌+◌, ◌-◌, ◌≤◌, true, false, List, [], ◌∷◌, ◌++◌, length, drop, Result, Ok, Err, refl, ap, sym, ◌∙◌, arith, append_assoc, append-nil, length-append, length-drop}
use Rattle.build_base.specs.First.{with_front}
use Rattle.build_base.specs.declared.fault.Place.{Place}
use Rattle.build_base.specs.declared.fault.Fault.{Fault}
use Rattle.ffs_sections.specs.Sections.{fault_with_size}
use Rattle.image_rebase.specs.declared.blocks.Block.{Block}
use Rattle.image_rebase.specs.Blocks.{block_size, is_wrong_size, is_end, block_at, blocks_from, blocks_of}
use Rattle.build_base.specs.FaultCodes.{RELOC_BLOCK}

abbrev done : {B F : Type 0} → List B → Result (List B) F
done xs = Ok xs

front_one : {B F : Type 0} (front : List B) (x : B) (o : Result (List B) F) → with_front front (with_front (x ∷ []) o) ≡ with_front (front ++ x ∷ []) o
front_one {B = B} {F = F} front x (Ok xs) = ap (done {B = B} {F = F}) (sym (append_assoc front (x ∷ []) xs))
front_one front x (Err f) = refl

-- a turn: the blocks so far, and those that are left
abbrev pub SoFar : Place → List ℕ → List Block → ℕ → List ℕ → Type 0
SoFar place directory blocks at left =
    blocks_of place directory ≡ with_front blocks (blocks_from (length directory + 1 - length blocks) place at left)

one_more : (n : ℕ) (place : Place) (at : ℕ) (left : List ℕ) → is_end left ≡ false → is_wrong_size (block_size left) (length left) ≡ false
    → blocks_from (suc n) place at left ≡ with_front (block_at at left ∷ []) (blocks_from n place (at + block_size left) (drop (block_size left) left))
unfolding blocks_from
one_more n place at left e w = rw (e, w) refl

end_here : (n : ℕ) (place : Place) (at : ℕ) (left : List ℕ) → is_end left ≡ true → blocks_from (suc n) place at left ≡ Ok []
unfolding blocks_from
end_here n place at left e = rw e refl

wrong_here : (n : ℕ) (place : Place) (at : ℕ) (left : List ℕ) → is_end left ≡ false → is_wrong_size (block_size left) (length left) ≡ true
    → blocks_from (suc n) place at left ≡ Err (fault_with_size RELOC_BLOCK place at)
unfolding blocks_from
wrong_here n place at left e w = rw (e, w) refl

-- the number of steps that are left is above zero
abbrev steps : List ℕ → List Block → ℕ
steps directory blocks = length directory - length blocks

steps_left : (directory : List ℕ) (blocks : List Block) → length blocks ≤ length directory → length directory + 1 - length blocks ≡ suc (steps directory blocks)
steps_left directory blocks h = omega arith

so_at : (place : Place) (directory : List ℕ) (blocks : List Block) (at : ℕ) (left : List ℕ) → length blocks ≤ length directory → SoFar place directory blocks at left
    → blocks_of place directory ≡ with_front blocks (blocks_from (suc (steps directory blocks)) place at left)
so_at place directory blocks at left h so = so ∙ ap (λ k. with_front blocks (blocks_from k place at left)) (steps_left directory blocks h)

-- the same by the values that the code has
pub record Turned (place : Place) (directory : List ℕ) (blocks : List Block) (at : ℕ) (left : List ℕ) : Type 0 where
  pub count : length blocks ≤ at
  pub whole : at + length left ≡ length directory
  pub so : SoFar place directory blocks at left

pub blocks_turn : (place : Place) (directory : List ℕ) (blocks new : List Block) (at : ℕ) (left more : List ℕ) (size : ℕ) → Turned place directory blocks at left
    → size ≡ block_size left → 8 ≤ size → size ≤ length left → is_end left ≡ false → is_wrong_size size (length left) ≡ false → new ≡ blocks ++ block_at at left ∷ [] → more ≡ drop size left
    → Turned place directory new (at + size) more
blocks_turn place directory blocks new at left more size t s least inside e w n m =
    let x : Block = block_at at left in
    let c : length blocks ≤ at = t.count in
    let d : at + length left ≡ length directory = t.whole in
    let h : length blocks ≤ length directory = omega arith in
    let l : length new ≡ length blocks + 1 = ap length n ∙ length-append blocks (x ∷ []) in
    let k : length more + size ≡ length left = let q : length more ≡ length left - size = ap length m ∙ length-drop size left in omega arith in
    let v : is_wrong_size (block_size left) (length left) ≡ false = ap (λ z. is_wrong_size z (length left)) (sym s) ∙ w in
    let o : length directory + 1 - length new ≡ steps directory blocks = omega arith in
    let p : drop (block_size left) left ≡ more = ap (λ z. drop z left) (sym s) ∙ sym m in
    record {
      count = omega arith;
      whole = omega arith;
      so =
          so_at place directory blocks at left h t.so ∙ ap (with_front blocks) (one_more (steps directory blocks) place at left e v)
          ∙ front_one blocks x (blocks_from (steps directory blocks) place (at + block_size left) (drop (block_size left) left))
          ∙ ap (λ z. with_front z (blocks_from (steps directory blocks) place (at + block_size left) (drop (block_size left) left))) (sym n)
          ∙ ap (λ z. with_front new (blocks_from (steps directory blocks) place (at + z) (drop (block_size left) left))) (sym s)
          ∙ ap (λ z. with_front new (blocks_from (steps directory blocks) place (at + size) z)) p
          ∙ ap (λ z. with_front new (blocks_from z place (at + size) more)) (sym o);
    }

pub blocks_end : (place : Place) (directory : List ℕ) (blocks : List Block) (at : ℕ) (left : List ℕ) → Turned place directory blocks at left → is_end left ≡ true
    → blocks_of place directory ≡ Ok blocks
blocks_end place directory blocks at left t e =
    let c : length blocks ≤ at = t.count in
    let d : at + length left ≡ length directory = t.whole in
    let h : length blocks ≤ length directory = omega arith in
    so_at place directory blocks at left h t.so ∙ ap (with_front blocks) (end_here (steps directory blocks) place at left e) ∙ ap (done {B = Block} {F = Fault}) (append-nil blocks)

pub blocks_wrong : (place : Place) (directory : List ℕ) (blocks : List Block) (at : ℕ) (left : List ℕ) → Turned place directory blocks at left → is_end left ≡ false
    → is_wrong_size (block_size left) (length left) ≡ true → blocks_of place directory ≡ Err (fault_with_size RELOC_BLOCK place at)
blocks_wrong place directory blocks at left t e w =
    let c : length blocks ≤ at = t.count in
    let d : at + length left ≡ length directory = t.whole in
    let h : length blocks ≤ length directory = omega arith in
    so_at place directory blocks at left h t.so ∙ ap (with_front blocks) (wrong_here (steps directory blocks) place at left e w)
