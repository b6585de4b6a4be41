-- A table of files, after one more file or one less.
use Rattle.std.proofs.Common.{◌≡◌, sym, ap, ◌∙◌, ℕ, List, cond, Some, None, nat_eq, ◌+◌, ◌<◌, length, get_or, drop}
use Rattle.std.specs.Ordering.{nat_cmp}
use Rattle.std.specs.Cmp.Lexicographic.{pointwise, slice_cmp}
use Rattle.std.specs.BTreeMap.{BTreeMap, is_at, Updates}
use Rattle.std.proofs.lemmas.Map.Text.{is_eq-slice_cmp}
use Rattle.build_base.proofs.Steps.{head_drop}
use Rattle.build_base.specs.Outside.{Files}
use Rattle.build_base.specs.MemoryTree.{file_at, with_file, without_file}
use Rattle.build_base.specs.declared.memory_tree.Held.{Held}
use Rattle.sure_objects.specs.Files.{found_in}

-- the order finds what is the same
same_path : (path other : List ℕ) → is_at (slice_cmp nat_cmp path) other ≡ pointwise nat_eq path other
same_path path other = is_eq-slice_cmp path other

pub put_found : (m n : BTreeMap (List ℕ) (List ℕ)) (path bytes : List ℕ) → Updates (slice_cmp nat_cmp) m n path (Some bytes) → found_in n.entries ≡ with_file (found_in m.entries) path bytes
put_found m n path bytes u = λ z other. (u.0 other ∙ ap (λ b. cond b (Some bytes) (found_in m.entries other)) (same_path path other)) z

pub dropped_found : (m n : BTreeMap (List ℕ) (List ℕ)) (path : List ℕ) → Updates (slice_cmp nat_cmp) m n path None → found_in n.entries ≡ without_file (found_in m.entries) path
dropped_found m n path u = λ z other. (u.0 other ∙ ap (λ b. cond b None (found_in m.entries other)) (same_path path other)) z

-- the file in front counts
pub one_before : (files : List Held) (left i : ℕ) (file : Held) (found next : Files) → left ≡ i + 1 → i < length files → file ≡ get_or files i file
    → found ≡ file_at (drop left files) → next ≡ with_file found file.path file.bytes → next ≡ file_at (drop i files)
one_before files left i file found next last l is e n =
    let more : found ≡ file_at (drop (i + 1) files) = e ∙ ap (λ (n : ℕ). file_at (drop n files)) last in
    n ∙ (ap (λ (f : Files). with_file f file.path file.bytes) more ∙ ap file_at (sym (head_drop files i file l is)))
