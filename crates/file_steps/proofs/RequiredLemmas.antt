-- A table of the sections that require their files, from the last one on.
use Rattle.std.proofs.Common.{◌≡◌, ◌∙◌, ℕ, ◌+◌, ◌<◌, Bool, true, false, cond, List, ◌∷◌, length, drop, get_or, Option, Some, refl, sym, ap}
use Rattle.std.specs.Prelude.{find}
use Rattle.std.specs.Global.{Vec}
use Rattle.std.specs.HashMap.{HashMap, get}
use Rattle.std.proofs.lemmas.Option.{slice_get-get_or}
use Rattle.build_base.proofs.Steps.{head_drop}
use Rattle.doc_types.specs.declared.volume.SectionPlan.{SectionPlan}
use Rattle.file_steps.specs.Required.{requires_path, same_key, section_at, IsTableFrom}

found_here : {X : Type 0} (p : X → Bool) (x : X) (xs rest : List X) (i : ℕ) (held : Option ℕ) (b : Bool) → p x ≡ b → section_at xs (Some i) ≡ Some x → section_at xs held ≡ find p rest
    → section_at xs (cond b (Some i) held) ≡ find p (x ∷ rest)
found_here p x xs rest i held true e here h = here ∙ sym (ap (λ b. cond b (Some x) (find p rest)) e)
found_here p x xs rest i held false e here h = h ∙ sym (ap (λ b. cond b (Some x) (find p rest)) e)

-- one section more before them
pub table_more : {S : Type 0} (sections : List SectionPlan) (n m : ℕ) (section : SectionPlan) (old new : HashMap (Vec ℕ) ℕ S) → m ≡ n + 1 → n < length sections → section ≡ get_or sections n section
    → ((key : Vec ℕ) → get same_key new key ≡ cond (requires_path key.items section) (Some n) (get same_key old key)) → IsTableFrom sections m old → IsTableFrom sections n new
table_more sections n m section old new e h is put table = λ key.
    ap (section_at sections) (put key)
    ∙ found_here (requires_path key.items) section sections (drop (n + 1) sections) n (get same_key old key) (requires_path key.items section) refl
    (slice_get-get_or sections n section h ∙ ap (λ (s : SectionPlan). Some s) (sym is)) (table key ∙ ap (λ k. find (requires_path key.items) (drop k sections)) e)
    ∙ sym (ap (find (requires_path key.items)) (head_drop sections n section h is))
