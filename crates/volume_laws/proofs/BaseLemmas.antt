-- ImageBase of a module that is moved, as the readers of its headers find it.
use Rattle.std.proofs.Common.{◌≡◌, ℕ, ◌+◌, ◌-◌, ◌==◌, Bool, true, false, if◌then◌else◌, List, Option, Some, None, Result, Ok, Err, is_some, refl, ap, sym, ◌∙◌, arith, subst}
use Rattle.byteorder.specs.Endian.{little_from}
use Rattle.build_base.specs.declared.fault.Place.{Place}
use Rattle.te_images.specs.declared.fault.PeFault.{PeFault}
use Rattle.te_images.specs.declared.te.TeHead.{TeHead}
use Rattle.te_images.specs.Pe.{number_at, e_lfanew, optional_header, is_pe32_plus, image_base}
use Rattle.te_images.specs.Te.{te_of}
use Rattle.image_rebase.specs.declared.module.Module.{Module}
use Rattle.image_rebase.specs.Module.{with_relocations, pe_fields, pe_with, pe_module, stripped_size, is_no_te, te_fields, te_module, module_in}
use Rattle.image_rebase.specs.Moves.{moved_content}
use Rattle.image_rebase.specs.Changes.{base_width}
use Rattle.volume_laws.specs.MovedBytes.{IsMovedModule, IsMovedWith, IsMovedContent, KeepsFields}
use Rattle.volume_laws.proofs.WordLemmas.{word_same}
use Rattle.volume_laws.proofs.ModuleLemmas.{relocated_is, content_moved}

abbrev offset_by : Bool → ℕ
offset_by plus = if plus then 0x18 else 0x1C

abbrev width_by : Bool → ℕ
width_by plus = if plus then 8 else 4

-- the fields of a PE32 image that is moved
record IsPeModule (content : List ℕ) (m : Module) : Type 0 where
  skip : m.skip ≡ 0
  at : m.base_at ≡ optional_header content + offset_by (is_pe32_plus content)
  wide : m.wide ≡ is_pe32_plus content

pe_found : (content : List ℕ) (head : Result TeHead PeFault) (m : Module) → pe_with content head ≡ Some m → IsPeModule content m
unfolding pe_fields
pe_found content (Err fault) m e = absurd cc
pe_found content (Ok head) m e = subst (IsPeModule content) (relocated_is (pe_fields content head) m e) (record { skip = refl; at = refl; wide = refl })

-- what stands at a place by the magic
abbrev base_by : ℕ → Bool → List ℕ → ℕ
base_by optional plus content = if plus then little_from (optional + 0x18) 8 content else little_from (optional + 0x1C) 4 content

base_is : (optional : ℕ) (plus : Bool) (content : List ℕ) → base_by optional plus content ≡ little_from (optional + offset_by plus) (width_by plus) content
base_is optional true content = refl
base_is optional false content = refl

lfanew_same : (content moved : List ℕ) → little_from 0x3C 4 moved ≡ little_from 0x3C 4 content → e_lfanew moved ≡ e_lfanew content
unfolding number_at
lfanew_same content moved e = e

image_base_is : (content moved : List ℕ) → e_lfanew moved ≡ e_lfanew content → little_from (optional_header content) 2 moved ≡ little_from (optional_header content) 2 content
    → image_base moved ≡ base_by (optional_header content) (is_pe32_plus content) moved
unfolding number_at
image_base_is content moved e m =
    let o : optional_header moved ≡ optional_header content = ap (λ n. n + 0x18) e in
    let p : is_pe32_plus moved ≡ is_pe32_plus content = ap (λ n. little_from n 2 moved == 0x20B) o ∙ ap (λ n. n == 0x20B) m in
    ap (λ n. base_by n (is_pe32_plus moved) moved) o ∙ ap (λ b. base_by (optional_header content) b moved) p

pe_with_base : (place : Place) (address : ℕ) (content moved : List ℕ) (found : Option Module) → ((m : Module) → found ≡ Some m → IsPeModule content m) → is_some found ≡ true
    → IsMovedWith place address content moved found → base_by (optional_header content) (is_pe32_plus content) moved ≡ address
pe_with_base place address content moved None h s w = absurd cc
pe_with_base place address content moved (Some m) h s w =
    let k : IsPeModule content m = h m refl in
    let at : ℕ = optional_header content + offset_by (is_pe32_plus content) in
    base_is (optional_header content) (is_pe32_plus content) moved ∙ ap (λ b. little_from at (width_by b) moved) (sym k.wide)
    ∙ ap (λ n. little_from n (base_width m) moved) (sym k.at) ∙ w.base ∙ ap (λ n. address - n) k.skip ∙ omega arith

pe_module_found : (content : List ℕ) (m : Module) → module_in 0x10 content ≡ Some m → IsPeModule content m
unfolding module_in pe_module
pe_module_found content m e = pe_found content (te_of content) m e

pub pe_base_moved : (place : Place) (base address : ℕ) (content moved : List ℕ) → is_some (module_in 0x10 content) ≡ true → KeepsFields place content → moved_content place base address 0x10 content ≡ Ok moved
    → image_base moved ≡ address
pe_base_moved place base address content moved s k e =
    let c : IsMovedContent place address 0x10 content moved = content_moved place base address 0x10 content moved e in
    let headers : little_from 0x3C 4 moved ≡ little_from 0x3C 4 content = word_same 0x3C 4 content moved (λ j i. c.byte j 0 (k.headers j i)) in
    let word : little_from (optional_header content) 2 moved ≡ little_from (optional_header content) 2 content =
    word_same (optional_header content) 2 content moved (λ j i. c.byte j 0 (k.magic j i)) in
    image_base_is content moved (lfanew_same content moved headers) word
    ∙ pe_with_base place address content moved (module_in 0x10 content) (λ m f. pe_module_found content m f) s c.module_is

-- the fields of a TE image that is moved
te_found : (no : Bool) (content : List ℕ) (m : Module) → (if no then None else with_relocations (te_fields content)) ≡ Some m → te_fields content ≡ m
te_found true content m e = absurd cc
te_found false content m e = relocated_is (te_fields content) m e

te_module_found : (content : List ℕ) (m : Module) → module_in 0x12 content ≡ Some m → te_fields content ≡ m
unfolding module_in te_module
te_module_found content m e = te_found (is_no_te content) content m e

te_base : (place : Place) (address : ℕ) (content moved : List ℕ) (m : Module) → te_fields content ≡ m → IsMovedModule place m address content moved
    → little_from 0x10 8 moved ≡ address - (stripped_size content - 0x28)
unfolding te_fields
te_base place address content moved m e w = ap (λ n. little_from n.base_at (base_width n) moved) e ∙ w.base ∙ ap (λ n. address - n.skip) (sym e)

te_with_base : (place : Place) (address : ℕ) (content moved : List ℕ) (found : Option Module) → ((m : Module) → found ≡ Some m → te_fields content ≡ m) → is_some found ≡ true
    → IsMovedWith place address content moved found → little_from 0x10 8 moved ≡ address - (stripped_size content - 0x28)
te_with_base place address content moved None h s w = absurd cc
te_with_base place address content moved (Some m) h s w = te_base place address content moved m (h m refl) w

pub te_base_moved : (place : Place) (base address : ℕ) (content moved : List ℕ) → is_some (module_in 0x12 content) ≡ true → moved_content place base address 0x12 content ≡ Ok moved
    → little_from 0x10 8 moved ≡ address - (stripped_size content - 0x28)
te_base_moved place base address content moved s e =
    te_with_base place address content moved (module_in 0x12 content) (λ m f. te_module_found content m f) s (content_moved place base address 0x12 content moved e).module_is
