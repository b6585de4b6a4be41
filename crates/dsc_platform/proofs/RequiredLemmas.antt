-- The document of keys that are stated, or the fault of one that isn't.
use Rattle.std.proofs.Common.{◌≡◌, ◌∙◌, ap, sym, refl, subst, List, ℕ, Option, Some, None, Result, Ok}
use Rattle.build_base.specs.Answer.{Finds, Refused}
use Rattle.build_base.specs.First.{and_then, unless}
use Rattle.build_base.specs.declared.fault.Fault.{Fault}
use Rattle.build_base.specs.declared.guid.Guid.{Guid as GuidBytes}
use Rattle.build_base.specs.declared.lines.Lines.{Lines}
use Rattle.build_base.specs.declared.refusal.Refusal.{Refusal}
use Rattle.build_base.specs.declared.refusal.Refusal.TheVariants.{Bad, WantOfMemory}
use Rattle.doc_types.specs.declared.arch.Arch.{Arch}
use Rattle.doc_types.specs.declared.platform.Component.{Component}
use Rattle.doc_types.specs.declared.platform.PlatformDoc.{PlatformDoc}
use Rattle.dsc_platform.specs.declared.reading.Needed.{Needed}
use Rattle.dsc_platform.specs.declared.stated.Stated.{Stated}
use Rattle.dsc_platform.specs.declared.sku_uses.SkuUse.{SkuUse}
use Rattle.dsc_platform.specs.Making.{needed_keys, needed_values, with_options}
use Rattle.dsc_platform.specs.Platform.{required, document_of, whole_fault, with_required}

refused_then : {A B : Type 0} (r : Refusal) (outcome : Result A Fault) (f : A → Result B Fault) → Refused r outcome → Refused r (and_then outcome f)
refused_then (Bad fault) outcome f e = ap (λ x. and_then x f) e
refused_then WantOfMemory outcome f e = tt

found_refused : {T : Type 0} (r : Refusal) (fault : Option Fault) (x : T) → Finds r fault → Refused r (unless fault x)
found_refused (Bad found) fault x e = ap (λ o. unless o x) e
found_refused WantOfMemory fault x e = tt

module _ (lines : Lines) (stated : Stated) (components : List Component) (uses : List SkuUse) where
  abbrev made : Needed → PlatformDoc
  made n = with_required lines n.options stated.skus stated.libraries stated.pcds components n.name n.guid n.arches

  abbrev checked : Needed → Result PlatformDoc Fault
  checked n = unless (whole_fault stated.skus components uses) (made n)

  by_keys : (name : Option (List ℕ)) (guid : Option GuidBytes) (arches : Option (List Arch))
      → required lines stated components uses name guid arches ≡ and_then (and_then (needed_values lines.root name guid arches) (λ values. Ok (with_options stated.keys.options values))) checked
  by_keys None guid arches = refl
  by_keys (Some name) None arches = refl
  by_keys (Some name) (Some guid) None = refl
  by_keys (Some name) (Some guid) (Some arches) = refl

  document_is : document_of lines stated components uses ≡ and_then (needed_keys lines.root stated.keys) checked
  unfolding document_of
  document_is = by_keys stated.keys.name stated.keys.guid stated.keys.arches

  -- a required key is missing
  pub key_refused : (r : Refusal) → Refused r (needed_keys lines.root stated.keys) → Refused r (document_of lines stated components uses)
  key_refused r h = subst (λ (o : Result PlatformDoc Fault). Refused r o) (sym document_is) (refused_then r (needed_keys lines.root stated.keys) checked h)

  checked_is : (n : Needed) → needed_keys lines.root stated.keys ≡ Ok n → document_of lines stated components uses ≡ checked n
  checked_is n h = document_is ∙ ap (λ (o : Result Needed Fault). and_then o checked) h

  -- something is at fault in the whole
  pub whole_refused : (n : Needed) (r : Refusal) → needed_keys lines.root stated.keys ≡ Ok n → Finds r (whole_fault stated.skus components uses)
      → Refused r (document_of lines stated components uses)
  whole_refused n r h finds = subst (λ (o : Result PlatformDoc Fault). Refused r o) (sym (checked_is n h)) (found_refused r (whole_fault stated.skus components uses) (made n) finds)

  -- nothing is
  pub document_made : (n : Needed) (d : PlatformDoc) → needed_keys lines.root stated.keys ≡ Ok n → whole_fault stated.skus components uses ≡ None → d ≡ made n
      → document_of lines stated components uses ≡ Ok d
  document_made n d h none e = checked_is n h ∙ ap (λ o. unless o (made n)) none ∙ ap Ok (sym e)
