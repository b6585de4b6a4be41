-- The regions of a device, one after another.
use Rattle.std.proofs.Common.{◌≡◌, ℕ, ◌+◌, ◌-◌, ◌<◌, ◌≤◌, List, [], ◌∷◌, ◌++◌, length, get_or, drop, replicate, Option, None, Some, refl, ap, sym, ◌∙◌, arith, length-append}
use Rattle.std.proofs.lemmas.List.{drop_all, length-replicate, get_or_default}
use Rattle.std.proofs.lemmas.Bool.Decides.{nat_tests}
use Rattle.build_base.proofs.Steps.{head_drop}
use Rattle.build_base.specs.First.{or_else}
use Rattle.build_base.specs.Pieces.{piece_end}
use Rattle.build_base.proofs.PieceLemmas.{Laid, Laid-one, Laid-none, laid_size, Rest, rest_start, rest_put, rest_end}
use Rattle.doc_types.specs.declared.flash.Region.{Region}
use Rattle.doc_types.specs.declared.flash.DevicePlan.{DevicePlan}
use Rattle.fd_regions.specs.Device.{region_fault, device_fault, device_image, region_piece, region_pieces}
use Rattle.build_base.specs.Runs.{free_byte}

-- what is left begins with the next region and part
pub fault_next : (size at : ℕ) (rs : List Region) (ps : List (List ℕ)) (i : ℕ) (r : Region) (p : List ℕ) → i < length rs → i < length ps → r ≡ get_or rs i r → p ≡ get_or ps i p
    → device_fault size at (drop i rs) (drop i ps) ≡ device_fault size at (r ∷ drop (i + 1) rs) (p ∷ drop (i + 1) ps)
fault_next size at rs ps i r p h k e f = rw (head_drop rs i r h e, head_drop ps i p k f)

-- a region without a fault
pub record Fits (size at : ℕ) (r : Region) (p : List ℕ) (rs : List Region) (ps : List (List ℕ)) : Type 0 where
  pub after : at ≤ r.offset
  pub inside : r.offset + r.size ≤ size
  pub short : length p ≤ r.size
  pub rest : device_fault size (r.offset + r.size) rs ps ≡ None

no_region_fault : (size at : ℕ) (r : Region) (p : List ℕ) → region_fault size at r (length p) ≡ None → (at ≤ r.offset) × (r.offset + r.size ≤ size) × (length p ≤ r.size)
unfolding region_fault
no_region_fault size at r p h = (grind (arith, nat_tests, h), grind (arith, nat_tests, h), grind (arith, nat_tests, h))

no_or_else : {T : Type 0} (a b : Option T) → or_else a b ≡ None → (a ≡ None) × (b ≡ None)
no_or_else None b h = (refl, h)
no_or_else (Some x) b h = absurd cc

pub fits : (size at : ℕ) (rs : List Region) (ps : List (List ℕ)) (r : Region) (p : List ℕ) → device_fault size at (r ∷ rs) (p ∷ ps) ≡ None → Fits size at r p rs ps
unfolding device_fault
fits size at rs ps r p h =
    let both : (region_fault size at r (length p) ≡ None) × (device_fault size (r.offset + r.size) rs ps ≡ None) = no_or_else (region_fault size at r (length p)) (device_fault size (r.offset + r.size) rs ps) h in
    let s : (at ≤ r.offset) × (r.offset + r.size ≤ size) × (length p ≤ r.size) = no_region_fault size at r p both.0 in
    record { after = s.0; inside = s.1; short = s.2; rest = both.1 }

pub fault_more : (size at : ℕ) (rs : List Region) (ps : List (List ℕ)) (i : ℕ) (r : Region) (p : List ℕ) → i < length rs → i < length ps → r ≡ get_or rs i r → p ≡ get_or ps i p
    → device_fault size at (drop i rs) (drop i ps) ≡ or_else (region_fault size at r (length p)) (device_fault size (r.offset + r.size) (drop (i + 1) rs) (drop (i + 1) ps))
unfolding device_fault
fault_more size at rs ps i r p h k e f = fault_next size at rs ps i r p h k e f

pub fault_end : (size at i : ℕ) (rs : List Region) (ps : List (List ℕ)) → length rs ≤ i → device_fault size at (drop i rs) ps ≡ None
unfolding device_fault
fault_end size at i rs ps h = rw (drop_all i rs h) refl

end_is : (empty size at : ℕ) (r : Region) (p : List ℕ) → length p ≤ r.size → piece_end (region_piece empty r p) ≡ r.offset + r.size
end_is empty size at r p h = simp (length-append, length-replicate) (omega arith)

-- regions without a fault lie in order
pub laid_regions : (empty size at : ℕ) (rs : List Region) (ps : List (List ℕ)) → at ≤ size → device_fault size at rs ps ≡ None → Laid at size (region_pieces empty rs ps)
unfolding region_pieces
laid_regions empty size at [] ps l h = Laid-none at size l
laid_regions empty size at (r ∷ rs) [] l h = Laid-none at size l
laid_regions empty size at (r ∷ rs) (p ∷ ps) l h =
    let s : Fits size at r p rs ps = fits size at rs ps r p h in
    Laid-one at size (region_piece empty r p) (region_pieces empty rs ps) s.after (rw (end_is empty size at r p s.short) (laid_regions empty size (r.offset + r.size) rs ps s.inside s.rest))

-- what stands so far and the regions that are left
pub record Left (whole out : List ℕ) (empty size at : ℕ) (rs : List Region) (ps : List (List ℕ)) : Type 0 where
  pub at_is : at ≡ length out
  pub checked : device_fault size at rs ps ≡ None
  pub rest : Rest whole out empty size (region_pieces empty rs ps)

pub left_start : (plan : DevicePlan) (out : List ℕ) (parts : List (List ℕ)) (empty : ℕ) → out ≡ [] → empty ≡ free_byte plan.erase → device_fault plan.size 0 plan.regions parts ≡ None → Left (device_image plan parts) out empty plan.size 0 plan.regions parts
unfolding device_image
left_start plan out parts empty o e h =
    rw (o, e) record { at_is = refl; checked = h; rest = rest_start (free_byte plan.erase) plan.size (region_pieces (free_byte plan.erase) plan.regions parts) (laid_regions (free_byte plan.erase) plan.size 0 plan.regions parts (omega arith) h) }

next_left : (whole out next : List ℕ) (empty size at : ℕ) (rs : List Region) (ps : List (List ℕ)) (r : Region) (p : List ℕ) → Left whole out empty size at (r ∷ rs) (p ∷ ps)
    → next ≡ (out ++ replicate (r.offset - at) empty) ++ (p ++ replicate (r.size - length p) empty) → Left whole next empty size (r.offset + r.size) rs ps
unfolding region_pieces
next_left whole out next empty size at rs ps r p s e =
    let f : Fits size at r p rs ps = fits size at rs ps r p s.checked in
    let n : length next ≡ r.offset + r.size = ap length e ∙ simp (length-append, length-replicate) (omega (arith, s.at_is)) in
    let m : next ≡ (out ++ replicate (r.offset - length out) empty) ++ (p ++ replicate (r.size - length p) empty) = e ∙ ap (λ k. (out ++ replicate (r.offset - k) empty) ++ (p ++ replicate (r.size - length p) empty)) s.at_is in
    record { at_is = sym n; checked = f.rest; rest = rest_put whole out next empty size (region_piece empty r p) (region_pieces empty rs ps) s.rest m }

pub left_more : (whole out next : List ℕ) (empty size at i : ℕ) (rs : List Region) (ps : List (List ℕ)) (r : Region) (p : List ℕ) → Left whole out empty size at (drop i rs) (drop i ps) → i < length rs → i < length ps → r ≡ get_or rs i r → p ≡ get_or ps i p
    → next ≡ (out ++ replicate (r.offset - at) empty) ++ (p ++ replicate (r.size - length p) empty) → Left whole next empty size (r.offset + r.size) (drop (i + 1) rs) (drop (i + 1) ps)
left_more whole out next empty size at i rs ps r p s h k e f n =
    let t : Left whole out empty size at (r ∷ drop (i + 1) rs) (p ∷ drop (i + 1) ps) = rw (← head_drop rs i r h e, ← head_drop ps i p k f) s in
    next_left whole out next empty size at (drop (i + 1) rs) (drop (i + 1) ps) r p t n

pub left_fits : (whole out : List ℕ) (empty size at i : ℕ) (rs : List Region) (ps : List (List ℕ)) (r : Region) (p : List ℕ) → Left whole out empty size at (drop i rs) (drop i ps) → i < length rs → i < length ps → r ≡ get_or rs i r → p ≡ get_or ps i p
    → Fits size at r p (drop (i + 1) rs) (drop (i + 1) ps)
left_fits whole out empty size at i rs ps r p s h k e f =
    let t : Left whole out empty size at (r ∷ drop (i + 1) rs) (p ∷ drop (i + 1) ps) = rw (← head_drop rs i r h e, ← head_drop ps i p k f) s in
    fits size at (drop (i + 1) rs) (drop (i + 1) ps) r p t.checked

pub left_end : (whole out : List ℕ) (empty size at i : ℕ) (rs : List Region) (ps : List (List ℕ)) → Left whole out empty size at (drop i rs) (drop i ps) → length rs ≤ i → out ++ replicate (size - at) empty ≡ whole
unfolding region_pieces
left_end whole out empty size at i rs ps s h =
    let t : Left whole out empty size at [] (drop i ps) = rw (← drop_all i rs h) s in
    ap (λ k. out ++ replicate (size - k) empty) s.at_is ∙ sym (rest_end whole out empty size t.rest)

pub left_small : (whole out : List ℕ) (empty size at : ℕ) (rs : List Region) (ps : List (List ℕ)) → Left whole out empty size at rs ps → at ≤ size
left_small whole out empty size at rs ps s = omega (arith, s.at_is, laid_size (length out) size (region_pieces empty rs ps) s.rest.laid)

-- the part of a place, whatever stands past the end
pub same_part : (ps : List (List ℕ)) (i : ℕ) → i < length ps → get_or ps i [] ≡ get_or ps i (get_or ps i [])
same_part ps i h = get_or_default ps i [] (get_or ps i []) h
