-- The names of uses by modules.
use Rattle.std.proofs.Common.{◌≡◌, ◌∙◌, ◌+◌, ◌<◌, ◌++◌, map, List, ℕ, length, drop, get_or, sym, ap}
use Rattle.std.specs.Prelude.{fold}
use Rattle.std.specs.List.{flat_map}
use Rattle.std.proofs.lemmas.List.{map-append}
use Rattle.std.proofs.lemmas.List.Sums.{fold-append}
use Rattle.std.specs.BTreeSet.{insert_key}
use Rattle.std.specs.Cmp.Lexicographic.{slice_cmp}
use Rattle.std.specs.Ordering.{nat_cmp}
use Rattle.build_base.proofs.Steps.{head_drop}
use Rattle.doc_types.specs.declared.parts.ModuleParts.{ModuleParts}
use Rattle.pcd_ranks.specs.Listing.{Use, uses_of_module}
use Rattle.doc_types.specs.Pcds.{full_name}
use Rattle.pcd_resolve.specs.Rows.{with_names}

with_both : (names : List (List ℕ)) (us vs : List Use) → with_names names (us ++ vs) ≡ with_names (with_names names us) vs
with_both names us vs =
    ap (λ ns. fold (insert_key (slice_cmp nat_cmp)) names ns) (map-append (λ used. full_name used.line.pcd) us vs)
    ∙ fold-append (insert_key (slice_cmp nat_cmp)) names (map (λ used. full_name used.line.pcd) us) (map (λ used. full_name used.line.pcd) vs)

-- the names of one module more
pub names_more : (names more whole : List (List ℕ)) (modules : List ModuleParts) (i : ℕ) (parts : ModuleParts)
    → i < length modules → parts ≡ get_or modules i parts
    → more ≡ with_names names (uses_of_module parts)
    → with_names names (flat_map uses_of_module (drop i modules)) ≡ whole
    → with_names more (flat_map uses_of_module (drop (i + 1) modules)) ≡ whole
names_more names more whole modules i parts h e put inv =
    ap (λ ns. with_names ns (flat_map uses_of_module (drop (i + 1) modules))) put
    ∙ sym (with_both names (uses_of_module parts) (flat_map uses_of_module (drop (i + 1) modules)))
    ∙ sym (ap (λ ms. with_names names (flat_map uses_of_module ms)) (head_drop modules i parts h e))
    ∙ inv
