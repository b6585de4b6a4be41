-- The lines of all components are those of the components that have some.
use Rattle.std.proofs.Common.{◌≡◌, ◌∙◌, Bool, true, false, List, [], ◌∷◌, ◌++◌, cond, map, filter, refl, sym, ap, Some}
use Rattle.std.specs.Borrow.{Bor}
use Rattle.std.specs.List.{flat_map}
use Rattle.doc_types.specs.declared.platform.Component.{Component}
use Rattle.doc_types.specs.declared.platform.PcdLine.{PcdLine}
use Rattle.doc_types.specs.Components.{has_lines, are_some}
use Rattle.pcd_ranks.specs.Listing.{Stated}
use Rattle.pcd_resolve.specs.Tables.{at_home, lines_at}

-- of lent components
lent : (homes : List (Bor Component)) → flat_map (λ (one : Bor Component). lines_at one.now) homes ≡ flat_map lines_at (map (λ (one : Bor Component). one.now) homes)
lent [] = refl
lent (one ∷ homes) = ap (λ ys. lines_at one.now ++ ys) (lent homes)

none : (f : PcdLine → Stated) (lines : List PcdLine) → are_some lines ≡ false → map f lines ≡ []
none f [] e = refl
none f (line ∷ lines) e = absurd (cc)

one_home : (home : Component) (homes : List Component) (b : Bool) → has_lines home ≡ b → flat_map lines_at (filter has_lines homes) ≡ flat_map lines_at homes
    → flat_map lines_at (cond b (home ∷ filter has_lines homes) (filter has_lines homes)) ≡ lines_at home ++ flat_map lines_at homes
one_home home homes true e same = ap (λ ys. lines_at home ++ ys) same
one_home home homes false e same = same ∙ ap (λ (l : List Stated). l ++ flat_map lines_at homes) (sym (none (at_home (Some home)) home.pcds e))

kept_homes : (homes : List Component) → flat_map lines_at (filter has_lines homes) ≡ flat_map lines_at homes
kept_homes [] = refl
kept_homes (home ∷ homes) = one_home home homes (has_lines home) refl (kept_homes homes)

pub all_homes : (found : List (Bor Component)) (homes : List Component) → map (λ (one : Bor Component). one.now) found ≡ filter has_lines homes → flat_map (λ (one : Bor Component). lines_at one.now) found ≡ flat_map lines_at homes
all_homes found homes e = lent found ∙ ap (flat_map lines_at) e ∙ kept_homes homes
