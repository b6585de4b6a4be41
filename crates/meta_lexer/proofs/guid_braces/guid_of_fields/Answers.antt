use Rattle.std.proofs.Common.{◌≡◌, ℕ, length, List, [], ◌∷◌, slice_index_or, refl, ap, rules, arith}
use Rattle.meta_lexer.specs.GuidBraces.{guid_of_fields}
use Rattle.meta_lexer.proofs.guid_braces.guid_of_fields.Goals as goal

eight : (xs : List ℕ) → length xs ≡ 8 → slice_index_or xs 0 0 ∷ slice_index_or xs 1 0 ∷ slice_index_or xs 2 0 ∷ slice_index_or xs 3 0 ∷ slice_index_or xs 4 0 ∷ slice_index_or xs 5 0 ∷ slice_index_or xs 6 0 ∷ slice_index_or xs 7 0 ∷ [] ≡ xs
eight (a ∷ b ∷ c ∷ d ∷ e ∷ f ∷ g ∷ h ∷ []) l = refl
eight xs l = absurd (omega (arith, l))

pub returns : goal.returns
returns c = rw (c.to_le_bytes-a.ensures, c.to_le_bytes-b.ensures, c.to_le_bytes-c.ensures) (ap (guid_of_fields c.args.a c.args.b c.args.c) (eight c.args.last (search rules)))
