-- One turn of the loop over terms.
use Rattle.std.proofs.Common.{◌≡◌, true, false, List, [], ◌∷◌, Option, Some, None, ap}
use Rattle.depex_code.specs.Sizes.{Size}
use Rattle.depex_code.specs.Terms.{Wait, group, front, left}
use Rattle.depex_code.specs.Kept.{IsBase, is_base, Popped, Took}

pub base_of : (ws : List (Wait Size)) → is_base ws ≡ true → IsBase ws
base_of [] e = tt
base_of (group ∷ ws) e = tt
base_of (front p ∷ ws) e = absurd (cc)
base_of (left a op ∷ ws) e = absurd (cc)

pub took : (old new : List (Wait Size)) (r : Option (Wait Size)) → is_base old ≡ false → Popped old r new → Took old r new
took old new None b p = let e : is_base old ≡ true = ap is_base p.0 in absurd (cc)
took old new (Some group) b p = let e : is_base old ≡ true = ap is_base p in absurd (cc)
took old new (Some (front q)) b p = p
took old new (Some (left a op)) b p = p
