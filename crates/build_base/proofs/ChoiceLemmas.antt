-- What a choice gives, by its test.
use Rattle.std.proofs.Common.{◌≡◌, Bool, true, false, cond, refl}

pub pick : {A : Type 0} (P : A → Type 0) (b : Bool) (x y : A) → (b ≡ true → P x) → (b ≡ false → P y) → P (cond b x y)
pick P true x y f g = f refl
pick P false x y f g = g refl
