-- The keys of tables by names.
use Rattle.std.specs.Prelude.{ℕ, Bool, nat_eq}
use Rattle.std.specs.Cmp.Lexicographic.{pointwise}
use Rattle.std.specs.Global.{Vec}

-- whether two names have the same bytes
abbrev pub same_key : Vec ℕ → Vec ℕ → Bool
same_key x y = pointwise nat_eq x.items y.items
