-- Facts of a value that may not be there.
use Rattle.std.proofs.Common.{Option, None, Some}
use Rattle.std.specs.Option.{IfSome}

pub some_then : {A : Type 0} (o : Option A) (P Q : A → Type 0) → IfSome o P → ((x : A) → P x → Q x) → IfSome o Q
some_then None P Q p f = tt
some_then (Some x) P Q p f = f x p

pub some_both : {A : Type 0} (o : Option A) (P Q R : A → Type 0) → IfSome o P → IfSome o Q → ((x : A) → P x → Q x → R x) → IfSome o R
some_both None P Q R p q f = tt
some_both (Some x) P Q R p q f = f x p q
