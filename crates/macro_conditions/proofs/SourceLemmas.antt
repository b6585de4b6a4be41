-- Where a file is found.
use Rattle.std.proofs.Common.{◌≡◌, refl}
use Rattle.macro_conditions.specs.Sources.{Located, wanted, missing, over_limit, there, or_located}

pub or_missing : (l : Located) → or_located l missing ≡ l
or_missing (wanted path) = refl
or_missing missing = refl
or_missing (over_limit path) = refl
or_missing (there path bytes) = refl
