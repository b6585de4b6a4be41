-- The steps of edition 2 are older definitions.
use Rattle.std.proofs.Common.{refl}
use Rattle.step_pack.specs.declared.key.Key.{Key}
use Rattle.step_pack.specs.declared.key.Key.TheVariants as key
use Rattle.build_rules.specs.Adopting.{AreOlder}
use Rattle.build_rules.specs.Older.{second_edition}
use Rattle.step_answers.specs.Readers.{EdkStages}

pub second_is_older : (images : Key → EdkStages) → AreOlder 2 (second_edition images)
second_is_older images (key.Dec path) h = refl
second_is_older images (key.Inf path) h = refl
second_is_older images key.Platform h = refl
second_is_older images key.Flash h = refl
second_is_older images (key.Choice m) h = refl
second_is_older images key.PlatformPcds h = refl
second_is_older images (key.Values m) h = refl
second_is_older images (key.Code m) h = refl
second_is_older images (key.Depex m) h = absurd cc
second_is_older images (key.File v i) h = absurd cc
second_is_older images (key.Volume v) h = absurd cc
second_is_older images (key.Device d) h = absurd cc
second_is_older images key.Report h = refl
second_is_older images key.All h = absurd cc
second_is_older images key.Vpd h = refl
second_is_older images (key.Based v) h = absurd cc
