use Rattle.vpd_image.proofs.ApartLemmas.{apart_result}
use Rattle.vpd_image.proofs.vpd.place_behind.Goals as goal

pub returns-clause-apart : goal.returns-clause-apart
returns-clause-apart c = apart_result _ _ _ c.requires c.in_ok-take_all_written.ensures.fault c.in_ok-placed.ensures
