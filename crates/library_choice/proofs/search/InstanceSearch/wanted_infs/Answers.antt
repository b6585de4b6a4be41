use Rattle.std.proofs.Common.{◌∙◌, sym}
use Rattle.library_choice.proofs.search.InstanceSearch.wanted_infs.Goals as goal

pub wanted_by_module-requires : goal.wanted_by_module-requires
wanted_by_module-requires c = λ inf own. sym (c.is_library.ensures inf own) ∙ c.if-is_library.false
