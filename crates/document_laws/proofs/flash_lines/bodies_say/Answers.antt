use Rattle.document_laws.proofs.BodyForms.{path_says, words_says, worded_path_says, nested_says, named_says, whole_says, file_closes, apriori_closes}
use Rattle.document_laws.proofs.flash_lines.bodies_say.Goals as goal

pub returns-clause-paths : goal.returns-clause-paths
returns-clause-paths c = path_says

pub returns-clause-words : goal.returns-clause-words
returns-clause-words c = words_says

pub returns-clause-worded_paths : goal.returns-clause-worded_paths
returns-clause-worded_paths c = worded_path_says

pub returns-clause-volumes : goal.returns-clause-volumes
returns-clause-volumes c = nested_says

pub returns-clause-guids : goal.returns-clause-guids
returns-clause-guids c = named_says

pub returns-clause-wholes : goal.returns-clause-wholes
returns-clause-wholes c = whole_says

pub returns-clause-closed : goal.returns-clause-closed
returns-clause-closed c = file_closes

pub returns-clause-apriori_closed : goal.returns-clause-apriori_closed
returns-clause-apriori_closed c = apriori_closes
