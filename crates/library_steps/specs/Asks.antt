-- What the steps of libraries and PCDs ask of modules; the rule is this project's own.
use Rattle.std.specs.Prelude.{ℕ, List, map}
use Rattle.std.specs.List.{flat_map}
use Rattle.step_engine.specs.declared.talk.Ask.{Ask}
use Rattle.step_engine.specs.declared.talk.Ask.TheVariants as ask
use Rattle.doc_types.specs.declared.choice.Module.{Module}
use Rattle.step_pack.specs.declared.key.Key.{Key}
use Rattle.step_pack.specs.declared.key.Key.TheVariants as key
use Rattle.library_steps.specs.declared.parts.Linked.{Linked}
use Rattle.library_steps.specs.declared.parts.Described.{Described}

-- the libraries of each module
abbrev pub choice_asks : List Module → List (Ask Key)
choice_asks modules = map (λ m. ask.Part (key.Choice m)) modules

abbrev pub inf_asks : List (List ℕ) → List (Ask Key)
inf_asks paths = map (λ path. ask.Part (key.Inf path)) paths

abbrev pub dec_asks : List (List ℕ) → List (Ask Key)
dec_asks paths = map (λ path. ask.Part (key.Dec path)) paths

-- the module's description, and those of its instances in first-found order, module by module
abbrev pub linked_asks : List Linked → List (Ask Key)
linked_asks modules = flat_map (λ linked. inf_asks linked.paths) modules

-- the packages that they name, module by module
abbrev pub package_asks : List Described → List (Ask Key)
package_asks modules = flat_map (λ described. dec_asks described.packages) modules
