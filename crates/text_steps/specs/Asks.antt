-- What the whole build and the report ask of modules; the rule is this project's own.
use Rattle.std.specs.Prelude.{List, [], ◌∷◌}
use Rattle.std.specs.List.{flat_map}
use Rattle.step_engine.specs.declared.talk.Ask.{Ask}
use Rattle.step_engine.specs.declared.talk.Ask.TheVariants as ask
use Rattle.doc_types.specs.declared.choice.Module.{Module}
use Rattle.step_pack.specs.declared.key.Key.{Key}
use Rattle.step_pack.specs.declared.key.Key.TheVariants as key

-- a module's description, its texts and its expression
abbrev pub built_asks : Module → List (Ask Key)
built_asks m = ask.Part (key.Inf m.inf) ∷ ask.Part (key.Code m) ∷ ask.Part (key.Depex m) ∷ []

-- what a build asks of its modules, module by module
abbrev pub build_module_asks : List Module → List (Ask Key)
build_module_asks modules = flat_map built_asks modules

-- a module's libraries and its values
abbrev pub told_asks : Module → List (Ask Key)
told_asks m = ask.Part (key.Choice m) ∷ ask.Part (key.Values m) ∷ []

-- what a report asks: the rows of dynamic PCDs, and then its modules, module by module
abbrev pub report_asks : List Module → List (Ask Key)
report_asks modules = ask.Part key.PlatformPcds ∷ flat_map told_asks modules
