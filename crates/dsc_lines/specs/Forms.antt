-- Lines that are of no form. That a macro that isn't defined is told of them too is this project's
-- own rule.
use Rattle.std.specs.Prelude.{ℕ, List, [], ◌∷◌, Option, Some}
use Rattle.build_base.specs.FaultText.{fault_of}
use Rattle.build_base.specs.declared.fault.Fault.{Fault}
use Rattle.build_base.specs.declared.lines.Taken.{Taken}
use Rattle.meta_lexer.specs.Faults.{first_fault}
use Rattle.doc_reading.specs.ValueFields.{undefined_macro}

-- the first macro that isn't defined, and the line with its section's code
abbrev pub formless : ℕ → Taken → List (List ℕ) → List (Option Fault)
formless code line fields = first_fault (undefined_macro line.at) fields
    ∷ Some (fault_of code line.at line.text) ∷ []
