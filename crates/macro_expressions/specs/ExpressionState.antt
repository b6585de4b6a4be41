-- The state that the code keeps.
use Rattle.std.specs.Prelude.{option_map}
use Rattle.macro_expressions.specs.declared.machine.Machine.{Machine}
use Rattle.macro_expressions.specs.Values.{view}
use Rattle.macro_expressions.specs.ExpressionMachine.{State, waits_of}

abbrev pub state_of : Machine → State
state_of m = record { waits = waits_of m.waits.items; operand = option_map view m.held }
