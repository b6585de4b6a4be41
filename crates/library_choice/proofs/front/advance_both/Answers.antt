use Rattle.std.specs.List.{filter_map}
use Rattle.library_choice.specs.Closure.{instance_of, nulls}
use Rattle.library_choice.proofs.front.advance_both.Goals as goal

pub returns : goal.returns
returns c = λ inf fronts. record {
  classes = c.in_ok-classes.ensures (filter_map (instance_of c.args.tables.now) inf.classes) fronts.classes;
  nulls = c.in_ok-nulls.ensures (nulls c.args.tables.now) fronts.nulls;
}
