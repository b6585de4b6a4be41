use Rattle.std.proofs.Common.{arith}
use Rattle.std.specs.List.{filter_map}
use Rattle.library_choice.specs.Closure.{same_path, is_known, instance_of, next, nulls}
use Rattle.library_choice.proofs.FrontLemmas.{front-begins}
use Rattle.library_choice.proofs.front.begin.Goals as goal

pub returns : goal.returns
returns c =
    let s = c.args.tables.now in
    record {
      classes = record {
        known = λ k d l. absurd (omega (arith, l));
        stands = front-begins same_path (is_known s.infs) (next s) (filter_map (instance_of s) c.args.inf.now.classes) c.in_ok-classes.classes c.in_ok-classes.ensures;
      };
      nulls = record {
        known = λ k d l. absurd (omega (arith, l));
        stands = front-begins same_path (is_known s.infs) (next s) (nulls s) c.in_ok-nulls.nulls c.in_ok-nulls.ensures;
      };
    }
