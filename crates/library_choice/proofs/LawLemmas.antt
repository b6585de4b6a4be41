-- The laws of a choice.
use Rattle.std.proofs.Common.{ℕ, List, Some, subst}
use Rattle.std.specs.List.{filter_map}
use Rattle.doc_types.specs.declared.module.InfDoc.{InfDoc}
use Rattle.library_choice.specs.Choices.{callers, reach, before, places}
use Rattle.library_choice.specs.Closure.{same_path, instance_of, next, nulls, instances}
use Rattle.library_choice.specs.Found.{IsFound}
use Rattle.library_choice.specs.Laws.{IsLawful}
use Rattle.library_choice.specs.Lines.{Setting}
use Rattle.library_choice.specs.Reaching.{IsWhole}
use Rattle.library_choice.specs.Search.{Finds}
use Rattle.library_choice.proofs.CallerLemmas.{callers_within}
use Rattle.library_calls.proofs.OrderLaws.{call_order_least}
use Rattle.library_choice.proofs.SortableLemmas.{sortable, places-ascend}

pub lawful : (s : Setting) (inf : InfDoc) (found : List (List ℕ)) → Finds same_path (next s) (filter_map (instance_of s) inf.classes) (nulls s) (Some found) → IsLawful s inf
unfolding instances
lawful s inf found f =
    record {
      whole = subst (λ l. IsFound same_path (next s) (filter_map (instance_of s) inf.classes) (nulls s) l) f.0 f.3;
      least = λ free.
          let cs = callers s.infs (instances s inf) in
          let here = subst (λ l. IsWhole s l) f.0 (record { closed = f.2; few = f.1 }) in
          call_order_least (before (reach s cs)) (places cs) (sortable s cs (callers_within s (instances s inf) here) free) (places-ascend cs);
    }
