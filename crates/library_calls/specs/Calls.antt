-- What a module's instances have called, and in which order (EDK II Build specification, library
-- constructors and destructors).
use Rattle.std.specs.Prelude.{ℕ, Bool, false, ◌&&◌, ◌==◌, not, List, [], length, reverse, find, Option, Some, None, Result, Ok, slice_get, slice_index_or}
use Rattle.std.specs.List.{flat_map, list_any, range_with_len}
use Rattle.build_base.specs.First.{or_fault}
use Rattle.build_base.specs.FaultCodes.{CONSTRUCTOR_LOOP}
use Rattle.build_base.specs.FaultText.{fault_of}
use Rattle.build_base.specs.declared.fault.Fault.{Fault}
use Rattle.doc_types.specs.declared.choice.Call.{Call}
use Rattle.doc_types.specs.declared.choice.Choice.{Choice}
use Rattle.library_calls.specs.declared.caller.WithCalls.{WithCalls}
use Rattle.library_calls.specs.Order.{call_order}

-- x is another than y, and y leads to it
unfoldable pub before : List (List Bool) → ℕ → ℕ → Bool
before rows x y = not (x == y) && slice_index_or (slice_index_or rows y []) x false

abbrev pub places : List WithCalls → List ℕ
places cs = range_with_len 0 (length cs)

abbrev pub is_looped : List (List Bool) → List ℕ → ℕ → Bool
is_looped rows all x = list_any (λ y. before rows x y && before rows y x) all

abbrev pub caller_fault : Option WithCalls → Option Fault
caller_fault None = None
caller_fault (Some caller) = Some (fault_of CONSTRUCTOR_LOOP caller.at caller.inf)

abbrev pub looped : List WithCalls → Option ℕ → Option Fault
looped cs None = None
looped cs (Some x) = caller_fault (slice_get cs x)

-- the first that must come before one that must come before it
unfoldable pub loop_fault : List (List Bool) → List WithCalls → Option Fault
loop_fault rows cs = looped cs (find (is_looped rows (places cs)) (places cs))

abbrev pub constructors_in : Option WithCalls → List Call
constructors_in None = []
constructors_in (Some caller) = caller.constructors

abbrev pub destructors_in : Option WithCalls → List Call
destructors_in None = []
destructors_in (Some caller) = caller.destructors

abbrev pub constructors_at : List WithCalls → ℕ → List Call
constructors_at cs x = constructors_in (slice_get cs x)

abbrev pub destructors_at : List WithCalls → ℕ → List Call
destructors_at cs x = destructors_in (slice_get cs x)

-- destructors run in the reverse order
unfoldable pub choice_in : List (List ℕ) → List WithCalls → List ℕ → Choice
choice_in found cs order =
    record {
      library = false;
      instances = found;
      constructors = flat_map (constructors_at cs) order;
      destructors = reverse (flat_map (destructors_at cs) order);
    }

unfoldable pub choice_by : List (List ℕ) → List WithCalls → List (List Bool) → Result Choice Fault
choice_by found cs rows =
    or_fault (loop_fault rows cs) (Ok (choice_in found cs (call_order (before rows) (places cs))))
