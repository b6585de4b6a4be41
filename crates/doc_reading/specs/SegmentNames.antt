-- Names of platforms and packages.
use Rattle.std.specs.Prelude.{ℕ, Bool, ◌&&◌, not, nat_le, ◌==◌, IsTrue, List, length, Result, Ok, Err, if◌then◌else◌}
use Rattle.std.specs.List.{list_any}
use Rattle.build_base.specs.Path.{is_path}
use Rattle.build_base.specs.FaultText.{fault_of}
use Rattle.build_base.specs.declared.fault.Fault.{Fault}
use Rattle.build_base.specs.declared.fault.Place.{Place}
use Rattle.build_base.specs.FaultCodes.{BAD_PATH}

-- one segment of a path, of at most 64 bytes
unfoldable pub is_segment_name : List ℕ → Bool
is_segment_name text = nat_le (length text) 64 && not (list_any (λ b. b == 47) text) && is_path text

abbrev pub IsSegmentName : List ℕ → Type 0
IsSegmentName text = IsTrue (is_segment_name text)

abbrev pub segment_name : Place → List ℕ → Result (List ℕ) Fault
segment_name at text = if is_segment_name text then Ok text else Err (fault_of BAD_PATH at text)
