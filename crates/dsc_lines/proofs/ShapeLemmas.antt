-- Names of platforms, and the folder of outputs of one that states none.
use Rattle.std.proofs.Common.{◌≡◌, ◌++◌, ℕ, Bool, true, false, if◌then◌else◌, List, Result, Ok, Err, codes, refl, sym, subst}
use Rattle.build_base.specs.FaultText.{fault_of}
use Rattle.build_base.specs.Path.{IsPathField}
use Rattle.build_base.specs.declared.fault.Fault.{Fault}
use Rattle.build_base.specs.declared.fault.Place.{Place}
use Rattle.doc_reading.specs.SegmentNames.{is_segment_name, IsSegmentName, segment_name}
use Rattle.doc_reading.proofs.SegmentNameLemmas.{folder_is_path}
use Rattle.build_base.specs.FaultCodes.{BAD_PATH}

abbrev as_ok : List ℕ → Result (List ℕ) Fault
as_ok text = Ok text

abbrev as_err : Fault → Result (List ℕ) Fault
as_err fault = Err fault

chosen : (t : Bool) (text name : List ℕ) (fault : Fault) → (if t then as_ok text else as_err fault) ≡ as_ok name → (t ≡ true) × (text ≡ name)
chosen true text name fault e = (refl, cc)
chosen false text name fault e = absurd cc

-- a name that was read is one
pub named_ok : (at : Place) (text name : List ℕ) → segment_name at text ≡ Ok name → IsSegmentName name
named_ok at text name e =
    let both = chosen (is_segment_name text) text name (fault_of BAD_PATH at text) e in
    subst IsSegmentName both.1 both.0

pub folder_fits : (name path : List ℕ) → IsSegmentName name → path ≡ codes "Build/" ++ name → IsPathField path
folder_fits name path h e = subst IsPathField (sym e) (folder_is_path name h)
