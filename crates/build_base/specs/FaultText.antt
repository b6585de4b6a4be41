-- The text of a fault.
use Rattle.std.specs.Prelude.{ℕ, List, [], ◌++◌, unwrap_or, codes, decimal}
use Rattle.build_base.specs.declared.fault.Fault.{Fault}
use Rattle.build_base.specs.declared.fault.Place.{Place}
use Rattle.build_base.specs.FaultNames.{fault_name}

-- a fault of these parts
abbrev pub fault_of : ℕ → Place → List ℕ → Fault
fault_of code place detail = record { code = code; place = place; detail = detail }

-- `PATH(LINE): error CODE: NAME: DETAIL` and a line feed
unfoldable pub fault_text : Fault → List ℕ
fault_text fault =
    fault.place.path ++ codes "(" ++ decimal fault.place.line ++ codes "): error "
    ++ decimal fault.code ++ codes ": "
    ++ unwrap_or (fault_name fault.code) [] ++ codes ": " ++ fault.detail ++ codes "\n"
