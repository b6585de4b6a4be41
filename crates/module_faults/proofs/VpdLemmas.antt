-- The image of vital product data fails by names.
use Rattle.std.specs.Prelude.{decimal, nat_lt, find}
use Rattle.std.specs.Option.{option_map}
use Rattle.std.proofs.Common.{◌++◌, List, [], ◌∷◌, Option, Some, None}
use Rattle.build_base.specs.FaultCodes.{VPD_TOO_LONG}
use Rattle.build_base.specs.FaultText.{fault_of}
use Rattle.vpd_image.specs.declared.ask.VpdAsk.{VpdAsk}
use Rattle.vpd_image.specs.Entries.{Entry}
use Rattle.vpd_image.specs.Places.{Placed, end_limit, end_of, written_entries, placed, shares, overlap_of, overlap_with, overlap_fault, end_fault, long_fault, placed_by}
use Rattle.vpd_image.specs.Vpd.{entries_of, vpd_by, vpd_of}
use Rattle.named_faults.specs.Named.{IsNamed, FailsByName}
use Rattle.named_faults.proofs.NamedLemmas.{or_else_named, then_fails, or_fault_fails, unless_fails, fault_if_named}
use Rattle.named_faults.proofs.CodeLemmas.{vpd_overlap_named, vpd_too_long_named}

other_named : (entry : Placed) (other : Option Placed) → IsNamed (option_map (overlap_of entry) other)
unfolding overlap_of
other_named entry None = record {}
other_named entry (Some other) = vpd_overlap_named

overlap_named : (above more : List Placed) → IsNamed (overlap_fault above more)
unfolding overlap_fault
overlap_named above [] = record {}
overlap_named above (entry ∷ more) =
    or_else_named (overlap_with above entry) (overlap_fault (above ++ entry ∷ []) more) (other_named entry (find (shares entry.offset (end_of entry)) above)) (overlap_named (above ++ entry ∷ []) more)

end_named : (entry : Placed) → IsNamed (end_fault entry)
unfolding end_fault
end_named entry = fault_if_named (nat_lt end_limit (end_of entry)) (fault_of VPD_TOO_LONG entry.entry.line.at (decimal (end_of entry))) vpd_too_long_named

long_named : (all : List Placed) → IsNamed (long_fault all)
unfolding long_fault
long_named [] = record {}
long_named (entry ∷ more) = or_else_named (end_fault entry) (long_fault more) (end_named entry) (long_named more)

placed_fails : (entries : List Entry) → FailsByName (placed_by entries)
unfolding placed_by
placed_fails entries =
    or_fault_fails (overlap_fault [] (written_entries entries)) _ (overlap_named [] (written_entries entries))
    (λ e. or_fault_fails (long_fault (written_entries entries)) _ (long_named (written_entries entries))
    (λ e. unless_fails (long_fault (placed entries)) (placed entries) (long_named (placed entries))))

by_fails : (entries : List Entry) → FailsByName (vpd_by entries)
unfolding vpd_by
by_fails entries = then_fails (placed_by entries) _ (placed_fails entries) (λ all e. record {})

pub vpd_fails : (ask : VpdAsk) → FailsByName (vpd_of ask)
unfolding vpd_of
vpd_fails ask = by_fails (entries_of ask)
