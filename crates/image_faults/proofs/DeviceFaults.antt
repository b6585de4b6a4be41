-- Faults of devices have names.
use Rattle.std.proofs.Common.{List, [], codes, length, nat_lt, ℕ, ◌+◌, ◌∷◌}
use Rattle.build_base.specs.FaultCodes.{DATA_TOO_LONG, REGION_ORDER, REGION_OUTSIDE}
use Rattle.named_faults.proofs.NamedLemmas.{holding_named, or_else_named, unless_fails}
use Rattle.named_faults.specs.Named.{FailsByName, IsNamed}
use Rattle.named_faults.proofs.CodeLemmas.{data_too_long_named, region_order_named, region_outside_named}
use Rattle.doc_types.specs.declared.flash.DevicePlan.{DevicePlan}
use Rattle.doc_types.specs.declared.flash.Region.{Region}
use Rattle.fd_regions.specs.Device.{compared_at, device_fault, device_image, device_of, region_fault}

region_named : (size at : ℕ) (region : Region) (wanted : ℕ) → IsNamed (region_fault size at region wanted)
unfolding region_fault
region_named size at region wanted =
    holding_named
    ((nat_lt region.offset at, compared_at REGION_ORDER region.at region.offset (codes " < ") at)
    ∷ (nat_lt size (region.offset + region.size), compared_at REGION_OUTSIDE region.at (region.offset + region.size) (codes " > ") size)
    ∷ (nat_lt region.size wanted, compared_at DATA_TOO_LONG region.at wanted (codes " > ") region.size)
    ∷ [])
    (region_order_named, (region_outside_named, (data_too_long_named, tt)))

regions_named : (size at : ℕ) (regions : List Region) (parts : List (List ℕ)) → IsNamed (device_fault size at regions parts)
unfolding device_fault
regions_named size at [] parts = tt
regions_named size at (region ∷ regions) [] = tt
regions_named size at (region ∷ regions) (part ∷ parts) =
    or_else_named (region_fault size at region (length part)) (device_fault size (region.offset + region.size) regions parts) (region_named size at region (length part))
    (regions_named size (region.offset + region.size) regions parts)

pub device_fails : (plan : DevicePlan) (parts : List (List ℕ)) → FailsByName (device_of plan parts)
unfolding device_of
device_fails plan parts = unless_fails (device_fault plan.size 0 plan.regions parts) (device_image plan parts) (regions_named plan.size 0 plan.regions parts)
