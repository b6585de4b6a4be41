-- The bytes of a flash device, by the region that holds each place (EDK II FDF specification,
-- section 2.4, FD regions).
use Rattle.std.specs.Prelude.{ℕ, ◌+◌, ◌-◌, nat_lt, List, [], ◌∷◌, ◌++◌, length, Option, None, Result, codes, decimal, replicate}
use Rattle.build_base.specs.declared.fault.Place.{Place}
use Rattle.build_base.specs.declared.fault.Fault.{Fault}
use Rattle.build_base.specs.First.{first_holding, or_else, unless}
use Rattle.build_base.specs.Pieces.{Piece, image_of}
use Rattle.build_base.specs.Runs.{free_byte}
use Rattle.doc_types.specs.declared.flash.Region.{Region}
use Rattle.doc_types.specs.declared.flash.DevicePlan.{DevicePlan}
use Rattle.build_base.specs.FaultCodes.{DATA_TOO_LONG, REGION_ORDER, REGION_OUTSIDE}

-- the bytes of a region: its content, and the erase byte up to its size
abbrev pub region_piece : ℕ → Region → List ℕ → Piece
region_piece free region part =
    record { start = region.offset; bytes = part ++ replicate (region.size - length part) free }

unfoldable pub region_pieces : ℕ → List Region → List (List ℕ) → List Piece
region_pieces free [] parts = []
region_pieces free (region ∷ regions) [] = []
region_pieces free (region ∷ regions) (part ∷ parts) =
    region_piece free region part ∷ region_pieces free regions parts

-- each byte is that of the region that holds its place, and else the erase byte
unfoldable pub device_image : DevicePlan → List (List ℕ) → List ℕ
device_image plan parts = image_of (free_byte plan.erase)
    (region_pieces (free_byte plan.erase) plan.regions parts) plan.size

-- `first sign second`
abbrev pub comparison_text : ℕ → List ℕ → ℕ → List ℕ
comparison_text first sign second = decimal first ++ sign ++ decimal second

abbrev pub compared_at : ℕ → Place → ℕ → List ℕ → ℕ → Fault
compared_at code place first sign second =
    record { code = code; place = place; detail = comparison_text first sign second }

-- the first fault of a region that is to start at a place or later, in a device of this size, and
-- to hold so many bytes
unfoldable pub region_fault : ℕ → ℕ → Region → ℕ → Option Fault
region_fault size at region wanted =
    first_holding (
    (nat_lt region.offset at, compared_at REGION_ORDER region.at region.offset (codes " < ") at)
    ∷ (
      nat_lt size (region.offset + region.size),
      compared_at REGION_OUTSIDE region.at (region.offset + region.size) (codes " > ") size,
    )
    ∷ (
      nat_lt region.size wanted,
      compared_at DATA_TOO_LONG region.at wanted (codes " > ")
          region.size,
    )
    ∷ [])

-- the first fault of regions, each of which is to start at the end of the one above or later
unfoldable pub device_fault : ℕ → ℕ → List Region → List (List ℕ) → Option Fault
device_fault size at [] parts = None
device_fault size at (region ∷ regions) [] = None
device_fault size at (region ∷ regions) (part ∷ parts) =
    or_else (region_fault size at region (length part))
    (device_fault size (region.offset + region.size) regions parts)

-- the device, or its first fault
unfoldable pub device_of : DevicePlan → List (List ℕ) → Result (List ℕ) Fault
device_of plan parts = unless (device_fault plan.size 0 plan.regions parts)
    (device_image plan parts)
