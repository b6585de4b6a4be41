-- The bytes of what an output has: an image, piece by piece, or a text.
use Rattle.std.specs.Prelude.{ℕ, List}
use Rattle.build_base.specs.Runs.{runs_bytes, are_blank}
use Rattle.edk_build.specs.declared.content.Kind.{Kind}
use Rattle.edk_build.specs.declared.content.Kind.TheVariants.{Image, Text}
use Rattle.edk_build.specs.declared.content.Left.{Left}
use Rattle.edk_build.specs.declared.content.Left.TheVariants as left
use Rattle.std.specs.Prelude.{Bool, true}

abbrev pub kind_bytes : Kind → List ℕ
kind_bytes (Image runs) = runs_bytes runs.now
kind_bytes (Text bytes) = bytes.now

-- a fill is of erased flash
abbrev pub is_blank_kind : Kind → Bool
is_blank_kind (Image runs) = are_blank runs.now
is_blank_kind (Text bytes) = true

-- what is left of it
abbrev pub left_bytes : Left → List ℕ
left_bytes (left.Image pieces) = pieces
left_bytes (left.Text bytes) = bytes.now
