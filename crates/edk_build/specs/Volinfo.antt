-- What the words `volinfo IMAGE` tell: the listing of a file of the tree, or why there is none. The
-- rule is this project's own.
use Rattle.std.specs.Prelude.{◌≡◌, ◌⊎◌, ℕ, List, [], ◌∷◌, Option, Result, Ok, Err}
use Rattle.std.specs.Option.{IfSome}
use Rattle.build_base.specs.Outside.{Files, Emission, got_of}
use Rattle.build_base.specs.declared.outside.Got.{Got}
use Rattle.build_base.specs.declared.outside.Got.TheVariants.{File, Absent, TooLong}
use Rattle.build_base.specs.declared.outside.Target.TheVariants.{Out as ToOut}
use Rattle.build_base.specs.declared.fault.Fault.{Fault}
use Rattle.build_base.specs.FaultText.{fault_of}
use Rattle.build_base.specs.Spelling.{Output, text, Spelled, SpelledCut}
use Rattle.build_base.specs.World.{file_limit}
use Rattle.volume_reader.specs.Listing.{listing, whole_file}
use Rattle.edk_build.specs.History.{IsTold, IsUnread}
use Rattle.edk_build.specs.declared.status.Status.{Status}
use Rattle.edk_build.specs.declared.status.Status.TheVariants as answer
use Rattle.build_base.specs.FaultCodes.{FILE_ABSENT, FILE_TOO_LONG}

-- the listing of what is got of a file, or the fault that it is absent or too long
abbrev pub listing_got : List ℕ → Got → Result (List ℕ) Fault
listing_got at (File bytes) = listing at bytes
listing_got at Absent = Err (fault_of FILE_ABSENT (whole_file at) at)
listing_got at TooLong = Err (fault_of FILE_TOO_LONG (whole_file at) at)

abbrev pub listing_outputs : List ℕ → List Output
listing_outputs lines = text ToOut lines ∷ []

-- a listing went to standard output
abbrev pub IsListed : List ℕ → Status → Option (List Emission) → Option (List Emission) → Type 0
IsListed lines answer.Done old new = Spelled old new (listing_outputs lines)
IsListed lines answer.WriteFault old new = SpelledCut old new (listing_outputs lines)
IsListed lines answer.WantOfMemory old new = new ≡ old
IsListed lines _ old new = ⊥

abbrev pub Tells : Result (List ℕ) Fault → Status → Option (List Emission) → Option (List Emission)
    → Type 0
Tells (Ok lines) status old new = IsListed lines status old new
Tells (Err fault) status old new = IsTold fault status old new

-- the file wasn't read, and nothing was written; or what comes of the file that the tree has was
-- told
abbrev pub IsVolinfo : Option Files → List ℕ → Status → Option (List Emission)
    → Option (List Emission) → Type 0
IsVolinfo held at status old new =
    (IsUnread status × (new ≡ old))
    ⊎ ((got : Got) × IfSome held (λ files. got ≡ got_of file_limit (files at))
    × Tells (listing_got at got) status old new)
