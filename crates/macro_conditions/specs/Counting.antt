-- The same expansion, which counts the answers that it used; and how many may still be wanted.
use Rattle.std.specs.Prelude.{ℕ, zero, suc, ◌+◌, ◌-◌, ◌*◌, if◌then◌else◌, List, [], ◌∷◌, ◌++◌, map, Option, Some, None, Result, Ok, Err}
use Rattle.std.specs.List.{All}
use Rattle.build_base.specs.declared.fault.Fault.{Fault}
use Rattle.build_base.specs.declared.lines.Macro.{Macro}
use Rattle.build_base.specs.declared.lines.Taken.{Taken as Line}
use Rattle.build_base.specs.declared.outside.Got.{Got}
use Rattle.build_base.specs.declared.outside.Got.TheVariants.{File, Absent, TooLong}
use Rattle.build_base.specs.Outside.{IsWithin}
use Rattle.build_base.specs.Path.{path_field}
use Rattle.build_base.specs.FaultText.{fault_of}
use Rattle.macro_conditions.specs.declared.known.Known.{Known}
use Rattle.macro_conditions.specs.Directives.{is_include}
use Rattle.macro_expressions.specs.Macros.{without_workspace}
use Rattle.macro_conditions.specs.Sources.{Source, answer, places, Located, wanted, missing, over_limit, there, located}
use Rattle.macro_conditions.specs.LineMeaning.{Acts, ◌>>=◌, file_of}
use Rattle.macro_conditions.specs.Expansion.{Env, apply_directive, tested, include_field, unbalanced, fault_at, long_fault, place_of, line_at, lines_read, inside, outside, is_open, begun}
use Rattle.build_base.specs.FaultCodes.{BAD_PATH, FILE_ABSENT, INCLUDE_ABSENT, INCLUDE_LOOP, INCLUDE_TOO_DEEP}

-- the answers used so far
pub record Counted : Type 0 where
  pub env : Env
  pub used : ℕ

-- a fault, or a wanted path with the number of answers used before it
pub data Halt : Type 0 where
  fault : Fault → Halt
  wants : List ℕ → ℕ → Halt

abbrev pub counting : ℕ → Result Env Fault → Result Counted Halt
counting u (Ok x) = Ok (record { env = x; used = u })
counting u (Err f) = Err (fault f)

abbrev pub saying : {A : Type 0} → Result A Fault → Result A Halt
saying (Ok x) = Ok x
saying (Err f) = Err (fault f)

-- how many of the places have an answer that was used
abbrev pub more_asked : Option Got → ℕ → ℕ
more_asked None rest = 0
more_asked (Some Absent) rest = 1 + rest
more_asked (Some TooLong) rest = 1
more_asked (Some (File bytes)) rest = 1

abbrev pub asked : Source → List (List ℕ) → ℕ
asked known [] = 0
asked known (path ∷ paths) = more_asked (known path) (asked known paths)

abbrev pub counted_acts : List Macro → (Line → Counted → Result Counted Halt) → Acts Counted Halt
counted_acts fixed include = record {
  act = λ line c. if is_include line.text then include line c
      else counting c.used (apply_directive fixed line c.env);
  test = λ line c. saying (tested fixed line c.env);
  unbalanced = λ line. fault (unbalanced line);
}

abbrev pub counted_inside : List ℕ → ℕ → Env → Counted
counted_inside path u e = record { env = inside path e; used = u }

abbrev pub counted_outside : Env → Counted → Counted
counted_outside e x = record { env = outside e x.env; used = x.used }

abbrev pub counted_opened : (List Line → Counted → Result Counted Halt) → List ℕ → List ℕ → ℕ → Env
    → Result Counted Halt
counted_opened file path bytes u e = saying (lines_read path bytes)
    >>= (λ lines. file (map (line_at path) lines) (counted_inside path u e)
    >>= (λ x. Ok (counted_outside e x)))

abbrev pub counted_found : (List ℕ → List ℕ → Result Counted Halt) → Line → List ℕ → ℕ → Located
    → Result Counted Halt
counted_found enter line path u (wanted p) = Err (wants p u)
counted_found enter line path u missing = Err (fault (fault_at INCLUDE_ABSENT line path))
counted_found enter line path u (over_limit p) = Err (fault (long_fault p))
counted_found enter line path u (there p bytes) = enter p bytes

abbrev pub counted_at : (List ℕ → ℕ → List ℕ → List ℕ → Result Counted Halt) → Source → Line
    → List ℕ → ℕ → Option (List ℕ) → Result Counted Halt
counted_at enter known line field u None = Err (fault (fault_at BAD_PATH line field))
counted_at enter known line field u (Some path) =
    let v = u + asked known (places line.at.path path) in
    counted_found (enter path v) line path v (located known (places line.at.path path))

abbrev pub counted_by : (List ℕ → ℕ → List ℕ → List ℕ → Result Counted Halt) → Source → Line
    → List ℕ → ℕ → Result Counted Halt
counted_by enter known line field u =
    counted_at enter known line field u (path_field (without_workspace field))

unfoldable pub counted : Source → List Macro → ℕ → Line → Counted → Result Counted Halt
counted known fixed zero line c =
    counted_by (λ path v p bytes. Err (fault (fault_at INCLUDE_TOO_DEEP line path))) known line
    (include_field fixed line c.env) c.used
counted known fixed (suc n) line c =
    counted_by (λ path v p bytes. if is_open p c.env
    then Err (fault (fault_at INCLUDE_LOOP line path))
    else counted_opened
    (λ lines x. file_of (counted_acts fixed (counted known fixed n)) lines x) p bytes v c.env)
    known line (include_field fixed line c.env) c.used

abbrev pub counted_root : Source → List Macro → List ℕ → Env → Option Got → Result Counted Halt
counted_root known fixed root e None = Err (wants root 0)
counted_root known fixed root e (Some Absent) = Err (fault (fault_of FILE_ABSENT (place_of root 0)
    root))
counted_root known fixed root e (Some TooLong) = Err (fault (long_fault root))
counted_root known fixed root e (Some (File bytes)) =
    counted_opened (λ lines x. file_of (counted_acts fixed (counted known fixed 31)) lines x) root
    bytes 1 e

-- the answers that one include can use: those of its two places, and those of as many lines as a
-- file may have
unfoldable pub most : ℕ → ℕ → ℕ
most longest zero = 2
most longest (suc n) = 2 + longest * most longest n

abbrev pub left_by : ℕ → Result Counted Halt → ℕ
left_by m (Ok x) = 0
left_by m (Err (fault f)) = 0
left_by m (Err (wants path u)) = m - u

-- how many answers may still be wanted, where a file has at most so many bytes, and so no more
-- lines than that and one
unfoldable pub left : ℕ → List ℕ → List Macro → List Macro → List Known → ℕ
left limit root macros fixed files =
    left_by (1 + (limit + 1) * most (limit + 1) 31)
    (counted_root (answer files) fixed root (begun macros) (answer files root))

-- what is known of one path more
abbrev pub with_answer : List Known → List ℕ → Got → List Known
with_answer files path got = files ++ record { path = path; got = got } ∷ []

-- each file that is known has at most so many bytes
abbrev pub AreWithin : ℕ → List Known → Type 0
AreWithin limit files = All (λ (known : Known). IsWithin limit known.got) files
