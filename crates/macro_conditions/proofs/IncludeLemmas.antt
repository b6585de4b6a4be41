-- An include is its path, then the file of that path, and then what the file comes to.
use Rattle.std.proofs.Common.{◌≡◌, ℕ, zero, suc, List, Option, Result, Ok, refl, sym, ap, ◌∙◌, subst}
use Rattle.build_base.specs.declared.lines.Macro.{Macro}
use Rattle.build_base.specs.declared.lines.Taken.{Taken as Line}
use Rattle.macro_conditions.specs.declared.work.Stopped.{Stopped}
use Rattle.macro_conditions.specs.LineMeaning.{◌>>=◌}
use Rattle.macro_conditions.specs.Sources.{Source, Located, located, places}
use Rattle.macro_conditions.specs.Expansion.{Env, Stop, path_stated, include_path, included_file, include_field, included, entered}
use Rattle.macro_conditions.specs.Work.{Halts, stop_in}
use Rattle.macro_conditions.proofs.FileTurns.{halts_bind}

-- the file that is found of an include of a path, and of a field that states a path or none
abbrev pub found_at : (List ℕ → List ℕ → Result Env Stop) → Line → List ℕ → Located → Result Env Stop
found_at enter line path l = included_file line path l >>= (λ found. enter found.0 found.1)

abbrev pub at_path : (List ℕ → List ℕ → List ℕ → Result Env Stop) → Source → Line → List ℕ → Option (List ℕ) → Result Env Stop
at_path enter known line field o =
    path_stated line field o >>= (λ path. found_at (enter path) line path (located known (places line.at.path path)))

module _ (known : Source) (fixed : List Macro) (levels : ℕ) (line : Line) (e : Env) where
  abbrev Path : Result (List ℕ) Stop
  Path = include_path line (include_field fixed line e)

  abbrev File : List ℕ → Result (List ℕ × List ℕ) Stop
  File path = included_file line path (located known (places line.at.path path))

  abbrev Rest : List ℕ → Result Env Stop
  Rest path = File path >>= (λ p. entered known fixed levels line path p.0 p.1 e)

include_is : (known : Source) (fixed : List Macro) (levels : ℕ) (line : Line) (e : Env) → included known fixed levels line e ≡ Path known fixed levels line e >>= Rest known fixed levels line e
unfolding included entered
include_is known fixed zero line e = refl
include_is known fixed (suc n) line e = refl

module _ (known : Source) (fixed : List Macro) (levels : ℕ) (line : Line) (e : Env) where
  pub path_halts : (s : Stopped) → Halts s (stop_in (Path known fixed levels line e)) → Halts s (stop_in (included known fixed levels line e))
  path_halts s h = subst (λ (o : Result Env Stop). Halts s (stop_in o)) (sym (include_is known fixed levels line e)) (halts_bind s (Path known fixed levels line e) (Rest known fixed levels line e) h)

  rest_is : (path : List ℕ) → Path known fixed levels line e ≡ Ok path → included known fixed levels line e ≡ Rest known fixed levels line e path
  rest_is path is = include_is known fixed levels line e ∙ ap (λ (r : Result (List ℕ) Stop). r >>= Rest known fixed levels line e) is

  pub file_halts : (s : Stopped) (path : List ℕ) → Path known fixed levels line e ≡ Ok path → Halts s (stop_in (File known fixed levels line e path)) → Halts s (stop_in (included known fixed levels line e))
  file_halts s path is h = subst (λ (o : Result Env Stop). Halts s (stop_in o)) (sym (rest_is path is)) (halts_bind s (File known fixed levels line e path) (λ p. entered known fixed levels line path p.0 p.1 e) h)

  pub enters : (path p bytes : List ℕ) → Path known fixed levels line e ≡ Ok path → File known fixed levels line e path ≡ Ok (p, bytes) → entered known fixed levels line path p bytes e ≡ included known fixed levels line e
  enters path p bytes is found = sym (rest_is path is ∙ ap (λ (r : Result (List ℕ × List ℕ) Stop). r >>= (λ q. entered known fixed levels line path q.0 q.1 e)) found)
