-- A path that is wanted has no answer.
use Rattle.std.proofs.Common.{◌≡◌, ℕ, zero, suc, Bool, true, false, cond, List, [], ◌∷◌, map, Option, Some, None, Result, Ok, Err, refl, subst}
use Rattle.build_base.specs.declared.fault.Fault.{Fault}
use Rattle.build_base.specs.declared.lines.Lines.{Lines}
use Rattle.build_base.specs.declared.lines.Macro.{Macro}
use Rattle.build_base.specs.declared.lines.Taken.{Taken as Line}
use Rattle.build_base.specs.declared.outside.Got.{Got}
use Rattle.build_base.specs.declared.outside.Got.TheVariants.{File, Absent, TooLong}
use Rattle.build_base.specs.Path.{path_field}
use Rattle.macro_conditions.specs.Directives.{is_include}
use Rattle.macro_expressions.specs.Macros.{without_workspace}
use Rattle.macro_conditions.specs.Sources.{Source, places, Located, wanted, missing, over_limit, there, at_place, or_located, located}
use Rattle.macro_conditions.specs.LineMeaning.{◌>>=◌, file_of}
use Rattle.macro_conditions.specs.Expansion.{Env, Stop, bad, need, settled, acts, apply_directive, tested, fault_at, include_field, line_at, lines_read, inside, outside, file_lines, is_open, included, begun, document, rooted, expansion}
use Rattle.macro_conditions.proofs.IncludeLemmas.{found_at, at_path}
use Rattle.macro_conditions.proofs.TreeKeeps.{IsKept, file_kept}
use Rattle.build_base.specs.FaultCodes.{INCLUDE_LOOP, INCLUDE_TOO_DEEP}

-- what is wanted is unknown
abbrev Wants : {A : Type 0} → Source → Result A Stop → Type 0
Wants known (Ok x) = Unit {0}
Wants known (Err (bad f)) = Unit {0}
Wants known (Err (need p)) = known p ≡ None

wants_bind : {A B : Type 0} (known : Source) (r : Result A Stop) (f : A → Result B Stop) → Wants known r → ((x : A) → Wants known (f x)) → Wants known (r >>= f)
wants_bind known (Ok x) f h k = k x
wants_bind known (Err (bad i)) f h k = tt
wants_bind known (Err (need p)) f h k = h

wants_either : {A : Type 0} (known : Source) (b : Bool) (x y : Result A Stop) → Wants known x → Wants known y → Wants known (cond b x y)
wants_either known true x y p q = p
wants_either known false x y p q = q

wants_settled : {A : Type 0} (known : Source) (r : Result A Fault) → Wants known (settled r)
wants_settled known (Ok x) = tt
wants_settled known (Err f) = tt

kept : (known : Source) (fixed : List Macro) (i : Line → Env → Result Env Stop) → ((l : Line) (e : Env) → Wants known (i l e)) → IsKept (acts fixed i) (λ e r. Wants known r)
kept known fixed i h = record {
  ok = λ e. tt;
  act = λ l e. wants_either known (is_include l.text) (i l e) (settled (apply_directive fixed l e)) (h l e) (wants_settled known (apply_directive fixed l e));
  stray = λ l e. tt;
  bind = λ e r f p q. wants_bind known r f p q;
  choose = λ l e f p. wants_bind known (settled (tested fixed l e)) f (wants_settled known (tested fixed l e)) p;
}

wants_opened : (known : Source) (file : List Line → Env → Result Env Stop) → ((ls : List Line) (e : Env) → Wants known (file ls e)) → (path bytes : List ℕ) (e : Env) → Wants known (file_lines file path bytes e)
wants_opened known file h path bytes e =
    let leave : Env → Result Env Stop = λ x. Ok (outside e x) in
    wants_bind known (settled (lines_read path bytes)) (λ lines. file (map (line_at path) lines) (inside path e) >>= leave) (wants_settled known (lines_read path bytes))
    (λ lines. wants_bind known (file (map (line_at path) lines) (inside path e)) leave (h (map (line_at path) lines) (inside path e)) (λ x. tt))

abbrev WantsAt : Source → Located → Type 0
WantsAt known (wanted p) = known p ≡ None
WantsAt known missing = Unit {0}
WantsAt known (over_limit p) = Unit {0}
WantsAt known (there p bytes) = Unit {0}

wants_one : (known : Source) (p : List ℕ) (a : Option Got) (rest : Located) → known p ≡ a → WantsAt known rest → WantsAt known (or_located (at_place p a) rest)
wants_one known p None rest is h = is
wants_one known p (Some Absent) rest is h = h
wants_one known p (Some TooLong) rest is h = tt
wants_one known p (Some (File bytes)) rest is h = tt

wants_places : (known : Source) (ps : List (List ℕ)) → WantsAt known (located known ps)
wants_places known [] = tt
wants_places known (p ∷ ps) = wants_one known p (known p) (located known ps) refl (wants_places known ps)

wants_found : (known : Source) (enter : List ℕ → List ℕ → Result Env Stop) → ((p bytes : List ℕ) → Wants known (enter p bytes)) → (l : Line) (path : List ℕ) (x : Located) → WantsAt known x → Wants known (found_at enter l path x)
wants_found known enter h l path (wanted p) w = w
wants_found known enter h l path missing w = tt
wants_found known enter h l path (over_limit p) w = tt
wants_found known enter h l path (there p bytes) w = h p bytes

wants_path : (known : Source) (enter : List ℕ → List ℕ → List ℕ → Result Env Stop) → ((path p bytes : List ℕ) → Wants known (enter path p bytes)) → (l : Line) (field : List ℕ) (o : Option (List ℕ)) → Wants known (at_path enter known l field o)
wants_path known enter h l field None = tt
wants_path known enter h l field (Some path) = wants_found known (enter path) (h path) l path (located known (places l.at.path path)) (wants_places known (places l.at.path path))

wants_included : (known : Source) (fixed : List Macro) (n : ℕ) (l : Line) (e : Env) → Wants known (included known fixed n l e)
unfolding included
wants_included known fixed zero l e =
    wants_path known (λ path p bytes. Err (bad (fault_at INCLUDE_TOO_DEEP l path))) (λ path p bytes. tt) l (include_field fixed l e) (path_field (without_workspace (include_field fixed l e)))
wants_included known fixed (suc n) l e =
    let file : List Line → Env → Result Env Stop = λ ls x. file_of (acts fixed (included known fixed n)) ls x in
    wants_path known (λ path p bytes. cond (is_open p e) (Err (bad (fault_at INCLUDE_LOOP l path))) (file_lines file p bytes e))
    (λ path p bytes. wants_either known (is_open p e) (Err (bad (fault_at INCLUDE_LOOP l path))) (file_lines file p bytes e) tt
    (wants_opened known file (λ ls x. file_kept (kept known fixed (included known fixed n) (wants_included known fixed n)) ls x) p bytes e))
    l (include_field fixed l e) (path_field (without_workspace (include_field fixed l e)))

wants_root : (known : Source) (fixed : List Macro) (root : List ℕ) (e : Env) (a : Option Got) → known root ≡ a → Wants known (rooted known fixed root e a)
wants_root known fixed root e None is = is
wants_root known fixed root e (Some Absent) is = tt
wants_root known fixed root e (Some TooLong) is = tt
wants_root known fixed root e (Some (File bytes)) is =
    let file : List Line → Env → Result Env Stop = λ ls x. file_of (acts fixed (included known fixed 31)) ls x in
    wants_opened known file (λ ls x. file_kept (kept known fixed (included known fixed 31) (wants_included known fixed 31)) ls x) root bytes e

-- a path that a document wants has no answer
pub wanted_unknown : (known : Source) (root : List ℕ) (macros fixed : List Macro) (path : List ℕ) → expansion known root macros fixed ≡ Err (need path) → known path ≡ None
unfolding expansion
wanted_unknown known root macros fixed path e =
    subst (λ (r : Result Lines Stop). Wants known r) e
    (wants_bind known (rooted known fixed root (begun macros) (known root)) (λ x. document root x) (wants_root known fixed root (begun macros) (known root) refl) (λ x. tt))
