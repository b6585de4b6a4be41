-- A document and an include come to the files that they open.
use Rattle.std.proofs.Common.{◌≡◌, ◌<◌, ℕ, zero, suc, ◌-◌, Bool, true, false, cond, List, [], ◌∷◌, map, Option, Some, None, Result, Ok, Err, refl, sym, ap, ◌∙◌, subst, arith}
use Rattle.build_base.specs.declared.fault.Fault.{Fault}
use Rattle.build_base.specs.declared.lines.Macro.{Macro}
use Rattle.build_base.specs.declared.lines.Taken.{Taken as Line}
use Rattle.build_base.specs.declared.outside.Got.{Got}
use Rattle.build_base.specs.declared.outside.Got.TheVariants.{File, Absent, TooLong}
use Rattle.build_base.specs.FaultCodes.{INCLUDE_LOOP}
use Rattle.meta_lexer.specs.Lines.{TextLine}
use Rattle.macro_conditions.specs.declared.work.OpenFile.{OpenFile}
use Rattle.macro_conditions.specs.declared.work.Stopped.{Stopped}
use Rattle.macro_conditions.specs.LineMeaning.{Acts, ◌>>=◌, file_of}
use Rattle.macro_conditions.specs.LineStack.{run}
use Rattle.macro_conditions.specs.Sources.{Source, Located, wanted, missing, over_limit, there, located, places}
use Rattle.macro_conditions.specs.Expansion.{Env, Stop, bad, settled, fault_at, is_open, line_at, acts, included, included_file, include_path, include_field, entered, inside, outside, lines_read, rooted, begun, document, expansion}
use Rattle.macro_conditions.specs.Work.{Halts, stop_in, Agrees}
use Rattle.macro_conditions.specs.OpenFiles.{Opened, begun_at, rest, opened, fresh_file, found_file, root_file, opened_of, Opens, OpensFile, IsLeft}
use Rattle.macro_conditions.proofs.StackIsTree.{same}
use Rattle.macro_conditions.proofs.IncludeLemmas.{enters}
use Rattle.macro_conditions.proofs.FileTurns.{no_stop}
use Rattle.macro_conditions.proofs.MoreAnswersLaw.{LocatedStays, located_stays}

abbrev file_in : Acts Env Stop → List Line → Env → Result Env Stop
file_in a ls x = file_of a ls x

-- what a file's lines come to that are read, and where it is opened
abbrev opened_by : List ℕ → Result (List TextLine) Fault → Result Opened Stop
opened_by path r = settled r >>= (λ lines. Ok (fresh_file path (map (line_at path) lines)))

abbrev lines_by : Acts Env Stop → List ℕ → Result (List TextLine) Fault → Env → Result Env Stop
lines_by a path r e = settled r >>= (λ lines. file_of a (map (line_at path) lines) (inside path e) >>= (λ x. Ok (outside e x)))

abbrev runs : Acts Env Stop → Opened → Env → Result Env Stop
runs a f e = run a (Ok (begun_at f (inside f.path e))) f.lines >>= (λ x. Ok (outside e x))

lines_run : (a : Acts Env Stop) (path : List ℕ) (r : Result (List TextLine) Fault) (e : Env) (f : Opened) → opened_by path r ≡ Ok f → lines_by a path r e ≡ runs a f e
lines_run a path (Err i) e f h = absurd (cc)
lines_run a path (Ok ls) e f h =
    let is : fresh_file path (map (line_at path) ls) ≡ f = cc in
    ap (λ (r : Result Env Stop). r >>= (λ x. Ok (outside e x))) (sym (same a (map (line_at path) ls) (inside path e)))
    ∙ ap (λ (g : Opened). runs a g e) is

fresh_frames : (path : List ℕ) (r : Result (List TextLine) Fault) (f : Opened) → opened_by path r ≡ Ok f → (f.frames ≡ []) × (f.path ≡ path)
fresh_frames path (Err i) f h = absurd (cc)
fresh_frames path (Ok ls) f h =
    let is : f ≡ fresh_file path (map (line_at path) ls) = cc in
    (ap (λ (g : Opened). g.frames) is, ap (λ (g : Opened). g.path) is)

lines_halt : (a : Acts Env Stop) (path : List ℕ) (r : Result (List TextLine) Fault) (e : Env) (s : Stopped) → Halts s (stop_in (opened_by path r)) → Halts s (stop_in (lines_by a path r e))
lines_halt a path (Err i) e s h = h
lines_halt a path (Ok ls) e s h = no_stop s (lines_by a path (Ok ls) e) h

-- what is found of an include is the file that it opens
abbrev chosen : Bool → Line → List ℕ → Result Env Stop → Result Env Stop
chosen b l path r = cond b (Err (bad (fault_at INCLUDE_LOOP l path))) r

abbrev chosen_file : Bool → Line → List ℕ → Result Opened Stop → Result Opened Stop
chosen_file b l path r = cond b (Err (bad (fault_at INCLUDE_LOOP l path))) r

chosen_runs : (b : Bool) (l : Line) (path : List ℕ) (a : Acts Env Stop) (p : List ℕ) (r : Result (List TextLine) Fault) (e : Env) (f : Opened) → chosen_file b l path (opened_by p r) ≡ Ok f → chosen b l path (lines_by a p r e) ≡ runs a f e
chosen_runs true l path a p r e f h = absurd (cc)
chosen_runs false l path a p r e f h = lines_run a p r e f h

chosen_frames : (b : Bool) (l : Line) (path p : List ℕ) (r : Result (List TextLine) Fault) (f : Opened) → chosen_file b l path (opened_by p r) ≡ Ok f → f.frames ≡ []
chosen_frames true l path p r f h = absurd (cc)
chosen_frames false l path p r f h = (fresh_frames p r f h).0

chosen_halts : (b : Bool) (l : Line) (path : List ℕ) (a : Acts Env Stop) (p : List ℕ) (r : Result (List TextLine) Fault) (e : Env) (s : Stopped) → Halts s (stop_in (chosen_file b l path (opened_by p r))) → Halts s (stop_in (chosen b l path (lines_by a p r e)))
chosen_halts true l path a p r e s h = h
chosen_halts false l path a p r e s h = lines_halt a p r e s h

entered_runs : (s : Source) (fixed : List Macro) (levels : ℕ) (l : Line) (path p bytes : List ℕ) (e : Env) (f : Opened) → found_file levels l path p bytes e ≡ Ok f → entered s fixed levels l path p bytes e ≡ runs (acts fixed (included s fixed (levels - 1))) f e
unfolding entered
entered_runs s fixed zero l path p bytes e f h = absurd (cc)
entered_runs s fixed (suc n) l path p bytes e f h =
    let one : n ≡ suc n - 1 = omega arith in
    chosen_runs (is_open p e) l path (acts fixed (included s fixed n)) p (lines_read p bytes) e f h
    ∙ ap (λ k. runs (acts fixed (included s fixed k)) f e) one

entered_halts : (known : Source) (fixed : List Macro) (n : ℕ) (l : Line) (path p bytes : List ℕ) (e : Env) (s : Stopped) → Halts s (stop_in (found_file n l path p bytes e)) → Halts s (stop_in (entered known fixed n l path p bytes e))
unfolding entered
entered_halts known fixed zero l path p bytes e s k = k
entered_halts known fixed (suc n) l path p bytes e s k = chosen_halts (is_open p e) l path (acts fixed (included known fixed n)) p (lines_read p bytes) e s k

found_more : (m : Source) (l : Line) (path : List ℕ) (a b : Located) (found : List ℕ × List ℕ) → LocatedStays m a b → included_file l path a ≡ Ok found → included_file l path b ≡ Ok found
found_more m l path (wanted p) b found s h = absurd (cc)
found_more m l path missing b found s h = absurd (cc)
found_more m l path (over_limit p) b found s h = absurd (cc)
found_more m l path (there p bytes) b found s h = ap (included_file l path) s ∙ h

found_some : (levels : ℕ) (l : Line) (path p bytes : List ℕ) (e : Env) (f : Opened) → found_file levels l path p bytes e ≡ Ok f → (0 < levels) × (f.frames ≡ [])
found_some zero l path p bytes e f h = absurd (cc)
found_some (suc n) l path p bytes e f h = (omega arith, chosen_frames (is_open p e) l path p (lines_read p bytes) f h)

-- an include opens a file
pub opens : (known : Source) (fixed : List Macro) (levels : ℕ) (l : Line) (e : Env) (path p bytes : List ℕ) (f : Opened) → include_path l (include_field fixed l e) ≡ Ok path → included_file l path (located known (places l.at.path path)) ≡ Ok (p, bytes) → found_file levels l path p bytes e ≡ Ok f → Opens known fixed levels l e f
opens known fixed levels l e path p bytes f is found h =
    let some = found_some levels l path p bytes e f h in (
      some.0,
      some.1,
      λ more m.
          sym (enters more fixed levels l e path p bytes is (found_more more l path (located known (places l.at.path path)) (located more (places l.at.path path)) (p, bytes) (located_stays known more m (places l.at.path path)) found))
          ∙ entered_runs more fixed levels l path p bytes e f h,
    )

-- a file that is found and stops stops its include
pub opens_halt : (known : Source) (fixed : List Macro) (levels : ℕ) (l : Line) (e : Env) (path p bytes : List ℕ) (s : Stopped) → include_path l (include_field fixed l e) ≡ Ok path → included_file l path (located known (places l.at.path path)) ≡ Ok (p, bytes) → Halts s (stop_in (found_file levels l path p bytes e)) → Halts s (stop_in (included known fixed levels l e))
opens_halt known fixed levels l e path p bytes s is found h =
    subst (λ (o : Result Env Stop). Halts s (stop_in o)) (enters known fixed levels l e path p bytes is found) (entered_halts known fixed levels l path p bytes e s h)

-- a document comes to what is left of it at its first line
root_is : (root : List ℕ) (a : Option Got) (f : Opened) → root_file root a ≡ Ok f → (bytes : List ℕ) × (a ≡ Some (File bytes)) × (opened root bytes ≡ Ok f)
root_is root None f h = absurd (cc)
root_is root (Some Absent) f h = absurd (cc)
root_is root (Some TooLong) f h = absurd (cc)
root_is root (Some (File bytes)) f h = (bytes, refl, h)

one_file : (s : Source) (fixed : List Macro) (f : Opened) (macros : List Macro) → rest s fixed (f ∷ []) (inside f.path (begun macros)) ≡ runs (acts fixed (included s fixed 31)) f (begun macros)
unfolding rest
one_file s fixed f macros = refl

expansion_is : (s : Source) (root : List ℕ) (macros fixed : List Macro) (bytes : List ℕ) (f : Opened) → s root ≡ Some (File bytes) → opened root bytes ≡ Ok f → expansion s root macros fixed ≡ runs (acts fixed (included s fixed 31)) f (begun macros) >>= (λ x. document root x)
unfolding expansion
expansion_is s root macros fixed bytes f is o =
    ap (λ (a : Option Got). rooted s fixed root (begun macros) a >>= (λ x. document root x)) is
    ∙ ap (λ (r : Result Env Stop). r >>= (λ x. document root x)) (lines_run (acts fixed (included s fixed 31)) root (lines_read root bytes) (begun macros) f o)

pub root_begins : (known : Source) (root : List ℕ) (macros fixed : List Macro) (f : Opened) → root_file root (known root) ≡ Ok f → IsLeft known root macros fixed (f ∷ []) (inside root (begun macros))
root_begins known root macros fixed f h =
    let found = root_is root (known root) f h in
    let at : f.path ≡ root = (fresh_frames root (lines_read root found.0) f found.2).1 in
    record {
      is = λ more m.
          expansion_is more root macros fixed found.0 f (m root (File found.0) found.1) found.2
          ∙ ap (λ (r : Result Env Stop). r >>= (λ x. document root x)) (sym (one_file more fixed f macros))
          ∙ ap (λ (p : List ℕ). rest more fixed (f ∷ []) (inside p (begun macros)) >>= (λ x. document root x)) at;
      named = ap (λ (p : List ℕ). p ∷ []) (sym at);
    }

root_lines : (known : Source) (root : List ℕ) (macros fixed : List Macro) (s : Stopped) (r : Result (List TextLine) Fault) → Halts s (stop_in (opened_by root r)) → Halts s (stop_in (lines_by (acts fixed (included known fixed 31)) root r (begun macros) >>= (λ x. document root x)))
root_lines known root macros fixed s (Err i) k = k
root_lines known root macros fixed s (Ok ls) k = no_stop s (lines_by (acts fixed (included known fixed 31)) root (Ok ls) (begun macros) >>= (λ x. document root x)) k

root_answer : (known : Source) (root : List ℕ) (macros fixed : List Macro) (s : Stopped) (a : Option Got) → Halts s (stop_in (root_file root a)) → Halts s (stop_in (rooted known fixed root (begun macros) a >>= (λ x. document root x)))
root_answer known root macros fixed s None k = k
root_answer known root macros fixed s (Some Absent) k = k
root_answer known root macros fixed s (Some TooLong) k = k
root_answer known root macros fixed s (Some (File bytes)) k = root_lines known root macros fixed s (lines_read root bytes) k

pub root_halts : (known : Source) (root : List ℕ) (macros fixed : List Macro) (s : Stopped) → Halts s (stop_in (root_file root (known root))) → Halts s (stop_in (expansion known root macros fixed))
unfolding expansion
root_halts known root macros fixed s h = root_answer known root macros fixed s (known root) h

-- a file that an include finds, or why there is none
pub opens_file : (known : Source) (fixed : List Macro) (levels : ℕ) (l : Line) (e : Env) (path p bytes : List ℕ) → include_path l (include_field fixed l e) ≡ Ok path → included_file l path (located known (places l.at.path path)) ≡ Ok (p, bytes) → (r : Result OpenFile Stopped) → Agrees opened_of r (found_file levels l path p bytes e) → OpensFile known fixed levels l e r
opens_file known fixed levels l e path p bytes is found (Ok f) h = opens known fixed levels l e path p bytes (opened_of f) is found h
opens_file known fixed levels l e path p bytes is found (Err s) h = opens_halt known fixed levels l e path p bytes s is found h
