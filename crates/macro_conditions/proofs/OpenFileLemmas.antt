-- How what is left of a document stays the same where its innermost file goes on.
use Rattle.std.proofs.Common.{◌≡◌, ◌<◌, ◌≤◌, ℕ, zero, suc, ◌+◌, ◌-◌, ◌*◌, Bool, true, false, cond, List, [], ◌∷◌, ◌++◌, length, take, drop, get_or, map, reverse, length-drop, Option, Some, None, Result, Ok, Err, refl, sym, ap, ◌∙◌, subst, arith}
use native.Mathlib.Nat.{suc-mul}
use Rattle.std.proofs.lemmas.List.{length-append, length-reverse, map-append, reverse-append}
use Rattle.std.proofs.Math.ListN.{length-map}
use Rattle.std.proofs.Math.Seq.{take-append_seam}
use Rattle.build_base.specs.declared.lines.Macro.{Macro}
use Rattle.build_base.specs.declared.lines.Lines.{Lines}
use Rattle.build_base.specs.declared.lines.Taken.{Taken as Line}
use Rattle.macro_conditions.specs.declared.directive.Directive.TheVariants.{Act}
use Rattle.macro_conditions.specs.declared.work.LinePlace.{LinePlace}
use Rattle.macro_conditions.specs.declared.work.OpenFile.{OpenFile}
use Rattle.macro_conditions.specs.declared.work.Left.{Left}
use Rattle.macro_conditions.specs.declared.work.Work.{Work}
use Rattle.macro_conditions.specs.declared.work.Halted.{Halted}
use Rattle.macro_conditions.specs.declared.work.Halted.TheVariants as halted
use Rattle.macro_conditions.specs.declared.work.Frame.{Frame as CodeFrame}
use Rattle.macro_conditions.specs.declared.work.Stopped.{Stopped}
use Rattle.macro_conditions.specs.declared.work.Stopped.TheVariants as stopped
use Rattle.macro_conditions.specs.declared.work.Next.{Next}
use Rattle.macro_conditions.specs.declared.work.Next.TheVariants as next
use Rattle.build_base.specs.declared.refusal.Refusal.{Refusal}
use Rattle.macro_conditions.specs.declared.expansion.Turned.{Turned}
use Rattle.macro_conditions.specs.Directives.{kind_of, is_include}
use Rattle.macro_conditions.specs.LineMeaning.{Acts, ◌>>=◌, at_end}
use Rattle.macro_conditions.specs.LineStack.{Frame, State, active, step, step_by, run, outermost}
use Rattle.macro_conditions.specs.Sources.{Source}
use Rattle.macro_conditions.specs.Expansion.{Env, Stop, need, settled, apply_directive, acts, included, inside, outside, document, expansion}
use Rattle.macro_conditions.specs.Work.{Halts, stop_in, left_last, idle, line_in, frames_of, env_of, Expands}
use Rattle.macro_conditions.specs.OpenFiles.{Steps, StopsAt, Ends, files_of, within, Tops, lines_at, opened_of, stack_of, Opened, names, behind, begun_at, rest, IsInclude, Include, Moves, Opens, Turns, Outcome, behind_turn, cost, worth, weight, IsLeft, IsPause, Comes, paired}
use Rattle.macro_conditions.proofs.StackIsTree.{run_err}
use Rattle.macro_conditions.proofs.FileTurns.{run_cons, halts_run, halts_bind, stop_is, file_goes}

take_front : (xs : List (List ℕ)) (x : List ℕ) → take (length (xs ++ x ∷ []) - 1) (xs ++ x ∷ []) ≡ xs
take_front xs x =
    let n : length (xs ++ x ∷ []) - 1 ≡ length xs = simp length-append (omega arith) in
    ap (λ k. take k (xs ++ x ∷ [])) n ∙ take-append_seam xs (x ∷ [])

-- the innermost file is left
pub left_behind : (f : Opened) (fs : List Opened) (e : Env) → e.open_files ≡ names (f ∷ fs) → left_last e ≡ behind fs e
left_behind f fs e h =
    let to : List (List ℕ) → Env = λ o. record { rows = e.rows; macros = e.macros; open_files = o } in
    ap (λ (o : List (List ℕ)). to (take (length o - 1) o)) h ∙ ap to (take_front (names fs) f.path)

last_same : (fixed : List Macro) (i : Include) (o : Option Line) (y : Env) → at_end (acts fixed i) o y ≡ at_end (acts fixed idle) o y
last_same fixed i None y = refl
last_same fixed i (Some l) y = refl

-- what an include does doesn't matter at the end of a file
last_is : (fixed : List Macro) (i : Include) (t : State Env) → run (acts fixed i) (Ok t) [] ≡ at_end (acts fixed idle) (outermost t.frames None) t.found
unfolding run
last_is fixed i t = last_same fixed i (outermost t.frames None) t.found

module _ (s : Source) (fixed : List Macro) where
  abbrev acts_in : List Opened → Acts Env Stop
  acts_in fs = acts fixed (included s fixed (31 - length fs))

  abbrev After : List Opened → Env → Result Env Stop
  After fs x = rest s fixed fs (behind fs x)

  rest_is : (f : Opened) (fs : List Opened) (e : Env) → rest s fixed (f ∷ fs) e ≡ run (acts_in fs) (Ok (begun_at f e)) f.lines >>= (λ x. After fs x)
  unfolding rest
  rest_is f fs e = refl

  -- plain lines
  pub plain_rest : (f g : Opened) (e x : Env) (fs : List Opened) → ((i : Include) → run (acts fixed i) (Ok (begun_at f e)) f.lines ≡ run (acts fixed i) (Ok (begun_at g x)) g.lines) → rest s fixed (f ∷ fs) e ≡ rest s fixed (g ∷ fs) x
  plain_rest f g e x fs h =
      rest_is f fs e ∙ ap (λ (r : Result Env Stop). r >>= (λ y. After fs y)) (h (included s fixed (31 - length fs))) ∙ sym (rest_is g fs x)

  -- the end of a file
  pub ended_rest : (g : Opened) (x : Env) (fs : List Opened) → g.lines ≡ [] → at_end (acts fixed idle) (outermost g.frames None) x ≡ Ok x → rest s fixed (g ∷ fs) x ≡ rest s fixed fs (behind fs x)
  ended_rest g x fs none h =
      rest_is g fs x
      ∙ ap (λ ls. run (acts_in fs) (Ok (begun_at g x)) ls >>= (λ y. After fs y)) none
      ∙ ap (λ (r : Result Env Stop). r >>= (λ y. After fs y)) (last_is fixed (included s fixed (31 - length fs)) (begun_at g x) ∙ h)

  -- a line that is an include
  include_step : (i : Include) (t : State Env) (l : Line) → kind_of l.text ≡ Act → active t.frames ≡ true → is_include l.text ≡ true → step (acts fixed i) t l ≡ i l t.found >>= (λ x. Ok (record { frames = t.frames; found = x }))
  include_step i t l act on word =
      let go : Result Env Stop → Result (State Env) Stop = λ r. r >>= (λ x. Ok (record { frames = t.frames; found = x })) in
      ap (λ k. step_by (acts fixed i) k t.frames t.found l) act
      ∙ ap (λ b. cond b (go (cond (is_include l.text) (i l t.found) (settled (apply_directive fixed l t.found)))) (Ok (record { frames = t.frames; found = t.found }))) on
      ∙ ap (λ b. go (cond b (i l t.found) (settled (apply_directive fixed l t.found)))) word

  -- a line's step, and then the lines below it
  include_line : (i : Include) (f : Opened) (e : Env) (l : Line) (ls : List Line) → f.lines ≡ l ∷ ls → IsInclude f.frames l → run (acts fixed i) (Ok (begun_at f e)) f.lines ≡ run (acts fixed i) (i l e >>= (λ x. Ok (record { frames = f.frames; found = x }))) ls
  include_line i f e l ls is c =
      ap (run (acts fixed i) (Ok (begun_at f e))) is
      ∙ run_cons (acts fixed i) (begun_at f e) l ls
      ∙ ap (λ r. run (acts fixed i) r ls) (include_step i (begun_at f e) l c.kind c.takes c.word)

  push_out : (a : Acts Env Stop) (r : Result Env Stop) (fs : List Frame) (e : Env) (ls : List Line) (k : Env → Result Env Stop) → run a ((r >>= (λ x. Ok (outside e x))) >>= (λ x. Ok (record { frames = fs; found = x }))) ls >>= k ≡ r >>= (λ x. run a (Ok (record { frames = fs; found = outside e x })) ls >>= k)
  push_out a (Ok x) fs e ls k = refl
  push_out a (Err f) fs e ls k = ap (λ (r : Result Env Stop). r >>= k) (run_err a f ls)

  rest_two : (h inner : Opened) (e : Env) (fs : List Opened) → rest s fixed (inner ∷ h ∷ fs) (inside inner.path e) ≡ run (acts fixed (included s fixed (31 - length (h ∷ fs)))) (Ok (begun_at inner (inside inner.path e))) inner.lines >>= (λ x. run (acts_in fs) (Ok (begun_at h (behind (h ∷ fs) x))) h.lines >>= (λ y. After fs y))
  unfolding rest
  rest_two h inner e fs = refl

  -- an include goes on in the file that it opens
  include_rest : (f g inner : Opened) (e : Env) (l : Line) (ls : List Line) (fs : List Opened) (levels : ℕ) → f.lines ≡ l ∷ ls → g ≡ record { path = f.path; frames = f.frames; lines = ls } → IsInclude f.frames l → levels ≡ 31 - length fs → e.open_files ≡ names (f ∷ fs) → 0 < levels
      → included s fixed levels l e ≡ run (acts fixed (included s fixed (levels - 1))) (Ok (begun_at inner (inside inner.path e))) inner.lines >>= (λ x. Ok (outside e x))
      → rest s fixed (f ∷ fs) e ≡ rest s fixed (inner ∷ g ∷ fs) (inside inner.path e)
  include_rest f g inner e l ls fs levels is same c lv named some opens =
      let h : Opened = record { path = f.path; frames = f.frames; lines = ls } in
      let a : Acts Env Stop = acts_in fs in
      let k : Env → Result Env Stop = λ x. After fs x in
      let r : ℕ → Result Env Stop = λ n. run (acts fixed (included s fixed n)) (Ok (begun_at inner (inside inner.path e))) inner.lines in
      let one : levels - 1 ≡ 31 - length (h ∷ fs) = omega (arith, lv) in
      let put : List (List ℕ) → Env → Env = λ o x. record { rows = x.rows; macros = x.macros; open_files = o } in
      rest_is f fs e
      ∙ ap (λ (o : Result Env Stop). o >>= k) (include_line (included s fixed (31 - length fs)) f e l ls is c)
      ∙ ap (λ (n : ℕ). run a (included s fixed n l e >>= (λ x. Ok (record { frames = f.frames; found = x }))) ls >>= k) (sym lv)
      ∙ ap (λ (o : Result Env Stop). run a (o >>= (λ x. Ok (record { frames = f.frames; found = x }))) ls >>= k) opens
      ∙ push_out a (r (levels - 1)) f.frames e ls k
      ∙ ap (λ (n : ℕ). r n >>= (λ x. run a (Ok (record { frames = f.frames; found = outside e x })) ls >>= k)) one
      ∙ ap (λ (o : List (List ℕ)). r (31 - length (h ∷ fs)) >>= (λ x. run a (Ok (record { frames = f.frames; found = put o x })) ls >>= k)) named
      ∙ sym (rest_two h inner e fs)
      ∙ ap (λ (u : Opened). rest s fixed (inner ∷ u ∷ fs) (inside inner.path e)) (sym same)

  -- an include that stops
  include_halts : (e : Stopped) (f : Opened) (x : Env) (l : Line) (ls : List Line) (fs : List Opened) (levels : ℕ) → f.lines ≡ l ∷ ls → IsInclude f.frames l → levels ≡ 31 - length fs → Halts e (stop_in (included s fixed levels l x)) → Halts e (stop_in (rest s fixed (f ∷ fs) x))
  include_halts e f x l ls fs levels is c lv h =
      let a : Acts Env Stop = acts_in fs in
      let k : Env → Result Env Stop = λ y. After fs y in
      let go : Env → Result (State Env) Stop = λ y. Ok (record { frames = f.frames; found = y }) in
      let here : Halts e (stop_in (included s fixed (31 - length fs) l x)) = subst (λ (n : ℕ). Halts e (stop_in (included s fixed n l x))) lv h in
      subst (λ (o : Result Env Stop). Halts e (stop_in o))
      (sym (rest_is f fs x ∙ ap (λ (o : Result Env Stop). o >>= k) (include_line (included s fixed (31 - length fs)) f x l ls is c)))
      (halts_bind e (run a (included s fixed (31 - length fs) l x >>= go) ls) k
      (halts_run a e (included s fixed (31 - length fs) l x >>= go) ls (halts_bind e (included s fixed (31 - length fs) l x) go here)))

  -- a file that stops at its end, or at a line
  file_halts : (e : Stopped) (f : Opened) (x : Env) (fs : List Opened) → Halts e (stop_in (run (acts_in fs) (Ok (begun_at f x)) f.lines)) → Halts e (stop_in (rest s fixed (f ∷ fs) x))
  file_halts e f x fs h =
      subst (λ (o : Result Env Stop). Halts e (stop_in o)) (sym (rest_is f fs x))
      (halts_bind e (run (acts_in fs) (Ok (begun_at f x)) f.lines) (λ y. After fs y) h)

-- a line that does what it does
line_steps : (fixed : List Macro) (l : Line) (s n : State Env) (b : Bool) → b ≡ false → Steps fixed l s n (Ok b) → (i : Include) → step (acts fixed i) s l ≡ Ok n
line_steps fixed l s n true e h = absurd (cc)
line_steps fixed l s n false e h = h

pub line_goes : (fixed : List Macro) (s n : State Env) (path bytes : List ℕ) (ls : List LinePlace) (at : ℕ) (d : LinePlace) (l : Line) (b : Bool) → b ≡ false → at < length ls → l ≡ line_in path bytes (get_or ls at d) → Steps fixed l s n (Ok b) → (i : Include) → run (acts fixed i) (Ok s) (drop at (lines_at path bytes ls)) ≡ run (acts fixed i) (Ok n) (drop (at + 1) (lines_at path bytes ls))
line_goes fixed s n path bytes ls at d l b e k is h i =
    sym (file_goes (acts fixed i) s n path bytes ls at d l (run (acts fixed i) (Ok s) (drop at (lines_at path bytes ls))) k is (line_steps fixed l s n b e h i) refl)

cost_up : (n m w : ℕ) → n ≤ m → cost n w ≤ cost m w
cost_up zero zero w h = omega arith
cost_up zero (suc m) w h = omega arith
cost_up (suc n) zero w h = absurd (omega (arith, h))
cost_up (suc n) (suc m) w h = let ih : cost n w ≤ cost m w = cost_up n m w (omega (arith, h)) in omega (arith, ih)

cost_some : (n w : ℕ) → w ≤ cost n w
cost_some zero w = omega arith
cost_some (suc n) w = omega arith

cost_below : (n m w : ℕ) → n < m → cost n w ≤ m * w
cost_below n zero w h = absurd (omega (arith, h))
cost_below zero (suc m) w h = let e : suc m * w ≡ m * w + w = suc-mul m w in omega (arith, e)
cost_below (suc n) (suc m) w h =
    let ih : cost n w ≤ m * w = cost_below n m w (omega (arith, h)) in
    let e : suc m * w ≡ m * w + w = suc-mul m w in
    omega (arith, ih, e)

worth_step : (n : ℕ) → worth (suc n) ≡ 18446744073709551617 * worth n
unfolding worth
worth_step n = refl

worth_zero : worth zero ≡ 1
unfolding worth
worth_zero = refl

worth_some : (n : ℕ) → 0 < worth n
worth_some zero = let e = worth_zero in omega (arith, e)
worth_some (suc n) = let ih : 0 < worth n = worth_some n in let e = worth_step n in omega (arith, ih, e)

weight_ends : (f : Opened) (fs : List Opened) → weight fs < weight (f ∷ fs)
weight_ends f fs =
    let a : 0 < worth (31 - length fs) = worth_some (31 - length fs) in
    let b : worth (31 - length fs) ≤ cost (length f.lines) (worth (31 - length fs)) = cost_some (length f.lines) (worth (31 - length fs)) in
    omega (arith, a, b)

weight_less : (f g : Opened) (fs : List Opened) → length g.lines ≤ length f.lines → weight (g ∷ fs) ≤ weight (f ∷ fs)
weight_less f g fs h =
    let a : cost (length g.lines) (worth (31 - length fs)) ≤ cost (length f.lines) (worth (31 - length fs)) = cost_up (length g.lines) (length f.lines) (worth (31 - length fs)) h in
    omega (arith, a)

weight_opens : (f g inner : Opened) (l : Line) (ls : List Line) (fs : List Opened) → f.lines ≡ l ∷ ls → g.lines ≡ ls → 0 < 31 - length fs → length inner.lines < 18446744073709551616 → weight (inner ∷ g ∷ fs) < weight (f ∷ fs)
weight_opens f g inner l ls fs is same some few =
    let m : ℕ = 31 - length (g ∷ fs) in
    let n : ℕ = length ls in
    let one : 31 - length fs ≡ suc m = omega (arith, some) in
    let w : worth (31 - length fs) ≡ 18446744073709551617 * worth m = ap worth one ∙ worth_step m in
    let a : cost (length inner.lines) (worth m) ≤ 18446744073709551616 * worth m = cost_below (length inner.lines) 18446744073709551616 (worth m) few in
    let b : 0 < worth m = worth_some m in
    let lf : cost (length f.lines) (worth (31 - length fs)) ≡ worth (31 - length fs) + cost n (worth (31 - length fs)) = ap (λ (xs : List Line). cost (length xs) (worth (31 - length fs))) is in
    let lg : cost (length g.lines) (worth (31 - length fs)) ≡ cost n (worth (31 - length fs)) = ap (λ (xs : List Line). cost (length xs) (worth (31 - length fs))) same in
    omega (arith, w, a, b, lf, lg)

outcome_on : (known : Source) (fixed : List Macro) (old less new : List Opened) (y : Env) (n : Next) → weight less ≤ weight old → Outcome known fixed less new y n → Outcome known fixed old new y n
outcome_on known fixed old less new y next.Ended le out = omega (arith, le, out)
outcome_on known fixed old less new y (next.Within a b) le out = omega (arith, le, out)
outcome_on known fixed old less new y (next.Wants a p) le out = out

module _ (known : Source) (fixed : List Macro) (levels : ℕ) where
  -- a file at its end
  pub ended_turns : (g : Opened) (x y : Env) → g.lines ≡ [] → at_end (acts fixed idle) (outermost g.frames None) x ≡ Ok x → y ≡ left_last x → Turns known fixed levels g x y (Ok next.Ended)
  ended_turns g x y none h is = λ fs lv named.
      let out : y ≡ behind fs x = is ∙ left_behind g fs x named in (
        record {
          keeps = λ more m. ended_rest more fixed g x fs none h ∙ ap (rest more fixed fs) (sym out);
          named = ap (λ (o : Env). o.open_files) out;
        },
        weight_ends g fs,
      )

  -- a file whose end stops it
  pub ended_halts : (e : Stopped) (g : Opened) (x y : Env) → g.lines ≡ [] → Halts e (stop_in (at_end (acts fixed idle) (outermost g.frames None) x)) → Turns known fixed levels g x y (Err e)
  ended_halts e g x y none h = λ fs lv.
      file_halts known fixed e g x fs
      (subst (λ (o : Result Env Stop). Halts e (stop_in o))
      (sym (ap (run (acts fixed (included known fixed (31 - length fs))) (Ok (begun_at g x))) none ∙ last_is fixed (included known fixed (31 - length fs)) (begun_at g x))) h)

  moves_none : (fs : List Opened) (e : Env) → e.open_files ≡ names fs → Moves known fixed fs e fs e
  moves_none fs e h = record { keeps = λ more m. refl; named = h }

  -- a turn that begins behind plain lines
  pub turns_on : (f g : Opened) (e x y : Env) (r : Result Next Stopped) → ((i : Include) → run (acts fixed i) (Ok (begun_at f e)) f.lines ≡ run (acts fixed i) (Ok (begun_at g x)) g.lines) → g.path ≡ f.path → x.open_files ≡ e.open_files → length g.lines ≤ length f.lines → Turns known fixed levels g x y r → Turns known fixed levels f e y r
  turns_on f g e x y (Err stop) h p o len t = λ fs lv.
      subst (λ (r : Result Env Stop). Halts stop (stop_in r)) (sym (plain_rest known fixed f g e x fs h)) (t fs lv)
  turns_on f g e x y (Ok n) h p o len t = λ fs lv named.
      let here : x.open_files ≡ names (g ∷ fs) = o ∙ named ∙ ap (λ (q : List ℕ). names fs ++ q ∷ []) (sym p) in
      let u = t fs lv here in (
        record { keeps = λ more m. plain_rest more fixed f g e x fs h ∙ u.0.keeps more m; named = u.0.named },
        outcome_on known fixed (f ∷ fs) (g ∷ fs) (behind_turn n fs) y n (weight_less f g fs len) u.1,
      )

  -- an include that opens a file
  pub include_turns : (f g inner : Opened) (e : Env) (l : Line) (ls : List Line) → f.lines ≡ l ∷ ls → g ≡ record { path = f.path; frames = f.frames; lines = ls } → IsInclude f.frames l → Opens known fixed levels l e inner → length inner.lines < 18446744073709551616
      → (fs : List Opened) → levels ≡ 31 - length fs → e.open_files ≡ names (f ∷ fs) → Moves known fixed (f ∷ fs) e (inner ∷ g ∷ fs) (inside inner.path e) × (weight (inner ∷ g ∷ fs) < weight (f ∷ fs))
  include_turns f g inner e l ls is same c o few = λ fs lv named. (
    record {
      keeps = λ more m. include_rest more fixed f g inner e l ls fs levels is same c lv named o.0 (o.2 more m);
      named = ap (λ (p : List (List ℕ)). p ++ inner.path ∷ []) (named ∙ ap (λ (u : Opened). names fs ++ u.path ∷ []) (sym same));
    },
    weight_opens f g inner l ls fs is (ap (λ (u : Opened). u.lines) same) (let z : 0 < levels = o.0 in omega (arith, lv, z)) few,
  )

  -- an include whose path is wanted
  pub include_wants : (f : Opened) (e : Env) (l : Line) (ls : List Line) (s : Stopped) (path : List ℕ) → f.lines ≡ l ∷ ls → IsInclude f.frames l → s ≡ stopped.Need path → Halts s (stop_in (included known fixed levels l e))
      → (fs : List Opened) → levels ≡ 31 - length fs → e.open_files ≡ names (f ∷ fs) → Moves known fixed (f ∷ fs) e (f ∷ fs) e × (rest known fixed (f ∷ fs) e ≡ Err (need path))
  include_wants f e l ls s path is c needs h = λ fs lv named.
      (moves_none (f ∷ fs) e named, stop_is (rest known fixed (f ∷ fs) e) (need path) (include_halts known fixed (stopped.Need path) f e l ls fs levels is c lv (subst (λ (t : Stopped). Halts t (stop_in (included known fixed levels l e))) needs h)))

  -- an include that stops otherwise
  pub include_stops : (s : Stopped) (f : Opened) (e y : Env) (l : Line) (ls : List Line) → f.lines ≡ l ∷ ls → IsInclude f.frames l → Halts s (stop_in (included known fixed levels l e)) → Turns known fixed levels f e y (Err s)
  include_stops s f e y l ls is c h = λ fs lv. include_halts known fixed s f e l ls fs levels is c lv h

  -- an include that stops, or whose path is wanted
  pub include_ends : (f : OpenFile) (e : Env) (l : Line) (ls : List Line) (s : Stopped) (r : Result Next Stopped) → (opened_of f).lines ≡ l ∷ ls → IsInclude (opened_of f).frames l → StopsAt f s r → Halts s (stop_in (included known fixed levels l e)) → Turns known fixed levels (opened_of f) e e r
  include_ends f e l ls s (Ok n) is c t h = λ fs lv named.
      subst (λ (m : Next). Moves known fixed (opened_of f ∷ fs) e (behind_turn m fs) e × Outcome known fixed (opened_of f ∷ fs) (behind_turn m fs) e m) (sym t.2)
      (include_wants (opened_of f) e l ls s t.0 is c t.1 h fs lv named)
  include_ends f e l ls s (Err g) is c t h =
      include_stops g (opened_of f) e e l ls is c (subst (λ (x : Stopped). Halts x (stop_in (included known fixed levels l e))) (sym t) h)

  -- a file that a plain line stops
  pub plain_halts : (s : Stopped) (f : Opened) (e y : Env) → ((i : Include) → Halts s (stop_in (run (acts fixed i) (Ok (begun_at f e)) f.lines))) → Turns known fixed levels f e y (Err s)
  plain_halts s f e y h = λ fs lv. file_halts known fixed s f e fs (h (included known fixed (31 - length fs)))

all_done : (known : Source) (fixed : List Macro) (x : Env) → rest known fixed [] x ≡ Ok x
unfolding rest
all_done known fixed x = refl

-- a file has fewer lines than a number of 64 bits tells
pub few_lines : (f : OpenFile) → length (opened_of f).lines < 18446744073709551616
few_lines f =
    let a : f.lines.len ≡ length f.lines.items = f.lines.ok.0 in
    let b : f.lines.len ≤ f.lines.cap = f.lines.ok.1 in
    let c : f.lines.cap < 9223372036854775808 = f.lines.small in
    simp (length-drop, length-map) (omega (arith, a, b, c))

-- the innermost file is the last in the code
pub popped : (old new : List OpenFile) (f : OpenFile) → old ≡ new ++ f ∷ [] → stack_of old ≡ opened_of f ∷ stack_of new
popped old new f h = ap (λ (fs : List OpenFile). stack_of fs) h ∙ ap (λ (fs : List Opened). reverse fs) (map-append opened_of new (f ∷ [])) ∙ reverse-append (map opened_of new) (opened_of f ∷ [])

popped_two : (old new : List OpenFile) (f g : OpenFile) → old ≡ new ++ f ∷ g ∷ [] → stack_of old ≡ opened_of g ∷ opened_of f ∷ stack_of new
popped_two old new f g h = ap (λ (fs : List OpenFile). stack_of fs) h ∙ ap (λ (fs : List Opened). reverse fs) (map-append opened_of new (f ∷ g ∷ [])) ∙ reverse-append (map opened_of new) (opened_of f ∷ opened_of g ∷ [])

no_files : (fs : List OpenFile) → length fs ≡ 0 → fs ≡ []
no_files [] h = refl
no_files (f ∷ fs) h = absurd (omega (arith, h))

levels_are : (levels : ℕ) (files : List OpenFile) → levels ≡ 31 - length files → levels ≡ 31 - length (stack_of files)
levels_are levels files h = simp (length-reverse, length-map) h

module _ (known : Source) (fixed : List Macro) (levels : ℕ) (f : Opened) (e x : Env) (files new : List OpenFile) (lv : levels ≡ 31 - length files) where
  pub tops_ended : Turns known fixed levels f e x (Ok next.Ended) → Tops known fixed (f ∷ stack_of files) e (stack_of files) x (Ok None)
  tops_ended h = λ named. h (stack_of files) (levels_are levels files lv) named

  pub tops_within : (n : Next) (a b : OpenFile) → n ≡ next.Within a b → Turns known fixed levels f e x (Ok n) → new ≡ files ++ a ∷ b ∷ [] → Tops known fixed (f ∷ stack_of files) e (stack_of new) x (Ok None)
  tops_within n a b opens k is = let h : Turns known fixed levels f e x (Ok (next.Within a b)) = subst (λ (m : Next). Turns known fixed levels f e x (Ok m)) opens k in subst (λ (ns : List Opened). Tops known fixed (f ∷ stack_of files) e ns x (Ok None)) (sym (popped_two new files a b is)) (λ named. h (stack_of files) (levels_are levels files lv) named)

  pub tops_wants : (n : Next) (a : OpenFile) (path : List ℕ) → n ≡ next.Wants a path → Turns known fixed levels f e x (Ok n) → new ≡ files ++ a ∷ [] → Tops known fixed (f ∷ stack_of files) e (stack_of new) x (Ok (Some path))
  tops_wants n a path wants k is = let h : Turns known fixed levels f e x (Ok (next.Wants a path)) = subst (λ (m : Next). Turns known fixed levels f e x (Ok m)) wants k in subst (λ (ns : List Opened). Tops known fixed (f ∷ stack_of files) e ns x (Ok (Some path))) (sym (popped new files a is)) (λ named. h (stack_of files) (levels_are levels files lv) named)

  pub tops_halts : (s : Stopped) → Turns known fixed levels f e x (Err s) → Halts s (stop_in (rest known fixed (f ∷ stack_of files) e))
  tops_halts s h = h (stack_of files) (levels_are levels files lv)

module _ (known : Source) (fixed : List Macro) (first : List Opened) (e₀ : Env) where
  abbrev Is : List Opened → Env → Type 0
  Is fs e = Moves known fixed first e₀ fs e

  -- one turn more, from where the innermost file was taken out
  pub more_moves : (old left : List OpenFile) (new : List Opened) (f : OpenFile) (e x : Env) (o : Option (List ℕ)) → o ≡ None → old ≡ left ++ f ∷ [] → Is (stack_of old) e → Tops known fixed (opened_of f ∷ stack_of left) e new x (Ok o) → Is new x × (weight new < weight (stack_of old))
  more_moves old left new f e x o none is m k =
      let t : Tops known fixed (opened_of f ∷ stack_of left) e new x (Ok None) = subst (λ (o : Option (List ℕ)). Tops known fixed (opened_of f ∷ stack_of left) e new x (Ok o)) none k in
      let at : stack_of old ≡ opened_of f ∷ stack_of left = popped old left f is in
      let u = t (m.named ∙ ap (λ (fs : List Opened). names fs) at) in (
        record { keeps = λ more h. m.keeps more h ∙ ap (λ (fs : List Opened). rest more fixed fs e) at ∙ u.0.keeps more h; named = u.0.named },
        subst (λ (fs : List Opened). weight new < weight fs) (sym at) u.1,
      )

  pub more_wants : (old left : List OpenFile) (new : List Opened) (f : OpenFile) (e x : Env) (o : Option (List ℕ)) (path : List ℕ) → o ≡ Some path → old ≡ left ++ f ∷ [] → Is (stack_of old) e → Tops known fixed (opened_of f ∷ stack_of left) e new x (Ok o) → Is new x × (rest known fixed first e₀ ≡ Err (need path))
  more_wants old left new f e x o path some is m k =
      let t : Tops known fixed (opened_of f ∷ stack_of left) e new x (Ok (Some path)) = subst (λ (o : Option (List ℕ)). Tops known fixed (opened_of f ∷ stack_of left) e new x (Ok o)) some k in
      let at : stack_of old ≡ opened_of f ∷ stack_of left = popped old left f is in
      let u = t (m.named ∙ ap (λ (fs : List Opened). names fs) at) in (
        record { keeps = λ more h. m.keeps more h ∙ ap (λ (fs : List Opened). rest more fixed fs e) at ∙ u.0.keeps more h; named = u.0.named },
        m.keeps known (λ p g h. h) ∙ ap (λ (fs : List Opened). rest known fixed fs e) at ∙ u.0.keeps known (λ p g h. h) ∙ u.1,
      )

  pub more_halts : (old left : List OpenFile) (f : OpenFile) (e : Env) (s : Stopped) → old ≡ left ++ f ∷ [] → Is (stack_of old) e → Halts s (stop_in (rest known fixed (opened_of f ∷ stack_of left) e)) → Halts s (stop_in (rest known fixed first e₀))
  more_halts old left f e s is m h =
      subst (λ (r : Result Env Stop). Halts s (stop_in r)) (sym (m.keeps known (λ p g h. h) ∙ ap (λ (fs : List Opened). rest known fixed fs e) (popped old left f is))) h

  -- no file is open any more
  pub none_left : (old : List OpenFile) (e : Env) → length old ≡ 0 → Is (stack_of old) e → rest known fixed first e₀ ≡ Ok e
  none_left old e is m = m.keeps known (λ p g h. h) ∙ ap (λ (fs : List OpenFile). rest known fixed (stack_of fs) e) (no_files old is) ∙ all_done known fixed e

module _ (known : Source) (root : List ℕ) (macros fixed : List Macro) (fs : List Opened) (e : Env) (is : IsLeft known root macros fixed fs e) where
  pub left_more : (gs : List Opened) (x : Env) → Moves known fixed fs e gs x → IsLeft known root macros fixed gs x
  left_more gs x m = record { is = λ more h. is.is more h ∙ ap (λ (r : Result Env Stop). r >>= (λ y. document root y)) (m.keeps more h); named = m.named }

  left_is : (r : Result Env Stop) → rest known fixed fs e ≡ r → expansion known root macros fixed ≡ r >>= (λ y. document root y)
  left_is r h = is.is known (λ p g h. h) ∙ ap (λ (r : Result Env Stop). r >>= (λ y. document root y)) h

  pub left_whole : (x : Env) (t : Result Turned Refusal) → rest known fixed fs e ≡ Ok x → Expands t (document root x) → Expands t (expansion known root macros fixed)
  left_whole x t h w = subst (λ (o : Result Lines Stop). Expands t o) (sym (left_is (Ok x) h)) w

  pub left_wants : (path : List ℕ) (t : Result Turned Refusal) → rest known fixed fs e ≡ Err (need path) → Expands t (Err (need path)) → Expands t (expansion known root macros fixed)
  left_wants path t h w = subst (λ (o : Result Lines Stop). Expands t o) (sym (left_is (Err (need path)) h)) w

  pub left_halts : (s : Stopped) → Halts s (stop_in (rest known fixed fs e)) → Halts s (stop_in (expansion known root macros fixed))
  left_halts s h =
      subst (λ (o : Result Lines Stop). Halts s (stop_in o)) (sym (is.is known (λ p g h. h)))
      (halts_bind s (rest known fixed fs e) (λ y. document root y) h)

pub fewer : (path bytes : List ℕ) (ls : List LinePlace) (from at : ℕ) → from ≤ at → length (drop at (lines_at path bytes ls)) ≤ length (drop from (lines_at path bytes ls))
fewer path bytes ls from at h = simp (length-drop) (omega (arith, h))

-- an include at a place of a file, however its bytes and places are read
pub include_at : (path b c : List ℕ) (ls ms : List LinePlace) (fs : List CodeFrame) (at : ℕ) (d : LinePlace) → b ≡ c → ls ≡ ms → IsInclude (frames_of path b fs) (line_in path b (get_or ls at d)) → IsInclude (frames_of path c fs) (line_in path c (get_or ms at d))
include_at path b c ls ms fs at d same eq h =
    subst (λ (xs : List LinePlace). IsInclude (frames_of path c fs) (line_in path c (get_or xs at d))) eq
    (subst (λ (t : List ℕ). IsInclude (frames_of path t fs) (line_in path t (get_or ls at d))) same h)

module _ (known : Source) (fixed : List Macro) (levels : ℕ) (f : OpenFile) (b : List ℕ) (ls : List LinePlace) (same : b ≡ f.text) (eq : ls ≡ f.lines.items) where
  abbrev Old : List ℕ → Env → State Env
  Old t e = record { frames = frames_of f.path t f.frames.items; found = e }

  -- plain lines of a file, and then a turn
  pub turns_from : (fs : List CodeFrame) (at : ℕ) (e x y : Env) (r : Result Next Stopped) → ((i : Include) → run (acts fixed i) (Ok (Old b e)) (drop f.next (lines_at f.path b ls)) ≡ run (acts fixed i) (Ok (record { frames = frames_of f.path b fs; found = x })) (drop at (lines_at f.path b ls))) → x.open_files ≡ e.open_files → f.next ≤ at
      → Turns known fixed levels (record { path = f.path; frames = frames_of f.path f.text fs; lines = drop at (lines_at f.path f.text f.lines.items) }) x y r → Turns known fixed levels (opened_of f) e y r
  turns_from fs at e x y r goes o le t =
      turns_on known fixed levels (opened_of f) (record { path = f.path; frames = frames_of f.path f.text fs; lines = drop at (lines_at f.path f.text f.lines.items) }) e x y r
      (λ i.
      subst (λ (ms : List LinePlace). run (acts fixed i) (Ok (Old f.text e)) (drop f.next (lines_at f.path f.text ms)) ≡ run (acts fixed i) (Ok (record { frames = frames_of f.path f.text fs; found = x })) (drop at (lines_at f.path f.text ms))) eq
      (subst (λ (c : List ℕ). run (acts fixed i) (Ok (Old c e)) (drop f.next (lines_at f.path c ls)) ≡ run (acts fixed i) (Ok (record { frames = frames_of f.path c fs; found = x })) (drop at (lines_at f.path c ls))) same (goes i)))
      refl o (fewer f.path f.text f.lines.items f.next at le) t

  pub plain_stops : (s : Stopped) (e y : Env) → ((i : Include) → Halts s (stop_in (run (acts fixed i) (Ok (Old b e)) (drop f.next (lines_at f.path b ls))))) → Turns known fixed levels (opened_of f) e y (Err s)
  plain_stops s e y h =
      plain_halts known fixed levels s (opened_of f) e y
      (λ i.
      subst (λ (ms : List LinePlace). Halts s (stop_in (run (acts fixed i) (Ok (Old f.text e)) (drop f.next (lines_at f.path f.text ms))))) eq
      (subst (λ (c : List ℕ). Halts s (stop_in (run (acts fixed i) (Ok (Old c e)) (drop f.next (lines_at f.path c ls))))) same (h i)))

module _ (known : Source) (root : List ℕ) (macros fixed : List Macro) where
  -- an outcome, and what is left behind it
  pub comes : (t : Result Turned Refusal) (l : Option Left) (r : Result (Turned × Option Left) Refusal) → r ≡ paired t l → Expands t (expansion known root macros fixed) → IsPause known root macros fixed l → Comes known root macros fixed r
  comes (Ok t) l r is e p = subst (λ (r : Result (Turned × Option Left) Refusal). Comes known root macros fixed r) (sym is) (e, p)
  comes (Err s) l r is e p = subst (λ (r : Result (Turned × Option Left) Refusal). Comes known root macros fixed r) (sym is) e

module _ (known : Source) (fixed : List Macro) (fs : List Opened) (e : Env) where
  pub ends_whole : (h : Halted) (w : Work) → h ≡ halted.Whole w → Ends known fixed fs e (Ok h) → rest known fixed fs e ≡ Ok (env_of w)
  ends_whole h w is k = subst (λ (x : Halted). Ends known fixed fs e (Ok x)) is k

  pub ends_wants : (h : Halted) (path : List ℕ) (l : Left) → h ≡ halted.Wants path l → Ends known fixed fs e (Ok h) → Moves known fixed fs e (files_of l) (within l) × (rest known fixed fs e ≡ Err (need path))
  ends_wants h path l is k = subst (λ (x : Halted). Ends known fixed fs e (Ok x)) is k
