-- With the answer to a wanted path, the run goes on past it.
use Rattle.std.proofs.Common.{◌≡◌, ℕ, zero, suc, ◌+◌, ◌<◌, ◌≤◌, Bool, true, false, cond, List, [], ◌∷◌, map, Option, Some, None, Result, Ok, Err, refl, sym, ap, ◌∙◌, subst, arith}
use Rattle.build_base.specs.declared.fault.Fault.{Fault}
use Rattle.build_base.specs.declared.lines.Macro.{Macro}
use Rattle.build_base.specs.declared.lines.Taken.{Taken as Line}
use Rattle.build_base.specs.declared.outside.Got.{Got}
use Rattle.build_base.specs.declared.outside.Got.TheVariants.{File, Absent, TooLong}
use Rattle.build_base.specs.Path.{path_field}
use Rattle.macro_conditions.specs.Directives.{is_include}
use Rattle.macro_expressions.specs.Macros.{without_workspace}
use Rattle.macro_conditions.specs.Sources.{Source, places, Located, wanted, missing, over_limit, there, at_place, or_located, located}
use Rattle.macro_conditions.specs.Worlds.{MoreAnswers}
use Rattle.macro_conditions.specs.LineMeaning.{◌>>=◌, file_of}
use Rattle.macro_conditions.specs.Expansion.{Env, apply_directive, tested, fault_at, include_field, line_at, lines_read, is_open}
use Rattle.macro_conditions.specs.Counting.{Counted, Halt, fault, wants, counting, saying, more_asked, asked, counted_acts, counted_inside, counted_outside, counted_opened, counted_found, counted_at, counted, counted_root}
use Rattle.macro_conditions.proofs.TreeKeeps.{IsKept, file_kept}
use Rattle.macro_conditions.proofs.TreeRelated.{IsRelated, file_related}
use Rattle.build_base.specs.FaultCodes.{INCLUDE_LOOP, INCLUDE_TOO_DEEP}

abbrev pub Include : Type 0
Include = Line → Counted → Result Counted Halt

abbrev pub Enter : Type 0
Enter = List ℕ → ℕ → List ℕ → List ℕ → Result Counted Halt

-- the count never falls
abbrev Grows : ℕ → Result Counted Halt → Type 0
Grows u (Ok x) = u ≤ x.used
Grows u (Err (fault f)) = Unit {0}
Grows u (Err (wants p v)) = u ≤ v

grows_more : (u v : ℕ) (r : Result Counted Halt) → u ≤ v → Grows v r → Grows u r
grows_more u v (Ok x) l g = omega (arith, l, g)
grows_more u v (Err (fault f)) l g = tt
grows_more u v (Err (wants p w)) l g = omega (arith, l, g)

grows_bind : (u : ℕ) (r : Result Counted Halt) (f : Counted → Result Counted Halt) → Grows u r → ((x : Counted) → Grows x.used (f x)) → Grows u (r >>= f)
grows_bind u (Ok x) f g h = grows_more u x.used (f x) g (h x)
grows_bind u (Err (fault k)) f g h = tt
grows_bind u (Err (wants p v)) f g h = g

grows_either : (u : ℕ) (b : Bool) (x y : Result Counted Halt) → Grows u x → Grows u y → Grows u (cond b x y)
grows_either u true x y p q = p
grows_either u false x y p q = q

grows_count : (u : ℕ) (r : Result Env Fault) → Grows u (counting u r)
grows_count u (Ok x) = omega arith
grows_count u (Err f) = tt

grows_saying : {A : Type 0} (u : ℕ) (r : Result A Fault) (f : A → Result Counted Halt) → ((x : A) → Grows u (f x)) → Grows u (saying r >>= f)
grows_saying u (Ok x) f h = h x
grows_saying u (Err k) f h = tt

kept : (fixed : List Macro) (i : Include) → ((l : Line) (c : Counted) → Grows c.used (i l c)) → IsKept (counted_acts fixed i) (λ c r. Grows c.used r)
kept fixed i h = record {
  ok = λ c. omega arith;
  act = λ l c. grows_either c.used (is_include l.text) (i l c) (counting c.used (apply_directive fixed l c.env)) (h l c) (grows_count c.used (apply_directive fixed l c.env));
  stray = λ l c. tt;
  bind = λ c r f p q. grows_bind c.used r f p q;
  choose = λ l c f p. grows_saying c.used (tested fixed l c.env) f p;
}

grows_opened : (file : List Line → Counted → Result Counted Halt) → ((ls : List Line) (c : Counted) → Grows c.used (file ls c)) → (path bytes : List ℕ) (u : ℕ) (e : Env) → Grows u (counted_opened file path bytes u e)
grows_opened file h path bytes u e =
    let leave : Counted → Result Counted Halt = λ x. Ok (counted_outside e x) in
    grows_saying u (lines_read path bytes) (λ lines. file (map (line_at path) lines) (counted_inside path u e) >>= leave)
    (λ lines. grows_bind u (file (map (line_at path) lines) (counted_inside path u e)) leave (h (map (line_at path) lines) (counted_inside path u e)) (λ x. omega arith))

grows_found : (enter : List ℕ → List ℕ → Result Counted Halt) (l : Line) (path : List ℕ) (u : ℕ) (x : Located) → ((p bytes : List ℕ) → Grows u (enter p bytes)) → Grows u (counted_found enter l path u x)
grows_found enter l path u (wanted p) h = omega arith
grows_found enter l path u missing h = tt
grows_found enter l path u (over_limit p) h = tt
grows_found enter l path u (there p bytes) h = h p bytes

grows_at : (enter : Enter) → ((path : List ℕ) (v : ℕ) (p bytes : List ℕ) → Grows v (enter path v p bytes)) → (known : Source) (l : Line) (field : List ℕ) (u : ℕ) (o : Option (List ℕ)) → Grows u (counted_at enter known l field u o)
grows_at enter h known l field u None = tt
grows_at enter h known l field u (Some path) =
    let ps = places l.at.path path in
    let v : ℕ = u + asked known ps in
    grows_more u v (counted_found (enter path v) l path v (located known ps)) (omega arith) (grows_found (enter path v) l path v (located known ps) (h path v))

grows : (known : Source) (fixed : List Macro) (n : ℕ) (l : Line) (c : Counted) → Grows c.used (counted known fixed n l c)
unfolding counted
grows known fixed zero l c =
    grows_at (λ path v p bytes. Err (fault (fault_at INCLUDE_TOO_DEEP l path))) (λ path v p bytes. tt) known l (include_field fixed l c.env) c.used (path_field (without_workspace (include_field fixed l c.env)))
grows known fixed (suc n) l c =
    let file : List Line → Counted → Result Counted Halt = λ ls x. file_of (counted_acts fixed (counted known fixed n)) ls x in
    grows_at (λ path v p bytes. cond (is_open p c.env) (Err (fault (fault_at INCLUDE_LOOP l path))) (counted_opened file p bytes v c.env))
    (λ path v p bytes. grows_either v (is_open p c.env) (Err (fault (fault_at INCLUDE_LOOP l path))) (counted_opened file p bytes v c.env) tt
    (grows_opened file (λ ls x. file_kept (kept fixed (counted known fixed n) (grows known fixed n)) ls x) p bytes v c.env))
    known l (include_field fixed l c.env) c.used (path_field (without_workspace (include_field fixed l c.env)))

-- what comes of a run with more answers: the same, or more is used than before the path that was wanted
abbrev pub GoesOn : Source → {A : Type 0} → Result A Halt → (ℕ → Result A Halt → Type 0) → Result A Halt → Type 0
GoesOn more (Ok x) past s = s ≡ Ok x
GoesOn more (Err (fault f)) past s = s ≡ Err (fault f)
GoesOn more (Err (wants p u)) past s = (g : Got) → more p ≡ Some g → past u s

-- more than u was used
abbrev pub Past : ℕ → Result Counted Halt → Type 0
Past u (Ok x) = u < x.used
Past u (Err (fault f)) = Unit {0}
Past u (Err (wants p v)) = u < v

past_grows : (u v : ℕ) (r : Result Counted Halt) → u < v → Grows v r → Past u r
past_grows u v (Ok x) l g = omega (arith, l, g)
past_grows u v (Err (fault f)) l g = tt
past_grows u v (Err (wants p w)) l g = omega (arith, l, g)

past_bind : (u : ℕ) (s : Result Counted Halt) (g : Counted → Result Counted Halt) → Past u s → ((d : Counted) → Grows d.used (g d)) → Past u (s >>= g)
past_bind u (Ok y) g p h = past_grows u y.used (g y) p (h y)
past_bind u (Err (fault f)) g p h = tt
past_bind u (Err (wants q v)) g p h = p

goes_bind : (more : Source) (r s : Result Counted Halt) (f g : Counted → Result Counted Halt) → GoesOn more r Past s → ((x : Counted) → GoesOn more (f x) Past (g x)) → ((d : Counted) → Grows d.used (g d)) → GoesOn more (r >>= f) Past (s >>= g)
goes_bind more (Ok x) s f g h k w = subst (λ o. GoesOn more (f x) Past (o >>= g)) (sym h) (k x)
goes_bind more (Err (fault x)) s f g h k w = ap (λ o. o >>= g) h
goes_bind more (Err (wants p u)) s f g h k w = λ a is. past_bind u s g (h a is) w

goes_either : (more : Source) (b : Bool) (x y u v : Result Counted Halt) → GoesOn more x Past u → GoesOn more y Past v → GoesOn more (cond b x y) Past (cond b u v)
goes_either more true x y u v p q = p
goes_either more false x y u v p q = q

-- what a condition says is the same, and needs no path
abbrev Same : Result Bool Halt → Result Bool Halt → Type 0
Same (Ok b) s = s ≡ Ok b
Same (Err (fault f)) s = s ≡ Err (fault f)
Same (Err (wants p u)) s = ⊥

same_saying : (r : Result Bool Fault) → Same (saying r) (saying r)
same_saying (Ok b) = refl
same_saying (Err f) = refl

goes_choose : (more : Source) (r s : Result Bool Halt) (f g : Bool → Result Counted Halt) → Same r s → ((b : Bool) → GoesOn more (f b) Past (g b)) → GoesOn more (r >>= f) Past (s >>= g)
goes_choose more (Ok b) s f g h k = subst (λ o. GoesOn more (f b) Past (o >>= g)) (sym h) (k b)
goes_choose more (Err (fault x)) s f g h k = ap (λ o. o >>= g) h
goes_choose more (Err (wants p u)) s f g h k = absurd h

goes_saying : {A : Type 0} (more : Source) (r : Result A Fault) (f g : A → Result Counted Halt) → ((x : A) → GoesOn more (f x) Past (g x)) → GoesOn more (saying r >>= f) Past (saying r >>= g)
goes_saying more (Ok x) f g h = h x
goes_saying more (Err k) f g h = refl

goes_count : (more : Source) (u : ℕ) (r : Result Env Fault) → GoesOn more (counting u r) Past (counting u r)
goes_count more u (Ok x) = refl
goes_count more u (Err f) = refl

goes_related : (more : Source) (fixed : List Macro) (i j : Include) → ((l : Line) (c : Counted) → GoesOn more (i l c) Past (j l c)) → ((l : Line) (c : Counted) → Grows c.used (j l c)) → IsRelated (counted_acts fixed i) (counted_acts fixed j) (λ e d. d ≡ e) (λ r s. GoesOn more r Past s) Same (λ c r. Grows c.used r)
goes_related more fixed i j h w = record {
  kept = kept fixed j w;
  ok = λ e d is. ap (λ x. Ok x) is;
  act = λ l e d is. subst (λ (x : Counted). GoesOn more (cond (is_include l.text) (i l e) (counting e.used (apply_directive fixed l e.env))) Past (cond (is_include l.text) (j l x) (counting x.used (apply_directive fixed l x.env)))) (sym is)
      (goes_either more (is_include l.text) (i l e) (counting e.used (apply_directive fixed l e.env)) (j l e) (counting e.used (apply_directive fixed l e.env)) (h l e) (goes_count more e.used (apply_directive fixed l e.env)));
  test = λ l e d is. subst (λ (x : Counted). Same (saying (tested fixed l e.env)) (saying (tested fixed l x.env))) (sym is) (same_saying (tested fixed l e.env));
  stray = λ l. refl;
  bind = λ r s f g p q k. goes_bind more r s f g p (λ x. q x x refl) k;
  choose = λ r s f g p q. goes_choose more r s f g p q;
}

goes_opened : (more : Source) (file other : List Line → Counted → Result Counted Halt) → ((ls : List Line) (c : Counted) → GoesOn more (file ls c) Past (other ls c)) → (path bytes : List ℕ) (u : ℕ) (e : Env) → GoesOn more (counted_opened file path bytes u e) Past (counted_opened other path bytes u e)
goes_opened more file other h path bytes u e =
    let leave : Counted → Result Counted Halt = λ x. Ok (counted_outside e x) in
    goes_saying more (lines_read path bytes) (λ lines. file (map (line_at path) lines) (counted_inside path u e) >>= leave) (λ lines. other (map (line_at path) lines) (counted_inside path u e) >>= leave)
    (λ lines. goes_bind more (file (map (line_at path) lines) (counted_inside path u e)) (other (map (line_at path) lines) (counted_inside path u e)) leave leave (h (map (line_at path) lines) (counted_inside path u e)) (λ x. refl) (λ x. omega arith))

-- a place that is found is found again after as many answers; past one that is wanted more are used
abbrev Further : Source → Located → ℕ → Located → ℕ → Type 0
Further more (wanted p) k y m = (g : Got) → more p ≡ Some g → k < m
Further more missing k y m = (y ≡ missing) × (m ≡ k)
Further more (over_limit p) k y m = (y ≡ over_limit p) × (m ≡ k)
Further more (there p bytes) k y m = (y ≡ there p bytes) × (m ≡ k)

further_suc : (more : Source) (x : Located) (k : ℕ) (y : Located) (m : ℕ) → Further more x k y m → Further more x (1 + k) y (1 + m)
further_suc more (wanted p) k y m h = λ g is. omega (arith, h g is)
further_suc more missing k y m h = (h.0, ap (λ n. 1 + n) h.1)
further_suc more (over_limit p) k y m h = (h.0, ap (λ n. 1 + n) h.1)
further_suc more (there p bytes) k y m h = (h.0, ap (λ n. 1 + n) h.1)

some_asked : (g : Got) (rest : ℕ) → 0 < more_asked (Some g) rest
some_asked Absent rest = omega arith
some_asked TooLong rest = omega arith
some_asked (File bytes) rest = omega arith

abbrev FurtherAt : Source → List ℕ → Option Got → Located → ℕ → Option Got → Located → ℕ → Type 0
FurtherAt more p a x k b y m = Further more (or_located (at_place p a) x) (more_asked a k) (or_located (at_place p b) y) (more_asked b m)

further_one : (more : Source) (p : List ℕ) (a b : Option Got) (x : Located) (k : ℕ) (y : Located) (m : ℕ) → more p ≡ b → ((g : Got) → a ≡ Some g → b ≡ Some g) → Further more x k y m → FurtherAt more p a x k b y m
further_one more p None b x k y m e s h = λ g is. subst (λ o. 0 < more_asked o m) (sym is ∙ e) (some_asked g m)
further_one more p (Some Absent) b x k y m e s h = subst (λ o. FurtherAt more p (Some Absent) x k o y m) (sym (s Absent refl)) (further_suc more x k y m h)
further_one more p (Some TooLong) b x k y m e s h = subst (λ o. FurtherAt more p (Some TooLong) x k o y m) (sym (s TooLong refl)) (refl, refl)
further_one more p (Some (File bytes)) b x k y m e s h = subst (λ o. FurtherAt more p (Some (File bytes)) x k o y m) (sym (s (File bytes) refl)) (refl, refl)

further : (a more : Source) → MoreAnswers a more → (ps : List (List ℕ)) → Further more (located a ps) (asked a ps) (located more ps) (asked more ps)
further a more s [] = (refl, refl)
further a more s (p ∷ ps) = further_one more p (a p) (more p) (located a ps) (asked a ps) (located more ps) (asked more ps) refl (s p) (further a more s ps)

past_found : (u v : ℕ) (enter : List ℕ → List ℕ → Result Counted Halt) (l : Line) (path : List ℕ) (x : Located) → u < v → ((p bytes : List ℕ) → Grows v (enter p bytes)) → Past u (counted_found enter l path v x)
past_found u v enter l path (wanted p) h w = h
past_found u v enter l path missing h w = tt
past_found u v enter l path (over_limit p) h w = tt
past_found u v enter l path (there p bytes) h w = past_grows u v (enter p bytes) h (w p bytes)

module _ (more : Source) (enter other : Enter) (goes : (path : List ℕ) (v : ℕ) (p bytes : List ℕ) → GoesOn more (enter path v p bytes) Past (other path v p bytes)) (w : (path : List ℕ) (v : ℕ) (p bytes : List ℕ) → Grows v (other path v p bytes)) where
  goes_found : (l : Line) (path : List ℕ) (u : ℕ) (x : Located) (k : ℕ) (y : Located) (m : ℕ) → Further more x k y m → GoesOn more (counted_found (enter path (u + k)) l path (u + k) x) Past (counted_found (other path (u + m)) l path (u + m) y)
  goes_found l path u (wanted p) k y m h = λ g is. past_found (u + k) (u + m) (other path (u + m)) l path y (omega (arith, h g is)) (w path (u + m))
  goes_found l path u missing k y m h = ap (counted_found (other path (u + m)) l path (u + m)) h.0
  goes_found l path u (over_limit p) k y m h = ap (counted_found (other path (u + m)) l path (u + m)) h.0
  goes_found l path u (there p bytes) k y m h =
      subst (λ z. GoesOn more (enter path (u + k) p bytes) Past (counted_found (other path (u + m)) l path (u + m) z)) (sym h.0)
      (subst (λ n. GoesOn more (enter path (u + k) p bytes) Past (other path (u + n) p bytes)) (sym h.1) (goes path (u + k) p bytes))

  goes_at : (a : Source) → MoreAnswers a more → (l : Line) (field : List ℕ) (u : ℕ) (o : Option (List ℕ)) → GoesOn more (counted_at enter a l field u o) Past (counted_at other more l field u o)
  goes_at a s l field u None = refl
  goes_at a s l field u (Some path) =
      let ps = places l.at.path path in
      goes_found l path u (located a ps) (asked a ps) (located more ps) (asked more ps) (further a more s ps)

-- with the answer to a wanted path, more answers are used before the next one is wanted
goes_on : (a more : Source) → MoreAnswers a more → (fixed : List Macro) (n : ℕ) (l : Line) (c : Counted) → GoesOn more (counted a fixed n l c) Past (counted more fixed n l c)
unfolding counted
goes_on a more s fixed zero l c =
    let enter : Enter = λ path v p bytes. Err (fault (fault_at INCLUDE_TOO_DEEP l path)) in
    goes_at more enter enter (λ path v p bytes. refl) (λ path v p bytes. tt) a s l (include_field fixed l c.env) c.used (path_field (without_workspace (include_field fixed l c.env)))
goes_on a more s fixed (suc n) l c =
    let file : List Line → Counted → Result Counted Halt = λ ls x. file_of (counted_acts fixed (counted a fixed n)) ls x in
    let next : List Line → Counted → Result Counted Halt = λ ls x. file_of (counted_acts fixed (counted more fixed n)) ls x in
    let enter : Enter = λ path v p bytes. cond (is_open p c.env) (Err (fault (fault_at INCLUDE_LOOP l path))) (counted_opened file p bytes v c.env) in
    let other : Enter = λ path v p bytes. cond (is_open p c.env) (Err (fault (fault_at INCLUDE_LOOP l path))) (counted_opened next p bytes v c.env) in
    goes_at more enter other
    (λ path v p bytes. goes_either more (is_open p c.env) (Err (fault (fault_at INCLUDE_LOOP l path))) (counted_opened file p bytes v c.env) (Err (fault (fault_at INCLUDE_LOOP l path))) (counted_opened next p bytes v c.env) refl
    (goes_opened more file next (λ ls x. file_related (goes_related more fixed (counted a fixed n) (counted more fixed n) (goes_on a more s fixed n) (grows more fixed n)) ls x x refl) p bytes v c.env))
    (λ path v p bytes. grows_either v (is_open p c.env) (Err (fault (fault_at INCLUDE_LOOP l path))) (counted_opened next p bytes v c.env) tt
    (grows_opened next (λ ls x. file_kept (kept fixed (counted more fixed n) (grows more fixed n)) ls x) p bytes v c.env))
    a s l (include_field fixed l c.env) c.used (path_field (without_workspace (include_field fixed l c.env)))

past_root : (more : Source) (fixed : List Macro) (root : List ℕ) (e : Env) (g : Got) → Past 0 (counted_root more fixed root e (Some g))
past_root more fixed root e Absent = tt
past_root more fixed root e TooLong = tt
past_root more fixed root e (File bytes) =
    let next : List Line → Counted → Result Counted Halt = λ ls x. file_of (counted_acts fixed (counted more fixed 31)) ls x in
    past_grows 0 1 (counted_opened next root bytes 1 e) (omega arith) (grows_opened next (λ ls x. file_kept (kept fixed (counted more fixed 31) (grows more fixed 31)) ls x) root bytes 1 e)

root_goes_by : (a more : Source) → MoreAnswers a more → (fixed : List Macro) (root : List ℕ) (e : Env) (x y : Option Got) → more root ≡ y → ((g : Got) → x ≡ Some g → y ≡ Some g) → GoesOn more (counted_root a fixed root e x) Past (counted_root more fixed root e y)
root_goes_by a more s fixed root e None y is h = λ g there. subst (λ o. Past 0 (counted_root more fixed root e o)) (sym there ∙ is) (past_root more fixed root e g)
root_goes_by a more s fixed root e (Some Absent) y is h = ap (counted_root more fixed root e) (h Absent refl)
root_goes_by a more s fixed root e (Some TooLong) y is h = ap (counted_root more fixed root e) (h TooLong refl)
root_goes_by a more s fixed root e (Some (File bytes)) y is h =
    let file : List Line → Counted → Result Counted Halt = λ ls x. file_of (counted_acts fixed (counted a fixed 31)) ls x in
    let next : List Line → Counted → Result Counted Halt = λ ls x. file_of (counted_acts fixed (counted more fixed 31)) ls x in
    subst (λ o. GoesOn more (counted_opened file root bytes 1 e) Past (counted_root more fixed root e o)) (sym (h (File bytes) refl))
    (goes_opened more file next (λ ls x. file_related (goes_related more fixed (counted a fixed 31) (counted more fixed 31) (goes_on a more s fixed 31) (grows more fixed 31)) ls x x refl) root bytes 1 e)

pub root_goes : (a more : Source) → MoreAnswers a more → (fixed : List Macro) (root : List ℕ) (e : Env) → GoesOn more (counted_root a fixed root e (a root)) Past (counted_root more fixed root e (more root))
root_goes a more s fixed root e = root_goes_by a more s fixed root e (a root) (more root) refl (s root)
