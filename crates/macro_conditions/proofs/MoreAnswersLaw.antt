-- More answers change nothing that was found without them.
use Rattle.std.proofs.Common.{◌≡◌, ℕ, zero, suc, Bool, true, false, cond, List, [], ◌∷◌, map, Option, Some, None, Result, Ok, Err, refl, sym, ap, subst}
use Rattle.build_base.specs.declared.lines.Lines.{Lines}
use Rattle.build_base.specs.declared.lines.Macro.{Macro}
use Rattle.build_base.specs.declared.lines.Taken.{Taken as Line}
use Rattle.build_base.specs.declared.outside.Got.{Got}
use Rattle.build_base.specs.declared.outside.Got.TheVariants.{File, Absent, TooLong}
use Rattle.build_base.specs.Path.{path_field}
use Rattle.macro_conditions.specs.Directives.{is_include}
use Rattle.macro_expressions.specs.Macros.{without_workspace}
use Rattle.macro_conditions.specs.Sources.{Source, places, Located, wanted, missing, over_limit, there, at_place, or_located, located}
use Rattle.build_base.specs.declared.refusal.Refusal.{Refusal}
use Rattle.build_base.specs.declared.refusal.Refusal.TheVariants as refusals
use Rattle.macro_conditions.specs.declared.expansion.Turned.{Turned}
use Rattle.macro_conditions.specs.declared.expansion.Turned.TheVariants as turned
use Rattle.macro_conditions.specs.Work.{Expands}
use Rattle.macro_conditions.specs.Worlds.{MoreAnswers, Stays, told, AgreesWith, HoldsIn}
use Rattle.macro_conditions.specs.LineMeaning.{◌>>=◌, file_of}
use Rattle.macro_conditions.specs.Expansion.{Env, Stop, bad, need, settled, acts, apply_directive, tested, fault_at, include_field, line_at, lines_read, inside, outside, file_lines, is_open, included, begun, document, rooted, expansion}
use Rattle.macro_conditions.proofs.IncludeLemmas.{found_at, at_path}
use Rattle.macro_conditions.proofs.TreeRelated.{IsRelated, file_related}
use Rattle.build_base.specs.FaultCodes.{INCLUDE_LOOP, INCLUDE_TOO_DEEP}

abbrev pub Include : Type 0
Include = Line → Env → Result Env Stop

pub stays_same : {A : Type 0} (m : Source) (r : Result A Stop) → Stays m r r
stays_same m (Ok x) = refl
stays_same m (Err (bad f)) = refl
stays_same m (Err (need p)) = λ o. refl

stays_bind : {A B : Type 0} (m : Source) (r s : Result A Stop) (f g : A → Result B Stop) → Stays m r s → ((x : A) → Stays m (f x) (g x)) → Stays m (r >>= f) (s >>= g)
stays_bind m (Ok x) s f g h k = subst (λ o. Stays m (f x) (o >>= g)) (sym h) (k x)
stays_bind m (Err (bad f)) s g i h k = ap (λ o. o >>= i) h
stays_bind m (Err (need p)) s f g h k = λ o. ap (λ r. r >>= g) (h o)

stays_either : {A : Type 0} (m : Source) (b : Bool) (x y u v : Result A Stop) → Stays m x u → Stays m y v → Stays m (cond b x y) (cond b u v)
stays_either m true x y u v p q = p
stays_either m false x y u v p q = q

related : (m : Source) (fixed : List Macro) (i j : Include) → ((l : Line) (e : Env) → Stays m (i l e) (j l e)) → IsRelated (acts fixed i) (acts fixed j) (λ e d. d ≡ e) (Stays m) (Stays m) (λ d r. Unit {0})
related m fixed i j h = record {
  kept = record { ok = λ e. tt; act = λ l e. tt; stray = λ l e. tt; bind = λ e r f p q. tt; choose = λ l e f p. tt };
  ok = λ e d is. ap (λ x. Ok x) is;
  act = λ l e d is. subst (λ x. Stays m (cond (is_include l.text) (i l e) (settled (apply_directive fixed l e))) (cond (is_include l.text) (j l x) (settled (apply_directive fixed l x)))) (sym is)
      (stays_either m (is_include l.text) (i l e) (settled (apply_directive fixed l e)) (j l e) (settled (apply_directive fixed l e)) (h l e) (stays_same m (settled (apply_directive fixed l e))));
  test = λ l e d is. subst (λ x. Stays m (settled (tested fixed l e)) (settled (tested fixed l x))) (sym is) (stays_same m (settled (tested fixed l e)));
  stray = λ l. refl;
  bind = λ r s f g p q w. stays_bind m r s f g p (λ x. q x x refl);
  choose = λ r s f g p q. stays_bind m r s f g p q;
}

opened_stays : (m : Source) (file other : List Line → Env → Result Env Stop) → ((ls : List Line) (e : Env) → Stays m (file ls e) (other ls e)) → (path bytes : List ℕ) (e : Env) → Stays m (file_lines file path bytes e) (file_lines other path bytes e)
opened_stays m file other h path bytes e =
    let leave : Env → Result Env Stop = λ x. Ok (outside e x) in
    stays_bind m (settled (lines_read path bytes)) (settled (lines_read path bytes)) (λ lines. file (map (line_at path) lines) (inside path e) >>= leave) (λ lines. other (map (line_at path) lines) (inside path e) >>= leave)
    (stays_same m (settled (lines_read path bytes)))
    (λ lines. stays_bind m (file (map (line_at path) lines) (inside path e)) (other (map (line_at path) lines) (inside path e)) leave leave (h (map (line_at path) lines) (inside path e)) (λ x. refl))

-- a place that is found is found again, and one that is wanted stays so where nothing more is known of it
abbrev pub LocatedStays : Source → Located → Located → Type 0
LocatedStays m (wanted p) l = m p ≡ None → l ≡ wanted p
LocatedStays m missing l = l ≡ missing
LocatedStays m (over_limit p) l = l ≡ over_limit p
LocatedStays m (there p bytes) l = l ≡ there p bytes

located_one : (m : Source) (p : List ℕ) (a : Option Got) (rest more : Located) → ((g : Got) → a ≡ Some g → m p ≡ Some g) → LocatedStays m rest more → LocatedStays m (or_located (at_place p a) rest) (or_located (at_place p (m p)) more)
located_one m p None rest more k h = λ o. ap (λ o. or_located (at_place p o) more) o
located_one m p (Some Absent) rest more k h = subst (λ o. LocatedStays m rest (or_located (at_place p o) more)) (sym (k Absent refl)) h
located_one m p (Some TooLong) rest more k h = ap (λ o. or_located (at_place p o) more) (k TooLong refl)
located_one m p (Some (File bytes)) rest more k h = ap (λ o. or_located (at_place p o) more) (k (File bytes) refl)

pub located_stays : (a b : Source) → MoreAnswers a b → (ps : List (List ℕ)) → LocatedStays b (located a ps) (located b ps)
located_stays a b m [] = refl
located_stays a b m (p ∷ ps) = located_one b p (a p) (located a ps) (located b ps) (m p) (located_stays a b m ps)

abbrev Enter : Type 0
Enter = List ℕ → List ℕ → List ℕ → Result Env Stop

found_stays : (m : Source) (enter other : List ℕ → List ℕ → Result Env Stop) → ((p bytes : List ℕ) → Stays m (enter p bytes) (other p bytes)) → (l : Line) (path : List ℕ) (x y : Located) → LocatedStays m x y → Stays m (found_at enter l path x) (found_at other l path y)
found_stays m enter other h l path (wanted p) y s = λ o. ap (found_at other l path) (s o)
found_stays m enter other h l path missing y s = ap (found_at other l path) s
found_stays m enter other h l path (over_limit p) y s = ap (found_at other l path) s
found_stays m enter other h l path (there p bytes) y s = subst (λ z. Stays m (enter p bytes) (found_at other l path z)) (sym s) (h p bytes)

at_stays : (enter other : Enter) → (a b : Source) → ((path p bytes : List ℕ) → Stays b (enter path p bytes) (other path p bytes)) → MoreAnswers a b → (l : Line) (field : List ℕ) (o : Option (List ℕ)) → Stays b (at_path enter a l field o) (at_path other b l field o)
at_stays enter other a b h m l field None = refl
at_stays enter other a b h m l field (Some path) =
    found_stays b (enter path) (other path) (h path) l path (located a (places l.at.path path)) (located b (places l.at.path path)) (located_stays a b m (places l.at.path path))

-- an include comes to the same with more answers, unless it needs one that is there
included_stays : (a b : Source) → MoreAnswers a b → (fixed : List Macro) (n : ℕ) (l : Line) (e : Env) → Stays b (included a fixed n l e) (included b fixed n l e)
unfolding included
included_stays a b m fixed zero l e =
    at_stays (λ path p bytes. Err (bad (fault_at INCLUDE_TOO_DEEP l path))) (λ path p bytes. Err (bad (fault_at INCLUDE_TOO_DEEP l path))) a b (λ path p bytes. refl) m l (include_field fixed l e) (path_field (without_workspace (include_field fixed l e)))
included_stays a b m fixed (suc n) l e =
    let file : List Line → Env → Result Env Stop = λ ls x. file_of (acts fixed (included a fixed n)) ls x in
    let other : List Line → Env → Result Env Stop = λ ls x. file_of (acts fixed (included b fixed n)) ls x in
    at_stays (λ path p bytes. cond (is_open p e) (Err (bad (fault_at INCLUDE_LOOP l path))) (file_lines file p bytes e)) (λ path p bytes. cond (is_open p e) (Err (bad (fault_at INCLUDE_LOOP l path))) (file_lines other p bytes e)) a b
    (λ path p bytes. stays_either b (is_open p e) (Err (bad (fault_at INCLUDE_LOOP l path))) (file_lines file p bytes e) (Err (bad (fault_at INCLUDE_LOOP l path))) (file_lines other p bytes e) refl
    (opened_stays b file other (λ ls x. file_related (related b fixed (included a fixed n) (included b fixed n) (included_stays a b m fixed n)) ls x x refl) p bytes e))
    m l (include_field fixed l e) (path_field (without_workspace (include_field fixed l e)))

rooted_stays : (a b : Source) → MoreAnswers a b → (fixed : List Macro) (root : List ℕ) (e : Env) (x : Option Got) → ((g : Got) → x ≡ Some g → b root ≡ Some g) → Stays b (rooted a fixed root e x) (rooted b fixed root e (b root))
rooted_stays a b m fixed root e None h = λ o. ap (rooted b fixed root e) o
rooted_stays a b m fixed root e (Some Absent) h = ap (rooted b fixed root e) (h Absent refl)
rooted_stays a b m fixed root e (Some TooLong) h = ap (rooted b fixed root e) (h TooLong refl)
rooted_stays a b m fixed root e (Some (File bytes)) h =
    let file : List Line → Env → Result Env Stop = λ ls x. file_of (acts fixed (included a fixed 31)) ls x in
    let other : List Line → Env → Result Env Stop = λ ls x. file_of (acts fixed (included b fixed 31)) ls x in
    subst (λ z. Stays b (file_lines file root bytes e) (rooted b fixed root e z)) (sym (h (File bytes) refl))
    (opened_stays b file other (λ ls x. file_related (related b fixed (included a fixed 31) (included b fixed 31) (included_stays a b m fixed 31)) ls x x refl) root bytes e)

-- a document comes to the same with more answers, unless it needs one that is there
pub expansion_stays : (a b : Source) → MoreAnswers a b → (root : List ℕ) (macros fixed : List Macro) → Stays b (expansion a root macros fixed) (expansion b root macros fixed)
unfolding expansion
expansion_stays a b m root macros fixed =
    stays_bind b (rooted a fixed root (begun macros) (a root)) (rooted b fixed root (begun macros) (b root)) (λ e. document root e) (λ e. document root e)
    (rooted_stays a b m fixed root (begun macros) (a root) (m root)) (λ e. refl)

holds_in : (m : Source) (r : Result Turned Refusal) (x y : Result Lines Stop) → Expands r x → Stays m x y → HoldsIn r y
holds_in m (Ok (turned.Whole lines)) x y e s = subst (λ o. Stays m o y) e s
holds_in m (Ok (turned.Need paths)) x y e s = tt
holds_in m (Err (refusals.Bad fault)) x y e s = subst (λ o. Stays m o y) e s
holds_in m (Err refusals.WantOfMemory) x y e s = tt

-- what is answered holds in every world that agrees with what is known
pub in_world : (r : Result Turned Refusal) (known : Source) (root : List ℕ) (macros fixed : List Macro) → Expands r (expansion known root macros fixed) → (world : List ℕ → Got) → AgreesWith world known → HoldsIn r (expansion (told world) root macros fixed)
in_world r known root macros fixed e world agrees =
    holds_in (told world) r (expansion known root macros fixed) (expansion (told world) root macros fixed) e
    (expansion_stays known (told world) (λ path got is. ap (λ g. Some g) (agrees path got is)) root macros fixed)
