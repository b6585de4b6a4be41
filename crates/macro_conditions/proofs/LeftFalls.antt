-- Each answer to a wanted path makes less left.
use Rattle.std.proofs.Common.{◌≡◌, ℕ, zero, suc, ◌+◌, ◌-◌, ◌*◌, ◌<◌, ◌≤◌, Bool, true, false, cond, nat_eq, ◌==◌, List, [], ◌∷◌, length, map, Option, Some, None, Result, Ok, Err, refl, sym, ap, ◌∙◌, subst, arith, rules, tests}
use Rattle.std.proofs.Math.ListN.{length-map}
use Rattle.std.proofs.lemmas.List.Splits.{length-slice_split}
use Rattle.std.proofs.lemmas.List.Sums.{count_by-le-length}
use Rattle.std.proofs.lemmas.List.Elements.{All-head, All-tail}
use Rattle.std.specs.List.{slice_split}
use Rattle.build_base.specs.declared.fault.Fault.{Fault}
use Rattle.build_base.specs.declared.lines.Macro.{Macro}
use Rattle.build_base.specs.declared.lines.Taken.{Taken as Line}
use Rattle.build_base.specs.declared.outside.Got.{Got}
use Rattle.build_base.specs.declared.outside.Got.TheVariants.{File, Absent, TooLong}
use Rattle.build_base.specs.First.{unless}
use Rattle.build_base.specs.Outside.{IsWithin}
use Rattle.build_base.specs.Path.{path_field}
use Rattle.meta_lexer.specs.Faults.{Spot, first_fault}
use Rattle.meta_lexer.specs.Lines.{TextLine, Piece, is_feed, without_return, numbered, pieces_from, piece_fault, piece_line, lines_of}
use Rattle.macro_conditions.specs.declared.known.Known.{Known}
use Rattle.macro_conditions.specs.Directives.{is_include}
use Rattle.macro_expressions.specs.Macros.{same_text, without_workspace}
use Rattle.macro_conditions.specs.Sources.{Source, answer, places, Located, wanted, missing, over_limit, there, located}
use Rattle.macro_conditions.specs.Worlds.{MoreAnswers}
use Rattle.macro_conditions.specs.LineMeaning.{◌>>=◌, file_of}
use Rattle.macro_conditions.specs.Expansion.{Env, Stop, bad, need, settled, acts, apply_directive, tested, fault_at, include_field, line_at, read_by, lines_read, inside, outside, file_lines, is_open, included, begun, document, rooted, expansion}
use Rattle.macro_conditions.specs.Counting.{Counted, Halt, fault, wants, counting, saying, asked, counted_acts, counted_inside, counted_outside, counted_opened, counted_found, counted_at, counted, counted_root, most, left_by, left, with_answer, AreWithin}
use Rattle.macro_conditions.proofs.IncludeLemmas.{found_at, at_path}
use Rattle.macro_conditions.proofs.TreeRelated.{IsRelated, file_related}
use Rattle.macro_conditions.proofs.CountGrowth.{GoesOn, Past, root_goes}
use Rattle.macro_conditions.proofs.CountGrowth as growth
use Rattle.macro_conditions.proofs.CountBound.{Within, ShortFiles, root_within}
use Rattle.macro_conditions.proofs.MoreAnswersLaw as plainly
use Rattle.build_base.specs.FaultCodes.{INCLUDE_LOOP, INCLUDE_TOO_DEEP}

-- a counted result, without its counts
abbrev Erases : Result Counted Halt → Result Env Stop → Type 0
Erases (Ok x) s = s ≡ Ok x.env
Erases (Err (fault f)) s = s ≡ Err (bad f)
Erases (Err (wants p u)) s = s ≡ Err (need p)

abbrev ErasesTest : Result Bool Halt → Result Bool Stop → Type 0
ErasesTest (Ok b) s = s ≡ Ok b
ErasesTest (Err (fault f)) s = s ≡ Err (bad f)
ErasesTest (Err (wants p u)) s = s ≡ Err (need p)

erases_count : (u : ℕ) (r : Result Env Fault) → Erases (counting u r) (settled r)
erases_count u (Ok x) = refl
erases_count u (Err f) = refl

erases_test : (r : Result Bool Fault) → ErasesTest (saying r) (settled r)
erases_test (Ok x) = refl
erases_test (Err f) = refl

erases_bind : (r : Result Counted Halt) (s : Result Env Stop) (f : Counted → Result Counted Halt) (g : Env → Result Env Stop) → Erases r s → ((x : Counted) → Erases (f x) (g x.env)) → Erases (r >>= f) (s >>= g)
erases_bind (Ok x) s f g h k = subst (λ o. Erases (f x) (o >>= g)) (sym h) (k x)
erases_bind (Err (fault i)) s f g h k = ap (λ o. o >>= g) h
erases_bind (Err (wants p u)) s f g h k = ap (λ o. o >>= g) h

erases_choose : (r : Result Bool Halt) (s : Result Bool Stop) (f : Bool → Result Counted Halt) (g : Bool → Result Env Stop) → ErasesTest r s → ((b : Bool) → Erases (f b) (g b)) → Erases (r >>= f) (s >>= g)
erases_choose (Ok b) s f g h k = subst (λ o. Erases (f b) (o >>= g)) (sym h) (k b)
erases_choose (Err (fault i)) s f g h k = ap (λ o. o >>= g) h
erases_choose (Err (wants p u)) s f g h k = ap (λ o. o >>= g) h

erases_saying : {A : Type 0} (r : Result A Fault) (f : A → Result Counted Halt) (g : A → Result Env Stop) → ((x : A) → Erases (f x) (g x)) → Erases (saying r >>= f) (settled r >>= g)
erases_saying (Ok x) f g h = h x
erases_saying (Err k) f g h = refl

erases_either : (b : Bool) (x y : Result Counted Halt) (u v : Result Env Stop) → Erases x u → Erases y v → Erases (cond b x y) (cond b u v)
erases_either true x y u v p q = p
erases_either false x y u v p q = q

related : (fixed : List Macro) (i : growth.Include) (j : plainly.Include) → ((l : Line) (c : Counted) → Erases (i l c) (j l c.env)) → IsRelated (counted_acts fixed i) (acts fixed j) (λ c e. c.env ≡ e) Erases ErasesTest (λ d r. Unit {0})
related fixed i j h = record {
  kept = record { ok = λ e. tt; act = λ l e. tt; stray = λ l e. tt; bind = λ e r f p q. tt; choose = λ l e f p. tt };
  ok = λ c e is. ap (λ x. Ok x) (sym is);
  act = λ l c e is. subst (λ x. Erases (cond (is_include l.text) (i l c) (counting c.used (apply_directive fixed l c.env))) (cond (is_include l.text) (j l x) (settled (apply_directive fixed l x)))) is
      (erases_either (is_include l.text) (i l c) (counting c.used (apply_directive fixed l c.env)) (j l c.env) (settled (apply_directive fixed l c.env)) (h l c) (erases_count c.used (apply_directive fixed l c.env)));
  test = λ l c e is. subst (λ x. ErasesTest (saying (tested fixed l c.env)) (settled (tested fixed l x))) is (erases_test (tested fixed l c.env));
  stray = λ l. refl;
  bind = λ r s f g p q w. erases_bind r s f g p (λ x. q x x.env refl);
  choose = λ r s f g p q. erases_choose r s f g p q;
}

erases_opened : (file : List Line → Counted → Result Counted Halt) (plain : List Line → Env → Result Env Stop) → ((ls : List Line) (c : Counted) → Erases (file ls c) (plain ls c.env)) → (path bytes : List ℕ) (u : ℕ) (e : Env) → Erases (counted_opened file path bytes u e) (file_lines plain path bytes e)
erases_opened file plain h path bytes u e =
    let leave : Counted → Result Counted Halt = λ x. Ok (counted_outside e x) in
    let go : Env → Result Env Stop = λ x. Ok (outside e x) in
    erases_saying (lines_read path bytes) (λ lines. file (map (line_at path) lines) (counted_inside path u e) >>= leave) (λ lines. plain (map (line_at path) lines) (inside path e) >>= go)
    (λ lines. erases_bind (file (map (line_at path) lines) (counted_inside path u e)) (plain (map (line_at path) lines) (inside path e)) leave go (h (map (line_at path) lines) (counted_inside path u e)) (λ x. refl))

erases_found : (enter : List ℕ → List ℕ → Result Counted Halt) (plain : List ℕ → List ℕ → Result Env Stop) → ((p bytes : List ℕ) → Erases (enter p bytes) (plain p bytes)) → (l : Line) (path : List ℕ) (u : ℕ) (x : Located) → Erases (counted_found enter l path u x) (found_at plain l path x)
erases_found enter plain h l path u (wanted p) = refl
erases_found enter plain h l path u missing = refl
erases_found enter plain h l path u (over_limit p) = refl
erases_found enter plain h l path u (there p bytes) = h p bytes

erases_at : (enter : growth.Enter) (plain : List ℕ → List ℕ → List ℕ → Result Env Stop) → ((path : List ℕ) (v : ℕ) (p bytes : List ℕ) → Erases (enter path v p bytes) (plain path p bytes)) → (known : Source) (l : Line) (field : List ℕ) (u : ℕ) (o : Option (List ℕ)) → Erases (counted_at enter known l field u o) (at_path plain known l field o)
erases_at enter plain h known l field u None = refl
erases_at enter plain h known l field u (Some path) =
    let v : ℕ = u + asked known (places l.at.path path) in
    erases_found (enter path v) (plain path) (h path v) l path v (located known (places l.at.path path))

erases : (known : Source) (fixed : List Macro) (n : ℕ) (l : Line) (c : Counted) → Erases (counted known fixed n l c) (included known fixed n l c.env)
unfolding counted included
erases known fixed zero l c =
    erases_at (λ path v p bytes. Err (fault (fault_at INCLUDE_TOO_DEEP l path))) (λ path p bytes. Err (bad (fault_at INCLUDE_TOO_DEEP l path))) (λ path v p bytes. refl) known l (include_field fixed l c.env) c.used (path_field (without_workspace (include_field fixed l c.env)))
erases known fixed (suc n) l c =
    let file : List Line → Counted → Result Counted Halt = λ ls x. file_of (counted_acts fixed (counted known fixed n)) ls x in
    let plain : List Line → Env → Result Env Stop = λ ls x. file_of (acts fixed (included known fixed n)) ls x in
    erases_at (λ path v p bytes. cond (is_open p c.env) (Err (fault (fault_at INCLUDE_LOOP l path))) (counted_opened file p bytes v c.env)) (λ path p bytes. cond (is_open p c.env) (Err (bad (fault_at INCLUDE_LOOP l path))) (file_lines plain p bytes c.env))
    (λ path v p bytes. erases_either (is_open p c.env) (Err (fault (fault_at INCLUDE_LOOP l path))) (counted_opened file p bytes v c.env) (Err (bad (fault_at INCLUDE_LOOP l path))) (file_lines plain p bytes c.env) refl
    (erases_opened file plain (λ ls x. file_related (related fixed (counted known fixed n) (included known fixed n) (erases known fixed n)) ls x x.env refl) p bytes v c.env))
    known l (include_field fixed l c.env) c.used (path_field (without_workspace (include_field fixed l c.env)))

erases_root : (known : Source) (fixed : List Macro) (root : List ℕ) (e : Env) (a : Option Got) → Erases (counted_root known fixed root e a) (rooted known fixed root e a)
erases_root known fixed root e None = refl
erases_root known fixed root e (Some Absent) = refl
erases_root known fixed root e (Some TooLong) = refl
erases_root known fixed root e (Some (File bytes)) =
    let file : List Line → Counted → Result Counted Halt = λ ls x. file_of (counted_acts fixed (counted known fixed 31)) ls x in
    let plain : List Line → Env → Result Env Stop = λ ls x. file_of (acts fixed (included known fixed 31)) ls x in
    erases_opened file plain (λ ls x. file_related (related fixed (counted known fixed 31) (included known fixed 31) (erases known fixed 31)) ls x x.env refl) root bytes 1 e

-- what is wanted in the end was wanted by the files
wanted_by_files : (root p : List ℕ) (r : Result Env Stop) → r >>= (λ e. document root e) ≡ Err (need p) → r ≡ Err (need p)
wanted_by_files root p (Ok e) h = cc
wanted_by_files root p (Err (bad f)) h = cc
wanted_by_files root p (Err (need q)) h = let same : q ≡ p = cc in ap (λ x. Err (need x)) same

by_past : (m u : ℕ) (s : Result Counted Halt) → u < m → Past u s → left_by m s < m - u
by_past m u (Ok x) l p = omega arith
by_past m u (Err (fault f)) l p = omega arith
by_past m u (Err (wants q v)) l p = omega (arith, p)

falls_by : (m : ℕ) (q : List ℕ) (g : Got) (more : Source) (r s : Result Counted Halt) → Erases r (Err (need q)) → Within 0 m r → GoesOn more r Past s → more q ≡ Some g → left_by m s < left_by m r
falls_by m q g more (Ok x) s e w go is = cc
falls_by m q g more (Err (fault f)) s e w go is = cc
falls_by m q g more (Err (wants p u)) s e w go is = let same : p ≡ q = cc in by_past m u s (omega (arith, w)) (go g (ap more same ∙ is))

-- a text has no more lines than bytes and one
one_at_most : (b : Bool) (x : Piece) → length (cond b [] (x ∷ [])) ≤ 1
one_at_most true x = omega arith
one_at_most false x = omega arith

numbered_few : (n at : ℕ) (ps : List (List ℕ)) → length (numbered n at ps) ≤ length ps
unfolding numbered
numbered_few n at [] = omega arith
numbered_few n at (p ∷ []) = one_at_most (length (without_return p) == 0) (record { number = n; start = at; bytes = p })
numbered_few n at (p ∷ q ∷ ps) = omega (arith, numbered_few (n + 1) (at + length p + 1) (q ∷ ps))

few_pieces : (bytes : List ℕ) → length (pieces_from 1 0 bytes) ≤ length bytes + 1
few_pieces bytes = omega (arith, numbered_few 1 0 (slice_split is_feed bytes), length-slice_split is_feed bytes, count_by-le-length is_feed bytes)

few_by : (o : Option Spot) (path bytes : List ℕ) (made ls : List TextLine) → read_by path bytes (unless o made) ≡ Ok ls → made ≡ ls
few_by None path bytes made ls e = cc
few_by (Some spot) path bytes made ls e = cc

few_lines : (path bytes : List ℕ) (ls : List TextLine) → lines_read path bytes ≡ Ok ls → length ls ≤ length bytes + 1
unfolding lines_read lines_of
few_lines path bytes ls e =
    let ps : List Piece = pieces_from 1 0 bytes in
    let is : map piece_line ps ≡ ls = few_by (first_fault piece_fault ps) path bytes (map piece_line ps) ls e in
    omega (arith, few_pieces bytes, ap length (sym is) ∙ length-map ps piece_line)

got_is : (x y : Got) → Some x ≡ Some y → x ≡ y
got_is x y e = cc

within_files : (limit : ℕ) (files : List Known) → AreWithin limit files → (p bytes : List ℕ) → answer files p ≡ Some (File bytes) → length bytes ≤ limit
unfolding answer
within_files limit [] w p bytes e = cc
within_files limit (k ∷ files) w p bytes e =
    let P : Known → Type 0 = λ known. IsWithin limit known.got in
    let Found : Bool → Type 0 = λ b. cond b (Some k.got) (answer files p) ≡ Some (File bytes) → length bytes ≤ limit in
    elim (same_text k.path p) as Found [
      | true ↦ λ h. subst (IsWithin limit) (got_is k.got (File bytes) h) (All-head P k files w)
      | false ↦ λ h. within_files limit files (All-tail P k files w) p bytes h
    ] e

short_files : (limit : ℕ) (files : List Known) → AreWithin limit files → ShortFiles (limit + 1) (answer files)
short_files limit files w p path bytes ls e is = omega (arith, within_files limit files w p bytes e, few_lines path bytes ls is)

-- one answer more takes none away, and answers its path
pub answer_more : (files : List Known) (p : List ℕ) (g : Got) → MoreAnswers (answer files) (answer (with_answer files p g))
unfolding answer
answer_more [] p g path got e = cc
answer_more (k ∷ files) p g path got e =
    let Found : Bool → Type 0 = λ b. cond b (Some k.got) (answer files path) ≡ Some got → cond b (Some k.got) (answer (with_answer files p g) path) ≡ Some got in
    elim (same_text k.path path) as Found [ true ↦ λ h. h | false ↦ λ h. answer_more files p g path got h ] e

pub same_self : (xs : List ℕ) → same_text xs xs ≡ true
same_self [] = refl
same_self (x ∷ xs) = let one : nat_eq x x ≡ true = search (rules, tests) in rw (one, same_self xs) refl

abbrev IsThere : Option Got → Type 0
IsThere o = (h : Got) × (o ≡ Some h)

answer_there : (files : List Known) (p : List ℕ) (g : Got) → IsThere (answer (with_answer files p g) p)
unfolding answer
answer_there [] p g = subst (λ b. IsThere (cond b (Some g) None)) (sym (same_self p)) (g, refl)
answer_there (k ∷ files) p g =
    let Found : Bool → Type 0 = λ b. IsThere (cond b (Some k.got) (answer (with_answer files p g) p)) in
    elim (same_text k.path p) as Found [ true ↦ (k.got, refl) | false ↦ answer_there files p g ]

-- the answer to the path that is wanted makes less left
pub left_falls : (limit : ℕ) (root : List ℕ) (macros fixed : List Macro) (files : List Known) (p : List ℕ) (g : Got) → AreWithin limit files → expansion (answer files) root macros fixed ≡ Err (need p) → left limit root macros fixed (with_answer files p g) < left limit root macros fixed files
unfolding left expansion
left_falls limit root macros fixed files p g w e =
    let a : Source = answer files in
    let b : Source = answer (with_answer files p g) in
    let start : Env = begun macros in
    let there = answer_there files p g in
    let stops : rooted a fixed root start (a root) ≡ Err (need p) = wanted_by_files root p (rooted a fixed root start (a root)) e in
    falls_by (1 + (limit + 1) * most (limit + 1) 31) p there.0 b (counted_root a fixed root start (a root)) (counted_root b fixed root start (b root))
    (subst (Erases (counted_root a fixed root start (a root))) stops (erases_root a fixed root start (a root)))
    (root_within (limit + 1) a (short_files limit files w) fixed root start)
    (root_goes a b (answer_more files p g) fixed root start)
    there.1
