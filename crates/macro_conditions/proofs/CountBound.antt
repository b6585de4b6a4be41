-- How many answers a run can use.
use Rattle.std.proofs.Common.{◌≡◌, ℕ, zero, suc, ◌+◌, ◌*◌, ◌<◌, ◌≤◌, Bool, true, false, cond, nat_le, List, [], ◌∷◌, ◌++◌, length, map, Option, Some, None, Result, Ok, Err, refl, sym, ap, ◌∙◌, arith}
use Rattle.std.proofs.Math.Nat.{mul-le-mul_right}
use Rattle.std.proofs.Math.ListN.{length-map}
use Rattle.build_base.specs.declared.fault.Fault.{Fault}
use Rattle.build_base.specs.declared.lines.Macro.{Macro}
use Rattle.build_base.specs.declared.lines.Taken.{Taken as Line}
use Rattle.build_base.specs.declared.outside.Got.{Got}
use Rattle.build_base.specs.declared.outside.Got.TheVariants.{File, Absent, TooLong}
use Rattle.build_base.specs.Path.{path_field, folder_of}
use Rattle.meta_lexer.specs.Lines.{TextLine}
use Rattle.macro_conditions.specs.declared.directive.Directive.{Directive}
use Rattle.macro_conditions.specs.declared.directive.Directive.TheVariants.{Act, If, Elseif, Else, Endif}
use Rattle.macro_conditions.specs.Directives.{kind_of, is_include}
use Rattle.macro_expressions.specs.Macros.{without_workspace}
use Rattle.macro_conditions.specs.Sources.{Source, places, in_folder, Located, wanted, missing, over_limit, there, at_place, or_located, located}
use Rattle.macro_conditions.specs.LineTree.{Items, nothing, plain, stray, choice, Branches, unclosed, closed, further, append, Cut, ended, cut, Gathered, ended_by, gather_last, parted_by, gather, before, with_line, parsed, strayed, tree_of}
use Rattle.macro_conditions.specs.LineMeaning.{Acts, ◌>>=◌, taken, skipped, passed, chosen, at_end, unclosed_line, file_of}
use Rattle.macro_conditions.specs.Expansion.{Env, apply_directive, tested, fault_at, include_field, line_at, lines_read, is_open}
use Rattle.macro_conditions.specs.Counting.{Counted, Halt, fault, wants, counting, saying, more_asked, asked, counted_acts, counted_inside, counted_outside, counted_opened, counted_found, counted_at, counted, counted_root, most}
use Rattle.macro_conditions.proofs.CountGrowth.{Include, Enter}
use Rattle.build_base.specs.FaultCodes.{INCLUDE_LOOP, INCLUDE_TOO_DEEP}

module _ (price : ℕ) where
  abbrev mutual
    pub cost : Items → ℕ
    cost nothing = 0
    cost (plain l t) = price + cost t
    cost (stray l t) = cost t
    cost (choice l body bs t) = cost body + cost_branches bs + cost t

    pub cost_branches : Branches → ℕ
    cost_branches unclosed = 0
    cost_branches (closed l) = 0
    cost_branches (further l body bs) = cost body + cost_branches bs

  abbrev cost_cut : Cut → ℕ
  cost_cut (ended t) = cost t
  cost_cut (cut t k r) = cost t + cost_cut r

  abbrev cost_gathered : Gathered → ℕ
  cost_gathered g = cost g.body + cost_branches g.branches + cost_cut g.rest

  cost-append : (t u : Items) → cost (append t u) ≡ cost t + cost u
  cost-append nothing u = omega arith
  cost-append (plain l t) u = omega (arith, cost-append t u)
  cost-append (stray l t) u = cost-append t u
  cost-append (choice l b bs t) u = omega (arith, cost-append t u)

  cost_ended : (q : Directive) (t : Items) (k : Line) (r : Cut) (g : Gathered) → cost_gathered g ≡ cost_cut r → cost_gathered (ended_by q t k r g) ≡ cost t + cost_cut r
  cost_ended Endif t k r g h = omega arith
  cost_ended Else t k r g h = omega (arith, h, cost-append t (stray k g.body))
  cost_ended Elseif t k r g h = omega (arith, h, cost-append t (stray k g.body))
  cost_ended If t k r g h = omega (arith, h, cost-append t (stray k g.body))
  cost_ended Act t k r g h = omega (arith, h, cost-append t (stray k g.body))

  cost_last : (c : Cut) → cost_gathered (gather_last c) ≡ cost_cut c
  cost_last (ended t) = omega arith
  cost_last (cut t k r) = cost_ended (kind_of k.text) t k r (gather_last r) (cost_last r)

  cost_parted : (q : Directive) (t : Items) (k : Line) (r : Cut) (g last : Gathered) → cost_gathered g ≡ cost_cut r → cost_gathered last ≡ cost_cut r → cost_gathered (parted_by q t k r g last) ≡ cost t + cost_cut r
  cost_parted Endif t k r g last h i = omega arith
  cost_parted Else t k r g last h i = omega (arith, i)
  cost_parted Elseif t k r g last h i = omega (arith, h)
  cost_parted If t k r g last h i = omega (arith, h)
  cost_parted Act t k r g last h i = omega (arith, h)

  cost_gather : (c : Cut) → cost_gathered (gather c) ≡ cost_cut c
  cost_gather (ended t) = omega arith
  cost_gather (cut t k r) = cost_parted (kind_of k.text) t k r (gather r) (gather_last r) (cost_gather r) (cost_last r)

  cost_plain : (l : Line) (c : Cut) → cost_cut (before (plain l) c) ≡ price + cost_cut c
  cost_plain l (ended t) = refl
  cost_plain l (cut t k r) = omega arith

  cost_choice : (l : Line) (b : Items) (bs : Branches) (c : Cut) → cost_cut (before (choice l b bs) c) ≡ cost b + cost_branches bs + cost_cut c
  cost_choice l b bs (ended t) = refl
  cost_choice l b bs (cut t k r) = omega arith

  cost_line : (q : Directive) (l : Line) (c : Cut) → cost_cut (with_line q l c) ≤ price + cost_cut c
  cost_line Act l c = omega (arith, cost_plain l c)
  cost_line If l c = omega (arith, cost_choice l (gather c).body (gather c).branches (gather c).rest, cost_gather c)
  cost_line Elseif l c = omega arith
  cost_line Else l c = omega arith
  cost_line Endif l c = omega arith

  cost_parsed : (ls : List Line) → cost_cut (parsed ls) ≤ length ls * price
  cost_parsed [] = omega arith
  cost_parsed (l ∷ ls) = let step : (length ls + 1) * price ≡ length ls * price + price = omega arith in omega (arith, cost_line (kind_of l.text) l (parsed ls), cost_parsed ls, step)

  cost_strayed : (c : Cut) → cost (strayed c) ≡ cost_cut c
  cost_strayed (ended t) = refl
  cost_strayed (cut t k r) = omega (arith, cost-append t (stray k (strayed r)), cost_strayed r)

  pub cost_tree : (ls : List Line) → cost (tree_of ls) ≤ length ls * price
  unfolding tree_of
  cost_tree ls = omega (arith, cost_strayed (parsed ls), cost_parsed ls)

-- from u on, at most m answers are used
abbrev pub Within : ℕ → ℕ → Result Counted Halt → Type 0
Within u m (Ok x) = x.used ≤ u + m
Within u m (Err (fault f)) = Unit {0}
Within u m (Err (wants p v)) = v < u + m

within_from : (u m k v : ℕ) (r : Result Counted Halt) → v ≤ u + m → Within v k r → Within u (m + k) r
within_from u m k v (Ok x) g h = omega (arith, g, h)
within_from u m k v (Err (fault f)) g h = tt
within_from u m k v (Err (wants p w)) g h = omega (arith, g, h)

within_bind : (u m k : ℕ) (r : Result Counted Halt) (f : Counted → Result Counted Halt) → Within u m r → ((x : Counted) → Within x.used k (f x)) → Within u (m + k) (r >>= f)
within_bind u m k (Ok x) f g h = within_from u m k x.used (f x) g (h x)
within_bind u m k (Err (fault i)) f g h = tt
within_bind u m k (Err (wants p v)) f g h = omega (arith, g)

within_more : (u m k : ℕ) (r : Result Counted Halt) → m ≤ k → Within u m r → Within u k r
within_more u m k (Ok x) l h = omega (arith, h)
within_more u m k (Err (fault f)) l h = tt
within_more u m k (Err (wants p v)) l h = omega (arith, h)

within_count : (u m : ℕ) (r : Result Env Fault) → Within u m (counting u r)
within_count u m (Ok x) = omega arith
within_count u m (Err f) = tt

within_saying : {A : Type 0} (u m : ℕ) (r : Result A Fault) (f : A → Result Counted Halt) → ((x : A) → Within u m (f x)) → Within u m (saying r >>= f)
within_saying u m (Ok x) f h = h x
within_saying u m (Err k) f h = tt

either : (c : Bool) (u m : ℕ) (x y : Result Counted Halt) → Within u m x → Within u m y → Within u m (cond c x y)
either true u m x y p q = p
either false u m x y p q = q

module _ (fixed : List Macro) (i : Include) (price : ℕ) (bounded : (l : Line) (c : Counted) → Within c.used price (i l c)) where
  abbrev all : Acts Counted Halt
  all = counted_acts fixed i

  within_act : (l : Line) (c : Counted) → Within c.used price (all.act l c)
  within_act l c = either (is_include l.text) c.used price (i l c) (counting c.used (apply_directive fixed l c.env)) (bounded l c) (within_count c.used price (apply_directive fixed l c.env))

  mutual
    taken_within : (t : Items) (c : Counted) → Within c.used (cost price t) (taken all t c)
    taken_within nothing c = omega arith
    taken_within (plain l t) c = within_bind c.used price (cost price t) (all.act l c) (λ x. taken all t x) (within_act l c) (λ x. taken_within t x)
    taken_within (stray l t) c = tt
    taken_within (choice l body bs t) c =
        let m : ℕ = cost price body + cost_branches price bs in
        let one : Result Counted Halt = taken all body c >>= (λ x. passed all bs x) in
        let two : Result Counted Halt = skipped all body c >>= (λ x. chosen all bs x) in
        within_bind c.used m (cost price t) (saying (tested fixed l c.env) >>= (λ b. cond b one two)) (λ x. taken all t x)
        (within_saying c.used m (tested fixed l c.env) (λ b. cond b one two) (λ b. either b c.used m one two
        (within_bind c.used (cost price body) (cost_branches price bs) (taken all body c) (λ x. passed all bs x) (taken_within body c) (λ x. passed_within bs x))
        (within_bind c.used (cost price body) (cost_branches price bs) (skipped all body c) (λ x. chosen all bs x) (skipped_within body c) (λ x. chosen_within bs x))))
        (λ x. taken_within t x)

    skipped_within : (t : Items) (c : Counted) → Within c.used (cost price t) (skipped all t c)
    skipped_within nothing c = omega arith
    skipped_within (plain l t) c = within_more c.used (cost price t) (price + cost price t) (skipped all t c) (omega arith) (skipped_within t c)
    skipped_within (stray l t) c = tt
    skipped_within (choice l body bs t) c =
        within_bind c.used (cost price body + cost_branches price bs) (cost price t) (skipped all body c >>= (λ x. passed all bs x)) (λ x. skipped all t x)
        (within_bind c.used (cost price body) (cost_branches price bs) (skipped all body c) (λ x. passed all bs x) (skipped_within body c) (λ x. passed_within bs x))
        (λ x. skipped_within t x)

    passed_within : (bs : Branches) (c : Counted) → Within c.used (cost_branches price bs) (passed all bs c)
    passed_within unclosed c = omega arith
    passed_within (closed l) c = omega arith
    passed_within (further l body bs) c = within_bind c.used (cost price body) (cost_branches price bs) (skipped all body c) (λ x. passed all bs x) (skipped_within body c) (λ x. passed_within bs x)

    chosen_within : (bs : Branches) (c : Counted) → Within c.used (cost_branches price bs) (chosen all bs c)
    chosen_within unclosed c = omega arith
    chosen_within (closed l) c = omega arith
    chosen_within (further l body bs) c =
        let m : ℕ = cost price body + cost_branches price bs in
        let one : Result Counted Halt = taken all body c >>= (λ x. passed all bs x) in
        let two : Result Counted Halt = skipped all body c >>= (λ x. chosen all bs x) in
        within_saying c.used m (tested fixed l c.env) (λ b. cond b one two) (λ b. either b c.used m one two
        (within_bind c.used (cost price body) (cost_branches price bs) (taken all body c) (λ x. passed all bs x) (taken_within body c) (λ x. passed_within bs x))
        (within_bind c.used (cost price body) (cost_branches price bs) (skipped all body c) (λ x. chosen all bs x) (skipped_within body c) (λ x. chosen_within bs x)))

  end_within : (o : Option Line) (c : Counted) → Within c.used 0 (at_end all o c)
  end_within None c = omega arith
  end_within (Some l) c = tt

  file_within : (ls : List Line) (c : Counted) → Within c.used (length ls * price) (file_of all ls c)
  unfolding file_of
  file_within ls c =
      let t : Items = tree_of ls in
      let r : Result Counted Halt = taken all t c >>= (λ x. at_end all (unclosed_line t) x) in
      within_more c.used (cost price t + 0) (length ls * price) r (omega (arith, cost_tree price ls))
      (within_bind c.used (cost price t) 0 (taken all t c) (λ x. at_end all (unclosed_line t) x) (taken_within t c) (λ x. end_within (unclosed_line t) x))

-- a file that is known has at most so many lines
abbrev pub ShortFiles : ℕ → Source → Type 0
ShortFiles longest known = (p path bytes : List ℕ) (ls : List TextLine) → known p ≡ Some (File bytes) → lines_read path bytes ≡ Ok ls → length ls ≤ longest

within_leave : (u k : ℕ) (e : Env) (r : Result Counted Halt) → Within u k r → Within u k (r >>= (λ x. Ok (counted_outside e x)))
within_leave u k e (Ok x) w = w
within_leave u k e (Err (fault f)) w = tt
within_leave u k e (Err (wants q v)) w = w

within_lines : (longest m : ℕ) (file : List Line → Counted → Result Counted Halt) → ((ls : List Line) (c : Counted) → Within c.used (length ls * m) (file ls c)) → (path : List ℕ) (u : ℕ) (e : Env) (r : Result (List TextLine) Fault) → ((ls : List TextLine) → r ≡ Ok ls → length ls ≤ longest)
    → Within u (longest * m) (saying r >>= (λ lines. file (map (line_at path) lines) (counted_inside path u e) >>= (λ x. Ok (counted_outside e x))))
within_lines longest m file h path u e (Err f) short = tt
within_lines longest m file h path u e (Ok ls) short =
    let same : length (map (line_at path) ls) ≡ length ls = length-map ls (line_at path) in
    let n : length (map (line_at path) ls) * m ≤ longest * m = mul-le-mul_right m (omega (arith, short ls refl, same)) in
    within_leave u (longest * m) e (file (map (line_at path) ls) (counted_inside path u e))
    (within_more u (length (map (line_at path) ls) * m) (longest * m) (file (map (line_at path) ls) (counted_inside path u e)) n (h (map (line_at path) ls) (counted_inside path u e)))

-- of n places fewer are used than there are, where one is wanted
abbrev IsBounded : Located → ℕ → ℕ → Type 0
IsBounded (wanted p) k n = k < n
IsBounded missing k n = k ≤ n
IsBounded (over_limit p) k n = k ≤ n
IsBounded (there p bytes) k n = k ≤ n

bounded_suc : (x : Located) (k n : ℕ) → IsBounded x k n → IsBounded x (1 + k) (suc n)
bounded_suc (wanted p) k n h = omega (arith, h)
bounded_suc missing k n h = omega (arith, h)
bounded_suc (over_limit p) k n h = omega (arith, h)
bounded_suc (there p bytes) k n h = omega (arith, h)

bounded_one : (p : List ℕ) (a : Option Got) (x : Located) (k n : ℕ) → IsBounded x k n → IsBounded (or_located (at_place p a) x) (more_asked a k) (suc n)
bounded_one p None x k n h = omega arith
bounded_one p (Some Absent) x k n h = bounded_suc x k n h
bounded_one p (Some TooLong) x k n h = omega arith
bounded_one p (Some (File bytes)) x k n h = omega arith

bounded_places : (known : Source) (ps : List (List ℕ)) → IsBounded (located known ps) (asked known ps) (length ps)
bounded_places known [] = omega arith
bounded_places known (p ∷ ps) = bounded_one p (known p) (located known ps) (asked known ps) (length ps) (bounded_places known ps)

one_or_none : (b : Bool) (x : List ℕ) → length (cond b (x ∷ []) []) ≤ 1
one_or_none true x = omega arith
one_or_none false x = omega arith

few_in_folder : (o : Option (List ℕ)) (path : List ℕ) → length (in_folder o path) ≤ 1
few_in_folder None path = omega arith
few_in_folder (Some folder) path = one_or_none (nat_le (length folder + 1 + length path) 2048) (folder ++ 47 ∷ path)

few_places : (from path : List ℕ) → length (places from path) ≤ 2
unfolding places
few_places from path = omega (arith, few_in_folder (folder_of from) path)

-- a file that is found is known
there_by : (known : Source) (q : List ℕ) (rest : Located) (p bytes : List ℕ) → (rest ≡ there p bytes → known p ≡ Some (File bytes)) → (a : Option Got) → known q ≡ a → or_located (at_place q a) rest ≡ there p bytes → known p ≡ Some (File bytes)
there_by known q rest p bytes h None is e = cc
there_by known q rest p bytes h (Some TooLong) is e = cc
there_by known q rest p bytes h (Some Absent) is e = h e
there_by known q rest p bytes h (Some (File b)) is e = let same : q ≡ p = cc in let text : b ≡ bytes = cc in ap known (sym same) ∙ is ∙ ap (λ t. Some (File t)) text

there_known : (known : Source) (ps : List (List ℕ)) (p bytes : List ℕ) → located known ps ≡ there p bytes → known p ≡ Some (File bytes)
there_known known [] p bytes e = cc
there_known known (q ∷ ps) p bytes e = there_by known q (located known ps) p bytes (there_known known ps p bytes) (known q) refl e

within_found : (u v m n : ℕ) (enter : List ℕ → List ℕ → Result Counted Halt) (l : Line) (path : List ℕ) (x : Located) (k : ℕ) → v ≡ u + k → n ≤ 2 → IsBounded x k n → ((p bytes : List ℕ) → x ≡ there p bytes → Within v m (enter p bytes)) → Within u (2 + m) (counted_found enter l path v x)
within_found u v m n enter l path (wanted p) k e f b h = omega (arith, e, f, b)
within_found u v m n enter l path missing k e f b h = tt
within_found u v m n enter l path (over_limit p) k e f b h = tt
within_found u v m n enter l path (there p bytes) k e f b h = within_from u 2 m v (enter p bytes) (omega (arith, e, f, b)) (h p bytes refl)

within_at : (m : ℕ) (enter : Enter) (known : Source) → ((path : List ℕ) (v : ℕ) (p bytes : List ℕ) → known p ≡ Some (File bytes) → Within v m (enter path v p bytes)) → (l : Line) (field : List ℕ) (u : ℕ) (o : Option (List ℕ)) → Within u (2 + m) (counted_at enter known l field u o)
within_at m enter known h l field u None = tt
within_at m enter known h l field u (Some path) =
    let ps = places l.at.path path in
    let v : ℕ = u + asked known ps in
    within_found u v m (length ps) (enter path v) l path (located known ps) (asked known ps) refl (few_places l.at.path path) (bounded_places known ps)
    (λ p bytes e. h path v p bytes (there_known known ps p bytes e))

-- a run uses fewer answers than that before a path is wanted
within : (longest : ℕ) (known : Source) → ShortFiles longest known → (fixed : List Macro) (n : ℕ) (l : Line) (c : Counted) → Within c.used (most longest n) (counted known fixed n l c)
unfolding counted most
within longest known short fixed zero l c =
    within_at 0 (λ path v p bytes. Err (fault (fault_at INCLUDE_TOO_DEEP l path))) known (λ path v p bytes e. tt) l (include_field fixed l c.env) c.used (path_field (without_workspace (include_field fixed l c.env)))
within longest known short fixed (suc n) l c =
    let file : List Line → Counted → Result Counted Halt = λ ls x. file_of (counted_acts fixed (counted known fixed n)) ls x in
    within_at (longest * most longest n) (λ path v p bytes. cond (is_open p c.env) (Err (fault (fault_at INCLUDE_LOOP l path))) (counted_opened file p bytes v c.env)) known
    (λ path v p bytes e. either (is_open p c.env) v (longest * most longest n) (Err (fault (fault_at INCLUDE_LOOP l path))) (counted_opened file p bytes v c.env) tt
    (within_lines longest (most longest n) file (file_within fixed (counted known fixed n) (most longest n) (within longest known short fixed n)) p v c.env (lines_read p bytes) (λ ls is. short p p bytes ls e is)))
    l (include_field fixed l c.env) c.used (path_field (without_workspace (include_field fixed l c.env)))

root_within_by : (longest : ℕ) (known : Source) → ShortFiles longest known → (fixed : List Macro) (root : List ℕ) (e : Env) (a : Option Got) → known root ≡ a → Within 0 (1 + longest * most longest 31) (counted_root known fixed root e a)
root_within_by longest known short fixed root e None is = omega arith
root_within_by longest known short fixed root e (Some Absent) is = tt
root_within_by longest known short fixed root e (Some TooLong) is = tt
root_within_by longest known short fixed root e (Some (File bytes)) is =
    let file : List Line → Counted → Result Counted Halt = λ ls x. file_of (counted_acts fixed (counted known fixed 31)) ls x in
    within_from 0 1 (longest * most longest 31) 1 (counted_opened file root bytes 1 e) (omega arith)
    (within_lines longest (most longest 31) file (file_within fixed (counted known fixed 31) (most longest 31) (within longest known short fixed 31)) root 1 e (lines_read root bytes) (λ ls same. short root root bytes ls is same))

pub root_within : (longest : ℕ) (known : Source) → ShortFiles longest known → (fixed : List Macro) (root : List ℕ) (e : Env) → Within 0 (1 + longest * most longest 31) (counted_root known fixed root e (known root))
root_within longest known short fixed root e = root_within_by longest known short fixed root e (known root) refl
