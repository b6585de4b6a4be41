-- The stack comes to what the tree comes to.
use Rattle.std.proofs.Common.{◌≡◌, Bool, true, false, cond, List, [], ◌∷◌, Some, None, Result, Ok, Err, refl, sym, ap, ◌∙◌}
use Rattle.build_base.specs.declared.lines.Taken.{Taken as Line}
use Rattle.macro_conditions.specs.declared.directive.Directive.{Directive}
use Rattle.macro_conditions.specs.Directives.{kind_of}
use Rattle.macro_conditions.specs.declared.directive.Directive.TheVariants.{Act, If, Elseif, Else, Endif}
use Rattle.macro_conditions.specs.LineTree.{Items, nothing, plain, stray, choice, Branches, unclosed, closed, further, append, Cut, ended, cut, Gathered, whole, ended_by, gather_last, parted_by, gather, before, open_choice, with_line, parsed, strayed, tree_of}
use Rattle.macro_conditions.specs.LineMeaning.{Acts, ◌>>=◌, taken, skipped, passed, chosen, is_unclosed, unclosed_line, at_end, file_of}
use Rattle.macro_conditions.specs.LineStack.{Mode, taking, waiting, passing, Frame, State, is_taking, active, mode_by, frame, open_frame, next_mode, turn_frame, shut, step_by, step, outermost, run}

bind_ok : {A F : Type 0} (r : Result A F) → r >>= (λ x. Ok x) ≡ r
bind_ok (Ok x) = refl
bind_ok (Err f) = refl

bind_assoc : {A B C F : Type 0} (r : Result A F) (f : A → Result B F) (g : B → Result C F) → (r >>= f) >>= g ≡ r >>= (λ x. f x >>= g)
bind_assoc (Ok x) f g = refl
bind_assoc (Err e) f g = refl

bind_same : {A B F : Type 0} (r : Result A F) (f g : A → Result B F) → ((x : A) → f x ≡ g x) → r >>= f ≡ r >>= g
bind_same (Ok x) f g h = h x
bind_same (Err e) f g h = refl

err_stays : {A B C F : Type 0} (r : Result A F) (k : F) (f : A → Result B F) (g : B → Result C F) → ((r >>= (λ x. Err k)) >>= f) >>= g ≡ r >>= (λ x. Err k)
err_stays (Ok x) k f g = refl
err_stays (Err e) k f g = refl

module _ {E F : Type 0} (a : Acts E F) where
  -- items in a branch that is taken, or isn't
  abbrev carried : Bool → Items → E → Result E F
  carried true t e = taken a t e
  carried false t e = skipped a t e

  -- what a directive does that belongs to an `!if` above
  abbrev closes : Directive → List Frame → E → Line → Result (State E) F
  closes Endif fs e k = shut a fs e k
  closes Else fs e k = turn_frame a true fs e k
  closes _ fs e k = turn_frame a false fs e k

  -- what is below some open conditionals comes to
  abbrev under : List Frame → Cut → E → Result E F
  under fs (ended t) e = carried (active fs) t e >>= (λ x. at_end a (outermost fs (unclosed_line t)) x)
  under fs (cut t k r) e = carried (active fs) t e >>= (λ x. closes (kind_of k.text) fs x k >>= (λ s. under s.frames r s.found))

  -- a branch and those after it, by the mode
  abbrev moded : Mode → Items → Branches → E → Result E F
  moded taking b bs e = taken a b e >>= (λ x. passed a bs x)
  moded waiting b bs e = skipped a b e >>= (λ x. chosen a bs x)
  moded passing b bs e = skipped a b e >>= (λ x. passed a bs x)

  -- what follows a conditional
  abbrev follows : Bool → Line → List Frame → Cut → E → Result E F
  follows true l fs r x = at_end a (outermost fs (Some l)) x
  follows false l fs r x = under fs r x

  stray_taken : (t u : Items) (k : Line) (e : E) → taken a (append t (stray k u)) e ≡ taken a t e >>= (λ x. Err (a.unbalanced k))
  stray_taken nothing u k e = refl
  stray_taken (plain l t) u k e = bind_same (a.act l e) (λ x. taken a (append t (stray k u)) x) (λ x. taken a t x >>= (λ y. Err (a.unbalanced k))) (λ x. stray_taken t u k x) ∙ sym (bind_assoc (a.act l e) (λ x. taken a t x) (λ y. Err (a.unbalanced k)))
  stray_taken (stray l t) u k e = refl
  stray_taken (choice l b bs t) u k e =
      let r : Result E F = a.test l e >>= (λ c. cond c (taken a b e >>= (λ x. passed a bs x)) (skipped a b e >>= (λ x. chosen a bs x))) in
      bind_same r (λ x. taken a (append t (stray k u)) x) (λ x. taken a t x >>= (λ y. Err (a.unbalanced k))) (λ x. stray_taken t u k x) ∙ sym (bind_assoc r (λ x. taken a t x) (λ y. Err (a.unbalanced k)))

  stray_skipped : (t u : Items) (k : Line) (e : E) → skipped a (append t (stray k u)) e ≡ skipped a t e >>= (λ x. Err (a.unbalanced k))
  stray_skipped nothing u k e = refl
  stray_skipped (plain l t) u k e = stray_skipped t u k e
  stray_skipped (stray l t) u k e = refl
  stray_skipped (choice l b bs t) u k e =
      let r : Result E F = skipped a b e >>= (λ x. passed a bs x) in
      bind_same r (λ x. skipped a (append t (stray k u)) x) (λ x. skipped a t x >>= (λ y. Err (a.unbalanced k))) (λ x. stray_skipped t u k x) ∙ sym (bind_assoc r (λ x. skipped a t x) (λ y. Err (a.unbalanced k)))

  -- a stray directive ends the branch with its fault, whatever the mode
  stray_moded : (m : Mode) (t u : Items) (k : Line) (bs : Branches) (e : E) (g : E → Result E F) → moded m (append t (stray k u)) bs e >>= g ≡ carried (is_taking m) t e >>= (λ x. Err (a.unbalanced k))
  stray_moded taking t u k bs e g = ap (λ r. (r >>= (λ x. passed a bs x)) >>= g) (stray_taken t u k e) ∙ err_stays (taken a t e) (a.unbalanced k) (λ x. passed a bs x) g
  stray_moded waiting t u k bs e g = ap (λ r. (r >>= (λ x. chosen a bs x)) >>= g) (stray_skipped t u k e) ∙ err_stays (skipped a t e) (a.unbalanced k) (λ x. chosen a bs x) g
  stray_moded passing t u k bs e g = ap (λ r. (r >>= (λ x. passed a bs x)) >>= g) (stray_skipped t u k e) ∙ err_stays (skipped a t e) (a.unbalanced k) (λ x. passed a bs x) g

  moded_end : (m : Mode) (t : Items) (e : E) → moded m t unclosed e ≡ carried (is_taking m) t e
  moded_end taking t e = bind_ok (taken a t e)
  moded_end waiting t e = bind_ok (skipped a t e)
  moded_end passing t e = bind_ok (skipped a t e)

  moded_closed : (m : Mode) (t : Items) (k : Line) (e : E) → moded m t (closed k) e ≡ carried (is_taking m) t e
  moded_closed taking t k e = bind_ok (taken a t e)
  moded_closed waiting t k e = bind_ok (skipped a t e)
  moded_closed passing t k e = bind_ok (skipped a t e)

  abbrev held : Line → Mode → Bool → Frame
  held l m last = record { opener = l; mode = m; last = last }

  -- what is below an `!if`, by what was gathered for it
  abbrev Falls : Bool → Cut → Gathered → Type 0
  Falls last c g = (l : Line) (m : Mode) (fs : List Frame) (e : E) → under (held l m last ∷ fs) c e ≡ moded m g.body g.branches e >>= (λ x. follows (is_unclosed g.branches) l fs g.rest x)

  falls_ended : (last : Bool) (t : Items) → Falls last (ended t) (whole t)
  falls_ended last t l m fs e = ap (λ r. r >>= (λ x. at_end a (outermost fs (Some l)) x)) (sym (moded_end m t e))

  -- the line k after the items t, with the kind as a variable
  abbrev Turns : Bool → Directive → Items → Line → Cut → Gathered → Type 0
  Turns last q t k r g = (l : Line) (m : Mode) (fs : List Frame) (e : E) → carried (is_taking m) t e >>= (λ x. closes q (held l m last ∷ fs) x k >>= (λ s. under s.frames r s.found)) ≡ moded m g.body g.branches e >>= (λ x. follows (is_unclosed g.branches) l fs g.rest x)

  turns_endif : (last : Bool) (t : Items) (k : Line) (r : Cut) → Turns last Endif t k r (record { body = t; branches = closed k; rest = r })
  turns_endif last t k r l m fs e = ap (λ o. o >>= (λ x. under fs r x)) (sym (moded_closed m t k e))

  turns_stray : (t : Items) (k : Line) (g : Gathered) (l : Line) (m : Mode) (fs : List Frame) (e : E) → carried (is_taking m) t e >>= (λ x. Err (a.unbalanced k)) ≡ moded m (append t (stray k g.body)) g.branches e >>= (λ x. follows (is_unclosed g.branches) l fs g.rest x)
  turns_stray t k g l m fs e = sym (stray_moded m t g.body k g.branches e (λ x. follows (is_unclosed g.branches) l fs g.rest x))

  last_by : (q : Directive) (t : Items) (k : Line) (r : Cut) (g : Gathered) → Turns true q t k r (ended_by q t k r g)
  last_by Endif t k r g = turns_endif true t k r
  last_by Else t k r g = turns_stray t k g
  last_by Elseif t k r g = turns_stray t k g
  last_by If t k r g = turns_stray t k g
  last_by Act t k r g = turns_stray t k g

  falls_last : (c : Cut) → Falls true c (gather_last c)
  falls_last (ended t) = falls_ended true t
  falls_last (cut t k r) = last_by (kind_of k.text) t k r (gather_last r)

  moded_by : (c : Bool) (b : Items) (bs : Branches) (x : E) → moded (mode_by c) b bs x ≡ cond c (taken a b x >>= (λ y. passed a bs y)) (skipped a b x >>= (λ y. chosen a bs y))
  moded_by true b bs x = refl
  moded_by false b bs x = refl

  -- one branch more
  further_by : (m : Mode) (t : Items) (k : Line) (b : Items) (bs : Branches) (e : E) (f : E → Result E F) → carried (is_taking m) t e >>= (λ x. next_mode a m k x >>= (λ n. moded n b bs x >>= f)) ≡ moded m t (further k b bs) e >>= f
  further_by taking t k b bs e f = sym (bind_assoc (taken a t e) (λ x. moded passing b bs x) f)
  further_by passing t k b bs e f = sym (bind_assoc (skipped a t e) (λ x. moded passing b bs x) f)
  further_by waiting t k b bs e f =
      bind_same (skipped a t e) (λ x. (a.test k x >>= (λ c. Ok (mode_by c))) >>= (λ n. moded n b bs x >>= f)) (λ x. chosen a (further k b bs) x >>= f)
      (λ x. bind_assoc (a.test k x) (λ c. Ok (mode_by c)) (λ n. moded n b bs x >>= f)
      ∙ bind_same (a.test k x) (λ c. moded (mode_by c) b bs x >>= f) (λ c. cond c (taken a b x >>= (λ y. passed a bs y)) (skipped a b x >>= (λ y. chosen a bs y)) >>= f) (λ c. ap (λ r. r >>= f) (moded_by c b bs x))
      ∙ sym (bind_assoc (a.test k x) (λ c. cond c (taken a b x >>= (λ y. passed a bs y)) (skipped a b x >>= (λ y. chosen a bs y))) f))
      ∙ sym (bind_assoc (skipped a t e) (λ x. chosen a (further k b bs) x) f)

  abbrev stated : Line → Bool → List Frame → E → Mode → Result (State E) F
  stated l last fs x n = Ok (record { frames = held l n last ∷ fs; found = x })

  turns_more : (last : Bool) (t : Items) (k : Line) (r : Cut) (g : Gathered) → Falls last r g → (l : Line) (m : Mode) (fs : List Frame) (e : E) → carried (is_taking m) t e >>= (λ x. (next_mode a m k x >>= (stated l last fs x)) >>= (λ s. under s.frames r s.found)) ≡ moded m t (further k g.body g.branches) e >>= (λ x. follows (is_unclosed g.branches) l fs g.rest x)
  turns_more last t k r g falls l m fs e =
      bind_same (carried (is_taking m) t e) (λ x. (next_mode a m k x >>= (stated l last fs x)) >>= (λ s. under s.frames r s.found)) (λ x. next_mode a m k x >>= (λ n. moded n g.body g.branches x >>= (λ y. follows (is_unclosed g.branches) l fs g.rest y)))
      (λ x. bind_assoc (next_mode a m k x) (stated l last fs x) (λ s. under s.frames r s.found)
      ∙ bind_same (next_mode a m k x) (λ n. under (held l n last ∷ fs) r x) (λ n. moded n g.body g.branches x >>= (λ y. follows (is_unclosed g.branches) l fs g.rest y)) (λ n. falls l n fs x))
      ∙ further_by m t k g.body g.branches e (λ y. follows (is_unclosed g.branches) l fs g.rest y)

  parts_by : (q : Directive) (t : Items) (k : Line) (r : Cut) (g last : Gathered) → Falls false r g → Falls true r last → Turns false q t k r (parted_by q t k r g last)
  parts_by Endif t k r g last f h = turns_endif false t k r
  parts_by Else t k r g last f h = turns_more true t k r last h
  parts_by Elseif t k r g last f h = turns_more false t k r g f
  parts_by If t k r g last f h = turns_more false t k r g f
  parts_by Act t k r g last f h = turns_more false t k r g f

  falls : (c : Cut) → Falls false c (gather c)
  falls (ended t) = falls_ended false t
  falls (cut t k r) = parts_by (kind_of k.text) t k r (gather r) (gather_last r) (falls r) (falls_last r)

  -- an `!if` that is open at the end has nothing below its conditional
  abbrev Ends : Gathered → Type 0
  Ends g = is_unclosed g.branches ≡ true → g.rest ≡ ended nothing

  ends_last : (q : Directive) (t : Items) (k : Line) (r : Cut) (g : Gathered) → Ends g → Ends (ended_by q t k r g)
  ends_last Endif t k r g h = λ e. cc
  ends_last Else t k r g h = h
  ends_last Elseif t k r g h = h
  ends_last If t k r g h = h
  ends_last Act t k r g h = h

  unclosed_last : (c : Cut) → Ends (gather_last c)
  unclosed_last (ended t) = λ e. refl
  unclosed_last (cut t k r) = ends_last (kind_of k.text) t k r (gather_last r) (unclosed_last r)

  ends_more : (q : Directive) (t : Items) (k : Line) (r : Cut) (g last : Gathered) → Ends g → Ends last → Ends (parted_by q t k r g last)
  ends_more Endif t k r g last h i = λ e. cc
  ends_more Else t k r g last h i = i
  ends_more Elseif t k r g last h i = h
  ends_more If t k r g last h i = h
  ends_more Act t k r g last h i = h

  unclosed_rest : (c : Cut) → Ends (gather c)
  unclosed_rest (ended t) = λ e. refl
  unclosed_rest (cut t k r) = ends_more (kind_of k.text) t k r (gather r) (gather_last r) (unclosed_rest r) (unclosed_last r)

  -- a whole conditional, in a branch that is taken a or isn't
  abbrev chosen_by : Bool → Line → Items → Branches → E → Result E F
  chosen_by true l b bs e = a.test l e >>= (λ c. moded (mode_by c) b bs e)
  chosen_by false l b bs e = moded passing b bs e

  choice_carried : (act : Bool) (l : Line) (b : Items) (bs : Branches) (t : Items) (e : E) → carried act (choice l b bs t) e ≡ chosen_by act l b bs e >>= (λ x. carried act t x)
  choice_carried true l b bs t e = ap (λ (r : Result E F). r >>= (λ x. taken a t x)) (bind_same (a.test l e) (λ c. cond c (taken a b e >>= (λ x. passed a bs x)) (skipped a b e >>= (λ x. chosen a bs x))) (λ c. moded (mode_by c) b bs e) (λ c. sym (moded_by c b bs e)))
  choice_carried false l b bs t e = refl

  carried_nothing : (act : Bool) (x : E) → carried act nothing x ≡ Ok x
  carried_nothing true x = refl
  carried_nothing false x = refl

  items_of_end : (t u : Items) → ended t ≡ ended u → t ≡ u
  items_of_end t u e = cc

  -- the conditional, and then what follows it
  by_rest : (u : Bool) (l : Line) (fs : List Frame) (b : Items) (bs : Branches) (r : Cut) (e : E) → is_unclosed bs ≡ u → (is_unclosed bs ≡ true → r ≡ ended nothing) → under fs (before (choice l b bs) r) e ≡ chosen_by (active fs) l b bs e >>= (λ x. follows u l fs r x)
  by_rest false l fs b bs (ended t) e is ends =
      let end : Bool → E → Result E F = λ v x. at_end a (outermost fs (cond v (Some l) (unclosed_line t))) x in
      ap (λ v. carried (active fs) (choice l b bs t) e >>= (λ x. end v x)) is
      ∙ ap (λ r. r >>= (λ x. end false x)) (choice_carried (active fs) l b bs t e)
      ∙ bind_assoc (chosen_by (active fs) l b bs e) (λ x. carried (active fs) t x) (λ x. end false x)
  by_rest true l fs b bs (ended t) e is ends =
      let end : Bool → E → Result E F = λ v x. at_end a (outermost fs (cond v (Some l) (unclosed_line t))) x in
      let none : t ≡ nothing = items_of_end t nothing (ends is) in
      ap (λ v. carried (active fs) (choice l b bs t) e >>= (λ x. end v x)) is
      ∙ ap (λ r. r >>= (λ x. end true x)) (choice_carried (active fs) l b bs t e)
      ∙ bind_assoc (chosen_by (active fs) l b bs e) (λ x. carried (active fs) t x) (λ x. end true x)
      ∙ bind_same (chosen_by (active fs) l b bs e) (λ x. carried (active fs) t x >>= (λ y. end true y)) (λ x. end true x) (λ x. ap (λ u. carried (active fs) u x >>= (λ y. end true y)) none ∙ ap (λ r. r >>= (λ y. end true y)) (carried_nothing (active fs) x))
  by_rest false l fs b bs (cut t k r) e is ends =
      let go : E → Result E F = λ x. closes (kind_of k.text) fs x k >>= (λ s. under s.frames r s.found) in
      ap (λ r. r >>= (λ x. go x)) (choice_carried (active fs) l b bs t e) ∙ bind_assoc (chosen_by (active fs) l b bs e) (λ x. carried (active fs) t x) (λ x. go x)
  by_rest true l fs b bs (cut t k r) e is ends = absurd (not_ended t k r (ends is))
    where
      not_ended : (t : Items) (k : Line) (r : Cut) → cut t k r ≡ ended nothing → ⊥
      not_ended t k r h = cc

  choice_under : (l : Line) (fs : List Frame) (g : Gathered) (e : E) → Ends g → under fs (open_choice l g) e ≡ chosen_by (active fs) l g.body g.branches e >>= (λ x. follows (is_unclosed g.branches) l fs g.rest x)
  choice_under l fs g e ends = by_rest (is_unclosed g.branches) l fs g.body g.branches g.rest e refl ends

  abbrev go_on : Cut → State E → Result E F
  go_on c s = under s.frames c s.found

  -- an `!if`
  if_step : (act : Bool) (l : Line) (fs : List Frame) (e : E) (c : Cut) → active fs ≡ act → open_frame a fs l e >>= (λ m. go_on c (record { frames = frame l m ∷ fs; found = e })) ≡ chosen_by act l (gather c).body (gather c).branches e >>= (λ x. follows (is_unclosed (gather c).branches) l fs (gather c).rest x)
  if_step true l fs e c is =
      let g = gather c in
      let f : E → Result E F = λ x. follows (is_unclosed g.branches) l fs g.rest x in
      ap (λ on. cond on (a.test l e >>= (λ b. Ok (mode_by b))) (Ok passing) >>= (λ m. go_on c (record { frames = frame l m ∷ fs; found = e }))) is
      ∙ bind_assoc (a.test l e) (λ b. Ok (mode_by b)) (λ m. go_on c (record { frames = frame l m ∷ fs; found = e }))
      ∙ bind_same (a.test l e) (λ b. under (frame l (mode_by b) ∷ fs) c e) (λ b. moded (mode_by b) g.body g.branches e >>= f) (λ b. falls c l (mode_by b) fs e)
      ∙ sym (bind_assoc (a.test l e) (λ b. moded (mode_by b) g.body g.branches e) f)
  if_step false l fs e c is =
      ap (λ on. cond on (a.test l e >>= (λ b. Ok (mode_by b))) (Ok passing) >>= (λ m. go_on c (record { frames = frame l m ∷ fs; found = e }))) is ∙ falls c l passing fs e

  -- a plain line
  plain_step : (on : Bool) (l : Line) (t : Items) (e : E) (f : E → Result E F) → cond on (a.act l e) (Ok e) >>= (λ x. carried on t x >>= f) ≡ carried on (plain l t) e >>= f
  plain_step true l t e f = sym (bind_assoc (a.act l e) (λ x. taken a t x) f)
  plain_step false l t e f = refl

  stay_step : (on : Bool) (r : Result E F) (fs : List Frame) (e : E) (c : Cut) → cond on (r >>= (λ x. Ok (record { frames = fs; found = x }))) (Ok (record { frames = fs; found = e })) >>= (λ s. go_on c s) ≡ cond on r (Ok e) >>= (λ x. under fs c x)
  stay_step true r fs e c = bind_assoc r (λ x. Ok (record { frames = fs; found = x })) (λ s. go_on c s)
  stay_step false r fs e c = refl

  plain_under : (l : Line) (fs : List Frame) (e : E) (c : Cut) → cond (active fs) (a.act l e) (Ok e) >>= (λ x. under fs c x) ≡ under fs (before (plain l) c) e
  plain_under l fs e (ended t) = plain_step (active fs) l t e (λ x. at_end a (outermost fs (unclosed_line t)) x)
  plain_under l fs e (cut t k r) = plain_step (active fs) l t e (λ x. closes (kind_of k.text) fs x k >>= (λ s. under s.frames r s.found))

  closer_under : (l : Line) (fs : List Frame) (e : E) (c : Cut) (q : Directive) → q ≡ (kind_of l.text) → closes q fs e l >>= (λ s. go_on c s) ≡ under fs (cut nothing l c) e
  closer_under l fs e c q is = ap (λ k. closes k fs e l >>= (λ s. go_on c s)) is ∙ ap (λ r. r >>= (λ x. closes (kind_of l.text) fs x l >>= (λ s. go_on c s))) (sym (carried_nothing (active fs) e))

  one_step : (q : Directive) (l : Line) (fs : List Frame) (e : E) (c : Cut) → q ≡ (kind_of l.text) → step_by a q fs e l >>= (λ s. go_on c s) ≡ under fs (with_line q l c) e
  one_step Act l fs e c is = stay_step (active fs) (a.act l e) fs e c ∙ plain_under l fs e c
  one_step If l fs e c is =
      bind_assoc (open_frame a fs l e) (λ m. opened_state fs e l m) (λ s. go_on c s) ∙ if_step (active fs) l fs e c refl ∙ sym (choice_under l fs (gather c) e (unclosed_rest c))
    where
      opened_state : List Frame → E → Line → Mode → Result (State E) F
      opened_state fs e l m = Ok (record { frames = frame l m ∷ fs; found = e })
  one_step Elseif l fs e c is = closer_under l fs e c Elseif is
  one_step Else l fs e c is = closer_under l fs e c Else is
  one_step Endif l fs e c is = closer_under l fs e c Endif is

  pub run_err : (f : F) (ls : List Line) → run a (Err f) ls ≡ Err f
  unfolding run
  run_err f [] = refl
  run_err f (l ∷ ls) = run_err f ls

  run_bind : (r : Result (State E) F) (ls : List Line) → run a r ls ≡ r >>= (λ s. run a (Ok s) ls)
  run_bind (Ok s) ls = refl
  run_bind (Err f) ls = run_err f ls

  runs : (ls : List Line) (s : State E) → run a (Ok s) ls ≡ go_on (parsed ls) s
  unfolding run
  runs [] s = ap (λ r. r >>= (λ x. at_end a (outermost s.frames None) x)) (sym (carried_nothing (active s.frames) s.found))
  runs (l ∷ ls) s = run_bind (step a s l) ls ∙ bind_same (step a s l) (λ n. run a (Ok n) ls) (λ n. go_on (parsed ls) n) (λ n. runs ls n) ∙ one_step (kind_of l.text) l s.frames s.found (parsed ls) refl

  closes_none : (q : Directive) (k : Line) (x : E) → closes q [] x k ≡ Err (a.unbalanced k)
  closes_none Endif k x = refl
  closes_none Else k x = refl
  closes_none Elseif k x = refl
  closes_none If k x = refl
  closes_none Act k x = refl

  at_top : (c : Cut) (e : E) → under [] c e ≡ taken a (strayed c) e >>= (λ x. at_end a (unclosed_line (strayed c)) x)
  at_top (ended t) e = refl
  at_top (cut t k r) e =
      let end : E → Result E F = λ x. at_end a (unclosed_line (append t (stray k (strayed r)))) x in
      bind_same (taken a t e) (λ x. closes (kind_of k.text) [] x k >>= (λ s. go_on r s)) (λ x. Err (a.unbalanced k)) (λ x. ap (λ o. o >>= (λ s. go_on r s)) (closes_none (kind_of k.text) k x))
      ∙ sym (ap (λ o. o >>= end) (stray_taken t (strayed r) k e) ∙ bind_assoc (taken a t e) (λ x. Err (a.unbalanced k)) end)

  -- the stack comes to what the tree comes to
  pub same : (ls : List Line) (e : E) → run a (Ok (record { frames = []; found = e })) ls ≡ file_of a ls e
  unfolding file_of tree_of
  same ls e = runs ls (record { frames = []; found = e }) ∙ at_top (parsed ls) e
