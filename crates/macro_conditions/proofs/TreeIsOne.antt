-- Lines have one tree: what is found of a tree that is written out is that tree.
use Rattle.std.proofs.Common.{◌≡◌, Bool, true, false, cond, List, [], ◌++◌, append_assoc, append-nil, refl, sym, ◌∙◌, ap}
use Rattle.build_base.specs.declared.lines.Taken.{Taken as Line}
use Rattle.macro_conditions.specs.declared.directive.Directive.{Directive}
use Rattle.macro_conditions.specs.declared.directive.Directive.TheVariants.{Act, If, Elseif, Else, Endif}
use Rattle.macro_conditions.specs.Directives.{kind_of}
use Rattle.macro_conditions.specs.LineTree.{Items, nothing, plain, stray, choice, Branches, unclosed, closed, further, written, written_branches, Cut, ended, cut, Gathered, ended_by, gather_last, more, parted_by, gather, before, open_choice, with_line, parsed, strayed, tree_of}
use Rattle.macro_conditions.specs.TreesOfLines.{Standing, outside, branch, last, IsAstray, IsFurther, standing_below, is_open, is_unclosed, Stand, StandBehind, IsTreeOf}

-- what items make of what is behind them
abbrev at : Items → Cut → Cut
at nothing c = c
at (plain l t) c = before (plain l) (at t c)
at (stray l t) c = cut nothing l (at t c)
at (choice l body bs t) c = before (choice l body bs) (at t c)

-- what belongs to a branch
abbrev gathered_in : Standing → Cut → Gathered
gathered_in outside c = gather c
gathered_in branch c = gather c
gathered_in last c = gather_last c

abbrev with_body : Items → Branches → Cut → Gathered
with_body t bs r = record { body = t; branches = bs; rest = r }

parted_plain : (q : Directive) (l : Line) (t : Items) (k : Line) (r : Cut) (g final : Gathered) → parted_by q (plain l t) k r g final ≡ with_body (plain l (parted_by q t k r g final).body) (parted_by q t k r g final).branches (parted_by q t k r g final).rest
parted_plain Act l t k r g final = refl
parted_plain If l t k r g final = refl
parted_plain Elseif l t k r g final = refl
parted_plain Else l t k r g final = refl
parted_plain Endif l t k r g final = refl

parted_choice : (q : Directive) (l : Line) (b : Items) (cs : Branches) (t : Items) (k : Line) (r : Cut) (g final : Gathered) → parted_by q (choice l b cs t) k r g final ≡ with_body (choice l b cs (parted_by q t k r g final).body) (parted_by q t k r g final).branches (parted_by q t k r g final).rest
parted_choice Act l b cs t k r g final = refl
parted_choice If l b cs t k r g final = refl
parted_choice Elseif l b cs t k r g final = refl
parted_choice Else l b cs t k r g final = refl
parted_choice Endif l b cs t k r g final = refl

ended_plain : (q : Directive) (l : Line) (t : Items) (k : Line) (r : Cut) (g : Gathered) → ended_by q (plain l t) k r g ≡ with_body (plain l (ended_by q t k r g).body) (ended_by q t k r g).branches (ended_by q t k r g).rest
ended_plain Act l t k r g = refl
ended_plain If l t k r g = refl
ended_plain Elseif l t k r g = refl
ended_plain Else l t k r g = refl
ended_plain Endif l t k r g = refl

ended_choice : (q : Directive) (l : Line) (b : Items) (cs : Branches) (t : Items) (k : Line) (r : Cut) (g : Gathered) → ended_by q (choice l b cs t) k r g ≡ with_body (choice l b cs (ended_by q t k r g).body) (ended_by q t k r g).branches (ended_by q t k r g).rest
ended_choice Act l b cs t k r g = refl
ended_choice If l b cs t k r g = refl
ended_choice Elseif l b cs t k r g = refl
ended_choice Else l b cs t k r g = refl
ended_choice Endif l b cs t k r g = refl

gather_plain : (l : Line) (c : Cut) → gather (before (plain l) c) ≡ with_body (plain l (gather c).body) (gather c).branches (gather c).rest
gather_plain l (ended t) = refl
gather_plain l (cut t k r) = parted_plain (kind_of k.text) l t k r (gather r) (gather_last r)

last_plain : (l : Line) (c : Cut) → gather_last (before (plain l) c) ≡ with_body (plain l (gather_last c).body) (gather_last c).branches (gather_last c).rest
last_plain l (ended t) = refl
last_plain l (cut t k r) = ended_plain (kind_of k.text) l t k r (gather_last r)

gather_choice : (l : Line) (b : Items) (cs : Branches) (c : Cut) → gather (before (choice l b cs) c) ≡ with_body (choice l b cs (gather c).body) (gather c).branches (gather c).rest
gather_choice l b cs (ended t) = refl
gather_choice l b cs (cut t k r) = parted_choice (kind_of k.text) l b cs t k r (gather r) (gather_last r)

last_choice : (l : Line) (b : Items) (cs : Branches) (c : Cut) → gather_last (before (choice l b cs) c) ≡ with_body (choice l b cs (gather_last c).body) (gather_last c).branches (gather_last c).rest
last_choice l b cs (ended t) = refl
last_choice l b cs (cut t k r) = ended_choice (kind_of k.text) l b cs t k r (gather_last r)

in_plain : (s : Standing) (l : Line) (c : Cut) → gathered_in s (before (plain l) c) ≡ with_body (plain l (gathered_in s c).body) (gathered_in s c).branches (gathered_in s c).rest
in_plain outside l c = gather_plain l c
in_plain branch l c = gather_plain l c
in_plain last l c = last_plain l c

in_choice : (s : Standing) (l : Line) (b : Items) (cs : Branches) (c : Cut) → gathered_in s (before (choice l b cs) c) ≡ with_body (choice l b cs (gathered_in s c).body) (gathered_in s c).branches (gathered_in s c).rest
in_choice outside l b cs c = gather_choice l b cs c
in_choice branch l b cs c = gather_choice l b cs c
in_choice last l b cs c = last_choice l b cs c

-- whether something stands in a branch
abbrev IsWithin : Standing → Type 0
IsWithin outside = ⊥
IsWithin branch = Unit {0}
IsWithin last = Unit {0}

stray_ended : (q : Directive) (l : Line) (c : Cut) (g : Gathered) → IsAstray last q → ended_by q nothing l c g ≡ with_body (stray l g.body) g.branches g.rest
stray_ended Act l c g a = absurd a
stray_ended If l c g a = absurd a
stray_ended Elseif l c g a = refl
stray_ended Else l c g a = refl
stray_ended Endif l c g a = absurd a

in_stray : (s : Standing) (l : Line) (c : Cut) → IsWithin s → IsAstray s (kind_of l.text) → gathered_in s (cut nothing l c) ≡ with_body (stray l (gathered_in s c).body) (gathered_in s c).branches (gathered_in s c).rest
in_stray outside l c w a = absurd w
in_stray branch l c w a = absurd a
in_stray last l c w a = stray_ended (kind_of l.text) l c (gather_last c) a

-- items in front of a branch's end are its body
in_body : (s : Standing) (t : Items) (c : Cut) (bs : Branches) (r : Cut) → IsWithin s → Stand s t → gathered_in s c ≡ with_body nothing bs r → gathered_in s (at t c) ≡ with_body t bs r
in_body s nothing c bs r w h e = e
in_body s (plain l t) c bs r w h e = in_plain s l (at t c) ∙ ap (λ (g : Gathered). with_body (plain l g.body) g.branches g.rest) (in_body s t c bs r w h.1 e)
in_body s (stray l t) c bs r w h e = in_stray s l (at t c) w h.0 ∙ ap (λ (g : Gathered). with_body (stray l g.body) g.branches g.rest) (in_body s t c bs r w h.1 e)
in_body s (choice l b cs t) c bs r w h e = in_choice s l b cs (at t c) ∙ ap (λ (g : Gathered). with_body (choice l b cs g.body) g.branches g.rest) (in_body s t c bs r w h.5 e)

never_plain : (s : Standing) → IsAstray s Act → ⊥
never_plain outside a = a
never_plain branch a = a
never_plain last a = a

never_if : (s : Standing) → IsAstray s If → ⊥
never_if outside a = a
never_if branch a = a
never_if last a = a

stray_line : (s : Standing) (q : Directive) (l : Line) (c : Cut) → IsAstray s q → with_line q l c ≡ cut nothing l c
stray_line s Act l c a = absurd (never_plain s a)
stray_line s If l c a = absurd (never_if s a)
stray_line s Elseif l c a = refl
stray_line s Else l c a = refl
stray_line s Endif l c a = refl

-- a further branch of a conditional
further_line : (q : Directive) (l : Line) (body : Items) (bs : Branches) (c r : Cut) → IsFurther branch q → gathered_in (standing_below q) c ≡ with_body body bs r → gather (with_line q l c) ≡ parted_by (kind_of l.text) nothing l c (gather c) (gather_last c)
further_line Act l body bs c r f e = absurd f
further_line If l body bs c r f e = absurd f
further_line Elseif l body bs c r f e = refl
further_line Else l body bs c r f e = refl
further_line Endif l body bs c r f e = absurd f

further_parted : (q : Directive) (l : Line) (body : Items) (bs : Branches) (c r : Cut) → IsFurther branch q → gathered_in (standing_below q) c ≡ with_body body bs r → parted_by q nothing l c (gather c) (gather_last c) ≡ with_body nothing (further l body bs) r
further_parted Act l body bs c r f e = absurd f
further_parted If l body bs c r f e = absurd f
further_parted Elseif l body bs c r f e = ap (more nothing l) e
further_parted Else l body bs c r f e = ap (more nothing l) e
further_parted Endif l body bs c r f e = absurd f

within_below : (q : Directive) → IsWithin (standing_below q)
within_below Act = tt
within_below If = tt
within_below Elseif = tt
within_below Else = tt
within_below Endif = tt

closed_branch : (s : Standing) (l : Line) (c : Cut) → IsWithin s → kind_of l.text ≡ Endif → gathered_in s (cut nothing l c) ≡ with_body nothing (closed l) c
closed_branch outside l c w e = absurd w
closed_branch branch l c w e = ap (λ q. parted_by q nothing l c (gather c) (gather_last c)) e
closed_branch last l c w e = ap (λ q. ended_by q nothing l c (gather_last c)) e

ended_branch : (s : Standing) → gathered_in s (ended nothing) ≡ with_body nothing unclosed (ended nothing)
ended_branch outside = refl
ended_branch branch = refl
ended_branch last = refl

-- nothing stands behind what the file ends in
nothing_behind : (bs : Branches) (ls : List Line) → bs ≡ unclosed → (is_unclosed bs ≡ true → ls ≡ []) → written_branches bs ++ ls ≡ []
nothing_behind bs ls e f = ap (λ b. written_branches b ++ ls) e ∙ f (ap is_unclosed e)

written_none : (t : Items) (ls : List Line) → t ≡ nothing → ls ≡ [] → written t ++ ls ≡ []
written_none t ls e f = ap (λ u. written u ++ ls) e ∙ f

either_first : (a b : Bool) → a ≡ true → cond a true b ≡ true
either_first true b e = refl
either_first false b e = absurd (cc)

either_second : (a b : Bool) → b ≡ true → cond a true b ≡ true
either_second true b e = refl
either_second false b e = e

-- a branch and those behind it are gathered from their lines
branch_of : (s : Standing) (body : Items) (bs : Branches) (ls : List Line) → IsWithin s → Stand s body → parsed (written body ++ (written_branches bs ++ ls)) ≡ at body (parsed (written_branches bs ++ ls)) → gathered_in s (parsed (written_branches bs ++ ls)) ≡ with_body nothing bs (parsed ls) → gathered_in s (parsed (written body ++ (written_branches bs ++ ls))) ≡ with_body body bs (parsed ls)
branch_of s body bs ls w h p g = ap (gathered_in s) p ∙ in_body s body (parsed (written_branches bs ++ ls)) bs (parsed ls) w h g

further_branch : (l : Line) (body : Items) (bs : Branches) (ls : List Line) → IsFurther branch (kind_of l.text) → gathered_in (standing_below (kind_of l.text)) (parsed (written body ++ (written_branches bs ++ ls))) ≡ with_body body bs (parsed ls) → gather (parsed (written_branches (further l body bs) ++ ls)) ≡ with_body nothing (further l body bs) (parsed ls)
further_branch l body bs ls f g =
    ap (λ xs. gather (with_line (kind_of l.text) l (parsed xs))) (append_assoc (written body) (written_branches bs) ls)
    ∙ further_line (kind_of l.text) l body bs (parsed (written body ++ (written_branches bs ++ ls))) (parsed ls) f g
    ∙ further_parted (kind_of l.text) l body bs (parsed (written body ++ (written_branches bs ++ ls))) (parsed ls) f g

choice_of : (l : Line) (body : Items) (bs : Branches) (t : Items) (ls : List Line) → kind_of l.text ≡ If → gather (parsed (written body ++ (written_branches bs ++ (written t ++ ls)))) ≡ with_body body bs (parsed (written t ++ ls)) → parsed (written t ++ ls) ≡ at t (parsed ls) → parsed (written (choice l body bs t) ++ ls) ≡ at (choice l body bs t) (parsed ls)
choice_of l body bs t ls e g p =
    ap (λ xs. with_line (kind_of l.text) l (parsed xs)) (append_assoc (written body) (written_branches bs ++ written t) ls ∙ ap (λ xs. written body ++ xs) (append_assoc (written_branches bs) (written t) ls))
    ∙ ap (λ q. with_line q l (parsed (written body ++ (written_branches bs ++ (written t ++ ls))))) e
    ∙ ap (open_choice l) g
    ∙ ap (before (choice l body bs)) p

mutual
  -- the lines of items are cut as the items say
  parsed_items : (s : Standing) (t : Items) (ls : List Line) → Stand s t → (is_open t ≡ true → ls ≡ []) → parsed (written t ++ ls) ≡ at t (parsed ls)
  parsed_items s nothing ls h o = refl
  parsed_items s (plain l t) ls h o = ap (λ q. with_line q l (parsed (written t ++ ls))) h.0 ∙ ap (before (plain l)) (parsed_items s t ls h.1 o)
  parsed_items s (stray l t) ls h o = stray_line s (kind_of l.text) l (parsed (written t ++ ls)) h.0 ∙ ap (cut nothing l) (parsed_items s t ls h.1 o)
  parsed_items s (choice l body bs t) ls h o =
      choice_of l body bs t ls h.0
      (branch_of branch body bs (written t ++ ls) tt h.1
      (parsed_items branch body (written_branches bs ++ (written t ++ ls)) h.1 (λ d. nothing_behind bs (written t ++ ls) (h.2 d) (λ e. written_none t ls (h.4 e) (o (either_first (is_unclosed bs) (is_open t) e)))))
      (parsed_branches branch bs (written t ++ ls) tt h.3 (λ e. written_none t ls (h.4 e) (o (either_first (is_unclosed bs) (is_open t) e)))))
      (parsed_items s t ls h.5 (λ e. o (either_second (is_unclosed bs) (is_open t) e)))

  parsed_branches : (s : Standing) (bs : Branches) (ls : List Line) → IsWithin s → StandBehind s bs → (is_unclosed bs ≡ true → ls ≡ []) → gathered_in s (parsed (written_branches bs ++ ls)) ≡ with_body nothing bs (parsed ls)
  parsed_branches s unclosed ls w b e =
      ap (λ xs. gathered_in s (parsed xs)) (e refl) ∙ ended_branch s ∙ ap (λ xs. with_body nothing unclosed (parsed xs)) (sym (e refl))
  parsed_branches s (closed l) ls w b e =
      ap (λ q. gathered_in s (with_line q l (parsed ls))) b ∙ closed_branch s l (parsed ls) w b
  parsed_branches outside (further l body bs) ls w b e = absurd w
  parsed_branches last (further l body bs) ls w b e = absurd b.0
  parsed_branches branch (further l body bs) ls w b e =
      further_branch l body bs ls b.0
      (branch_of (standing_below (kind_of l.text)) body bs ls (within_below (kind_of l.text)) b.1
      (parsed_items (standing_below (kind_of l.text)) body (written_branches bs ++ ls) b.1 (λ d. nothing_behind bs ls (b.2 d) e))
      (parsed_branches (standing_below (kind_of l.text)) bs ls (within_below (kind_of l.text)) b.3 e))

strayed_plain : (l : Line) (c : Cut) → strayed (before (plain l) c) ≡ plain l (strayed c)
strayed_plain l (ended t) = refl
strayed_plain l (cut t k r) = refl

strayed_choice : (l : Line) (b : Items) (bs : Branches) (c : Cut) → strayed (before (choice l b bs) c) ≡ choice l b bs (strayed c)
strayed_choice l b bs (ended t) = refl
strayed_choice l b bs (cut t k r) = refl

strayed_items : (t : Items) → strayed (at t (ended nothing)) ≡ t
strayed_items nothing = refl
strayed_items (plain l t) = strayed_plain l (at t (ended nothing)) ∙ ap (plain l) (strayed_items t)
strayed_items (stray l t) = ap (stray l) (strayed_items t)
strayed_items (choice l b bs t) = strayed_choice l b bs (at t (ended nothing)) ∙ ap (choice l b bs) (strayed_items t)

pub lines_have_one_tree : (ls : List Line) (t : Items) → IsTreeOf ls t → t ≡ tree_of ls
unfolding tree_of
lines_have_one_tree ls t h =
    sym (strayed_items t)
    ∙ ap strayed (sym (parsed_items outside t [] h.stands (λ e. refl)))
    ∙ ap (λ xs. strayed (parsed xs)) (append-nil (written t) ∙ h.whole)
