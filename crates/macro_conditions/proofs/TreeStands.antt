-- In the tree of a file's lines each line stands where its kind may stand.
use Rattle.std.proofs.Common.{◌≡◌, Bool, true, false, cond, List, [], ◌∷◌, refl, sym, ◌∙◌, subst}
use Rattle.build_base.specs.declared.lines.Taken.{Taken as Line}
use Rattle.macro_conditions.specs.declared.directive.Directive.{Directive}
use Rattle.macro_conditions.specs.declared.directive.Directive.TheVariants.{Act, If, Elseif, Else, Endif}
use Rattle.macro_conditions.specs.Directives.{kind_of}
use Rattle.macro_conditions.specs.LineTree.{Items, nothing, plain, stray, choice, Branches, unclosed, closed, append, Cut, ended, cut, Gathered, whole, ended_by, gather_last, more, parted_by, gather, before, open_choice, with_line, parsed, strayed, tree_of}
use Rattle.macro_conditions.specs.TreesOfLines.{Standing, outside, branch, last, IsAstray, IsFurther, standing_below, is_open, is_unclosed, Stand, StandBehind, IsTreeOf}
use Rattle.macro_conditions.proofs.TreeWritten.{written_tree}

-- an `!elseif`, an `!else` or an `!endif`
abbrev pub Parts : Directive → Type 0
Parts Act = ⊥
Parts If = ⊥
Parts Elseif = Unit {0}
Parts Else = Unit {0}
Parts Endif = Unit {0}

abbrev IsGood : Cut → Type 0
IsGood (ended t) = Stand branch t
IsGood (cut t k r) = Stand branch t × (is_open t ≡ false) × Parts (kind_of k.text) × IsGood r

record IsGathered (s : Standing) (g : Gathered) : Type 0 where
  pub body : Stand s g.body
  pub ends : is_open g.body ≡ true → g.branches ≡ unclosed
  pub branches : StandBehind s g.branches
  pub over : is_unclosed g.branches ≡ true → g.rest ≡ ended nothing
  pub rest : IsGood g.rest

-- a test that fails doesn't hold
no_way : (b : Bool) → b ≡ false → b ≡ true → ⊥
no_way b e f = absurd (cc)

-- what stands in a branch without a stray line may stand anywhere
widened : (s : Standing) (t : Items) → Stand branch t → Stand s t
widened s nothing h = tt
widened s (plain l t) h = (h.0, widened s t h.1)
widened s (stray l t) h = absurd h.0
widened s (choice l body bs t) h = (h.0, h.1, h.2, h.3, h.4, widened s t h.5)

neither_first : (a b : Bool) → cond a true b ≡ false → a ≡ false
neither_first true b e = e
neither_first false b e = refl

neither_second : (a b : Bool) → cond a true b ≡ false → b ≡ false
neither_second true b e = absurd (cc)
neither_second false b e = e

stand_joined : (s : Standing) (t u : Items) → is_open t ≡ false → Stand s t → Stand s u → Stand s (append t u)
stand_joined s nothing u o h i = i
stand_joined s (plain l t) u o h i = (h.0, stand_joined s t u o h.1 i)
stand_joined s (stray l t) u o h i = (h.0, stand_joined s t u o h.1 i)
stand_joined s (choice l body bs t) u o h i =
    (h.0, h.1, h.2, h.3, (λ e. absurd (no_way (is_unclosed bs) (neither_first (is_unclosed bs) (is_open t) o) e)), stand_joined s t u (neither_second (is_unclosed bs) (is_open t) o) h.5 i)

open_behind : (a b c : Bool) → a ≡ false → b ≡ c → cond a true b ≡ c
open_behind true b c e f = absurd (cc)
open_behind false b c e f = f

open_joined : (t u : Items) → is_open t ≡ false → is_open (append t u) ≡ is_open u
open_joined nothing u o = refl
open_joined (plain l t) u o = open_joined t u o
open_joined (stray l t) u o = open_joined t u o
open_joined (choice l body bs t) u o = open_behind (is_unclosed bs) (is_open (append t u)) (is_open u) (neither_first (is_unclosed bs) (is_open t) o) (open_joined t u (neither_second (is_unclosed bs) (is_open t) o))

good_whole : (s : Standing) (t : Items) → Stand branch t → IsGathered s (whole t)
good_whole s t h = record { body = widened s t h; ends = λ e. refl; branches = tt; over = λ e. refl; rest = tt }

good_closed : (s : Standing) (t : Items) (k : Line) (r : Cut) → Stand branch t → is_open t ≡ false → kind_of k.text ≡ Endif → IsGood r → IsGathered s (record { body = t; branches = closed k; rest = r })
good_closed s t k r h o e g = record {
  body = widened s t h;
  ends = λ f. absurd (no_way (is_open t) o f);
  branches = e;
  over = λ f. absurd (no_way false refl f);
  rest = g;
}

-- a line that belongs to no `!if` in the branch of an `!else`
good_stray : (t : Items) (k : Line) (g : Gathered) → Stand branch t → is_open t ≡ false → IsAstray last (kind_of k.text) → IsGathered last g → IsGathered last (record { body = append t (stray k g.body); branches = g.branches; rest = g.rest })
good_stray t k g h o a i = record {
  body = stand_joined last t (stray k g.body) o (widened last t h) (a, i.body);
  ends = λ e. i.ends (sym (open_joined t (stray k g.body) o) ∙ e);
  branches = i.branches;
  over = i.over;
  rest = i.rest;
}

good_ended_by : (q : Directive) (t : Items) (k : Line) (r : Cut) (g : Gathered) → kind_of k.text ≡ q → Parts q → Stand branch t → is_open t ≡ false → IsGood r → IsGathered last g → IsGathered last (ended_by q t k r g)
good_ended_by Act t k r g e p h o c i = absurd p
good_ended_by If t k r g e p h o c i = absurd p
good_ended_by Elseif t k r g e p h o c i = good_stray t k g h o (subst (IsAstray last) (sym e) tt) i
good_ended_by Else t k r g e p h o c i = good_stray t k g h o (subst (IsAstray last) (sym e) tt) i
good_ended_by Endif t k r g e p h o c i = good_closed last t k r h o e c

good_last : (c : Cut) → IsGood c → IsGathered last (gather_last c)
good_last (ended t) h = good_whole last t h
good_last (cut t k r) h = good_ended_by (kind_of k.text) t k r (gather_last r) refl h.2 h.0 h.1 h.3 (good_last r h.3)

-- a further branch
good_more : (q : Directive) (t : Items) (k : Line) (g : Gathered) → kind_of k.text ≡ q → IsFurther branch q → Stand branch t → is_open t ≡ false → IsGathered (standing_below q) g → IsGathered branch (more t k g)
good_more q t k g e f h o i = record {
  body = h;
  ends = λ d. absurd (no_way (is_open t) o d);
  branches = subst (λ p. IsFurther branch p × Stand (standing_below p) g.body × (is_open g.body ≡ true → g.branches ≡ unclosed) × StandBehind (standing_below p) g.branches) (sym e) (f, i.body, i.ends, i.branches);
  over = i.over;
  rest = i.rest;
}

good_parted_by : (q : Directive) (t : Items) (k : Line) (r : Cut) (g final : Gathered) → kind_of k.text ≡ q → Parts q → Stand branch t → is_open t ≡ false → IsGood r → IsGathered branch g → IsGathered last final → IsGathered branch (parted_by q t k r g final)
good_parted_by Act t k r g final e p h o c i j = absurd p
good_parted_by If t k r g final e p h o c i j = absurd p
good_parted_by Elseif t k r g final e p h o c i j = good_more Elseif t k g e tt h o i
good_parted_by Else t k r g final e p h o c i j = good_more Else t k final e tt h o j
good_parted_by Endif t k r g final e p h o c i j = good_closed branch t k r h o e c

good_gather : (c : Cut) → IsGood c → IsGathered branch (gather c)
good_gather (ended t) h = good_whole branch t h
good_gather (cut t k r) h = good_parted_by (kind_of k.text) t k r (gather r) (gather_last r) refl h.2 h.0 h.1 h.3 (good_gather r h.3) (good_last r h.3)

good_plain : (l : Line) (c : Cut) → kind_of l.text ≡ Act → IsGood c → IsGood (before (plain l) c)
good_plain l (ended t) e h = (e, h)
good_plain l (cut t k r) e h = ((e, h.0), h.1, h.2, h.3)

never_ended : (t : Items) (k : Line) (r : Cut) → cut t k r ≡ ended nothing → ⊥
never_ended t k r e = absurd (cc)

same_items : (t u : Items) → ended t ≡ ended u → t ≡ u
same_items t u e = cc

is_closed : (t : Items) (k : Line) (r : Cut) (b : Bool) → (b ≡ true → cut t k r ≡ ended nothing) → b ≡ false
is_closed t k r true v = absurd (never_ended t k r (v refl))
is_closed t k r false v = refl

good_choice : (l : Line) (body : Items) (bs : Branches) (c : Cut) → kind_of l.text ≡ If → Stand branch body → (is_open body ≡ true → bs ≡ unclosed) → StandBehind branch bs → (is_unclosed bs ≡ true → c ≡ ended nothing) → IsGood c → IsGood (before (choice l body bs) c)
good_choice l body bs (ended t) e b o s v h = (e, b, o, s, (λ d. same_items t nothing (v d)), h)
good_choice l body bs (cut t k r) e b o s v h =
    ((e, b, o, s, (λ d. absurd (never_ended t k r (v d))), h.0), open_behind (is_unclosed bs) (is_open t) false (is_closed t k r (is_unclosed bs) v) h.1, h.2, h.3)

good_opened : (l : Line) (g : Gathered) → kind_of l.text ≡ If → IsGathered branch g → IsGood (open_choice l g)
good_opened l g e h = good_choice l g.body g.branches g.rest e h.body h.ends h.branches h.over h.rest

good_part : (q : Directive) (l : Line) (c : Cut) → kind_of l.text ≡ q → Parts q → IsGood c → IsGood (cut nothing l c)
good_part q l c e p h = (tt, refl, subst Parts (sym e) p, h)

good_line : (q : Directive) (l : Line) (c : Cut) → kind_of l.text ≡ q → IsGood c → IsGood (with_line q l c)
good_line Act l c e h = good_plain l c e h
good_line If l c e h = good_opened l (gather c) e (good_gather c h)
good_line Elseif l c e h = good_part Elseif l c e tt h
good_line Else l c e h = good_part Else l c e tt h
good_line Endif l c e h = good_part Endif l c e tt h

good_parsed : (ls : List Line) → IsGood (parsed ls)
good_parsed [] = tt
good_parsed (l ∷ ls) = good_line (kind_of l.text) l (parsed ls) refl (good_parsed ls)

part_astray : (q : Directive) → Parts q → IsAstray outside q
part_astray Act p = absurd p
part_astray If p = absurd p
part_astray Elseif p = tt
part_astray Else p = tt
part_astray Endif p = tt

stand_strayed : (c : Cut) → IsGood c → Stand outside (strayed c)
stand_strayed (ended t) h = widened outside t h
stand_strayed (cut t k r) h = stand_joined outside t (stray k (strayed r)) h.1 (widened outside t h.0) (part_astray (kind_of k.text) h.2, stand_strayed r h.3)

pub lines_have_tree : (ls : List Line) → IsTreeOf ls (tree_of ls)
unfolding tree_of
lines_have_tree ls = record { whole = written_tree ls; stands = stand_strayed (parsed ls) (good_parsed ls) }
