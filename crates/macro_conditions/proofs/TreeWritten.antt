-- The items of the tree, written out, are the lines.
use Rattle.std.proofs.Common.{◌≡◌, List, [], ◌∷◌, ◌++◌, append_assoc, append-nil, refl, ap, ◌∙◌}
use Rattle.build_base.specs.declared.lines.Taken.{Taken as Line}
use Rattle.macro_conditions.specs.declared.directive.Directive.{Directive}
use Rattle.macro_conditions.specs.Directives.{kind_of}
use Rattle.macro_conditions.specs.declared.directive.Directive.TheVariants.{Act, If, Elseif, Else, Endif}
use Rattle.macro_conditions.specs.LineTree.{Items, nothing, plain, stray, choice, Branches, append, Cut, ended, cut, Gathered, ended_by, gather_last, more, parted_by, gather, before, with_line, parsed, strayed, tree_of, written, written_branches}

abbrev written_cut : Cut → List Line
written_cut (ended t) = written t
written_cut (cut t k r) = written t ++ k ∷ written_cut r

abbrev written_gathered : Gathered → List Line
written_gathered g = written g.body ++ (written_branches g.branches ++ written_cut g.rest)

written-append : (t u : Items) → written (append t u) ≡ written t ++ written u
written-append nothing u = refl
written-append (plain l t) u = ap (λ ls. l ∷ ls) (written-append t u)
written-append (stray l t) u = ap (λ ls. l ∷ ls) (written-append t u)
written-append (choice l b bs t) u = ap (λ ls. l ∷ (written b ++ (written_branches bs ++ ls))) (written-append t u) ∙ simp append_assoc

straying : (t : Items) (k : Line) (r : Cut) (g : Gathered) → written_gathered g ≡ written_cut r → written (append t (stray k g.body)) ++ (written_branches g.branches ++ written_cut g.rest) ≡ written t ++ k ∷ written_cut r
straying t k r g h = ap (λ ls. ls ++ (written_branches g.branches ++ written_cut g.rest)) (written-append t (stray k g.body)) ∙ append_assoc (written t) (k ∷ written g.body) (written_branches g.branches ++ written_cut g.rest) ∙ ap (λ ls. written t ++ k ∷ ls) h

written_ended : (q : Directive) (t : Items) (k : Line) (r : Cut) (g : Gathered) → written_gathered g ≡ written_cut r → written_gathered (ended_by q t k r g) ≡ written t ++ k ∷ written_cut r
written_ended Endif t k r g h = refl
written_ended Else t k r g h = straying t k r g h
written_ended Elseif t k r g h = straying t k r g h
written_ended If t k r g h = straying t k r g h
written_ended Act t k r g h = straying t k r g h

written_last : (c : Cut) → written_gathered (gather_last c) ≡ written_cut c
written_last (ended t) = append-nil (written t)
written_last (cut t k r) = written_ended (kind_of k.text) t k r (gather_last r) (written_last r)

parting : (t : Items) (k : Line) (r : Cut) (g : Gathered) → written_gathered g ≡ written_cut r → written_gathered (more t k g) ≡ written t ++ k ∷ written_cut r
parting t k r g h = ap (λ ls. written t ++ k ∷ ls) (append_assoc (written g.body) (written_branches g.branches) (written_cut g.rest) ∙ h)

written_parted : (q : Directive) (t : Items) (k : Line) (r : Cut) (g last : Gathered) → written_gathered g ≡ written_cut r → written_gathered last ≡ written_cut r → written_gathered (parted_by q t k r g last) ≡ written t ++ k ∷ written_cut r
written_parted Endif t k r g last h i = refl
written_parted Else t k r g last h i = parting t k r last i
written_parted Elseif t k r g last h i = parting t k r g h
written_parted If t k r g last h i = parting t k r g h
written_parted Act t k r g last h i = parting t k r g h

written_gather : (c : Cut) → written_gathered (gather c) ≡ written_cut c
written_gather (ended t) = append-nil (written t)
written_gather (cut t k r) = written_parted (kind_of k.text) t k r (gather r) (gather_last r) (written_gather r) (written_last r)

before_plain : (l : Line) (c : Cut) → written_cut (before (plain l) c) ≡ l ∷ written_cut c
before_plain l (ended t) = refl
before_plain l (cut t k r) = refl

before_choice : (l : Line) (b : Items) (bs : Branches) (c : Cut) → written_cut (before (choice l b bs) c) ≡ l ∷ (written b ++ (written_branches bs ++ written_cut c))
before_choice l b bs (ended t) = refl
before_choice l b bs (cut t k r) = simp append_assoc

written_line : (q : Directive) (l : Line) (c : Cut) → written_cut (with_line q l c) ≡ l ∷ written_cut c
written_line Act l c = before_plain l c
written_line If l c = before_choice l (gather c).body (gather c).branches (gather c).rest ∙ ap (λ ls. l ∷ ls) (written_gather c)
written_line Elseif l c = refl
written_line Else l c = refl
written_line Endif l c = refl

written_parsed : (ls : List Line) → written_cut (parsed ls) ≡ ls
written_parsed [] = refl
written_parsed (l ∷ ls) = written_line (kind_of l.text) l (parsed ls) ∙ ap (λ xs. l ∷ xs) (written_parsed ls)

written_strayed : (c : Cut) → written (strayed c) ≡ written_cut c
written_strayed (ended t) = refl
written_strayed (cut t k r) = written-append t (stray k (strayed r)) ∙ ap (λ ls. written t ++ k ∷ ls) (written_strayed r)

-- the items written out in order are the lines
pub written_tree : (ls : List Line) → written (tree_of ls) ≡ ls
unfolding tree_of
written_tree ls = written_strayed (parsed ls) ∙ written_parsed ls
