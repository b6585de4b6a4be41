-- Two meanings of one tree, whose acts are related, are related.
use Rattle.std.proofs.Common.{Bool, true, false, cond, List, Option, Some, None, Result, Ok, Err}
use Rattle.build_base.specs.declared.lines.Taken.{Taken as Line}
use Rattle.macro_conditions.specs.LineTree.{Items, nothing, plain, stray, choice, Branches, unclosed, closed, further, tree_of}
use Rattle.macro_conditions.proofs.TreeKeeps.{IsKept, taken_kept, skipped_kept, passed_kept, chosen_kept, end_kept}
use Rattle.macro_conditions.specs.LineMeaning.{Acts, ◌>>=◌, taken, skipped, passed, chosen, at_end, unclosed_line, file_of}

-- R relates states, S results, and T what conditions say
pub record IsRelated {E D F G : Type 0} (a : Acts E F) (b : Acts D G) (R : E → D → Type 0) (S : Result E F → Result D G → Type 0) (T : Result Bool F → Result Bool G → Type 0) (W : D → Result D G → Type 0) : Type 0 where
  pub kept : IsKept b W
  pub ok : (e : E) (d : D) → R e d → S (Ok e) (Ok d)
  pub act : (l : Line) (e : E) (d : D) → R e d → S (a.act l e) (b.act l d)
  pub test : (l : Line) (e : E) (d : D) → R e d → T (a.test l e) (b.test l d)
  pub stray : (l : Line) → S (Err (a.unbalanced l)) (Err (b.unbalanced l))
  pub bind : (r : Result E F) (s : Result D G) (f : E → Result E F) (g : D → Result D G) → S r s → ((e : E) (d : D) → R e d → S (f e) (g d)) → ((d : D) → W d (g d)) → S (r >>= f) (s >>= g)
  pub choose : (r : Result Bool F) (s : Result Bool G) (f : Bool → Result E F) (g : Bool → Result D G) → T r s → ((c : Bool) → S (f c) (g c)) → S (r >>= f) (s >>= g)

module _ {E D F G : Type 0} {a : Acts E F} {b : Acts D G} {R : E → D → Type 0} {S : Result E F → Result D G → Type 0} {T : Result Bool F → Result Bool G → Type 0} {W : D → Result D G → Type 0} (rel : IsRelated a b R S T W) where
  either : (c : Bool) (x y : Result E F) (u v : Result D G) → S x u → S y v → S (cond c x y) (cond c u v)
  either true x y u v p q = p
  either false x y u v p q = q

  mutual
    pub taken_related : (t : Items) (e : E) (d : D) → R e d → S (taken a t e) (taken b t d)
    taken_related nothing e d r = rel.ok e d r
    taken_related (plain l t) e d r = rel.bind (a.act l e) (b.act l d) (λ x. taken a t x) (λ y. taken b t y) (rel.act l e d r) (λ x y q. taken_related t x y q) (λ y. taken_kept rel.kept t y)
    taken_related (stray l t) e d r = rel.stray l
    taken_related (choice l body bs t) e d r =
        rel.bind (a.test l e >>= (λ c. cond c (taken a body e >>= (λ x. passed a bs x)) (skipped a body e >>= (λ x. chosen a bs x)))) (b.test l d >>= (λ c. cond c (taken b body d >>= (λ x. passed b bs x)) (skipped b body d >>= (λ x. chosen b bs x)))) (λ x. taken a t x) (λ y. taken b t y)
        (rel.choose (a.test l e) (b.test l d) (λ c. cond c (taken a body e >>= (λ x. passed a bs x)) (skipped a body e >>= (λ x. chosen a bs x))) (λ c. cond c (taken b body d >>= (λ x. passed b bs x)) (skipped b body d >>= (λ x. chosen b bs x))) (rel.test l e d r)
        (λ c. either c (taken a body e >>= (λ x. passed a bs x)) (skipped a body e >>= (λ x. chosen a bs x)) (taken b body d >>= (λ x. passed b bs x)) (skipped b body d >>= (λ x. chosen b bs x))
        (rel.bind (taken a body e) (taken b body d) (λ x. passed a bs x) (λ y. passed b bs y) (taken_related body e d r) (λ x y q. passed_related bs x y q) (λ y. passed_kept rel.kept bs y))
        (rel.bind (skipped a body e) (skipped b body d) (λ x. chosen a bs x) (λ y. chosen b bs y) (skipped_related body e d r) (λ x y q. chosen_related bs x y q) (λ y. chosen_kept rel.kept bs y))))
        (λ x y q. taken_related t x y q) (λ y. taken_kept rel.kept t y)

    pub skipped_related : (t : Items) (e : E) (d : D) → R e d → S (skipped a t e) (skipped b t d)
    skipped_related nothing e d r = rel.ok e d r
    skipped_related (plain l t) e d r = skipped_related t e d r
    skipped_related (stray l t) e d r = rel.stray l
    skipped_related (choice l body bs t) e d r =
        rel.bind (skipped a body e >>= (λ x. passed a bs x)) (skipped b body d >>= (λ y. passed b bs y)) (λ x. skipped a t x) (λ y. skipped b t y)
        (rel.bind (skipped a body e) (skipped b body d) (λ x. passed a bs x) (λ y. passed b bs y) (skipped_related body e d r) (λ x y q. passed_related bs x y q) (λ y. passed_kept rel.kept bs y))
        (λ x y q. skipped_related t x y q) (λ y. skipped_kept rel.kept t y)

    pub passed_related : (bs : Branches) (e : E) (d : D) → R e d → S (passed a bs e) (passed b bs d)
    passed_related unclosed e d r = rel.ok e d r
    passed_related (closed l) e d r = rel.ok e d r
    passed_related (further l body bs) e d r = rel.bind (skipped a body e) (skipped b body d) (λ x. passed a bs x) (λ y. passed b bs y) (skipped_related body e d r) (λ x y q. passed_related bs x y q) (λ y. passed_kept rel.kept bs y)

    pub chosen_related : (bs : Branches) (e : E) (d : D) → R e d → S (chosen a bs e) (chosen b bs d)
    chosen_related unclosed e d r = rel.ok e d r
    chosen_related (closed l) e d r = rel.ok e d r
    chosen_related (further l body bs) e d r =
        rel.choose (a.test l e) (b.test l d) (λ c. cond c (taken a body e >>= (λ x. passed a bs x)) (skipped a body e >>= (λ x. chosen a bs x))) (λ c. cond c (taken b body d >>= (λ x. passed b bs x)) (skipped b body d >>= (λ x. chosen b bs x))) (rel.test l e d r)
        (λ c. either c (taken a body e >>= (λ x. passed a bs x)) (skipped a body e >>= (λ x. chosen a bs x)) (taken b body d >>= (λ x. passed b bs x)) (skipped b body d >>= (λ x. chosen b bs x))
        (rel.bind (taken a body e) (taken b body d) (λ x. passed a bs x) (λ y. passed b bs y) (taken_related body e d r) (λ x y q. passed_related bs x y q) (λ y. passed_kept rel.kept bs y))
        (rel.bind (skipped a body e) (skipped b body d) (λ x. chosen a bs x) (λ y. chosen b bs y) (skipped_related body e d r) (λ x y q. chosen_related bs x y q) (λ y. chosen_kept rel.kept bs y)))

  end_related : (o : Option Line) (e : E) (d : D) → R e d → S (at_end a o e) (at_end b o d)
  end_related None e d r = rel.ok e d r
  end_related (Some l) e d r = rel.stray l

  pub file_related : (ls : List Line) (e : E) (d : D) → R e d → S (file_of a ls e) (file_of b ls d)
  unfolding file_of
  file_related ls e d r = rel.bind (taken a (tree_of ls) e) (taken b (tree_of ls) d) (λ x. at_end a (unclosed_line (tree_of ls)) x) (λ y. at_end b (unclosed_line (tree_of ls)) y) (taken_related (tree_of ls) e d r) (λ x y q. end_related (unclosed_line (tree_of ls)) x y q) (λ y. end_kept rel.kept (unclosed_line (tree_of ls)) y)
