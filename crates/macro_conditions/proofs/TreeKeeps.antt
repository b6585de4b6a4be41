-- What each act keeps, a file keeps.
use Rattle.std.proofs.Common.{Bool, true, false, cond, List, Option, Some, None, Result, Ok, Err}
use Rattle.build_base.specs.declared.lines.Taken.{Taken as Line}
use Rattle.macro_conditions.specs.LineTree.{Items, nothing, plain, stray, choice, Branches, unclosed, closed, further, tree_of}
use Rattle.macro_conditions.specs.LineMeaning.{Acts, ◌>>=◌, taken, skipped, passed, chosen, at_end, unclosed_line, file_of}

-- W relates the state at the start and the result
pub record IsKept {E F : Type 0} (a : Acts E F) (W : E → Result E F → Type 0) : Type 0 where
  pub ok : (e : E) → W e (Ok e)
  pub act : (l : Line) (e : E) → W e (a.act l e)
  pub stray : (l : Line) (e : E) → W e (Err (a.unbalanced l))
  pub bind : (e : E) (r : Result E F) (f : E → Result E F) → W e r → ((x : E) → W x (f x)) → W e (r >>= f)
  pub choose : (l : Line) (e : E) (f : Bool → Result E F) → ((c : Bool) → W e (f c)) → W e (a.test l e >>= f)

module _ {E F : Type 0} {a : Acts E F} {W : E → Result E F → Type 0} (kept : IsKept a W) where
  either : (c : Bool) (e : E) (x y : Result E F) → W e x → W e y → W e (cond c x y)
  either true e x y p q = p
  either false e x y p q = q

  mutual
    pub taken_kept : (t : Items) (e : E) → W e (taken a t e)
    taken_kept nothing e = kept.ok e
    taken_kept (plain l t) e = kept.bind e (a.act l e) (λ x. taken a t x) (kept.act l e) (λ x. taken_kept t x)
    taken_kept (stray l t) e = kept.stray l e
    taken_kept (choice l body bs t) e =
        kept.bind e (a.test l e >>= (λ c. cond c (taken a body e >>= (λ x. passed a bs x)) (skipped a body e >>= (λ x. chosen a bs x)))) (λ x. taken a t x)
        (kept.choose l e (λ c. cond c (taken a body e >>= (λ x. passed a bs x)) (skipped a body e >>= (λ x. chosen a bs x)))
        (λ c. either c e (taken a body e >>= (λ x. passed a bs x)) (skipped a body e >>= (λ x. chosen a bs x))
        (kept.bind e (taken a body e) (λ x. passed a bs x) (taken_kept body e) (λ x. passed_kept bs x))
        (kept.bind e (skipped a body e) (λ x. chosen a bs x) (skipped_kept body e) (λ x. chosen_kept bs x))))
        (λ x. taken_kept t x)

    pub skipped_kept : (t : Items) (e : E) → W e (skipped a t e)
    skipped_kept nothing e = kept.ok e
    skipped_kept (plain l t) e = skipped_kept t e
    skipped_kept (stray l t) e = kept.stray l e
    skipped_kept (choice l body bs t) e =
        kept.bind e (skipped a body e >>= (λ x. passed a bs x)) (λ x. skipped a t x)
        (kept.bind e (skipped a body e) (λ x. passed a bs x) (skipped_kept body e) (λ x. passed_kept bs x))
        (λ x. skipped_kept t x)

    pub passed_kept : (bs : Branches) (e : E) → W e (passed a bs e)
    passed_kept unclosed e = kept.ok e
    passed_kept (closed l) e = kept.ok e
    passed_kept (further l body bs) e = kept.bind e (skipped a body e) (λ x. passed a bs x) (skipped_kept body e) (λ x. passed_kept bs x)

    pub chosen_kept : (bs : Branches) (e : E) → W e (chosen a bs e)
    chosen_kept unclosed e = kept.ok e
    chosen_kept (closed l) e = kept.ok e
    chosen_kept (further l body bs) e =
        kept.choose l e (λ c. cond c (taken a body e >>= (λ x. passed a bs x)) (skipped a body e >>= (λ x. chosen a bs x)))
        (λ c. either c e (taken a body e >>= (λ x. passed a bs x)) (skipped a body e >>= (λ x. chosen a bs x))
        (kept.bind e (taken a body e) (λ x. passed a bs x) (taken_kept body e) (λ x. passed_kept bs x))
        (kept.bind e (skipped a body e) (λ x. chosen a bs x) (skipped_kept body e) (λ x. chosen_kept bs x)))

  pub end_kept : (o : Option Line) (e : E) → W e (at_end a o e)
  end_kept None e = kept.ok e
  end_kept (Some l) e = kept.stray l e

  pub file_kept : (ls : List Line) (e : E) → W e (file_of a ls e)
  unfolding file_of
  file_kept ls e = kept.bind e (taken a (tree_of ls) e) (λ x. at_end a (unclosed_line (tree_of ls)) x) (taken_kept (tree_of ls) e) (λ x. end_kept (unclosed_line (tree_of ls)) x)
