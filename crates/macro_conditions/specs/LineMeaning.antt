-- What a tree comes to.
use Rattle.std.specs.Prelude.{Bool, true, false, if◌then◌else◌, List, Option, Some, None, Result, Ok, Err}
use Rattle.build_base.specs.declared.lines.Taken.{Taken as Line}
use Rattle.macro_conditions.specs.LineTree.{Items, nothing, plain, stray, choice, Branches, unclosed, closed, further, tree_of}

infixl 10 ◌>>=◌
abbrev pub ◌>>=◌ : {A B F : Type 0} → Result A F → (A → Result B F) → Result B F
(Ok x) >>= f = f x
(Err e) >>= f = Err e

-- what a taken line does, what a condition says, and the fault of a directive out of place
pub record Acts (E F : Type 0) : Type 0 where
  pub act : Line → E → Result E F
  pub test : Line → E → Result Bool F
  pub unbalanced : Line → F

abbrev pub is_unclosed : Branches → Bool
is_unclosed unclosed = true
is_unclosed (closed l) = false
is_unclosed (further l body bs) = is_unclosed bs

-- the first conditional that is open at the end
abbrev pub unclosed_line : Items → Option Line
unclosed_line nothing = None
unclosed_line (plain l t) = unclosed_line t
unclosed_line (stray l t) = unclosed_line t
unclosed_line (choice l body bs t) = if is_unclosed bs then Some l else unclosed_line t

module _ {E F : Type 0} (a : Acts E F) where
  abbrev mutual
    -- the items of a branch that is taken
    pub taken : Items → E → Result E F
    taken nothing e = Ok e
    taken (plain l t) e = a.act l e >>= (λ x. taken t x)
    taken (stray l t) e = Err (a.unbalanced l)
    taken (choice l body bs t) e =
        (a.test l e >>= (λ b. if b then (taken body e >>= (λ x. passed bs x))
        else (skipped body e >>= (λ x. chosen bs x)))) >>= (λ x. taken t x)

    -- the items of a branch that isn't taken
    pub skipped : Items → E → Result E F
    skipped nothing e = Ok e
    skipped (plain l t) e = skipped t e
    skipped (stray l t) e = Err (a.unbalanced l)
    skipped (choice l body bs t) e = (skipped body e >>= (λ x. passed bs x)) >>= (λ x. skipped t x)

    -- the branches after one that was taken
    pub passed : Branches → E → Result E F
    passed unclosed e = Ok e
    passed (closed l) e = Ok e
    passed (further l body bs) e = skipped body e >>= (λ x. passed bs x)

    -- the branches after those whose conditions don't hold
    pub chosen : Branches → E → Result E F
    chosen unclosed e = Ok e
    chosen (closed l) e = Ok e
    chosen (further l body bs) e = a.test l e
        >>= (λ b. if b then (taken body e >>= (λ x. passed bs x))
        else (skipped body e >>= (λ x. chosen bs x)))

  abbrev pub at_end : Option Line → E → Result E F
  at_end None e = Ok e
  at_end (Some l) e = Err (a.unbalanced l)

  -- what the lines of a file come to
  unfoldable pub file_of : List Line → E → Result E F
  file_of ls e = taken (tree_of ls) e >>= (λ x. at_end (unclosed_line (tree_of ls)) x)
