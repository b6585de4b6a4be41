-- The bounds of a document's stages, in this project's own form of steps.
use Rattle.std.proofs.Common.{◌≡◌, ℕ, zero, suc, ◌-◌, arith, List, Result, Ok, Err, subst}
use Rattle.build_base.specs.declared.lines.Lines.{Lines}
use Rattle.build_base.specs.declared.lines.Macro.{Macro}
use Rattle.macro_conditions.specs.declared.known.Known.{Known}
use Rattle.macro_conditions.specs.Sources.{answer}
use Rattle.macro_conditions.specs.Expansion.{Stop, bad, need, expansion}
use Rattle.macro_conditions.specs.Counting.{with_answer}
use Rattle.step_engine.specs.declared.talk.Ask.TheVariants as ask
use Rattle.build_stages.specs.Stages.{Stages, IsLower, AreLower, IsWithin}
use Rattle.build_stages.specs.Writing.{attempt, given_file}
use Rattle.build_stages.specs.Bounds.{attempt_lower, attempt_within, all_one}
use Rattle.document_stages.specs.Documents.{by_stop, got_in, lines_after}

stop_lower : {K O : Type 0} (rank : K → ℕ) (bound : ℕ) (r : Result Lines Stop)
    (more : List ℕ → Stages K O Lines) → ((path : List ℕ) → AreLower rank bound (more path))
    → AreLower rank bound (by_stop r more)
stop_lower rank bound (Ok lines) more h = tt
stop_lower rank bound (Err (bad fault)) more h = tt
stop_lower rank bound (Err (need path)) more h = h path

pub lines_lower : {K : Type 0} (O : Type 0) (rank : K → ℕ) (bound n : ℕ) (root : List ℕ)
    (macros fixed : List Macro) (files : List Known)
    → AreLower rank bound (lines_after {K = K} {O = O} n root macros fixed files)
unfolding lines_after
lines_lower {K} O rank bound zero root macros fixed files =
    stop_lower rank bound (expansion (answer files) root macros fixed) _ (λ path. tt)
lines_lower {K} O rank bound (suc n) root macros fixed files =
    stop_lower rank bound (expansion (answer files) root macros fixed) _ (λ path. (
      all_one (IsLower rank bound) (ask.File path) tt,
      λ given.
          attempt_lower rank bound (given_file given path) _
          (λ x. attempt_lower rank bound (got_in x) _
          (λ got. lines_lower O rank bound n root macros fixed (with_answer files path got))),
    ))

stop_within : {K O : Type 0} (n : ℕ) (r : Result Lines Stop)
    (more : List ℕ → Stages K O Lines) → ((path : List ℕ) → IsWithin n (more path))
    → IsWithin n (by_stop r more)
stop_within n (Ok lines) more h = tt
stop_within n (Err (bad fault)) more h = tt
stop_within n (Err (need path)) more h = h path

pub lines_within : (K O : Type 0) (n : ℕ) (root : List ℕ)
    (macros fixed : List Macro) (files : List Known)
    → IsWithin n (lines_after {K = K} {O = O} n root macros fixed files)
unfolding lines_after
lines_within K O zero root macros fixed files =
    stop_within zero (expansion (answer files) root macros fixed) _ (λ path. tt)
lines_within K O (suc n) root macros fixed files =
    stop_within (suc n) (expansion (answer files) root macros fixed) _ (λ path. (
      omega arith,
      λ given.
          subst
          (λ m. IsWithin m
          (attempt (given_file given path)
          (λ x. attempt (got_in x)
          (λ got. lines_after {K = K} {O = O} n root macros fixed (with_answer files path got)))))
          (let same : n ≡ suc n - 1 = omega arith in same)
          (attempt_within n (given_file given path) _
          (λ x. attempt_within n (got_in x) _
          (λ got. lines_within K O n root macros fixed (with_answer files path got)))),
    ))
