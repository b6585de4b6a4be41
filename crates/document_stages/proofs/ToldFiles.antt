-- A document begins with the files that are told already, and comes to the same.
use Rattle.std.proofs.Common.{◌≡◌, ℕ, zero, suc, ◌<◌, ◌≤◌, ◌-◌, arith, refl, sym, ap, ◌∙◌, subst, Bool, true, cond, List, [], ◌∷◌, Option, Some, None, Result, Ok, Err}
use Rattle.std.proofs.lemmas.List.Elements.{All-nil, All-append, All-weaker}
use Rattle.build_base.specs.First.{and_then, or_else}
use Rattle.build_base.specs.World.{file_limit}
use Rattle.build_base.specs.Outside.{IsWithin}
use Rattle.build_base.specs.declared.lines.Lines.{Lines}
use Rattle.build_base.specs.declared.lines.Macro.{Macro}
use Rattle.build_base.specs.declared.outside.Got.{Got}
use Rattle.macro_conditions.specs.declared.known.Known.{Known}
use Rattle.macro_conditions.specs.Sources.{answer}
use Rattle.macro_conditions.specs.Expansion.{Stop, bad, need, expansion}
use Rattle.macro_conditions.specs.Counting.{left, AreWithin, with_answer}
use Rattle.macro_conditions.specs.Worlds.{MoreAnswers, Stays}
use Rattle.macro_conditions.proofs.LeftFalls.{left_falls}
use Rattle.macro_conditions.proofs.MoreAnswersLaw.{expansion_stays}
use Rattle.step_engine.specs.declared.talk.Ask.{Ask}
use Rattle.step_engine.specs.declared.talk.Ask.TheVariants as ask
use Rattle.step_engine.specs.declared.talk.Answer.{Answer}
use Rattle.step_engine.specs.declared.talk.Answer.TheVariants as answers
use Rattle.step_engine.specs.declared.talk.Pair.{Pair}
use Rattle.build_stages.specs.Stages.{Fits, Halt, gather, gathered, missing, judged, cons_both, stop_of, fault_in, ended, advance, Known as Answers}
use Rattle.build_stages.specs.Writing.{file_of, given_file}
use Rattle.build_stages.specs.Told.{file_itself}
use Rattle.build_stages.specs.Bounds.{all_one}
use Rattle.document_stages.specs.Documents.{got_in, got_step, lines_after, most_files}
use Rattle.document_stages.specs.Learning.{IsTold, AreTold}
use Rattle.document_stages.proofs.AnswerLemmas.{answered_by, none_more, one_more, both_more}
use Rattle.document_stages.proofs.DocumentSteps.{Goes, at_end, at_bad, after_need, some_left, got_small, left_most}

-- one file with its answer
abbrev told_one : {K O : Type 0} → List ℕ → Answer O → List (Pair K O)
told_one path x = record { ask = ask.File path; answer = x } ∷ []

abbrev got_by : {K O : Type 0} → Answer O → Bool → Result Got (Halt K)
got_by {K} {O} x b = and_then (ended (file_of (cond b (Some x) None))) (λ x. ended {K = K} (got_in x))

told_answer : {K O : Type 0} (path : List ℕ) (x : Answer O) (got : Got) → got_in x ≡ Ok got
    → and_then (judged {K = K} (or_else (fault_in x) None) (told_one {K = K} path x)) (λ given. and_then (ended (given_file given path)) (λ x. ended (got_in x))) ≡ Ok got
told_answer {K} {O} path (answers.Bytes bytes) got e = ap (got_by {K = K} {O = O} (answers.Bytes bytes)) (file_itself K path) ∙ ap (ended {K = K}) e
told_answer {K} {O} path answers.Absent got e = ap (got_by {K = K} {O = O} answers.Absent) (file_itself K path) ∙ ap (ended {K = K}) e
told_answer {K} {O} path answers.TooLong got e = ap (got_by {K = K} {O = O} answers.TooLong) (file_itself K path) ∙ ap (ended {K = K}) e
told_answer path (answers.Field text) got e = absurd (cc)
told_answer path (answers.Part outcome) got e = absurd (cc)

-- what is known of a file and fits is got
pub told_is : {K O : Type 0} (same : Ask K → Ask K → Bool) (fits : Fits K O) (known : Answers K O) (path : List ℕ) (x : Answer O) (got : Got)
    → known (ask.File path) ≡ Some x → fits (ask.File path) x ≡ true → got_in x ≡ Ok got → got_step same fits known path ≡ Ok got
told_is {K} {O} same fits known path x got k f e =
    ap (λ (o : Option (Answer O)). and_then (gathered fits (ask.File path ∷ []) (missing same known (ask.File path ∷ [])) (cons_both o (Some []))) (λ given. and_then (ended (given_file given path)) (λ x. ended (got_in x)))) k
    ∙ ap (λ (b : Bool). and_then (judged {K = K} (or_else (stop_of b x) None) (told_one {K = K} path x)) (λ given. and_then (ended (given_file given path)) (λ x. ended (got_in x)))) f
    ∙ told_answer path x got e

got_within : {K O : Type 0} (same : Ask K → Ask K → Bool) (fits : Fits K O) (known : Answers K O) (path : List ℕ) (got : Got) → got_step same fits known path ≡ Ok got → IsWithin file_limit got
got_within {K} {O} same fits known path got e =
    (elim (gather same fits known (ask.File path ∷ [])) as (λ g. and_then g (λ given. and_then (ended (given_file given path)) (λ x. ended (got_in x))) ≡ Ok got → IsWithin file_limit got) [
      | Err h ↦ λ e. absurd (cc)
      | Ok given ↦ (elim (given_file given path) as (λ r. and_then (ended {K = K} r) (λ x. ended (got_in x)) ≡ Ok got → IsWithin file_limit got) [
        | Err fault ↦ λ e. absurd (cc)
        | Ok x ↦ (elim (got_in x) as (λ r. got_in x ≡ r → ended {K = K} r ≡ Ok got → IsWithin file_limit got) [
          | Err fault ↦ λ i e. absurd (cc)
          | Ok g ↦ λ i e. let is : g ≡ got = cc in got_small x got (i ∙ ap (λ (g : Got). Ok g) is)
        ]) refl
      ])
    ]) e

module _ {K O : Type 0} (same : Ask K → Ask K → Bool) (fits : Fits K O) (known : Answers K O) (root : List ℕ) (macros fixed : List Macro) where
  abbrev Told : List Known → Type 0
  Told files = AreTold (got_step same fits known) files

  abbrev goes_to : ℕ → List Known → Result Lines (Halt K)
  goes_to n files = advance same fits known (lines_after n root macros fixed files)

  abbrev out : List Known → Result Lines Stop
  out files = expansion (answer files) root macros fixed

  are_within : (files : List Known) → Told files → AreWithin file_limit files
  are_within files t = All-weaker (IsTold (got_step same fits known)) (λ (k : Known). IsWithin file_limit k.got) (λ k is. got_within same fits known k.path k.got is) files t

  told_more : (files : List Known) (path : List ℕ) (got : Got) → Told files → got_step same fits known path ≡ Ok got → Told (with_answer files path got)
  told_more files path got t is = All-append (IsTold (got_step same fits known)) files (record { path = path; got = got } ∷ []) t (all_one (IsTold (got_step same fits known)) (record { path = path; got = got }) is)

  -- what comes to an end comes to the same end with more answers
  by_end : (n m : ℕ) (files others : List Known) (r : Result Lines Stop) → out files ≡ r → Stays (answer others) r (out others)
      → ((path : List ℕ) → r ≡ Err (need path) → goes_to n files ≡ goes_to m others) → goes_to n files ≡ goes_to m others
  by_end n m files others (Ok lines) e s h = ap (advance same fits known) (at_end n root macros fixed files lines e ∙ sym (at_end m root macros fixed others lines s))
  by_end n m files others (Err (bad fault)) e s h = ap (advance same fits known) (at_bad n root macros fixed files fault e ∙ sym (at_bad m root macros fixed others fault s))
  by_end n m files others (Err (need path)) e s h = h path refl

  -- more files that are told change nothing
  told_same : (n m : ℕ) (files others : List Known) → MoreAnswers (answer files) (answer others) → Told files → Told others → left file_limit root macros fixed files ≤ n → left file_limit root macros fixed others ≤ m
      → goes_to n files ≡ goes_to m others
  told_same zero m files others more t u l k =
      by_end zero m files others (out files) refl (expansion_stays (answer files) (answer others) more root macros fixed)
      (λ path e. absurd (let f : 0 < zero = some_left zero root macros fixed files path (are_within files t) l e in omega (arith, f)))
  told_same (suc n) m files others more t u l k =
      by_end (suc n) m files others (out files) refl (expansion_stays (answer files) (answer others) more root macros fixed)
      (λ path e.
      let falls : (got : Got) → left file_limit root macros fixed (with_answer files path got) ≤ n = λ got.
      let f : left file_limit root macros fixed (with_answer files path got) < left file_limit root macros fixed files = left_falls file_limit root macros fixed files path got (are_within files t) e in
      omega (arith, f, l) in
      let less : n ≡ suc n - 1 = omega arith in
      after_need same fits known (suc n) root macros fixed files path (are_within files t) l e
      ∙ (elim (answer others path) as (λ a. answer others path ≡ a → and_then (got_step same fits known path) (λ got. goes_to (suc n - 1) (with_answer files path got)) ≡ goes_to m others) [
        | Some got ↦ λ a.
            let is : got_step same fits known path ≡ Ok got = answered_by (λ p g. got_step same fits known p ≡ Ok g) others u path got a in
            ap (λ r. and_then r (λ got. goes_to (suc n - 1) (with_answer files path got))) is
            ∙ subst (λ k. goes_to k (with_answer files path got) ≡ goes_to m others) less
            (told_same n m (with_answer files path got) others (one_more files (answer others) path got more a) (told_more files path got t is) u (falls got) k)
        | None ↦ λ a.
            let s : Stays (answer others) (out files) (out others) = expansion_stays (answer files) (answer others) more root macros fixed in
            let wanted : out others ≡ Err (need path) = (subst (λ r. Stays (answer others) r (out others)) e s) a in
            (elim (got_step same fits known path) as (λ r. got_step same fits known path ≡ r → and_then r (λ got. goes_to (suc n - 1) (with_answer files path got)) ≡ and_then r (λ got. goes_to (m - 1) (with_answer others path got))) [
              | Err h ↦ λ is. refl
              | Ok got ↦ λ is.
                  let f : left file_limit root macros fixed (with_answer others path got) < left file_limit root macros fixed others = left_falls file_limit root macros fixed others path got (are_within others u) wanted in
                  subst (λ k. goes_to k (with_answer files path got) ≡ goes_to (m - 1) (with_answer others path got)) less
                  (told_same n (m - 1) (with_answer files path got) (with_answer others path got) (both_more files others path got more a) (told_more files path got t is) (told_more others path got u is) (falls got) (omega (arith, f, k)))
            ]) refl
            ∙ sym (after_need same fits known m root macros fixed others path (are_within others u) k wanted)
      ]) refl)

  pub goes_told : (files : List Known) → Told files → Goes same fits known root macros fixed files
  goes_told files t = record {
    more = most_files;
    enough = left_most root macros fixed files;
    is = told_same most_files most_files [] files (none_more (answer files)) (All-nil (IsTold (got_step same fits known))) t (left_most root macros fixed []) (left_most root macros fixed files);
    within = are_within files t;
  }
