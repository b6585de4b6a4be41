-- What is left of a document stays so where more files are known.
use Rattle.std.proofs.Common.{◌≡◌, ℕ, List, [], ◌∷◌, ◌++◌, Option, Some, None, Result, Ok, Err, sym, subst}
use Rattle.std.specs.Prelude.{OnOk, OnErr}
use Rattle.build_base.specs.declared.lines.Macro.{Macro}
use Rattle.macro_conditions.specs.declared.known.Known.{Known}
use Rattle.macro_conditions.specs.declared.work.Left.{Left}
use Rattle.macro_conditions.specs.Sources.{Source, answer}
use Rattle.macro_conditions.specs.Worlds.{MoreAnswers}
use Rattle.macro_conditions.specs.OpenFiles.{IsPause}
use Rattle.macro_conditions.proofs.LeftFalls.{answer_more}

pause_more : (known more : Source) → MoreAnswers known more → (root : List ℕ) (macros fixed : List Macro) (l : Option Left) → IsPause known root macros fixed l → IsPause more root macros fixed l
pause_more known more m root macros fixed None p = tt
pause_more known more m root macros fixed (Some l) p = record { is = λ s h. p.is s (λ q g e. h q g (m q g e)); named = p.named }

pub pause_learns : {A E : Type 0} (r : Result A E) (old new : List Known) (k : Known) (root : List ℕ) (macros fixed : List Macro) (l : Option Left) → OnOk r (new ≡ old ++ k ∷ []) → OnErr r (new ≡ old) → IsPause (answer old) root macros fixed l → IsPause (answer new) root macros fixed l
pause_learns (Ok x) old new k root macros fixed l ok err p =
    subst (λ (fs : List Known). IsPause (answer fs) root macros fixed l) (sym ok)
    (pause_more (answer old) (answer (old ++ k ∷ [])) (answer_more old k.path k.got) root macros fixed l p)
pause_learns (Err x) old new k root macros fixed l ok err p = subst (λ (fs : List Known). IsPause (answer fs) root macros fixed l) (sym err) p
