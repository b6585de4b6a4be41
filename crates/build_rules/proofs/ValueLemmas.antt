-- The values of documents in a world.
use Rattle.std.proofs.Common.{◌≡◌, ℕ, Bool, true, false, List, [], length, nat_le, refl, ap, ◌∙◌, Result, Ok, Err, Option, Some, None, cond}
use Rattle.std.proofs.lemmas.Bool.{leb-true}
use Rattle.build_base.specs.First.{and_then}
use Rattle.build_base.specs.Outside.{IsWithin, got_of}
use Rattle.build_base.specs.World.{World, got, field, file_limit}
use Rattle.build_base.specs.Path.{is_path, path_field}
use Rattle.std.specs.Prelude.{◌&&◌, if◌then◌else◌}
use Rattle.std.specs.Option.{is_some}
use Rattle.dsc_platform.specs.Platform.{platform_of}
use Rattle.build_stages.specs.Writing.{attempt}
use Rattle.build_base.specs.declared.fault.Fault.{Fault}
use Rattle.build_base.specs.declared.lines.Lines.{Lines}
use Rattle.build_base.specs.declared.lines.Macro.{Macro}
use Rattle.build_base.specs.declared.outside.Got.{Got}
use Rattle.build_base.specs.declared.outside.Got.TheVariants.{File, Absent, TooLong}
use Rattle.step_engine.specs.Meaning.{right, answer_of, IsWorld}
use Rattle.step_engine.specs.declared.talk.Ask.{Ask}
use Rattle.step_engine.specs.declared.talk.Ask.TheVariants as ask
use Rattle.step_engine.specs.declared.talk.Answer.{Answer}
use Rattle.build_stages.specs.Stages.{end, run, outcome_of, meaning_of}
use Rattle.build_stages.specs.StagesLaws.{value_is}
use Rattle.build_stages.specs.Bounds.{both_hold, run_bind}
use Rattle.document_stages.specs.Documents.{lines_of}
use Rattle.document_stages.specs.Worlds.{TellsFiles}
use Rattle.document_stages.proofs.DocumentWorlds.{run_lines}
use Rattle.step_pack.specs.Keys.{key_cmp}
use Rattle.step_pack.specs.declared.key.Key.{Key}
use Rattle.step_pack.specs.declared.key.Key.TheVariants as key
use Rattle.step_pack.specs.declared.out.Out.{Out}
use Rattle.step_pack.specs.declared.out.Out.TheVariants as out
use Rattle.dec_docs.specs.Package.{package_of}
use Rattle.inf_docs.specs.Modules.{module_of}
use Rattle.step_answers.specs.Fits.{fits}
use Rattle.step_answers.specs.Readers.{or_impossible, given_as}
use Rattle.document_steps.specs.Trees.{document_stages, platform_stages}
use Rattle.build_rules.specs.Rules.{edk, value_in}
use Rattle.build_rules.specs.RulesBounds.{edk_is_bounded}
use Rattle.build_rules.specs.Values.{lines_in, dec_value, inf_value, job_macros, platform_value}

got_within : (limit : ℕ) (bytes : Option (List ℕ)) → IsWithin limit (got_of limit bytes)
got_within limit None = tt
got_within limit (Some bytes) =
    (elim (nat_le (length bytes) limit) as (λ b. nat_le (length bytes) limit ≡ b → IsWithin limit (cond b (File bytes) TooLong)) [
      | true ↦ λ e. leb-true (length bytes) limit e
      | false ↦ λ e. tt
    ]) refl

pub file_fits : (path : List ℕ) (got : Got) → fits (ask.File path) (answer_of got) ≡ true
file_fits path (File bytes) = refl
file_fits path Absent = refl
file_fits path TooLong = refl

-- the files of a world, for any answers to other asks
pub tells : (w : World) (o : Ask Key → Answer Out) → ((path : List ℕ) → o (ask.File path) ≡ answer_of (got w path)) → TellsFiles fits o (got w)
tells w o e = record {
  is = e;
  fit = λ path. ap (λ (x : Answer Out). fits (ask.File path) x) (e path) ∙ file_fits path (got w path);
  within = λ path. got_within file_limit (w.files path);
}

ended_as : {A : Type 0} (fits : Ask Key → Answer Out → Bool) (o : Ask Key → Answer Out) (variant : A → Out) (read : Lines → Result A Fault) (r : Result Lines Fault)
    → and_then r (λ lines. run fits o (end (given_as variant (read lines)))) ≡ given_as variant (and_then r read)
ended_as fits o variant read (Ok lines) = refl
ended_as fits o variant read (Err fault) = refl

-- a document in a world
pub document_run : {A : Type 0} (w : World) (variant : A → Out) (read : Lines → Result A Fault) (macros fixed : List Macro) (path : List ℕ)
    → run fits (right (meaning_of key_cmp edk) w) (document_stages variant read macros fixed path) ≡ given_as variant (and_then (lines_in w path macros fixed) read)
document_run w variant read macros fixed path =
    run_bind fits (right (meaning_of key_cmp edk) w) (lines_of path macros fixed) (λ lines. end (given_as variant (read lines)))
    ∙ ap (λ (r : Result Lines Fault). and_then r (λ lines. run fits (right (meaning_of key_cmp edk) w) (end (given_as variant (read lines)))))
    (run_lines fits (right (meaning_of key_cmp edk) w) (got w) (tells w (right (meaning_of key_cmp edk) w) (λ path. refl)) path macros fixed)
    ∙ ended_as fits (right (meaning_of key_cmp edk) w) variant read (lines_in w path macros fixed)

pub dec_is : (w : World) (path : List ℕ) → value_in w (key.Dec path) ≡ outcome_of (given_as out.Dec (dec_value w path))
dec_is w path = value_is key_cmp edk edk_is_bounded w (key.Dec path) ∙ ap outcome_of (document_run w out.Dec package_of [] [] path)

pub inf_is : (w : World) (path : List ℕ) → value_in w (key.Inf path) ≡ outcome_of (given_as out.Inf (inf_value w path))
inf_is w path = value_is key_cmp edk edk_is_bounded w (key.Inf path) ∙ ap outcome_of (document_run w out.Inf module_of [] [] path)

pub path_some : (b : Bool) (text : List ℕ) → is_some (if b then Some text else None) ≡ true → or_impossible (if b then Some text else None) ≡ Ok text
path_some true text e = refl
path_some false text e = absurd (cc)

named : (w : World) → is_some (path_field (field w 0)) ≡ true → or_impossible (path_field (field w 0)) ≡ Ok (field w 0)
named w e = path_some (is_path (field w 0) && nat_le (length (field w 0)) 512) (field w 0) e

platform_run : (w : World) → is_some (path_field (field w 0)) ≡ true
    → run fits (right (meaning_of key_cmp edk) w) platform_stages ≡ given_as out.Platform (platform_value w)
platform_run w e =
    ap (λ (r : Result (List ℕ) Fault). run fits (right (meaning_of key_cmp edk) w) (attempt r (λ path. document_stages out.Platform platform_of [] (job_macros w) path))) (named w e)
    ∙ document_run w out.Platform platform_of [] (job_macros w) (field w 0)

pub platform_is : (w : World) → IsWorld (meaning_of key_cmp edk) w → value_in w key.Platform ≡ outcome_of (given_as out.Platform (platform_value w))
platform_is w e =
    value_is key_cmp edk edk_is_bounded w key.Platform ∙ ap outcome_of (platform_run w (both_hold (is_some (path_field (field w 0))) _ e).0)
