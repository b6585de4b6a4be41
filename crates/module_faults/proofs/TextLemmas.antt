-- The texts and the expression of a module fail by names where its own description is there.
use Rattle.std.proofs.Common.{◌≡◌, ℕ, List, [], ◌∷◌, map, Option, Some, None, Result, Ok, Err, refl, subst}
use Rattle.build_base.specs.First.{and_then, all_ok, with_front}
use Rattle.build_base.specs.declared.fault.Fault.{Fault}
use Rattle.build_base.specs.declared.guid.Guid.{Guid}
use Rattle.build_texts.specs.Code.{code_texts}
use Rattle.doc_types.specs.declared.choice.Choice.{Choice}
use Rattle.doc_types.specs.declared.choice.Module.{Module}
use Rattle.doc_types.specs.declared.module.InfDoc.{InfDoc}
use Rattle.doc_types.specs.declared.parts.ModuleParts.{ModuleParts}
use Rattle.doc_types.specs.declared.parts.Package.{Package}
use Rattle.doc_types.specs.declared.platform.PlatformDoc.{PlatformDoc}
use Rattle.doc_types.specs.declared.texts.Texts.{Texts}
use Rattle.doc_types.specs.declared.values.Values.{Values}
use Rattle.library_steps.specs.declared.parts.Described.{Described}
use Rattle.library_steps.specs.declared.parts.Linked.{Linked}
use Rattle.library_steps.specs.Parts.{linked_module, package_paths, described, parts}
use Rattle.text_steps.specs.Code.{own_guid, guid_or_own, file_guid, code_ask, some_texts, code_given}
use Rattle.step_answers.specs.Settings.{stated_guid}
use Rattle.text_steps.specs.Depex.{own_type, groups_of, depex_given}
use Rattle.named_faults.specs.Named.{FailsByName}
use Rattle.named_faults.proofs.NamedLemmas.{if_fails, then_fails}
use Rattle.module_faults.specs.Own.{HasOwn}
use Rattle.module_faults.proofs.DepexLemmas.{compiled_fails}
use Rattle.module_faults.proofs.GuidLemmas.{code_fails}

own_fails : (infs : List InfDoc) → HasOwn infs → FailsByName (own_guid infs)
own_fails [] h = absurd h
own_fails (inf ∷ infs) h = record {}

guid_fails : (stated : Option Guid) (infs : List InfDoc) → HasOwn infs → FailsByName (guid_or_own stated infs)
guid_fails (Some guid) infs h = record {}
guid_fails None infs h = own_fails infs h

file_fails : (platform : PlatformDoc) (held : ModuleParts) → HasOwn held.infs → FailsByName (file_guid platform held)
unfolding file_guid
file_fails platform held h = guid_fails (stated_guid platform held.«module») held.infs h

some_fails : (texts : Result Texts Fault) → FailsByName texts → FailsByName (some_texts texts)
some_fails (Ok texts) n = record {}
some_fails (Err fault) n = n

pub texts_fail : (platform : PlatformDoc) (choice : Choice) (values : Values) (held : ModuleParts) → HasOwn held.infs → FailsByName (code_given platform choice values held)
unfolding code_given
texts_fail platform choice values held h =
    if_fails choice.library _ _ (record {})
    (then_fails (file_guid platform held) _ (file_fails platform held h) (λ guid e. some_fails (code_texts (code_ask guid held choice values)) (code_fails (code_ask guid held choice values))))

type_fails : (infs : List InfDoc) → HasOwn infs → FailsByName (own_type infs)
type_fails [] h = absurd h
type_fails (inf ∷ infs) h = record {}

pub depex_fails : (choice : Choice) (held : ModuleParts) → HasOwn held.infs → FailsByName (depex_given choice held)
unfolding depex_given
depex_fails choice held h =
    if_fails choice.library _ _ (record {})
    (then_fails (own_type held.infs) _ (type_fails held.infs h) (λ kind e. compiled_fails kind (groups_of kind held)))

-- A module's own description is there.

front_own : (inf : InfDoc) (rest : Result (List InfDoc) Fault) (infs : List InfDoc) → with_front (inf ∷ []) rest ≡ Ok infs → HasOwn infs
front_own inf (Ok more) infs e = let s : inf ∷ more ≡ infs = cc in subst HasOwn s (record {})
front_own inf (Err fault) infs e = absurd cc

first_own : (first : Result InfDoc Fault) (rest : List (Result InfDoc Fault)) (infs : List InfDoc) → all_ok (first ∷ rest) ≡ Ok infs → HasOwn infs
first_own (Ok inf) rest infs e = front_own inf (all_ok rest) infs e
first_own (Err fault) rest infs e = absurd cc

described_own : (held : Linked) (infs : Result (List InfDoc) Fault) (packages : List (List ℕ) → Result (List Package) Fault) (made : ModuleParts) → ((found : List InfDoc) → infs ≡ Ok found → HasOwn found)
    → and_then (and_then infs (described held)) (λ d. and_then (packages d.packages) (parts d)) ≡ Ok made → HasOwn made.infs
described_own held (Err fault) packages made own e = absurd cc
described_own held (Ok infs) packages made own e =
    let d : Described = record { «module» = held.«module»; infs = infs; packages = package_paths held.«module».arch infs } in
    with_packages d (packages d.packages) made (own infs refl) e
  where
    with_packages : (d : Described) (found : Result (List Package) Fault) (made : ModuleParts) → HasOwn d.infs → and_then found (parts d) ≡ Ok made → HasOwn made.infs
    with_packages d (Ok found) made h e = let s : record { «module» = d.«module»; infs = d.infs; decs = found } ≡ made = cc in subst (λ m. HasOwn m.infs) s h
    with_packages d (Err fault) made h e = absurd cc

-- what a module's paths, each by one function, and its packages by another come to
pub module_own : (m : Module) (choice : Choice) (read : List ℕ → Result InfDoc Fault) (packages : List (List ℕ) → Result (List Package) Fault) (made : ModuleParts)
    → and_then (and_then (all_ok (map read (linked_module m choice).paths)) (described (linked_module m choice))) (λ d. and_then (packages d.packages) (parts d)) ≡ Ok made → HasOwn made.infs
module_own m choice read packages made e =
    described_own (linked_module m choice) (all_ok (map read (m.inf ∷ choice.instances))) packages made (λ found f. first_own (read m.inf) (map read choice.instances) found f) e
