-- What the words settle fails by names.
use Rattle.std.specs.Option.{is_some}
use Rattle.std.proofs.Common.{◌≡◌, ℕ, true, List, [], Option, Some, None, refl}
use Rattle.build_base.specs.FaultCodes.{ARCH_UNSUPPORTED}
use Rattle.build_base.specs.FaultText.{fault_of}
use Rattle.build_base.specs.declared.fault.Place.{Place}
use Rattle.job_fields.specs.Readings.{texts_in, each_there, arches_in, sets_in}
use Rattle.meta_lexer.specs.Faults.{first_fault}
use Rattle.doc_types.specs.Arches.{arch_named}
use Rattle.doc_types.specs.declared.platform.PlatformDoc.{PlatformDoc}
use Rattle.step_answers.specs.Settings.{named_arches, is_supported, arch_unsupported, skus_fault, named_skus, command_line_pcds, arches_built, built_modules, words_checked, setting_of}
use Rattle.step_answers.specs.Readers.{or_impossible}
use Rattle.pcd_resolve.specs.Platform.{is_all, sku_unknown}
use Rattle.text_steps.specs.Report.{report_modules}
use Rattle.named_faults.specs.Named.{IsNamed, FailsByName}
use Rattle.named_faults.proofs.NamedLemmas.{if_named, or_else_named, then_fails, or_fault_fails, fault_unless_named}
use Rattle.named_faults.proofs.CodeLemmas.{arch_unsupported_named}
use Rattle.text_faults.proofs.PartLemmas.{first_fault_named}
use Rattle.module_faults.specs.Words.{AreArches, AreSets}
use Rattle.module_faults.proofs.PcdLemmas.{unknown_named}

-- What has a reading.
pub read_fails : {A : Type 0} (read : Option A) → is_some read ≡ true → FailsByName (or_impossible read)
read_fails None e = absurd cc
read_fails (Some x) e = record {}

-- Architectures.

pub built_fails : (platform : PlatformDoc) (arches : List ℕ) → AreArches arches → FailsByName (arches_built platform arches)
unfolding arches_built
built_fails platform arches a = then_fails (named_arches arches) _ (read_fails (arches_in arches) a) (λ named e. record {})

pub modules_fail : (platform : PlatformDoc) (arches : List ℕ) → AreArches arches → FailsByName (built_modules platform arches)
unfolding built_modules
modules_fail platform arches a = then_fails (arches_built platform arches) _ (built_fails platform arches a) (λ built e. record {})

-- Values of PCDs.

pub commands_fail : (at : Place) (text : List ℕ) → AreSets text → FailsByName (command_line_pcds at text)
commands_fail at text a = read_fails (sets_in at text) (a at)

-- What both settle.

arch_named_fault : (platform : PlatformDoc) (text : List ℕ) → IsNamed (arch_unsupported platform text)
unfolding arch_unsupported
arch_named_fault platform text = fault_unless_named (is_supported platform.arches (arch_named text)) (fault_of ARCH_UNSUPPORTED platform.at text) arch_unsupported_named

skus_named : (platform : PlatformDoc) (names : List (List ℕ)) → IsNamed (skus_fault platform names)
skus_named platform names = if_named (is_all names) _ _ (record {}) (first_fault_named (sku_unknown platform) names (unknown_named platform))

words_named : (platform : PlatformDoc) (skus arches : List (List ℕ)) → IsNamed (words_checked platform skus arches)
words_named platform skus arches =
    or_else_named (skus_fault platform skus) (first_fault (arch_unsupported platform) arches) (skus_named platform skus) (first_fault_named (arch_unsupported platform) arches (arch_named_fault platform))

pub setting_fails : (platform : PlatformDoc) (arches sku pcds : List ℕ) → AreArches arches → AreSets pcds → FailsByName (setting_of platform arches sku pcds)
unfolding setting_of
setting_fails platform arches sku pcds a s =
    then_fails (named_arches arches) _ (read_fails (arches_in arches) a) (λ named e.
    then_fails (command_line_pcds platform.at pcds) _ (commands_fail platform.at pcds s) (λ commands e.
    or_fault_fails (words_checked platform (named_skus sku) (texts_in arches)) _ (words_named platform (named_skus sku) (texts_in arches)) (λ e. record {})))

no_sets : AreSets []
unfolding sets_in texts_in each_there
no_sets = λ at. refl

pub report_fails : (platform : PlatformDoc) (arches : List ℕ) → AreArches arches → FailsByName (report_modules platform arches)
unfolding report_modules
report_fails platform arches a = then_fails (setting_of platform arches [] []) _ (setting_fails platform arches [] [] a no_sets) (λ setting e. record {})
