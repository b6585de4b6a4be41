-- Faults of the choice of a rule have names, and each number that is chosen is that of a rule.
use Rattle.std.proofs.Common.{Bool, Err, List, None, Ok, Option, Some, [], ap, length, ℕ, ◌<◌, ◌∷◌, ◌≡◌}
use Rattle.std.proofs.lemmas.List.Quantifiers.{position-Some}
use Rattle.std.specs.List.{position}
use Rattle.build_base.specs.FaultCodes.{ARCH_AMBIGUOUS}
use Rattle.build_base.specs.FaultText.{fault_of}
use Rattle.build_base.specs.First.{or_else}
use Rattle.build_base.specs.declared.fault.Place.{Place}
use Rattle.named_faults.proofs.NamedLemmas.{if_fails}
use Rattle.named_faults.specs.Named.{FailsByName}
use Rattle.named_faults.proofs.CodeLemmas.{arch_ambiguous_named, not_a_component_named, rule_absent_named}
use Rattle.doc_types.specs.declared.arch.Arch.{Arch}
use Rattle.doc_types.specs.declared.arch.Arch.TheVariants.{Common}
use Rattle.doc_types.specs.declared.module_type.ModuleType.{ModuleType}
use Rattle.doc_types.specs.declared.platform.Component.{Component}
use Rattle.doc_types.specs.declared.volume.InfLine.{InfLine}
use Rattle.doc_types.specs.declared.volume.RuleDoc.{RuleDoc}
use Rattle.rule_choice.specs.Modules.{arch_among, having, inf_arch, is_among, no_component, only_arch, other_arch}
use Rattle.rule_choice.specs.Rules.{is_for, placed, rule_name, rule_of, rule_place}

-- The architecture of a module.

only_fails : (line : InfLine) (arches : List Arch) → FailsByName (only_arch line arches)
only_fails line [] = not_a_component_named
only_fails line (arch ∷ arches) = if_fails (other_arch arch arches) (Err (fault_of ARCH_AMBIGUOUS line.at line.inf)) (Ok arch) arch_ambiguous_named tt

among_fails : (line : InfLine) (arches : List Arch) (arch : Option Arch) → FailsByName (arch_among line arches arch)
among_fails line arches None = only_fails line arches
among_fails line arches (Some arch) = if_fails (is_among arch arches) (Ok arch) (Err (no_component line)) tt not_a_component_named

pub arch_fails : (line : InfLine) (components : List Component) (arches : List Arch) → FailsByName (inf_arch line components arches)
arch_fails line components arches = among_fails line (having components line.inf arches) line.arch

-- The rule.

placed_fails : (at : Place) (name : List ℕ) (place : Option ℕ) → FailsByName (placed at name place)
placed_fails at name (Some place) = tt
placed_fails at name None = rule_absent_named

pub rule_fails : (rules : List RuleDoc) (line : InfLine) (arch : Arch) (kind : ModuleType) → FailsByName (rule_of rules line arch kind)
rule_fails rules line arch kind = placed_fails line.at (rule_name arch kind line.template) (rule_place rules arch kind line.template)

position_below : {A : Type 0} (test : A → Bool) (xs : List A) (n : ℕ) → position test xs ≡ Some n → n < length xs
position_below test [] n e = absurd cc
position_below test (x ∷ xs) n e = (position-Some test (x ∷ xs) n x e).0

either_below : (a b : Option ℕ) (count n : ℕ) → (a ≡ Some n → n < count) → (b ≡ Some n → n < count) → or_else a b ≡ Some n → n < count
either_below None b count n x y e = y e
either_below (Some k) b count n x y e = x e

placed_is : (at : Place) (name : List ℕ) (place : Option ℕ) (n : ℕ) → placed at name place ≡ Ok n → place ≡ Some n
placed_is at name (Some place) n e = let k : place ≡ n = cc in ap (λ (m : ℕ). Some m) k
placed_is at name None n e = absurd cc

pub rule_below : (rules : List RuleDoc) (line : InfLine) (arch : Arch) (kind : ModuleType) (n : ℕ) → rule_of rules line arch kind ≡ Ok n → n < length rules
rule_below rules line arch kind n e =
    let own : Option ℕ = position (is_for arch kind line.template) rules in
    let every : Option ℕ = position (is_for Common kind line.template) rules in
    either_below own every (length rules) n (position_below (is_for arch kind line.template) rules n) (position_below (is_for Common kind line.template) rules n)
    (placed_is line.at (rule_name arch kind line.template) (or_else own every) n e)
