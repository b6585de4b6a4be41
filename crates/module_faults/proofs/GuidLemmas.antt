-- The names of a module's INF files, and its texts, fail by names.
use Rattle.std.proofs.Common.{ℕ, List, [], ◌∷◌, map, Option, Some, None, Result}
use Rattle.build_base.specs.declared.fault.Fault.{Fault}
use Rattle.build_base.specs.declared.guid.Guid.{Guid}
use Rattle.build_texts.specs.declared.asks.CodeAsk.{CodeAsk}
use Rattle.build_texts.specs.Code.{code_texts}
use Rattle.build_texts.specs.Named.{Declared, Found, found_guid, first_guid, lines_of, line_guids, all_of, inf_guids, module_guids, package_lines}
use Rattle.doc_types.specs.declared.arch.Arch.{Arch}
use Rattle.doc_types.specs.declared.module.InfDoc.{InfDoc}
use Rattle.doc_types.specs.declared.module.Named.{Named}
use Rattle.doc_types.specs.declared.parts.ModuleParts.{ModuleParts}
use Rattle.pcd_resolve.specs.Listing.{packages_of}
use Rattle.pcd_resolve.specs.Names.{covers}
use Rattle.named_faults.specs.Named.{FailsByName}
use Rattle.named_faults.proofs.NamedLemmas.{if_fails, then_fails, front_fails}
use Rattle.named_faults.proofs.CodeLemmas.{autogen_guid_unknown_named}

found_fails : (named : Named) (guid : Option Guid) → FailsByName (found_guid named guid)
found_fails named None = autogen_guid_unknown_named
found_fails named (Some guid) = record {}

line_fails : (arch : Arch) (lines : List Declared) (paths : List (List ℕ)) (named : Named) → FailsByName (line_guids arch lines paths named)
unfolding line_guids
line_fails arch lines paths named = if_fails (covers named.arch arch) _ _ (found_fails named (first_guid arch (lines_of named.name lines) paths)) (record {})

all_fail : {X : Type 0} (f : X → Result (List Found) Fault) (xs : List X) → ((x : X) → FailsByName (f x)) → FailsByName (all_of (map f xs))
all_fail f [] n = record {}
all_fail f (x ∷ xs) n = then_fails (f x) _ (n x) (λ front e. front_fails front (all_of (map f xs)) (all_fail f xs n))

inf_fails : (arch : Arch) (lines : List Declared) (inf : InfDoc) → FailsByName (inf_guids arch lines inf)
unfolding inf_guids
inf_fails arch lines inf = all_fail (line_guids arch lines (packages_of arch inf)) inf.guids (line_fails arch lines (packages_of arch inf))

guids_fail : (parts : ModuleParts) → FailsByName (module_guids parts)
unfolding module_guids
guids_fail parts =
    all_fail (inf_guids parts.«module».arch (package_lines parts.decs)) parts.infs (inf_fails parts.«module».arch (package_lines parts.decs))

pub code_fails : (ask : CodeAsk) → FailsByName (code_texts ask)
unfolding code_texts
code_fails ask = then_fails (module_guids ask.parts) _ (guids_fail ask.parts) (λ named e. record {})
