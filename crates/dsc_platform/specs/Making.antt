-- A platform's document of its parts, as the code makes it.
use Rattle.std.specs.Prelude.{ℕ, ◌++◌, List, Option, Some, None, unwrap_or, Result, Ok, Err, codes}
use Rattle.build_base.specs.First.{and_then}
use Rattle.build_base.specs.FaultCodes.{DSC_MISSING_KEY}
use Rattle.build_base.specs.declared.guid.Guid.{Guid as GuidBytes}
use Rattle.build_base.specs.declared.fault.Fault.{Fault}
use Rattle.doc_reading.specs.Missing.{missing_key}
use Rattle.doc_types.specs.declared.arch.Arch.{Arch}
use Rattle.doc_types.specs.declared.platform.PlatformDoc.{PlatformDoc}
use Rattle.dsc_platform.specs.declared.reading.Added.{Added}
use Rattle.dsc_platform.specs.declared.reading.Fields.{Fields}
use Rattle.dsc_platform.specs.declared.reading.Needed.{Needed}
use Rattle.dsc_platform.specs.declared.reading.Tabled.{Tabled}
use Rattle.dsc_platform.specs.declared.stated.Keys.{Keys}
use Rattle.dsc_platform.specs.declared.stated.Options.{Options}

abbrev pub needed_values : List ℕ → Option (List ℕ) → Option GuidBytes → Option (List Arch)
    → Result (List ℕ × GuidBytes × List Arch) Fault
needed_values root None guid arches =
    Err (missing_key DSC_MISSING_KEY root (codes "PLATFORM_NAME"))
needed_values root (Some name) None arches =
    Err (missing_key DSC_MISSING_KEY root (codes "PLATFORM_GUID"))
needed_values root (Some name) (Some guid) None =
    Err (missing_key DSC_MISSING_KEY root (codes "SUPPORTED_ARCHITECTURES"))
needed_values root (Some name) (Some guid) (Some arches) = Ok (name, guid, arches)

abbrev pub with_options : Options → List ℕ × GuidBytes × List Arch → Needed
with_options options values =
    record { name = values.0; guid = values.1; arches = values.2; options = options }

-- the values of the keys, where each required one is stated
abbrev pub needed_keys : List ℕ → Keys → Result Needed Fault
needed_keys root keys = and_then (needed_values root keys.name keys.guid keys.arches)
    (λ values. Ok (with_options keys.options values))

abbrev pub fields_of : Needed → Fields
fields_of needed =
    record {
      name = needed.name;
      guid = needed.guid;
      arches = needed.arches;
      output = unwrap_or needed.options.output (codes "Build/" ++ needed.name);
      sku_choice = unwrap_or needed.options.sku_choice (codes "DEFAULT");
      flash = needed.options.flash;
    }

abbrev pub joined_platform : Fields → Tabled → Added → PlatformDoc
joined_platform fields tabled added =
    record {
      at = record { path = added.root; line = 0 };
      name = fields.name;
      guid = fields.guid;
      output = fields.output;
      arches = fields.arches;
      sku_choice = fields.sku_choice;
      flash = fields.flash;
      skus = added.skus;
      libraries = tabled.libraries;
      components = tabled.components;
      pcds = tabled.pcds;
      macros = added.macros;
    }
