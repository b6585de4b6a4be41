-- What the steps of PCDs give, once all that they ask is answered (EDK II Build specification, PCD
-- values).
use Rattle.std.specs.Prelude.{List, Result}
use Rattle.build_base.specs.declared.fault.Fault.{Fault}
use Rattle.doc_types.specs.declared.asks.ModuleAsk.{ModuleAsk}
use Rattle.doc_types.specs.declared.asks.PlatformAsk.{PlatformAsk}
use Rattle.doc_types.specs.declared.flash.FlashDoc.{FlashDoc}
use Rattle.doc_types.specs.declared.parts.ModuleParts.{ModuleParts}
use Rattle.doc_types.specs.declared.pcd.PcdSet.{PcdSet}
use Rattle.doc_types.specs.declared.platform.PlatformDoc.{PlatformDoc}
use Rattle.doc_types.specs.declared.values.Values.{Values}
use Rattle.pcd_resolve.specs.Platform.{platform_values}
use Rattle.pcd_resolve.specs.Rows.{module_values}
use Rattle.step_answers.specs.declared.settings.Setting.{Setting}

abbrev pub platform_ask : PlatformDoc → FlashDoc → Setting → List ModuleParts → PlatformAsk
platform_ask platform flash setting modules = record {
  platform = platform;
  flash = flash;
  commands = setting.commands;
  skus = setting.skus;
  arches = setting.arches;
  modules = modules;
}

-- the rows of dynamic PCDs
abbrev pub pcds_given : PlatformDoc → FlashDoc → Setting → List ModuleParts → Result Values Fault
pcds_given platform flash setting modules =
    platform_values (platform_ask platform flash setting modules)

abbrev pub module_ask : PlatformDoc → FlashDoc → List PcdSet → Values → ModuleParts → ModuleAsk
module_ask platform flash commands dynamic parts = record {
  platform = platform;
  flash = flash;
  commands = commands;
  parts = parts;
  dynamic = dynamic;
}

-- the values of a module
abbrev pub values_given : PlatformDoc → FlashDoc → List PcdSet → Values → ModuleParts
    → Result Values Fault
values_given platform flash commands dynamic parts =
    module_values (module_ask platform flash commands dynamic parts)
