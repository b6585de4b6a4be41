-- Whether a platform has lines of vital product data (EDK II DSC specification, [PcdsDynamicVpd]
-- sections).
use Rattle.std.specs.Prelude.{Bool}
use Rattle.std.specs.List.{list_any}
use Rattle.doc_types.specs.declared.platform.PlatformDoc.{PlatformDoc}
use Rattle.vpd_image.specs.Entries.{is_vpd}

-- of its own, those of components apart
abbrev pub has_vpd : PlatformDoc → Bool
has_vpd platform = list_any (λ line. is_vpd line.store) platform.pcds
