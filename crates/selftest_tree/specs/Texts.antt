-- The texts of the workspace of `selftest`: a package, a platform, a flash description, and modules
-- that are numbered from
-- 0. They are this project's own.
use Rattle.std.specs.Prelude.{ℕ, zero, suc, ◌+◌, ◌/◌, ◌%◌, nat_lt, List, [], ◌∷◌, ◌++◌, codes, decimal, if◌then◌else◌}

-- what is said of each number below another, in order
unfoldable pub for_each : {A : Type 0} → (ℕ → List A) → ℕ → List A
for_each said zero = []
for_each said (suc n) = for_each said n ++ said n

-- `T.dec`
unfoldable pub package_text : List ℕ
package_text =
    codes "[Defines]\n" ++ codes "PACKAGE_NAME = T\n"
    ++ codes "PACKAGE_GUID = 00000000-0000-0000-0000-000000000002\n"
    ++ codes "[Guids]\n" ++ codes
    "gTs = { 0x1, 0x2, 0x3, { 0x4, 0x5, 0x6, 0x7, 0x8, 0x9, 0xA, 0xB } }\n"
    ++ codes "[PcdsFixedAtBuild]\n" ++ codes "gTs.P|0x1|UINT32|0x1\n"

unfoldable pub platform_front : List ℕ
platform_front =
    codes "[Defines]\n" ++ codes "PLATFORM_NAME = T\n"
    ++ codes "PLATFORM_GUID = 00000000-0000-0000-0000-000000000001\n"
    ++ codes "OUTPUT_DIRECTORY = Build/T\n" ++ codes "SUPPORTED_ARCHITECTURES = X64\n"
    ++ codes "FLASH_DEFINITION = T.fdf\n"
    ++ codes "[Components]\n"

-- `mK.inf`
unfoldable pub module_path : ℕ → List ℕ
module_path k = codes "m" ++ decimal k ++ codes ".inf"

unfoldable pub component_line : ℕ → List ℕ
component_line k = module_path k ++ codes "\n"

-- `T.dsc`, with n modules
unfoldable pub platform_text : ℕ → List ℕ
platform_text n = platform_front ++ for_each component_line n

unfoldable pub device_text : List ℕ
device_text =
    codes "[FD.T]\n" ++ codes "BaseAddress = 0x0\n" ++ codes "Size = 0x20000\n"
    ++ codes "ErasePolarity = 1\n"
    ++ codes "BlockSize = 0x1000\n" ++ codes "NumBlocks = 0x20\n" ++ codes "0x0|0x20000\n"
    ++ codes "FV = TFV\n"

unfoldable pub inf_line : ℕ → List ℕ
inf_line k = codes "INF " ++ component_line k

unfoldable pub rule_text : List ℕ
rule_text =
    codes "[Rule.Common.PEIM]\n" ++ codes "FILE PEIM = $(NAMED_GUID) {\n"
    ++ codes "PEI_DEPEX PEI_DEPEX $(INF_OUTPUT)/$(MODULE_NAME).depex\n"
    ++ codes "UI STRING=\"$(MODULE_NAME)\"\n" ++ codes "}\n"

-- `T.fdf`, with n modules in one volume
unfoldable pub flash_text : ℕ → List ℕ
flash_text n = device_text ++ codes "[FV.TFV]\n" ++ for_each inf_line n ++ rule_text

abbrev pub hex_digit : ℕ → ℕ
hex_digit d = if nat_lt d 10 then 48 + d else 55 + d

-- the last digits of a number in base 16, so many of them
unfoldable pub hex_digits : ℕ → ℕ → List ℕ
hex_digits zero k = []
hex_digits (suc count) k = hex_digits count (k / 16) ++ hex_digit (k % 16) ∷ []

unfoldable pub module_front : List ℕ
module_front = codes "[Defines]\n" ++ codes "BASE_NAME = m"

unfoldable pub guid_front : List ℕ
guid_front = codes "\nFILE_GUID = 00000000-0000-0000-0001-"

unfoldable pub module_back : List ℕ
module_back =
    codes "\nMODULE_TYPE = PEIM\n" ++ codes "[Packages]\n" ++ codes "T.dec\n"
    ++ codes "[FixedPcd]\n" ++ codes "gTs.P\n" ++ codes "[Depex]\n"

-- its GUID ends with K
unfoldable pub module_head : ℕ → List ℕ
module_head k = module_front ++ decimal k ++ guid_front ++ hex_digits 12 k

-- `mK.inf`, whose dependency expression is one word
unfoldable pub module_text : List ℕ → ℕ → List ℕ
module_text word k = module_head k ++ module_back ++ word ++ codes "\n"
