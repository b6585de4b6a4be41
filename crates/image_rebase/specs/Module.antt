-- The module that a section holds: a PE32 image (PE/COFF format) or a TE image (UEFI PI
-- specification, volume 1). Which modules are moved to the address at which they lie is this
-- project's own rule.
use Rattle.std.specs.Prelude.{ℕ, ◌+◌, ◌-◌, ◌*◌, ◌==◌, ◌||◌, Bool, true, not, nat_lt, if◌then◌else◌, List, length, slice_index, Option, Some, None, Result, Ok, Err}
use Rattle.byteorder.specs.Endian.{little_from}
use Rattle.te_images.specs.Standard.{IMAGE_SIZEOF_SECTION_HEADER}
use Rattle.te_images.specs.Pe.{optional_header, is_pe32_plus}
use Rattle.te_images.specs.Te.{te_of}
use Rattle.te_images.specs.declared.fault.PeFault.{PeFault}
use Rattle.te_images.specs.declared.te.TeHead.{TeHead}
use Rattle.image_rebase.specs.Standard.{EFI_TE_IMAGE_HEADER_SIGNATURE, EFI_TE_IMAGE_HEADER_SIZE, EFI_SECTION_PE32, EFI_SECTION_TE}
use Rattle.image_rebase.specs.declared.module.Module.{Module}

-- a module stays whose relocation directory has no bytes
abbrev pub with_relocations : Module → Option Module
with_relocations m = if m.size == 0 then None else Some m

-- where ImageBase stands in the optional header
abbrev pub base_offset : Bool → ℕ
base_offset plus = if plus then 0x18 else 0x1C

-- What the headers of a PE32 image say. A relative address is the place in the content, and
-- ImageBase has 64 bits in PE32+ alone.
unfoldable pub pe_fields : List ℕ → TeHead → Module
pe_fields content head = record {
  skip = 0;
  table = head.stripped;
  sections = head.sections;
  base = head.base;
  base_at = optional_header content + base_offset (is_pe32_plus content);
  wide = is_pe32_plus content;
  address = slice_index head.relocation 0;
  size = slice_index head.relocation 1;
}

-- a PE32 image stays that no TE image can be made of
abbrev pub pe_with : List ℕ → Result TeHead PeFault → Option Module
pe_with content (Err fault) = None
pe_with content (Ok head) = with_relocations (pe_fields content head)

unfoldable pub pe_module : List ℕ → Option Module
pe_module content = pe_with content (te_of content)

-- StrippedSize of a TE image
unfoldable pub stripped_size : List ℕ → ℕ
stripped_size content = little_from 0x06 2 content

-- A TE image stays that is shorter than its header and its section table, that doesn't begin with
-- "VZ", or whose StrippedSize is less than the header's length.
unfoldable pub is_no_te : List ℕ → Bool
is_no_te content =
    nat_lt (length content)
    (EFI_TE_IMAGE_HEADER_SIZE + IMAGE_SIZEOF_SECTION_HEADER * slice_index content 0x04)
    || not (little_from 0x00 2 content == EFI_TE_IMAGE_HEADER_SIGNATURE)
    || nat_lt (stripped_size content) EFI_TE_IMAGE_HEADER_SIZE

-- What the header of a TE image says. In the content the header stands in place of the first
-- StrippedSize bytes of the PE file, to which relative addresses go.
unfoldable pub te_fields : List ℕ → Module
te_fields content = record {
  skip = stripped_size content - EFI_TE_IMAGE_HEADER_SIZE;
  table = EFI_TE_IMAGE_HEADER_SIZE;
  sections = slice_index content 0x04;
  base = little_from 0x10 8 content;
  base_at = 0x10;
  wide = true;
  address = little_from 0x18 4 content;
  size = little_from 0x1C 4 content;
}

unfoldable pub te_module : List ℕ → Option Module
te_module content = if is_no_te content then None else with_relocations (te_fields content)

-- the module that is moved in the content of a section of this kind; None where the content stays
unfoldable pub module_in : ℕ → List ℕ → Option Module
module_in kind content =
    if kind == EFI_SECTION_PE32 then pe_module content else if kind == EFI_SECTION_TE
    then te_module content else None
