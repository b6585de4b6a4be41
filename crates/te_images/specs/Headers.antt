-- What is known of the headers that were found.
use Rattle.std.specs.Prelude.{◌≡◌, ◌≤◌, ℕ, IsTrue, List, length}
use Rattle.te_images.specs.Pe.{e_lfanew, size_of_optional_header, is_pe32_plus, section_table}
use Rattle.te_images.specs.Standard.{IMAGE_SIZEOF_OPTIONAL32_HEADER, IMAGE_SIZEOF_OPTIONAL64_HEADER}
use Rattle.te_images.specs.declared.pe.PeHeaders.{PeHeaders}

-- These are the headers of the file, and they lie within it.
pub record AreHeaders (file : List ℕ) (headers : PeHeaders) : Type 0 where
  pub at : headers.signature ≡ e_lfanew file
  pub size : headers.optional_size ≡ size_of_optional_header file
  pub plus : headers.is_pe32_plus ≡ is_pe32_plus file
  pub inside : section_table file ≤ length file
  pub least : IMAGE_SIZEOF_OPTIONAL32_HEADER ≤ size_of_optional_header file
  pub least_plus : IsTrue (is_pe32_plus file)
      → IMAGE_SIZEOF_OPTIONAL64_HEADER ≤ size_of_optional_header file
