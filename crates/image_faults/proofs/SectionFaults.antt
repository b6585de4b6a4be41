-- Faults of the sections of a module's file have names.
use Rattle.std.proofs.Common.{Err, List, None, Ok, Option, Result, Some, length, ℕ, ◌&&◌, ◌==◌}
use Rattle.build_base.specs.First.{and_then}
use Rattle.build_base.specs.declared.fault.Fault.{Fault}
use Rattle.named_faults.proofs.NamedLemmas.{if_fails, if_named, then_fails}
use Rattle.named_faults.specs.Named.{FailsByName, HasName, IsNamed}
use Rattle.named_faults.proofs.CodeLemmas.{file_too_long_named}
use Rattle.doc_types.specs.declared.image.Part.{Part}
use Rattle.doc_types.specs.declared.volume.Align.{Align}
use Rattle.doc_types.specs.declared.volume.Align.TheVariants as align
use Rattle.doc_types.specs.declared.volume.SectionPlan.{SectionPlan}
use Rattle.te_images.specs.Pe.{section_alignment_of}
use Rattle.te_images.specs.declared.fault.PeFault.{PeFault}
use Rattle.step_answers.specs.Contents.{section_absent}
use Rattle.file_steps.specs.Words.{words_bytes}
use Rattle.file_steps.specs.Files.{file_align}
use Rattle.file_steps.specs.Parts.{as_is, file_shaped, header_guid}
use Rattle.file_steps.specs.declared.parts.Shaped.{Shaped}
use Rattle.file_steps.specs.Required.{requiring}
use Rattle.file_steps.specs.Sections.{absent_at, absent_fault, absent_part, auto_align, content_align, expression_fault, expression_part, file_part, part_of, part_with, plain_part, some_part, too_long, words_part}
use Rattle.image_faults.proofs.ContentFaults.{guid_fails, pe_fault_named, section_absent_named, shaped_fails}
use Rattle.image_faults.specs.Served.{GuidStands}

pub too_long_named : (path : List ℕ) → HasName (too_long path)
too_long_named path = file_too_long_named

absent_named : (path : List ℕ) (section : Option SectionPlan) → IsNamed (absent_at path section)
absent_named path None = tt
absent_named path (Some section) = section_absent_named section.at path

pub absent_fault_named : (sections : List SectionPlan) (path : List ℕ) → IsNamed (absent_fault sections path)
absent_fault_named sections path = absent_named path (requiring sections path)

pub expression_named : (depex : List ℕ) (sections : List SectionPlan) (bytes : List ℕ) → IsNamed (expression_fault depex sections bytes)
expression_named depex sections bytes = if_named (length bytes == 0) (absent_fault sections depex) None (absent_fault_named sections depex) tt

auto_fails : (path bytes : List ℕ) (read : Result ℕ PeFault) → FailsByName (auto_align path bytes read)
auto_fails path bytes (Ok n) = tt
auto_fails path bytes (Err fault) = pe_fault_named path bytes fault

align_fails : (kind : ℕ) (path bytes : List ℕ) (stated : Align) → FailsByName (content_align kind path bytes stated)
align_fails kind path bytes align.Unset = tt
align_fails kind path bytes align.Auto = auto_fails path bytes (section_alignment_of bytes)
align_fails kind path bytes (align.Bytes n) = tt

of_fails : (section : SectionPlan) (n : ℕ) (content : Shaped) → GuidStands section → FailsByName (part_of section n content)
of_fails section n content g = then_fails (header_guid section.kind section.guid) (part_with section n content) (guid_fails section g) (λ guid e. tt)

pub file_part_fails : (section : SectionPlan) (path bytes : List ℕ) → GuidStands section → FailsByName (file_part section path bytes)
unfolding file_part
file_part_fails section path bytes g =
    let aligned : Shaped → Result Part Fault = λ content. and_then (content_align section.kind path bytes section.align) (λ n. part_of section n content) in
    then_fails (file_shaped section.kind path bytes) aligned (shaped_fails section.kind path bytes)
    (λ content b.
    then_fails (content_align section.kind path bytes section.align) (λ n. part_of section n content) (align_fails section.kind path bytes section.align) (λ n c. of_fails section n content g))

plain_fails : (section : SectionPlan) (bytes : List ℕ) → GuidStands section → FailsByName (plain_part section bytes)
unfolding plain_part
plain_fails section bytes g = of_fails section (file_align section.align) (as_is bytes) g

pub some_part_fails : (part : Result Part Fault) → FailsByName part → FailsByName (some_part part)
some_part_fails (Ok part) n = tt
some_part_fails (Err fault) n = n

pub absent_part_fails : (section : SectionPlan) (path : List ℕ) → FailsByName (absent_part section path)
absent_part_fails section path = if_fails section.optional (Ok None) (Err (section_absent section.at path)) tt (section_absent_named section.at path)

pub expression_part_fails : (section : SectionPlan) (path bytes : List ℕ) → GuidStands section → FailsByName (expression_part section path bytes)
expression_part_fails section path bytes g =
    if_fails (length bytes == 0) (absent_part section path) (some_part (plain_part section bytes)) (absent_part_fails section path) (some_part_fails (plain_part section bytes) (plain_fails section bytes g))

pub words_part_fails : (section : SectionPlan) (text : List ℕ) → GuidStands section → FailsByName (words_part section text)
words_part_fails section text g =
    let bytes : List ℕ = words_bytes section.kind section.number text in
    if_fails (section.optional && length text == 0) (Ok None) (some_part (plain_part section bytes)) tt (some_part_fails (plain_part section bytes) (plain_fails section bytes g))
