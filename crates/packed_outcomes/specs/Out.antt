-- The encoding of what steps give: the fields of a record in order, and an enum as the number of
-- the variant, in the order of declaration, and its fields. The rule is this project's own.
use Rattle.std.specs.Prelude.{◌≡◌, ◌⊎◌, ℕ, List, Option, refl}
use Rattle.std.proofs.Common.{inl, inr}
use Rattle.doc_types.specs.declared.choice.Choice.{Choice}
use Rattle.doc_types.specs.declared.package.DecDoc.{DecDoc}
use Rattle.doc_types.specs.declared.image.FileImage.{FileImage}
use Rattle.doc_types.specs.declared.flash.FlashDoc.{FlashDoc}
use Rattle.doc_types.specs.declared.module.InfDoc.{InfDoc}
use Rattle.doc_types.specs.declared.platform.PlatformDoc.{PlatformDoc}
use Rattle.doc_types.specs.declared.texts.Texts.{Texts}
use Rattle.doc_types.specs.declared.values.Values.{Values}
use Rattle.doc_types.specs.declared.vpd.Vpd.{Vpd}
use Rattle.step_pack.specs.declared.out.Out.{Out}
use Rattle.step_pack.specs.declared.out.Output.{Output}
use Rattle.step_pack.specs.declared.out.Out.TheVariants as out
use Rattle.packed_values.specs.Encoding.{Encoding}
use Rattle.packed_values.specs.Plain.{byte_encoding, text_encoding, path_encoding}
use Rattle.packed_values.specs.Parts.{encoding_by, pair_encoding, option_encoding, rows_encoding}
use Rattle.packed_values.specs.Arms.{arm, last_arm, tagged_encoding}
use Rattle.packed_documents.specs.Flash.{flash_doc_encoding}
use Rattle.packed_documents.specs.Made.{choice_encoding, file_image_encoding, texts_encoding, values_encoding, vpd_encoding}
use Rattle.packed_documents.specs.Module.{inf_doc_encoding}
use Rattle.packed_documents.specs.Package.{dec_doc_encoding}
use Rattle.packed_documents.specs.Platform.{platform_doc_encoding}
use Rattle.packed_outcomes.specs.Key.{key_encoding}

unfoldable pub output_encoding : Encoding Output
output_encoding = encoding_by (λ x. (x.path, (x.from, x.part)))
    (λ p. record { path = p.0; from = p.1.0; part = p.1.1 }) (λ x. refl)
    (pair_encoding path_encoding (pair_encoding key_encoding byte_encoding))

abbrev pub OutParts : Type 0
OutParts = DecDoc
    ⊎ (InfDoc
    ⊎ (PlatformDoc
    ⊎ (FlashDoc
    ⊎ (Choice
    ⊎ (Values
    ⊎ ((Option Texts)
    ⊎ (List ℕ ⊎ (FileImage ⊎ (List ℕ ⊎ (List ℕ ⊎ (List ℕ ⊎ (List Output ⊎ Vpd))))))))))))

abbrev pub out_parts : Out → OutParts
out_parts (out.Dec document) = inl document
out_parts (out.Inf document) = inr (inl document)
out_parts (out.Platform document) = inr (inr (inl document))
out_parts (out.Flash document) = inr (inr (inr (inl document)))
out_parts (out.Choice choice) = inr (inr (inr (inr (inl choice))))
out_parts (out.Values values) = inr (inr (inr (inr (inr (inl values)))))
out_parts (out.Code texts) = inr (inr (inr (inr (inr (inr (inl texts))))))
out_parts (out.Depex bytes) = inr (inr (inr (inr (inr (inr (inr (inl bytes)))))))
out_parts (out.File file) = inr (inr (inr (inr (inr (inr (inr (inr (inl file))))))))
out_parts (out.Volume image) = inr (inr (inr (inr (inr (inr (inr (inr (inr (inl image)))))))))
out_parts (out.Device image) = inr (inr (inr (inr (inr (inr (inr (inr (inr (inr (inl image))))))))))
out_parts (out.Report text) =
    inr (inr (inr (inr (inr (inr (inr (inr (inr (inr (inr (inl text)))))))))))
out_parts (out.All outputs) =
    inr (inr (inr (inr (inr (inr (inr (inr (inr (inr (inr (inr (inl outputs))))))))))))
out_parts (out.Vpd image) =
    inr (inr (inr (inr (inr (inr (inr (inr (inr (inr (inr (inr (inr image))))))))))))

abbrev pub out_of : OutParts → Out
out_of (inl document) = out.Dec document
out_of (inr (inl document)) = out.Inf document
out_of (inr (inr (inl document))) = out.Platform document
out_of (inr (inr (inr (inl document)))) = out.Flash document
out_of (inr (inr (inr (inr (inl choice))))) = out.Choice choice
out_of (inr (inr (inr (inr (inr (inl values)))))) = out.Values values
out_of (inr (inr (inr (inr (inr (inr (inl texts))))))) = out.Code texts
out_of (inr (inr (inr (inr (inr (inr (inr (inl bytes)))))))) = out.Depex bytes
out_of (inr (inr (inr (inr (inr (inr (inr (inr (inl file))))))))) = out.File file
out_of (inr (inr (inr (inr (inr (inr (inr (inr (inr (inl image)))))))))) = out.Volume image
out_of (inr (inr (inr (inr (inr (inr (inr (inr (inr (inr (inl image))))))))))) = out.Device image
out_of (inr (inr (inr (inr (inr (inr (inr (inr (inr (inr (inr (inl text)))))))))))) =
    out.Report text
out_of (inr (inr (inr (inr (inr (inr (inr (inr (inr (inr (inr (inr (inl outputs))))))))))))) =
    out.All outputs
out_of (inr (inr (inr (inr (inr (inr (inr (inr (inr (inr (inr (inr (inr image))))))))))))) =
    out.Vpd image

pub out_back : (x : Out) → out_of (out_parts x) ≡ x
out_back (out.Dec document) = refl
out_back (out.Inf document) = refl
out_back (out.Platform document) = refl
out_back (out.Flash document) = refl
out_back (out.Choice choice) = refl
out_back (out.Values values) = refl
out_back (out.Code texts) = refl
out_back (out.Depex bytes) = refl
out_back (out.File file) = refl
out_back (out.Volume image) = refl
out_back (out.Device image) = refl
out_back (out.Report text) = refl
out_back (out.All outputs) = refl
out_back (out.Vpd image) = refl

unfoldable pub out_encoding : Encoding Out
out_encoding = encoding_by out_parts out_of out_back
    (tagged_encoding
    (arm dec_doc_encoding
    (arm inf_doc_encoding
    (arm platform_doc_encoding
    (arm flash_doc_encoding
    (arm choice_encoding
    (arm values_encoding
    (arm (option_encoding texts_encoding)
    (arm text_encoding
    (arm file_image_encoding
    (arm text_encoding
    (arm text_encoding
    (arm text_encoding (arm (rows_encoding output_encoding) (last_arm vpd_encoding)))))))))))))))
