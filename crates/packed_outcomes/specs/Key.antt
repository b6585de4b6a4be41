-- The encoding of the keys of steps: the number of the variant, in the order of declaration, and
-- its fields. The rule is this project's own.
use Rattle.std.specs.Prelude.{◌≡◌, ◌⊎◌, ℕ, List, refl}
use Rattle.std.proofs.Common.{inl, inr}
use Rattle.doc_types.specs.declared.choice.Module.{Module}
use Rattle.step_pack.specs.declared.key.Key.{Key}
use Rattle.step_pack.specs.declared.key.Key.TheVariants as key
use Rattle.packed_values.specs.Encoding.{Encoding}
use Rattle.packed_values.specs.Plain.{number_encoding, path_encoding}
use Rattle.packed_values.specs.Parts.{encoding_by, pair_encoding}
use Rattle.packed_values.specs.Arms.{arm, last_arm, tagged_encoding, unit_encoding}
use Rattle.packed_documents.specs.Made.{module_encoding}

abbrev pub KeyParts : Type 0
KeyParts = List ℕ
    ⊎ (List ℕ
    ⊎ (Unit {0}
    ⊎ (Unit {0}
    ⊎ (Module
    ⊎ (Unit {0}
    ⊎ (Module
    ⊎ (Module ⊎ (Module ⊎ ((ℕ × ℕ) ⊎ (ℕ ⊎ (ℕ ⊎ (Unit {0} ⊎ (Unit {0} ⊎ (Unit {0} ⊎ ℕ))))))))))))))

abbrev pub key_parts : Key → KeyParts
key_parts (key.Dec path) = inl path
key_parts (key.Inf path) = inr (inl path)
key_parts key.Platform = inr (inr (inl tt))
key_parts key.Flash = inr (inr (inr (inl tt)))
key_parts (key.Choice built) = inr (inr (inr (inr (inl built))))
key_parts key.PlatformPcds = inr (inr (inr (inr (inr (inl tt)))))
key_parts (key.Values built) = inr (inr (inr (inr (inr (inr (inl built))))))
key_parts (key.Code built) = inr (inr (inr (inr (inr (inr (inr (inl built)))))))
key_parts (key.Depex built) = inr (inr (inr (inr (inr (inr (inr (inr (inl built))))))))
key_parts (key.File volume item) =
    inr (inr (inr (inr (inr (inr (inr (inr (inr (inl (volume, item))))))))))
key_parts (key.Volume number) =
    inr (inr (inr (inr (inr (inr (inr (inr (inr (inr (inl number))))))))))
key_parts (key.Device number) =
    inr (inr (inr (inr (inr (inr (inr (inr (inr (inr (inr (inl number)))))))))))
key_parts key.Report =
    inr (inr (inr (inr (inr (inr (inr (inr (inr (inr (inr (inr (inl tt))))))))))))
key_parts key.All =
    inr (inr (inr (inr (inr (inr (inr (inr (inr (inr (inr (inr (inr (inl tt)))))))))))))
key_parts key.Vpd =
    inr (inr (inr (inr (inr (inr (inr (inr (inr (inr (inr (inr (inr (inr (inl tt))))))))))))))
key_parts (key.Based number) =
    inr (inr (inr (inr (inr (inr (inr (inr (inr (inr (inr (inr (inr (inr (inr number))))))))))))))

abbrev pub key_of : KeyParts → Key
key_of (inl path) = key.Dec path
key_of (inr (inl path)) = key.Inf path
key_of (inr (inr (inl _))) = key.Platform
key_of (inr (inr (inr (inl _)))) = key.Flash
key_of (inr (inr (inr (inr (inl built))))) = key.Choice built
key_of (inr (inr (inr (inr (inr (inl _)))))) = key.PlatformPcds
key_of (inr (inr (inr (inr (inr (inr (inl built))))))) = key.Values built
key_of (inr (inr (inr (inr (inr (inr (inr (inl built)))))))) = key.Code built
key_of (inr (inr (inr (inr (inr (inr (inr (inr (inl built))))))))) = key.Depex built
key_of (inr (inr (inr (inr (inr (inr (inr (inr (inr (inl p)))))))))) = key.File p.0 p.1
key_of (inr (inr (inr (inr (inr (inr (inr (inr (inr (inr (inl number))))))))))) = key.Volume number
key_of (inr (inr (inr (inr (inr (inr (inr (inr (inr (inr (inr (inl number)))))))))))) =
    key.Device number
key_of (inr (inr (inr (inr (inr (inr (inr (inr (inr (inr (inr (inr (inl _))))))))))))) = key.Report
key_of (inr (inr (inr (inr (inr (inr (inr (inr (inr (inr (inr (inr (inr (inl _)))))))))))))) =
    key.All
key_of (inr (inr (inr (inr (inr (inr (inr (inr (inr (inr (inr (inr (inr (inr (inl _))))))))))))))) =
    key.Vpd
key_of
    (inr
    (inr (inr (inr (inr (inr (inr (inr (inr (inr (inr (inr (inr (inr (inr number))))))))))))))) =
    key.Based number

pub key_back : (x : Key) → key_of (key_parts x) ≡ x
key_back (key.Dec path) = refl
key_back (key.Inf path) = refl
key_back key.Platform = refl
key_back key.Flash = refl
key_back (key.Choice built) = refl
key_back key.PlatformPcds = refl
key_back (key.Values built) = refl
key_back (key.Code built) = refl
key_back (key.Depex built) = refl
key_back (key.File volume item) = refl
key_back (key.Volume number) = refl
key_back (key.Device number) = refl
key_back key.Report = refl
key_back key.All = refl
key_back key.Vpd = refl
key_back (key.Based number) = refl

unfoldable pub key_encoding : Encoding Key
key_encoding = encoding_by key_parts key_of key_back
    (tagged_encoding
    (arm path_encoding
    (arm path_encoding
    (arm unit_encoding
    (arm unit_encoding
    (arm module_encoding
    (arm unit_encoding
    (arm module_encoding
    (arm module_encoding
    (arm module_encoding
    (arm (pair_encoding (number_encoding 4) (number_encoding 4))
    (arm (number_encoding 4)
    (arm (number_encoding 4)
    (arm unit_encoding
    (arm unit_encoding (arm unit_encoding (last_arm (number_encoding 4))))))))))))))))))
