-- What the words of a build give its job: each text passes its check.
use Rattle.std.specs.Prelude.{◌&&◌, nat_eq, nat_le, fold, codes}
use Rattle.std.specs.Char.{to_ascii_lowercase, to_ascii_uppercase}
use Rattle.std.specs.Cmp.Lexicographic.{pointwise}
use Rattle.std.specs.List.{list_all}
use Rattle.std.specs.Option.{is_some, option_map}
use Rattle.std.proofs.Common.{◌≡◌, ◌∙◌, ℕ, Bool, true, false, if◌then◌else◌, List, [], ◌∷◌, ◌++◌, length, map, Option, Some, None, refl, ap, subst}
use Rattle.std.proofs.lemmas.Bool.{and_parts}
use Rattle.std.proofs.lemmas.Str.Ascii.{lowercase-uppercase}
use Rattle.build_base.specs.Path.{is_path, path_field}
use Rattle.clap.specs.Words.{Row, first_of}
use Rattle.doc_types.specs.Arches.{architectures, arch_named}
use Rattle.doc_types.specs.declared.arch.Arch.{Arch}
use Rattle.meta_lexer.specs.Lookup.{lookup}
use Rattle.meta_lexer.specs.Words.{same_word}
use Rattle.job_fields.specs.HasWords.{EachPasses, HasWords, IsFile, IsFileIfGiven, IsNameIfGiven}
use Rattle.job_fields.specs.Values.{is_arch, is_built, is_define, is_name, is_setting}
use Rattle.job_fields.specs.declared.job.Files.{Files}
use Rattle.job_fields.specs.declared.job.Images.{Images}
use Rattle.job_fields.specs.declared.job.Job.{Job}
use Rattle.job_fields.specs.declared.job.Names.{Names}
use Rattle.job_fields.specs.declared.job.Settings.{Settings}
use Rattle.job_fields.proofs.LineLemmas.{both_all}
use Rattle.build_words.specs.Command.{is_taken, rows_in}
use Rattle.build_words.specs.Jobs.{has_text, put_arch, arches_of, values_of, each_of, needed_path, optional_path, optional_name, files_of, files_in, names_of, names_in, arches_in, settings_of, settings_in, images_of, images_in, job_of, job_in, taken_job, words_job}

-- Values that may be repeated.

each_found : (test : List ℕ → Bool) (values texts : List (List ℕ)) → each_of test values ≡ Some texts → EachPasses test texts
each_found test values texts e = by (list_all test values) refl e
  where
    all : (xs : List (List ℕ)) → list_all test xs ≡ true → EachPasses test xs
    all [] t = tt
    all (x ∷ xs) t = let both = and_parts (test x) (list_all test xs) t in (both.0, all xs both.1)

    by : (b : Bool) → list_all test values ≡ b → (if b then Some values else None) ≡ Some texts → EachPasses test texts
    by true t f = let same : values ≡ texts = cc in subst (EachPasses test) same (all values t)
    by false t f = absurd cc

-- Files.

path_there : (text path : List ℕ) → path_field text ≡ Some path → IsFile path
path_there text path e = by (is_path text && nat_le (length text) 512) refl e
  where
    by : (b : Bool) → (is_path text && nat_le (length text) 512) ≡ b → (if b then Some text else None) ≡ Some path → IsFile path
    by true t f =
        let same : text ≡ path = cc in
        subst IsFile same (ap (λ (b : Bool). is_some (if b then Some text else None)) t)
    by false t f = absurd cc

needed_there : (text : Option (List ℕ)) (path : List ℕ) → needed_path text ≡ Some path → IsFile path
needed_there None path e = absurd cc
needed_there (Some text) path e = path_there text path e

found_there : (found path : Option (List ℕ)) → ((p : List ℕ) → found ≡ Some p → IsFile p) → option_map Some found ≡ Some path → IsFileIfGiven path
found_there None path there e = absurd cc
found_there (Some p) path there e = let same : Some p ≡ path = cc in subst IsFileIfGiven same (there p refl)

optional_there : (text path : Option (List ℕ)) → optional_path text ≡ Some path → IsFileIfGiven path
optional_there None path e = let same : None ≡ path = cc in subst IsFileIfGiven same tt
optional_there (Some text) path e = found_there (path_field text) path (λ p h. path_there text p h) e

abbrev HasFiles : Files → Type 0
HasFiles files = IsFile files.platform × IsFileIfGiven files.flash × IsFileIfGiven files.report

files_found : (platform : Option (List ℕ)) (flash report : Option (Option (List ℕ))) (files : Files) → ((x : List ℕ) → platform ≡ Some x → IsFile x)
    → ((x : Option (List ℕ)) → flash ≡ Some x → IsFileIfGiven x) → ((x : Option (List ℕ)) → report ≡ Some x → IsFileIfGiven x) → files_of platform flash report ≡ Some files → HasFiles files
files_found None flash report files p f r e = absurd cc
files_found (Some x) None report files p f r e = absurd cc
files_found (Some x) (Some y) None files p f r e = absurd cc
files_found (Some x) (Some y) (Some z) files p f r e =
    let same : record { platform = x; flash = y; report = z } ≡ files = cc in subst HasFiles same (p x refl, f y refl, r z refl)

-- Names.

name_found : (text name : Option (List ℕ)) → optional_name text ≡ Some name → IsNameIfGiven name
name_found None name e = let same : None ≡ name = cc in subst IsNameIfGiven same tt
name_found (Some text) name e = by (is_name text) refl e
  where
    by : (b : Bool) → is_name text ≡ b → (if b then Some (Some text) else None) ≡ Some name → IsNameIfGiven name
    by true t f = let same : Some text ≡ name = cc in subst IsNameIfGiven same t
    by false t f = absurd cc

abbrev HasNames : Names → Type 0
HasNames names = IsNameIfGiven names.target × IsNameIfGiven names.tag × IsNameIfGiven names.sku

abbrev FoundName : Option (Option (List ℕ)) → Type 0
FoundName name = (x : Option (List ℕ)) → name ≡ Some x → IsNameIfGiven x

names_found : (target tag sku : Option (Option (List ℕ))) (names : Names) → FoundName target → FoundName tag → FoundName sku → names_of target tag sku ≡ Some names → HasNames names
names_found None tag sku names a b c e = absurd cc
names_found (Some x) None sku names a b c e = absurd cc
names_found (Some x) (Some y) None names a b c e = absurd cc
names_found (Some x) (Some y) (Some z) names a b c e =
    let same : record { target = x; tag = y; sku = z } ≡ names = cc in subst HasNames same (a x refl, b y refl, c z refl)

-- Architectures.

lower_upper : (xs : List ℕ) → map to_ascii_lowercase (map to_ascii_uppercase xs) ≡ map to_ascii_lowercase xs
lower_upper [] = refl
lower_upper (x ∷ xs) = ap (λ y. y ∷ map to_ascii_lowercase (map to_ascii_uppercase xs)) (lowercase-uppercase x) ∙ ap (λ ys. to_ascii_lowercase x ∷ ys) (lower_upper xs)

lookup_same : (table : List (List ℕ × Arch)) (v w : List ℕ) → map to_ascii_lowercase v ≡ map to_ascii_lowercase w → lookup table v ≡ lookup table w
unfolding lookup same_word
lookup_same [] v w e = refl
lookup_same (entry ∷ table) v w e =
    ap (λ (z : List ℕ). if pointwise nat_eq z (map to_ascii_lowercase entry.0) then Some entry.1 else lookup table v) e
    ∙ ap (λ (o : Option Arch). if pointwise nat_eq (map to_ascii_lowercase w) (map to_ascii_lowercase entry.0) then Some entry.1 else o) (lookup_same table v w e)

upper_arch : (value : List ℕ) → is_arch value ≡ true → is_arch (map to_ascii_uppercase value) ≡ true
unfolding arch_named
upper_arch value e = ap is_built (lookup_same architectures (map to_ascii_uppercase value) value (lower_upper value)) ∙ e

abbrev AreArches : List (List ℕ) → Type 0
AreArches arches = EachPasses is_arch arches

put_kept : (values arches : List (List ℕ)) → AreArches values → AreArches arches → AreArches (fold put_arch arches values)
put_kept [] arches e h = h
put_kept (value ∷ values) arches e h = put_kept values (put_arch arches value) e.1 (by (has_text arches upper))
  where
    upper : List ℕ
    upper = map to_ascii_uppercase value

    by : (b : Bool) → AreArches (if b then arches else arches ++ upper ∷ [])
    by true = h
    by false = both_all (λ text. is_arch text ≡ true) arches (upper ∷ []) h (upper_arch value e.0, tt)

arches_found : (found : Option (List (List ℕ))) (arches : List (List ℕ)) → ((x : List (List ℕ)) → found ≡ Some x → AreArches x) → option_map arches_of found ≡ Some arches → AreArches arches
arches_found None arches h e = absurd cc
arches_found (Some texts) arches h e = let same : arches_of texts ≡ arches = cc in subst AreArches same (put_kept texts [] (h texts refl) tt)

-- Macros, and values of PCDs.

abbrev HasSettings : Settings → Type 0
HasSettings settings = EachPasses is_define settings.defines × EachPasses is_setting settings.pcds

settings_found : (defines pcds : Option (List (List ℕ))) (settings : Settings) → ((x : List (List ℕ)) → defines ≡ Some x → EachPasses is_define x)
    → ((x : List (List ℕ)) → pcds ≡ Some x → EachPasses is_setting x) → settings_of defines pcds ≡ Some settings → HasSettings settings
settings_found None pcds settings a b e = absurd cc
settings_found (Some x) None settings a b e = absurd cc
settings_found (Some x) (Some y) settings a b e =
    let same : record { defines = x; pcds = y } ≡ settings = cc in subst HasSettings same (a x refl, b y refl)

-- Images.

abbrev HasImages : Images → Type 0
HasImages images = EachPasses is_name images.devices × EachPasses is_name images.volumes

images_found : (devices volumes : Option (List (List ℕ))) (images : Images) → ((x : List (List ℕ)) → devices ≡ Some x → EachPasses is_name x)
    → ((x : List (List ℕ)) → volumes ≡ Some x → EachPasses is_name x) → images_of devices volumes ≡ Some images → HasImages images
images_found None volumes images a b e = absurd cc
images_found (Some x) None images a b e = absurd cc
images_found (Some x) (Some y) images a b e =
    let same : record { devices = x; volumes = y } ≡ images = cc in subst HasImages same (a x refl, b y refl)

-- Jobs.

job_has : (files : Option Files) (names : Option Names) (arches : Option (List (List ℕ))) (settings : Option Settings) (images : Option Images) (workers : Option ℕ) (job : Job)
    → ((x : Files) → files ≡ Some x → HasFiles x) → ((x : Names) → names ≡ Some x → HasNames x) → ((x : List (List ℕ)) → arches ≡ Some x → AreArches x)
    → ((x : Settings) → settings ≡ Some x → HasSettings x) → ((x : Images) → images ≡ Some x → HasImages x) → job_of files names arches settings images workers ≡ Some job → HasWords job
job_has None names arches settings images workers job hf hn ha hs hi e = absurd cc
job_has (Some f) None arches settings images workers job hf hn ha hs hi e = absurd cc
job_has (Some f) (Some n) None settings images workers job hf hn ha hs hi e = absurd cc
job_has (Some f) (Some n) (Some a) None images workers job hf hn ha hs hi e = absurd cc
job_has (Some f) (Some n) (Some a) (Some s) None workers job hf hn ha hs hi e = absurd cc
job_has (Some f) (Some n) (Some a) (Some s) (Some i) None job hf hn ha hs hi e = absurd cc
job_has (Some f) (Some n) (Some a) (Some s) (Some i) (Some w) job hf hn ha hs hi e =
    let same : record { files = f; names = n; arches = a; settings = s; images = i; workers = w } ≡ job = cc in
    let files : HasFiles f = hf f refl in
    let names : HasNames n = hn n refl in
    let settings : HasSettings s = hs s refl in
    let images : HasImages i = hi i refl in
    subst HasWords same
    (record {
      platform = files.0;
      flash = files.1;
      report = files.2;
      target = names.0;
      tag = names.1;
      sku = names.2;
      arches = ha a refl;
      defines = settings.0;
      pcds = settings.1;
      devices = images.0;
      volumes = images.1;
    })

rows_have_words : (rows : List Row) (job : Job) → job_in rows ≡ Some job → HasWords job
unfolding job_in files_in names_in arches_in settings_in images_in
rows_have_words rows job e =
    job_has (files_in rows) (names_in rows) (arches_in rows) (settings_in rows) (images_in rows) _ job files names arches settings images e
  where
    files : (x : Files) → files_in rows ≡ Some x → HasFiles x
    files x f =
        files_found (needed_path (first_of (codes "platform") rows)) (optional_path (first_of (codes "fdf") rows)) (optional_path (first_of (codes "report-file") rows)) x
        (needed_there (first_of (codes "platform") rows)) (optional_there (first_of (codes "fdf") rows)) (optional_there (first_of (codes "report-file") rows)) f

    names : (x : Names) → names_in rows ≡ Some x → HasNames x
    names x f =
        names_found (optional_name (first_of (codes "buildtarget") rows)) (optional_name (first_of (codes "tagname") rows)) (optional_name (first_of (codes "sku-id") rows)) x
        (name_found (first_of (codes "buildtarget") rows)) (name_found (first_of (codes "tagname") rows)) (name_found (first_of (codes "sku-id") rows)) f

    arches : (x : List (List ℕ)) → arches_in rows ≡ Some x → AreArches x
    arches x f =
        arches_found (each_of is_arch (values_of (codes "arch") rows)) x (each_found is_arch (values_of (codes "arch") rows)) f

    settings : (x : Settings) → settings_in rows ≡ Some x → HasSettings x
    settings x f =
        settings_found (each_of is_define (values_of (codes "define") rows)) (each_of is_setting (values_of (codes "pcd") rows)) x
        (each_found is_define (values_of (codes "define") rows)) (each_found is_setting (values_of (codes "pcd") rows)) f

    images : (x : Images) → images_in rows ≡ Some x → HasImages x
    images x f =
        images_found (each_of is_name (values_of (codes "rom-image") rows)) (each_of is_name (values_of (codes "fv-image") rows)) x
        (each_found is_name (values_of (codes "rom-image") rows)) (each_found is_name (values_of (codes "fv-image") rows)) f

taken_has : (words : List (List ℕ)) (job : Job) → taken_job words ≡ Some job → HasWords job
taken_has words job e = by (is_taken words) e
  where
    by : (b : Bool) → (if b then job_in (rows_in words) else None) ≡ Some job → HasWords job
    by true f = rows_have_words (rows_in words) job f
    by false f = absurd cc

pub words_have : (words : List (List ℕ)) (job : Job) → words_job words ≡ Some job → HasWords job
unfolding words_job
words_have [] job e = absurd cc
words_have (name ∷ options) job e = by (pointwise nat_eq name (codes "build")) e
  where
    by : (b : Bool) → (if b then taken_job (name ∷ options) else None) ≡ Some job → HasWords job
    by true f = taken_has (name ∷ options) job f
    by false f = absurd cc
