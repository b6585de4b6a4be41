-- Which entries of a cache still hold that a build of an older edition left. An edition is a number
-- in the text of a cache: it rises where a definition of a step is changed. The rule is this
-- project's own.
use Rattle.std.specs.Prelude.{◌≡◌, ℕ, ◌&&◌, ◌||◌, not, Bool, true, false, nat_le, nat_lt, List, [], ◌∷◌, if◌then◌else◌}
use Rattle.build_stages.specs.Stages.{Staged}
use Rattle.step_engine.specs.declared.talk.Entry.{Entry}
use Rattle.step_pack.specs.declared.key.Key.{Key}
use Rattle.step_pack.specs.declared.key.Key.TheVariants as key
use Rattle.step_pack.specs.declared.out.Out.{Out}
use Rattle.step_answers.specs.Fits.{fits}
use Rattle.job_fields.specs.Readings.{is_job}
use Rattle.build_rules.specs.Rules.{stages_of, rank_of, most_of}
use Rattle.step_answers.specs.Readers.{EdkStages}

-- steps of images and of the whole build: each edition before 5 has other definitions of these
abbrev pub is_image : Key → Bool
is_image (key.File v i) = true
is_image (key.Volume v) = true
is_image (key.Based v) = true
is_image (key.Device d) = true
is_image key.All = true
is_image _ = false

-- steps of dependency expressions: conjunctions weren't simplified before edition 3
abbrev pub is_depex : Key → Bool
is_depex (key.Depex m) = true
is_depex _ = false

-- the step of vital product data, which there wasn't before edition 4
abbrev pub is_vpd : Key → Bool
is_vpd key.Vpd = true
is_vpd _ = false

-- a step whose definition is that of an edition before 5, where that has one
abbrev pub is_same : ℕ → Key → Bool
is_same edition k = not (is_image k) && (not (is_depex k) || nat_lt 2 edition)

-- whether the entry of a key stays
abbrev pub stays : ℕ → Key → Bool
stays edition k = nat_le 5 edition || (is_same edition k && (not (is_vpd k) || nat_lt 3 edition))

-- the entries that stay
unfoldable pub adopted : ℕ → List (Entry Key Out) → List (Entry Key Out)
adopted edition [] = []
adopted edition (entry ∷ entries) =
    if stays edition entry.key then entry ∷ adopted edition entries else adopted edition entries

-- definitions of the steps of an older edition: whatever those of the other steps were
abbrev pub AreOlder : ℕ → (Key → EdkStages) → Type 0
AreOlder edition older = (k : Key) → is_same edition k ≡ true → older k ≡ stages_of k

abbrev pub by_older : (Key → EdkStages) → Staged Key Out
by_older older =
    record { stages = older; rank = rank_of; most = most_of; fits = fits; is_job = is_job }
