-- The files of a volume that is read stand one behind the other, and no other list of files does.
use Rattle.std.proofs.Common.{◌≡◌, ℕ, zero, suc, ◌+◌, ◌-◌, ◌%◌, ◌<◌, ◌≤◌, ◌==◌, Bool, true, false, if◌then◌else◌, List, [], ◌∷◌, length, get_or, take, drop, Result, Ok, Err, refl, ap, sym, ◌∙◌, ◌↔◌, arith, length-drop, subst}
use Rattle.std.proofs.lemmas.Bool.Decides.{nat_tests}
use Rattle.std.proofs.lemmas.List.Folds.{list_all_at}
use Rattle.build_base.specs.Runs.{free_byte}
use Rattle.ffs_sections.specs.File.{header_len, state_of}
use Rattle.fv_compose.specs.Place.{align_up}
use Rattle.fv_compose.proofs.PlaceLemmas.{up_after}
use Rattle.volume_reader.specs.declared.listed.Listed.{Listed}
use Rattle.volume_reader.specs.declared.listed.VolumeList.{VolumeList}
use Rattle.volume_reader.specs.Head.{fv_length, header_length, is_ffs3, erase_polarity}
use Rattle.volume_reader.specs.Files.{file_state, stated_size, has_header, has_state, has_size, is_file, listed_file}
use Rattle.volume_reader.specs.Volume.{with_files, are_erased, held_from, list_of, volume_list}
use Rattle.volume_laws.specs.Holds.{AreFilesFrom, none, some, IsWrongFrom, here, later, Holds, IsWrong}

-- what a walk finds, a type that the reader doesn't name for others
abbrev Found : {A E : Type 0} → Result A E → Type 0
Found {A = A} found = A

abbrev Held : Type 0
Held = Found (held_from 0 true 0 [] 0)

-- What is known of a file: it is within the bytes, and longer than its header.
record IsFile (erase : ℕ) (bytes : List ℕ) : Type 0 where
  head : header_len bytes ≤ length bytes
  least : header_len bytes ≤ stated_size bytes
  inside : stated_size bytes ≤ length bytes
  state : file_state bytes ≡ state_of erase

file_known : (ffs3 : Bool) (erase : ℕ) (bytes : List ℕ) → is_file ffs3 erase bytes ≡ true → IsFile erase bytes
unfolding is_file has_header has_state has_size
file_known ffs3 erase bytes e = record {
  head = grind (arith, nat_tests, e);
  least = grind (arith, nat_tests, e);
  inside = grind (arith, nat_tests, e);
  state = grind (arith, nat_tests, e);
}

head_least : (bytes : List ℕ) → 24 ≤ header_len bytes
unfolding header_len
head_least bytes = elim (get_or bytes 19 0 % 2 == 1) as (λ b. 24 ≤ (if b then 32 else 24)) [ true ↦ omega arith | false ↦ omega arith ]

state_other : (erase : ℕ) → (state_of erase == free_byte erase) ≡ false
state_other erase = elim (erase == 0) as (λ b. ((if b then 7 else 255 - 7) == (if b then 0 else 255)) ≡ false) [ true ↦ refl | false ↦ refl ]

-- a file isn't erased
used : (ffs3 : Bool) (erase : ℕ) (bytes : List ℕ) → is_file ffs3 erase bytes ≡ true → are_erased erase bytes ≡ false
unfolding are_erased file_state
used ffs3 erase bytes e =
    let k : IsFile erase bytes = file_known ffs3 erase bytes e in
    let h : header_len bytes ≤ length bytes = k.head in
    let l : 24 ≤ header_len bytes = head_least bytes in
    let other : (get_or bytes 23 0 == free_byte erase) ≡ false = ap (λ z. z == free_byte erase) k.state ∙ state_other erase in
    list_all_at (λ b. b == free_byte erase) bytes 23 0 (omega arith) other

-- the row of a file at a place, and where the next one is looked for
abbrev row_at : Bool → List ℕ → ℕ → Listed
row_at ffs3 volume at = listed_file ffs3 at (drop at volume)

abbrev end_at : List ℕ → ℕ → ℕ
end_at volume at = at + stated_size (drop at volume)

-- one file more, or the end
abbrev turn : Bool → List ℕ → ℕ → (erased file : Bool) → Result Held ℕ → Result Held ℕ
turn ffs3 volume at erased file rest =
    if erased then Ok (record { files = []; free = length volume - at })
    else if file then with_files (row_at ffs3 volume at ∷ []) rest
    else Err at

abbrev IsErased : ℕ → List ℕ → ℕ → Bool
IsErased erase volume at = are_erased erase (drop at volume)

abbrev HasFile : Bool → ℕ → List ℕ → ℕ → Bool
HasFile ffs3 erase volume at = is_file ffs3 erase (drop at volume)

held_turn : (n : ℕ) (ffs3 : Bool) (erase : ℕ) (volume : List ℕ) (at : ℕ)
    → held_from (suc n) ffs3 erase volume at
    ≡ turn ffs3 volume at (IsErased erase volume at) (HasFile ffs3 erase volume at) (held_from n ffs3 erase volume (align_up 8 (end_at volume at)))
unfolding held_from
held_turn n ffs3 erase volume at = refl

-- a file ends within the volume, and has some bytes
record IsWithin (volume : List ℕ) (at : ℕ) : Type 0 where
  some : at + 24 ≤ end_at volume at
  inside : end_at volume at ≤ length volume

within : (ffs3 : Bool) (erase : ℕ) (volume : List ℕ) (at : ℕ) → HasFile ffs3 erase volume at ≡ true → IsWithin volume at
within ffs3 erase volume at e =
    let bytes : List ℕ = drop at volume in
    let k : IsFile erase bytes = file_known ffs3 erase bytes e in
    let a : header_len bytes ≤ stated_size bytes = k.least in
    let b : stated_size bytes ≤ length bytes = k.inside in
    let c : 24 ≤ header_len bytes = head_least bytes in
    let d : length bytes ≡ length volume - at = length-drop at volume in
    record { some = omega arith; inside = omega arith }

-- the steps that are left after a file
less : (ffs3 : Bool) (erase : ℕ) (volume : List ℕ) (at n : ℕ) → HasFile ffs3 erase volume at ≡ true → length volume < suc n + at
    → (length volume < n + align_up 8 (end_at volume at)) × (0 < n)
less ffs3 erase volume at n e h =
    let w : IsWithin volume at = within ffs3 erase volume at e in
    let a : at + 24 ≤ end_at volume at = w.some in
    let b : end_at volume at ≤ length volume = w.inside in
    let c : end_at volume at ≤ align_up 8 (end_at volume at) = up_after 8 (end_at volume at) (omega arith) in
    (omega arith, omega arith)

-- What the walk finds stands in the relation.

held_by : (ffs3 : Bool) (erase : ℕ) (volume : List ℕ) (end : ℕ) (erased file : Bool) (rest : Result Held ℕ) (held : Held)
    → IsErased erase volume (align_up 8 end) ≡ erased → HasFile ffs3 erase volume (align_up 8 end) ≡ file
    → ((more : Held) → rest ≡ Ok more → AreFilesFrom ffs3 erase volume (end_at volume (align_up 8 end)) more.files more.free)
    → turn ffs3 volume (align_up 8 end) erased file rest ≡ Ok held → AreFilesFrom ffs3 erase volume end held.files held.free
unfolding listed_file
held_by ffs3 erase volume end true file rest held a f k e =
    let free : ℕ = length volume - align_up 8 end in
    let last : Held = record { files = []; free = free } in
    let s : last ≡ held = cc in
    subst (λ h. AreFilesFrom ffs3 erase volume end h.files h.free) s (none end free (record { erased = a; rest = refl }))
held_by ffs3 erase volume end false true (Ok more) held a f k e =
    let row : Listed = row_at ffs3 volume (align_up 8 end) in
    let whole : Held = record { files = row ∷ more.files; free = more.free } in
    let s : whole ≡ held = cc in
    subst (λ h. AreFilesFrom ffs3 erase volume end h.files h.free) s (some end more.free row more.files (record { file = f; told = refl }) (k more refl))
held_by ffs3 erase volume end false true (Err place) held a f k e = absurd cc
held_by ffs3 erase volume end false false rest held a f k e = absurd cc

held_stands : (n : ℕ) (ffs3 : Bool) (erase : ℕ) (volume : List ℕ) (end : ℕ) (held : Held) → held_from n ffs3 erase volume (align_up 8 end) ≡ Ok held
    → AreFilesFrom ffs3 erase volume end held.files held.free
unfolding held_from
held_stands zero ffs3 erase volume end held e = absurd cc
held_stands (suc n) ffs3 erase volume end held e =
    held_by ffs3 erase volume end (IsErased erase volume (align_up 8 end)) (HasFile ffs3 erase volume (align_up 8 end))
    (held_from n ffs3 erase volume (align_up 8 (end_at volume (align_up 8 end)))) held refl refl
    (λ more o. held_stands n ffs3 erase volume (end_at volume (align_up 8 end)) more o) e

wrong_by : (ffs3 : Bool) (erase : ℕ) (volume : List ℕ) (end place : ℕ) (erased file : Bool) (rest : Result Held ℕ)
    → IsErased erase volume (align_up 8 end) ≡ erased → HasFile ffs3 erase volume (align_up 8 end) ≡ file
    → (HasFile ffs3 erase volume (align_up 8 end) ≡ true → rest ≡ Err place → IsWrongFrom ffs3 erase volume (end_at volume (align_up 8 end)) place)
    → turn ffs3 volume (align_up 8 end) erased file rest ≡ Err place → IsWrongFrom ffs3 erase volume end place
unfolding listed_file
wrong_by ffs3 erase volume end place true file rest a f k e = absurd cc
wrong_by ffs3 erase volume end place false true (Ok more) a f k e = absurd cc
wrong_by ffs3 erase volume end place false true (Err other) a f k e =
    later end place (row_at ffs3 volume (align_up 8 end)) (record { file = f; told = refl }) (k f e)
wrong_by ffs3 erase volume end place false false rest a f k e =
    let s : place ≡ align_up 8 end = cc in
    here end place s (record {
      file = ap (λ z. is_file ffs3 erase (drop z volume)) s ∙ f;
      erased = ap (λ z. are_erased erase (drop z volume)) s ∙ a;
    })

wrong_stands : (n : ℕ) (ffs3 : Bool) (erase : ℕ) (volume : List ℕ) (end place : ℕ) → length volume < n + align_up 8 end → 0 < n
    → held_from n ffs3 erase volume (align_up 8 end) ≡ Err place → IsWrongFrom ffs3 erase volume end place
unfolding held_from
wrong_stands zero ffs3 erase volume end place h k e = absurd (omega arith)
wrong_stands (suc n) ffs3 erase volume end place h k e =
    wrong_by ffs3 erase volume end place (IsErased erase volume (align_up 8 end)) (HasFile ffs3 erase volume (align_up 8 end))
    (held_from n ffs3 erase volume (align_up 8 (end_at volume (align_up 8 end)))) refl refl
    (λ f o. let l = less ffs3 erase volume (align_up 8 end) n f h in wrong_stands n ffs3 erase volume (end_at volume (align_up 8 end)) place l.0 l.1 o) e

-- What stands in the relation the walk finds.

file_turn : (n : ℕ) (ffs3 : Bool) (erase : ℕ) (volume : List ℕ) (at : ℕ) → HasFile ffs3 erase volume at ≡ true
    → held_from (suc n) ffs3 erase volume at ≡ with_files (row_at ffs3 volume at ∷ []) (held_from n ffs3 erase volume (align_up 8 (end_at volume at)))
file_turn n ffs3 erase volume at f =
    let a : IsErased erase volume at ≡ false = used ffs3 erase (drop at volume) f in
    let rest : Result Held ℕ = held_from n ffs3 erase volume (align_up 8 (end_at volume at)) in
    held_turn n ffs3 erase volume at ∙ ap (λ b. turn ffs3 volume at b (HasFile ffs3 erase volume at) rest) a ∙ ap (λ b. turn ffs3 volume at false b rest) f

-- a row tells where its file ends
row_end : (ffs3 : Bool) (volume : List ℕ) (at : ℕ) (row : Listed) → row ≡ row_at ffs3 volume at → row.place + row.size ≡ end_at volume at
unfolding listed_file
row_end ffs3 volume at row e = ap (λ r. r.place + r.size) e

files_found : (ffs3 : Bool) (erase : ℕ) (volume : List ℕ) (end free : ℕ) (rows : List Listed) → AreFilesFrom ffs3 erase volume end rows free
    → (n : ℕ) → length volume < n + align_up 8 end → 0 < n → held_from n ffs3 erase volume (align_up 8 end) ≡ Ok (record { files = rows; free = free })
files_found ffs3 erase volume end free rows s zero h k = absurd (omega arith)
files_found ffs3 erase volume end free [] (none _ _ f) (suc n) h k =
    let rest : Result Held ℕ = held_from n ffs3 erase volume (align_up 8 (end_at volume (align_up 8 end))) in
    held_turn n ffs3 erase volume (align_up 8 end) ∙ ap (λ b. turn ffs3 volume (align_up 8 end) b (HasFile ffs3 erase volume (align_up 8 end)) rest) f.erased
    ∙ ap (λ z. Ok (record { files = []; free = z })) (sym f.rest)
files_found ffs3 erase volume end free (row ∷ rows) (some _ _ _ _ f more) (suc n) h k =
    let at : ℕ = align_up 8 end in
    let next : row.place + row.size ≡ end_at volume at = row_end ffs3 volume at row f.told in
    let l = less ffs3 erase volume at n f.file h in
    let there : AreFilesFrom ffs3 erase volume (end_at volume at) rows free = subst (λ z. AreFilesFrom ffs3 erase volume z rows free) next more in
    file_turn n ffs3 erase volume at f.file ∙ ap (with_files (row_at ffs3 volume at ∷ [])) (files_found ffs3 erase volume (end_at volume at) free rows there n l.0 l.1)
    ∙ ap (λ z. Ok (record { files = z ∷ rows; free = free })) (sym f.told)

wrong_found : (ffs3 : Bool) (erase : ℕ) (volume : List ℕ) (end place : ℕ) → IsWrongFrom ffs3 erase volume end place
    → (n : ℕ) → length volume < n + align_up 8 end → 0 < n → held_from n ffs3 erase volume (align_up 8 end) ≡ Err place
wrong_found ffs3 erase volume end place s zero h k = absurd (omega arith)
wrong_found ffs3 erase volume end place (here _ _ e w) (suc n) h k =
    let at : ℕ = align_up 8 end in
    let rest : Result Held ℕ = held_from n ffs3 erase volume (align_up 8 (end_at volume at)) in
    let a : IsErased erase volume at ≡ false = ap (IsErased erase volume) (sym e) ∙ w.erased in
    let f : HasFile ffs3 erase volume at ≡ false = ap (HasFile ffs3 erase volume) (sym e) ∙ w.file in
    held_turn n ffs3 erase volume at ∙ ap (λ b. turn ffs3 volume at b (HasFile ffs3 erase volume at) rest) a ∙ ap (λ b. turn ffs3 volume at false b rest) f
    ∙ ap (λ z. Err z) (sym e)
wrong_found ffs3 erase volume end place (later _ _ row f more) (suc n) h k =
    let at : ℕ = align_up 8 end in
    let next : row.place + row.size ≡ end_at volume at = row_end ffs3 volume at row f.told in
    let l = less ffs3 erase volume at n f.file h in
    let there : IsWrongFrom ffs3 erase volume (end_at volume at) place = subst (λ z. IsWrongFrom ffs3 erase volume z place) next more in
    file_turn n ffs3 erase volume at f.file ∙ ap (with_files (row_at ffs3 volume at ∷ [])) (wrong_found ffs3 erase volume (end_at volume at) place there n l.0 l.1)

-- The volume that an image begins with.

abbrev bytes_of : List ℕ → List ℕ
bytes_of bytes = take (fv_length bytes) bytes

abbrev held_of : List ℕ → Result Held ℕ
held_of bytes = held_from (length (bytes_of bytes) + 1) (is_ffs3 bytes) (erase_polarity bytes) (bytes_of bytes) (align_up 8 (header_length bytes))

list_is : (bytes : List ℕ) → volume_list bytes ≡ list_of bytes (held_of bytes)
unfolding volume_list
list_is bytes = refl

abbrev list_with : List ℕ → Held → VolumeList
list_with bytes held = record { length = fv_length bytes; ffs3 = is_ffs3 bytes; files = held.files; free = held.free }

holds_by : (bytes : List ℕ) (found : Result Held ℕ) (list : VolumeList) → held_of bytes ≡ found → list_of bytes found ≡ Ok list → Holds bytes list
holds_by bytes (Ok held) list f e =
    let s : list_with bytes held ≡ list = cc in
    let files : AreFilesFrom (is_ffs3 bytes) (erase_polarity bytes) (bytes_of bytes) (header_length bytes) held.files held.free =
    held_stands (length (bytes_of bytes) + 1) (is_ffs3 bytes) (erase_polarity bytes) (bytes_of bytes) (header_length bytes) held f in
    subst (Holds bytes) s (record { length = refl; ffs3 = refl; files = files })
holds_by bytes (Err place) list f e = absurd cc

pub list_holds : (bytes : List ℕ) (list : VolumeList) → volume_list bytes ≡ Ok list → Holds bytes list
list_holds bytes list e = holds_by bytes (held_of bytes) list refl (sym (list_is bytes) ∙ e)

steps_left : (volume : List ℕ) (end : ℕ) → (length volume < (length volume + 1) + align_up 8 end) × (0 < length volume + 1)
steps_left volume end = (omega arith, omega arith)

pub holds_list : (bytes : List ℕ) (list : VolumeList) → Holds bytes list → volume_list bytes ≡ Ok list
holds_list bytes list h =
    let volume : List ℕ = bytes_of bytes in
    let l = steps_left volume (header_length bytes) in
    let f : held_of bytes ≡ Ok (record { files = list.files; free = list.free }) =
    files_found (is_ffs3 bytes) (erase_polarity bytes) volume (header_length bytes) list.free list.files h.files (length volume + 1) l.0 l.1 in
    list_is bytes ∙ ap (list_of bytes) f
    ∙ ap (λ z. Ok (record { length = z; ffs3 = is_ffs3 bytes; files = list.files; free = list.free })) (sym h.length)
    ∙ ap (λ z. Ok (record { length = list.length; ffs3 = z; files = list.files; free = list.free })) (sym h.ffs3)

abbrev done : VolumeList → Result VolumeList ℕ
done list = Ok list

pub holds_one : (bytes : List ℕ) (list other : VolumeList) → Holds bytes list → Holds bytes other → list ≡ other
holds_one bytes list other h k =
    let e : done list ≡ done other = sym (holds_list bytes list h) ∙ holds_list bytes other k in cc

wrong_of : (bytes : List ℕ) (found : Result Held ℕ) (place : ℕ) → list_of bytes found ≡ Err place → found ≡ Err place
wrong_of bytes (Ok held) place e = absurd cc
wrong_of bytes (Err other) place e = let s : other ≡ place = cc in ap (λ z. Err z) s

pub list_wrong : (bytes : List ℕ) (place : ℕ) → volume_list bytes ≡ Err place → IsWrong bytes place
list_wrong bytes place e =
    let volume : List ℕ = bytes_of bytes in
    let l = steps_left volume (header_length bytes) in
    wrong_stands (length volume + 1) (is_ffs3 bytes) (erase_polarity bytes) volume (header_length bytes) place l.0 l.1
    (wrong_of bytes (held_of bytes) place (sym (list_is bytes) ∙ e))

pub wrong_list : (bytes : List ℕ) (place : ℕ) → IsWrong bytes place → volume_list bytes ≡ Err place
wrong_list bytes place w =
    let volume : List ℕ = bytes_of bytes in
    let l = steps_left volume (header_length bytes) in
    list_is bytes ∙ ap (list_of bytes) (wrong_found (is_ffs3 bytes) (erase_polarity bytes) volume (header_length bytes) place w (length volume + 1) l.0 l.1)

pub list_read : (bytes : List ℕ) (list : VolumeList) → volume_list bytes ≡ Ok list ↔ Holds bytes list
list_read bytes list = (list_holds bytes list, holds_list bytes list)

pub wrong_read : (bytes : List ℕ) (place : ℕ) → volume_list bytes ≡ Err place ↔ IsWrong bytes place
wrong_read bytes place = (list_wrong bytes place, wrong_list bytes place)
