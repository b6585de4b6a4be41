-- What is read of a volume whose modules are moved.
use Rattle.std.proofs.Common.{◌≡◌, ℕ, List, [], ◌∷◌, length, map, All, Option, Some, None, Result, Ok, refl, ap, sym, ◌∙◌, subst}
use Rattle.std.proofs.lemmas.List.Elements.{All-nil, All-cons, All-head, All-tail}
use Rattle.build_base.specs.First.{unless, with_front}
use Rattle.build_base.specs.declared.fault.Fault.{Fault}
use Rattle.doc_types.specs.declared.image.FileImage.{FileImage}
use Rattle.doc_types.specs.declared.volume_head.VolumeHead.{VolumeHead}
use Rattle.fv_compose.specs.Header.{header_end}
use Rattle.fv_compose.specs.Turns.{next_end}
use Rattle.fv_compose.specs.Volume.{place_fault, twice_fault, length_of, volume_of}
use Rattle.fv_compose.specs.Places.{placed_at, placed_from, places_in, places_with, places_of}
use Rattle.volume_reader.specs.declared.listed.VolumeList.{VolumeList}
use Rattle.volume_reader.specs.Volume.{volume_list}
use Rattle.volume_reader.specs.Written.{Made, files_of, IsMade, IsWritten, written_list}
use Rattle.volume_reader.proofs.WrittenLemmas.{written_head, written_found, written_listed}
use Rattle.image_rebase.specs.Files.{moved_file, moved_files}
use Rattle.image_rebase.specs.Rebase.{base_of, moved_volume, rebased_bytes}
use Rattle.image_rebase.proofs.SameLemmas.{through}
use Rattle.image_rebase.proofs.BodyLemmas.{fronted}
use Rattle.image_rebase.specs.Changes.{Stays, StaysBut}
use Rattle.image_rebase.proofs.VolumeLemmas.{stays_but}
use Rattle.volume_laws.specs.Moved.{bare, IsAlike, AreBuilt, IsReadAlike}
use Rattle.volume_laws.proofs.LikeLemmas.{AreLike, like_list}
use Rattle.volume_laws.proofs.FileLemmas.{IsMoved, file_moved}

-- files that are made of plans, and the same files with their modules moved
record AreMoved (head : VolumeHead) (made : List Made) (files : List FileImage) : Type 0 where
  now : List Made
  files_are : files_of now ≡ files
  made_are : All (IsMade head) now
  like : AreLike head.ffs3 made now

none_moved : (head : VolumeHead) → AreMoved head [] []
unfolding AreLike
none_moved head = record { now = []; files_are = refl; made_are = All-nil (IsMade head); like = tt }

one_moved : (head : VolumeHead) (one : Made) (made : List Made) (file : FileImage) (files : List FileImage) → IsMoved head one file → AreMoved head made files → AreMoved head (one ∷ made) (file ∷ files)
unfolding AreLike
one_moved head one made file files m r = record {
  now = m.now ∷ r.now;
  files_are = ap (λ f. f ∷ files_of r.now) m.file_is ∙ ap (λ z. file ∷ z) r.files_are;
  made_are = All-cons (IsMade head) m.now r.now m.made_is r.made_are;
  like = (m.like, r.like);
}

all_moved : (head : VolumeHead) (base size at : ℕ) (made : List Made) (files : List FileImage) → All (IsMade head) made
    → moved_files head.ffs3 base (files_of made) (placed_from size at (files_of made)) ≡ Ok files → AreMoved head made files
unfolding moved_files placed_from
all_moved head base size at [] files a e = let s : [] ≡ files = cc in subst (AreMoved head []) s (none_moved head)
all_moved head base size at (one ∷ made) files a e =
    let start : ℕ = placed_at size at one.file in
    let rest : Result (List FileImage) Fault = moved_files head.ffs3 base (files_of made) (placed_from size (next_end at one.file) (files_of made)) in
    through (moved_file head.ffs3 base start one.file) (λ file. with_front (file ∷ []) rest) files e
    (λ file b c.
    fronted (file ∷ []) rest files c
    (λ more d j.
    subst (AreMoved head (one ∷ made)) j
    (one_moved head one made file more (file_moved head one base start file (All-head (IsMade head) one made a) b)
    (all_moved head base size (next_end at one.file) made more (All-tail (IsMade head) one made a) d))))

-- places are those of a volume of some length
unless_same : {A F : Type 0} (fault : Option F) (x y : A) → unless fault x ≡ Ok y → x ≡ y
unless_same None x y e = cc
unless_same (Some f) x y e = absurd cc

with_size : {P : Type 0} (head : VolumeHead) (files : List FileImage) (starts : List ℕ) (found : Option ℕ) → places_with head files found ≡ Ok starts → ((size : ℕ) → places_in head files size ≡ starts → P) → P
with_size head files starts None e k = absurd cc
with_size head files starts (Some size) e k = k size (unless_same (place_fault head files size) (places_in head files size) starts e)

pub some_size : {P : Type 0} (head : VolumeHead) (files : List FileImage) (starts : List ℕ) → places_of head files ≡ Ok starts → ((size : ℕ) → places_in head files size ≡ starts → P) → P
unfolding places_of
some_size head files starts e k =
    through (unless (twice_fault head files) (length_of head files)) (places_with head files) starts e (λ found a b. with_size head files starts found b k)

-- the image of files that were moved is that of a volume that is written
written_by : (head : VolumeHead) (made : List Made) (files : List FileImage) (image : List ℕ) → AreBuilt head made → (m : AreMoved head made files) → volume_of head files ≡ Ok image → IsWritten head m.now image
written_by head made files image b m v = record {
  shape = b.shape;
  attributes = b.attributes;
  erased = b.erased;
  name = b.name;
  files = m.made_are;
  image = ap (volume_of head) m.files_are ∙ v;
}

moved_written : {P : Type 0} (head : VolumeHead) (made : List Made) (image : List ℕ) → AreBuilt head made → rebased_bytes head (files_of made) ≡ Ok image
    → ((now : List Made) → IsWritten head now image → AreLike head.ffs3 made now → P) → P
unfolding rebased_bytes moved_volume
moved_written head made image b e k =
    through (places_of head (files_of made)) (moved_volume head (files_of made)) image e
    (λ starts o p.
    through (moved_files head.ffs3 (base_of head) (files_of made) starts) (volume_of head) image p
    (λ files m v.
    some_size head (files_of made) starts o
    (λ size s.
    let all : AreMoved head made files =
    all_moved head (base_of head) size (header_end head.name_guid) made files b.files (ap (moved_files head.ffs3 (base_of head) (files_of made)) s ∙ m) in
    k all.now (written_by head made files image b all v) all.like)))

alike_of : (list other : VolumeList) → list ≡ other → IsAlike list other
alike_of list other e = record {
  length = ap (λ l. l.length) e;
  ffs3 = ap (λ l. l.ffs3) e;
  files = ap (λ l. map bare l.files) e;
  free = ap (λ l. l.free) e;
}

pub moved_read : (head : VolumeHead) (made : List Made) (image : List ℕ) → AreBuilt head made → rebased_bytes head (files_of made) ≡ Ok image → IsReadAlike head made image
moved_read head made image b e =
    moved_written head made image b e
    (λ now w l. record {
      head_is = written_head head now image w;
      found = written_found head now image w;
      list = written_list head now (length image);
      read = written_listed head now image w;
      alike = alike_of (written_list head now (length image)) (written_list head made (length image)) (like_list head made now (length image) l);
    })

listed_as : (head : VolumeHead) (made : List Made) (image : List ℕ) → AreBuilt head made → rebased_bytes head (files_of made) ≡ Ok image → volume_list image ≡ Ok (written_list head made (length image))
listed_as head made image b e =
    moved_written head made image b e (λ now w l. written_listed head now image w ∙ ap (λ z. Ok z) (like_list head made now (length image) l))

-- the volume of the files as they are
plain_written : (head : VolumeHead) (made : List Made) (plain : List ℕ) → AreBuilt head made → volume_of head (files_of made) ≡ Ok plain → IsWritten head made plain
plain_written head made plain b v = record { shape = b.shape; attributes = b.attributes; erased = b.erased; name = b.name; files = b.files; image = v }

pub moved_listed : (head : VolumeHead) (made : List Made) (image plain : List ℕ) → AreBuilt head made → rebased_bytes head (files_of made) ≡ Ok image → volume_of head (files_of made) ≡ Ok plain
    → volume_list image ≡ volume_list plain
moved_listed head made image plain b e v =
    let stays : Stays head (files_of made) plain image = subst (StaysBut head (files_of made) image) v (stays_but head (files_of made) image e) in
    listed_as head made image b e ∙ ap (λ n. Ok (written_list head made n)) stays.size ∙ sym (written_listed head made plain (plain_written head made plain b v))
