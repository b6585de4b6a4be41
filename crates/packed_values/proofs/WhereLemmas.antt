-- What begins with an encoding that a test refuses begins with none that it takes.
use Rattle.std.proofs.Common.{◌≡◌, ◌∙◌, ℕ, List, Bool, true, false, sym, ap}
use Rattle.packed_values.specs.Encoding.{Encoding, IsRead, IsUnread}
use Rattle.packed_values.specs.Plain.{encoding_where, and_left, path_encoding, text_encoding}
use Rattle.packed_values.specs.Parts.{and_right, encoding_by}
use Rattle.build_base.specs.Path.{is_path}

pub unread_where : {A : Type 0} (test : A → Bool) (F : Encoding A) (before after : List ℕ) (x : A)
    → IsRead F before x after → test x ≡ false → IsUnread (encoding_where test F) before
unread_where test F before after x read refused = record {
  none = λ y rest vy e.
      let both = F.unique x y after rest read.value (and_left _ _ vy) (sym read.bytes ∙ e) in
      let passes : test y ≡ true = and_right (F.is_value y) (test y) vy in
      let same : test x ≡ true = ap test both.0 ∙ passes in cc;
}

pub no_path : (before after : List ℕ) (x : List ℕ) → IsRead text_encoding before x after → is_path x ≡ false → IsUnread path_encoding before
unfolding path_encoding
no_path before after x read refused = unread_where is_path text_encoding before after x read refused

pub unread_by : {A B : Type 0} (split : A → B) (join : B → A) (back : (x : A) → join (split x) ≡ x) (F : Encoding B) (before : List ℕ)
    → IsUnread F before → IsUnread (encoding_by split join back F) before
unread_by split join back F before none = record { none = λ x rest v e. none.none (split x) rest v e }
