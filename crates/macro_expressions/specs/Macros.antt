-- Macros and their uses in a text.
use Rattle.std.specs.Prelude.{◌≡◌, ℕ, zero, suc, ◌+◌, Bool, ◌&&◌, nat_lt, nat_le, nat_eq, ◌==◌, not, if◌then◌else◌, List, [], ◌∷◌, ◌++◌, length, take, drop, fold, slice_index, codes, Option, Some, None, unwrap_or}
use Rattle.std.specs.List.{list_all}
use Rattle.std.specs.Cmp.Lexicographic.{pointwise}
use Rattle.build_base.specs.declared.lines.Macro.{Macro}
use Rattle.meta_lexer.specs.Tokens.{word_size}
use Rattle.meta_lexer.specs.Words.{is_identifier}
use Rattle.macro_expressions.specs.declared.macros.Undefined.{Undefined}
use Rattle.macro_expressions.specs.declared.macros.Undefined.TheVariants.{Kept, Zero}

-- the same bytes
abbrev pub same_text : List ℕ → List ℕ → Bool
same_text xs ys = pointwise nat_eq xs ys

-- the word after `$(`
abbrev pub used_name : List ℕ → List ℕ
used_name xs = take (word_size (drop 2 xs)) (drop 2 xs)

-- the text begins with `$(NAME)`, whose name has this length
unfoldable pub use_at : List ℕ → Option ℕ
use_at xs =
    let n = word_size (drop 2 xs) in
    if (slice_index xs 0 == 36) && (slice_index xs 1 == 40) && nat_lt (n + 2) (length xs)
    && (slice_index xs (n + 2) == 41) && is_identifier (used_name xs)
    then Some n else None

-- the value of the last macro of the name
unfoldable pub value_from : Option (List ℕ) → List ℕ → List Macro → Option (List ℕ)
value_from found name [] = found
value_from found name (m ∷ ms) =
    value_from (if same_text m.name name then Some m.value else found) name ms

abbrev pub value_of : List ℕ → List Macro → Option (List ℕ)
value_of name ms = value_from None name ms

-- a name and its value as a macro
abbrev pub macro_of : List ℕ × List ℕ → Macro
macro_of e = record { name = e.0; value = e.1 }

-- each name has in a table the value that it has in a list
abbrev pub HasValues : List Macro → List Macro → Type 0
HasValues table ms = (name : List ℕ) → value_of name table ≡ value_of name ms

-- the macros with one defined: in the place of that of its name, or at the end
unfoldable pub put_macro : List ℕ → List ℕ → List Macro → List Macro
put_macro name value [] = record { name = name; value = value } ∷ []
put_macro name value (m ∷ ms) = if same_text m.name name
    then record { name = m.name; value = value } ∷ ms else m ∷ put_macro name value ms

-- each name once, in first-seen order and with its last value
unfoldable pub table_of : List Macro → List Macro
table_of ms = fold (λ table (m : Macro). put_macro m.name m.value table) [] ms

-- what stands for the use of a macro that isn't defined
abbrev pub undefined : Undefined → ℕ → List ℕ → List ℕ
undefined Kept n xs = take (n + 3) xs
undefined Zero n xs = 48 ∷ []

-- what stands for the use of a name of n bytes
abbrev pub meaning : Undefined → List Macro → ℕ → List ℕ → List ℕ
meaning u ms n xs = unwrap_or (value_of (take n (drop 2 xs)) ms) (undefined u n xs)

abbrev pub used : Undefined → List Macro → Option ℕ → List ℕ → ℕ → List ℕ → (ℕ → List ℕ) → List ℕ
used u ms None xs b plain after = b ∷ plain
used u ms (Some n) xs b plain after = meaning u ms n xs ++ after n

-- the text with its macros replaced once from left to right, but for its first k bytes, which have
-- been
unfoldable pub replaced_after : Undefined → List Macro → ℕ → List ℕ → List ℕ
replaced_after u ms k [] = []
replaced_after u ms (suc k) (b ∷ bs) = replaced_after u ms k bs
replaced_after u ms zero (b ∷ bs) =
    used u ms (use_at (b ∷ bs)) (b ∷ bs) b (replaced_after u ms 0 bs)
    (λ n. replaced_after u ms (n + 2) bs)

abbrev pub replaced : Undefined → List Macro → List ℕ → List ℕ
replaced u ms xs = replaced_after u ms 0 xs

-- no `$` stands in the text
abbrev pub is_plain : List ℕ → Bool
is_plain text = list_all (λ b. not (b == 36)) text

abbrev pub begins_at_workspace : List ℕ → Bool
begins_at_workspace field = nat_le 13 (length field)
    && same_text (take 13 field) (codes "$(WORKSPACE)/")

-- a path field that begins with `$(WORKSPACE)/` loses that front
unfoldable pub without_workspace : List ℕ → List ℕ
without_workspace field = if begins_at_workspace field then drop 13 field else field
