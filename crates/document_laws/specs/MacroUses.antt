-- What a text with uses of macros comes to, without saying how the uses are found: each byte stands
-- for itself, but for `$(NAME)`, which stands for the value of its name.
use Rattle.std.specs.Prelude.{◌≡◌, ℕ, true, List, [], ◌∷◌, ◌++◌, unwrap_or}
use Rattle.build_base.specs.declared.lines.Macro.{Macro}
use Rattle.meta_lexer.specs.Words.{is_identifier}
use Rattle.macro_expressions.specs.declared.macros.Undefined.{Undefined}
use Rattle.macro_expressions.specs.declared.macros.Undefined.TheVariants.{Kept, Zero}
use Rattle.macro_expressions.specs.Macros.{value_of}

-- a byte that stands for itself, or the use of a name
pub data Part : Type 0 where
  byte : ℕ → Part
  named : List ℕ → Part

-- `$(NAME)`, and what follows it
abbrev pub before_rest : List ℕ → List ℕ → List ℕ
before_rest name rest = 36 ∷ 40 ∷ (name ++ (41 ∷ rest))

-- the parts as they are written
abbrev pub spelled : List Part → List ℕ
spelled [] = []
spelled (byte b ∷ parts) = b ∷ spelled parts
spelled (named name ∷ parts) = before_rest name (spelled parts)

-- a name that isn't defined stays as it is written, or is 0
abbrev pub unknown : Undefined → List ℕ → List ℕ
unknown Kept name = before_rest name []
unknown Zero name = 48 ∷ []

-- what the parts stand for
abbrev pub meant : Undefined → List Macro → List Part → List ℕ
meant u macros [] = []
meant u macros (byte b ∷ parts) = b ∷ meant u macros parts
meant u macros (named name ∷ parts) =
    unwrap_or (value_of name macros) (unknown u name) ++ meant u macros parts

-- each name is an identifier, and where a byte stands for itself no use of a name begins
abbrev pub AreParts : List Part → Type 0
AreParts [] = Unit {0}
AreParts (byte b ∷ parts) =
    ((name rest : List ℕ) → is_identifier name ≡ true → b ∷ spelled parts ≡ before_rest name rest
    → ⊥) × AreParts parts
AreParts (named name ∷ parts) = (is_identifier name ≡ true) × AreParts parts

-- a text, and what it comes to
pub record IsReplaced (u : Undefined) (macros : List Macro) (text out : List ℕ) : Type 0 where
  pub parts : List Part
  pub whole : text ≡ spelled parts
  pub stand : AreParts parts
  pub meaning : out ≡ meant u macros parts
