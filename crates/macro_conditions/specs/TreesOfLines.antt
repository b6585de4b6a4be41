-- Which tree is that of a file's lines, without saying how it is found: each line stands where its
-- kind may stand, and where the file ends within a conditional nothing stands behind it.
use Rattle.std.specs.Prelude.{◌≡◌, Bool, true, false, if◌then◌else◌, List}
use Rattle.build_base.specs.declared.lines.Taken.{Taken as Line}
use Rattle.macro_conditions.specs.declared.directive.Directive.{Directive}
use Rattle.macro_conditions.specs.declared.directive.Directive.TheVariants.{Act, If, Elseif, Else, Endif}
use Rattle.macro_conditions.specs.Directives.{kind_of}
use Rattle.macro_conditions.specs.LineTree.{Items, nothing, plain, stray, choice, Branches, unclosed, closed, further, written}

-- where items stand: outside of all conditionals, in the branch of an `!if` or an `!elseif`, or in
-- that of an `!else`
pub data Standing : Type 0 where
  outside : Standing
  branch : Standing
  last : Standing

-- an `!elseif`, an `!else` or an `!endif` belongs to no `!if` outside of all conditionals, and a
-- further `!elseif` or `!else` to none in the branch of an `!else`
abbrev pub IsAstray : Standing → Directive → Type 0
IsAstray outside Elseif = Unit {0}
IsAstray outside Else = Unit {0}
IsAstray outside Endif = Unit {0}
IsAstray last Elseif = Unit {0}
IsAstray last Else = Unit {0}
IsAstray _ _ = ⊥

-- only behind the branch of an `!if` or an `!elseif` another one follows
abbrev pub IsFurther : Standing → Directive → Type 0
IsFurther branch Elseif = Unit {0}
IsFurther branch Else = Unit {0}
IsFurther _ _ = ⊥

abbrev pub standing_below : Directive → Standing
standing_below Else = last
standing_below _ = branch

abbrev mutual
  -- the file ends within a conditional of these items
  pub is_open : Items → Bool
  is_open nothing = false
  is_open (plain l t) = is_open t
  is_open (stray l t) = is_open t
  is_open (choice l body bs t) = if is_unclosed bs then true else is_open t

  pub is_unclosed : Branches → Bool
  is_unclosed unclosed = true
  is_unclosed (closed l) = false
  is_unclosed (further l body bs) = is_unclosed bs

abbrev mutual
  -- each line stands where its kind may stand
  pub Stand : Standing → Items → Type 0
  Stand s nothing = Unit {0}
  Stand s (plain l t) = (kind_of l.text ≡ Act) × Stand s t
  Stand s (stray l t) = IsAstray s (kind_of l.text) × Stand s t
  Stand s (choice l body bs t) =
      (kind_of l.text ≡ If) × Stand branch body × (is_open body ≡ true → bs ≡ unclosed)
      × StandBehind branch bs × (is_unclosed bs ≡ true → t ≡ nothing) × Stand s t

  -- the same behind a branch
  pub StandBehind : Standing → Branches → Type 0
  StandBehind s unclosed = Unit {0}
  StandBehind s (closed l) = kind_of l.text ≡ Endif
  StandBehind s (further l body bs) =
      IsFurther s (kind_of l.text) × Stand (standing_below (kind_of l.text)) body
      × (is_open body ≡ true → bs ≡ unclosed)
      × StandBehind (standing_below (kind_of l.text)) bs

pub record IsTreeOf (lines : List Line) (t : Items) : Type 0 where
  pub whole : written t ≡ lines
  pub stands : Stand outside t
