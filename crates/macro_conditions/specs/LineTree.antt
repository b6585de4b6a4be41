-- The tree of the conditionals of a file.
use Rattle.std.specs.Prelude.{List, [], ◌∷◌, ◌++◌}
use Rattle.build_base.specs.declared.lines.Taken.{Taken as Line}
use Rattle.macro_conditions.specs.declared.directive.Directive.{Directive}
use Rattle.macro_conditions.specs.Directives.{kind_of}
use Rattle.macro_conditions.specs.declared.directive.Directive.TheVariants.{Act, If, Elseif, Else, Endif}

mutual
  -- lines one after the other, with whole conditionals among them
  pub data Items : Type 0 where
    nothing : Items
    plain : Line → Items → Items
    -- a directive without its place
    stray : Line → Items → Items
    -- the `!if`, its branch, the further branches, and what follows
    choice : Line → Items → Branches → Items → Items

  pub data Branches : Type 0 where
    -- the file ends
    unclosed : Branches
    closed : Line → Branches
    -- an `!elseif` or an `!else`
    further : Line → Items → Branches → Branches

abbrev mutual
  -- the lines of a tree, in order
  pub written : Items → List Line
  written nothing = []
  written (plain l t) = l ∷ written t
  written (stray l t) = l ∷ written t
  written (choice l body bs t) = l ∷ (written body ++ (written_branches bs ++ written t))

  pub written_branches : Branches → List Line
  written_branches unclosed = []
  written_branches (closed l) = l ∷ []
  written_branches (further l body bs) = l ∷ (written body ++ written_branches bs)

abbrev pub append : Items → Items → Items
append nothing u = u
append (plain l t) u = plain l (append t u)
append (stray l t) u = stray l (append t u)
append (choice l body bs t) u = choice l body bs (append t u)

-- lines cut at the directives that belong to an `!if` above them, or to none
pub data Cut : Type 0 where
  ended : Items → Cut
  cut : Items → Line → Cut → Cut

-- what belongs to an `!if` of the lines below it
pub record Gathered : Type 0 where
  pub body : Items
  pub branches : Branches
  pub rest : Cut

abbrev pub whole : Items → Gathered
whole t = record { body = t; branches = unclosed; rest = ended nothing }

abbrev pub ended_by : Directive → Items → Line → Cut → Gathered → Gathered
ended_by Endif t k r g = record { body = t; branches = closed k; rest = r }
ended_by _ t k r g =
    record { body = append t (stray k g.body); branches = g.branches; rest = g.rest }

-- the branch of an `!else`: another `!elseif` or `!else` is stray in it
abbrev pub gather_last : Cut → Gathered
gather_last (ended t) = whole t
gather_last (cut t k r) = ended_by (kind_of k.text) t k r (gather_last r)

abbrev pub more : Items → Line → Gathered → Gathered
more t k g = record { body = t; branches = further k g.body g.branches; rest = g.rest }

abbrev pub parted_by : Directive → Items → Line → Cut → Gathered → Gathered → Gathered
parted_by Endif t k r g last = record { body = t; branches = closed k; rest = r }
parted_by Else t k r g last = more t k last
parted_by _ t k r g last = more t k g

-- the branch of an `!if` or an `!elseif`, and those after it
abbrev pub gather : Cut → Gathered
gather (ended t) = whole t
gather (cut t k r) = parted_by (kind_of k.text) t k r (gather r) (gather_last r)

-- the first items with something before them
abbrev pub before : (Items → Items) → Cut → Cut
before f (ended t) = ended (f t)
before f (cut t k r) = cut (f t) k r

abbrev pub open_choice : Line → Gathered → Cut
open_choice l g = before (choice l g.body g.branches) g.rest

abbrev pub with_line : Directive → Line → Cut → Cut
with_line Act l c = before (plain l) c
with_line If l c = open_choice l (gather c)
with_line Elseif l c = cut nothing l c
with_line Else l c = cut nothing l c
with_line Endif l c = cut nothing l c

abbrev pub parsed : List Line → Cut
parsed [] = ended nothing
parsed (l ∷ ls) = with_line (kind_of l.text) l (parsed ls)

-- what belongs to no `!if` is stray
abbrev pub strayed : Cut → Items
strayed (ended t) = t
strayed (cut t k r) = append t (stray k (strayed r))

unfoldable pub tree_of : List Line → Items
tree_of ls = strayed (parsed ls)
