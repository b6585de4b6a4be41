-- Asks, and tables with a value for each of some asks. The rules are this project's own.
use Rattle.std.specs.Prelude.{◌≡◌, ℕ, List, Option, Some, None, Bool, false, if◌then◌else◌}
use Rattle.std.specs.Ordering.{nat_cmp}
use Rattle.std.specs.Cmp.Lexicographic.{slice_cmp}
use Rattle.std.specs.BTreeMap.{is_at}
use Rattle.std.specs.Map.{lookup}
use Rattle.std.specs.declared.cmp.Ordering.{Ordering}
use Rattle.build_base.specs.First.{or_else}
use Rattle.step_engine.specs.declared.talk.Ask.{Ask}
use Rattle.step_engine.specs.declared.talk.Ask.TheVariants as ask

-- whether two asks are the same
abbrev pub same_ask : {K : Type 0} → (K → K → Ordering) → Ask K → Ask K → Bool
same_ask cmp (ask.File p) (ask.File q) = is_at (slice_cmp nat_cmp p) q
same_ask cmp (ask.Field i) (ask.Field j) = is_at (nat_cmp i) j
same_ask cmp (ask.Part k) (ask.Part l) = is_at (cmp k) l
same_ask cmp _ _ = false

-- the values of files, of fields and of parts
abbrev pub Tables : Type 0 → Type 0 → Type 0
Tables K V = List (List ℕ × V) × List (ℕ × V) × List (K × V)

abbrev pub found_at : {K V : Type 0} → (K → K → Ordering) → Tables K V → Ask K → Option V
found_at cmp t (ask.File p) = lookup (is_at (slice_cmp nat_cmp p)) t.0
found_at cmp t (ask.Field i) = lookup (is_at (nat_cmp i)) t.1
found_at cmp t (ask.Part k) = lookup (is_at (cmp k)) t.2

-- what the first has, and else the second
abbrev pub or_from : {K V : Type 0} → (Ask K → Option V) → (Ask K → Option V) → Ask K → Option V
or_from first second a = or_else (first a) (second a)

-- one ask has a value
abbrev pub one : {K V : Type 0} → (Ask K → Ask K → Bool) → Ask K → V → Ask K → Option V
one same b x a = if same a b then Some x else None

-- the ask has the value where it had none, and all else is as before
abbrev pub Notes : {K V : Type 0} → (K → K → Ordering) → Ask K → V → Tables K V → Tables K V
    → Type 0
Notes cmp a x old new = found_at cmp new ≡ or_from (found_at cmp old) (one (same_ask cmp) a x)
