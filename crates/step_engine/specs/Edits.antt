-- The files of a workspace after edits. The rule is this project's own.
use Rattle.std.specs.Prelude.{ℕ, nat_eq, List, [], ◌∷◌, Option, Some, if◌then◌else◌}
use Rattle.std.specs.Option.{option_map}
use Rattle.std.specs.Cmp.Lexicographic.{pointwise}
use Rattle.build_base.specs.Outside.{Files}
use Rattle.step_engine.specs.declared.edits.Edit.{Edit}

-- the files after one edit
abbrev pub with_edit : Edit → Files → Files
with_edit e files path = if pointwise nat_eq e.path path then e.bytes else files path

-- the files after all edits in their order: at each path the last edit of it, else what the files
-- have
abbrev pub edited : List Edit → Files → Files
edited [] files = files
edited (e ∷ edits) files = edited edits (with_edit e files)

-- what a tree holds, where it tells it, after the edits
abbrev pub over : List Edit → Option Files → Option Files
over edits held = option_map (edited edits) held

-- the last edit of a path, else the one that was found before
abbrev pub last_edit : Option Edit → List Edit → List ℕ → Option Edit
last_edit found [] path = found
last_edit found (e ∷ edits) path =
    last_edit (if pointwise nat_eq e.path path then Some e else found) edits path
