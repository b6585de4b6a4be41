-- What the code holds, and what it stands for.
use Rattle.std.specs.Prelude.{ℕ, List, [], ◌∷◌, map, Option, Some, None}
use Rattle.std.specs.Global.{Vec}
use Rattle.build_base.specs.declared.guid.Guid.{Guid}
use Rattle.build_texts.specs.declared.packages.DeclaredGuid.{DeclaredGuid}
use Rattle.build_texts.specs.declared.names.FoundGuid.{FoundGuid}
use Rattle.build_texts.specs.Named.{Declared, Found}

abbrev pub declared_view : DeclaredGuid → Declared
declared_view d = record { from = d.from.now; line = d.line.now }

abbrev pub found_view : FoundGuid → Found
found_view f = (f.name.now, f.guid)

abbrev pub entry_view : Vec ℕ × Guid → Found
entry_view e = (e.0.items, e.1)

abbrev pub seen : List FoundGuid → List Found
seen guids = map found_view guids

-- what a line gave
abbrev pub given : Option FoundGuid → List Found
given None = []
given (Some f) = found_view f ∷ []
