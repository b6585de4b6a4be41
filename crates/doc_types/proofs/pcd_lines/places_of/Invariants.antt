use Rattle.std.proofs.Common.{◌≡◌, map, take}
use Rattle.doc_types.specs.NamePlaces.{place_of}
use Rattle.doc_types.proofs.pcd_lines.places_of.Given as goal

abbrev pub invariant-loop-row : goal.invariant-loop-row
invariant-loop-row g l = l.places.items ≡ map (λ row. place_of (g.T.HasPcd.name_of row)) (take l.row-index l.rows)
