-- What the lines above left open in [Components]: the last of them that opens, tags or closes says
-- it.
use Rattle.std.specs.Prelude.{if◌then◌else◌, List, [], ◌∷◌}
use Rattle.std.specs.List.{flat_map}
use Rattle.dsc_lines.specs.declared.open_mark.Open.{Open}
use Rattle.dsc_lines.specs.declared.open_mark.Open.TheVariants as state
use Rattle.dsc_lines.specs.declared.rows.Part.{Part}
use Rattle.dsc_lines.specs.declared.rows.Part.TheVariants.{Begins, Tagged, Library, Pcd, FileGuid, Closes}
use Rattle.dsc_lines.specs.declared.rows.DscRow.{DscRow}
use Rattle.dsc_lines.specs.declared.rows.DscRow.TheVariants as said

abbrev pub marks : Part → List Open
marks (Begins begun) = (if begun.braced then state.Untagged else state.Shut) ∷ []
marks (Tagged tag) = state.Tagged tag ∷ []
marks Closes = state.Shut ∷ []
marks (Library library) = []
marks (Pcd pcd) = []
marks (FileGuid arch guid) = []

abbrev pub last_mark : Open → List Open → Open
last_mark standing [] = standing
last_mark standing (mark ∷ more) = last_mark mark more

abbrev pub open_with : Open → Part → Open
open_with standing row = last_mark standing (marks row)

abbrev pub parts_in : DscRow → List Part
parts_in (said.Part part) = part ∷ []
parts_in (said.Key value) = []
parts_in (said.Sku sku) = []
parts_in (said.Library library) = []
parts_in (said.Pcd pcd) = []

abbrev pub said_marks : DscRow → List Open
said_marks row = flat_map marks (parts_in row)

-- what is open below some rows
abbrev pub open_below : List DscRow → Open
open_below rows = last_mark state.Shut (flat_map said_marks rows)
