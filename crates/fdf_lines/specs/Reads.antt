-- What lines came to, as the shared reader tells it.
use Rattle.std.specs.Prelude.{List, map}
use Rattle.doc_reading.specs.Grammar.{Read, entered, gave}
use Rattle.fdf_words.specs.declared.rows.LineRead.{LineRead}
use Rattle.fdf_words.specs.declared.rows.LineRead.TheVariants.{Heads, Body}
use Rattle.fdf_words.specs.declared.rows.Row.{Row}
use Rattle.fdf_words.specs.declared.rows.Scope.{Scope}

abbrev pub read_as : LineRead → Read Scope Row
read_as (Heads at scopes) = entered at scopes
read_as (Body rows) = gave rows

abbrev pub reads_as : List LineRead → List (Read Scope Row)
reads_as lines = map read_as lines
