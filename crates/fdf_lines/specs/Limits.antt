-- How many heads and statements the lines of a flash description may have (this project's own
-- limit).
use Rattle.std.specs.Prelude.{ℕ, ◌≤◌, List, All}
use Rattle.doc_reading.specs.Blocks.{sections_of}
use Rattle.doc_reading.specs.Grammar.{Read}
use Rattle.fdf_words.specs.declared.rows.Row.{Row}
use Rattle.fdf_words.specs.declared.rows.Scope.{Scope}
use Rattle.fdf_lines.specs.declared.section.FlashSection.TheVariants.{Device, Volume, Rule}
use Rattle.fdf_lines.specs.Counts.{count_of, heads_above, statements_in}

-- how many lines of a section are statements
abbrev pub statements_of : List (Read Scope Row) → ℕ
statements_of reads = count_of statements_in reads

-- of devices, volumes and rules, and of the statements of each section
pub record WithinLimits (reads : List (Read Scope Row)) : Type 0 where
  pub devices : heads_above Device reads ≤ 65535
  pub volumes : heads_above Volume reads ≤ 65535
  pub rules : heads_above Rule reads ≤ 65535
  pub statements : All (λ section. statements_of section.rest ≤ 65535) (sections_of reads)
