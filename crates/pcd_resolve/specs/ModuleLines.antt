-- What the tables of a module's PCDs hold.
use Rattle.std.specs.Prelude.{◌≡◌}
use Rattle.pcd_ranks.specs.Listing.{stated_in, uses_of_module}
use Rattle.pcd_ranks.specs.Views.{stated_view, use_view}
use Rattle.pcd_resolve.specs.Groups.{Grouped, GroupedAt}
use Rattle.pcd_resolve.specs.Rows.{sets_in}
use Rattle.pcd_resolve.specs.Tables.{IsTabled, row_name, set_name, stated_name, use_name}
use Rattle.pcd_resolve.specs.declared.resolve.ModuleLines.{ModuleLines}

-- at each name that is marked, what the module's documents say of it
pub record HoldsModule (m : ModuleLines) : Type 0 where
  pub tabled : IsTabled m.tables.now
  pub parts : m.tables.now.parts.now ≡ m.ask.now.parts
  pub uses : Grouped use_view use_name (uses_of_module m.ask.now.parts) m.uses.now
  pub lines : GroupedAt m.tables.now.marks.items stated_view stated_name
      (stated_in m.ask.now.platform) m.lines.now
  pub sets : GroupedAt m.tables.now.marks.items (λ s. s.now) set_name (sets_in m.ask.now) m.sets.now
  pub dynamic : GroupedAt m.tables.now.marks.items (λ r. r.now) row_name m.ask.now.dynamic.rows
      m.dynamic.now
