-- What the tables of a platform hold.
use Rattle.std.specs.Prelude.{◌≡◌, map}
use Rattle.std.specs.List.{All}
use Rattle.pcd_values.specs.Skus.{WalkEnds}
use Rattle.pcd_ranks.specs.Listing.{stated_in, uses_in}
use Rattle.pcd_ranks.specs.Views.{stated_view, use_view}
use Rattle.pcd_resolve.specs.Groups.{Grouped}
use Rattle.pcd_resolve.specs.Platform.{chosen, platform_sets}
use Rattle.pcd_resolve.specs.SkuTables.{AreTables}
use Rattle.pcd_resolve.specs.Tables.{set_name, stated_name, use_name}
use Rattle.pcd_resolve.specs.declared.platform.PlatformTables.{PlatformTables}

-- all SKUs, the chosen ones, and what names PCDs
pub record HoldsPlatform (t : PlatformTables) : Type 0 where
  pub skus : AreTables t.ask.now.platform.skus t.skus.now
  pub picked : map (λ s. s.now) t.picked.now ≡ chosen t.ask.now
  pub walks : All (λ s. WalkEnds t.ask.now.platform.skus s.now.name) t.picked.now
  pub uses : Grouped use_view use_name (uses_in t.ask.now.modules) t.uses.now
  pub lines : Grouped stated_view stated_name (stated_in t.ask.now.platform) t.lines.now
  pub sets : Grouped (λ s. s.now) set_name (platform_sets t.ask.now) t.sets.now
