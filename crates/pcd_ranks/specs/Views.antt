-- The lines that the code holds, and what they stand for.
use Rattle.std.specs.Prelude.{map}
use Rattle.std.specs.Option.{option_map}
use Rattle.pcd_ranks.specs.declared.listing.DeclaredLine.{DeclaredLine}
use Rattle.doc_types.specs.declared.parts.ModuleParts.{ModuleParts}
use Rattle.pcd_ranks.specs.declared.listing.UseAt.{UseAt}
use Rattle.pcd_ranks.specs.declared.listing.UseLine.{UseLine}
use Rattle.pcd_ranks.specs.declared.listing.StatedLine.{StatedLine}
use Rattle.pcd_ranks.specs.declared.assign.LentAssignment.{LentAssignment}
use Rattle.pcd_ranks.specs.Listing.{Declared, Use, Stated, use_of}
use Rattle.pcd_ranks.specs.Assignments.{Assignment}

abbrev pub declared_view : DeclaredLine → Declared
declared_view d = record { from = d.from.now; line = d.line.now }

abbrev pub use_view : UseLine → Use
use_view u = record {
  user = u.user.now;
  line = u.line.now;
  own = map (λ l. l.now) u.own.items;
  all = map (λ l. l.now) u.all.items;
}

-- a line of an INF of a module
abbrev pub at_view : ModuleParts → UseAt → Use
at_view parts at = use_of parts at.inf.now at.line.now

abbrev pub stated_view : StatedLine → Stated
stated_view s = record { home = option_map (λ h. h.now) s.home; line = s.line.now }

abbrev pub given_view : LentAssignment → Assignment
given_view g =
    record {
      rank = g.rank;
      own = g.own;
      at = g.at.now;
      value = option_map (λ v. v.now) g.value;
      max = g.max;
    }
