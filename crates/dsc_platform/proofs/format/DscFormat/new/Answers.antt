use Rattle.std.proofs.Common.{refl, sym, subst}
use Rattle.dsc_platform.specs.Cutting.{none}
use Rattle.dsc_lines.specs.SkuNames.{Placed}
use Rattle.dsc_platform.specs.Stating.{names_of}
use Rattle.dsc_lines.proofs.PlaceLemmas.{placed_none}
use Rattle.dsc_platform.proofs.format.DscFormat.new.Goals as goal

pub returns : goal.returns
returns c =
    record {
      stated = c.new.ensures;
      standing = refl;
      names = subst (λ s. Placed (names_of s.skus) c.new-2.result) (sym c.new.ensures) (placed_none c.new-2.result c.new-2.ensures.empty);
      uses = c.new-3.ensures;
      blocks = none refl c.new-4.ensures c.new-5.ensures.items;
    }
