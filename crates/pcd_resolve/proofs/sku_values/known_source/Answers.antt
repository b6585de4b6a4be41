use Rattle.pcd_resolve.proofs.SourceLemmas.{source_seen}
use Rattle.pcd_resolve.proofs.sku_values.known_source.Goals as goal

pub returns : goal.returns
returns c = λ rows k.
    source_seen (λ s. s.now) rows c.args.skus.now c.args.tables.now c.args.known.now c.args.sku.now c.source_place-from.result c.sku_at.result c.requires c.source_place-from.ensures c.sku_at.ensures k
