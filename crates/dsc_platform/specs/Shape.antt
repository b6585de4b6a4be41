-- The shape of a platform's document: what paths of outputs and values by SKUs need of it. That a
-- name has at most 64 bytes is this project's own rule.
use Rattle.std.specs.List.{All}
use Rattle.build_base.specs.Path.{IsPathField}
use Rattle.doc_reading.specs.SegmentNames.{IsSegmentName}
use Rattle.doc_types.specs.SkuWalks.{EndsAtDefault}
use Rattle.doc_types.specs.declared.platform.PlatformDoc.{PlatformDoc}

-- a name of one segment, a folder of outputs of at most 512 bytes, and each SKU's parent walk ends
-- at DEFAULT
pub record HasShape (document : PlatformDoc) : Type 0 where
  pub name : IsSegmentName document.name
  pub output : IsPathField document.output
  pub skus : All (λ sku. EndsAtDefault document.skus sku.name) document.skus
