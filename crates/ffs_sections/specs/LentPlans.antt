-- What a file holds before it is made. The rule is this project's own.
use Rattle.doc_types.specs.declared.image.Body.{Body}
use Rattle.doc_types.specs.declared.image.Body.TheVariants as body
use Rattle.ffs_sections.specs.declared.lent_plan.LentBody.{LentBody}
use Rattle.ffs_sections.specs.declared.lent_plan.LentBody.TheVariants as lent

-- a body that is lent is the body
abbrev pub lent_body : LentBody → Body
lent_body (lent.Whole bytes) = body.Whole bytes.now
lent_body (lent.Sections parts) = body.Sections parts
