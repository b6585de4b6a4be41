use Rattle.std.proofs.Common.{◌∙◌, ap, cond, Some}
use Rattle.std.specs.HashMap.{get}
use Rattle.flash_document.specs.Names.{lower_case, same_key}
use Rattle.flash_document.specs.Held.{with_region}
use Rattle.flash_document.proofs.HeldLemmas.{sizes_added}
use Rattle.flash_document.proofs.held.add_region.Goals.{in-Ok, in-Err}
use Rattle.flash_document.proofs.held.add_region.Goals as goal

pub returns : goal.returns
returns c =
    elim c.match-insert.branch [
      | in-Ok w ↦ λ above h.
          let told = c.with_region-size.ensures ∙ ap (λ o. with_region o c.args.region.now) (c.copied.ensures ∙ c.get.ensures.value) in
          rw w.result-is
          (sizes_added above c.args.region.now c.args.sizes.now c.insert.new.self c.in_ok-key.key (c.in_ok-key.ensures ∙ ap lower_case c.bytes.ensures) h
          (λ q. w.in-Ok.ensures.updates.0 q ∙ ap (λ s. cond (same_key c.in_ok-key.key q) (Some s) (get same_key c.args.sizes.now q)) told))
      | in-Err w ↦ λ above h. rw w.result-is tt
    ]
