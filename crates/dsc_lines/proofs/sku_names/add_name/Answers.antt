use Rattle.std.proofs.Common.{◌∙◌, sym, ap}
use Rattle.dsc_lines.specs.SkuLines.{place_of}
use Rattle.dsc_lines.proofs.PlaceLemmas.{placed_kept, placed_added}
use Rattle.dsc_lines.proofs.sku_names.add_name.Goals as goal

pub returns-in-Some : goal.returns-in-Some
returns-in-Some c = λ names at h.
    placed_kept names c.args.name.now _ c.args.table.now (ap (λ n. place_of n names) (sym c.in_ok-key.ensures.items) ∙ sym (c.in-Some.ensures names h)) h

pub returns-in_ok-insert_place-in-None : goal.returns-in_ok-insert_place-in-None
returns-in_ok-insert_place-in-None c = λ names at h.
    placed_added names c.in_ok-key.key c.args.name.now c.args.place c.args.table.now c.insert_place.new.table
    c.in_ok-key.ensures.items at (ap (λ n. place_of n names) (sym c.in_ok-key.ensures.items) ∙ sym (c.in-None.ensures names h))
    c.in_ok-insert_place-in-None.ensures h
