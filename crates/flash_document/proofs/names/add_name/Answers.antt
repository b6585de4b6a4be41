use Rattle.std.proofs.Common.{◌∙◌, sym}
use Rattle.flash_document.proofs.NameLemmas.{places_kept, places_added}
use Rattle.flash_document.proofs.names.add_name.Goals.{in-Ok, in-Err}
use Rattle.flash_document.proofs.names.add_name.Goals as goal

pub returns-then-contains_key : goal.returns-then-contains_key
returns-then-contains_key c = λ above place h.
    places_kept above c.args.name.now c.args.table.now c.in_ok-key.key c.in_ok-key.ensures (sym c.contains_key.ensures ∙ c.if-contains_key.true) h

pub returns : goal.returns
returns c =
    elim c.match-insert.branch [
      | in-Ok w ↦ λ above place h.
          rw w.result-is
          (places_added above c.args.name.now c.args.table.now c.insert.new.self c.in_ok-key.key c.args.place c.in_ok-key.ensures place
          (sym c.contains_key.ensures ∙ c.if-contains_key.false) h w.in-Ok.ensures.updates.0)
      | in-Err w ↦ λ above place h. rw w.result-is tt
    ]
