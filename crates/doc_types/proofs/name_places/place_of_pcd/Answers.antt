use Rattle.std.proofs.Common.{◌∙◌, ◌++◌, codes, ap, sym}
use Rattle.doc_types.specs.NamePlaces.{place_of}
use Rattle.doc_types.proofs.NamePlaceLemmas.{place_by_end}
use Rattle.doc_types.proofs.name_places.place_of_pcd.Goals as goal

pub returns : goal.returns
returns c =
    c.place_of.ensures ∙ sym (place_by_end (c.args.pcd.now.space ++ codes ".") c.bytes-name.result.now c.if-name-lt8.false)
    ∙ ap (λ n. place_of ((c.args.pcd.now.space ++ codes ".") ++ n)) c.bytes-name.ensures
