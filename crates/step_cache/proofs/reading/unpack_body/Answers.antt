use Rattle.std.proofs.Common.{rules, refl, drop}
use Rattle.step_cache.proofs.TextLemmas.{no_cache, text_made, encoded_at, none_of, one_of}
use Rattle.step_cache.proofs.reading.unpack_body.Goals as goal

pub returns-in-None-2 : goal.returns-in-None-2
returns-in-None-2 c =
    no_cache c.args.bytes.now c.in-Some.parts
    (encoded_at c.args.bytes.now (drop 20 c.args.bytes.now) c.in_ok-parts_of.field-0 c.in-Some.parts c.in_ok-parts_of.ensures (search rules) refl)
    (none_of c.in-Some.parts c.in_ok-cache_of.field-0 c.in_ok-cache_of.ensures (search rules)) c.args.edition

pub returns : goal.returns
returns c =
    text_made c.args.edition c.args.bytes.now c.in-Some.parts c.in-Some-2.cache c.requires.known c.requires.head
    (encoded_at c.args.bytes.now (drop 20 c.args.bytes.now) c.in_ok-parts_of.field-0 c.in-Some.parts c.in_ok-parts_of.ensures (search rules) refl)
    (one_of c.in-Some.parts c.in_ok-cache_of.field-0 c.in-Some-2.cache c.in_ok-cache_of.ensures (search rules)) c.requires.fits
