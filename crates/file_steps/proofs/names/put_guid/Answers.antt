use Rattle.std.proofs.Common.{◌∙◌, ◌++◌, ap}
use Rattle.uuid.specs.Text.{hyphenated_text, lower}
use Rattle.build_texts.specs.Guids.{guid_text}
use Rattle.file_steps.proofs.names.put_guid.Goals as goal

pub returns : goal.returns
unfolding guid_text
returns c =
    c.in_ok-extend_from_slice.ensures.items
    ∙ ap (λ t. c.args.out.now.items ++ t)
    (c.as_bytes.ensures.value ∙ c.encode_lower.ensures.text ∙ ap (hyphenated_text lower) (c.hyphenated-id.ensures ∙ c.from_bytes_le.ensures))
