-- What a section holds before its file is made. The rule is this project's own.
use Rattle.std.specs.Prelude.{ℕ, List, ◌++◌}
use Rattle.ffs_sections.specs.declared.lent.Held.{Held}
use Rattle.ffs_sections.specs.declared.lent.Held.TheVariants as held

-- the bytes that a section holds
abbrev pub held_bytes : Held → List ℕ
held_bytes (held.Bytes bytes) = bytes.now
held_bytes (held.Text text) = text
held_bytes (held.Image image) = image.now
held_bytes (held.Joined front back) = front ++ back.now
