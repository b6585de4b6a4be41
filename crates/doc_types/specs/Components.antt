-- The component of an INF file for an architecture (EDK II DSC specification, [Components]).
use Rattle.std.specs.Prelude.{ℕ, Bool, true, false, ◌&&◌, nat_eq, if◌then◌else◌, List, [], ◌∷◌}
use Rattle.std.specs.Cmp.Lexicographic.{pointwise}
use Rattle.build_base.specs.Digest.{digest}
use Rattle.doc_types.specs.declared.arch.Arch.{Arch}
use Rattle.doc_types.specs.declared.platform.Component.{Component}
use Rattle.doc_types.specs.declared.platform.PcdLine.{PcdLine}
use Rattle.doc_types.specs.Arches.{covers}

-- a component of the INF file, for the architecture or for all
abbrev pub is_component : List ℕ → Arch → Component → Bool
is_component inf arch component = pointwise nat_eq component.inf inf && covers component.arch arch

-- the number by which its INF file is found
abbrev pub inf_number : Component → ℕ
inf_number component = digest component.inf

abbrev pub are_some : List PcdLine → Bool
are_some [] = false
are_some (line ∷ lines) = true

-- it has lines of PCDs
abbrev pub has_lines : Component → Bool
has_lines component = are_some component.pcds

abbrev pub lines_number : Component → ℕ
lines_number component = if has_lines component then 1 else 0
