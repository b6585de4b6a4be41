-- The descriptions of a module; the rule is this project's own.
use Rattle.std.specs.Prelude.{List, [], ◌∷◌}
use Rattle.doc_types.specs.declared.module.InfDoc.{InfDoc}

-- the first is the module's own
abbrev pub HasOwn : List InfDoc → Type 0
HasOwn [] = ⊥
HasOwn (inf ∷ infs) = Unit {0}
