-- A document that is asked for, and the files that are known.
use Rattle.std.specs.Prelude.{ℕ, List}
use Rattle.build_base.specs.declared.lines.Macro.{Macro}
use Rattle.build_base.specs.declared.outside.Got.{Got}
use Rattle.macro_conditions.specs.declared.known.Known.{Known}
use Rattle.macro_conditions.specs.Counting.{with_answer}

pub record Asked : Type 0 where
  pub root : List ℕ
  pub macros : List Macro
  pub fixed : List Macro
  pub files : List Known

-- with what was got of one path more
abbrev pub learnt : Asked → List ℕ → Got → Asked
learnt d path got = record {
  root = d.root;
  macros = d.macros;
  fixed = d.fixed;
  files = with_answer d.files path got;
}
