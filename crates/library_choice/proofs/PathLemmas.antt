-- Paths are the same where their bytes are, and places where their numbers are.
use Rattle.std.proofs.Common.{nat_eq, refl, sym, eqb-true, eq-eqb}
use Rattle.std.specs.Cmp.Lexicographic.{same_text}
use Rattle.std.proofs.lemmas.Cmp.{nat_list_eq_equiv}
use Rattle.library_choice.specs.Closure.{same_path}
use Rattle.library_choice.specs.Search.{Same}

pub path_same : Same same_path
path_same = record { same = λ x y h. sym (same_text y x (sym h)); itself = λ x. nat_list_eq_equiv.refl x }

pub number_same : Same nat_eq
number_same = record { same = λ x y h. eqb-true x y h; itself = λ x. eq-eqb x x refl }
