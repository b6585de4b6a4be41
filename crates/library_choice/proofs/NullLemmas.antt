-- Lines that link their instances without a class, along the places of the class NULL.
use Rattle.std.proofs.Common.{◌≡◌, ◌∙◌, ℕ, ◌+◌, ◌<◌, Bool, true, false, ◌&&◌, cond, nat_eq, List, [], ◌∷◌, ◌++◌, Option, Some, None, length, get_or, drop, map, refl, sym, ap, codes}
use Rattle.std.specs.List.{filter_map, cons_option}
use Rattle.std.specs.Cmp.Lexicographic.{pointwise, same_text}
use Rattle.build_base.specs.Digest.{digest}
use Rattle.build_base.proofs.Steps.{head_drop}
use Rattle.number_chains.specs.Chains.{IsNext}
use Rattle.number_chains.proofs.SkipLemmas.{skipped}
use Rattle.doc_types.specs.LibraryLines.{class_number}
use Rattle.doc_types.specs.declared.platform.LibraryLine.{LibraryLine}
use Rattle.line_ranks.specs.declared.user.Consumer.{Consumer}
use Rattle.library_choice.specs.Closure.{null_of}
use Rattle.library_choice.specs.Lines.{applies}

no_null : (user : Consumer) (x : LibraryLine) (b : Bool) → pointwise nat_eq x.class (codes "NULL") ≡ b → (class_number x ≡ digest (codes "NULL") → ⊥) → null_of user x ≡ None
unfolding null_of
no_null user x true e differs = absurd (differs (ap digest (same_text x.class (codes "NULL") (sym e))))
no_null user x false e differs = ap (λ a. cond (a && applies user x) (Some x.instance) None) e

adds_none : (f : LibraryLine → Option (List ℕ)) (x : LibraryLine) (rest : List LibraryLine) → f x ≡ None → filter_map f (x ∷ rest) ≡ filter_map f rest
adds_none f x rest e = ap (λ o. cons_option o (filter_map f rest)) e

one_more : {X : Type 0} (o : Option X) (rest : List X) → cons_option o [] ++ rest ≡ cons_option o rest
one_more None rest = refl
one_more (Some x) rest = refl

pub nulls_behind : (user : Consumer) (xs : List LibraryLine) (start place : ℕ) → IsNext (map class_number xs) start (digest (codes "NULL")) place
    → filter_map (null_of user) (drop start xs) ≡ filter_map (null_of user) (drop place xs)
nulls_behind user xs start place h =
    skipped (filter_map (null_of user)) class_number (digest (codes "NULL"))
    (λ x rest differs. adds_none (null_of user) x rest (no_null user x (pointwise nat_eq x.class (codes "NULL")) refl differs)) xs start place h

pub nulls_step : (user : Consumer) (xs : List LibraryLine) (place next : ℕ) (x : LibraryLine) → place < length xs → x ≡ get_or xs place x → IsNext (map class_number xs) (place + 1) (digest (codes "NULL")) next
    → filter_map (null_of user) (x ∷ []) ++ filter_map (null_of user) (drop next xs) ≡ filter_map (null_of user) (drop place xs)
nulls_step user xs place next x h e n =
    one_more (null_of user x) (filter_map (null_of user) (drop next xs))
    ∙ ap (cons_option (null_of user x)) (sym (nulls_behind user xs (place + 1) next n))
    ∙ ap (filter_map (null_of user)) (sym (head_drop xs place x h e))
