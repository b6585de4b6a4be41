-- The command is one whose grammar clap states, and what a parse of it shows.
use Rattle.std.proofs.Common.{◌≡◌, ◌∙◌, true, false, List, [], ◌∷◌, ap, subst, refl, inl, inr}
use Rattle.clap.specs.Words.{App, Text, HasMatchesOf, HasKind, IsAmong, Kinds, fault_of, matches_of, is_simple, is_simple_and_free, kind_of, rows_of, found_of}
use Rattle.clap.specs.declared.parser.matches.ArgMatches.{ArgMatches}
use Rattle.clap.specs.declared.error.Error.{Error}
use Rattle.clap.specs.declared.error.kind.ErrorKind.{ErrorKind}
use Rattle.clap.specs.declared.error.kind.ErrorKind.TheVariants.{OutOfMemory}
use Rattle.build_words.specs.Command.{are_none, build_app, is_taken, rows_in}

pub is_plain : is_simple_and_free build_app ≡ true
unfolding build_app
is_plain = refl

pub is_simple_app : is_simple build_app ≡ true
unfolding build_app
is_simple_app = refl

pub taken_where : (app : App) (words : List Text) → app ≡ build_app → (is_simple_and_free app ≡ true → fault_of app words ≡ []) → is_taken words ≡ true
unfolding is_taken
taken_where app words e h =
    let none : fault_of build_app words ≡ [] = subst (λ (a : App). fault_of a words ≡ []) e (h (ap is_simple_and_free e ∙ is_plain)) in
    ap are_none none

pub rows_where : (app : App) (words : List Text) (m : ArgMatches) → app ≡ build_app → HasMatchesOf app words m → rows_of (found_of m) ≡ rows_in words
unfolding rows_in
rows_where app words m e h =
    (h (ap is_simple e ∙ is_simple_app)).0 ∙ ap (λ (a : App). matches_of a words) e

some_kinds : (k : ErrorKind) (kinds : Kinds) → IsAmong k kinds → are_none kinds ≡ false
some_kinds k [] h = absurd h
some_kinds k (x ∷ xs) h = refl

pub refused_where : (app : App) (words : List Text) (e : Error) → app ≡ build_app → (is_simple_and_free app ≡ true → HasKind (fault_of app words) e)
    → (kind_of e ≡ OutOfMemory → ⊥) → is_taken words ≡ false
unfolding is_taken
refused_where app words e same h other =
    let fault : HasKind (fault_of build_app words) e = subst (λ (a : App). HasKind (fault_of a words) e) same (h (ap is_simple_and_free same ∙ is_plain)) in
    elim fault [ inl memory ↦ absurd (other memory) | inr among ↦ some_kinds (kind_of e) (fault_of build_app words) among ]
