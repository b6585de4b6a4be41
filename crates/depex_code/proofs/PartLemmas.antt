-- The loop over the terms of a part.
use Rattle.std.proofs.Common.{◌≡◌, ℕ, ◌+◌, ◌<◌, ◌≤◌, Bool, true, List, [], ◌∷◌, ◌++◌, Option, Some, None, Err, length, map, option_map, take, drop, get_or, refl, sym, ap, ◌∙◌, codes}
use Rattle.std.proofs.lemmas.List.{drop_all, take_all}
use Rattle.build_base.specs.declared.fault.Fault.{Fault}
use Rattle.build_base.specs.declared.fault.Place.{Place}
use Rattle.build_base.specs.declared.refusal.Refusal.{Refusal}
use Rattle.build_base.specs.Answer.{Finds, Refused}
use Rattle.doc_types.specs.declared.depex.NamedGuid.{NamedGuid}
use Rattle.depex_code.specs.declared.token.Token.{Token}
use Rattle.depex_code.specs.declared.waiting.Waiting.{Waiting}
use Rattle.depex_code.specs.declared.waiting.Stage.{Stage}
use Rattle.depex_code.specs.declared.waiting.Stage.TheVariants as stage
use Rattle.depex_code.specs.Tree.{Tree}
use Rattle.depex_code.specs.Words.{token_of}
use Rattle.depex_code.specs.Terms.{trees, State, wanting, step, read, ended, is_right, is_begun, expression}
use Rattle.depex_code.specs.Sizes.{Size, sizes, size_of}
use Rattle.depex_code.specs.Kept.{state_of}
use Rattle.build_base.specs.FaultText.{fault_of}
use Rattle.depex_code.specs.Compiled.{value_or, own_code, term_code, terms_fault, terms_tree, map_ok}
use Rattle.depex_code.proofs.TermReads.{read-append, read-more, read-none}
use Rattle.depex_code.proofs.SizeLemmas.{state_size, step-sized, right-sized, ended-sized}
use Rattle.build_base.proofs.ResultLemmas.{refused_by}
use Rattle.build_base.proofs.Steps.{head_drop, map-passed}
use Rattle.build_base.specs.FaultCodes.{BAD_TERM}

pub right-kept : (ws : List Waiting) (s : Stage) → is_right (state_of ws s) ≡ true
right-kept ws stage.Wanting = refl
right-kept ws (stage.Pointing e) = refl
right-kept ws (stage.Holding p) = refl

-- the terms before, as the machine has read them
abbrev pub reached : List NamedGuid → List (List ℕ) → State Size
reached guids terms = state_size (read trees (wanting []) (map (token_of guids) terms))

read-last : (before : List Token) (k : Token) → read trees (wanting []) (before ++ k ∷ []) ≡ step trees (read trees (wanting []) before) k
read-last before k =
    read-append trees (wanting []) before (k ∷ []) ∙ read-more trees (read trees (wanting []) before) k [] ∙ read-none trees (step trees (read trees (wanting []) before) k)

turn-state : (before : List Token) (k : Token) → step sizes (state_size (read trees (wanting []) before)) k ≡ state_size (read trees (wanting []) (before ++ k ∷ []))
turn-state before k = step-sized (read trees (wanting []) before) k ∙ ap state_size (sym (read-last before k))

begun-right : (tokens : List Token) → is_begun tokens ≡ is_right (state_size (read trees (wanting []) tokens))
unfolding is_begun
begun-right tokens = sym (right-sized (read trees (wanting []) tokens))

-- the fault of a term, as the machine sees it
abbrev pub seen_fault : Place → Bool → State Size → Token → List ℕ → Option Fault
seen_fault at edge s k term = option_map (λ code. fault_of code at term) (term_code (is_right (step sizes s k)) edge term k)

fault-seen : (at : Place) (edge : Bool) (before : List Token) (k : Token) (term : List ℕ)
    → option_map (λ code. fault_of code at term) (term_code (is_begun (before ++ k ∷ [])) edge term k) ≡ seen_fault at edge (state_size (read trees (wanting []) before)) k term
fault-seen at edge before k term =
    ap (λ b. option_map (λ code. fault_of code at term) (term_code b edge term k)) (begun-right (before ++ k ∷ []) ∙ ap is_right (sym (turn-state before k)))

terms-some : (at : Place) (guids : List NamedGuid) (edge : Bool) (before : List Token) (term : List ℕ) (rest : List (List ℕ)) (f : Fault)
    → option_map (λ code. fault_of code at term) (term_code (is_begun (before ++ token_of guids term ∷ [])) edge term (token_of guids term)) ≡ Some f
    → terms_fault at guids edge before (term ∷ rest) ≡ Some f
unfolding terms_fault
terms-some at guids edge before term rest f e = rw e refl

terms-none : (at : Place) (guids : List NamedGuid) (edge : Bool) (before : List Token) (term : List ℕ) (rest : List (List ℕ))
    → option_map (λ code. fault_of code at term) (term_code (is_begun (before ++ token_of guids term ∷ [])) edge term (token_of guids term)) ≡ None
    → terms_fault at guids edge before (term ∷ rest) ≡ terms_fault at guids edge (before ++ token_of guids term ∷ []) rest
unfolding terms_fault
terms-none at guids edge before term rest e = rw e refl

terms-done : (at : Place) (guids : List NamedGuid) (edge : Bool) (before : List Token) → terms_fault at guids edge before [] ≡ None
unfolding terms_fault
terms-done at guids edge before = refl

-- what the loop keeps: the state that the machine has reached, and the fault that is still to come
pub record Follows (at : Place) (guids : List NamedGuid) (edge : Bool) (terms : List (List ℕ)) (i : ℕ) (s : State Size) : Type 0 where
  pub state : s ≡ reached guids (take i terms)
  pub rest : terms_fault at guids edge (map (token_of guids) (take i terms)) (drop i terms) ≡ terms_fault at guids edge [] terms

pub follows-step : (at : Place) (guids : List NamedGuid) (edge : Bool) (terms : List (List ℕ)) (i : ℕ) (term : List ℕ) (s : State Size) (ws : List Waiting) (n : Stage)
    → Follows at guids edge terms i s → i < length terms → term ≡ get_or terms i term
    → step sizes s (token_of guids term) ≡ state_of ws n → own_code edge term (token_of guids term) ≡ None
    → Follows at guids edge terms (i + 1) (state_of ws n)
follows-step at guids edge terms i term s ws n f h is goes own =
    let before = map (token_of guids) (take i terms) in
    let k = token_of guids term in
    let next : map (token_of guids) (take (i + 1) terms) ≡ map (token_of guids) (take i terms) ++ token_of guids term ∷ [] = map-passed (token_of guids) terms i term h is in
    let here : drop i terms ≡ term ∷ drop (i + 1) terms = head_drop terms i term h is in
    let right : is_right (step sizes (state_size (read trees (wanting []) (map (token_of guids) (take i terms)))) (token_of guids term)) ≡ true = ap (λ z. is_right (step sizes z k)) (sym f.state) ∙ ap is_right goes ∙ right-kept ws n in
    let none : option_map (λ code. fault_of code at term) (term_code (is_begun (map (token_of guids) (take i terms) ++ token_of guids term ∷ [])) edge term (token_of guids term)) ≡ None =
    fault-seen at edge before k term ∙ ap (λ b. option_map (λ code. fault_of code at term) (term_code b edge term k)) right ∙ ap (option_map (λ code. fault_of code at term)) own in
    record {
      state = sym goes ∙ ap (λ z. step sizes z k) f.state ∙ turn-state before k ∙ ap (λ l. state_size (read trees (wanting []) l)) (sym next);
      rest = ap (λ l. terms_fault at guids edge l (drop (i + 1) terms)) next ∙ sym (terms-none at guids edge before term (drop (i + 1) terms) none) ∙ ap (terms_fault at guids edge before) (sym here) ∙ f.rest;
    }

tree-fault : (at : Place) (guids : List NamedGuid) (edge : Bool) (terms : List (List ℕ)) (f : Fault) → terms_fault at guids edge [] terms ≡ Some f → map_ok size_of (terms_tree at guids edge terms) ≡ Err f
unfolding terms_tree
tree-fault at guids edge terms f e = rw e refl

tree-none : (at : Place) (guids : List NamedGuid) (edge : Bool) (terms : List (List ℕ)) → terms_fault at guids edge [] terms ≡ None
    → terms_tree at guids edge terms ≡ value_or (fault_of BAD_TERM at (codes "end")) (expression (map (token_of guids) terms))
unfolding terms_tree
tree-none at guids edge terms e = rw e refl

expression-read : (tokens : List Token) → expression tokens ≡ ended (read trees (wanting []) tokens)
unfolding expression
expression-read tokens = refl

or-sized : {F : Type 0} (f : F) (o : Option Tree) → value_or f (option_map size_of o) ≡ map_ok size_of (value_or f o)
or-sized f None = refl
or-sized f (Some t) = refl

pub follows-init : (at : Place) (guids : List NamedGuid) (edge : Bool) (terms : List (List ℕ)) (s : State Size) → s ≡ wanting [] → Follows at guids edge terms 0 s
follows-init at guids edge terms s e = record { state = e ∙ ap state_size (sym (read-none trees (wanting []))); rest = refl }

pub follows-fault : (at : Place) (guids : List NamedGuid) (edge : Bool) (terms : List (List ℕ)) (i : ℕ) (term : List ℕ) (s : State Size) (e : Refusal)
    → Follows at guids edge terms i s → i < length terms → term ≡ get_or terms i term
    → Finds e (seen_fault at edge s (token_of guids term) term)
    → Refused e (map_ok size_of (terms_tree at guids edge terms))
follows-fault at guids edge terms i term s e f h is found =
    let before = map (token_of guids) (take i terms) in
    let k = token_of guids term in
    let here : drop i terms ≡ term ∷ drop (i + 1) terms = head_drop terms i term h is in
    refused_by e (seen_fault at edge s k term) (map_ok size_of (terms_tree at guids edge terms))
    (λ g x. tree-fault at guids edge terms g (sym f.rest ∙ ap (terms_fault at guids edge before) here
    ∙ terms-some at guids edge before term (drop (i + 1) terms) g (fault-seen at edge before k term ∙ ap (λ z. seen_fault at edge z k term) (sym f.state) ∙ x)))
    found

pub follows-end : (at : Place) (guids : List NamedGuid) (edge : Bool) (terms : List (List ℕ)) (i : ℕ) (s : State Size) → Follows at guids edge terms i s → length terms ≤ i
    → value_or (fault_of BAD_TERM at (codes "end")) (ended s) ≡ map_ok size_of (terms_tree at guids edge terms)
follows-end at guids edge terms i s f h =
    let none : terms_fault at guids edge [] terms ≡ None =
    sym f.rest ∙ ap (terms_fault at guids edge (map (token_of guids) (take i terms))) (drop_all i terms h) ∙ terms-done at guids edge (map (token_of guids) (take i terms)) in
    let state : s ≡ reached guids terms = f.state ∙ ap (reached guids) (take_all i terms h) in
    let fault = fault_of BAD_TERM at (codes "end") in
    ap (λ z. value_or fault (ended z)) state
    ∙ ap (value_or fault) (ended-sized (read trees (wanting []) (map (token_of guids) terms)))
    ∙ or-sized fault (ended (read trees (wanting []) (map (token_of guids) terms)))
    ∙ ap (λ o. map_ok size_of (value_or fault o)) (sym (expression-read (map (token_of guids) terms)))
    ∙ ap (map_ok size_of) (sym (tree-none at guids edge terms none))
