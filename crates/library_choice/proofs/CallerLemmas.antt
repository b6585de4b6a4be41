-- The instances that have something called are among the found.
use Rattle.std.proofs.Common.{◌≡◌, ◌∙◌, ℕ, Bool, true, false, cond, nat_eq, List, [], ◌∷◌, Option, Some, None, refl, sym, subst, arith}
use Rattle.std.specs.Prelude.{find}
use Rattle.std.specs.List.{All, cons_option}
use Rattle.std.specs.Cmp.Lexicographic.{pointwise, same_text}
use Rattle.std.proofs.lemmas.List.Elements.{All-cons}
use Rattle.doc_types.specs.declared.module.InfDoc.{InfDoc}
use Rattle.library_calls.specs.declared.caller.WithCalls.{WithCalls}
use Rattle.library_choice.specs.Choices.{has_call, caller_of, caller_in, callers}
use Rattle.library_choice.specs.Closure.{known, next, same_path}
use Rattle.library_choice.specs.Found.{is_in}
use Rattle.library_choice.specs.Lines.{Setting}
use Rattle.library_choice.specs.Reaching.{IsWithin, IsWhole, AreFound}
use Rattle.library_choice.proofs.PathLemmas.{path_same}
use Rattle.library_choice.proofs.ReachLemmas.{or-left, or-right}

passes-by : {X : Type 0} (p : X → Bool) (y : X) (rest : Option X) (x : X) (v : Bool) → p y ≡ v → cond v (Some y) rest ≡ Some x → (rest ≡ Some x → p x ≡ true) → p x ≡ true
passes-by p y rest x true t f ih = let same : y ≡ x = cc in subst (λ z. p z ≡ true) same t
passes-by p y rest x false t f ih = ih f

found-passes : {X : Type 0} (p : X → Bool) (xs : List X) (x : X) → find p xs ≡ Some x → p x ≡ true
found-passes p [] x e = absurd (cc)
found-passes p (y ∷ ys) x e = passes-by p y (find p ys) x (p y) refl e (found-passes p ys x)

-- a known INF file is that of its path
known-path : (infs : List InfDoc) (path : List ℕ) (inf : InfDoc) → known infs path ≡ Some inf → inf.at.path ≡ path
unfolding known
known-path infs path inf e = same_text inf.at.path path (sym (found-passes (λ (x : InfDoc). pointwise nat_eq x.at.path path) infs inf e))

caller-path : (inf : InfDoc) (b : Bool) (c : WithCalls) → cond b (Some (caller_of inf)) None ≡ Some c → c.inf ≡ inf.at.path
unfolding caller_of
caller-path inf true c e = sym (some-is (caller_of inf) c e)
  where
    some-is : (x y : WithCalls) → Some x ≡ Some y → x.inf ≡ y.inf
    some-is x y e = cc
caller-path inf false c e = absurd (cc)

caller-known : (infs : List InfDoc) (path : List ℕ) (o : Option InfDoc) → known infs path ≡ o → (c : WithCalls) → caller_in o ≡ Some c → c.inf ≡ path
caller-known infs path None k c e = absurd (cc)
caller-known infs path (Some inf) k c e = caller-path inf (has_call inf) c e ∙ known-path infs path inf k

all-kept : (found : List (List ℕ)) (o : Option WithCalls) (rest : List WithCalls) → ((c : WithCalls) → o ≡ Some c → is_in same_path found c.inf ≡ true) → AreFound found rest → AreFound found (cons_option o rest)
all-kept found None rest f h = h
all-kept found (Some c) rest f h = (f c refl, h)

among : (infs : List InfDoc) (found xs : List (List ℕ)) → ((x : List ℕ) → is_in same_path xs x ≡ true → is_in same_path found x ≡ true) → AreFound found (callers infs xs)
among infs found [] f = tt
among infs found (x ∷ xs) f =
    all-kept found (caller_in (known infs x)) (callers infs xs)
    (λ c e. subst (λ p. is_in same_path found p ≡ true) (sym (caller-known infs x (known infs x) refl c e)) (f x (or-left (same_path x x) (is_in same_path xs x) (path_same.itself x))))
    (among infs found xs (λ z h. f z (or-right (same_path x z) (is_in same_path xs z) h)))

pub callers_found : (infs : List InfDoc) (found : List (List ℕ)) → AreFound found (callers infs found)
callers_found infs found = among infs found found (λ x e. e)

within_all : (s : Setting) (found : List (List ℕ)) → IsWhole s found → (cs : List WithCalls) → AreFound found cs → All (λ (c : WithCalls). IsWithin same_path (next s) c.inf) cs
within_all s found w [] h = λ k d h. absurd (omega arith)
within_all s found w (c ∷ cs) h =
    All-cons (λ (c : WithCalls). IsWithin same_path (next s) c.inf) c cs (record { found = found; closed = w.closed; few = w.few; there = h.0 }) (within_all s found w cs h.1)

pub callers_within : (s : Setting) (found : List (List ℕ)) → IsWhole s found → All (λ (c : WithCalls). IsWithin same_path (next s) c.inf) (callers s.infs found)
callers_within s found w = within_all s found w (callers s.infs found) (callers_found s.infs found)
