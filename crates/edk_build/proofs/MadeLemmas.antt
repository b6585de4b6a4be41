-- What stands ready is that of the outcome.
use Rattle.std.proofs.Common.{◌≡◌, true, false, sym, ap, append_assoc, subst, ◌∙◌, ℕ, ◌+◌, ◌<◌, List, [], ◌∷◌, ◌++◌, length, get_or, take, map, Result}
use Rattle.std.proofs.lemmas.List.{map-append}
use Rattle.build_base.specs.Path.{IsPath, is_path}
use Rattle.build_base.proofs.PathLemmas.{IsPath-join}
use Rattle.build_base.proofs.Steps.{map-passed}
use Rattle.build_base.specs.declared.fault.Fault.{Fault}
use Rattle.build_base.specs.declared.outside.Target.TheVariants.{Out as ToOut}
use Rattle.build_base.specs.Spelling.{text}
use Rattle.step_engine.specs.declared.talk.Entry.{Entry}
use Rattle.step_engine.specs.declared.talk.Outcome.{Outcome}
use Rattle.step_pack.specs.declared.key.Key.{Key}
use Rattle.step_pack.specs.declared.out.Out.{Out}
use Rattle.step_pack.specs.declared.out.Output.{Output}
use Rattle.edk_build.specs.FilePair.{FilePair}
use Rattle.edk_build.specs.Building.{HasSource, Tells}
use Rattle.edk_build.specs.Emitting.{summary, outputs_of}
use Rattle.edk_build.specs.Made.{IsMade, IsReady, made_status}
use Rattle.edk_build.specs.declared.label.Label.{Label}
use Rattle.edk_build.specs.declared.made.Made.{Made}

-- a text that is put together of a folder, a slash and a path is a path
pub below_is_path : (folder path whole : List ℕ) → IsPath folder → IsPath path → whole ≡ (folder ++ 47 ∷ []) ++ path → is_path whole ≡ false → ⊥
below_is_path folder path whole f p e none =
    let passes : is_path whole ≡ true = subst IsPath (sym (e ∙ append_assoc folder (47 ∷ []) path)) (IsPath-join folder path f p) in
    absurd cc

-- the source of one of some outputs
pub source_at : (value : Key → Outcome Out) (entries : List (Entry Key Out)) (outputs : List Output) (i : ℕ) (o : Output) → Tells value entries outputs → i < length outputs → o ≡ get_or outputs i o
    → HasSource value entries o
source_at value entries outputs i o t h e = t.sources o (i, h, sym e)

-- with its summary, what is made stands ready
pub ready_of : (made : Made) (label : Label) (outcome : Result (List FilePair) Fault) (line : List ℕ) (steps reused : ℕ) → IsMade made label outcome
    → line ≡ summary label (made_status made) steps reused → IsReady (record { made = made; summary = line }) label outcome steps reused
ready_of made label outcome line steps reused m e = record {
  status = m.status;
  outputs =
      ap (λ z. z ++ text ToOut line ∷ []) m.outputs
      ∙ ap (λ z. outputs_of label outcome ++ text ToOut z ∷ []) (e ∙ ap (λ s. summary label s steps reused) m.status);
}

-- two maps of a list, after one item more
pub one_more : {X Y Z : Type 0} (f : Y → Z) (p : X → Y) (xs : List X) (i : ℕ) (o : X) (old new : List Z) (x : Z) → i < length xs → o ≡ get_or xs i o
    → old ≡ map f (map p (take i xs)) → x ≡ f (p o) → new ≡ old ++ x ∷ [] → new ≡ map f (map p (take (i + 1) xs))
one_more f p xs i o old new x h e a b n =
    n ∙ ap (λ z. z ++ x ∷ []) a ∙ ap (λ z. map f (map p (take i xs)) ++ z ∷ []) b
    ∙ sym (ap (map f) (map-passed p xs i o h e) ∙ map-append f (map p (take i xs)) (p o ∷ []))
