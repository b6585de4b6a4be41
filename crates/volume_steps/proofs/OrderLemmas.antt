-- The files of a volume by the order of their numbers.
use Rattle.std.specs.Prelude.{not, if◌then◌else◌}
use Rattle.std.proofs.Common.{◌≡◌, ℕ, ◌+◌, Bool, true, false, List, [], ◌∷◌, ◌++◌, refl, ap, ◌∙◌}
use Rattle.std.proofs.lemmas.Grind.{flat_map-append}
use Rattle.std.specs.List.{flat_map}
use Rattle.doc_types.specs.declared.volume.Item.{Item}
use Rattle.step_engine.specs.declared.talk.Ask.{Ask}
use Rattle.step_engine.specs.declared.talk.Ask.TheVariants as ask
use Rattle.step_pack.specs.declared.key.Key.{Key}
use Rattle.step_pack.specs.declared.key.Key.TheVariants as key
use Rattle.volume_steps.specs.Asks.{is_apriori, files_where, numbers_where, file_order, item_asks}

abbrev pub number_asks : ℕ → List ℕ → List (Ask Key)
number_asks v numbers = flat_map (λ i. ask.Part (key.File v i) ∷ []) numbers

where_asks : (choose : Item → Bool) (v n : ℕ) (items : List Item) → number_asks v (numbers_where choose n items) ≡ files_where choose v n items
unfolding files_where numbers_where
where_asks choose v n [] = refl
where_asks choose v n (it ∷ items) =
    elim (choose it) as (λ b. number_asks v (if b then n ∷ numbers_where choose (n + 1) items else numbers_where choose (n + 1) items)
    ≡ (if b then ask.Part (key.File v n) ∷ files_where choose v (n + 1) items else files_where choose v (n + 1) items)) [
      | true ↦ ap (λ (l : List (Ask Key)). ask.Part (key.File v n) ∷ l) (where_asks choose v (n + 1) items)
      | false ↦ where_asks choose v (n + 1) items
    ]

pub asks_in_order : (v : ℕ) (items : List Item) (order : List ℕ) → order ≡ file_order items → number_asks v order ≡ item_asks v items
asks_in_order v items order e =
    let others : Item → Bool = λ it. not (is_apriori it) in
    ap (number_asks v) e
    ∙ flat_map-append (λ i. ask.Part (key.File v i) ∷ []) (numbers_where is_apriori 0 items) (numbers_where others 0 items)
    ∙ ap (λ (l : List (Ask Key)). l ++ number_asks v (numbers_where others 0 items)) (where_asks is_apriori v 0 items)
    ∙ ap (λ (l : List (Ask Key)). files_where is_apriori v 0 items ++ l) (where_asks others v 0 items)
