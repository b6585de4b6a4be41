-- Keys are opened.
use Rattle.std.proofs.Common.{◌≡◌, ◌++◌, List, [], ◌∷◌, Option, Some, None, refl, sym, ◌∙◌, subst, Contains, inl, inr, MatchOption}
use Rattle.std.proofs.lemmas.List.Elements.{All-contains}
use Rattle.std.specs.Borrow.{Bor}
use Rattle.std.specs.Option.{IfSome, option_copied}
use Rattle.step_engine.specs.Build.{Setting}
use Rattle.step_engine.specs.Engine.{State, state}
use Rattle.step_engine.proofs.Steps.{running_none, checking_none}
use Rattle.step_engine.specs.declared.talk.Entry.{Entry}
use Rattle.step_engine.specs.Table.{Known, IsStarted}
use Rattle.step_engine.specs.Rounds.{IsWanted}
use Rattle.step_engine.specs.Items.{IsReady, IsAdvanced, AreWanted}
use Rattle.step_engine.specs.Taking.{PutsIn}
use Rattle.step_engine.specs.Opening.{IsOpened, Opens, OpensNoted}
use Rattle.step_engine.specs.declared.places.Place.TheVariants.{Running, Done}
use Rattle.step_engine.specs.declared.items.Item.{Item}
use Rattle.step_engine.specs.declared.items.Item.TheVariants as item
use Rattle.step_engine.proofs.Going.{going_checking, going_granted}
use Rattle.step_engine.proofs.Acting.{act_none, kept_of, finds_placed, finds_checked}
use Rattle.step_engine.proofs.Listing.{list_none, list_noted}
use Rattle.step_engine.proofs.TakingLemmas.{list_put}

-- the entry that is checked is the kept one
pub kept_entry : {K O : Type 0} (old : List (Entry K O)) (k : K) (kept : Option (Bor (Entry K O))) (e : Entry K O) → IfSome kept (λ b. Contains old b.now × (b.now.key ≡ k)) → IfSome kept (λ b. (d : Entry K O) → Contains old d → d.key ≡ k → d ≡ b.now) → Some e ≡ option_copied kept → (e.key ≡ k) × Contains old e × ((d : Entry K O) → Contains old d → d.key ≡ k → d ≡ e)
kept_entry old k None e has only is = absurd cc
kept_entry old k (Some b) e has only is = let same : e ≡ b.now = cc in rw same (has.1, has.0, only)

idle_none : {K : Type 0} (t : Known K) (k : K) → t k ≡ None → IsStarted (t k) → ⊥
idle_none t k e (inl h) = absurd (let a : None ≡ Some Running = sym e ∙ h in cc)
idle_none t k e (inr h) = absurd (let a : None ≡ Some (Done h.0) = sym e ∙ h.1 in cc)

adv_opened : {K O : Type 0} (s : Setting K O) (k : K) (y : State K O) (t u : Known K) (ran : List K) (a : Item K O) → IsReady s y t → IsOpened k s.old y.ran ran t u a → IsAdvanced s k y (state y.fresh y.learned ran y.reads) t u (Some a)
adv_opened {K} {O} s k y t u ran (item.Run q) r h = record {
  act = record {
    ready = record { kept = kept_of s y.fresh y.learned y.ran ran y.reads y.reads r.kept; finds = finds_placed t u k y.fresh h.3 r.finds };
    grows = λ e c. c;
    going = λ top x g w. rw h.2 (going_granted s top x y t u g k (idle_none t k h.0) h.3 w (λ v i e c j n. h.1 (e, c, j)));
  };
  item = (rw h.5 (running_none s q.key (state y.fresh y.learned ran y.reads)), h.4);
}
adv_opened s k y t u ran (item.Asked q) r h = absurd h
adv_opened {K} {O} s k y t u ran (item.Check q) r h =
    rw h.1 (record {
      act = record {
        ready = record { kept = r.kept; finds = finds_checked t u k y.fresh h.2 r.finds };
        grows = λ e c. c;
        going = λ top x g w. going_checking s top x y t u g k (idle_none t k h.0) h.2;
      };
      item = (record { old = h.4; only = λ d c j. h.5 d c (j ∙ h.3); checking = rw h.6 (checking_none s q.entry.talk.batches y) }, h.3);
    })

adv_open : {K O : Type 0} (s : Setting K O) (k : K) (y : State K O) (t u : Known K) (ran : List K) (r : Option (Item K O)) → IsReady s y t → MatchOption r ((ran ≡ y.ran) × (u ≡ t)) (IsOpened k s.old y.ran ran t u) → IsAdvanced s k y (state y.fresh y.learned ran y.reads) t u r
adv_open s k y t u ran None r h = rw (h.0, h.1) (record { act = act_none s k y t r; item = tt })
adv_open s k y t u ran (Some a) r h = adv_opened s k y t u ran a r h

pub opens_none : {K O : Type 0} (keys : List K) (old : List (Entry K O)) (book : List K) (t : Known K) → Opens keys old book t book t []
opens_none keys old book t s y o e r = rw (sym e) (list_none s y t (λ top. AreWanted s top keys) r)

pub opens_more : {K O : Type 0} (keys : List K) (old : List (Entry K O)) (book book1 book2 : List K) (t u v : Known K) (items items' : List (Item K O)) (k : K) (r : Option (Item K O)) → Opens keys old book t book1 u items → Contains keys k → MatchOption r ((book2 ≡ book1) × (v ≡ u)) (IsOpened k old book1 book2 u v) → PutsIn r items items' → Opens keys old book t book2 v items'
opens_more {K} {O} keys old book book1 book2 t u v items items' k r so c h put s y o e q =
    let z = state y.fresh y.learned book1 y.reads in
    let l = so s y o e q in
    let h' : MatchOption r ((book2 ≡ book1) × (v ≡ u)) (IsOpened k s.old book1 book2 u v) = subst (λ (old : List (Entry K O)). MatchOption r ((book2 ≡ book1) × (v ≡ u)) (IsOpened k old book1 book2 u v)) (sym o) h in
    list_put s y z t u (λ top. AreWanted s top keys) items l k (λ top b. All-contains (λ k. IsWanted s top k) keys k b c) (state y.fresh y.learned book2 y.reads) v r items' (adv_open s k z u v book2 r l.ready h') put

pub opens_noted : {K O : Type 0} (keys : List K) (old : List (Entry K O)) (book book' : List K) (t u : Known K) (items : List (Item K O)) → Opens keys old book t book' u items → OpensNoted keys old book t book'
opens_noted keys old book book' t u items so s y o e r top x g w = list_noted s y (state y.fresh y.learned book' y.reads) t u (λ top. AreWanted s top keys) [] items (so s y o e r) top x g w

-- a refusal leaves the book as it was, or with what was opened
pub opens_refused : {K O : Type 0} (keys : List K) (old : List (Entry K O)) (book book1 book2 : List K) (t u : Known K) (items : List (Item K O)) → Opens keys old book t book1 u items → book2 ≡ book1 → OpensNoted keys old book t book2
opens_refused keys old book book1 book2 t u items so e = rw e (opens_noted keys old book book1 t u items so)

-- and so does one after the opening of a key
pub opens_refused_then : {K O : Type 0} (keys : List K) (old : List (Entry K O)) (book book1 book2 : List K) (t u v : Known K) (items : List (Item K O)) (k : K) (r : Option (Item K O)) → Opens keys old book t book1 u items → Contains keys k → MatchOption r ((book2 ≡ book1) × (v ≡ u)) (IsOpened k old book1 book2 u v) → OpensNoted keys old book t book2
opens_refused_then keys old book book1 book2 t u v items k None so c h = opens_noted keys old book book2 t v items (opens_more keys old book book1 book2 t u v items items k None so c h refl)
opens_refused_then keys old book book1 book2 t u v items k (Some a) so c h = opens_noted keys old book book2 t v (items ++ a ∷ []) (opens_more keys old book book1 book2 t u v items (items ++ a ∷ []) k (Some a) so c h refl)
