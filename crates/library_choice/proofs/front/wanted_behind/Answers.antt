use Rattle.std.proofs.Common.{◌≡◌, ◌∙◌, ℕ, List, length, sym, subst, arith}
use Rattle.std.proofs.lemmas.List.{take_all}
use Rattle.library_choice.specs.Fronts.{LeadsClasses, LeadsNulls}
use Rattle.library_choice.proofs.FoundLemmas.{take-Prefix}
use Rattle.library_choice.proofs.front.wanted_behind.Goals as goal

pub returns-clause-wanted : goal.returns-clause-wanted
returns-clause-wanted c = λ inf fronts.
    let stood = c.in_ok-classes.ensures inf fronts in
    c.in_ok-wanted.ensures.wanted inf stood.classes stood.nulls

pub returns-clause-fronts : goal.returns-clause-fronts
returns-clause-fronts c = λ inf fronts.
    let stood = c.in_ok-classes.ensures inf fronts in
    let one = c.in_ok-classes.field-0.classes.found in
    let two = c.in_ok-classes.field-0.nulls.found in
    let size : c.len-first_size.result ≡ length c.in_ok-classes.field-0.classes.found = c.len-first_size.ensures in
    let size-2 : c.len-second_size.result ≡ length c.in_ok-classes.field-0.nulls.found = c.len-second_size.ensures in
    let same : c.truncate.new.self ≡ c.in_ok-classes.field-0.classes.found =
    c.truncate.ensures ∙ take-Prefix c.len-first_size.result one c.wanted_of.new.first c.in_ok-wanted.ensures.first (omega (arith, size)) ∙ take_all c.len-first_size.result one (omega (arith, size)) in
    let same-2 : c.truncate-2.new.self ≡ c.in_ok-classes.field-0.nulls.found =
    c.truncate-2.ensures ∙ take-Prefix c.len-second_size.result two c.wanted_of.new.second c.in_ok-wanted.ensures.second (omega (arith, size-2)) ∙ take_all c.len-second_size.result two (omega (arith, size-2)) in
    record {
      classes = subst (λ (l : List (List ℕ)). LeadsClasses c.args.tables.now inf (record { found = l; at = c.in_ok-classes.field-0.classes.at })) (sym same) stood.classes;
      nulls = subst (λ (l : List (List ℕ)). LeadsNulls c.args.tables.now (record { found = l; at = c.in_ok-classes.field-0.nulls.at })) (sym same-2) stood.nulls;
    }
