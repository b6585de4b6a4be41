use Rattle.std.proofs.Common.{ℕ, List, Option, Some, None, Result, sym, subst}
use Rattle.build_base.specs.Answer.{Answers}
use Rattle.build_base.specs.declared.fault.Fault.{Fault}
use Rattle.doc_types.specs.declared.choice.Choice.{Choice}
use Rattle.library_choice.specs.Fronts.{FindsFor}
use Rattle.library_choice.proofs.MadeLemmas.{made_some, made_none, refused_is}
use Rattle.library_choice.proofs.choosing.choice_of_found.Goals as goal

pub lawful_choice-requires : goal.lawful_choice-requires
lawful_choice-requires c =
    subst (λ (o : Option (List (List ℕ))). FindsFor c.args.tables.now c.args.inf.now o) c.in-Some.is (c.in_ok-found.ensures c.args.inf.now c.requires)

pub returns-in-Some-clause-value : goal.returns-in-Some-clause-value
returns-in-Some-clause-value c =
    let found : FindsFor c.args.tables.now c.args.inf.now (Some c.in-Some.found) = subst (λ (o : Option (List (List ℕ))). FindsFor c.args.tables.now c.args.inf.now o) c.in-Some.is (c.in_ok-found.ensures c.args.inf.now c.requires) in
    subst (λ (r : Result Choice Fault). Answers c.lawful_choice.result r)
    (sym (made_some c.args.user.now c.args.tables.now c.args.inf.now c.in-Some.found found))
    c.lawful_choice.ensures.value

pub returns-in-None-clause-value : goal.returns-in-None-clause-value
returns-in-None-clause-value c =
    let many : FindsFor c.args.tables.now c.args.inf.now None = subst (λ (o : Option (List (List ℕ))). FindsFor c.args.tables.now c.args.inf.now o) c.in-None.is (c.in_ok-found.ensures c.args.inf.now c.requires) in
    refused_is c.too_many.result _ _ (made_none c.args.user.now c.args.tables.now c.args.inf.now many) c.too_many.ensures
