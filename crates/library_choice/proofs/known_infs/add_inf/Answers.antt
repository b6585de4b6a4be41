use Rattle.std.proofs.Common.{◌∙◌, ℕ, List, Some, cond, sym, ap}
use Rattle.std.specs.Prelude.{is_some}
use Rattle.std.specs.HashMap.{get}
use Rattle.doc_types.specs.declared.module.InfDoc.{InfDoc}
use Rattle.library_choice.specs.Tables.{same_key}
use Rattle.library_choice.proofs.TableLemmas.{infs_kept, infs_added}
use Rattle.library_choice.proofs.known_infs.add_inf.Goals as goal

pub returns-then-contains_key : goal.returns-then-contains_key
returns-then-contains_key c = λ above held.
    infs_kept above c.args.inf.now c.args.by_path.now c.value.result.now.at.path
    (ap (λ (x : InfDoc). x.at.path) c.value.ensures) (sym c.contains_key.ensures ∙ c.if-contains_key.true) held

pub returns-in-Ok : goal.returns-in-Ok
returns-in-Ok c = λ above held.
    infs_added above c.args.inf.now c.args.by_path.now c.insert.new.self c.in_ok-path.path
    (c.in_ok-path.ensures ∙ ap (λ (x : InfDoc). x.at.path) c.value.ensures)
    (ap (λ (k : List ℕ). is_some (get same_key c.args.by_path.now k)) c.in_ok-path.ensures ∙ sym c.contains_key.ensures ∙ c.if-contains_key.false)
    (λ q. c.in-Ok.ensures.updates.0 q ∙ ap (λ (x : InfDoc). cond (same_key c.in_ok-path.path q) (Some x) (get same_key c.args.by_path.now q)) c.in_ok-inf.ensures) held
