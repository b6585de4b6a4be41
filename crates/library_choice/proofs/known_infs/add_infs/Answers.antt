use Rattle.std.proofs.Common.{◌≡◌, ◌∙◌, ◌+◌, ◌++◌, ◌∷◌, ℕ, [], List, take, append_assoc, add-one, sym, ap, subst}
use Rattle.std.proofs.Math.Seq.{take-suc}
use Rattle.doc_types.specs.declared.module.InfDoc.{InfDoc}
use Rattle.library_choice.specs.Tables.{Infs}
use Rattle.library_choice.proofs.known_infs.add_infs.Goals as goal

pub loop-inf-preserved : goal.loop-inf-preserved
loop-inf-preserved c =
    let infs = c.args.infs.now in
    let above = c.args.list.now in
    let i = c.loop-inf.inf-index in
    let x = c.inf-item.result in
    let more : c.args.list.now ++ take (c.loop-inf.inf-index + 1) c.args.infs.now ≡ (c.args.list.now ++ take c.loop-inf.inf-index c.args.infs.now) ++ c.inf-item.result ∷ [] =
    ap (λ (n : ℕ). c.args.list.now ++ take n c.args.infs.now) (add-one i) ∙ ap (λ (l : List InfDoc). c.args.list.now ++ l) (take-suc infs i x c.loop-inf-test.true)
    ∙ ap (λ (y : InfDoc). c.args.list.now ++ (take c.loop-inf.inf-index c.args.infs.now ++ y ∷ [])) (sym c.inf-item.is) ∙ sym (append_assoc above (take i infs) (x ∷ [])) in
    record {
      list = c.in_ok-push_inf.ensures ∙ ap (λ (l : List InfDoc). l ++ c.inf-item.result ∷ []) c.loop-inf.invariant.list ∙ sym more;
      table = λ held. subst (λ (l : List InfDoc). Infs l c.add_inf.new.by_path) (sym c.in_ok-push_inf.ensures) (c.in_ok-add_inf.ensures c.loop-inf.list (c.loop-inf.invariant.table held));
    }
