use Rattle.std.proofs.Common.{Ok, None, option_map, sym, ap, ◌∙◌}
use Rattle.depex_code.specs.Kept.{piece_size}
use Rattle.depex_code.specs.Compiled.{module_leave, has_front, compiled}
use Rattle.depex_code.specs.SizedJoins.{groups_size, final_bytes}
use Rattle.build_base.proofs.ResultLemmas.{refused_too}
use Rattle.depex_code.proofs.LimitLemmas.{compiled-ok, compiled-bad}
use Rattle.depex_code.proofs.compiler.module_bytes.Goals as goal

pub returns-in_ok-final_bytes-in-Ok : goal.returns-in_ok-final_bytes-in-Ok
returns-in_ok-final_bytes-in-Ok c =
    let whole = option_map piece_size c.in-Ok.whole in
    let front = c.has_front-front.ensures ∙ ap (λ l. has_front l c.args.groups.now) c.module_leave-leave.ensures in
    compiled-ok c.args.module_type c.args.groups.now whole c.requires
    (ap (λ b. groups_size b (module_leave c.args.module_type c.args.groups.now) None c.args.groups.now) (sym front)
    ∙ ap (λ l. groups_size c.has_front-front.result l None c.args.groups.now) (sym c.module_leave-leave.ensures) ∙ c.in-Ok.ensures)
    ∙ ap (λ b. Ok (final_bytes b (option_map piece_size c.in-Ok.whole))) (sym front)
    ∙ ap Ok (sym c.in_ok-final_bytes-in-Ok.ensures)

pub returns-in-Err : goal.returns-in-Err
returns-in-Err c =
    let t = c.args.module_type in
    let groups = c.args.groups.now in
    let front = c.has_front-front.ensures ∙ ap (λ l. has_front l c.args.groups.now) c.module_leave-leave.ensures in
    refused_too c.in-Err.e (groups_size c.has_front-front.result c.module_leave-leave.result None c.args.groups.now) (compiled c.args.module_type c.args.groups.now)
    (λ f x. compiled-bad t groups f c.requires
    (ap (λ b. groups_size b (module_leave c.args.module_type c.args.groups.now) None c.args.groups.now) (sym front)
    ∙ ap (λ l. groups_size c.has_front-front.result l None c.args.groups.now) (sym c.module_leave-leave.ensures) ∙ x))
    c.in-Err.ensures
