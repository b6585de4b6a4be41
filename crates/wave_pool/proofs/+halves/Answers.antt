-- The results of two halves are those of the whole.
use Rattle.std.proofs.Common.{Ok}
use Rattle.wave_pool.proofs.Zip.{both_halves}
use Rattle.wave_pool.proofs.+halves.Goals as goal

pub returns : goal.returns
returns g t c =
    let f = c.args.work.now in
    both_halves (λ i r. g.F.Fn.post f (i, tt) (Ok r)) (λ v. v.items) c.args.low.items c.split_off.new.self.items c.in-Ok.high.items _ c.join-a.result.0 c.join-a.result.1 _
    c.in-Ok.ensures.items c.in-Ok.ensures.tail c.join-a.ensures.first c.join-a.ensures.second c.append_results.ensures
