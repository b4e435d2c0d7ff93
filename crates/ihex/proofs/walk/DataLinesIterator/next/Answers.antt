use Rattle.std.proofs.Common.{length, refl, ap, rules}
use Rattle.ihex.proofs.Walked.{walk_first, walk_none}
use Rattle.ihex.proofs.walk.DataLinesIterator.next.Goals as goal

pub returns-in_err-data-clause-steps : goal.returns-in_err-data-clause-steps
returns-in_err-data-clause-steps c = rw c.from_residual.ensures (walk_none _ (λ p q l r k. search rules) _ _ (λ a r q k. refl) c.in_err-data.ensures.runs, refl)

pub returns : goal.returns
returns c =
    let first = walk_first _ (λ p q l r k. search rules) c.args.self.now.lines c.find_map.new.self _ c.in_ok-data.data c.in_ok-data.ensures.ran in
    let fewer = ap length first.0 in
    record { steps = first; goes = search rules }
