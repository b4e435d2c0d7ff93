use Rattle.std.proofs.Common.{length, ap, arith, rules}
use Rattle.std.proofs.lemmas.List.{take_rest}
use Rattle.hexline.specs.Digits.{pairs}
use Rattle.hexline.proofs.Pairs.{pairs_first, pairs_none}
use Rattle.hexline.proofs.digits.PairsIterator.next.Goals as goal

pub returns-in_default-clause-steps : goal.returns-in_default-clause-steps
returns-in_default-clause-steps c =
    let none = pairs_none c.args.self.now.0.now (omega arith) in
    (none, none)

pub returns : goal.returns
returns c =
    let chars = c.args.self.now.0.now in
    let rest = ap pairs (take_rest chars 2) in
    let first = pairs_first chars (omega arith) in
    let long = ap length first in
    let short = ap length rest in
    record { steps = cc; goes = search rules }
