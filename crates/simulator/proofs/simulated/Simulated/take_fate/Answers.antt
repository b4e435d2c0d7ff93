use Rattle.std.proofs.lemmas.Option.{unwrap_or-slice_get}
use Rattle.simulator.proofs.simulated.Simulated.take_fate.Goals as goal

pub returns-clause-fate : goal.returns-clause-fate
returns-clause-fate g c = let byte = unwrap_or-slice_get c.args.self.now.script.now c.args.self.now.at 0 in cc
