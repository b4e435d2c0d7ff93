use Rattle.cable.proofs.Keeping.{clean}
use Rattle.cable.proofs.cable.Cable.new.Goals as goal

pub returns-clause-clean : goal.returns-clause-clean
returns-clause-clean g c = clean g.L.Link.machine c.args.entries
