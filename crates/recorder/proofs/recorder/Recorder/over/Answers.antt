use Rattle.recorder.proofs.Keeping.{same}
use Rattle.recorder.proofs.recorder.Recorder.over.Goals as goal

pub returns-clause-same : goal.returns-clause-same
returns-clause-same g c = same g.L.Link.machine
