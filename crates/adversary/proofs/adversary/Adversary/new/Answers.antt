use Rattle.adversary.specs.Lawful.{step_lawful}
use Rattle.adversary.proofs.Completing.{complete}
use Rattle.adversary.proofs.adversary.Adversary.new.Goals as goal

pub returns-in_err-new-clause-sound : goal.returns-in_err-new-clause-sound
returns-in_err-new-clause-sound g c = step_lawful g.K.Kind.kind

pub returns-in_err-new-clause-complete : goal.returns-in_err-new-clause-complete
returns-in_err-new-clause-complete g c = complete g.K.Kind.kind

pub returns-clause-sound : goal.returns-clause-sound
returns-clause-sound g c = step_lawful g.K.Kind.kind

pub returns-clause-complete : goal.returns-clause-complete
returns-clause-complete g c = complete g.K.Kind.kind
