-- Every exchange is heard where the script has only zeros left. Assumes nothing.
use Rattle.std.proofs.Common.{arith}
use Rattle.std.proofs.lemmas.Grind.{common_steps}
use Rattle.sensor.specs.Kinds.{KindIs}
use Rattle.simulator.specs.Laws.{CleanHeard}

pub clean_heard_lem : (k : KindIs) → CleanHeard k
clean_heard_lem k s e zeros size = grind (arith, common_steps)
