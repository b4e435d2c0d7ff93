-- The machine of an adversary. Assumes nothing.
use Rattle.sensor.specs.Kinds.{KindIs}
use Rattle.sensor.specs.Exchanges.{sized}
use Rattle.sensor.specs.Machines.{Machine}
use Rattle.adversary.specs.Scripted.{Scripted, stepped}
use Rattle.adversary.specs.Lawful.{step_lawful}

abbrev pub adversarial : KindIs → Machine Scripted
adversarial k =
    record {
      kind = k;
      step = λ a e. stepped (sized e) k a e;
      sensor = λ a. a.sensor;
      lawful = λ a e. step_lawful k a e;
    }
