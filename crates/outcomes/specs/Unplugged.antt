-- The machine of a link that reaches nothing: every exchange is missed. Assumes nothing.
use Rattle.std.specs.Prelude.{replicate}
use Rattle.sensor.specs.Kinds.{KindIs}
use Rattle.sensor.specs.Exchanges.{missed, sized}
use Rattle.sensor.specs.Sensors.{switched_on}
use Rattle.sensor.specs.Losing.{lost}
use Rattle.sensor.specs.Machines.{Machine}

-- the sensor that it does not reach stays as it was switched on
abbrev pub unplugged : KindIs → Machine (Unit {0})
unplugged k =
    record {
      kind = k;
      step = λ s e. record { answer = missed; next = s };
      sensor = λ s. switched_on (replicate k.window 0);
      lawful = λ s e. lost (sized e) k (switched_on (replicate k.window 0)) e;
    }
