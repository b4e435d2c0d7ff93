-- How a link answers: its machine. Assumes nothing.
use Rattle.sensor.specs.Kinds.{KindIs}
use Rattle.sensor.specs.Exchanges.{Exchange, Outcome}
use Rattle.sensor.specs.Sensors.{Sensor}
use Rattle.sensor.specs.Meaning.{Means}

-- a link as it stands and an exchange fix the answer and how the link stands next;
-- lawful: each exchange is one that the meaning allows
pub record Machine (S : Type 0) : Type 0 where
  pub kind : KindIs
  pub step : S → Exchange → Outcome S
  pub sensor : S → Sensor
  pub lawful : (s : S) (e : Exchange) → Means kind (sensor s) e (step s e).answer (sensor (step s e).next)
