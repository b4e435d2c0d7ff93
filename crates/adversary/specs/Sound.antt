-- A script brings about only what the sensor's meaning allows. Assumes nothing.
use Rattle.sensor.specs.Kinds.{KindIs}
use Rattle.sensor.specs.Exchanges.{Exchange}
use Rattle.sensor.specs.Meaning.{Means}
use Rattle.adversary.specs.Scripted.{Scripted}
use Rattle.adversary.specs.Adversarial.{adversarial}

-- whatever the sensor, the script and the exchange
abbrev pub Sound : KindIs → Type 0
Sound k = (a : Scripted) (e : Exchange) → Means k a.sensor e ((adversarial k).step a e).answer ((adversarial k).step a e).next.sensor
