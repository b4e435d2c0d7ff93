-- A script can bring about whatever the sensor's meaning allows. Assumes nothing.
use Rattle.std.specs.Prelude.{◌≡◌}
use Rattle.sensor.specs.Kinds.{KindIs}
use Rattle.sensor.specs.Exchanges.{Exchange, Answer, acknowledged, missed, filled}
use Rattle.sensor.specs.Sensors.{Sensor}
use Rattle.sensor.specs.Meaning.{Means}
use Rattle.adversary.specs.Choices.{Choice, AllBytes, Fits}
use Rattle.adversary.specs.Scripted.{Scripted, choice_at}
use Rattle.adversary.specs.Adversarial.{adversarial}

-- a link fills a buffer of bytes
abbrev pub AnswerBytes : Answer → Type 0
AnswerBytes acknowledged = Unit {0}
AnswerBytes missed = Unit {0}
AnswerBytes (filled got) = AllBytes got

-- an exchange with a sensor, by whatever script this choice is next in, has this answer and leaves the sensor so
pub record Gives (k : KindIs) (c : Choice) (s : Sensor) (e : Exchange) (answer : Answer) (after : Sensor) : Type 0 where
  pub answers : (a : Scripted) → a.sensor ≡ s → choice_at a.choices a.at ≡ c → ((adversarial k).step a e).answer ≡ answer
  pub leaves : (a : Scripted) → a.sensor ≡ s → choice_at a.choices a.at ≡ c → ((adversarial k).step a e).next.sensor ≡ after

-- each outcome that the meaning allows, of each exchange with each sensor, comes by a choice that a program can write
abbrev pub Complete : KindIs → Type 0
Complete k =
    (s : Sensor) (e : Exchange) (answer : Answer) (after : Sensor)
    → Means k s e answer after
    → AnswerBytes answer
    → (c : Choice) × (Fits c × Gives k c s e answer after)
