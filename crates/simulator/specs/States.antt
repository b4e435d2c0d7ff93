-- A simulated sensor's state. Assumes nothing.
use Rattle.std.specs.Prelude.{ℕ, List}
use Rattle.sensor.specs.Sensors.{Sensor, switched_on}
use Rattle.sensor.specs.Scripts.{past}

pub record SimIs : Type 0 where
  pub sensor : Sensor
  -- what it shows while it is busy, and how many more times
  pub busy : ℕ
  pub left : ℕ
  pub script : List ℕ
  -- how many bytes of the script are used up
  pub at : ℕ

-- just switched on, with this RAM and this script
abbrev pub first : List ℕ → List ℕ → SimIs
first ram script = record { sensor = switched_on ram; busy = 0; left = 0; script = script; at = 0 }

-- some fields changed, all else as it was

abbrev pub with_sensor : Sensor → SimIs → SimIs
with_sensor sensor s = record { sensor = sensor; busy = s.busy; left = s.left; script = s.script; at = s.at }

abbrev pub with_busy : ℕ → ℕ → SimIs → SimIs
with_busy busy left s = record { sensor = s.sensor; busy = busy; left = left; script = s.script; at = s.at }

-- one byte of the script is used up; after its end none
abbrev pub advanced : SimIs → SimIs
advanced s = record { sensor = s.sensor; busy = s.busy; left = s.left; script = s.script; at = past s.script s.at }
