-- The sensor that a chip stands for. Assumes nothing.
use Rattle.chip.specs.declared.lent.Chip.{Chip}
use Rattle.chip.specs.declared.state.State.{State}
use Rattle.std.specs.Prelude.{ℕ, List}
use Rattle.sensor.specs.Sensors.{Sensor}

-- the sensor with this RAM and this state
abbrev pub sensor_of : List ℕ → State → Sensor
sensor_of ram s = record { ram = ram; pointer = s.pointer; stage = s.stage; status = s.status; remapped = s.remapped; opened = s.opened; working = s.working }

-- its RAM is what the lent memory holds
abbrev pub sensor_in : Chip → Sensor
sensor_in c = sensor_of c.ram.now c.state
