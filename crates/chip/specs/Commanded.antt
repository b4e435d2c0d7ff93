-- What becomes of a command, and of a frame. Assumes nothing.
use Rattle.std.specs.Prelude.{ℕ, Bool, cond, Ok, Err, Result}
use Rattle.bootloader.specs.Commands.{CommandIs}
use Rattle.bootloader.specs.declared.fault.FrameFault.{FrameFault}
use Rattle.sensor.specs.Sensors.{Sensor, carried_out, able}
use Rattle.chip.specs.declared.refusal.Unable.{Unable}
use Rattle.chip.specs.declared.refusal.Refusal.{Refusal}
use Rattle.chip.specs.declared.refusal.Refusal.TheVariants.{IllFormed, Unable as unable}

-- whether the sensor can carry a command out, in a window of so many bytes
abbrev pub could : ℕ → CommandIs → Sensor → Result (Unit {0}) Unable
could window command s = cond (able window s command) (Ok tt) (Err (record {}))

-- it is carried out if it can be, and else nothing is done
abbrev pub commanded : ℕ → CommandIs → Bool → Sensor → Sensor
commanded window command working s = cond (able window s command) (carried_out command working s) s

-- whether the command that a frame says could be carried out
abbrev pub verdict : ℕ → Result CommandIs FrameFault → Sensor → Result (Unit {0}) Refusal
verdict window (Ok command) s = cond (able window s command) (Ok tt) (Err unable)
verdict window (Err fault) s = Err (IllFormed fault)

-- an ill-formed frame does nothing
abbrev pub done : ℕ → Result CommandIs FrameFault → Bool → Sensor → Sensor
done window (Ok command) working s = commanded window command working s
done window (Err fault) working s = s
