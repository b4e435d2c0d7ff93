-- What single parts of a choice keep, each by itself. Assumes nothing.
use Rattle.std.specs.Prelude.{◌≡◌, ℕ, ◌≤◌, ◌<◌, Bool, true, cond, ◌⊎◌, List, length, take}
use Rattle.std.proofs.Common.{arith}
use Rattle.std.proofs.lemmas.Grind.{common_steps}
use Rattle.checksum.specs.Ranges.{within}
use Rattle.bootloader.specs.Commands.{CommandIs}
use Rattle.sensor.specs.declared.stage.Stage.{Stage}
use Rattle.sensor.specs.declared.stage.Stage.TheVariants.{Starting}
use Rattle.sensor.specs.Kinds.{KindIs, seen, enable_of}
use Rattle.sensor.specs.Sensors.{Sensor, is_starting, carried_out, able}
use Rattle.sensor.specs.Meaning.{Refused, CarriedOut, enable_at}
use Rattle.adversary.specs.Choices.{Choice, four}
use Rattle.adversary.specs.Sending.{refused, reason_of}

-- the status of a refused frame refuses
pub reason_fits : (status : ℕ) → (1 ≤ reason_of status) × (reason_of status < 16)
reason_fits = grind (arith, common_steps)

-- a command is carried out if it can be
pub able_lawful :
    (k : KindIs) (c : Choice) (s : Sensor) (command : CommandIs) (b : Bool)
    → able k.window s command ≡ b
    → Refused s (cond b (carried_out command c.working s) (refused c s))
    ⊎ CarriedOut k s command (cond b (carried_out command c.working s) (refused c s))
able_lawful = grind (arith, common_steps)

-- what is shown where anything may be has the length that was asked for
pub four_length : (shown : List ℕ) (count : ℕ) → within 1 4 count ≡ true → length (take count (four shown)) ≡ count
four_length = grind (arith, common_steps)

-- the least value that says so does
pub least_says : (k : KindIs) (stage : Stage) → seen k (enable_of k (enable_at stage)) ≡ enable_at stage
least_says = grind (arith, common_steps)

pub is_starting_stage : (stage : Stage) → is_starting stage ≡ true → stage ≡ Starting
is_starting_stage = grind (arith, common_steps)
