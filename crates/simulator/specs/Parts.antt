-- What single parts of a simulated sensor keep, each by itself. Assumes nothing.
use Rattle.std.specs.Prelude.{◌≡◌, ℕ, ◌-◌, ◌≤◌, ◌<◌, ◌≢◌, Bool, false, true, cond, ◌&&◌, ◌⊎◌, List, [], ◌∷◌, length, replicate, Ok, ◌==◌}
use Prim.Native.Nat.{differ}
use Rattle.std.proofs.Common.{arith}
use Rattle.std.proofs.lemmas.Grind.{common_steps}
use Rattle.bootloader.specs.Commands.{CommandIs}
use Rattle.bootloader.specs.Replies.{status_reply}
use Rattle.sensor.specs.declared.stage.Stage.{Stage}
use Rattle.sensor.specs.Kinds.{KindIs, seen, enable_of}
use Rattle.sensor.specs.Sensors.{Sensor, started, is_starting, rested, answered, carried_out, able, in_loader}
use Rattle.sensor.specs.Meaning.{Noisy, Refused, Obeyed, enable_at, app_at, AppShown, ShowsBusy, ShowsStatus, StatusShown, MayStart}
use Rattle.simulator.specs.States.{SimIs, with_sensor, with_busy}
use Rattle.simulator.specs.Reads.{is_busy, status_seen, after_status}

-- a command is carried out if it can be
pub able_lawful :
    (t : Bool) (k : KindIs) (working : Bool) (command : CommandIs) (s : Sensor)
    → able k.window s command ≡ t
    → Refused s (cond t (carried_out command working s) (answered 13 working s)) ⊎ Obeyed k s (Ok command) (cond t (carried_out command working s) (answered 13 working s))
able_lawful = grind (arith, common_steps)

-- an exchange with another register is not one with register 0x08
pub elsewhere : (register other count : ℕ) → (other == 0x08) ≡ false → (register == other && count == 1) ≡ true → ((register == 0x08) ≡ false) × (count ≡ 1)
elsewhere = grind (arith, common_steps)

pub starts_up : (stage : Stage) (s : Sensor) → s.stage ≡ stage → MayStart s (cond (is_starting stage) (started s) s)
starts_up = grind (arith, common_steps)

-- a status read that is missed
pub busy_missed : (t : Bool) (s : SimIs) → let after = (cond t (with_busy s.busy (s.left - 1) s) (with_sensor (rested s.sensor) s)).sensor in (after ≡ s.sensor) ⊎ (after ≡ rested s.sensor)
busy_missed = grind (arith, common_steps)

pub status_missed : (t : Bool) (s : SimIs) → let after = (cond t (after_status s) s).sensor in (after ≡ s.sensor) ⊎ (after ≡ rested s.sensor)
status_missed = grind (arith, common_steps)

-- a status that comes through whole, or with a bit flipped
pub busy_shown :
    (noise : List ℕ → List ℕ) (noisy : (sent : List ℕ) → 1 ≤ length sent → Noisy sent (noise sent)) (t : Bool) (s : SimIs)
    → is_busy s ≡ t
    → let got = noise (status_reply (cond t s.busy s.sensor.status)) in
    let after = (cond t (with_busy s.busy (s.left - 1) s) (with_sensor (rested s.sensor) s)).sensor in
    ShowsBusy s.sensor got after ⊎ ShowsStatus s.sensor got after
busy_shown noise noisy t s e = grind (arith, common_steps, noisy)

pub status_shown :
    (noise : List ℕ → List ℕ) (noisy : (sent : List ℕ) → 1 ≤ length sent → Noisy sent (noise sent)) (stage : Stage) (s : SimIs) (count : ℕ)
    → StatusShown stage s.sensor (noise (cond (in_loader stage) (status_reply (status_seen s)) (replicate count 0))) (cond (in_loader stage) (after_status s) s).sensor
status_shown noise noisy stage s count = grind (arith, common_steps, noisy, busy_shown noise noisy)

pub status_length : (t : Bool) (status count : ℕ) → count ≡ 3 → length (cond t (status_reply status) (replicate count 0)) ≡ count
status_length = grind (arith, common_steps)

-- ENABLE and APPID show what they should
pub enable_shown : (k : KindIs) (stage : Stage) → seen k (enable_of k (enable_at stage)) ≡ enable_at stage
enable_shown = grind (arith, common_steps)

pub app_is_shown : (k : KindIs) (stage : Stage) → AppShown k stage (app_at k stage 0 ∷ [])
app_is_shown = grind (arith, common_steps)

-- bit 0 flipped
pub odd_even : (m : ℕ) → m < 2 → differ m 1 ≢ m
odd_even m h e = grind (arith, common_steps)

pub differ_small : (m : ℕ) → m < 2 → differ m 1 < 2
differ_small m h = grind (arith, common_steps)
