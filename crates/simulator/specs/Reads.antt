-- What a read shows, and how it leaves the sensor. Assumes nothing.
use Rattle.std.specs.Prelude.{ℕ, ◌-◌, Bool, cond, ◌&&◌, List, [], ◌∷◌, replicate, nat_lt}
use Rattle.checksum.specs.Ranges.{within}
use Rattle.bootloader.specs.Replies.{status_reply}
use Rattle.sensor.specs.Kinds.{KindIs, enable_of}
use Rattle.sensor.specs.Sensors.{started_up, rested, in_loader}
use Rattle.sensor.specs.declared.registers.Asked.{Asked}
use Rattle.sensor.specs.declared.registers.Asked.TheVariants.{Status as status_asked, Stage as enable_asked, App as app_asked, Other as other_asked}
use Rattle.sensor.specs.Meaning.{enable_at, app_at}
use Rattle.simulator.specs.States.{SimIs, with_sensor, with_busy}

-- it is at work, and has a busy reply left
abbrev pub is_busy : SimIs → Bool
is_busy s = s.sensor.working && (within 16 255 s.busy && nat_lt 0 s.left)

-- the status that it shows
abbrev pub status_seen : SimIs → ℕ
status_seen s = cond (is_busy s) s.busy s.sensor.status

-- one busy reply is used up, or the work ends
abbrev pub after_status : SimIs → SimIs
after_status s = cond (is_busy s) (with_busy s.busy (s.left - 1) s) (with_sensor (rested s.sensor) s)

abbrev pub shown : KindIs → Asked → ℕ → SimIs → List ℕ
shown k status_asked count s = cond (in_loader s.sensor.stage) (status_reply (status_seen s)) (replicate count 0)
shown k enable_asked count s = enable_of k (enable_at s.sensor.stage) ∷ []
shown k app_asked count s = app_at k s.sensor.stage 0 ∷ []
shown k other_asked count s = replicate count 0

-- a read of ENABLE ends starting, a read of the status takes the work on
abbrev pub looked : Asked → SimIs → SimIs
looked status_asked s = cond (in_loader s.sensor.stage) (after_status s) s
looked enable_asked s = with_sensor (started_up s.sensor) s
looked app_asked s = s
looked other_asked s = s
