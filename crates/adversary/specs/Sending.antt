-- What becomes of a write by a choice. Assumes nothing.
use Rattle.std.specs.Prelude.{ℕ, Bool, true, false, cond, List, take, Ok, Err, Result, ◌==◌, nat_lt, slice_set}
use Rattle.checksum.specs.Ranges.{within}
use Rattle.bootloader.specs.declared.fault.FrameFault.{FrameFault}
use Rattle.bootloader.specs.Commands.{CommandIs}
use Rattle.bootloader.specs.Frames.{decode_of}
use Rattle.sensor.specs.Kinds.{KindIs}
use Rattle.sensor.specs.Sensors.{Sensor, answered, carried_out, able, counts}
use Rattle.sensor.specs.Meaning.{told}
use Rattle.adversary.specs.Choices.{Arrival, whole, one_changed, cut_short, lost, Choice}

-- the byte at a place made another; past the end, and by no byte, nothing is changed
abbrev pub changed : List ℕ → ℕ → ℕ → List ℕ
changed bytes at to = cond (nat_lt to 256) (slice_set bytes at to) bytes

-- a status that refuses: the one given from 1 to 15, else 15
abbrev pub reason_of : ℕ → ℕ
reason_of status = cond (within 1 15 status) status 15

abbrev pub refused : Choice → Sensor → Sensor
refused c s = answered (reason_of c.status) c.working s

-- what a frame says is carried out where the sensor can, and else refused
abbrev pub obeyed : ℕ → Choice → Sensor → Result CommandIs FrameFault → Sensor
obeyed window c s (Ok command) = cond (able window s command) (carried_out command c.working s) (refused c s)
obeyed window c s (Err fault) = refused c s

-- where a frame counts it is obeyed or refused, elsewhere nothing happens
abbrev pub judged : ℕ → Choice → Sensor → List ℕ → Sensor
judged window c s got = cond (counts s) (cond c.obeys (obeyed window c s (decode_of got)) (refused c s)) s

-- what of a frame arrives
abbrev pub frame_sent : ℕ → Choice → Arrival → Sensor → List ℕ → Sensor
frame_sent window c whole s frame = judged window c s frame
frame_sent window c (one_changed at to) s frame = judged window c s (changed frame at to)
frame_sent window c (cut_short at) s frame = judged window c s (take at frame)
frame_sent window c lost s frame = s

-- whether bytes arrive to their end, so that they can be acknowledged
abbrev pub arrives : Arrival → Bool
arrives whole = true
arrives (one_changed at to) = true
arrives (cut_short at) = false
arrives lost = false

-- a frame at register 0x08; at another register bytes arrive whole or not at all
abbrev pub written : KindIs → Choice → Sensor → ℕ → List ℕ → Sensor
written k c s register bytes =
    cond (register == 0x08)
    (frame_sent k.window c c.arrival s bytes)
    (cond (arrives c.arrival) (told k (register == 0xE0) bytes s) s)
