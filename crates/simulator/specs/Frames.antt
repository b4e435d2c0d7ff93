-- What bytes do that arrive at a register. Assumes nothing.
use Rattle.std.specs.Prelude.{ℕ, ◌-◌, ◌%◌, Bool, true, false, cond, List, length, Ok, Err, Result, ◌==◌, bit_xor, slice_index, slice_set}
use Rattle.bootloader.specs.declared.fault.FrameFault.{FrameFault}
use Rattle.bootloader.specs.Commands.{CommandIs}
use Rattle.bootloader.specs.Frames.{decode_of}
use Rattle.sensor.specs.Kinds.{KindIs}
use Rattle.sensor.specs.Sensors.{Sensor, answered, carried_out, able, counts}
use Rattle.sensor.specs.Meaning.{told}
use Rattle.simulator.specs.declared.fate.Fate.{Fate}
use Rattle.simulator.specs.declared.fate.Fate.TheVariants.{Clean, Lost, Unheard, Flipped, Refused, Slow}
use Rattle.simulator.specs.States.{SimIs, with_sensor, with_busy}

-- a byte with bit 0 flipped
abbrev pub flip : ℕ → ℕ
flip byte = bit_xor (byte % 256) 1

-- bytes with bit 0 of the last one flipped
abbrev pub flip_last : List ℕ → List ℕ
flip_last bytes = slice_set bytes (length bytes - 1) (flip (slice_index bytes (length bytes - 1)))

-- a frame is carried out, or refused: with 13 where it cannot be carried out, with 14 where it is ill formed
abbrev pub judged : KindIs → Bool → Result CommandIs FrameFault → Sensor → Sensor
judged k working (Ok command) s = cond (able k.window s command) (carried_out command working s) (answered 13 working s)
judged k working (Err fault) s = answered 14 working s

abbrev pub plainly : KindIs → List ℕ → SimIs → SimIs
plainly k frame s = with_sensor (judged k false (decode_of frame) s.sensor) s

-- a frame that counts: the script may have it refused, with 15, or worked on for a while
abbrev pub counted : KindIs → Fate → List ℕ → SimIs → SimIs
counted k Clean frame s = plainly k frame s
counted k Lost frame s = plainly k frame s
counted k Unheard frame s = plainly k frame s
counted k Flipped frame s = plainly k frame s
counted k Refused frame s = with_sensor (answered 15 false s.sensor) s
counted k (Slow byte) frame s = with_busy byte (byte % 16) (with_sensor (judged k true (decode_of frame) s.sensor) s)

-- bytes arrive: at register 0x08 a frame, elsewhere at most an order
abbrev pub arrived : KindIs → Fate → ℕ → List ℕ → SimIs → SimIs
arrived k fate register bytes s =
    cond (register == 0x08)
    (cond (counts s.sensor) (counted k fate bytes s) s)
    (with_sensor (told k (register == 0xE0) bytes s.sensor) s)
