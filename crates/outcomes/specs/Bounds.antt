-- What the meaning of an exchange does not allow. Assumes nothing.
use Rattle.std.specs.Prelude.{◌≡◌, ℕ, ◌<◌, Bool, true, false, ◌⊎◌, List, Ok, slice_index}
use Rattle.std.proofs.lemmas.List.Edits.{sets}
use Rattle.bootloader.specs.Commands.{write_ram}
use Rattle.bootloader.specs.Frames.{decode_of}
use Rattle.sensor.specs.Kinds.{KindIs, seen}
use Rattle.sensor.specs.Exchanges.{Exchange, writes, reads, Answer, acknowledged, missed, filled, sized}
use Rattle.sensor.specs.Sensors.{Sensor, carried_out, able, counts}
use Rattle.sensor.specs.Meaning.{Means, Noisy, CutShort, Refused, MayStart, enable_at, AppShown}
use Rattle.sensor.specs.Machines.{Machine}

-- the bytes of a W_RAM frame that arrived and was carried out stand in the RAM
pub record WroteRam (k : KindIs) (s : Sensor) (e : Exchange) (after : Sensor) : Type 0 where
  pub sent : List ℕ
  pub got : List ℕ
  pub bytes : List ℕ
  -- the sensor as the frame met it
  pub one : Sensor
  pub started : MayStart s one
  pub is_frame : e ≡ writes 0x08 sent
  pub way : Noisy sent got ⊎ CutShort sent got
  pub says : decode_of got ≡ Ok (write_ram bytes)
  pub counted : counts one ≡ true
  pub could : able k.window one (write_ram bytes) ≡ true
  pub is : after.ram ≡ sets s.ram one.pointer bytes

-- what is shown holds of the sensor as the read met it, which may have started before or after
pub record ShownRight (k : KindIs) (s : Sensor) (shows : Sensor → Type 0) (after : Sensor) : Type 0 where
  pub one : Sensor
  pub before : MayStart s one
  pub right : shows one
  pub later : MayStart one after

pub record Bounded (k : KindIs) (s : Sensor) : Type 0 where
  -- an exchange of another size does nothing
  pub other_size : (e : Exchange) (answer : Answer) (after : Sensor) → sized e ≡ false → Means k s e answer after → (answer ≡ missed) × (after ≡ s)
  -- a filled read at ENABLE and at APPID is right
  pub enable_right :
      (got : List ℕ) (after : Sensor) → Means k s (reads 0xE0 1) (filled got) after
      → ShownRight k s (λ one. seen k (slice_index got 0) ≡ enable_at one.stage) after
  pub app_right :
      (got : List ℕ) (after : Sensor) → Means k s (reads 0x00 1) (filled got) after
      → ShownRight k s (λ one. AppShown k one.stage got) after
  -- nothing but a W_RAM carried out changes the RAM
  pub ram_kept : (e : Exchange) (answer : Answer) (after : Sensor) → Means k s e answer after → (after.ram ≡ s.ram) ⊎ WroteRam k s e after

-- numbers that a frame can have
abbrev pub Bytes : List ℕ → Type 0
Bytes frame = (i : ℕ) → slice_index frame i < 256

-- an acknowledged well-formed W_RAM at an open sensor that takes frames, within its window, leaves its bytes or a refusal
abbrev pub ForgetsNothing : {S : Type 0} → Machine S → S → Type 0
ForgetsNothing machine s =
    (frame bytes : List ℕ)
    → Bytes frame
    → decode_of frame ≡ Ok (write_ram bytes)
    → counts (machine.sensor s) ≡ true
    → able machine.kind.window (machine.sensor s) (write_ram bytes) ≡ true
    → (machine.step s (writes 0x08 frame)).answer ≡ acknowledged
    → ((working : Bool) × (machine.sensor (machine.step s (writes 0x08 frame)).next ≡ carried_out (write_ram bytes) working (machine.sensor s)))
    ⊎ Refused (machine.sensor s) (machine.sensor (machine.step s (writes 0x08 frame)).next)
