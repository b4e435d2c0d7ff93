-- What the meaning of an exchange allows: each outcome that a sensor, its kind of chip and a noisy cable can have. Assumes nothing.
use Rattle.std.specs.Prelude.{◌≡◌, ℕ, ◌<◌, ◌≤◌, Bool, true, false, ◌≢◌, List, [], ◌∷◌, length, take, Ok, ◌==◌, slice_index, slice_set}
use Rattle.bootloader.specs.Commands.{CommandIs}
use Rattle.bootloader.specs.Frames.{decode_of}
use Rattle.bootloader.specs.Replies.{status_reply}
use Rattle.sensor.specs.declared.stage.Stage.TheVariants.{Starting as starting, Loader as loader, Application as application}
use Rattle.sensor.specs.Kinds.{KindIs, seen}
use Rattle.sensor.specs.Exchanges.{Exchange, writes, reads, Answer, acknowledged, missed, filled, sized}
use Rattle.sensor.specs.Sensors.{Sensor, started, rested, answered, carried_out, able, counts, in_loader}
use Rattle.sensor.specs.declared.registers.Asked.TheVariants.{Other as other_asked}
use Rattle.sensor.specs.Meaning.{Does, Taken, Means, told, enable_at, asked}

-- a frame at register 0x08, of a size that a link has
abbrev Frame : (frame : List ℕ) → Type 0
Frame frame = sized (writes 0x08 frame) ≡ true

-- a byte other than the one at a place of these
pub record Other (bytes : List ℕ) (at to : ℕ) : Type 0 where
  pub inside : at < length bytes
  pub byte : to < 256
  pub other : to ≢ slice_index bytes at

pub record Allows (k : KindIs) (s : Sensor) : Type 0 where
  -- frames that arrive as they were sent

  pub is_carried_out :
      (frame : List ℕ) (command : CommandIs) (working : Bool)
      → Frame frame → counts s ≡ true → decode_of frame ≡ Ok command → able k.window s command ≡ true
      → Means k s (writes 0x08 frame) acknowledged (carried_out command working s)
  pub refused :
      (frame : List ℕ) (status : ℕ) (working : Bool)
      → Frame frame → counts s ≡ true → 1 ≤ status → status < 16
      → Means k s (writes 0x08 frame) acknowledged (answered status working s)
  pub not_counted :
      (frame : List ℕ) → Frame frame → counts s ≡ false → Means k s (writes 0x08 frame) acknowledged s
  pub arrived_but_missed :
      (frame : List ℕ) (after : Sensor) → Frame frame → Taken k s frame after → Means k s (writes 0x08 frame) missed after
  -- frames that do not

  pub changed :
      (frame : List ℕ) (at to : ℕ) (after : Sensor)
      → Frame frame → Other frame at to → Taken k s (slice_set frame at to) after
      → Means k s (writes 0x08 frame) acknowledged after
  pub changed_and_missed :
      (frame : List ℕ) (at to : ℕ) (after : Sensor)
      → Frame frame → Other frame at to → Taken k s (slice_set frame at to) after
      → Means k s (writes 0x08 frame) missed after
  pub cut_short :
      (frame : List ℕ) (at : ℕ) (after : Sensor)
      → Frame frame → at < length frame → Taken k s (take at frame) after
      → Means k s (writes 0x08 frame) missed after
  pub lost : (e : Exchange) → sized e ≡ true → Means k s e missed s
  -- other writes

  pub told_acknowledged :
      (register : ℕ) (bytes : List ℕ) → sized (writes register bytes) ≡ true → (register == 0x08) ≡ false
      → Means k s (writes register bytes) acknowledged (told k (register == 0xE0) bytes s)
  pub told_but_missed :
      (register : ℕ) (bytes : List ℕ) → sized (writes register bytes) ≡ true → (register == 0x08) ≡ false
      → Means k s (writes register bytes) missed (told k (register == 0xE0) bytes s)
  -- status reads in the loader

  pub status_shown : s.stage ≡ loader → Means k s (reads 0x08 3) (filled (status_reply s.status)) (rested s)
  pub status_changed :
      (at to : ℕ) → s.stage ≡ loader → Other (status_reply s.status) at to
      → Means k s (reads 0x08 3) (filled (slice_set (status_reply s.status) at to)) (rested s)
  pub busy_shown :
      (number : ℕ) → s.stage ≡ loader → s.working ≡ true → 16 ≤ number → number < 256
      → Means k s (reads 0x08 3) (filled (status_reply number)) s
  pub busy_changed :
      (number at to : ℕ) → s.stage ≡ loader → s.working ≡ true → 16 ≤ number → number < 256 → Other (status_reply number) at to
      → Means k s (reads 0x08 3) (filled (slice_set (status_reply number) at to)) s
  -- other reads

  pub enable_shown :
      (value : ℕ) → seen k value ≡ enable_at s.stage → Means k s (reads 0xE0 1) (filled (value ∷ [])) s
  pub loader_shown : s.stage ≡ loader → Means k s (reads 0x00 1) (filled (0x80 ∷ [])) s
  pub application_shown : s.stage ≡ application → Means k s (reads 0x00 1) (filled (k.app ∷ [])) s
  pub anything_shown :
      (register count : ℕ) (got : List ℕ)
      → sized (reads register count) ≡ true → asked register count ≡ other_asked → length got ≡ count
      → Means k s (reads register count) (filled got) s
  pub anything_for_status :
      (got : List ℕ) → in_loader s.stage ≡ false → length got ≡ 3 → Means k s (reads 0x08 3) (filled got) s
  -- what else may happen at an exchange

  pub work_ended_unseen : (register count : ℕ) → sized (reads register count) ≡ true → Means k s (reads register count) missed (rested s)
  pub start_ended_unseen :
      (register count : ℕ) → sized (reads register count) ≡ true → s.stage ≡ starting → Means k s (reads register count) missed (started s)
  pub start_before :
      (e : Exchange) (answer : Answer) (after : Sensor)
      → sized e ≡ true → s.stage ≡ starting → Does k (started s) e answer after → Means k s e answer after
  pub start_after :
      (e : Exchange) (answer : Answer) (two : Sensor)
      → sized e ≡ true → Does k s e answer two → two.stage ≡ starting → Means k s e answer (started two)
  -- an exchange of another size

  pub other_size : (e : Exchange) → sized e ≡ false → Means k s e missed s
