-- What is kept of an exchange and its answer. Assumes nothing.
use Rattle.std.specs.Prelude.{ℕ, cond, List, [], length, Ok, Err, Result}
use Rattle.checksum.specs.Ranges.{within}
use Rattle.sensor.specs.declared.missed.Missed.{Missed}
use Rattle.sensor.specs.Exchanges.{Exchange, writes, reads, Answer, acknowledged, filled, heard}
use Rattle.recorder.specs.declared.entry.Recorded.{Recorded}
use Rattle.recorder.specs.declared.entry.Asked.{Asked}
use Rattle.recorder.specs.declared.entry.Asked.TheVariants.{Write, WriteOffSize, Read}

-- what was asked; of a write of a size that a link does not have only the size is kept
pub data Asking : Type 0 where
  wrote : (register : ℕ) (bytes : List ℕ) → Asking
  wrote_off_size : (register size : ℕ) → Asking
  read : (register count : ℕ) → Asking

pub record Kept : Type 0 where
  pub asking : Asking
  pub answer : Answer

-- an exchange as it is kept
abbrev pub asking_of : Exchange → Asking
asking_of (writes register bytes) =
    cond (within 1 131 (length bytes)) (wrote register bytes) (wrote_off_size register (length bytes))
asking_of (reads register count) = read register count

abbrev pub kept : Exchange → Answer → Kept
kept e answer = record { asking = asking_of e; answer = answer }

-- what an entry says

abbrev pub asked_by : Asked → ℕ → List ℕ → Asking
asked_by Write register bytes = cond (within 1 131 (length bytes)) (wrote register bytes) (wrote_off_size register (length bytes))
asked_by (WriteOffSize size) register bytes = wrote_off_size register size
asked_by (Read count) register bytes = read register count

abbrev pub answered_by : Asked → List ℕ → Answer
answered_by Write bytes = acknowledged
answered_by (WriteOffSize size) bytes = acknowledged
answered_by (Read count) bytes = filled bytes

abbrev pub meaning : Recorded → Kept
meaning entry =
    record {
      asking = asked_by entry.asked entry.register entry.bytes;
      answer = heard entry.answer (answered_by entry.asked entry.bytes);
    }

-- the bytes that were written or read
abbrev pub payload_by : Asked → Result (Unit {0}) Missed → List ℕ → List ℕ
payload_by Write answer bytes = bytes
payload_by (WriteOffSize size) answer bytes = []
payload_by (Read count) (Ok done) bytes = bytes
payload_by (Read count) (Err e) bytes = []

abbrev pub payload_of : Recorded → List ℕ
payload_of entry = payload_by entry.asked entry.answer entry.bytes
