-- What is asked of a link, and what it answers. Assumes nothing.
use Rattle.std.specs.Prelude.{ℕ, Bool, List, length, Ok, Err, Result}
use Rattle.checksum.specs.Ranges.{within}
use Rattle.sensor.specs.declared.missed.Missed.{Missed}

pub data Exchange : Type 0 where
  writes : (register : ℕ) (bytes : List ℕ) → Exchange
  reads : (register count : ℕ) → Exchange

pub data Answer : Type 0 where
  acknowledged : Answer
  missed : Answer
  filled : (bytes : List ℕ) → Answer

-- the answer of an exchange that came to this
abbrev pub heard : Result (Unit {0}) Missed → Answer → Answer
heard (Ok done) answer = answer
heard (Err e) answer = missed

-- a link writes 1 to 131 bytes and reads 1 to 4; every other exchange is missed and does nothing
abbrev pub sized : Exchange → Bool
sized (writes register bytes) = within 1 131 (length bytes)
sized (reads register count) = within 1 4 count

-- what an exchange comes to: the answer, and how the link stands after it
pub record Outcome (S : Type 0) : Type 0 where
  pub answer : Answer
  pub next : S
