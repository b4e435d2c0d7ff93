-- Proof that a flipped bit makes another byte. Assumes nothing.
use Rattle.std.specs.Prelude.{ℕ, ◌<◌, ◌≤◌, ◌≢◌, List, length}
use Rattle.std.proofs.Common.{arith}
use Rattle.std.proofs.lemmas.Grind.{common_steps}
use Rattle.sensor.specs.Meaning.{Changed}
use Rattle.simulator.specs.Frames.{flip, flip_last}

pub flip_byte : (b : ℕ) → flip b < 256
flip_byte b = grind (arith, common_steps)

pub flip_other : (b : ℕ) → flip b ≢ b
flip_other b e = grind (arith, common_steps)

pub last_changed : (bytes : List ℕ) → 1 ≤ length bytes → Changed bytes (flip_last bytes)
last_changed bytes some = grind (arith, common_steps)
