-- What a simulated sensor is good for. Assumes nothing.
use Rattle.std.specs.Prelude.{◌≡◌, ℕ, ◌≤◌, Bool, true, false, slice_index}
use Rattle.sensor.specs.Kinds.{KindIs}
use Rattle.sensor.specs.Exchanges.{Exchange, writes, reads, Answer, acknowledged, missed, filled, sized}
use Rattle.simulator.specs.States.{SimIs}
use Rattle.simulator.specs.Simulated.{simulated}

-- a write is acknowledged, a read is filled
abbrev pub heard : Exchange → Answer → Bool
heard (writes register bytes) acknowledged = true
heard (writes register bytes) missed = false
heard (writes register bytes) (filled got) = false
heard (reads register count) acknowledged = false
heard (reads register count) missed = false
heard (reads register count) (filled got) = true

-- the script is at its end, or has only zeros left
abbrev pub OnlyZeros : SimIs → Type 0
OnlyZeros s = (i : ℕ) → s.at ≤ i → slice_index s.script i ≡ 0

-- then every exchange is heard, and so are all after it
abbrev pub CleanHeard : KindIs → Type 0
CleanHeard k = (s : SimIs) (e : Exchange) → OnlyZeros s → sized e ≡ true → (heard e ((simulated k).step s e).answer ≡ true) × OnlyZeros ((simulated k).step s e).next
