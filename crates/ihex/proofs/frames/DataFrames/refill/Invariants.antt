use Rattle.std.proofs.Common.{◌≡◌, length}
use Rattle.ihex.specs.Walks.{lines_left, frames_left}
use Rattle.ihex.proofs.frames.DataFrames.refill.Given as goal

abbrev pub invariant-loop-self : goal.invariant-loop-self
invariant-loop-self l = (l.self.count ≡ l.initial.self.count) × (frames_left l.self ≡ frames_left l.initial.self)

abbrev pub decreases-loop-self : goal.decreases-loop-self
decreases-loop-self l = length (lines_left l.self.lines)
