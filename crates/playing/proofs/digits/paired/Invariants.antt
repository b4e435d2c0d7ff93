use Rattle.std.proofs.Common.{length}
use Rattle.playing.proofs.digits.paired.Given as goal

abbrev pub decreases-loop-high : goal.decreases-loop-high
decreases-loop-high l = length l.left.rest.now
