use Rattle.std.proofs.Common.{length}
use Rattle.playing.proofs.choices.choice_of.Given as goal

abbrev pub decreases-loop-left : goal.decreases-loop-left
decreases-loop-left l = length l.left
