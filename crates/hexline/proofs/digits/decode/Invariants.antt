use Rattle.std.proofs.Common.{◌≡◌, ◌++◌, length, take, drop}
use Rattle.hexline.specs.Digits.{pairs}
use Rattle.hexline.proofs.digits.decode.Given as goal

abbrev pub invariant-loop-i : goal.invariant-loop-i
invariant-loop-i l = l.row ≡ take (length l.yielded) (pairs l.digits) ++ drop (length l.yielded) l.initial.row
