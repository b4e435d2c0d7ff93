use Rattle.std.proofs.Common.{◌≡◌}
use Rattle.bootloader.proofs.Spelling.{so_far}
use Rattle.bootloader.proofs.string.spell.Given as goal

abbrev pub invariant-loop-i : goal.invariant-loop-i
invariant-loop-i l = l.buf ≡ so_far l.initial.buf l.bytes l.i
