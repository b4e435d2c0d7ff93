use Rattle.std.proofs.Common.{refl}
use Rattle.hexline.specs.Digits.{pair_value, pairs}
use Rattle.ihex.specs.Texts.{stretches, placed}
use Rattle.hexline.specs.Lines.{line_of}
use Rattle.ihex.specs.Reads.{rules_beside, lines_kept, text_of}
use Rattle.ihex.proofs.held.Patch.example.Goals as goal

pub invariant_of-result : goal.invariant_of-result
unfolding pair_value pairs stretches placed line_of rules_beside lines_kept text_of
invariant_of-result c = record { ok = refl }
