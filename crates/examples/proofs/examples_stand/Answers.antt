use Rattle.std.proofs.Common.{rules}
use Rattle.hexline.specs.Digits.{pair_value, pairs}
use Rattle.hexline.specs.Lines.{line_of}
use Rattle.ihex.specs.Texts.{stretches, placed}
use Rattle.ihex.specs.Reads.{rules_beside, lines_kept, text_of}
use Rattle.bootloader.specs.Replies.{reply_of}
use Rattle.examples.proofs.Counting.{frame_count}
use Rattle.examples.proofs.examples_stand.Goals as goal

-- each example by computing what its definitions say
pub returns : goal.returns
unfolding pair_value pairs stretches placed line_of rules_beside lines_kept text_of reply_of
returns c = search (rules, frame_count)
