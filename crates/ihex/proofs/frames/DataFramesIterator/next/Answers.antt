use Rattle.std.proofs.Common.{length, sym, ap, ◌∙◌, rules}
use Rattle.ihex.specs.Walks.{lines_left}
use Rattle.ihex.proofs.Chunked.{frame_next}
use Rattle.ihex.proofs.frames.DataFramesIterator.next.Goals as goal

pub returns : goal.returns
returns c =
    let w = c.refill.new.self in
    let parts = c.split_at.ensures in
    let first = sym c.refill.ensures.same ∙ frame_next w.start w.line w.count w.digits.now (lines_left w.lines) c.min.result c.decode-len.result c.decode-len.new.row c.split_at.result.0.now _ c.split_at.result.1.now c.in_ok-refill.ensures.more c.min.ensures parts.front c.decode-len.ensures.count c.decode-len.ensures.after parts.back in
    let fewer = ap length first in
    record { steps = (first, search rules, search rules); goes = search rules }
