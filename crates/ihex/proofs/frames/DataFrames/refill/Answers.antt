use Rattle.std.proofs.Common.{◌++◌, sym, ap, ◌∙◌, arith}
use Rattle.std.specs.List.{flat_map}
use Rattle.hexline.specs.Digits.{pairs}
use Rattle.ihex.specs.Frames.{chunks_of, line_chunks, numbered}
use Rattle.ihex.specs.Walks.{lines_left}
use Rattle.ihex.proofs.Chunked.{line_over, numbered_none}
use Rattle.ihex.proofs.frames.DataFrames.refill.Goals as goal

pub returns-in_err-data : goal.returns-in_err-data
returns-in_err-data c =
    let w = c.loop-self.self in
    record {
      same = ap (λ ls. numbered w.count (chunks_of w.start (pairs w.digits.now) w.line ++ flat_map line_chunks (lines_left ls))) c.in_err-data.ensures.steps.1 ∙ c.loop-self.invariant.1;
      count = c.loop-self.invariant.0;
      more = rw c.from_residual.ensures (sym c.loop-self.invariant.1 ∙ line_over w.start w.line w.count w.digits.now (lines_left w.lines) (omega arith) ∙ ap (λ ds. numbered w.count (flat_map line_chunks ds)) c.in_err-data.ensures.steps.0 ∙ numbered_none w.count);
    }

pub loop-self-preserved : goal.loop-self-preserved
loop-self-preserved c =
    let w = c.loop-self.self in
    (c.loop-self.invariant.0, sym (line_over w.start w.line w.count w.digits.now (lines_left w.lines) (omega arith) ∙ ap (λ ds. numbered w.count (flat_map line_chunks ds)) c.in_ok-data.ensures.steps.0) ∙ c.loop-self.invariant.1)
