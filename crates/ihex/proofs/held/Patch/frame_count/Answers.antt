use Rattle.std.proofs.Common.{length, inr, ap, ◌∙◌}
use Rattle.std.proofs.lemmas.Iterator.Consumers.{YieldsList-from_shown, count_from_yields_List}
use Rattle.ihex.specs.Walks.{FrameStep, said_frame, frames_left}
use Rattle.ihex.proofs.Counted.{count_fits}
use Rattle.ihex.proofs.held.Patch.frame_count.Goals as goal

pub count-requires-clause-fits : goal.count-requires-clause-fits
count-requires-clause-fits c = inr (count_fits c.data_frames.result)

pub returns : goal.returns
returns c =
    count_from_yields_List c.data_frames.result c.count.result c.count.ensures.ran (YieldsList-from_shown FrameStep said_frame frames_left (λ s t h. ap length h.0) (λ s x t h. h.0) c.data_frames.result)
    ∙ ap length c.data_frames.ensures.left
