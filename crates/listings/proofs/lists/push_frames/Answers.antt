use Rattle.std.proofs.Common.{◌≡◌, ◌+◌, ◌++◌, length, Some, None, vec_items, sym, ap, ◌∙◌, subst}
use Rattle.std.specs.List.{flat_map, AllByRecursion}
use Rattle.ihex.specs.Patches.{text_in}
use Rattle.ihex.specs.Walks.{said_frame, frames_left}
use Rattle.ihex.proofs.Below.{FrameBelow, frames_below}
use Rattle.listings.specs.Listed.{writes}
use Rattle.listings.specs.Outputs.{command_string}
use Rattle.listings.proofs.Laying.{frame_laid, frames_laid}
use Rattle.listings.proofs.lists.push_frames.Goals as goal

pub loop-frame-init : goal.loop-frame-init
loop-frame-init c =
    let left = ap frames_left c.into_iter-frame-iterator.ensures.into_iter_gives ∙ c.data_frames-frame-items.ensures.left in
    record {
      below = subst (AllByRecursion (FrameBelow 16384)) (sym left) (frames_below 16384 (text_in c.args.patch.now) c.requires);
      laid = ap (λ fs. vec_items c.args.out.now ++ flat_map command_string (writes None fs)) left;
    }

pub loop-frame-preserved : goal.loop-frame-preserved
loop-frame-preserved c =
    let frame = c.in-Some.frame in
    let rest = frames_left c.next.new.self in
    let came = c.in-Some.ensures.steps in
    let inv = ap (λ fs. vec_items c.loop-frame.out ++ flat_map command_string (writes c.loop-frame.pointer fs)) (sym came.0) ∙ c.loop-frame.invariant.laid in
    let long : length c.data.result.now ≡ length (said_frame frame).bytes = ap length c.data.ensures in
    record {
      below = (subst (AllByRecursion (FrameBelow 16384)) came.0 c.loop-frame.invariant.below).1;
      laid = ap (λ n. vec_items c.push_frame.new.out ++ flat_map command_string (writes (Some (frame.start + n)) rest)) long ∙ frame_laid (vec_items c.loop-frame.out) (vec_items c.push_frame.new.out) _ c.loop-frame.pointer (said_frame frame) rest c.in_ok-push_frame.ensures inv;
    }

pub returns : goal.returns
returns c = frames_laid (vec_items c.loop-frame.out) _ c.loop-frame.pointer (frames_left c.loop-frame.frame-iterator) c.in-None.ensures.steps.0 c.loop-frame.invariant.laid
