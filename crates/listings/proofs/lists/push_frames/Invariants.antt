use Rattle.std.proofs.Common.{◌≡◌, ◌++◌, None, vec_items}
use Rattle.std.specs.List.{flat_map, AllByRecursion}
use Rattle.ihex.specs.Frames.{frames_of}
use Rattle.ihex.specs.Patches.{text_in}
use Rattle.ihex.specs.Walks.{frames_left}
use Rattle.ihex.proofs.Below.{FrameBelow}
use Rattle.listings.specs.Listed.{writes}
use Rattle.listings.specs.Outputs.{command_string}
use Rattle.listings.proofs.lists.push_frames.Given as goal

abbrev pub invariant-loop-frame : goal.invariant-loop-frame
invariant-loop-frame l = record {
  below : AllByRecursion (FrameBelow 16384) (frames_left l.frame-iterator);
  laid : vec_items l.out ++ flat_map command_string (writes l.pointer (frames_left l.frame-iterator)) ≡ vec_items l.initial.out ++ flat_map command_string (writes None (frames_of (text_in l.patch)));
}
