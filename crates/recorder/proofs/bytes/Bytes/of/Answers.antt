use Rattle.std.proofs.Common.{length}
use Rattle.std.proofs.lemmas.List.{drop-replicate}
use Rattle.recorder.proofs.Padding.{front_padded}
use Rattle.recorder.proofs.bytes.Bytes.of.Goals as goal

pub invariant_of-result : goal.invariant_of-result
invariant_of-result c =
    front_padded c.args.bytes.now c.copy_from_slice.new.self _ c.copy_from_slice.ensures.after (drop-replicate (length c.args.bytes.now) 131 0) c.requires
