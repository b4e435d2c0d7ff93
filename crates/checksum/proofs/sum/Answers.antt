use Rattle.std.proofs.Common.{◌∙◌, rules}
use borrow.Author.Tests.{tests}
use Rattle.std.proofs.lemmas.Iterator.{YieldsList-from_slice}
use Rattle.std.proofs.lemmas.Iterator.Consumers.{fold_from_yields_List}
use Rattle.checksum.proofs.Wrapping.{wrapped, fold-wrapped}
use Rattle.checksum.proofs.sum.Goals as goal

pub returns : goal.returns
returns c =
    fold_from_yields_List _ wrapped 0 _ c.fold.ensures.ran (YieldsList-from_slice c.args.bytes.now cc) (λ a x b q k. search (rules, tests))
    ∙ fold-wrapped c.args.bytes.now
