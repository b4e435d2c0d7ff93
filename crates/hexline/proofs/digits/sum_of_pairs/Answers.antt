use Rattle.std.proofs.Common.{◌∙◌, refl, rules}
use borrow.Author.Tests.{tests}
use Rattle.std.proofs.lemmas.Iterator.Consumers.{fold_from_yields_List, YieldsList-from_first}
use Rattle.checksum.proofs.Wrapping.{wrapped, fold-wrapped}
use Rattle.hexline.specs.declared.digits.Pairs.{Pairs}
use Rattle.hexline.specs.Digits.{pairs}
use Rattle.hexline.proofs.digits.sum_of_pairs.Goals as goal

pub returns : goal.returns
returns c =
    fold_from_yields_List _ wrapped 0 _ c.fold.ensures.ran (YieldsList-from_first (λ b. b) (λ (s : Pairs). pairs s.0.now) (pairs c.args.digits.now) refl) (λ a x b q k. search (rules, tests))
    ∙ fold-wrapped (pairs c.args.digits.now)
