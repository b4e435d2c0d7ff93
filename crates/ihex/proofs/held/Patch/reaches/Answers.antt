use Rattle.std.proofs.Common.{false, length, fold, sym, ap, ◌∙◌, rules}
use borrow.Author.Tests.{tests}
use Rattle.std.proofs.lemmas.Iterator.Consumers.{YieldsList-from_shown}
use Rattle.std.proofs.lemmas.Iterator.Search.{any_from_yields_List}
use Rattle.checksum.proofs.Passing.{fold-or}
use Rattle.ihex.specs.Named.{reaches_next}
use Rattle.ihex.specs.Walks.{DataStep, said_data, lines_left}
use Rattle.ihex.proofs.held.Patch.reaches.Goals as goal

pub returns : goal.returns
returns c =
    let window = c.args.window in
    any_from_yields_List (reaches_next window false) _ _ c.any.result c.any.ensures.ran (YieldsList-from_shown DataStep said_data lines_left (λ s t h. ap length h.0) (λ s x t h. h.0) c.data_lines.result) (λ x b q k. search (rules, tests))
    ∙ sym (fold-or (reaches_next window false) false (lines_left c.data_lines.result))
    ∙ ap (fold (reaches_next window) false) c.data_lines.ensures
