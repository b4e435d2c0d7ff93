use Rattle.std.proofs.Common.{◌+◌, ◌-◌, ◌∷◌, length, drop, sym, ap, ◌∙◌}
use Rattle.std.proofs.lemmas.List.{take_rest}
use Rattle.ihex.specs.Texts.{placed, stretches}
use Rattle.ihex.proofs.Cuts.{line_at, line_feed, line_last}
use Rattle.ihex.proofs.cut.split_line.Goals as goal

pub returns-in-Some-clause-lines : goal.returns-in-Some-clause-lines
returns-in-Some-clause-lines c =
    let text = c.args.text.now in
    let end = c.in-Some.end in
    λ n p.
    line_feed text end n p (sym c.feed.ensures ∙ c.in-Some.is)
    ∙ ap (λ cs. line_at n p cs ∷ placed (n + 1) (p + (length text - length (drop (end + 1) text))) (stretches (drop (end + 1) text))) (sym c.trimmed.ensures)
    ∙ ap (λ rest. line_at n p c.trimmed.result.now ∷ placed (n + 1) (p + (length text - length rest)) (stretches rest)) (sym (take_rest text (end + 1)))

pub returns-in-None-clause-lines : goal.returns-in-None-clause-lines
returns-in-None-clause-lines c = λ n p. line_last c.args.text.now n p c.requires (sym c.feed.ensures ∙ c.in-None.is)
