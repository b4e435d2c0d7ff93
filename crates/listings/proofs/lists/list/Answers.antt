use Rattle.std.proofs.Common.{Ok, sym, ap, ◌∙◌, arith}
use Rattle.std.proofs.lemmas.Result.{err_from_is_err_and}
use Rattle.ihex.specs.Named.{reaches}
use Rattle.listings.specs.Outputs.{strings_of}
use Rattle.listings.proofs.Answered.{too_long_lem, refused_text, past_window, strings_came}
use Rattle.listings.proofs.lists.list.Goals as goal

pub returns-then-text-gt-LONGEST_INPUT : goal.returns-then-text-gt-LONGEST_INPUT
returns-then-text-gt-LONGEST_INPUT c = λ _. too_long_lem c.args.text.now (omega arith)

pub returns-in_err-read_card : goal.returns-in_err-read_card
returns-in_err-read_card c =
    let p = err_from_is_err_and c.from_residual.result c.from_residual.ensures.1 in
    let is = sym c.read_card.ensures.result ∙ c.in_err-read_card.was in
    rw (p.1, p.2) (λ _. refused_text c.args.text.now (omega arith) _ is)

pub returns-then-reaches : goal.returns-then-reaches
returns-then-reaches c =
    λ _. past_window c.args.text.now (omega arith) _ (sym c.read_card.ensures.result ∙ c.in_ok-read_card.was) (ap (reaches 16384) (sym c.in_ok-read_card.ensures.held) ∙ sym c.if-reaches.ensures)

pub returns : goal.returns
returns c =
    let held = c.in_ok-read_card.ensures.held in
    strings_came c.args.text.now (omega arith) _ (sym c.read_card.ensures.result ∙ c.in_ok-read_card.was) (ap (reaches 16384) (sym held) ∙ sym c.if-reaches.ensures)
    ∙ ap (λ t. Ok (strings_of t)) (sym held)
    ∙ ap Ok (sym c.in_ok-strings_of.ensures)
