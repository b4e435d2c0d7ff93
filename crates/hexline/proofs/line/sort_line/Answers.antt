use Rattle.std.proofs.Common.{Err, sym, ap, ◌∙◌}
use Rattle.std.proofs.lemmas.Result.{err_from_is_err_and}
use Rattle.hexline.specs.Lines.{said}
use Rattle.hexline.proofs.Sorted.{line_formed, line_unformed}
use Rattle.hexline.proofs.line.sort_line.Goals as goal

pub returns-in_err-check_form : goal.returns-in_err-check_form
returns-in_err-check_form c =
    let p = err_from_is_err_and c.from_residual.result c.from_residual.ensures.1 in
    ap said (p.1 ∙ ap Err p.2) ∙ line_unformed c.args.line c.args.place c.args.chars.now _ (sym c.check_form.ensures.result ∙ c.in_err-check_form.was)

pub returns : goal.returns
returns c = c.sort_type.ensures ∙ line_formed c.args.line c.args.place c.args.chars.now _ (sym c.check_form.ensures.result ∙ c.in_ok-check_form.was)
