use Rattle.std.proofs.Common.{length, Err, sym, ap, ◌∙◌, arith}
use Rattle.std.proofs.lemmas.Result.{err_from_is_err_and}
use Rattle.hexline.specs.Lines.{said}
use Rattle.hexline.proofs.Sorted.{line_digits, few_digits}
use Rattle.ihex.proofs.Steps.{line_came, step_ended, step_refused, step_data, step_end, step_base, step_start}
use Rattle.ihex.proofs.reads.Seen.with_line.Goals as goal

pub returns-then-self : goal.returns-then-self
returns-then-self c = step_ended c.args.self c.args.line.at.line c.args.line.at.place c.args.line.chars.now c.if-self.true

pub returns-in_err-address : goal.returns-in_err-address
returns-in_err-address c =
    let p = err_from_is_err_and c.from_residual.result c.from_residual.ensures.1 in
    p.1 ∙ ap Err p.2 ∙ step_refused c.args.self c.args.line.at.line c.args.line.at.place c.args.line.chars.now c.if-self.false _ (sym c.sort_line.ensures ∙ ap said c.in_err-address.was)

pub overflow_cast-digits : goal.overflow_cast-digits
overflow_cast-digits c =
    let at = c.args.line.at in
    let chars = c.args.line.chars.now in
    let d = line_digits at.line at.place chars _ (line_came _ _ _ _ _ _ c.sort_line.ensures c.in_ok-address.was c.in-Data.is) in
    omega (arith, ap length d, few_digits chars)

pub returns-in-Data : goal.returns-in-Data
returns-in-Data c =
    c.with_data.ensures ∙ step_data c.args.self c.args.line.at.line c.args.line.at.place c.args.line.chars.now c.if-self.false _ c.in-Data.digits.now _ _ (line_came _ _ _ _ _ _ c.sort_line.ensures c.in_ok-address.was c.in-Data.is)

pub returns-in-End : goal.returns-in-End
returns-in-End c =
    step_end c.args.self c.args.line.at.line c.args.line.at.place c.args.line.chars.now c.if-self.false c.in-End.digits.now _ _ (line_came _ _ _ _ _ _ c.sort_line.ensures c.in_ok-address.was c.in-End.is)

pub returns-in-Base : goal.returns-in-Base
returns-in-Base c =
    step_base c.args.self c.args.line.at.line c.args.line.at.place c.args.line.chars.now c.if-self.false _ c.in-Base.digits.now _ _ (line_came _ _ _ _ _ _ c.sort_line.ensures c.in_ok-address.was c.in-Base.is)

pub returns-in-Start : goal.returns-in-Start
returns-in-Start c =
    step_start c.args.self c.args.line.at.line c.args.line.at.place c.args.line.chars.now c.if-self.false c.in-Start.digits.now _ _ (line_came _ _ _ _ _ _ c.sort_line.ensures c.in_ok-address.was c.in-Start.is)
