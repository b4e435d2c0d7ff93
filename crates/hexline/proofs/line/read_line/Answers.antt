use Rattle.std.proofs.Common.{◌≡◌, length, sym, ap, ◌∙◌, arith}
use Rattle.hexline.specs.Lines.{said, said_line}
use Rattle.hexline.proofs.Sorted.{single_is, row_read}
use Rattle.hexline.proofs.line.read_line.Goals as goal

pub returns : goal.returns
returns c =
    let row = c.args.row.now in
    let chars = c.args.chars.now in
    let whole : length row ≡ 255 = omega arith in
    let is = sym c.sort_line.ensures ∙ ap said c.in_ok-line.was in
    record {
      result = sym is ∙ sym (single_is row chars whole);
      row = row_read row chars whole _ _ c.digits.result.now (said_line c.in_ok-line.line) c.decode.result is c.digits.ensures c.decode.ensures.count c.decode.ensures.after c.drop-guard-2.ensures;
    }
