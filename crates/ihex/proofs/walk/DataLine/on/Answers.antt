use Rattle.std.proofs.Common.{length, sym, ap, ◌∙◌, arith}
use Rattle.std.proofs.lemmas.Bool.{eq-eqb}
use Rattle.hexline.specs.Records.{type_on}
use Rattle.hexline.proofs.Sorted.{short_digits, digits_within}
use Rattle.ihex.proofs.walk.DataLine.on.Goals as goal

pub returns : goal.returns
returns c =
    let chars = c.args.line.chars.now in
    let at = c.args.line.at in
    let long = ap length c.data_digits.ensures in (
      rw (eq-eqb (type_on chars) 0 (sym c.byte_on.ensures ∙ c.if-byte_on-ne0.false), c.address_on.ensures, c.data_digits.ensures),
      omega (arith, long, digits_within chars),
      omega (arith, long, short_digits chars),
    )
