use Rattle.std.proofs.Common.{length, sym, refl}
use Rattle.std.proofs.lemmas.Bool.{eqb-true}
use Rattle.ihex.proofs.Cuts.{no_lines}
use Rattle.ihex.proofs.lines.LinesIterator.next.Goals as goal

pub returns-then-is_empty-clause-steps : goal.returns-then-is_empty-clause-steps
returns-then-is_empty-clause-steps c =
    let w = c.args.self.now in
    let none = no_lines w.at.line w.at.place w.rest.now (eqb-true (length w.rest.now) 0 (sym c.if-is_empty.ensures)) in
    ((none, none), refl, tt)
