use Rattle.std.proofs.Common.{◌≡◌, ◌≤◌, [], length}
use Rattle.ihex.specs.Texts.{lines_of}
use Rattle.ihex.specs.Reads.{lines_kept}
use Rattle.ihex.specs.Walks.{lines_from, end_of}
use Rattle.ihex.proofs.Steps.{kept_from}
use Rattle.ihex.proofs.reads.read_lines.Given as goal

abbrev pub invariant-loop-line : goal.invariant-loop-line
invariant-loop-line l = record {
  few : l.seen.at.line ≤ l.line-iterator.at.place;
  end : end_of l.line-iterator ≡ length l.text;
  kept : kept_from l.seen (lines_from l.line-iterator) ≡ lines_kept [] (lines_of l.text);
}
