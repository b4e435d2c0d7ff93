use Rattle.canonical.proofs.ReadBack.{reads_back}
use Rattle.naming.proofs.Lasts.{by_last}
use Rattle.naming.proofs.Reached.{reaches_so}
use Rattle.naming.proofs.Once.{at_most_once}
use Rattle.naming.proofs.Writes.{frames_write}
use Rattle.refusals.proofs.Whole.{exact}
use Rattle.rewriting.proofs.Cases.{case_free}
use Rattle.rewriting.proofs.Ends.{ends_free}
use Rattle.rewriting.proofs.Starts.{start_free}
use Rattle.std.proofs.Common.{length}
use Rattle.card.proofs.Answering.{answers}
use Rattle.card.proofs.reads.read_card.Goals as goal

pub returns : goal.returns
returns c =
    let text = c.args.text.now in
    record {
      result = c.read.ensures.result;
      row = c.read.ensures.row;
      held = c.read.ensures.held;
      answered = λ whole. answers (length c.args.row.now) text c.read.result whole c.read.ensures.result;
      exact = exact text;
      canonical = reads_back;
      named = by_last text;
      once = at_most_once text;
      reaches = reaches_so text;
      frames = frames_write text;
      ends = ends_free;
      case = case_free;
      start = start_free;
    }
