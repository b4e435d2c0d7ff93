use Rattle.std.proofs.Common.{◌≡◌, [], Err, sym, ap, ◌∙◌, arith, rules}
use Rattle.std.proofs.lemmas.Result.{err_from_is_err_and, IfOk-from_err}
use Rattle.ihex.specs.Texts.{lines_of}
use Rattle.ihex.specs.Reads.{nothing_seen}
use Rattle.ihex.specs.Walks.{said_text, lines_from, end_of}
use Rattle.ihex.proofs.Steps.{kept_from, kept_none, kept_is, turn_seen, turn_on, turn_stops}
use Rattle.ihex.proofs.reads.read_lines.Goals as goal

pub loop-line-init : goal.loop-line-init
loop-line-init c =
    let same = c.into_iter-line-iterator.ensures.into_iter_gives in
    let start : c.default-seen.result ≡ nothing_seen = search rules in
    record {
      few = omega (arith, ap (λ s. s.at.line) start);
      end = ap end_of same ∙ c.over-line-items.ensures.end;
      kept = ap (λ s. kept_from s (lines_from c.into_iter-line-iterator.result)) start ∙ ap (kept_from nothing_seen) (ap lines_from same ∙ c.over-line-items.ensures.lines) ∙ kept_is [] (lines_of c.args.text.now);
    }

pub returns-in_err-seen : goal.returns-in_err-seen
returns-in_err-seen c =
    let p = err_from_is_err_and c.from_residual.result c.from_residual.ensures.1 in
    record {
      result = p.1 ∙ ap Err p.2 ∙ turn_stops c.loop-line.seen (said_text c.in-Some.line) _ _ _ c.in-Some.ensures.steps.0 c.loop-line.invariant.kept _ (sym c.with_line.ensures ∙ c.in_err-seen.was);
      few = IfOk-from_err _ _ c.from_residual.ensures.0;
    }

pub loop-line-preserved : goal.loop-line-preserved
loop-line-preserved c =
    let s = c.loop-line.seen in
    let l = said_text c.in-Some.line in
    let steps = c.in-Some.ensures.steps in
    let is = sym c.with_line.ensures ∙ c.in_ok-seen.was in
    record {
      few = omega (arith, ap (λ n. n.at.line) (turn_seen s l c.in_ok-seen.seen is), ap (λ a. a.line) steps.2.0, c.loop-line.line-iterator.near, steps.2.1);
      end = steps.1 ∙ c.loop-line.invariant.end;
      kept = turn_on s l _ _ _ steps.0 c.loop-line.invariant.kept c.in_ok-seen.seen is;
    }

pub returns : goal.returns
returns c =
    record {
      result = sym (kept_none c.loop-line.seen) ∙ ap (kept_from c.loop-line.seen) (sym c.in-None.ensures.steps.0.0) ∙ c.loop-line.invariant.kept;
      few = omega (arith, c.loop-line.invariant.end);
    }
