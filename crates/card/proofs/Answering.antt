-- The reader's answer from the laws. Assumes nothing.
use Rattle.std.proofs.Common.{◌≡◌, ℕ, cond, not, List, map, Ok, Err, Result, sym, ap, ◌∙◌, MatchResult}
use Rattle.std.proofs.lemmas.Bool.{eq-eqb}
use Rattle.hexline.specs.declared.fault.TextFault.{TextFault}
use Rattle.hexline.specs.declared.fault.TextFault.TheVariants.{RowLength}
use Rattle.ihex.specs.Reads.{text_of, read_text}
use Rattle.ihex.specs.Named.{data_lines}
use Rattle.canonical.specs.Canonical.{data_spec}
use Rattle.canonical.proofs.ReadBack.{reads_back}
use Rattle.refusals.specs.Exact.{Refused, Accepted}
use Rattle.refusals.proofs.Whole.{exact}
use Rattle.card.specs.Answers.{Answered}

so_from : (text : List ℕ) (r : Result (Unit {0}) TextFault) → text_of text ≡ r → MatchResult r (λ _. Accepted text) (λ f. Refused text f)
so_from text (Ok v) is = (exact text).accepted_so is
so_from text (Err f) is = (exact text).refused_so f is

pub answers : (room : ℕ) (text : List ℕ) (r : Result (Unit {0}) TextFault) → room ≡ 255 → r ≡ read_text room text → Answered text r
answers room text r whole is =
    let told : r ≡ text_of text = is ∙ ap (λ b. cond (not b) (Err RowLength) (text_of text)) (eq-eqb room 255 whole) in
    record {
      so = so_from text r (sym told);
      refuses = λ f bad. told ∙ (exact text).refuses f bad;
      accepts = λ good. told ∙ (exact text).accepts good;
      canonical = λ ds c same. (told ∙ ap text_of same ∙ (reads_back ds c).0, ap (λ t. map data_spec (data_lines t)) same ∙ (reads_back ds c).1);
    }
