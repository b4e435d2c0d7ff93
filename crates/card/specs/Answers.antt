-- What a card's reader answers, in the format's words. Assumes nothing.
use Rattle.std.specs.Prelude.{◌≡◌, ℕ, List, map, Ok, Err, Result, MatchResult}
use Rattle.hexline.specs.declared.fault.TextFault.{TextFault}
use Rattle.ihex.specs.Named.{data_lines}
use Rattle.canonical.specs.Canonical.{DataSpec, Canonical, canonical_text, data_spec}
use Rattle.refusals.specs.Exact.{Refused, Accepted}

-- accepted exactly where nothing is bad, and refused exactly with the lowest number of the first bad line;
-- so a canonical text is accepted, as just the lines that it was made of
pub record Answered (text : List ℕ) (r : Result (Unit {0}) TextFault) : Type 0 where
  pub so : MatchResult r (λ _. Accepted text) (λ f. Refused text f)
  pub refuses : (f : TextFault) → Refused text f → r ≡ Err f
  pub accepts : Accepted text → r ≡ Ok tt
  pub canonical : (ds : List DataSpec) → Canonical ds → text ≡ canonical_text ds → (r ≡ Ok tt) × (map data_spec (data_lines text) ≡ ds)
