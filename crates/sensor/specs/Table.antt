-- Proof that the patterns of each kind are as its sheet has them: all 256 bytes are computed. Assumes nothing.
use Rattle.std.specs.Prelude.{◌≡◌, ℕ, ◌-◌, ◌<◌, Bool, true, false, cond, List, ◌==◌, bit_and, bit_or, refl}
use Rattle.std.proofs.Common.{ap, ◌∙◌}
use Rattle.std.proofs.lemmas.Bool.{agree_below, agree_below_at, eqb-true}
use Rattle.sensor.specs.declared.enable.Order.TheVariants.{Wake, Sleep, Other}
use Rattle.sensor.specs.declared.pattern.Pattern.{Pattern}
use Rattle.sensor.specs.declared.kind.TheConstants.{TMF8X0X_PATTERNS, TMF882X_PATTERNS}
use Rattle.sensor.specs.Patterns.{Bit, fits, filled_from, least, IsPattern}
use Rattle.sensor.specs.Kinds.{KindIs, tmf8x0x, tmf882x, ordered, wake_byte, sleep_byte, ArePatternsOf}

abbrev yes : ℕ → Bool
yes v = true

abbrev no : ℕ → Bool
no v = false

is_pattern :
    (pattern : List Bit) (p : Pattern)
    → agree_below (fits pattern) (λ v. bit_and v p.fixed == p.bits) 256 ≡ true
    → agree_below (λ v. filled_from pattern v == bit_or p.bits (bit_and v p.free)) yes 256 ≡ true
    → least pattern ≡ p.bits
    → IsPattern pattern p
is_pattern pattern p t f b =
    record {
      tests = λ v small. agree_below_at (fits pattern) (λ v. bit_and v p.fixed == p.bits) 256 v t small;
      fills = λ v small. eqb-true _ _ (agree_below_at (λ v. filled_from pattern v == bit_or p.bits (bit_and v p.free)) yes 256 v f small);
      begins = b;
    }

-- a byte that has the pattern of waking is taken for it
wakes :
    (k : KindIs)
    → agree_below (λ v. fits k.wake (wake_byte k v)) yes 256 ≡ true
    → (v : ℕ) → v < 256 → ordered k (wake_byte k v) ≡ Wake
wakes k t v small =
    ap (λ (b : Bool). cond b Wake (cond (fits k.sleep (wake_byte k v)) Sleep Other)) (agree_below_at (λ v. fits k.wake (wake_byte k v)) yes 256 v t small)

-- so is one that has the other
sleeps :
    (k : KindIs)
    → agree_below (λ v. fits k.wake (sleep_byte k v)) no 256 ≡ true
    → agree_below (λ v. fits k.sleep (sleep_byte k v)) yes 256 ≡ true
    → (v : ℕ) → v < 256 → ordered k (sleep_byte k v) ≡ Sleep
sleeps k w t v small =
    ap (λ (b : Bool). cond b Wake (cond (fits k.sleep (sleep_byte k v)) Sleep Other)) (agree_below_at (λ v. fits k.wake (sleep_byte k v)) no 256 v w small)
    ∙ ap (λ (b : Bool). cond b Sleep Other) (agree_below_at (λ v. fits k.sleep (sleep_byte k v)) yes 256 v t small)

pub tmf8x0x_patterns : ArePatternsOf tmf8x0x TMF8X0X_PATTERNS
tmf8x0x_patterns =
    record {
      asleep = is_pattern _ _ refl refl refl;
      starting = is_pattern _ _ refl refl refl;
      ready = is_pattern _ _ refl refl refl;
      wake = is_pattern _ _ refl refl refl;
      sleep = is_pattern _ _ refl refl refl;
      wakes = wakes tmf8x0x refl;
      sleeps = sleeps tmf8x0x refl refl;
    }

pub tmf882x_patterns : ArePatternsOf tmf882x TMF882X_PATTERNS
tmf882x_patterns =
    record {
      asleep = is_pattern _ _ refl refl refl;
      starting = is_pattern _ _ refl refl refl;
      ready = is_pattern _ _ refl refl refl;
      wake = is_pattern _ _ refl refl refl;
      sleep = is_pattern _ _ refl refl refl;
      wakes = wakes tmf882x refl;
      sleeps = sleeps tmf882x refl refl;
    }
