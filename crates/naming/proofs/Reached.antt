-- Whether a text names a byte at or above a window's end. Assumes nothing.
use Rattle.std.proofs.Common.{◌≡◌, ℕ, ◌+◌, ◌-◌, ◌≤◌, Bool, true, false, ◌&&◌, ltb, List, [], ◌∷◌, length, Some, None, fold, sym, refl, ◌∙◌, arith}
use Rattle.std.proofs.lemmas.Bool.{true≢false, ltb-true, lt-ltb, and_parts, and_from}
use Rattle.std.specs.List.{AllByRecursion}
use Rattle.hexline.proofs.Pairs.{length_pairs}
use Rattle.ihex.specs.Named.{DataIs, bytes_in, data_lines, named, reaches_next}
use Rattle.checksum.proofs.Passing.{fold-or}
use Rattle.naming.specs.Bytes.{Names, ReachesSo}
use Rattle.naming.proofs.Lasts.{by_last}

-- a line names a byte at or above the window's end
abbrev past : ℕ → DataIs → Bool
past w d = ltb 0 (length (bytes_in d)) && ltb w (d.address + length (bytes_in d))

-- where no line names the address, the lines do not reach there
none_past : (w a : ℕ) (d : DataIs) → w ≤ a → past w d ≡ false → Names d a → ⊥
none_past w a d up e n =
    let long = length_pairs d.digits in
    true≢false (sym (and_from (ltb 0 (length (bytes_in d))) (ltb w (d.address + length (bytes_in d))) (lt-ltb 0 (length (bytes_in d)) (omega (arith, n.0, n.1))) (lt-ltb w (d.address + length (bytes_in d)) (omega (arith, n.1)))) ∙ e)

all_none : (w a : ℕ) (ds : List DataIs) → w ≤ a → fold (reaches_next w) false ds ≡ false → AllByRecursion (λ d. Names d a → ⊥) ds
all_none w a [] up e = tt
all_none w a (d ∷ ds) up e =
    elim (past w d) as (λ b. past w d ≡ b → fold (reaches_next w) b ds ≡ false → AllByRecursion (λ c. Names c a → ⊥) (d ∷ ds)) [
      | true ↦ (λ _ k. absurd (true≢false (sym (fold-or (reaches_next w false) true ds) ∙ k)))
      | false ↦ (λ i k. (none_past w a d up i, all_none w a ds up k))
    ] refl e

-- where they reach it, some line names an address there
some_past : (w : ℕ) (ds : List DataIs) → fold (reaches_next w) false ds ≡ true → (a : ℕ) × (w ≤ a) × (AllByRecursion (λ d. Names d a → ⊥) ds → ⊥)
some_past w [] e = absurd (true≢false (sym e))
some_past w (d ∷ ds) e =
    elim (past w d) as (λ b. past w d ≡ b → fold (reaches_next w) b ds ≡ true → (a : ℕ) × (w ≤ a) × (AllByRecursion (λ c. Names c a → ⊥) (d ∷ ds) → ⊥)) [
      | true ↦ (λ i _.
          let p = and_parts (ltb 0 (length (bytes_in d))) (ltb w (d.address + length (bytes_in d))) i in
          let some = ltb-true 0 (length (bytes_in d)) p.0 in
          let high = ltb-true w (d.address + length (bytes_in d)) p.1 in
          let long = length_pairs d.digits in
          (d.address + length (bytes_in d) - 1, omega arith, λ none. none.0 (omega arith, omega arith)))
      | false ↦ (λ _ k. let rest = some_past w ds k in (rest.0, rest.1, λ none. rest.2 none.1))
    ] refl e

named_there : (text : List ℕ) (a : ℕ) → (AllByRecursion (λ d. Names d a → ⊥) (data_lines text) → ⊥) → (b : ℕ) × (named text a ≡ Some b)
named_there text a some =
    elim (named text a) as (λ o. named text a ≡ o → (b : ℕ) × (named text a ≡ Some b)) [
      | Some b ↦ (λ e. (b, e))
      | None ↦ (λ e. absurd (some ((by_last text).free a e)))
    ] refl

pub reaches_so : (text : List ℕ) → ReachesSo text
reaches_so text =
    record {
      some = λ w e. (let p = some_past w (data_lines text) e in let n = named_there text p.0 p.2 in (p.0, n.0, p.1, n.1));
      none = λ w e a up. (by_last text).freed a (all_none w a (data_lines text) up e);
    }
