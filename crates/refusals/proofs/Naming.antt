-- Whether a text names a byte at all. Assumes nothing.
use Rattle.std.proofs.Common.{◌≡◌, ℕ, ◌+◌, ◌-◌, ◌*◌, ◌/◌, ◌<◌, ◌≤◌, true, false, cond, ◌&&◌, ltb, leb, List, [], ◌∷◌, ◌++◌, length, get_or, drop, Some, None, fold, Option, sym, refl, ap, ◌∙◌, ⊎_elim, arith}
use Rattle.std.proofs.lemmas.List.{length-take}
use Rattle.std.proofs.lemmas.Bool.{true≢false, and_parts, and_from, and_left, and_right, le-leb, lt-leb, lt-ltb, le-ltb, ltb-true, ltb-false, cases_lt}
use Rattle.std.specs.List.{flat_map, AllByRecursion}
use Rattle.std.proofs.lemmas.List.Sums.{fold-append}
use Rattle.hexline.specs.Records.{count_on, address_on, data_digits}
use Rattle.hexline.proofs.Pairs.{length_pairs, pairs_none}
use Rattle.checksum.proofs.Passing.{fold-or}
use Rattle.ihex.specs.Texts.{TextLine}
use Rattle.ihex.specs.Reads.{is_data, names_next}
use Rattle.ihex.specs.Named.{DataIs, bytes_in, data_in, byte_at, held, named_next}

abbrev data_of : TextLine → DataIs
data_of l = record { address = address_on l.chars; digits = data_digits l.chars; line = l.number; place = l.place }

-- a line has the data that its count says
abbrev pub Counted : TextLine → Type 0
Counted l = length (data_digits l.chars) / 2 ≡ count_on l.chars

byte_none : (start a : ℕ) (bytes : List ℕ) → length bytes ≡ 0 → byte_at start bytes a ≡ None
byte_none start a bytes none =
    ap (λ b. cond b (Some (get_or bytes (a - start) 0)) None)
    (⊎_elim (λ below. and_left (leb start a) (ltb a (start + length bytes)) (lt-leb start a below)) (λ above. and_right (leb start a) (ltb a (start + length bytes)) (le-ltb a (start + length bytes) (omega arith))) (cases_lt a start))

byte_first : (start : ℕ) (bytes : List ℕ) → 0 < length bytes → byte_at start bytes start ≡ Some (get_or bytes (start - start) 0)
byte_first start bytes some =
    ap (λ b. cond b (Some (get_or bytes (start - start) 0)) None) (and_from (leb start start) (ltb start (start + length bytes)) (le-leb start start (omega arith)) (lt-ltb start (start + length bytes) (omega arith)))

-- once a byte is named, one is
some_stays : (a b : ℕ) (ds : List DataIs) → (c : ℕ) × (fold (named_next a) (Some b) ds ≡ Some c)
some_stays a b [] = (b, refl)
some_stays a b (d ∷ ds) =
    let next = byte_at d.address (bytes_in d) a in
    elim next as (λ o. next ≡ o → (c : ℕ) × (fold (named_next a) (held (Some b) next) ds ≡ Some c)) [
      | Some x ↦ (λ e. let rest = some_stays a x ds in (rest.0, ap (λ o. fold (named_next a) (held (Some b) o) ds) e ∙ rest.1))
      | None ↦ (λ e. let rest = some_stays a b ds in (rest.0, ap (λ o. fold (named_next a) (held (Some b) o) ds) e ∙ rest.1))
    ] refl

-- a line that has no data, or no byte of it, names nothing
line_none : (a : ℕ) (o : Option ℕ) (l : TextLine) → (is_data l && ltb 0 (count_on l.chars)) ≡ false → fold (named_next a) o (data_in l) ≡ o
line_none a o l none =
    elim (is_data l) as (λ b. (b && ltb 0 (count_on l.chars)) ≡ false → fold (named_next a) o (cond b (data_of l ∷ []) []) ≡ o) [
      | true ↦ (λ e.
          let zero = ltb-false 0 (count_on l.chars) e in
          let short : length (data_digits l.chars) ≤ 0 = omega (arith, length-take (2 * count_on l.chars) (drop 9 l.chars)) in
          ap (held o) (byte_none (address_on l.chars) a (bytes_in (data_of l)) (omega (arith, ap length (pairs_none (data_digits l.chars) (omega arith))))))
      | false ↦ (λ _. refl)
    ] none

pub none_named : (ls : List TextLine) → fold names_next false ls ≡ false → (a : ℕ) (o : Option ℕ) → fold (named_next a) o (flat_map data_in ls) ≡ o
none_named [] e a o = refl
none_named (l ∷ ls) e a o =
    let flag = is_data l && ltb 0 (count_on l.chars) in
    elim flag as (λ b. flag ≡ b → fold names_next b ls ≡ false → fold (named_next a) o (flat_map data_in (l ∷ ls)) ≡ o) [
      | true ↦ (λ _ k. absurd (true≢false (sym (fold-or (λ m. is_data m && ltb 0 (count_on m.chars)) true ls) ∙ k)))
      | false ↦ (λ i k. fold-append (named_next a) o (data_in l) (flat_map data_in ls) ∙ ap (λ p. fold (named_next a) p (flat_map data_in ls)) (line_none a o l i) ∙ none_named ls k a o)
    ] refl e

pub some_named : (ls : List TextLine) → AllByRecursion Counted ls → fold names_next false ls ≡ true → (o : Option ℕ) → (a : ℕ) × (b : ℕ) × (fold (named_next a) o (flat_map data_in ls) ≡ Some b)
some_named [] counted e o = absurd (true≢false (sym e))
some_named (l ∷ ls) counted e o =
    let flag = is_data l && ltb 0 (count_on l.chars) in
    elim flag as (λ b. flag ≡ b → fold names_next b ls ≡ true → (a : ℕ) × (c : ℕ) × (fold (named_next a) o (flat_map data_in (l ∷ ls)) ≡ Some c)) [
      | true ↦ (λ i _.
          let parts = and_parts (is_data l) (ltb 0 (count_on l.chars)) i in
          let start = address_on l.chars in
          let bytes = bytes_in (data_of l) in
          let some : 0 < length bytes = omega (arith, ltb-true 0 (count_on l.chars) parts.1, counted.0, length_pairs (data_digits l.chars)) in
          let rest = some_stays start (get_or bytes (start - start) 0) (flat_map data_in ls) in
          (start, rest.0, ap (λ t. fold (named_next start) o (cond t (data_of l ∷ []) [] ++ flat_map data_in ls)) parts.0 ∙ ap (λ p. fold (named_next start) (held o p) (flat_map data_in ls)) (byte_first start bytes some) ∙ rest.1))
      | false ↦ (λ i k.
          let rest = some_named ls counted.1 k o in
          (rest.0, rest.1, fold-append (named_next rest.0) o (data_in l) (flat_map data_in ls) ∙ ap (λ p. fold (named_next rest.0) p (flat_map data_in ls)) (line_none rest.0 o l i) ∙ rest.2))
    ] refl e
