-- Each test of a line, and what it means. Assumes nothing.
use Rattle.std.proofs.Common.{◌≡◌, ℕ, ◌+◌, ◌-◌, ◌*◌, ◌<◌, ◌≤◌, Bool, true, false, cond, not, ◌&&◌, ◌||◌, eqb, ltb, List, [], ◌∷◌, length, get_or, drop, is_some, Some, None, sym, refl, ap, ◌∙◌, inl, inr, ⊎_elim, arith}
use Rattle.std.proofs.lemmas.List.{get_or-drop, length-drop}
use Rattle.std.proofs.lemmas.Bool.{true≢false, false≢true, not-true, not_from_false, eqb-true, eqb-false, eq-eqb, ne_eqb, lt-ltb, ltb-true, and_parts, and_from, or_cases, or_parts, or_left, or_right, or_from, cases_lt, cases_Bool}
use Rattle.std.proofs.lemmas.List.Sums.{prefix_len_is, prefix_len_passes, prefix_len_stops}
use Rattle.std.specs.List.{prefix_len}
use Rattle.checksum.specs.Sums.{sum256}
use Rattle.checksum.specs.Ranges.{within}
use Rattle.checksum.proofs.Ranges.{within_from, within_parts}
use Rattle.hexline.specs.Digits.{is_digit, pair_value}
use Rattle.hexline.specs.Records.{bytes_on, count_on, address_on, type_on, stray_on, lacks_colon, has_stray, lacks_digits, sums_wrong, known_type, fixed_count, misshapen}
use Rattle.hexline.proofs.Pairs.{get_or_pairs}
use Rattle.refusals.specs.Bad.{Digit, NotColonFirst, StrayAt, DigitsMissing, SumOff, TypeUnknown, ShapeOff, Misshapen}

-- a character is a digit, or it is not
pub digit_so : (c : ℕ) → is_digit c ≡ true → Digit c
digit_so c =
    elim (within 48 57 c) as (λ a. within 48 57 c ≡ a → is_some (cond a (Some (c - 48)) (cond (within 65 70 c) (Some (c - 55)) (cond (within 97 102 c) (Some (c - 87)) None))) ≡ true → Digit c) [
      | true ↦ (λ e _. inl (within_parts 48 57 c e))
      | false ↦ (λ _. elim (within 65 70 c) as (λ a. within 65 70 c ≡ a → is_some (cond a (Some (c - 55)) (cond (within 97 102 c) (Some (c - 87)) None)) ≡ true → Digit c) [
        | true ↦ (λ e _. inr (inl (within_parts 65 70 c e)))
        | false ↦ (λ _. elim (within 97 102 c) as (λ a. within 97 102 c ≡ a → is_some (cond a (Some (c - 87)) None) ≡ true → Digit c) [ true ↦ (λ e _. inr (inr (within_parts 97 102 c e))) | false ↦ (λ _ k. absurd (false≢true k)) ] refl)
      ] refl)
    ] refl

some_cond : {X : Type 0} (b : Bool) (x : X) (o : _) → is_some o ≡ true → is_some (cond b (Some x) o) ≡ true
some_cond true x o e = refl
some_cond false x o e = e

pub digit_is : (c : ℕ) → Digit c → is_digit c ≡ true
digit_is c (inl h) = rw (within_from 48 57 c h.0 h.1)
digit_is c (inr (inl h)) = some_cond (within 48 57 c) (c - 48) _ (rw (within_from 65 70 c h.0 h.1))
digit_is c (inr (inr h)) = some_cond (within 48 57 c) (c - 48) _ (some_cond (within 65 70 c) (c - 55) _ (rw (within_from 97 102 c h.0 h.1)))

not_digit : (c : ℕ) → (Digit c → ⊥) → is_digit c ≡ false
not_digit c none = ⊎_elim (λ t. absurd (none (digit_so c t))) (λ f. f) (cases_Bool (is_digit c))

-- 11
pub colon_off : (chars : List ℕ) → lacks_colon chars ≡ true → NotColonFirst chars
colon_off chars e rest is = true≢false (sym e ∙ ap (λ cs. not (eqb (get_or cs 0 0) 58)) is)

pub off_colon : (chars : List ℕ) → NotColonFirst chars → lacks_colon chars ≡ true
off_colon [] not_first = refl
off_colon (c ∷ cs) not_first = not_from_false (eqb c 58) (ne_eqb c 58 (λ e. not_first cs (ap (λ x. x ∷ cs) e)))

-- 12
module _ (chars : List ℕ) where
  shifted : (j : ℕ) → get_or (drop 1 chars) j 0 ≡ get_or chars (1 + j) 0
  shifted j = get_or-drop 1 chars j 0

  pub stray_so : has_stray chars ≡ true → StrayAt chars (stray_on chars)
  stray_so e =
      let n = prefix_len is_digit (drop 1 chars) in
      let lt : 1 + n < length chars = ltb-true (stray_on chars) (length chars) e in
      let long = length-drop 1 chars in
      let stop : is_digit (get_or chars (1 + n) 0) ≡ false = ap is_digit (sym (shifted n)) ∙ prefix_len_stops is_digit (drop 1 chars) 0 (omega arith) in
      record {
        past_colon = omega arith;
        within = lt;
        stray = λ d. true≢false (sym (digit_is (get_or chars (1 + n) 0) d) ∙ stop);
        first = λ j low high. (let back : 1 + (j - 1) ≡ j = omega arith in digit_so (get_or chars j 0) (ap (λ i. is_digit (get_or chars i 0)) (sym back) ∙ ap is_digit (sym (shifted (j - 1))) ∙ prefix_len_passes is_digit (drop 1 chars) (j - 1) 0 (omega arith)));
      }

  pub stray_is : (k : ℕ) → StrayAt chars k → stray_on chars ≡ k
  stray_is k s =
      let back : 1 + (k - 1) ≡ k = omega arith in
      let long = length-drop 1 chars in
      let stop : is_digit (get_or (drop 1 chars) (k - 1) 0) ≡ false = ap is_digit (shifted (k - 1)) ∙ ap (λ i. is_digit (get_or chars i 0)) back ∙ not_digit (get_or chars k 0) s.stray in
      let at = prefix_len_is is_digit (drop 1 chars) (k - 1) 0 (omega arith) (λ j m. ap is_digit (shifted j) ∙ digit_is (get_or chars (1 + j) 0) (s.first (1 + j) (omega arith) (omega arith))) (λ _. stop) in
      omega arith

  pub is_stray : (k : ℕ) → StrayAt chars k → has_stray chars ≡ true
  is_stray k s = lt-ltb (stray_on chars) (length chars) (omega (arith, stray_is k s, s.within))

  -- 13
  count_is : 3 ≤ length chars → count_on chars ≡ pair_value (get_or chars 1 0) (get_or chars 2 0)
  count_is long = get_or_pairs 0 (drop 1 chars) (omega (arith, length-drop 1 chars)) ∙ ap (λ h. pair_value h (get_or (drop 1 chars) 1 0)) (shifted 0) ∙ ap (pair_value (get_or chars 1 0)) (shifted 1)

  pub missing_so : lacks_digits chars ≡ true → DigitsMissing chars
  missing_so e =
      ⊎_elim (λ few. inl (omega (arith, ltb-true (length chars - 1) 2 few)))
      (λ wrong. ⊎_elim (λ short. inl short) (λ long. inr (λ is. eqb-false (length chars - 1) (10 + 2 * count_on chars) (not-true (eqb (length chars - 1) (10 + 2 * count_on chars)) wrong) (omega (arith, count_is long, is)))) (cases_lt (length chars) 3))
      (or_cases (ltb (length chars - 1) 2) (not (eqb (length chars - 1) (10 + 2 * count_on chars))) e)

  pub so_missing : DigitsMissing chars → lacks_digits chars ≡ true
  so_missing m =
      ⊎_elim (λ short. or_left (ltb (length chars - 1) 2) (not (eqb (length chars - 1) (10 + 2 * count_on chars))) (lt-ltb (length chars - 1) 2 (omega arith)))
      (λ long. or_right (ltb (length chars - 1) 2) (not (eqb (length chars - 1) (10 + 2 * count_on chars))) (not_from_false (eqb (length chars - 1) (10 + 2 * count_on chars)) (ne_eqb (length chars - 1) (10 + 2 * count_on chars) (λ e. ⊎_elim (λ few. absurd (omega arith)) (λ wrong. wrong (omega (arith, e, count_is long))) m))))
      (cases_lt (length chars) 3)

  -- 14
  pub sum_so : sums_wrong chars ≡ true → SumOff chars
  sum_so e is = eqb-false (sum256 (bytes_on chars)) 0 (not-true (eqb (sum256 (bytes_on chars)) 0) e) is

  pub so_sum : SumOff chars → sums_wrong chars ≡ true
  so_sum off = not_from_false (eqb (sum256 (bytes_on chars)) 0) (ne_eqb (sum256 (bytes_on chars)) 0 off)

-- 15
pub unknown_so : (chars : List ℕ) → not (known_type (type_on chars)) ≡ true → TypeUnknown chars
unknown_so chars e =
    let t = type_on chars in
    let none = not-true (known_type t) e in
    let a = or_parts (eqb t 0) (eqb t 1 || (eqb t 4 || eqb t 5)) none in
    let b = or_parts (eqb t 1) (eqb t 4 || eqb t 5) a.1 in
    let d = or_parts (eqb t 4) (eqb t 5) b.1 in
    (eqb-false t 0 a.0, eqb-false t 1 b.0, eqb-false t 4 d.0, eqb-false t 5 d.1)

pub so_unknown : (chars : List ℕ) → TypeUnknown chars → not (known_type (type_on chars)) ≡ true
so_unknown chars u =
    let t = type_on chars in
    not_from_false (known_type t) (or_from (eqb t 0) (eqb t 1 || (eqb t 4 || eqb t 5)) (ne_eqb t 0 u.0) (or_from (eqb t 1) (eqb t 4 || eqb t 5) (ne_eqb t 1 u.1) (or_from (eqb t 4) (eqb t 5) (ne_eqb t 4 u.2) (ne_eqb t 5 u.3))))

-- 16
shape_so : (chars : List ℕ) (t count : ℕ) → type_on chars ≡ t → fixed_count t ≡ count → not (eqb (count_on chars) (fixed_count (type_on chars)) && eqb (address_on chars) 0) ≡ true → ShapeOff t count chars
shape_so chars t count is fixed e =
    (is, λ c a. true≢false (sym (and_from (eqb (count_on chars) (fixed_count (type_on chars))) (eqb (address_on chars) 0) (eq-eqb (count_on chars) (fixed_count (type_on chars)) (c ∙ sym fixed ∙ ap fixed_count (sym is))) (eq-eqb (address_on chars) 0 a)) ∙ not-true (eqb (count_on chars) (fixed_count (type_on chars)) && eqb (address_on chars) 0) e))

pub shapes_so : (chars : List ℕ) → misshapen chars ≡ true → Misshapen chars
shapes_so chars e =
    let t = type_on chars in
    let p = and_parts (eqb t 1 || (eqb t 4 || eqb t 5)) (not (eqb (count_on chars) (fixed_count t) && eqb (address_on chars) 0)) e in
    ⊎_elim (λ a. inl (shape_so chars 1 0 (eqb-true t 1 a) refl p.1))
    (λ r. ⊎_elim (λ b. inr (inl (shape_so chars 4 2 (eqb-true t 4 b) refl p.1))) (λ d. inr (inr (shape_so chars 5 4 (eqb-true t 5 d) refl p.1))) (or_cases (eqb t 4) (eqb t 5) r))
    (or_cases (eqb t 1) (eqb t 4 || eqb t 5) p.0)

so_shape : (chars : List ℕ) (t count : ℕ) → fixed_count t ≡ count → (eqb t 1 || (eqb t 4 || eqb t 5)) ≡ true → ShapeOff t count chars → misshapen chars ≡ true
so_shape chars t count fixed one off =
    and_from (eqb (type_on chars) 1 || (eqb (type_on chars) 4 || eqb (type_on chars) 5)) (not (eqb (count_on chars) (fixed_count (type_on chars)) && eqb (address_on chars) 0)) (ap (λ x. eqb x 1 || (eqb x 4 || eqb x 5)) off.0 ∙ one)
    (not_from_false (eqb (count_on chars) (fixed_count (type_on chars)) && eqb (address_on chars) 0)
    (⊎_elim (λ both. let p = and_parts (eqb (count_on chars) (fixed_count (type_on chars))) (eqb (address_on chars) 0) both in absurd (off.1 (eqb-true (count_on chars) (fixed_count (type_on chars)) p.0 ∙ ap fixed_count off.0 ∙ fixed) (eqb-true (address_on chars) 0 p.1))) (λ f. f) (cases_Bool (eqb (count_on chars) (fixed_count (type_on chars)) && eqb (address_on chars) 0))))

pub so_shapes : (chars : List ℕ) → Misshapen chars → misshapen chars ≡ true
so_shapes chars (inl a) = so_shape chars 1 0 refl refl a
so_shapes chars (inr (inl a)) = so_shape chars 4 2 refl refl a
so_shapes chars (inr (inr a)) = so_shape chars 5 4 refl refl a
