-- What a line that is read says of its digits. Assumes nothing.
use Rattle.std.proofs.Common.{◌≡◌, ℕ, ◌+◌, ◌-◌, ◌*◌, ◌/◌, ◌<◌, ◌≤◌, min, true, false, cond, not, ◌||◌, eqb, ltb, List, ◌++◌, length, get_or, take, drop, Some, None, Ok, Err, unwrap_or, sym, refl, ap, ◌∙◌, subst, inl, inr, arith}
use Rattle.std.proofs.lemmas.List.{length-take, take_at, take_all, length-drop, length-append}
use Rattle.std.proofs.lemmas.Bool.{eq-eqb, eqb-true, cases_lt, not-false, or_parts}
use Rattle.checksum.specs.Outcomes.{and_then}
use Rattle.hexline.specs.declared.fault.TextFault.{TextFault}
use Rattle.checksum.specs.Ranges.{within}
use Rattle.checksum.proofs.Ranges.{within_parts}
use Rattle.hexline.specs.Digits.{pairs, pair_value, hex_value}
use Rattle.hexline.specs.Records.{lacks_digits, known_type, count_on, address_on, type_on, upper_on, data_digits}
use Rattle.hexline.specs.Faults.{decided}
use Rattle.hexline.specs.Lines.{single_line, LineIs, digits_in, data_is, end_is, base_is, start_is, form_rules, type_rules, line_rules, case_of, line_of}
use Rattle.hexline.specs.Rows.{cleared, row_after_line}
use Rattle.hexline.proofs.Decided.{decided_append, decided_ok, decided_kept}
use Rattle.hexline.proofs.Pairs.{get_or_pairs, get_or_pairs_past, length_pairs}

module _ (ln p : ℕ) (chars : List ℕ) where
  -- a line's form is checked first, and then its type
  pub line_formed : (v : Unit {0}) → decided {X = Unit {0}} (form_rules ln p chars) tt ≡ Ok v → decided (type_rules ln p chars) (case_of ln p chars) ≡ line_of ln p chars
  unfolding line_of
  line_formed v h = sym (decided_append (form_rules ln p chars) (type_rules ln p chars) (case_of ln p chars) ∙ ap (λ r. and_then r (λ _. decided (type_rules ln p chars) (case_of ln p chars))) h)

  pub line_unformed : (f : TextFault) → decided {X = Unit {0}} (form_rules ln p chars) tt ≡ Err f → Err f ≡ line_of ln p chars
  unfolding line_of
  line_unformed f h = sym (decided_append (form_rules ln p chars) (type_rules ln p chars) (case_of ln p chars) ∙ ap (λ r. and_then r (λ _. decided (type_rules ln p chars) (case_of ln p chars))) h)

  case_digits : digits_in (case_of ln p chars) ≡ data_digits chars
  case_digits =
      elim (eqb (type_on chars) 0) as (λ a. digits_in (cond a (data_is (address_on chars) (data_digits chars) ln p) (cond (eqb (type_on chars) 1) (end_is (data_digits chars) ln p) (cond (eqb (type_on chars) 4) (base_is (upper_on chars) (data_digits chars) ln p) (start_is (data_digits chars) ln p)))) ≡ data_digits chars) [
        | true ↦ refl
        | false ↦ elim (eqb (type_on chars) 1) as (λ a. digits_in (cond a (end_is (data_digits chars) ln p) (cond (eqb (type_on chars) 4) (base_is (upper_on chars) (data_digits chars) ln p) (start_is (data_digits chars) ln p))) ≡ data_digits chars) [
          | true ↦ refl
          | false ↦ elim (eqb (type_on chars) 4) as (λ a. digits_in (cond a (base_is (upper_on chars) (data_digits chars) ln p) (start_is (data_digits chars) ln p)) ≡ data_digits chars) [ true ↦ refl | false ↦ refl ]
        ]
      ]

  pub line_digits : (l : LineIs) → line_of ln p chars ≡ Ok l → digits_in l ≡ data_digits chars
  unfolding line_of
  line_digits l h = sym (ap digits_in (decided_ok (line_rules ln p chars) (case_of ln p chars) l h)) ∙ case_digits

-- what a case says of the line's type and fields
abbrev pub CaseFacts : List ℕ → LineIs → Type 0
CaseFacts chars (data_is a d ln p) = (type_on chars ≡ 0) × (a ≡ address_on chars) × (length d / 2 ≡ count_on chars)
CaseFacts chars (end_is d ln p) = type_on chars ≡ 1
CaseFacts chars (base_is u d ln p) = (type_on chars ≡ 4) × (u ≡ upper_on chars)
CaseFacts chars (start_is d ln p) = type_on chars ≡ 5

module _ (ln p : ℕ) (chars : List ℕ) where
  -- the digits that the count asks for
  pub data_length : lacks_digits chars ≡ false → length (data_digits chars) / 2 ≡ count_on chars
  data_length h =
      let e : length chars - 1 ≡ 10 + 2 * count_on chars = eqb-true (length chars - 1) (10 + 2 * count_on chars) (not-false (eqb (length chars - 1) (10 + 2 * count_on chars)) (or_parts (ltb (length chars - 1) 2) (not (eqb (length chars - 1) (10 + 2 * count_on chars))) h).1) in
      omega (arith, length-take (2 * count_on chars) (drop 9 chars), length-drop 9 chars, e)

  five : (t : ℕ) → not (known_type t) ≡ false → eqb t 0 ≡ false → eqb t 1 ≡ false → eqb t 4 ≡ false → t ≡ 5
  five t known a b d = eqb-true t 5 (sym (ap (λ x. x || (eqb t 1 || (eqb t 4 || eqb t 5))) a ∙ ap (λ x. x || (eqb t 4 || eqb t 5)) b ∙ ap (λ x. x || eqb t 5) d) ∙ not-false _ known)

  facts : lacks_digits chars ≡ false → not (known_type (type_on chars)) ≡ false → CaseFacts chars (case_of ln p chars)
  facts digits known =
      elim (eqb (type_on chars) 0) as (λ a. eqb (type_on chars) 0 ≡ a → CaseFacts chars (cond a (data_is (address_on chars) (data_digits chars) ln p) (cond (eqb (type_on chars) 1) (end_is (data_digits chars) ln p) (cond (eqb (type_on chars) 4) (base_is (upper_on chars) (data_digits chars) ln p) (start_is (data_digits chars) ln p))))) [
        | true ↦ (λ e. (eqb-true (type_on chars) 0 e, refl, data_length digits))
        | false ↦ (λ e. elim (eqb (type_on chars) 1) as (λ a. eqb (type_on chars) 1 ≡ a → CaseFacts chars (cond a (end_is (data_digits chars) ln p) (cond (eqb (type_on chars) 4) (base_is (upper_on chars) (data_digits chars) ln p) (start_is (data_digits chars) ln p)))) [
          | true ↦ (λ f. eqb-true (type_on chars) 1 f)
          | false ↦ (λ f. elim (eqb (type_on chars) 4) as (λ a. eqb (type_on chars) 4 ≡ a → CaseFacts chars (cond a (base_is (upper_on chars) (data_digits chars) ln p) (start_is (data_digits chars) ln p))) [
            | true ↦ (λ g. (eqb-true (type_on chars) 4 g, refl))
            | false ↦ (λ g. five (type_on chars) known e f g)
          ] refl)
        ] refl)
      ] refl

  pub case_facts : (l : LineIs) → line_of ln p chars ≡ Ok l → CaseFacts chars l
  unfolding line_of
  case_facts l h =
      let kept = decided_kept (line_rules ln p chars) (case_of ln p chars) l h in
      subst (CaseFacts chars) (decided_ok (line_rules ln p chars) (case_of ln p chars) l h) (facts kept.1.1.0 kept.1.1.1.1.0)

pub hex_value_small : (c : ℕ) → hex_value c < 16
hex_value_small c =
    elim (within 48 57 c) as (λ a. within 48 57 c ≡ a → unwrap_or (cond a (Some (c - 48)) (cond (within 65 70 c) (Some (c - 55)) (cond (within 97 102 c) (Some (c - 87)) None))) 0 < 16) [
      | true ↦ (λ e. omega (arith, (within_parts 48 57 c e).1))
      | false ↦ (λ _. elim (within 65 70 c) as (λ a. within 65 70 c ≡ a → unwrap_or (cond a (Some (c - 55)) (cond (within 97 102 c) (Some (c - 87)) None)) 0 < 16) [
        | true ↦ (λ e. omega (arith, (within_parts 65 70 c e).1))
        | false ↦ (λ _. elim (within 97 102 c) as (λ a. within 97 102 c ≡ a → unwrap_or (cond a (Some (c - 87)) None) 0 < 16) [ true ↦ (λ e. omega (arith, (within_parts 97 102 c e).1)) | false ↦ (λ _. omega arith) ] refl)
      ] refl)
    ] refl

pub pair_value_small : (a b : ℕ) → pair_value a b < 256
unfolding pair_value
pair_value_small a b = omega (arith, hex_value_small a, hex_value_small b)

pub get_or_pairs_small : (xs : List ℕ) (k : ℕ) → get_or (pairs xs) k 0 < 256
get_or_pairs_small xs k =
    elim (cases_lt (2 * k + 1) (length xs)) [
      | inl h ↦ rw (get_or_pairs k xs h) (pair_value_small (get_or xs (2 * k) 0) (get_or xs (2 * k + 1) 0))
      | inr h ↦ rw (get_or_pairs_past k xs (omega arith)) (omega arith)
    ]

pub short_digits : (chars : List ℕ) → length (data_digits chars) ≤ 510
short_digits chars = omega (arith, length-take (2 * count_on chars) (drop 9 chars), get_or_pairs_small (drop 1 chars) 0)

pub few_digits : (chars : List ℕ) → length (data_digits chars) / 2 ≤ 255
few_digits chars = omega (arith, short_digits chars)

pub digits_within : (chars : List ℕ) → length (data_digits chars) ≤ length chars
digits_within chars = omega (arith, length-take (2 * count_on chars) (drop 9 chars), length-drop 9 chars)

module _ (row chars : List ℕ) (whole : length row ≡ 255) where
  pub single_is : single_line (length row) chars ≡ line_of 1 0 chars
  single_is = rw (eq-eqb (length row) 255 whole)

  -- the row after a refused line
  pub row_refused : (after : List ℕ) (f : TextFault) → line_of 1 0 chars ≡ Err f → after ≡ cleared 0 row → after ≡ row_after_line row chars
  row_refused after f is end = end ∙ rw (eq-eqb (length row) 255 whole, is, whole)

  -- the row after a line that was read
  pub row_read : (filling after digits : List ℕ) (l : LineIs) (n : ℕ) → line_of 1 0 chars ≡ Ok l → digits ≡ digits_in l → n ≡ min (length digits / 2) (length row) → filling ≡ take n (pairs digits) ++ drop n row → after ≡ cleared n filling → after ≡ row_after_line row chars
  row_read filling after digits l n is same count fills end =
      let d : digits ≡ data_digits chars = same ∙ line_digits 1 0 chars l is in
      let few = few_digits chars in
      let long = length_pairs digits in
      let short : length digits / 2 ≤ 255 = rw d few in
      let whole_digits : take n (pairs digits) ≡ pairs digits = take_all n (pairs digits) (omega arith) in
      let filling-is : filling ≡ pairs digits ++ drop n row = fills ∙ ap (λ bs. bs ++ drop n row) whole_digits in
      let all : length filling ≡ 255 = ap length filling-is ∙ omega (arith, length-append (pairs digits) (drop n row), length-drop n row) in
      let front : take n filling ≡ pairs digits = ap (take n) filling-is ∙ take_at (pairs digits) (drop n row) n (omega arith) in
      let n-is : n ≡ length (pairs digits) = omega arith in
      end ∙ rw (front, all, eq-eqb (length row) 255 whole, is, n-is, d)
