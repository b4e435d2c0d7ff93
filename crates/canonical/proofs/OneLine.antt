-- What a canonical line's characters say. Assumes nothing.
use Rattle.std.proofs.Common.{◌≡◌, ℕ, ◌+◌, ◌-◌, ◌*◌, ◌<◌, ◌≤◌, false, not, eqb, ltb, List, [], ◌∷◌, ◌++◌, length, get_or, take, refl, ap, ◌∙◌, arith}
use Rattle.std.proofs.ByRecursion.{All-push}
use Rattle.std.proofs.lemmas.List.{length_push}
use Rattle.std.proofs.lemmas.List.Sums.{sum_by_push}
use Rattle.std.proofs.lemmas.Bool.{le-ltb, eq-eqb, or_from, not_from_true}
use Rattle.std.specs.List.{flat_map, AllByRecursion}
use Rattle.checksum.specs.Sums.{sum256}
use Rattle.hexline.specs.Digits.{pairs}
use Rattle.hexline.specs.Records.{bytes_on, count_on, address_on, type_on, data_digits, data_on, stray_on, lacks_colon, has_stray, lacks_digits, sums_wrong}
use Rattle.canonical.specs.Canonical.{CanonicalLine, two_digits, summed_bytes, check_byte, record_bytes, line_chars}
use Rattle.canonical.proofs.Spelled.{Bytes, digits_high, length_digits, take_digits, all_digits, pairs_of_digits}

-- what a record's fields can hold, whatever its type
pub record LineHolds (l : CanonicalLine) : Type 0 where
  pub kind_fits : l.kind < 256
  pub address_fits : l.address < 65536
  pub few : length l.bytes ≤ 255
  pub each : Bytes l.bytes

check_sums : (bytes : List ℕ) → sum256 (bytes ++ (check_byte bytes ∷ [])) ≡ 0
check_sums bytes = let e = sum_by_push (λ b. b) bytes (check_byte bytes) in omega arith

-- every character is at or above '0'
pub chars_high : (l : CanonicalLine) → AllByRecursion (λ c. 48 ≤ c) (line_chars l)
unfolding line_chars
chars_high l = (omega arith, digits_high (record_bytes l))

pub chars_some : (l : CanonicalLine) → 0 < length (line_chars l)
unfolding line_chars
chars_some l = omega arith

pub has_colon : (l : CanonicalLine) → lacks_colon (line_chars l) ≡ false
unfolding line_chars
has_colon l = refl

module _ (l : CanonicalLine) (h : LineHolds l) where
  record_bytes_lem : Bytes (record_bytes l)
  record_bytes_lem = All-push (λ b. b < 256) (summed_bytes l) (check_byte (summed_bytes l)) (omega arith, (omega arith, (omega arith, (h.kind_fits, h.each)))) (omega arith)

  bytes_on_lem : bytes_on (line_chars l) ≡ record_bytes l
  unfolding line_chars
  bytes_on_lem = pairs_of_digits (record_bytes l) record_bytes_lem

  pub count_on_lem : count_on (line_chars l) ≡ length l.bytes
  count_on_lem = ap (λ bs. get_or bs 0 0) bytes_on_lem

  pub address_on_lem : address_on (line_chars l) ≡ l.address
  address_on_lem = ap (λ bs. 256 * get_or bs 1 0 + get_or bs 2 0) bytes_on_lem ∙ omega arith

  pub type_on_lem : type_on (line_chars l) ≡ l.kind
  type_on_lem = ap (λ bs. get_or bs 3 0) bytes_on_lem

  pub digits_on : data_digits (line_chars l) ≡ flat_map two_digits l.bytes
  unfolding line_chars
  digits_on = ap (λ n. take (2 * n) (flat_map two_digits (l.bytes ++ (check_byte (summed_bytes l) ∷ [])))) count_on_lem ∙ take_digits l.bytes (check_byte (summed_bytes l) ∷ [])

  pub data_on_lem : data_on (line_chars l) ≡ l.bytes
  data_on_lem = ap pairs digits_on ∙ pairs_of_digits l.bytes h.each

  pub no_stray : has_stray (line_chars l) ≡ false
  unfolding line_chars
  no_stray =
      let e = all_digits (record_bytes l) record_bytes_lem in
      le-ltb (stray_on (line_chars l)) (length (line_chars l)) (omega arith)

  -- ten digits, and two for each data byte
  long : length (line_chars l) ≡ 11 + 2 * length l.bytes
  unfolding line_chars
  long = omega (arith, length_digits (record_bytes l), length_push (summed_bytes l) (check_byte (summed_bytes l)))

  pub whole_digits : lacks_digits (line_chars l) ≡ false
  whole_digits =
      let c = count_on_lem in
      let n = long in
      or_from (ltb (length (line_chars l) - 1) 2) (not (eqb (length (line_chars l) - 1) (10 + 2 * count_on (line_chars l)))) (le-ltb _ 2 (omega arith)) (not_from_true _ (eq-eqb _ _ (omega arith)))

  pub sums_right : sums_wrong (line_chars l) ≡ false
  sums_right = not_from_true _ (eq-eqb (sum256 (bytes_on (line_chars l))) 0 (ap sum256 bytes_on_lem ∙ check_sums (summed_bytes l)))
