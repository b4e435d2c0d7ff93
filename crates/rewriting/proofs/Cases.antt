-- The case of digits changes nothing. Assumes nothing.
use Rattle.std.proofs.Common.{◌≡◌, ℕ, zero, suc, ◌+◌, ◌-◌, ◌*◌, ◌<◌, ◌≤◌, true, false, cond, ◌&&◌, eqb, List, [], ◌∷◌, map, length, get_or, take, drop, None, Ok, Err, fold, Option, Result, sym, refl, ap, ◌∙◌, inl, inr, arith}
use Rattle.std.proofs.lemmas.List.{length-map, take-map, drop-map}
use Rattle.std.proofs.lemmas.Bool.{ne_eqb}
use Rattle.std.specs.List.{prefix_len}
use Rattle.checksum.specs.Outcomes.{and_then}
use Rattle.hexline.specs.declared.fault.TextFault.{TextFault}
use Rattle.checksum.specs.Ranges.{within}
use Rattle.checksum.proofs.Ranges.{within_from, within_parts, above_none}
use Rattle.hexline.specs.Digits.{digit_of, is_digit, pair_value, pairs}
use Rattle.hexline.specs.Faults.{decided}
use Rattle.hexline.specs.Records.{bytes_on, count_on, data_digits, data_on, stray_on, lacks_colon}
use Rattle.ihex.specs.declared.reads.Seen.{Seen}
use Rattle.ihex.specs.Texts.{Stretch, TextLine, on_first, stretches, trimmed, size_of, placed, lines_of}
use Rattle.ihex.specs.Reads.{seen_next, nothing_seen, rules_beside, lines_kept, text_of}
use Rattle.ihex.specs.Named.{named}
use Rattle.ihex.proofs.Steps.{kept_from, kept_is}
use Rattle.ihex.proofs.Cuts.{stretch, line_at}
use Rattle.rewriting.specs.Cases.{SameDigit, SameButCase}
use Rattle.rewriting.specs.Laws.{CaseFree}
use Rattle.rewriting.proofs.Bare.{text_chars, bare_next, named_is}

-- a letter from 'A' to 'F' as one from 'a' to 'f'
unfoldable low : ℕ → ℕ
low c = cond (within 65 70 c) (c + 32) c

low_letter : (c : ℕ) → 65 ≤ c → c ≤ 70 → low c ≡ c + 32
unfolding low
low_letter c h k = rw (within_from 65 70 c h k)

low_above : (c : ℕ) → 70 < c → low c ≡ c
unfolding low
low_above c h = rw (above_none 65 70 c h)

low_same : (c d : ℕ) → SameDigit c d → low d ≡ low c
low_same c d (inl e) = ap low (sym e)
low_same c d (inr (inl h)) = low_above d (omega arith) ∙ h.2 ∙ sym (low_letter c h.0 h.1)
low_same c d (inr (inr h)) = low_letter d h.0 h.1 ∙ sym h.2 ∙ sym (low_above c (omega arith))

same_low : (text other : List ℕ) → SameButCase text other → map low other ≡ map low text
same_low [] [] h = refl
same_low [] (d ∷ ds) h = absurd h
same_low (c ∷ cs) [] h = absurd h
same_low (c ∷ cs) (d ∷ ds) h = rw (low_same c d h.0, same_low cs ds h.1)

-- a letter is a digit in either case, with one value
digit_letter : (c : ℕ) → 65 ≤ c → c ≤ 70 → digit_of (c + 32) ≡ digit_of c
digit_letter c h k =
    let e : c + 32 - 87 ≡ c - 55 = omega arith in
    rw (above_none 48 57 (c + 32) (omega arith), above_none 65 70 (c + 32) (omega arith), within_from 97 102 (c + 32) (omega arith) (omega arith), above_none 48 57 c (omega arith), within_from 65 70 c h k, e)

-- what holds of a character and of the lower letter holds of either case
low_by : {X : Type 0} (f : ℕ → X) → ((c : ℕ) → 65 ≤ c → c ≤ 70 → f (c + 32) ≡ f c) → (c : ℕ) → f (low c) ≡ f c
unfolding low
low_by f h c =
    elim (within 65 70 c) as (λ b. within 65 70 c ≡ b → f (cond b (c + 32) c) ≡ f c) [
      | true ↦ (λ e. let p = within_parts 65 70 c e in h c p.0 p.1)
      | false ↦ (λ e. refl)
    ] refl

low_digit : (c : ℕ) → digit_of (low c) ≡ digit_of c
low_digit c = low_by digit_of digit_letter c

-- LF, CR and colon are no letters
low_other : (k : ℕ) → k < 65 → (c : ℕ) → eqb (low c) k ≡ eqb c k
low_other k small c = low_by (λ d. eqb d k) (λ d h _. ne_eqb (d + 32) k (λ e. omega arith) ∙ sym (ne_eqb d k (λ e. omega arith))) c

low_stretch : Stretch → Stretch
low_stretch s = stretch (map low s.chars) s.feed

low_line : TextLine → TextLine
low_line l = line_at l.number l.place (map low l.chars)

first_low : (c : ℕ) (ss : List Stretch) → on_first (low c) (map low_stretch ss) ≡ map low_stretch (on_first c ss)
unfolding low_stretch
first_low c [] = refl
first_low c (s ∷ ss) = refl

stretches_low : (xs : List ℕ) → stretches (map low xs) ≡ map low_stretch (stretches xs)
unfolding stretches low_stretch
stretches_low [] = refl
stretches_low (x ∷ xs) =
    rw (low_other 10 (omega arith) x, stretches_low xs)
    (elim (eqb x 10) as (λ b. cond b (stretch [] true ∷ map low_stretch (stretches xs)) (on_first (low x) (map low_stretch (stretches xs))) ≡ map low_stretch (cond b (stretch [] true ∷ stretches xs) (on_first x (stretches xs)))) [ true ↦ refl | false ↦ first_low x (stretches xs) ])

get_or_low : (xs : List ℕ) (i : ℕ) → get_or (map low xs) i 0 ≡ low (get_or xs i 0)
unfolding low
get_or_low [] i = refl
get_or_low (x ∷ xs) zero = refl
get_or_low (x ∷ xs) (suc i) = get_or_low xs i

trimmed_low : (s : Stretch) → trimmed (low_stretch s) ≡ map low (trimmed s)
unfolding low_stretch
trimmed_low s =
    let last = length s.chars - 1 in
    rw (length-map s.chars low, get_or_low s.chars last, low_other 13 (omega arith) (get_or s.chars last 0))
    (elim (s.feed && eqb (get_or s.chars last 0) 13) as (λ b. cond b (take last (map low s.chars)) (map low s.chars) ≡ map low (cond b (take last s.chars) s.chars)) [ true ↦ take-map low last s.chars | false ↦ refl ])

size_low : (s : Stretch) → size_of (low_stretch s) ≡ size_of s
unfolding low_stretch
size_low s = rw (length-map s.chars low)

placed_low : (n p : ℕ) (ss : List Stretch) → placed n p (map low_stretch ss) ≡ map low_line (placed n p ss)
unfolding placed low_line
placed_low n p [] = refl
placed_low n p (s ∷ ss) = rw (trimmed_low s, size_low s, placed_low (n + 1) (p + size_of s) ss)

lines_low : (text : List ℕ) → lines_of (map low text) ≡ map low_line (lines_of text)
lines_low text = ap (placed 1 0) (stretches_low text) ∙ placed_low 1 0 (stretches text)

pairs_low : (xs : List ℕ) → pairs (map low xs) ≡ pairs xs
unfolding pairs pair_value
pairs_low [] = refl
pairs_low (a ∷ []) = refl
pairs_low (a ∷ b ∷ xs) = rw (low_digit a, low_digit b, pairs_low xs)

leading_low : (xs : List ℕ) → prefix_len is_digit (map low xs) ≡ prefix_len is_digit xs
leading_low [] = refl
leading_low (x ∷ xs) = rw (low_digit x, leading_low xs)

module _ (cs : List ℕ) where
  bytes_low : bytes_on (map low cs) ≡ bytes_on cs
  bytes_low = ap pairs (drop-map low 1 cs) ∙ pairs_low (drop 1 cs)

  digits_low : data_digits (map low cs) ≡ map low (data_digits cs)
  digits_low = rw (bytes_low, drop-map low 9 cs, take-map low (2 * count_on cs) (drop 9 cs))

  data_low : data_on (map low cs) ≡ data_on cs
  data_low = ap pairs digits_low ∙ pairs_low (data_digits cs)

  stray_low : stray_on (map low cs) ≡ stray_on cs
  stray_low = rw (drop-map low 1 cs, leading_low (drop 1 cs))

  colon_low : lacks_colon (map low cs) ≡ lacks_colon cs
  colon_low = rw (get_or_low cs 0, low_other 58 (omega arith) (get_or cs 0 0))

module _ (s : Seen) (l : TextLine) where
  beside_low : rules_beside s (low_line l) ≡ rules_beside s l
  unfolding rules_beside low_line
  beside_low = rw (colon_low l.chars, stray_low l.chars, length-map l.chars low, bytes_low l.chars)

  next_low : seen_next s (low_line l) ≡ seen_next s l
  unfolding low_line
  next_low = rw (data_low l.chars, bytes_low l.chars)

then_same : {X Y : Type 0} (r : Result X TextFault) {f g : X → Result Y TextFault} → ((x : X) → f x ≡ g x) → and_then r f ≡ and_then r g
then_same (Ok x) h = h x
then_same (Err e) h = refl

kept_low : (s : Seen) (ls : List TextLine) → kept_from s (map low_line ls) ≡ kept_from s ls
unfolding kept_from
kept_low s [] = refl
kept_low s (l ∷ ls) =
    ap (λ rs. and_then (decided rs (seen_next s (low_line l))) (λ next. kept_from next (map low_line ls))) (beside_low s l)
    ∙ ap (λ n. and_then (decided (rules_beside s l) n) (λ next. kept_from next (map low_line ls))) (next_low s l)
    ∙ then_same (decided (rules_beside s l) (seen_next s l)) (λ next. kept_low next ls)

text_low : (text : List ℕ) → text_of (map low text) ≡ text_of text
unfolding text_of
text_low text =
    let kept : lines_kept [] (lines_of (map low text)) ≡ lines_kept [] (lines_of text) = ap (lines_kept []) (lines_low text) ∙ sym (kept_is [] (map low_line (lines_of text))) ∙ kept_low nothing_seen (lines_of text) ∙ kept_is [] (lines_of text) in
    rw (length-map text low, kept)

next_named_low : (a : ℕ) (earlier : Option ℕ) (cs : List ℕ) → bare_next a earlier (map low cs) ≡ bare_next a earlier cs
next_named_low a earlier cs = rw (data_low cs, bytes_low cs)

trims_low : (ss : List Stretch) → map trimmed (map low_stretch ss) ≡ map (map low) (map trimmed ss)
trims_low [] = refl
trims_low (s ∷ ss) = rw (trimmed_low s, trims_low ss)

folded_low : (a : ℕ) (earlier : Option ℕ) (css : List (List ℕ)) → fold (bare_next a) earlier (map (map low) css) ≡ fold (bare_next a) earlier css
folded_low a earlier [] = refl
folded_low a earlier (cs ∷ css) = ap (λ o. fold (bare_next a) o (map (map low) css)) (next_named_low a earlier cs) ∙ folded_low a (bare_next a earlier cs) css

named_low : (text : List ℕ) (a : ℕ) → named (map low text) a ≡ named text a
named_low text a =
    named_is (map low text) a
    ∙ ap (λ ss. fold (bare_next a) None (map trimmed ss)) (stretches_low text)
    ∙ ap (fold (bare_next a) None) (trims_low (stretches text))
    ∙ folded_low a None (text_chars text)
    ∙ sym (named_is text a)

pub case_free : CaseFree
case_free text other h =
    let e = same_low text other h in
    (sym (text_low other) ∙ ap text_of e ∙ text_low text, λ a. sym (named_low other a) ∙ ap (λ t. named t a) e ∙ named_low text a)
