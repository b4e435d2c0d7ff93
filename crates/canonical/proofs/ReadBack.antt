-- A canonical text is accepted, and says what it was made of. Assumes nothing.
use Rattle.std.proofs.Common.{◌≡◌, ℕ, ◌+◌, ◌/◌, ◌<◌, ◌≤◌, Bool, true, false, ◌||◌, ltb, ◌⊎◌, List, [], ◌∷◌, ◌++◌, map, length, Ok, Result, sym, refl, ap, ◌∙◌, inl, inr, arith}
use Rattle.std.proofs.lemmas.List.{length-append}
use Rattle.std.proofs.lemmas.Bool.{le-ltb, lt-ltb, or_left, or_right, cases_lt}
use Rattle.std.specs.List.{flat_map, AllByRecursion}
use Rattle.checksum.specs.Outcomes.{and_then}
use Rattle.hexline.specs.declared.fault.TextFault.{TextFault}
use Rattle.hexline.specs.Faults.{decided, spot}
use Rattle.hexline.specs.Digits.{pair_value, pairs}
use Rattle.hexline.specs.Lines.{data_is, end_is, base_is, line_of}
use Rattle.ihex.specs.declared.reads.Seen.{Seen}
use Rattle.ihex.specs.Texts.{TextLine, lines_of}
use Rattle.ihex.specs.Reads.{longest_text, seen_next, nothing_seen, rules_beside, lines_kept, text_of}
use Rattle.ihex.specs.Named.{data_in, data_lines}
use Rattle.ihex.proofs.Cuts.{line_at}
use Rattle.ihex.proofs.Steps.{step_data, step_end, step_base, kept_from, kept_none, kept_more, kept_is}
use Rattle.ihex.proofs.Walked.{walk_skips, walk_finds}
use Rattle.checksum.specs.Capitals.{capital}
use Rattle.canonical.specs.Canonical.{two_digits, CanonicalLine, line_chars, line_text, DataSpec, data_line, base_line, end_line, canonical_lines, canonical_text, end_of, Holds, Ascending, Canonical, data_spec, ReadsBack}
use Rattle.canonical.proofs.Spelled.{length_digits}
use Rattle.canonical.proofs.OneLine.{LineHolds, has_colon, no_stray, whole_digits, sums_right, address_on_lem, type_on_lem, digits_on, data_on_lem}
use Rattle.canonical.proofs.Split.{placed_lines, lines_back}

base_holds : LineHolds base_line
base_holds = record { kind_fits = omega arith; address_fits = omega arith; few = omega arith; each = (omega arith, (omega arith, tt)) }

end_holds : LineHolds end_line
end_holds = record { kind_fits = omega arith; address_fits = omega arith; few = omega arith; each = tt }

data_holds : (d : DataSpec) → Holds d → LineHolds (data_line d)
data_holds d h = record { kind_fits = omega arith; address_fits = h.starts; few = h.few; each = h.each }

-- what is said after the base line, up to the end line
abbrev under : Bool → ℕ → ℕ → ℕ → Seen
under names top line place = record { upper = 0x2000; top = top; names = names; ended = false; at = spot line place }

module _ (n p : ℕ) where
  base_read : (d : List ℕ) × (line_of n p (line_chars base_line) ≡ Ok (base_is 0x2000 d n p))
  unfolding line_of line_chars capital pairs pair_value
  base_read = (_, refl)

  end_read : line_of n p (line_chars end_line) ≡ Ok (end_is [] n p)
  unfolding line_of line_chars capital pairs pair_value
  end_read = refl

  module _ (d : DataSpec) (h : Holds d) where
    abbrev chars : List ℕ
    chars = line_chars (data_line d)

    data_read : line_of n p chars ≡ Ok (data_is d.address (flat_map two_digits d.bytes) n p)
    unfolding line_of
    data_read =
        let l = data_line d in
        let k = data_holds d h in
        rw (has_colon l, no_stray l k, whole_digits l k, sums_right l k, type_on_lem l k, address_on_lem l k, digits_on l k)

    -- what was said up to a data line, and then with it
    data_step : (names : Bool) (top line place : ℕ) → top ≤ d.address → decided (rules_beside (under names top line place) (line_at n p chars)) (seen_next (under names top line place) (line_at n p chars)) ≡ Ok (under (names || ltb 0 (length d.bytes)) (end_of d) n p)
    data_step names top line place ahead =
        let half : length (flat_map two_digits d.bytes) / 2 ≡ length d.bytes = omega (arith, length_digits d.bytes) in
        sym (step_data (under names top line place) n p chars refl d.address (flat_map two_digits d.bytes) n p data_read)
        ∙ rw (half, le-ltb d.address top ahead, le-ltb 65536 (end_of d) h.ends)

-- all lines are kept, the end line came, and a byte is named
abbrev Kept : Result Seen TextFault → Type 0
Kept r = (s : Seen) × (r ≡ Ok s) × (s.ended ≡ true) × (s.names ≡ true)

kept_on : (s next : Seen) (l : TextLine) (ls : List TextLine) → decided (rules_beside s l) (seen_next s l) ≡ Ok next → kept_from s (l ∷ ls) ≡ kept_from next ls
kept_on s next l ls is = kept_more s l ls ∙ ap (λ r. and_then r (λ t. kept_from t ls)) is

-- the lines after the base line
abbrev later_lines : List DataSpec → List CanonicalLine
later_lines ds = map data_line ds ++ (end_line ∷ [])

abbrev all_bytes : List DataSpec → List ℕ
all_bytes ds = flat_map (λ d. d.bytes) ds

-- a byte was named before, or one is still to come
abbrev Names : Bool → List DataSpec → Type 0
Names names ds = (names ≡ true) ⊎ (0 < length (all_bytes ds))

names_on : (names : Bool) (d : DataSpec) (ds : List DataSpec) → Names names (d ∷ ds) → Names (names || ltb 0 (length d.bytes)) ds
names_on names d ds (inl e) = inl (or_left names (ltb 0 (length d.bytes)) e)
names_on names d ds (inr some) =
    elim (cases_lt 0 (length d.bytes)) [
      | inl here ↦ inl (or_right names (ltb 0 (length d.bytes)) (lt-ltb 0 (length d.bytes) here))
      | inr none ↦ inr (omega (arith, length-append d.bytes (all_bytes ds)))
    ]

later_kept : (ds : List DataSpec) (names : Bool) (top line place n p : ℕ) → AllByRecursion Holds ds → Ascending top ds → Names names ds → Kept (kept_from (under names top line place) (placed_lines n p (later_lines ds)))
unfolding placed_lines
later_kept [] names top line place n p hs up some =
    let s = under names top line place in
    let last : Seen = record { upper = 0x2000; top = top; names = names; ended = true; at = spot n p } in
    let named : names ≡ true = elim some [ inl e ↦ e | inr lt ↦ absurd (omega arith) ] in
    (last, kept_on s last (line_at n p (line_chars end_line)) [] (sym (step_end s n p (line_chars end_line) refl [] n p (end_read n p))) ∙ kept_none last, refl, named)
later_kept (d ∷ ds) names top line place n p hs up some =
    let more = names || ltb 0 (length d.bytes) in
    let after = p + length (line_text (data_line d)) in
    let rest = later_kept ds more (end_of d) n p (n + 1) after hs.1 up.1 (names_on names d ds some) in
    (rest.0, kept_on (under names top line place) (under more (end_of d) n p) (line_at n p (line_chars (data_line d))) (placed_lines (n + 1) after (later_lines ds)) (data_step n p d hs.0 names top line place up.0) ∙ rest.1, rest.2, rest.3)

-- the later lines' data, in order
later_data : (ds : List DataSpec) (n p : ℕ) → AllByRecursion Holds ds → map data_spec (flat_map data_in (placed_lines n p (later_lines ds))) ≡ ds
unfolding placed_lines
later_data [] n p hs = ap (map data_spec) (walk_skips n p (line_chars end_line) [] (λ e. omega (arith, type_on_lem end_line end_holds)))
later_data (d ∷ ds) n p hs =
    let l = data_line d in
    let k = data_holds d hs.0 in
    let after = p + length (line_text l) in
    ap (map data_spec) (walk_finds n p (line_chars l) (placed_lines (n + 1) after (later_lines ds)) (type_on_lem l k))
    ∙ rw (address_on_lem l k, data_on_lem l k, later_data ds (n + 1) after hs.1)

module _ (ds : List DataSpec) (c : Canonical ds) where
  abbrev after : ℕ
  after = 0 + length (line_text base_line)

  abbrev later : List TextLine
  later = placed_lines (1 + 1) after (later_lines ds)

  all_lines : lines_of (canonical_text ds) ≡ line_at 1 0 (line_chars base_line) ∷ later
  unfolding placed_lines
  all_lines = lines_back (canonical_lines ds)

  all_kept_lem : Kept (lines_kept [] (lines_of (canonical_text ds)))
  all_kept_lem =
      let rest = later_kept ds false 0 1 0 (1 + 1) after c.lines c.ascending (inr c.names) in
      let base = sym (step_base nothing_seen 1 0 (line_chars base_line) refl 0x2000 (base_read 1 0).0 1 0 (base_read 1 0).1) in
      (rest.0, sym (kept_is [] (lines_of (canonical_text ds))) ∙ ap (kept_from nothing_seen) all_lines ∙ kept_on nothing_seen (under false 0 1 0) (line_at 1 0 (line_chars base_line)) later base ∙ rest.1, rest.2, rest.3)

  accepts : text_of (canonical_text ds) ≡ Ok tt
  unfolding text_of
  accepts =
      let kept = all_kept_lem in
      rw (le-ltb longest_text (length (canonical_text ds)) c.short, kept.1, kept.2, kept.3)

  data_back : map data_spec (data_lines (canonical_text ds)) ≡ ds
  unfolding data_lines
  data_back =
      ap (λ ls. map data_spec (flat_map data_in ls)) all_lines
      ∙ ap (map data_spec) (walk_skips 1 0 (line_chars base_line) later (λ e. omega (arith, type_on_lem base_line base_holds)))
      ∙ later_data ds (1 + 1) after c.lines

pub reads_back : (ds : List DataSpec) → ReadsBack ds
reads_back ds c = (accepts ds c, data_back ds c)
