-- A text's first line, and those after it. Assumes nothing.
use Rattle.std.proofs.Common.{◌≡◌, ℕ, zero, suc, ◌+◌, ◌-◌, ◌<◌, ◌≤◌, Bool, true, false, cond, eqb, List, [], ◌∷◌, length, get_or, take, drop, Some, None, refl, ap, ◌∙◌, ⊎_elim, arith}
use Rattle.std.proofs.lemmas.List.{length-drop, length-take-le}
use Rattle.std.proofs.lemmas.List.Sums.{fails_before_first}
use Rattle.std.proofs.lemmas.List.Quantifiers.{position-Some}
use Rattle.std.proofs.lemmas.Bool.{eqb-true, eqb-false, eq-eqb, ne_eqb, lt-ltb, cases_lt}
use Rattle.std.specs.List.{position, position_or_len}
use Rattle.ihex.specs.Texts.{Stretch, TextLine, on_first, stretches, trimmed, placed}

abbrev pub stretch : List ℕ → Bool → Stretch
stretch cs b = record { chars = cs; feed = b }

pub no_lines : (n p : ℕ) (xs : List ℕ) → length xs ≡ 0 → placed n p (stretches xs) ≡ []
unfolding stretches placed
no_lines n p [] none = refl
no_lines n p (x ∷ xs) none = absurd (omega arith)

pub first_cut : (n : ℕ) (xs : List ℕ) → n < length xs → ((k : ℕ) → k < n → get_or xs k 0 ≡ 10 → ⊥) → get_or xs n 0 ≡ 10 → stretches xs ≡ stretch (take n xs) true ∷ stretches (drop (suc n) xs)
unfolding stretches
first_cut n [] lt clear feed = absurd (omega arith)
first_cut zero (x ∷ xs) lt clear feed = rw (eq-eqb x 10 feed)
first_cut (suc n) (x ∷ xs) lt clear feed =
    rw (ne_eqb x 10 (clear 0 (omega arith)), first_cut n xs (omega arith) (λ k h. clear (suc k) (omega arith)) feed)

pub first_last : (xs : List ℕ) → 0 < length xs → ((k : ℕ) → k < length xs → get_or xs k 0 ≡ 10 → ⊥) → stretches xs ≡ stretch xs false ∷ []
unfolding stretches
first_last [] lt clear = absurd (omega arith)
first_last (x ∷ []) lt clear = rw (ne_eqb x 10 (clear 0 (omega arith)))
first_last (x ∷ y ∷ xs) lt clear =
    ap (λ t. cond t (stretch [] true ∷ stretches (y ∷ xs)) (on_first x (stretches (y ∷ xs)))) (ne_eqb x 10 (clear 0 (omega arith)))
    ∙ ap (on_first x) (first_last (y ∷ xs) (omega arith) (λ k h. clear (suc k) (omega arith)))

abbrev pub line_at : ℕ → ℕ → List ℕ → TextLine
line_at n p cs = record { number = n; place = p; chars = cs }

-- a line that an LF ends
pub line_feed : (text : List ℕ) (end n p : ℕ) → position (λ c. eqb c 10) text ≡ Some end → placed n p (stretches text) ≡ line_at n p (trimmed (stretch (take end text) true)) ∷ placed (n + 1) (p + (length text - length (drop (end + 1) text))) (stretches (drop (end + 1) text))
unfolding placed
line_feed text end n p is =
    let found = position-Some (λ c. eqb c 10) text end 0 is in
    let long = length-take-le end text (omega (arith, found.0)) in
    let size : p + (length (take end text) + 1) ≡ p + (length text - length (drop (end + 1) text)) = omega (arith, found.0, length-drop (end + 1) text) in
    let next : suc end ≡ end + 1 = omega arith in
    ap (placed n p) (first_cut end text found.0 (λ k h. eqb-false (get_or text k 0) 10 (found.2 k h)) (eqb-true (get_or text end 0) 10 found.1)) ∙ rw (next, size)

none_feeds : (text : List ℕ) → position (λ c. eqb c 10) text ≡ None → length text ≤ position_or_len (λ c. eqb c 10) text
none_feeds text is = ⊎_elim (λ lt. let some : position (λ c. eqb c 10) text ≡ Some (position_or_len (λ c. eqb c 10) text) = rw (lt-ltb (position_or_len (λ c. eqb c 10) text) (length text) lt) in cc) (λ le. le) (cases_lt (position_or_len (λ c. eqb c 10) text) (length text))

-- a last line without an end
pub line_last : (text : List ℕ) (n p : ℕ) → 0 < length text → position (λ c. eqb c 10) text ≡ None → placed n p (stretches text) ≡ line_at n p text ∷ placed (n + 1) (p + (length text - 0)) (stretches [])
unfolding placed stretches
line_last text n p some is =
    let all = none_feeds text is in
    ap (placed n p) (first_last text some (λ k h. eqb-false (get_or text k 0) 10 (fails_before_first (λ c. eqb c 10) text k 0 (omega arith))))
