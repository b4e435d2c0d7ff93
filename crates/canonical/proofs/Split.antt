-- The lines of a text that is made of canonical lines. Assumes nothing.
use Rattle.std.proofs.Common.{◌≡◌, ℕ, suc, ◌+◌, ◌-◌, ◌<◌, ◌≤◌, true, List, [], ◌∷◌, ◌++◌, length, get_or, refl, ap, ◌∙◌, arith}
use Rattle.std.proofs.ByRecursion.{All-get_or}
use Rattle.std.proofs.lemmas.List.{append_assoc, length-append, length_push, get_or_append_left, get_or_at, take_at, drop_at}
use Rattle.std.proofs.lemmas.Bool.{ne_eqb}
use Rattle.std.specs.List.{AllByRecursion}
use Rattle.ihex.specs.Texts.{TextLine, stretches, trimmed, placed, lines_of}
use Rattle.ihex.proofs.Cuts.{stretch, line_at, no_lines, first_cut}
use Rattle.canonical.specs.Canonical.{CanonicalLine, line_chars, line_text, lines_text}
use Rattle.canonical.proofs.OneLine.{chars_high, chars_some}

-- the lines, numbered, each at its place
unfoldable pub placed_lines : ℕ → ℕ → List CanonicalLine → List TextLine
placed_lines n p [] = []
placed_lines n p (l ∷ ls) = line_at n p (line_chars l) ∷ placed_lines (n + 1) (p + length (line_text l)) ls

-- characters at or above '0', with an LF after them, are a stretch
module _ (cs rest : List ℕ) (high : AllByRecursion (λ c. 48 ≤ c) cs) where
  stretch_first : stretches ((cs ++ (10 ∷ [])) ++ rest) ≡ stretch cs true ∷ stretches rest
  stretch_first =
      rw (append_assoc cs (10 ∷ []) rest)
      (first_cut (length cs) (cs ++ (10 ∷ rest)) (omega (arith, length-append cs (10 ∷ rest))) (λ k lt feed. omega (arith, All-get_or (λ c. 48 ≤ c) cs k 0 lt high, get_or_append_left cs (10 ∷ rest) 0 k lt)) (get_or_at cs 10 rest 0 (length cs) refl)
      ∙ rw (take_at cs (10 ∷ rest) (length cs) refl, ← append_assoc cs (10 ∷ []) rest, drop_at (cs ++ (10 ∷ [])) rest (suc (length cs)) (omega (arith, length_push cs 10))))

  -- with no CR to take off
  trimmed_first : 0 < length cs → trimmed (stretch cs true) ≡ cs
  trimmed_first some = rw (ne_eqb (get_or cs (length cs - 1) 0) 13 (λ e. omega (arith, All-get_or (λ c. 48 ≤ c) cs (length cs - 1) 0 (omega arith) high)))

pub placed_lines_lem : (n p : ℕ) (ls : List CanonicalLine) → placed n p (stretches (lines_text ls)) ≡ placed_lines n p ls
unfolding placed placed_lines
placed_lines_lem n p [] = no_lines n p [] refl
placed_lines_lem n p (l ∷ ls) =
    let size : p + (length (line_chars l) + 1) ≡ p + length (line_text l) = omega (arith, length_push (line_chars l) 10) in
    ap (placed n p) (stretch_first (line_chars l) (lines_text ls) (chars_high l))
    ∙ rw (trimmed_first (line_chars l) (lines_text ls) (chars_high l) (chars_some l), size, placed_lines_lem (n + 1) (p + length (line_text l)) ls)

-- a text of canonical lines has those lines, numbered from 1
pub lines_back : (ls : List CanonicalLine) → lines_of (lines_text ls) ≡ placed_lines 1 0 ls
lines_back ls = placed_lines_lem 1 0 ls
