-- The lines of a text. Assumes nothing.
use Rattle.std.specs.Prelude.{ℕ, ◌+◌, ◌-◌, Bool, true, false, cond, ◌&&◌, List, [], ◌∷◌, length, take, ◌==◌, slice_index}

-- a stretch of the text up to an LF (10) or the text's end, and whether an LF ends it
pub record Stretch : Type 0 where
  pub chars : List ℕ
  pub feed : Bool

-- a byte at the front of the first stretch
abbrev pub on_first : ℕ → List Stretch → List Stretch
on_first c [] = record { chars = c ∷ []; feed = false } ∷ []
on_first c (s ∷ ss) = record { chars = c ∷ s.chars; feed = s.feed } ∷ ss

unfoldable pub stretches : List ℕ → List Stretch
stretches [] = []
stretches (c ∷ cs) = cond (c == 10) (record { chars = []; feed = true } ∷ stretches cs) (on_first c (stretches cs))

-- how many bytes of the text a stretch takes up, its LF with them
abbrev pub size_of : Stretch → ℕ
size_of s = cond s.feed (length s.chars + 1) (length s.chars)

-- without one CR (13) directly before the LF; a CR anywhere else is an ordinary character
abbrev pub trimmed : Stretch → List ℕ
trimmed s = cond (s.feed && slice_index s.chars (length s.chars - 1) == 13) (take (length s.chars - 1) s.chars) s.chars

-- a line: its number from 1, the place of its first byte in the text, and its characters without its end
pub record TextLine : Type 0 where
  pub number : ℕ
  pub place : ℕ
  pub chars : List ℕ

unfoldable pub placed : ℕ → ℕ → List Stretch → List TextLine
placed n p [] = []
placed n p (s ∷ ss) = record { number = n; place = p; chars = trimmed s } ∷ placed (n + 1) (p + size_of s) ss

abbrev pub lines_of : List ℕ → List TextLine
lines_of text = placed 1 0 (stretches text)
