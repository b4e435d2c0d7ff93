-- The byte that a text names at an address, and the bytes that its frames write. Assumes nothing.
use Rattle.std.specs.Prelude.{◌≡◌, ℕ, ◌+◌, ◌*◌, ◌/◌, ◌<◌, ◌≤◌, true, false, cond, List, [], ◌∷◌, ◌++◌, length, Some, None, fold, Option, ◌==◌, slice_index}
use Rattle.std.specs.List.{flat_map, AllByRecursion}
use Rattle.hexline.specs.Digits.{pair_value}
use Rattle.ihex.specs.Reads.{accepted}
use Rattle.ihex.specs.Named.{DataIs, bytes_in, data_lines, named, reaches}
use Rattle.ihex.specs.Frames.{FrameIs, frames_of}

-- a line names an address: it lies from the line's address on, below the end of its digit pairs
abbrev pub Names : DataIs → ℕ → Type 0
Names d a = (d.address ≤ a) × (a < d.address + length d.digits / 2)

-- the last line that names an address, and the digit pair that stands for the byte there
pub record Holds (text : List ℕ) (a b : ℕ) : Type 0 where
  pub before : List DataIs
  pub line : DataIs
  pub after : List DataIs
  pub place : data_lines text ≡ before ++ (line ∷ after)
  pub pair : ℕ
  pub within : pair < length line.digits / 2
  pub address : a ≡ line.address + pair
  pub byte : b ≡ pair_value (slice_index line.digits (2 * pair)) (slice_index line.digits (2 * pair + 1))
  pub last : AllByRecursion (λ d. Names d a → ⊥) after

-- the byte named is that of the last line that names the address, and none is named where no line does
pub record ByLast (text : List ℕ) : Type 0 where
  pub holds : (a b : ℕ) → named text a ≡ Some b → Holds text a b
  pub held : (a b : ℕ) → Holds text a b → named text a ≡ Some b
  pub free : (a : ℕ) → named text a ≡ None → AllByRecursion (λ d. Names d a → ⊥) (data_lines text)
  pub freed : (a : ℕ) → AllByRecursion (λ d. Names d a → ⊥) (data_lines text) → named text a ≡ None

-- of an accepted text, no two lines name one address
abbrev pub AtMostOnce : List ℕ → Type 0
AtMostOnce text = accepted text ≡ true → (before middle after : List DataIs) (d e : DataIs) → data_lines text ≡ before ++ (d ∷ (middle ++ (e ∷ after))) → (a : ℕ) → Names d a → Names e a → ⊥

-- a text reaches a window's end exactly if it names a byte there or above
pub record ReachesSo (text : List ℕ) : Type 0 where
  pub some : (w : ℕ) → reaches w text ≡ true → (a : ℕ) × (b : ℕ) × (w ≤ a) × (named text a ≡ Some b)
  pub none : (w : ℕ) → reaches w text ≡ false → (a : ℕ) → w ≤ a → named text a ≡ None

-- a byte put at an address
pub record Write : Type 0 where
  pub address : ℕ
  pub byte : ℕ

-- bytes put one after the other
unfoldable pub writes_from : ℕ → List ℕ → List Write
writes_from start [] = []
writes_from start (b ∷ bytes) = record { address = start; byte = b } ∷ writes_from (start + 1) bytes

abbrev pub line_writes : DataIs → List Write
line_writes d = writes_from d.address (bytes_in d)

abbrev pub frame_writes : FrameIs → List Write
frame_writes f = writes_from f.start f.bytes

-- what stands at an address after writes
abbrev pub put_next : ℕ → Option ℕ → Write → Option ℕ
put_next a o w = cond (w.address == a) (Some w.byte) o

abbrev pub last_put : ℕ → List Write → Option ℕ
last_put a ws = fold (put_next a) None ws

-- the frames write what the lines say, in the same order, and so exactly the named bytes
pub record FramesWrite (text : List ℕ) : Type 0 where
  pub order : flat_map frame_writes (frames_of text) ≡ flat_map line_writes (data_lines text)
  pub bytes : (a : ℕ) → last_put a (flat_map frame_writes (frames_of text)) ≡ named text a
