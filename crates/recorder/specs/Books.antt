-- The exchanges kept so far. Assumes nothing.
use Rattle.std.specs.Prelude.{◌≡◌, ℕ, ◌≤◌, Bool, true, false, cond, List, [], ◌∷◌, ◌++◌, length, nat_lt}
use Rattle.recorder.specs.Kept.{Kept}

pub record Book : Type 0 where
  pub log : List Kept
  -- how many there is room for
  pub room : ℕ
  -- one was not kept for want of room
  pub short : Bool

-- one more: at the end, where there is room
abbrev pub noted : Kept → Book → Book
noted k b =
    cond (nat_lt (length b.log) b.room)
    (record { log = b.log ++ k ∷ []; room = b.room; short = b.short })
    (record { log = b.log; room = b.room; short = true })

-- nothing noted yet, and room for so many or more
pub record Blank (room : ℕ) (b : Book) : Type 0 where
  pub none : b.log ≡ []
  pub holds : room ≤ b.room
  pub whole : b.short ≡ false
