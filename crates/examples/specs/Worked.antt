-- Worked examples, which a reader can check by hand, in one list. Assumes nothing.
use Rattle.std.specs.Prelude.{◌≡◌, ℕ, List, [], ◌∷◌, length, codes, MatchResult, OnErr}
use Rattle.hexline.specs.Faults.{number_of, line_in, place_in}
use Rattle.ihex.specs.Named.{DataIs, bytes_in}
use Rattle.ihex.specs.Frames.{line_chunks}
use Rattle.ihex.specs.Reads.{text_of}
use Rattle.bootloader.specs.declared.status.Reply.{Reply}
use Rattle.bootloader.specs.declared.status.Reply.TheVariants.{Ready, Refused, Busy, Spoiled}
use Rattle.bootloader.specs.Frames.{csum_of}
use Rattle.bootloader.specs.Replies.{reply_of}

pub data Example : Type 0 where
  -- after these bytes stands this CSUM
  has_csum : (bytes : List ℕ) (csum : ℕ) → Example
  -- these bytes are this status reply
  is_reply : (bytes : List ℕ) (reply : Reply) → Example
  -- every data line of so many bytes makes so many data frames
  makes_frames : (bytes frames : ℕ) → Example
  -- this text is refused with this number, at this line and place
  is_refused : (text : List ℕ) (number line place : ℕ) → Example
  -- this text is accepted
  is_accepted : (text : List ℕ) → Example

-- what an example claims
abbrev pub Holds : Example → Type 0
Holds (has_csum bytes csum) = csum_of bytes ≡ csum
Holds (is_reply bytes reply) = reply_of bytes ≡ reply
Holds (makes_frames bytes frames) = (d : DataIs) → length (bytes_in d) ≡ bytes → length (line_chunks d) ≡ frames
Holds (is_refused text number line place) = MatchResult (text_of text) (λ _. ⊥) (λ f. (number_of f ≡ number) × (line_in f ≡ line) × (place_in f ≡ place))
Holds (is_accepted text) = OnErr (text_of text) (⊥)

-- One more stands here on a line of its own; `examples_stand` then answers one more.
abbrev pub worked : List Example
worked =
    has_csum (0x43 ∷ 0x02 ∷ 0x10 ∷ 0x1C ∷ []) 0x8E
    ∷ is_reply (0x00 ∷ 0x00 ∷ 0xFF ∷ []) Ready
    ∷ is_reply (0x00 ∷ 0x01 ∷ 0xFF ∷ []) Spoiled
    ∷ is_reply (0x10 ∷ 0x00 ∷ 0xEF ∷ []) (Busy 16)
    ∷ is_reply (0x0F ∷ 0x00 ∷ 0xF0 ∷ []) (Refused 15)
    ∷ makes_frames 128 1
    ∷ makes_frames 129 2
    ∷ is_refused [] 20 1 0
    ∷ is_refused (codes ":00000001FF\n") 22 1 0
    ∷ is_refused (codes ":00000001FF") 22 1 0
    ∷ is_accepted (codes ":020000042000DA\n:0400000001020304F2\n:00000001FF\n")
    ∷ []
