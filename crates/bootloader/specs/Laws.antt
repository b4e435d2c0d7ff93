-- What frames and replies are good for. Assumes nothing.
use Rattle.std.specs.Prelude.{◌≡◌, ℕ, ◌<◌, true, false, List, length, take, IfOk, Ok, Result, ◌≢◌, slice_index, slice_set}
use Rattle.bootloader.specs.declared.fault.FrameFault.{FrameFault}
use Rattle.bootloader.specs.declared.status.Reply.TheVariants.{Spoiled}
use Rattle.bootloader.specs.Commands.{CommandIs}
use Rattle.bootloader.specs.Frames.{decode_of, well_formed}
use Rattle.bootloader.specs.Replies.{reply_of}

-- what was written for a command reads back as that command
abbrev pub ReadsBack : CommandIs → Result ℕ FrameFault → List ℕ → Type 0
ReadsBack command written buf = IfOk written (λ n. decode_of (take n buf) ≡ Ok command)

-- a frame with exactly one byte changed is no frame
abbrev pub NoticesChange : List ℕ → Type 0
NoticesChange frame = well_formed frame ≡ true → (i b : ℕ) → i < length frame → b < 256 → (b ≢ slice_index frame i) → well_formed (slice_set frame i b) ≡ false

-- a frame that is cut short is no frame
abbrev pub NoticesCut : List ℕ → Type 0
NoticesCut frame = well_formed frame ≡ true → (k : ℕ) → k < length frame → well_formed (take k frame) ≡ false

-- a status reply with exactly one byte changed is spoiled
abbrev pub NoticesSpoiling : List ℕ → Type 0
NoticesSpoiling bytes = (reply_of bytes ≢ Spoiled) → (i b : ℕ) → i < length bytes → b < 256 → (b ≢ slice_index bytes i) → reply_of (slice_set bytes i b) ≡ Spoiled
