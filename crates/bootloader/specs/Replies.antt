-- Status replies. Assumes nothing.
use Rattle.std.specs.Prelude.{ℕ, ◌-◌, Bool, cond, ◌&&◌, List, [], ◌∷◌, length, ◌==◌, nat_le, slice_index}
use Rattle.bootloader.specs.declared.status.Reply.{Reply}
use Rattle.bootloader.specs.declared.status.Reply.TheVariants.{Ready, Refused, Busy, Spoiled}

-- the reply that shows a status
abbrev pub status_reply : ℕ → List ℕ
status_reply status = status ∷ 0 ∷ (255 - status) ∷ []

-- three bytes: a status, 0, and 255 less the status
abbrev pub shaped : List ℕ → Bool
shaped bytes = length bytes == 3 && slice_index bytes 1 == 0 && slice_index bytes 2 == 255 - slice_index bytes 0

-- 0 is ready, 1 to 15 refused, from 16 on busy
abbrev pub status_of : ℕ → Reply
status_of status = cond (status == 0) Ready (cond (nat_le status 15) (Refused status) (Busy status))

unfoldable pub reply_of : List ℕ → Reply
reply_of bytes = cond (shaped bytes) (status_of (slice_index bytes 0)) Spoiled
