-- A status reply with one byte changed is spoiled. Assumes nothing.
use Rattle.std.proofs.Common.{◌≡◌, ℕ, zero, suc, ◌-◌, ◌<◌, List, [], ◌∷◌, length, get_or, set, arith}
use Rattle.std.proofs.lemmas.Bool.Decides.{nat_tests}
use Rattle.bootloader.specs.declared.status.Reply.TheVariants.{Spoiled}
use Rattle.bootloader.specs.Replies.{status_reply, status_of, reply_of}
use Rattle.bootloader.specs.Laws.{NoticesSpoiling}

-- a status is shown by its reply
pub status_shown_lem : (status : ℕ) → reply_of (status_reply status) ≡ status_of status
unfolding reply_of
status_shown_lem status = grind (arith, nat_tests)

-- what a reply that is not spoiled has passed
pub record Shaped (bytes : List ℕ) : Type 0 where
  pub three : length bytes ≡ 3
  pub zeroed : get_or bytes 1 0 ≡ 0
  pub check : get_or bytes 2 0 ≡ 255 - get_or bytes 0 0

pub not_spoiled : (bytes : List ℕ) → (reply_of bytes ≡ Spoiled → ⊥) → Shaped bytes
unfolding reply_of
not_spoiled bytes h = grind (arith, nat_tests)

-- a second byte other than 0, or a third other than 255 less the first
spoiled_zero : (bytes : List ℕ) → (get_or bytes 1 0 ≡ 0 → ⊥) → reply_of bytes ≡ Spoiled
unfolding reply_of
spoiled_zero bytes h = grind (arith, nat_tests)

spoiled_check : (bytes : List ℕ) → (get_or bytes 2 0 ≡ 255 - get_or bytes 0 0 → ⊥) → reply_of bytes ≡ Spoiled
unfolding reply_of
spoiled_check bytes h = grind (arith, nat_tests)

one_changed : (s z t i b : ℕ) → z ≡ 0 → t ≡ 255 - s → s < 256 → i < 3 → b < 256 → (b ≡ get_or (s ∷ z ∷ t ∷ []) i 0 → ⊥) → reply_of (set (s ∷ z ∷ t ∷ []) i b) ≡ Spoiled
one_changed s z t zero b zeroed check byte inside fits other = spoiled_check (b ∷ z ∷ t ∷ []) (λ e. other (omega arith))
one_changed s z t (suc zero) b zeroed check byte inside fits other = spoiled_zero (s ∷ b ∷ t ∷ []) (λ e. other (omega arith))
one_changed s z t (suc (suc zero)) b zeroed check byte inside fits other = spoiled_check (s ∷ z ∷ b ∷ []) (λ e. other (omega arith))
one_changed s z t (suc (suc (suc i))) b zeroed check byte inside fits other = absurd (omega arith)

shaped_changed : (bytes : List ℕ) → Shaped bytes → get_or bytes 0 0 < 256 → (i b : ℕ) → i < length bytes → b < 256 → (b ≡ get_or bytes i 0 → ⊥) → reply_of (set bytes i b) ≡ Spoiled
shaped_changed (s ∷ z ∷ t ∷ []) shape byte i b inside fits other = one_changed s z t i b shape.zeroed shape.check byte inside fits other
shaped_changed bytes shape byte i b inside fits other = grind arith

pub change_spoils : (bytes : List ℕ) → ((k : ℕ) → get_or bytes k 0 < 256) → NoticesSpoiling bytes
change_spoils bytes below h i b inside fits other = shaped_changed bytes (not_spoiled bytes h) (below 0) i b inside fits other
