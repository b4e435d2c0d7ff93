-- A frame with one byte changed, or cut short, is no frame. Assumes nothing.
use Rattle.std.proofs.Common.{◌≡◌, ℕ, ◌+◌, ◌-◌, ◌%◌, ◌<◌, ◌≤◌, true, false, List, length, get_or, take, drop, set, sum, ap, ⊎_elim, arith}
use Rattle.std.proofs.lemmas.List.{length-set, length-take-le, get_or-take, drop-set-lt}
use Rattle.std.proofs.lemmas.List.Sums.{sum_by-set, sum_by-take-drop}
use Rattle.std.proofs.lemmas.Bool.Decides.{nat_tests}
use Rattle.std.proofs.lemmas.Grind.{common_steps}
use Rattle.std.proofs.lemmas.Bool.{cases_lt}
use Rattle.bootloader.specs.Frames.{csum_of, decode_of, well_formed}
use Rattle.bootloader.specs.Laws.{NoticesChange, NoticesCut}

-- what a well-formed frame has passed
pub record Passed (frame : List ℕ) : Type 0 where
  pub long : 3 ≤ length frame
  pub size : length frame ≡ get_or frame 1 0 + 3
  pub csum : get_or frame (length frame - 1) 0 ≡ csum_of (take (length frame - 1) frame)

pub well_formed_lem : (frame : List ℕ) → well_formed frame ≡ true → Passed frame
unfolding decode_of
well_formed_lem frame h = grind (arith, nat_tests)

too_short : (frame : List ℕ) → length frame < 3 → well_formed frame ≡ false
unfolding decode_of
too_short frame h = grind (arith, nat_tests)

wrong_size : (frame : List ℕ) → (length frame ≡ get_or frame 1 0 + 3 → ⊥) → well_formed frame ≡ false
unfolding decode_of
wrong_size frame h = grind (arith, nat_tests)

wrong_csum : (frame : List ℕ) → (get_or frame (length frame - 1) 0 ≡ csum_of (take (length frame - 1) frame) → ⊥) → well_formed frame ≡ false
unfolding decode_of
wrong_csum frame h = grind (arith, nat_tests)

pub cut_refused : (frame : List ℕ) → NoticesCut frame
cut_refused frame h k short =
    let p = well_formed_lem frame h in
    let n : length (take k frame) ≡ k = length-take-le k frame (omega arith) in
    ⊎_elim
    (λ few. too_short (take k frame) (omega arith))
    (λ (many : 3 ≤ k). wrong_size (take k frame) (λ e. let same = get_or-take k frame 1 0 (omega arith) in omega arith))
    (cases_lt k 3)

-- sums that differ by a byte have another CSUM
differ : (s t a b : ℕ) → a < 256 → b < 256 → (b ≡ a → ⊥) → t + a ≡ s + b → 255 - s % 256 ≡ 255 - t % 256 → ⊥
differ s t a b p q ne e same = omega arith

module _ (frame : List ℕ) (i b : ℕ) (whole : Passed frame) (inside : i < length frame) (fits : b < 256) (other : b ≡ get_or frame i 0 → ⊥) where
  long : length (set frame i b) ≡ length frame
  long = length-set frame i b

  at_size : i ≡ 1 → well_formed (set frame i b) ≡ false
  at_size e = wrong_size (set frame i b) (λ same. other (grind (arith, common_steps)))

  at_csum : i ≡ length frame - 1 → well_formed (set frame i b) ≡ false
  at_csum e =
      let at : length (set frame i b) - 1 ≡ i = omega (arith, long) in
      wrong_csum (set frame i b) (λ same. let was = whole.csum in other (grind (arith, common_steps)))

  at_rest : i < length frame - 1 → get_or frame i 0 < 256 → well_formed (set frame i b) ≡ false
  at_rest below byte =
      let m = length frame - 1 in
      let n : length (set frame i b) - 1 ≡ m = omega (arith, long) in
      let whole_sum = sum_by-set (λ x. x) frame i b 0 inside in
      let parts = sum_by-take-drop (λ x. x) frame m in
      let parts-now = sum_by-take-drop (λ x. x) (set frame i b) m in
      let rest : sum (drop m (set frame i b)) ≡ sum (drop m frame) = ap sum (drop-set-lt m frame i b below) in
      let last : get_or (set frame i b) m 0 ≡ get_or frame m 0 = grind (arith, common_steps) in
      wrong_csum (set frame i b) (λ same. differ (sum (take m frame)) (sum (take m (set frame i b))) (get_or frame i 0) b byte fits other (omega arith) (cc (whole.csum)))

pub change_refused : (frame : List ℕ) → ((k : ℕ) → get_or frame k 0 < 256) → NoticesChange frame
change_refused frame bytes h i b inside fits other =
    let whole = well_formed_lem frame h in
    let small = bytes i in
    grind (arith, at_size frame i b whole inside fits other, at_csum frame i b whole inside fits other, at_rest frame i b whole inside fits other)
