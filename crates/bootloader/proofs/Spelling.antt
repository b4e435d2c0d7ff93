-- A string laid into a buffer byte by byte. Assumes nothing.
use Rattle.std.proofs.Common.{◌≡◌, ℕ, ◌+◌, ◌-◌, ◌*◌, List, [], ◌∷◌, ◌++◌, length, take, drop, sym, refl, ap, ◌∙◌, arith}
use borrow.Rule.Slice.PartMut.{put_mid}
use Rattle.std.specs.List.{flat_map}
use Rattle.std.proofs.lemmas.List.{length-append, append_assoc, take_at, drop_at, drop-drop}
use Rattle.bootloader.specs.Strings.{spelled, strung}

length_spelled : (bytes : List ℕ) → length (flat_map spelled bytes) ≡ 3 * length bytes
length_spelled [] = refl
length_spelled (b ∷ bytes) = omega (arith, length_spelled bytes)

pub length_strung : (start bytes : List ℕ) → length (strung start bytes) ≡ length start + 3 * length bytes + 2
unfolding strung
length_strung start bytes = omega (arith, length-append (start ++ flat_map spelled bytes) (80 ∷ 10 ∷ []), length-append start (flat_map spelled bytes), length_spelled bytes)

-- a write right after a front of m bytes
laid_next : (front buf part : List ℕ) (m k : ℕ) → length front ≡ m → put_mid m k (front ++ drop m buf) part ≡ front ++ part ++ drop (m + k) buf
laid_next front buf part m k long =
    ap (λ xs. xs ++ (part ++ drop k (drop m (front ++ drop m buf)))) (take_at front (drop m buf) m long)
    ∙ ap (λ xs. front ++ (part ++ drop k xs)) (drop_at front (drop m buf) m long)
    ∙ ap (λ xs. front ++ (part ++ xs)) (drop-drop k m buf)
    ∙ sym (append_assoc front part (drop (m + k) buf))

-- what a buffer holds after the first i bytes
abbrev pub so_far : List ℕ → List ℕ → ℕ → List ℕ
so_far buf bytes i = flat_map spelled (take i bytes) ++ drop (3 * i) buf

-- a start, the bytes and an end, one after the other
module _ (start bytes buf part spelt last : List ℕ) (end : ℕ) (begun : part ≡ start) (same : spelt ≡ flat_map spelled bytes) (stop : last ≡ 80 ∷ 10 ∷ []) (place : end ≡ length start + 3 * length bytes) where
  pub string_laid : put_mid end (end + 2 - end) (put_mid (length start) (end - length start) (part ++ drop (length start) buf) spelt) last ≡ strung start bytes ++ drop (length (strung start bytes)) buf
  unfolding strung
  string_laid =
      let m = length start + 3 * length bytes in
      let two : m + 2 - m ≡ 2 = omega arith in
      let many : m - length start ≡ 3 * length bytes = omega arith in
      let front = start ++ flat_map spelled bytes in
      let long : length front ≡ m = omega (arith, length-append start (flat_map spelled bytes), length_spelled bytes) in
      rw (begun, same, stop, place, two, many)
      (ap (λ xs. put_mid m 2 xs (80 ∷ 10 ∷ [])) (laid_next start buf (flat_map spelled bytes) (length start) (3 * length bytes) refl)
      ∙ laid_next front buf (80 ∷ 10 ∷ []) m 2 long
      ∙ ap (λ n. strung start bytes ++ drop n buf) (sym (length_strung start bytes)))
