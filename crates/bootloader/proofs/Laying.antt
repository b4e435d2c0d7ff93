-- A frame laid into a buffer piece by piece. Assumes nothing.
use Rattle.std.proofs.Common.{◌≡◌, ℕ, suc, ◌+◌, ◌-◌, ◌<◌, ◌≤◌, List, [], ◌∷◌, ◌++◌, length, get_or, take, drop, set, sym, ap, ◌∙◌, arith}
use borrow.Rule.Slice.PartMut.{put_mid}
use Rattle.std.proofs.lemmas.List.{length-append, append_assoc, drop_more, set_at, take_at}
use Rattle.bootloader.specs.Frames.{csum_of, headed, framed}

pub length_framed : (code : ℕ) (payload : List ℕ) → length (framed code payload) ≡ length payload + 3
unfolding framed
length_framed code payload = omega (arith, length-append payload (csum_of (headed code payload) ∷ []))

-- code, SIZE and data bytes, then what the buffer held
abbrev fronted : ℕ → List ℕ → List ℕ → List ℕ → ℕ → List ℕ
fronted code payload part buf end = put_mid 2 (end - 2) (set (set buf 0 code) 1 (length payload)) part

module _ (code : ℕ) (payload part : List ℕ) (end : ℕ) (same : part ≡ payload) (ends : end ≡ length payload + 2) where
  front : (x y : ℕ) (rest : List ℕ) → fronted code payload part (x ∷ y ∷ rest) end ≡ headed code payload ++ drop (length payload) rest
  front x y rest =
      let e : end - 2 ≡ length payload = omega arith in
      rw (same, e)

  closing : (x y : ℕ) (rest : List ℕ) (csum : ℕ) → length payload < length rest → csum ≡ csum_of (take end (fronted code payload part (x ∷ y ∷ rest) end)) → set (fronted code payload part (x ∷ y ∷ rest) end) end csum ≡ framed code payload ++ drop (length payload + 1) rest
  unfolding framed
  closing x y rest csum long is =
      let head = headed code payload in
      let n : length head ≡ end = omega arith in
      let laid = front x y rest in
      let kept : take end (head ++ drop (length payload) rest) ≡ head = take_at head (drop (length payload) rest) end n in
      let spot : drop (length payload) rest ≡ get_or rest (length payload) 0 ∷ drop (length payload + 1) rest = drop_more rest (length payload) 0 long in
      let put = set_at head (get_or rest (length payload) 0) (drop (length payload + 1) rest) csum end n in
      let joined = append_assoc head (csum_of head ∷ []) (drop (length payload + 1) rest) in
      cc

  pub frame_laid : (buf : List ℕ) (csum : ℕ) → length payload + 3 ≤ length buf → csum ≡ csum_of (take end (fronted code payload part buf end)) → set (fronted code payload part buf end) end csum ≡ framed code payload ++ drop (length (framed code payload)) buf
  frame_laid [] csum long is = absurd (omega arith)
  frame_laid (x ∷ []) csum long is = absurd (omega arith)
  frame_laid (x ∷ y ∷ rest) csum long is =
      let e : length (framed code payload) ≡ suc (suc (length payload + 1)) = omega (arith, length_framed code payload) in
      closing x y rest csum (omega arith) is ∙ ap (λ n. framed code payload ++ drop n (x ∷ y ∷ rest)) (sym e)
