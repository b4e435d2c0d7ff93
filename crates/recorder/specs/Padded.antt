-- Bytes in a buffer of a link's most bytes, with zeros after them. Assumes nothing.
use Rattle.std.specs.Prelude.{◌≡◌, ℕ, ◌++◌, ◌-◌, ◌≤◌, List, length, take, replicate}
use Rattle.std.proofs.Common.{sym, ap, ◌∙◌}
use Rattle.recorder.specs.declared.bytes.Bytes.TheInside.{Inside}

abbrev pub padded : List ℕ → Inside
padded bytes = record { all = bytes ++ replicate (131 - length bytes) 0; len = length bytes }

pub record IsPadded (b : Inside) : Type 0 where
  pub fits : b.len ≤ 131
  pub front : length (take b.len b.all) ≡ b.len
  pub zeros : b.all ≡ take b.len b.all ++ replicate (131 - b.len) 0

-- the bytes give the buffer back
pub padded_back : (b : Inside) → IsPadded b → padded (take b.len b.all) ≡ b
padded_back b h =
    let bytes = take b.len b.all in
    let all : bytes ++ replicate (131 - length bytes) 0 ≡ b.all = ap (λ n. bytes ++ replicate (131 - n) 0) h.front ∙ sym h.zeros in
    let filled : padded bytes ≡ record { all = b.all; len = length bytes } = ap (λ (xs : List ℕ). record { all = xs; len = length bytes }) all in
    filled ∙ ap (λ (n : ℕ). record { all = b.all; len = n }) h.front
