-- How many data frames a line makes. Assumes nothing.
use Rattle.std.proofs.Common.{◌≡◌, ℕ, zero, suc, ◌+◌, ◌/◌, List, length, drop, refl, ap, ◌∙◌}
use Rattle.ihex.specs.Named.{DataIs, bytes_in}
use Rattle.ihex.specs.Frames.{chunks, line_chunks}

chunk_count : (n start : ℕ) (bytes : List ℕ) (ln : ℕ) → length (chunks n start bytes ln) ≡ n
unfolding chunks
chunk_count zero start bytes ln = refl
chunk_count (suc n) start bytes ln = ap suc (chunk_count n (start + 128) (drop 128 bytes) ln)

pub frame_count : (bytes frames : ℕ) → (bytes + 127) / 128 ≡ frames → (d : DataIs) → length (bytes_in d) ≡ bytes → length (line_chunks d) ≡ frames
frame_count bytes frames e d long =
    chunk_count ((length (bytes_in d) + 127) / 128) d.address (bytes_in d) d.line ∙ (ap (λ n. (n + 127) / 128) long ∙ e)
