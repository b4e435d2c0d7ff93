-- Where the frames of a text go, and how long they are. Assumes nothing.
use Rattle.std.proofs.Common.{◌≡◌, ℕ, zero, suc, ◌+◌, ◌/◌, ◌<◌, ◌≤◌, true, false, ◌&&◌, ltb, List, [], ◌∷◌, length, drop, fold, sym, refl, ◌∙◌, ⊎_elim, arith}
use Rattle.std.proofs.ByRecursion.{All-append}
use Rattle.std.proofs.lemmas.List.{length-take, length-drop}
use Rattle.std.proofs.lemmas.Bool.{ltb-false, lt-ltb, and_cases, both_ways, true≢false}
use Rattle.std.specs.List.{flat_map, AllByRecursion}
use Rattle.checksum.proofs.Passing.{fold-or}
use Rattle.ihex.specs.Named.{DataIs, bytes_in, data_lines, reaches_next, reaches}
use Rattle.ihex.specs.Frames.{Chunk, FrameIs, chunks, line_chunks, numbered, frames_of}

-- a chunk has 1 to 128 bytes, and ends at or below a bound
abbrev pub ChunkBelow : ℕ → Chunk → Type 0
ChunkBelow bound c = (1 ≤ length c.bytes) × (length c.bytes ≤ 128) × (c.start + length c.bytes ≤ bound)

abbrev pub FrameBelow : ℕ → FrameIs → Type 0
FrameBelow bound f = (1 ≤ length f.bytes) × (length f.bytes ≤ 128) × (f.start + length f.bytes ≤ bound)

chunks_below : (bound n start : ℕ) (bytes : List ℕ) (ln : ℕ) → n ≤ (length bytes + 127) / 128 → (0 < n → start + length bytes ≤ bound) → AllByRecursion (ChunkBelow bound) (chunks n start bytes ln)
unfolding chunks
chunks_below bound zero start bytes ln few end = tt
chunks_below bound (suc n) start bytes ln few end =
    let front = length-take 128 bytes in
    let back = length-drop 128 bytes in
    let whole = end (omega arith) in (
      (omega arith, omega arith, omega arith),
      chunks_below bound n (start + 128) (drop 128 bytes) ln (omega arith) (λ more. omega arith),
    )

numbered_below : (bound n : ℕ) (cs : List Chunk) → AllByRecursion (ChunkBelow bound) cs → AllByRecursion (FrameBelow bound) (numbered n cs)
unfolding numbered
numbered_below bound n [] all = tt
numbered_below bound n (c ∷ cs) all = (all.0, numbered_below bound (n + 1) cs all.1)

-- a line that names a byte ends at or below the bound
LineBelow : ℕ → DataIs → Type 0
LineBelow bound d = 0 < length (bytes_in d) → d.address + length (bytes_in d) ≤ bound

lines_below : (bound : ℕ) (ds : List DataIs) → fold (reaches_next bound) false ds ≡ false → AllByRecursion (LineBelow bound) ds
unfolding LineBelow
lines_below bound [] not = tt
lines_below bound (d ∷ ds) not =
    let next = ltb 0 (length (bytes_in d)) && ltb bound (d.address + length (bytes_in d)) in
    elim next as (λ b. next ≡ b → fold (reaches_next bound) b ds ≡ false → AllByRecursion (LineBelow bound) (d ∷ ds)) [
      | true ↦ (λ _ r. absurd (true≢false (sym (fold-or (reaches_next bound false) true ds) ∙ r)))
      | false ↦ (λ e r. (
        (λ some. ⊎_elim (λ none. absurd (both_ways (ltb 0 (length (bytes_in d))) none (lt-ltb 0 (length (bytes_in d)) some))) (λ below. ltb-false bound (d.address + length (bytes_in d)) below) (and_cases (ltb 0 (length (bytes_in d))) (ltb bound (d.address + length (bytes_in d))) e)),
        lines_below bound ds r,
      ))
    ] refl not

joined_below : (bound : ℕ) (ds : List DataIs) → AllByRecursion (LineBelow bound) ds → AllByRecursion (ChunkBelow bound) (flat_map line_chunks ds)
unfolding LineBelow
joined_below bound [] all = tt
joined_below bound (d ∷ ds) all =
    All-append (ChunkBelow bound) (line_chunks d) (flat_map line_chunks ds) (chunks_below bound ((length (bytes_in d) + 127) / 128) d.address (bytes_in d) d.line (omega arith) (λ some. all.0 (omega arith))) (joined_below bound ds all.1)

-- where no byte is named from the window's end on, no frame goes there
pub frames_below : (window : ℕ) (text : List ℕ) → reaches window text ≡ false → AllByRecursion (FrameBelow window) (frames_of text)
frames_below window text not = numbered_below window 0 (flat_map line_chunks (data_lines text)) (joined_below window (data_lines text) (lines_below window (data_lines text) not))
