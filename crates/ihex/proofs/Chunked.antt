-- Bytes cut into chunks of 128. Assumes nothing.
use Rattle.std.proofs.Common.{◌≡◌, ℕ, suc, ◌+◌, ◌/◌, ◌<◌, ◌≤◌, min, List, [], ◌∷◌, ◌++◌, length, take, drop, sym, refl, ap, ◌∙◌, ⊎_elim, arith}
use Rattle.std.proofs.lemmas.List.{length-drop, length-take-le, take_at, take_all, drop_all}
use Rattle.std.proofs.lemmas.Bool.{cases_lt}
use Rattle.std.specs.List.{flat_map}
use Rattle.hexline.specs.Digits.{pairs}
use Rattle.ihex.specs.Named.{DataIs}
use Rattle.ihex.specs.Frames.{FrameIs, chunks, chunks_of, line_chunks, numbered}
use Rattle.hexline.proofs.Pairs.{length_pairs, pairs_none, pairs_take, pairs_drop}

pub chunks_none : (start ln : ℕ) (bytes : List ℕ) → length bytes ≡ 0 → chunks_of start bytes ln ≡ []
unfolding chunks
chunks_none start ln bytes e = ap (λ n. chunks ((n + 127) / 128) start bytes ln) e

pub chunks_first : (start ln : ℕ) (bytes : List ℕ) → 0 < length bytes → chunks_of start bytes ln ≡ record { start = start; bytes = take 128 bytes; line = ln } ∷ chunks_of (start + 128) (drop 128 bytes) ln
unfolding chunks
chunks_first start ln bytes some =
    let long = length-drop 128 bytes in
    let e : (length bytes + 127) / 128 ≡ suc ((length (drop 128 bytes) + 127) / 128) = omega arith in
    ap (λ n. chunks n start bytes ln) e

-- where nothing is left, the start does not matter
pub chunks_start : (start next ln : ℕ) (bytes : List ℕ) → (0 < length bytes → start ≡ next) → chunks_of start bytes ln ≡ chunks_of next bytes ln
chunks_start start next ln bytes same =
    ⊎_elim (λ some. ap (λ s. chunks_of s bytes ln) (same some)) (λ none. chunks_none start ln bytes (omega arith) ∙ sym (chunks_none next ln bytes (omega arith))) (cases_lt 0 (length bytes))

cut_front : (xs : List ℕ) (size : ℕ) → size ≡ min (length xs) 256 → take 256 xs ≡ take size xs
cut_front xs size is =
    ⊎_elim (λ below. take_all 256 xs (omega arith) ∙ sym (take_all size xs (omega arith))) (λ above. let e : 256 ≡ size = omega arith in ap (λ n. take n xs) e) (cases_lt (length xs) 256)

cut_back : (xs : List ℕ) (size : ℕ) → size ≡ min (length xs) 256 → drop 256 xs ≡ drop size xs
cut_back xs size is =
    ⊎_elim (λ below. drop_all 256 xs (omega arith) ∙ sym (drop_all size xs (omega arith))) (λ above. let e : 256 ≡ size = omega arith in ap (λ n. drop n xs) e) (cases_lt (length xs) 256)

module _ (start ln count : ℕ) (digits : List ℕ) (ds : List DataIs) where
  abbrev left : List FrameIs
  left = numbered count (chunks_of start (pairs digits) ln ++ flat_map line_chunks ds)

  -- nothing left of the line at hand
  pub line_over : length digits < 2 → left ≡ numbered count (flat_map line_chunks ds)
  line_over short = ap (λ cs. numbered count (cs ++ flat_map line_chunks ds)) (chunks_none start ln (pairs digits) (omega (arith, ap length (pairs_none digits short))))

  -- a frame more
  pub frame_cut : (size len : ℕ) → 2 ≤ length digits → size ≡ min (length digits) 256 → len ≡ size / 2 → left ≡ record { start = start; bytes = pairs (take size digits); line = ln; number = count } ∷ numbered (count + 1) (chunks_of (start + len) (pairs (drop size digits)) ln ++ flat_map line_chunks ds)
  unfolding numbered
  frame_cut size len some is half =
      let long = length_pairs digits in
      let front : take 128 (pairs digits) ≡ pairs (take size digits) = sym (pairs_take 128 digits) ∙ ap pairs (cut_front digits size is) in
      let back : drop 128 (pairs digits) ≡ pairs (drop size digits) = sym (pairs_drop 128 digits) ∙ ap pairs (cut_back digits size is) in
      let rest = length_pairs (drop size digits) in
      let cut = length-drop size digits in
      ap (λ cs. numbered count (cs ++ flat_map line_chunks ds)) (chunks_first start ln (pairs digits) (omega arith))
      ∙ rw (front, back)
      (ap (λ cs. record { start = start; bytes = pairs (take size digits); line = ln; number = count } ∷ numbered (count + 1) (cs ++ flat_map line_chunks ds)) (chunks_start (start + 128) (start + len) ln (pairs (drop size digits)) (λ more. omega arith)))

  -- the same as the walk has it: a part decoded into a row, and the rest
  pub frame_next : (size len : ℕ) (row part tail rest : List ℕ) → 2 ≤ length digits → size ≡ min (length digits) 256 → part ≡ take size digits → len ≡ min (length part / 2) 128 → row ≡ take len (pairs part) ++ tail → rest ≡ drop size digits → left ≡ record { start = start; bytes = take len row; line = ln; number = count } ∷ numbered (count + 1) (chunks_of (start + len) (pairs rest) ln ++ flat_map line_chunks ds)
  frame_next size len row part tail rest some is front half fills back =
      let long = length_pairs part in
      let size_is : length part ≡ size = ap length front ∙ length-take-le size digits (omega arith) in
      let bytes : take len row ≡ pairs (take size digits) = ap (take len) fills ∙ take_at (take len (pairs part)) tail len (length-take-le len (pairs part) (omega arith)) ∙ take_all len (pairs part) (omega arith) ∙ ap pairs front in
      frame_cut size len some is (omega arith)
      ∙ ap (λ bs. record { start = start; bytes = bs; line = ln; number = count } ∷ numbered (count + 1) (chunks_of (start + len) (pairs (drop size digits)) ln ++ flat_map line_chunks ds)) (sym bytes)
      ∙ ap (λ ds'. record { start = start; bytes = take len row; line = ln; number = count } ∷ numbered (count + 1) (chunks_of (start + len) (pairs ds') ln ++ flat_map line_chunks ds)) (sym back)

pub numbered_none : (n : ℕ) → numbered n [] ≡ []
unfolding numbered
numbered_none n = refl
