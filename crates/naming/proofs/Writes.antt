-- What frames write. Assumes nothing.
use Rattle.std.proofs.Common.{◌≡◌, ℕ, zero, suc, ◌+◌, ◌-◌, ◌/◌, cond, ltb, leb, List, [], ◌∷◌, ◌++◌, length, get_or, take, drop, Some, None, fold, Option, sym, refl, ap, ◌∙◌, ⊎_elim, arith}
use Rattle.std.proofs.lemmas.List.{length-take, length-drop, take-append-drop, drop_all, nil_from_length}
use Rattle.std.proofs.lemmas.Bool.{eq-eqb, ne_eqb, le-leb, lt-leb, lt-ltb, le-ltb, and_from, and_left, and_right, cases_lt, cases_eq}
use Rattle.std.specs.List.{flat_map}
use Rattle.std.proofs.lemmas.List.Sums.{fold-append}
use Rattle.std.proofs.lemmas.Grind.{flat_map-append}
use Rattle.ihex.specs.Named.{DataIs, bytes_in, data_lines, byte_at, held, named_next}
use Rattle.ihex.specs.Frames.{Chunk, chunks, line_chunks, numbered}
use Rattle.naming.specs.Bytes.{Write, writes_from, line_writes, frame_writes, put_next, last_put, FramesWrite}

writes_append : (start : ℕ) (xs ys : List ℕ) → writes_from start (xs ++ ys) ≡ writes_from start xs ++ writes_from (start + length xs) ys
unfolding writes_from
writes_append start [] ys = let e : start ≡ start + 0 = omega arith in ap (λ s. writes_from s ys) e
writes_append start (x ∷ xs) ys =
    let e : start + 1 + length xs ≡ start + suc (length xs) = omega arith in
    ap (λ ws. record { address = start; byte = x } ∷ ws) (writes_append (start + 1) xs ys ∙ ap (λ s. writes_from (start + 1) xs ++ writes_from s ys) e)

chunk_writes : Chunk → List Write
chunk_writes c = writes_from c.start c.bytes

-- chunks write the bytes that they were cut from
chunks_write : (n start : ℕ) (bytes : List ℕ) (ln : ℕ) → n ≡ (length bytes + 127) / 128 → flat_map chunk_writes (chunks n start bytes ln) ≡ writes_from start bytes
unfolding chunks chunk_writes writes_from
chunks_write zero start bytes ln few = ap (writes_from start) (sym (nil_from_length bytes (omega arith)))
chunks_write (suc n) start bytes ln few =
    let front = length-take 128 bytes in
    let back = length-drop 128 bytes in
    ap (λ ws. writes_from start (take 128 bytes) ++ ws) (chunks_write n (start + 128) (drop 128 bytes) ln (omega arith) ∙ rest)
    ∙ sym (writes_append start (take 128 bytes) (drop 128 bytes))
    ∙ ap (writes_from start) (take-append-drop 128 bytes)
  where
    rest : writes_from (start + 128) (drop 128 bytes) ≡ writes_from (start + length (take 128 bytes)) (drop 128 bytes)
    rest =
        ⊎_elim
        (λ short. ap (writes_from (start + 128)) (drop_all 128 bytes (omega arith)) ∙ sym (ap (writes_from (start + length (take 128 bytes))) (drop_all 128 bytes (omega arith))))
        (λ long. let e : start + 128 ≡ start + length (take 128 bytes) = omega (arith, length-take 128 bytes) in ap (λ s. writes_from s (drop 128 bytes)) e)
        (cases_lt (length bytes) 128)

line_writes_lem : (d : DataIs) → flat_map chunk_writes (line_chunks d) ≡ line_writes d
line_writes_lem d = chunks_write ((length (bytes_in d) + 127) / 128) d.address (bytes_in d) d.line refl

lines_write : (ds : List DataIs) → flat_map chunk_writes (flat_map line_chunks ds) ≡ flat_map line_writes ds
lines_write [] = refl
lines_write (d ∷ ds) = flat_map-append chunk_writes (line_chunks d) (flat_map line_chunks ds) ∙ ap (λ ws. ws ++ flat_map chunk_writes (flat_map line_chunks ds)) (line_writes_lem d) ∙ ap (λ ws. line_writes d ++ ws) (lines_write ds)

numbers_write : (n : ℕ) (cs : List Chunk) → flat_map frame_writes (numbered n cs) ≡ flat_map chunk_writes cs
unfolding numbered chunk_writes
numbers_write n [] = refl
numbers_write n (c ∷ cs) = ap (λ ws. writes_from c.start c.bytes ++ ws) (numbers_write (n + 1) cs)

-- one byte, and those after it
byte_step : (start a b : ℕ) (bytes : List ℕ) (o : Option ℕ) → held (put_next a o (record { address = start; byte = b })) (byte_at (start + 1) bytes a) ≡ held o (byte_at start (b ∷ bytes) a)
byte_step start a b bytes o =
    ⊎_elim
    (λ below.
    ap (λ t. held (cond t (Some b) o) (byte_at (start + 1) bytes a)) (ne_eqb start a (λ e. absurd (omega arith)))
    ∙ ap (λ t. held o (cond t (Some (get_or bytes (a - (start + 1)) 0)) None)) (and_left (leb (start + 1) a) (ltb a (start + 1 + length bytes)) (lt-leb (start + 1) a (omega arith)))
    ∙ sym (ap (λ t. held o (cond t (Some (get_or (b ∷ bytes) (a - start) 0)) None)) (and_left (leb start a) (ltb a (start + suc (length bytes))) (lt-leb start a below))))
    (λ above. ⊎_elim
    (λ here.
    let zero-off : a - start ≡ 0 = omega arith in
    ap (λ t. held (cond t (Some b) o) (byte_at (start + 1) bytes a)) (eq-eqb start a (sym here))
    ∙ ap (λ t. held (Some b) (cond t (Some (get_or bytes (a - (start + 1)) 0)) None)) (and_left (leb (start + 1) a) (ltb a (start + 1 + length bytes)) (lt-leb (start + 1) a (omega arith)))
    ∙ sym (ap (λ t. held o (cond t (Some (get_or (b ∷ bytes) (a - start) 0)) None)) (and_from (leb start a) (ltb a (start + suc (length bytes))) (le-leb start a above) (lt-ltb a (start + suc (length bytes)) (omega arith))) ∙ ap (λ k. Some (get_or (b ∷ bytes) k 0)) zero-off))
    (λ later.
    let next : a - start ≡ suc (a - (start + 1)) = omega arith in
    ap (λ t. held (cond t (Some b) o) (byte_at (start + 1) bytes a)) (ne_eqb start a (λ e. later (sym e)))
    ∙ ⊎_elim
    (λ within.
    ap (λ t. held o (cond t (Some (get_or bytes (a - (start + 1)) 0)) None)) (and_from (leb (start + 1) a) (ltb a (start + 1 + length bytes)) (le-leb (start + 1) a (omega arith)) (lt-ltb a (start + 1 + length bytes) within))
    ∙ sym (ap (λ t. held o (cond t (Some (get_or (b ∷ bytes) (a - start) 0)) None)) (and_from (leb start a) (ltb a (start + suc (length bytes))) (le-leb start a above) (lt-ltb a (start + suc (length bytes)) (omega arith))) ∙ ap (λ k. Some (get_or (b ∷ bytes) k 0)) next))
    (λ past.
    ap (λ t. held o (cond t (Some (get_or bytes (a - (start + 1)) 0)) None)) (and_right (leb (start + 1) a) (ltb a (start + 1 + length bytes)) (le-ltb a (start + 1 + length bytes) past))
    ∙ sym (ap (λ t. held o (cond t (Some (get_or (b ∷ bytes) (a - start) 0)) None)) (and_right (leb start a) (ltb a (start + suc (length bytes))) (le-ltb a (start + suc (length bytes)) (omega arith)))))
    (cases_lt a (start + 1 + length bytes)))
    (cases_eq a start))
    (cases_lt a start)

byte_nil : (start a : ℕ) (o : Option ℕ) → o ≡ held o (byte_at start [] a)
byte_nil start a o =
    sym (ap (λ t. held o (cond t (Some 0) None)) (⊎_elim (λ below. and_left (leb start a) (ltb a (start + 0)) (lt-leb start a below)) (λ above. and_right (leb start a) (ltb a (start + 0)) (le-ltb a (start + 0) (omega arith))) (cases_lt a start)))

-- what bytes from a start on leave at an address
puts_byte : (a start : ℕ) (bytes : List ℕ) (o : Option ℕ) → fold (put_next a) o (writes_from start bytes) ≡ held o (byte_at start bytes a)
unfolding writes_from
puts_byte a start [] o = byte_nil start a o
puts_byte a start (b ∷ bytes) o = puts_byte a (start + 1) bytes (put_next a o (record { address = start; byte = b })) ∙ byte_step start a b bytes o

puts_lines : (a : ℕ) (ds : List DataIs) (o : Option ℕ) → fold (put_next a) o (flat_map line_writes ds) ≡ fold (named_next a) o ds
puts_lines a [] o = refl
puts_lines a (d ∷ ds) o = fold-append (put_next a) o (line_writes d) (flat_map line_writes ds) ∙ ap (λ p. fold (put_next a) p (flat_map line_writes ds)) (puts_byte a d.address (bytes_in d) o) ∙ puts_lines a ds (named_next a o d)

pub frames_write : (text : List ℕ) → FramesWrite text
frames_write text =
    let order = numbers_write 0 (flat_map line_chunks (data_lines text)) ∙ lines_write (data_lines text) in
    record { order = order; bytes = λ a. ap (last_put a) order ∙ puts_lines a (data_lines text) None }
