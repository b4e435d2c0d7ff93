-- The lines of a text that is written line by line. Assumes nothing.
use Rattle.std.proofs.Common.{◌≡◌, ℕ, ◌+◌, ◌-◌, ◌<◌, true, false, cond, eqb, List, [], ◌∷◌, ◌++◌, map, length, get_or, sym, refl, ap, ◌∙◌, arith}
use Rattle.std.proofs.lemmas.List.{append_assoc, length_push, get_or_push, take_at}
use Rattle.std.proofs.lemmas.Bool.{eq-eqb, ne_eqb}
use Rattle.std.proofs.ByRecursion.{All-push}
use Rattle.std.specs.List.{flat_map, AllByRecursion}
use Rattle.ihex.specs.Texts.{Stretch, TextLine, on_first, stretches, trimmed, size_of, placed}
use Rattle.ihex.proofs.Cuts.{stretch}
use Rattle.rewriting.specs.Ended.{EndedLine, ended, written, chars_of, Unended}

abbrev pub chars_in : List TextLine → List (List ℕ)
chars_in ls = map (λ l. l.chars) ls

-- numbers and places aside, the lines are the trimmed stretches
pub placed_chars : (n p : ℕ) (ss : List Stretch) → chars_in (placed n p ss) ≡ map trimmed ss
unfolding placed
placed_chars n p [] = refl
placed_chars n p (s ∷ ss) = ap (λ css. trimmed s ∷ css) (placed_chars (n + 1) (p + size_of s) ss)

-- what stands up to an LF is cut in the same way whatever stands after it
pub cut_after : (xs : List ℕ) → (s : Stretch) × (ss : List Stretch) × ((ys : List ℕ) → stretches (xs ++ (10 ∷ ys)) ≡ s ∷ (ss ++ stretches ys))
unfolding stretches
cut_after [] = (stretch [] true, [], λ ys. refl)
cut_after (x ∷ xs) =
    let more = cut_after xs in
    elim (eqb x 10) as (λ b. (s : Stretch) × (ss : List Stretch) × ((ys : List ℕ) → cond b (stretch [] true ∷ stretches (xs ++ (10 ∷ ys))) (on_first x (stretches (xs ++ (10 ∷ ys)))) ≡ s ∷ (ss ++ stretches ys))) [
      | true ↦ (stretch [] true, more.0 ∷ more.1, λ ys. ap (λ ss. stretch [] true ∷ ss) (more.2 ys))
      | false ↦ (stretch (x ∷ more.0.chars) more.0.feed, more.1, λ ys. ap (on_first x) (more.2 ys))
    ]

-- what stands before a line's LF
abbrev pub body : EndedLine → List ℕ
body l = cond l.cr (l.chars ++ (13 ∷ [])) l.chars

pub ended_body : (l : EndedLine) (ys : List ℕ) → ended l ++ ys ≡ body l ++ (10 ∷ ys)
ended_body l ys =
    elim l.cr as (λ b. l.chars ++ cond b (13 ∷ (10 ∷ [])) (10 ∷ []) ++ ys ≡ cond b (l.chars ++ (13 ∷ [])) l.chars ++ (10 ∷ ys)) [
      | true ↦ append_assoc l.chars (13 ∷ (10 ∷ [])) ys ∙ sym (append_assoc l.chars (13 ∷ []) (10 ∷ ys))
      | false ↦ append_assoc l.chars (10 ∷ []) ys
    ]

-- the stretches of ended lines, whatever stands after them
pub cut_lines : (ls : List EndedLine) → (ss : List Stretch) × ((ys : List ℕ) → stretches (written ls ys) ≡ ss ++ stretches ys)
cut_lines [] = ([], λ ys. refl)
cut_lines (l ∷ ls) =
    let first = cut_after (body l) in
    let more = cut_lines ls in
    (first.0 ∷ (first.1 ++ more.0), λ ys. ap stretches (append_assoc (ended l) (flat_map ended ls) ys ∙ ended_body l (written ls ys)) ∙ first.2 (written ls ys) ∙ ap (λ ss. first.0 ∷ (first.1 ++ ss)) (more.1 ys) ∙ ap (λ ss. first.0 ∷ ss) (sym (append_assoc first.1 more.0 (stretches ys))))

-- a text that is not empty has a line
pub some_line : (ys : List ℕ) → 0 < length ys → (cs : List ℕ) × (css : List (List ℕ)) × (map trimmed (stretches ys) ≡ cs ∷ css)
unfolding stretches
some_line [] h = absurd (omega arith)
some_line (y ∷ ys) h =
    elim (eqb y 10) as (λ b. (cs : List ℕ) × (css : List (List ℕ)) × (map trimmed (cond b (stretch [] true ∷ stretches ys) (on_first y (stretches ys))) ≡ cs ∷ css)) [
      | true ↦ ([], map trimmed (stretches ys), refl)
      | false ↦ elim (stretches ys) as (λ ss. (cs : List ℕ) × (css : List (List ℕ)) × (map trimmed (on_first y ss) ≡ cs ∷ css)) [ [] ↦ (_, _, refl) | s ∷ ss ↦ (_, _, refl) ]
    ]

-- characters up to an LF
cut_clear : (xs ys : List ℕ) → AllByRecursion (λ c. c ≡ 10 → ⊥) xs → stretches (xs ++ (10 ∷ ys)) ≡ stretch xs true ∷ stretches ys
unfolding stretches
cut_clear [] ys h = refl
cut_clear (x ∷ xs) ys h = rw (ne_eqb x 10 h.0, cut_clear xs ys h.1)

clear_push : (xs : List ℕ) → AllByRecursion (λ c. c ≡ 10 → ⊥) xs → AllByRecursion (λ c. c ≡ 10 → ⊥) (xs ++ (13 ∷ []))
clear_push xs h = All-push (λ c. c ≡ 10 → ⊥) xs 13 h (λ e. omega arith)

trim_cr : (xs : List ℕ) → trimmed (stretch (xs ++ (13 ∷ [])) true) ≡ xs
trim_cr xs =
    let long : length (xs ++ (13 ∷ [])) - 1 ≡ length xs = omega (arith, length_push xs 13) in
    let is : eqb (get_or (xs ++ (13 ∷ [])) (length (xs ++ (13 ∷ [])) - 1) 0) 13 ≡ true = eq-eqb _ 13 (get_or_push xs 13 0 (length (xs ++ (13 ∷ [])) - 1) (sym long)) in
    rw (is, long) (take_at xs (13 ∷ []) (length xs) refl)

-- an ended line is read as its characters
pub cut_line : (l : EndedLine) (ys : List ℕ) → Unended l.chars → map trimmed (stretches (ended l ++ ys)) ≡ l.chars ∷ map trimmed (stretches ys)
cut_line l ys h =
    ap (λ t. map trimmed (stretches t)) (ended_body l ys)
    ∙ (elim l.cr as (λ b. map trimmed (stretches (cond b (l.chars ++ (13 ∷ [])) l.chars ++ (10 ∷ ys))) ≡ l.chars ∷ map trimmed (stretches ys)) [
      | true ↦ ap (map trimmed) (cut_clear (l.chars ++ (13 ∷ [])) ys (clear_push l.chars h.0)) ∙ ap (λ cs. cs ∷ map trimmed (stretches ys)) (trim_cr l.chars)
      | false ↦ ap (map trimmed) (cut_clear l.chars ys h.0) ∙ rw (ne_eqb _ 13 h.1)
    ])

pub cut_written : (ls : List EndedLine) (ys : List ℕ) → AllByRecursion (λ l. Unended l.chars) ls → map trimmed (stretches (written ls ys)) ≡ chars_of ls ++ map trimmed (stretches ys)
cut_written [] ys h = refl
cut_written (l ∷ ls) ys h =
    ap (λ t. map trimmed (stretches t)) (append_assoc (ended l) (flat_map ended ls) ys) ∙ cut_line l (written ls ys) h.0 ∙ ap (λ css. l.chars ∷ css) (cut_written ls ys h.1)
