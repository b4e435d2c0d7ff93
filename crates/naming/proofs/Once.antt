-- No two lines of an accepted text name one address. Assumes nothing.
use Rattle.std.proofs.Common.{◌≡◌, ℕ, ◌+◌, ◌/◌, ◌<◌, ◌≤◌, true, cond, List, [], ◌∷◌, ◌++◌, length, is_ok, Ok, Err, fold, Result, sym, refl, ap, ◌∙◌, subst, ⊎_elim, arith}
use Rattle.std.proofs.ByRecursion.{All-push}
use Rattle.std.proofs.lemmas.List.Sums.{fold_push}
use Rattle.std.proofs.lemmas.Bool.{true≢false, eq-eqb, ne_eqb, cases_lt, cases_eq}
use Rattle.std.specs.List.{flat_map, AllByRecursion}
use Rattle.hexline.specs.Faults.{spot}
use Rattle.hexline.specs.declared.fault.TextFault.{TextFault}
use Rattle.hexline.specs.declared.fault.TextFault.TheVariants.{Backward}
use Rattle.hexline.specs.Records.{count_on, address_on, type_on, data_digits}
use Rattle.ihex.specs.Texts.{TextLine, lines_of}
use Rattle.ihex.specs.Reads.{end_next, text_of, accepted}
use Rattle.ihex.specs.Named.{DataIs, data_in, data_lines}
use Rattle.ihex.proofs.Walked.{walk_skips, walk_finds}
use Rattle.refusals.specs.Bad.{NoneOf, end_on}
use Rattle.refusals.specs.Exact.{Clean}
use Rattle.refusals.proofs.Lasts.{so_says}
use Rattle.refusals.proofs.Naming.{Counted}
use Rattle.refusals.proofs.Whole.{nothing_after, accepted_counted, accepted_so}
use Rattle.naming.specs.Bytes.{AtMostOnce}

-- each line starts at or above the end of the one before it
abbrev Up : ℕ → List DataIs → Type 0
Up top [] = Unit {0}
Up top (d ∷ ds) = (top ≤ d.address) × Up (d.address + length d.digits / 2) ds

-- so a later one starts at or above the end of each earlier one
up_past : (top : ℕ) (ds : List DataIs) (e : DataIs) (after : List DataIs) → Up top (ds ++ (e ∷ after)) → top ≤ e.address
up_past top [] e after up = up.0
up_past top (d ∷ ds) e after up = omega (arith, up.0, up_past (d.address + length d.digits / 2) ds e after up.1)

up_at : (top : ℕ) (before : List DataIs) (d : DataIs) (after : List DataIs) → Up top (before ++ (d ∷ after)) → Up (d.address + length d.digits / 2) after
up_at top [] d after up = up.1
up_at top (c ∷ before) d after up = up_at (c.address + length c.digits / 2) before d after up.1

-- a line that is not bad by 18 starts at or above the last end
not_back : (earlier : List TextLine) (l : TextLine) → NoneOf 1 earlier → Clean earlier (l ∷ []) → type_on l.chars ≡ 0 → fold end_next 0 earlier ≤ address_on l.chars
not_back earlier l none clean t =
    ⊎_elim (λ back. absurd (clean.0 (Backward (spot l.number l.place)) (none, ((refl, refl), (t, λ e s. subst (λ n. address_on l.chars < n) (sym (so_says 0 end_on earlier e s)) back))))) (λ up. up) (cases_lt (address_on l.chars) (fold end_next 0 earlier))

lines_up : (earlier ls : List TextLine) → NoneOf 1 earlier → Clean earlier ls → AllByRecursion Counted ls → Up (fold end_next 0 earlier) (flat_map data_in ls)
lines_up earlier [] none clean counted = tt
lines_up earlier (l ∷ ls) none clean counted =
    let later = earlier ++ (l ∷ []) in
    let moved = fold_push end_next 0 earlier l in
    ⊎_elim
    (λ end.
    subst (λ xs. Up (fold end_next 0 earlier) (flat_map data_in (l ∷ xs))) (sym (nothing_after earlier l ls end clean.1))
    (subst (Up (fold end_next 0 earlier)) (sym (walk_skips l.number l.place l.chars [] (λ t. absurd (omega (arith, end, t))))) tt))
    (λ on.
    let rest = lines_up later ls (All-push (λ m. type_on m.chars ≡ 1 → ⊥) earlier l none on) clean.1 counted.1 in
    ⊎_elim
    (λ t.
    let top : fold end_next 0 later ≡ address_on l.chars + length (data_digits l.chars) / 2 = moved ∙ ap (λ b. cond b (address_on l.chars + count_on l.chars) (fold end_next 0 earlier)) (eq-eqb (type_on l.chars) 0 t) ∙ ap (λ n. address_on l.chars + n) (sym counted.0) in
    subst (Up (fold end_next 0 earlier)) (sym (walk_finds l.number l.place l.chars ls t)) (not_back earlier l none (clean.0, tt) t, subst (λ n. Up n (flat_map data_in ls)) top rest))
    (λ t.
    let top : fold end_next 0 later ≡ fold end_next 0 earlier = moved ∙ ap (λ b. cond b (address_on l.chars + count_on l.chars) (fold end_next 0 earlier)) (ne_eqb (type_on l.chars) 0 t) in
    subst (Up (fold end_next 0 earlier)) (sym (walk_skips l.number l.place l.chars ls t)) (subst (λ n. Up n (flat_map data_in ls)) top rest))
    (cases_eq (type_on l.chars) 0))
    (cases_eq (type_on l.chars) 1)

ok_is : (r : Result (Unit {0}) TextFault) → is_ok r ≡ true → r ≡ Ok tt
ok_is (Ok v) e = refl
ok_is (Err f) e = absurd (true≢false (sym e))

pub text_up : (text : List ℕ) → accepted text ≡ true → Up 0 (data_lines text)
unfolding data_lines
text_up text e =
    let a = accepted_so text (ok_is (text_of text) e) in
    lines_up [] (lines_of text) tt a.clean (accepted_counted text a)

pub at_most_once : (text : List ℕ) → AtMostOnce text
at_most_once text ok before middle after d e place a n m =
    let up = subst (Up 0) place (text_up text ok) in
    omega (arith, n.1, m.0, up_past (d.address + length d.digits / 2) middle e after (up_at 0 before d (middle ++ (e ∷ after)) up))
