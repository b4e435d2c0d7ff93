-- A type 05 line before the end line changes no byte. Assumes nothing.
use Rattle.std.proofs.Common.{◌≡◌, ℕ, ◌+◌, ◌-◌, ◌≤◌, Bool, true, false, cond, eqb, List, [], ◌∷◌, ◌++◌, map, length, get_or, drop, is_ok, None, fold, Option, sym, refl, ap, ◌∙◌, arith}
use Rattle.std.proofs.lemmas.List.{append_assoc, map-append}
use Rattle.std.proofs.ByRecursion.{All-weaker, All-get_or}
use Rattle.std.proofs.lemmas.Bool.{false≢true, eqb-true, ltb-false, not-false}
use Rattle.std.specs.List.{flat_map, prefix_len, AllByRecursion}
use Rattle.std.proofs.lemmas.Grind.{flat_map-append}
use Rattle.hexline.specs.declared.fault.TextFault.TheVariants.{AfterEnd}
use Rattle.hexline.specs.Digits.{is_digit}
use Rattle.hexline.specs.Faults.{rule, spot}
use Rattle.hexline.specs.Records.{count_on, address_on, type_on, data_on, stray_on}
use Rattle.hexline.specs.Lines.{start_is, line_rules, case_of, line_of}
use Rattle.hexline.proofs.Decided.{decided_kept}
use Rattle.hexline.proofs.Sorted.{case_facts}
use Rattle.ihex.specs.declared.reads.Seen.{Seen}
use Rattle.ihex.specs.Texts.{trimmed, stretches}
use Rattle.ihex.specs.Reads.{seen_next, nothing_seen, data_rules, order_rules, rules_beside}
use Rattle.ihex.specs.Named.{byte_at, held}
use Rattle.ihex.proofs.Cuts.{line_at}
use Rattle.std.proofs.Math.Bool.{or-false}
use Rattle.rewriting.specs.Ended.{EndedLine, ended, written, Unended}
use Rattle.rewriting.specs.Laws.{StartLine, StartFree}
use Rattle.rewriting.proofs.Cut.{cut_lines, cut_line, some_line}
use Rattle.rewriting.proofs.Bare.{all_kept, breaks, ok_decided, bare, fits, whole, bare_from, bare_next, text_chars, keeps_from}

-- neither LF nor CR
abbrev Inner : ℕ → Type 0
Inner c = (c ≡ 10 → ⊥) × (c ≡ 13 → ⊥)

digit_inner : (c : ℕ) → is_digit c ≡ true → Inner c
digit_inner c h = (λ e. false≢true (ap is_digit (sym e) ∙ h), λ e. false≢true (ap is_digit (sym e) ∙ h))

digits_inner : (xs : List ℕ) → length xs ≤ prefix_len is_digit xs → AllByRecursion Inner xs
digits_inner [] h = tt
digits_inner (x ∷ xs) h =
    elim (is_digit x) as (λ b. is_digit x ≡ b → length (x ∷ xs) ≤ cond b (1 + prefix_len is_digit xs) 0 → AllByRecursion Inner (x ∷ xs)) [
      | true ↦ (λ e k. (digit_inner x e, digits_inner xs (omega arith)))
      | false ↦ (λ e k. absurd (omega arith))
    ] refl h

-- a colon and digits
record_inner : (xs : List ℕ) → get_or xs 0 0 ≡ 58 → length xs ≤ 1 + prefix_len is_digit (drop 1 xs) → Unended xs
record_inner [] colon h = absurd (omega arith)
record_inner (x ∷ xs) colon h =
    let inner : AllByRecursion Inner (x ∷ xs) = ((λ e. omega arith, λ e. omega arith), digits_inner xs (omega arith)) in
    (All-weaker Inner (λ c. c ≡ 10 → ⊥) (λ c k. k.0) (x ∷ xs) inner, (All-get_or Inner (x ∷ xs) (length (x ∷ xs) - 1) 0 (omega arith) inner).1)

module _ (chars : List ℕ) (is : StartLine chars) where
  start_unended : Unended chars
  unfolding line_of
  start_unended =
      let kept = decided_kept (line_rules 1 0 chars) (case_of 1 0 chars) (start_is is.0 1 0) is.1 in
      record_inner chars (eqb-true (get_or chars 0 0) 58 (not-false (eqb (get_or chars 0 0) 58) kept.0)) (ltb-false (stray_on chars) (length chars) kept.1.0)

  start_type : type_on chars ≡ 5
  start_type = case_facts 1 0 chars (start_is is.0 1 0) is.1

  start_kept : all_kept (breaks (line_rules 0 0 chars)) ≡ true
  unfolding line_of
  start_kept = sym (ok_decided (line_rules 1 0 chars) (case_of 1 0 chars)) ∙ ap is_ok is.1

  -- it says nothing new
  start_next : (s : Seen) → seen_next (bare s) (line_at 0 0 chars) ≡ bare s
  start_next s = rw (start_type, or-false s.names, or-false s.ended)

  start_fits : (s : Seen) → s.ended ≡ false → fits s chars ≡ true
  unfolding rules_beside
  start_fits s going =
      ap (λ e. all_kept (breaks (cond e (rule true (AfterEnd (spot 0 0)) ∷ []) (line_rules 0 0 chars ++ order_rules s.upper s.top (line_at 0 0 chars))))) going
      ∙ ap (λ t. all_kept (breaks (line_rules 0 0 chars ++ cond (eqb t 0) (data_rules s.upper s.top (address_on chars) (count_on chars) 0 0) []))) start_type
      ∙ start_kept

-- where a line is read, no end line came before it
fits_going : (s : Seen) (cs : List ℕ) → fits s cs ≡ true → s.ended ≡ false
unfolding rules_beside
fits_going s cs h =
    elim s.ended as (λ e. all_kept (breaks (cond e (rule true (AfterEnd (spot 0 0)) ∷ []) (line_rules 0 0 cs ++ order_rules s.upper s.top (line_at 0 0 cs)))) ≡ true → e ≡ false) [ true ↦ (λ k. absurd (false≢true k)) | false ↦ (λ k. refl) ] h

whole_fits : (b : Bool) (o : Option Seen) → whole (cond b o None) ≡ true → b ≡ true
whole_fits true o h = refl
whole_fits false o h = absurd (false≢true h)

module _ (chars : List ℕ) (is : StartLine chars) (y : List ℕ) (ys : List (List ℕ)) where
  start_between : (s : Seen) (xs : List (List ℕ)) → whole (bare_from (bare s) (xs ++ (y ∷ ys))) ≡ true → bare_from (bare s) (xs ++ (chars ∷ (y ∷ ys))) ≡ bare_from (bare s) (xs ++ (y ∷ ys))
  unfolding bare_from
  start_between s [] h =
      let going : s.ended ≡ false = fits_going (bare s) y (whole_fits (fits (bare s) y) _ h) in
      ap (λ b. cond b (bare_from (seen_next (bare s) (line_at 0 0 chars)) (y ∷ ys)) None) (start_fits chars is (bare s) going)
      ∙ ap (λ n. bare_from n (y ∷ ys)) (start_next chars is s)
  start_between s (x ∷ xs) h =
      elim (fits (bare s) x) as (λ b. whole (cond b (bare_from (seen_next (bare s) (line_at 0 0 x)) (xs ++ (y ∷ ys))) None) ≡ true → cond b (bare_from (seen_next (bare s) (line_at 0 0 x)) (xs ++ (chars ∷ (y ∷ ys)))) None ≡ cond b (bare_from (seen_next (bare s) (line_at 0 0 x)) (xs ++ (y ∷ ys))) None) [
        | true ↦ start_between (seen_next (bare s) (line_at 0 0 x)) xs
        | false ↦ (λ k. refl)
      ] h

  start_unnamed : (a : ℕ) (earlier : Option ℕ) (xs : List (List ℕ)) → fold (bare_next a) earlier (xs ++ (chars ∷ ys)) ≡ fold (bare_next a) earlier (xs ++ ys)
  start_unnamed a earlier [] = ap (λ t. fold (bare_next a) (cond (eqb t 0) (held earlier (byte_at (address_on chars) (data_on chars) a)) earlier) ys) (start_type chars is)
  start_unnamed a earlier (x ∷ xs) = start_unnamed a (bare_next a earlier x) xs

written_append : (ls ms : List EndedLine) (rest : List ℕ) → written (ls ++ ms) rest ≡ written ls (written ms rest)
written_append ls ms rest = ap (λ t. t ++ rest) (flat_map-append ended ls ms) ∙ append_assoc (flat_map ended ls) (flat_map ended ms) rest

chars_before : (ls : List EndedLine) (ys : List ℕ) → text_chars (written ls ys) ≡ map trimmed (cut_lines ls).0 ++ text_chars ys
chars_before ls ys = ap (map trimmed) ((cut_lines ls).1 ys) ∙ map-append trimmed (cut_lines ls).0 (stretches ys)

pub start_free : StartFree
start_free before after rest start is some =
    let front = map trimmed (cut_lines before).0 in
    let next = some_line (written after rest) some in
    let old : text_chars (written (before ++ after) rest) ≡ front ++ (next.0 ∷ next.1) = ap text_chars (written_append before after rest) ∙ chars_before before (written after rest) ∙ ap (λ css. front ++ css) next.2 in
    let new : text_chars (written (before ++ (start ∷ after)) rest) ≡ front ++ (start.chars ∷ (next.0 ∷ next.1)) = ap text_chars (written_append before (start ∷ after) rest) ∙ chars_before before (written (start ∷ after) rest) ∙ ap (λ css. front ++ css) (ap text_chars (append_assoc (ended start) (flat_map ended after) rest) ∙ cut_line start (written after rest) (start_unended start.chars is) ∙ ap (λ css. start.chars ∷ css) next.2) in
    keeps_from (written (before ++ after) rest) (written (before ++ (start ∷ after)) rest)
    (λ ok. let k : whole (bare_from nothing_seen (front ++ (next.0 ∷ next.1))) ≡ true = sym (ap (λ css. whole (bare_from nothing_seen css)) old) ∙ ok in ap (λ css. whole (bare_from nothing_seen css)) new ∙ ap whole (start_between start.chars is next.0 next.1 nothing_seen front k) ∙ k)
    (λ a. ap (fold (bare_next a) None) new ∙ start_unnamed start.chars is next.0 (next.0 ∷ next.1) a None front ∙ sym (ap (fold (bare_next a) None) old))
