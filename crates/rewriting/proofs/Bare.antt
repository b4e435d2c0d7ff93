-- Acceptance and the named bytes hang on the lines' characters alone, not on their numbers and places. Assumes nothing.
use Rattle.std.proofs.Common.{◌≡◌, ℕ, Bool, true, false, cond, not, ◌&&◌, eqb, ltb, List, [], ◌∷◌, ◌++◌, map, length, is_ok, Some, None, Ok, Err, fold, Option, Result, sym, refl, ap, ◌∙◌}
use Rattle.std.proofs.lemmas.Bool.{false≢true, le-ltb}
use Rattle.std.specs.List.{flat_map}
use Rattle.checksum.specs.Outcomes.{and_then}
use Rattle.hexline.specs.declared.fault.TextFault.{TextFault}
use Rattle.hexline.specs.declared.fault.TextFault.TheVariants.{TooLong, AfterEnd}
use Rattle.hexline.specs.Faults.{Rule, rule, decided, spot}
use Rattle.hexline.specs.Records.{count_on, address_on, type_on, data_on, data_digits}
use Rattle.hexline.specs.Lines.{line_rules}
use Rattle.ihex.specs.declared.reads.Seen.{Seen}
use Rattle.ihex.specs.Texts.{TextLine, stretches, trimmed, lines_of}
use Rattle.ihex.specs.Reads.{longest_text, is_data, seen_next, nothing_seen, data_rules, order_rules, rules_beside, lines_kept, whole_rules, text_of, accepted}
use Rattle.ihex.specs.Named.{DataIs, data_in, data_lines, byte_at, held, named_next, named}
use Rattle.ihex.proofs.Cuts.{line_at}
use Rattle.ihex.proofs.Steps.{kept_from, kept_is, decided_then}
use Rattle.rewriting.specs.Laws.{Keeps}
use Rattle.rewriting.proofs.Cut.{chars_in, placed_chars}

-- no rule is broken
abbrev pub all_kept : List Bool → Bool
all_kept [] = true
all_kept (b ∷ bs) = cond b false (all_kept bs)

abbrev pub breaks : List Rule → List Bool
breaks rs = map (λ r. r.broken) rs

pub ok_decided : {X : Type 0} (rs : List Rule) (x : X) → is_ok (decided rs x) ≡ all_kept (breaks rs)
ok_decided [] x = refl
ok_decided (r ∷ rs) x =
    elim r.broken as (λ b. is_ok (cond b (Err r.fault) (decided rs x)) ≡ cond b false (all_kept (breaks rs))) [ true ↦ refl | false ↦ ok_decided rs x ]

-- what lines have said, at no line and no place
abbrev pub bare : Seen → Seen
bare s = record { upper = s.upper; top = s.top; names = s.names; ended = s.ended; at = spot 0 0 }

-- whether a line with these characters breaks no rule
abbrev pub fits : Seen → List ℕ → Bool
fits s cs = all_kept (breaks (rules_beside s (line_at 0 0 cs)))

fits_bare : (s : Seen) (l : TextLine) → all_kept (breaks (rules_beside s l)) ≡ fits (bare s) l.chars
unfolding rules_beside
fits_bare s l =
    elim s.ended as (λ e. all_kept (breaks (cond e (rule true (AfterEnd (spot l.number l.place)) ∷ []) (line_rules l.number l.place l.chars ++ order_rules s.upper s.top l))) ≡ all_kept (breaks (cond e (rule true (AfterEnd (spot 0 0)) ∷ []) (line_rules 0 0 l.chars ++ order_rules s.upper s.top (line_at 0 0 l.chars))))) [
      | true ↦ refl
      | false ↦ elim (is_data l) as (λ d. all_kept (breaks (line_rules l.number l.place l.chars ++ cond d (data_rules s.upper s.top (address_on l.chars) (count_on l.chars) l.number l.place) [])) ≡ all_kept (breaks (line_rules 0 0 l.chars ++ cond d (data_rules s.upper s.top (address_on l.chars) (count_on l.chars) 0 0) []))) [ true ↦ refl | false ↦ refl ]
    ]

-- what is left of an answer
abbrev pub outcome : Result Seen TextFault → Option Seen
outcome (Ok s) = Some (bare s)
outcome (Err e) = None

-- the lines' characters, beside what was said so far
unfoldable pub bare_from : Seen → List (List ℕ) → Option Seen
bare_from s [] = Some s
bare_from s (cs ∷ css) = cond (fits s cs) (bare_from (seen_next s (line_at 0 0 cs)) css) None

-- a decision with no fault goes on
outcome_then : {X : Type 0} (r : Result X TextFault) (next : Result Seen TextFault) → outcome (and_then r (λ _. next)) ≡ cond (is_ok r) (outcome next) None
outcome_then (Ok x) next = refl
outcome_then (Err e) next = refl

pub kept_bare : (s : Seen) (ls : List TextLine) → outcome (kept_from s ls) ≡ bare_from (bare s) (chars_in ls)
unfolding kept_from bare_from
kept_bare s [] = refl
kept_bare s (l ∷ ls) =
    ap outcome (decided_then (rules_beside s l) (seen_next s l) (λ next. kept_from next ls))
    ∙ outcome_then (decided {X = Unit {0}} (rules_beside s l) tt) (kept_from (seen_next s l) ls)
    ∙ ap (λ b. cond b (outcome (kept_from (seen_next s l) ls)) None) (ok_decided {X = Unit {0}} (rules_beside s l) tt ∙ fits_bare s l)
    ∙ ap (λ o. cond (fits (bare s) l.chars) o None) (kept_bare (seen_next s l) ls)

-- an end line came, and a byte was named
abbrev pub whole : Option Seen → Bool
whole None = false
whole (Some s) = s.ended && s.names

both_kept : (x y : Bool) → all_kept (not x ∷ (not y ∷ [])) ≡ (x && y)
both_kept true true = refl
both_kept true false = refl
both_kept false y = refl

ok_whole : (n : ℕ) (r : Result Seen TextFault) → is_ok (and_then r (λ s. decided {X = Unit {0}} (whole_rules n s) tt)) ≡ whole (outcome r)
ok_whole n (Err e) = refl
ok_whole n (Ok s) = ok_decided {X = Unit {0}} (whole_rules n s) tt ∙ both_kept s.ended s.names

module _ (text : List ℕ) where
  abbrev pub text_chars : List (List ℕ)
  text_chars = map trimmed (stretches text)

  pub lines_bare : outcome (lines_kept [] (lines_of text)) ≡ bare_from nothing_seen text_chars
  lines_bare = ap outcome (sym (kept_is [] (lines_of text))) ∙ kept_bare nothing_seen (lines_of text) ∙ ap (bare_from nothing_seen) (placed_chars 1 0 (stretches text))

  pub accepted_is : accepted text ≡ cond (ltb longest_text (length text)) false (whole (bare_from nothing_seen text_chars))
  unfolding text_of
  accepted_is =
      elim (ltb longest_text (length text)) as (λ b. is_ok (cond b (Err TooLong) (and_then (lines_kept [] (lines_of text)) (λ s. decided {X = Unit {0}} (whole_rules (length text) s) tt))) ≡ cond b false (whole (bare_from nothing_seen text_chars))) [
        | true ↦ refl
        | false ↦ ok_whole (length text) (lines_kept [] (lines_of text)) ∙ ap whole lines_bare
      ]

-- what characters put at an address
abbrev pub bare_next : ℕ → Option ℕ → List ℕ → Option ℕ
bare_next a earlier cs = cond (eqb (type_on cs) 0) (held earlier (byte_at (address_on cs) (data_on cs) a)) earlier

pub named_bare : (a : ℕ) (earlier : Option ℕ) (ls : List TextLine) → fold (named_next a) earlier (flat_map data_in ls) ≡ fold (bare_next a) earlier (chars_in ls)
named_bare a earlier [] = refl
named_bare a earlier (l ∷ ls) =
    let found : DataIs = record { address = address_on l.chars; digits = data_digits l.chars; line = l.number; place = l.place } in
    elim (is_data l) as (λ b. fold (named_next a) earlier (cond b (found ∷ []) [] ++ flat_map data_in ls) ≡ fold (bare_next a) (cond b (held earlier (byte_at (address_on l.chars) (data_on l.chars) a)) earlier) (chars_in ls)) [
      | true ↦ named_bare a (named_next a earlier found) ls
      | false ↦ named_bare a earlier ls
    ]

pub named_is : (text : List ℕ) (a : ℕ) → named text a ≡ fold (bare_next a) None (text_chars text)
unfolding data_lines
named_is text a = named_bare a None (lines_of text) ∙ ap (fold (bare_next a) None) (placed_chars 1 0 (stretches text))

long_not : (b w : Bool) → cond b false w ≡ true → w ≡ true
long_not true w h = absurd (false≢true h)
long_not false w h = h

-- what is to be shown of two texts' lines, by their characters
pub keeps_from : (text other : List ℕ) → (whole (bare_from nothing_seen (text_chars text)) ≡ true → whole (bare_from nothing_seen (text_chars other)) ≡ true) → ((a : ℕ) → fold (bare_next a) None (text_chars other) ≡ fold (bare_next a) None (text_chars text)) → Keeps text other
keeps_from text other same names ok short =
    (accepted_is other ∙ ap (λ b. cond b false (whole (bare_from nothing_seen (text_chars other)))) (le-ltb longest_text (length other) short) ∙ same (long_not (ltb longest_text (length text)) (whole (bare_from nothing_seen (text_chars text))) (sym (accepted_is text) ∙ ok)), λ a. named_is other a ∙ names a ∙ sym (named_is text a))
