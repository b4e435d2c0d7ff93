-- The answer that a whole text gets. Assumes nothing.
use Rattle.std.proofs.Common.{◌≡◌, ℕ, ◌+◌, ◌<◌, ◌≤◌, true, false, cond, not, eqb, List, [], ◌∷◌, ◌++◌, length, Some, None, Ok, Err, fold, Option, Result, sym, refl, ap, ◌∙◌, subst, ⊎_elim, arith}
use Rattle.std.proofs.ByRecursion.{All-push}
use Rattle.std.proofs.lemmas.List.Sums.{fold_push}
use Rattle.std.proofs.lemmas.Bool.{true≢false, eqb-true, eqb-false, eq-eqb, or_right, lt-ltb, le-ltb, cases_lt, cases_Bool}
use Rattle.std.specs.List.{AllByRecursion}
use Rattle.checksum.specs.Outcomes.{and_then}
use Rattle.hexline.specs.declared.fault.TextFault.{TextFault}
use Rattle.hexline.specs.declared.fault.TextFault.TheVariants.{TooLong, WrongLength, NoEnd, AfterEnd, NothingNamed}
use Rattle.hexline.specs.Faults.{decided, spot}
use Rattle.hexline.specs.Records.{type_on, lacks_digits}
use Rattle.hexline.proofs.Sorted.{data_length}
use Rattle.ihex.specs.declared.reads.Seen.{Seen}
use Rattle.ihex.specs.Texts.{Stretch, TextLine, stretches, size_of, trimmed, placed, lines_of}
use Rattle.ihex.specs.Reads.{longest_text, names_next, ends_next, seen_next, nothing_seen, seen_after, lines_kept, whole_rules, text_of}
use Rattle.ihex.specs.Named.{named, data_lines}
use Rattle.refusals.specs.Bad.{NoneOf}
use Rattle.refusals.specs.Exact.{Clean, Refused, too_long, bad_line, end_missing, no_byte, Accepted, Exact}
use Rattle.refusals.proofs.Lasts.{names_seen, ended_seen, ends_none, none_ends}
use Rattle.refusals.proofs.Tests.{missing_so}
use Rattle.refusals.proofs.Found.{clean_kept, kept_clean, stopped_first, first_stops}
use Rattle.refusals.proofs.Naming.{Counted, none_named, some_named}

abbrev Answer : Type 0
Answer = Result (Unit {0}) TextFault

ok_not_err : (f : TextFault) → ◌≡◌ {A = Answer} (Ok tt) (Err f) → ⊥
ok_not_err f e = cc

err_same : (f g : TextFault) → ◌≡◌ {A = Answer} (Err f) (Err g) → f ≡ g
err_same f g e = cc

some_not_none : (b : ℕ) → ◌≡◌ {A = Option ℕ} (Some b) None → ⊥
some_not_none b e = cc

-- the last line's number is how many there are
count_from : (s : Seen) (n p : ℕ) (ss : List Stretch) → s.at.line + 1 ≡ n → (fold seen_next s (placed n p ss)).at.line ≡ s.at.line + length (placed n p ss)
unfolding placed
count_from s n p [] next = omega arith
count_from s n p (t ∷ ss) next =
    let rest = count_from (seen_next s (record { number = n; place = p; chars = trimmed t })) (n + 1) (p + size_of t) ss refl in
    rest ∙ omega arith

pub line_count : (text : List ℕ) → (seen_after (lines_of text)).at.line ≡ length (lines_of text)
line_count text = count_from nothing_seen 1 0 (stretches text) refl ∙ omega arith

-- the last of some lines
all_last : {X : Type 0} (P : X → Type 0) (xs : List X) (x : X) → AllByRecursion P (xs ++ (x ∷ [])) → P x
all_last P [] x all = all.0
all_last P (y ∷ xs) x all = all_last P xs x all.1

pub record Ended (ls : List TextLine) : Type 0 where
  pub before : List TextLine
  pub end : TextLine
  pub place : ls ≡ before ++ (end ∷ [])
  pub type : type_on end.chars ≡ 1

pub nothing_after : (earlier : List TextLine) (l : TextLine) (ls : List TextLine) → type_on l.chars ≡ 1 → Clean (earlier ++ (l ∷ [])) ls → ls ≡ []
nothing_after earlier l [] is clean = refl
nothing_after earlier l (m ∷ ls) is clean = absurd (clean.0 (AfterEnd (spot m.number m.place)) ((refl, refl), λ none. all_last (λ k. type_on k.chars ≡ 1 → ⊥) earlier l none is))

-- an end line of clean lines is the last of them
end_last : (earlier ls : List TextLine) → NoneOf 1 earlier → Clean earlier ls → fold ends_next false ls ≡ true → Ended ls
end_last earlier [] none clean e = absurd (true≢false (sym e))
end_last earlier (l ∷ ls) none clean e =
    elim (eqb (type_on l.chars) 1) as (λ b. eqb (type_on l.chars) 1 ≡ b → fold ends_next b ls ≡ true → Ended (l ∷ ls)) [
      | true ↦ (λ i _. let is = eqb-true (type_on l.chars) 1 i in record { before = []; end = l; place = ap (λ xs. l ∷ xs) (nothing_after earlier l ls is clean.1); type = is })
      | false ↦ (λ i k.
          let rest = end_last (earlier ++ (l ∷ [])) ls (All-push (λ m. type_on m.chars ≡ 1 → ⊥) earlier l none (eqb-false (type_on l.chars) 1 i)) clean.1 k in
          record { before = l ∷ rest.before; end = rest.end; place = ap (λ xs. l ∷ xs) rest.place; type = rest.type })
    ] refl e

-- clean lines have the data that their counts say
pub clean_counted : (earlier ls : List TextLine) → Clean earlier ls → NoneOf 1 earlier → fold ends_next false ls ≡ true → AllByRecursion Counted ls
clean_counted earlier [] clean none e = tt
clean_counted earlier (l ∷ ls) clean none e = (
  counted,
  elim (eqb (type_on l.chars) 1) as (λ b. eqb (type_on l.chars) 1 ≡ b → fold ends_next b ls ≡ true → AllByRecursion Counted ls) [
    | true ↦ (λ i _. subst (AllByRecursion Counted) (sym (nothing_after earlier l ls (eqb-true (type_on l.chars) 1 i) clean.1)) tt)
    | false ↦ (λ i k. clean_counted (earlier ++ (l ∷ [])) ls clean.1 (All-push (λ m. type_on m.chars ≡ 1 → ⊥) earlier l none (eqb-false (type_on l.chars) 1 i)) k)
  ] refl e,
)
  where
    counted : Counted l
    counted = ⊎_elim (λ t. absurd (clean.0 (WrongLength (spot l.number l.place)) (none, ((refl, refl), missing_so l.chars t)))) (λ f. data_length 0 0 l.chars f) (cases_Bool (lacks_digits l.chars))

module _ (text : List ℕ) where
  abbrev seen : Seen
  seen = seen_after (lines_of text)

  answer_long : longest_text < length text → text_of text ≡ Err TooLong
  unfolding text_of
  answer_long long = rw (lt-ltb longest_text (length text) long)

  answer_short : length text ≤ longest_text → text_of text ≡ and_then (lines_kept [] (lines_of text)) (λ s. decided (whole_rules (length text) s) tt)
  unfolding text_of
  answer_short short = ap (λ b. cond b (Err TooLong) (and_then (lines_kept [] (lines_of text)) (λ s. decided (whole_rules (length text) s) tt))) (le-ltb longest_text (length text) short)

  -- past clean lines, the whole text's rules decide
  answer_clean : length text ≤ longest_text → Clean [] (lines_of text) → text_of text ≡ cond (not seen.ended) (Err (NoEnd (spot (seen.at.line + 1) (length text)))) (cond (not seen.names) (Err (NothingNamed seen.at)) (Ok tt))
  answer_clean short clean = answer_short short ∙ ap (λ r. and_then r (λ s. decided (whole_rules (length text) s) tt)) (clean_kept [] (lines_of text) clean)

  ended_is : seen.ended ≡ fold ends_next false (lines_of text)
  ended_is = ended_seen nothing_seen (lines_of text)

  names_is : seen.names ≡ fold names_next false (lines_of text)
  names_is = names_seen nothing_seen (lines_of text)

  -- what was seen last is the end line
  last_seen : (before : List TextLine) (end : TextLine) → lines_of text ≡ before ++ (end ∷ []) → seen ≡ seen_next (seen_after before) end
  last_seen before end place = ap seen_after place ∙ fold_push seen_next nothing_seen before end

  spot_is : (before : List TextLine) (end : TextLine) → lines_of text ≡ before ++ (end ∷ []) → NothingNamed seen.at ≡ NothingNamed (spot end.number end.place)
  spot_is before end place = ap (λ s. NothingNamed s.at) (last_seen before end place)

  nothing_named : seen.names ≡ false → (a : ℕ) → named text a ≡ None
  unfolding data_lines
  nothing_named e a = none_named (lines_of text) (sym names_is ∙ e) a None

  something_named : Clean [] (lines_of text) → seen.ended ≡ true → seen.names ≡ true → (a : ℕ) × (b : ℕ) × (named text a ≡ Some b)
  unfolding data_lines
  something_named clean ended e = some_named (lines_of text) (clean_counted [] (lines_of text) clean tt (sym ended_is ∙ ended)) (sym names_is ∙ e) None

  ended_last : (before : List TextLine) (end : TextLine) → lines_of text ≡ before ++ (end ∷ []) → type_on end.chars ≡ 1 → seen.ended ≡ true
  ended_last before end place type = ap (λ s. s.ended) (last_seen before end place) ∙ or_right (seen_after before).ended (eqb (type_on end.chars) 1) (eq-eqb (type_on end.chars) 1 type)

  whole_accepted : length text ≤ longest_text → Clean [] (lines_of text) → text_of text ≡ Ok tt → Accepted text
  whole_accepted short clean e =
      let told = sym (answer_clean short clean) ∙ e in
      elim seen.ended as (λ b. seen.ended ≡ b → cond (not b) (Err (NoEnd (spot (seen.at.line + 1) (length text)))) (cond (not seen.names) (Err (NothingNamed seen.at)) (Ok tt)) ≡ Ok tt → Accepted text) [
        | true ↦ (λ ended. elim seen.names as (λ b. seen.names ≡ b → cond (not b) (Err (NothingNamed seen.at)) (Ok tt) ≡ Ok tt → Accepted text) [
          | true ↦ (λ some _.
              let last = end_last [] (lines_of text) tt clean (sym ended_is ∙ ended) in
              let byte = something_named clean ended some in
              record { short = short; clean = clean; before = last.before; end = last.end; place = last.place; type = last.type; address = byte.0; byte = byte.1; names = byte.2 })
          | false ↦ (λ _ k. absurd (ok_not_err (NothingNamed seen.at) (sym k)))
        ] refl)
        | false ↦ (λ _ k. absurd (ok_not_err (NoEnd (spot (seen.at.line + 1) (length text))) (sym k)))
      ] refl told

  whole_refused : (f : TextFault) → length text ≤ longest_text → Clean [] (lines_of text) → text_of text ≡ Err f → Refused text f
  whole_refused f short clean e =
      let told = sym (answer_clean short clean) ∙ e in
      elim seen.ended as (λ b. seen.ended ≡ b → cond (not b) (Err (NoEnd (spot (seen.at.line + 1) (length text)))) (cond (not seen.names) (Err (NothingNamed seen.at)) (Ok tt)) ≡ Err f → Refused text f) [
        | true ↦ (λ ended. elim seen.names as (λ b. seen.names ≡ b → cond (not b) (Err (NothingNamed seen.at)) (Ok tt) ≡ Err f → Refused text f) [
          | true ↦ (λ _ k. absurd (ok_not_err f k))
          | false ↦ (λ none k.
              let last = end_last [] (lines_of text) tt clean (sym ended_is ∙ ended) in
              let is = err_same (NothingNamed seen.at) f k in
              no_byte short (record { before = last.before; end = last.end; place = last.place; type = last.type; clean = clean; none = nothing_named none; is = sym is ∙ spot_is last.before last.end last.place }))
        ] refl)
        | false ↦ (λ none k.
            let is = err_same (NoEnd (spot (seen.at.line + 1) (length text))) f k in
            end_missing short (record { clean = clean; none = ends_none (lines_of text) (sym ended_is ∙ none); is = sym is ∙ ap (λ n. NoEnd (spot (n + 1) (length text))) (line_count text) }))
      ] refl told

  pub refused_so : (f : TextFault) → text_of text ≡ Err f → Refused text f
  refused_so f e =
      ⊎_elim (λ long. too_long long (sym (err_same TooLong f (sym (answer_long long) ∙ e))))
      (λ short.
      let kept = lines_kept [] (lines_of text) in
      elim kept as (λ r. kept ≡ r → and_then r (λ s. decided (whole_rules (length text) s) tt) ≡ Err f → Refused text f) [
        | Ok s ↦ (λ is k. whole_refused f short (kept_clean [] (lines_of text) s is) e)
        | Err g ↦ (λ is k. let same = err_same g f k in bad_line short (stopped_first (lines_of text) f (is ∙ ap Err same)))
      ] refl (sym (answer_short short) ∙ e))
      (cases_lt longest_text (length text))

  pub refuses : (f : TextFault) → Refused text f → text_of text ≡ Err f
  refuses f (too_long long is) = answer_long long ∙ ap Err (sym is)
  refuses f (bad_line short first) = answer_short short ∙ ap (λ r. and_then r (λ s. decided (whole_rules (length text) s) tt)) (first_stops (lines_of text) f first)
  refuses f (end_missing short m) =
      answer_clean short m.clean
      ∙ ap (λ b. cond (not b) (Err (NoEnd (spot (seen.at.line + 1) (length text)))) (cond (not seen.names) (Err (NothingNamed seen.at)) (Ok tt))) (ended_is ∙ none_ends (lines_of text) m.none)
      ∙ ap (λ n. Err (NoEnd (spot (n + 1) (length text)))) (line_count text)
      ∙ ap Err (sym m.is)
  refuses f (no_byte short n) =
      answer_clean short n.clean
      ∙ ap (λ b. cond (not b) (Err (NoEnd (spot (seen.at.line + 1) (length text)))) (cond (not seen.names) (Err (NothingNamed seen.at)) (Ok tt))) (ended_last n.before n.end n.place n.type)
      ∙ ap (λ b. cond (not b) (Err (NothingNamed seen.at)) (Ok tt)) (⊎_elim (λ t. let s = something_named n.clean (ended_last n.before n.end n.place n.type) t in absurd (some_not_none s.1 (sym s.2 ∙ n.none s.0))) (λ e. e) (cases_Bool seen.names))
      ∙ ap Err (spot_is n.before n.end n.place ∙ sym n.is)

  pub accepted_so : text_of text ≡ Ok tt → Accepted text
  accepted_so e =
      ⊎_elim (λ long. absurd (ok_not_err TooLong (sym e ∙ answer_long long)))
      (λ short.
      let kept = lines_kept [] (lines_of text) in
      elim kept as (λ r. kept ≡ r → and_then r (λ s. decided (whole_rules (length text) s) tt) ≡ Ok tt → Accepted text) [
        | Ok s ↦ (λ is k. whole_accepted short (kept_clean [] (lines_of text) s is) e)
        | Err g ↦ (λ is k. absurd (ok_not_err g (sym k)))
      ] refl (sym (answer_short short) ∙ e))
      (cases_lt longest_text (length text))

  pub accepts : Accepted text → text_of text ≡ Ok tt
  accepts a =
      answer_clean a.short a.clean
      ∙ ap (λ b. cond (not b) (Err (NoEnd (spot (seen.at.line + 1) (length text)))) (cond (not seen.names) (Err (NothingNamed seen.at)) (Ok tt))) (ended_last a.before a.end a.place a.type)
      ∙ ap (λ b. cond (not b) (Err (NothingNamed seen.at)) (Ok tt)) (⊎_elim (λ t. t) (λ f. absurd (some_not_none a.byte (sym a.names ∙ nothing_named f a.address))) (cases_Bool seen.names))

  -- an accepted text's lines have the data that their counts say
  pub accepted_counted : Accepted text → AllByRecursion Counted (lines_of text)
  accepted_counted a = clean_counted [] (lines_of text) a.clean tt (sym ended_is ∙ ended_last a.before a.end a.place a.type)

  pub exact : Exact text
  exact = record { refused_so = refused_so; refuses = refuses; accepted_so = accepted_so; accepts = accepts }
