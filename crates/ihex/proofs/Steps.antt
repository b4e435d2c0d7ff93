-- One line more, and all of them. Assumes nothing.
use Rattle.std.proofs.Common.{◌≡◌, ℕ, ◌+◌, ◌/◌, true, false, cond, ◌&&◌, ◌||◌, eqb, ltb, List, [], ◌∷◌, ◌++◌, length, Ok, Err, Result, sym, refl, ap, ◌∙◌}
use Rattle.std.proofs.Math.Bool.{or-false}
use Rattle.std.proofs.lemmas.List.Sums.{fold_push}
use Rattle.checksum.specs.Outcomes.{and_then}
use Rattle.hexline.specs.declared.fault.TextFault.{TextFault}
use Rattle.hexline.specs.declared.fault.TextFault.TheVariants.{AfterEnd}
use Rattle.hexline.specs.declared.line.Line.{Line}
use Rattle.ihex.specs.declared.reads.Seen.{Seen}
use Rattle.hexline.specs.Faults.{Rule, rule, decided, spot}
use Rattle.ihex.specs.Texts.{TextLine}
use Rattle.hexline.specs.Records.{count_on, address_on, type_on, upper_on}
use Rattle.hexline.specs.Lines.{LineIs, said, said_line, data_is, end_is, base_is, start_is, line_rules, case_of, line_of}
use Rattle.ihex.specs.Reads.{seen_next, nothing_seen, seen_after, data_rules, order_rules, rules_beside, lines_kept}
use Rattle.hexline.proofs.Decided.{decided_ok, decided_past, decided_stop}
use Rattle.ihex.proofs.Cuts.{line_at}
use Rattle.hexline.proofs.Sorted.{case_facts}

-- the case that a line was read as
pub line_came : (ln p : ℕ) (chars : List ℕ) (r : Result Line TextFault) (l k : Line) → said r ≡ line_of ln p chars → r ≡ Ok l → l ≡ k → line_of ln p chars ≡ Ok (said_line k)
line_came ln p chars r l k says came is = sym says ∙ ap said came ∙ ap (λ m. Ok (said_line m)) is

module _ (s : Seen) (ln p : ℕ) (chars : List ℕ) where
  abbrev answer : Result Seen TextFault
  answer = decided (rules_beside s (line_at ln p chars)) (seen_next s (line_at ln p chars))

  pub step_ended : s.ended ≡ true → Err (AfterEnd (spot ln p)) ≡ answer
  unfolding rules_beside
  step_ended e = rw e

  module _ (going : s.ended ≡ false) where
    rules_going : rules_beside s (line_at ln p chars) ≡ line_rules ln p chars ++ order_rules s.upper s.top (line_at ln p chars)
    unfolding rules_beside
    rules_going = ap (λ b. cond b (rule true (AfterEnd (spot ln p)) ∷ []) (line_rules ln p chars ++ order_rules s.upper s.top (line_at ln p chars))) going

    pub step_refused : (f : TextFault) → line_of ln p chars ≡ Err f → Err f ≡ answer
    unfolding line_of
    step_refused f h = sym (ap (λ rs. decided rs (seen_next s (line_at ln p chars))) rules_going ∙ decided_stop (line_rules ln p chars) (order_rules s.upper s.top (line_at ln p chars)) (seen_next s (line_at ln p chars)) (case_of ln p chars) f h)

    -- a line that is read is held to the rules of its order
    step_on : (l : LineIs) → line_of ln p chars ≡ Ok l → answer ≡ decided (order_rules s.upper s.top (line_at ln p chars)) (seen_next s (line_at ln p chars))
    unfolding line_of
    step_on l h = ap (λ rs. decided rs (seen_next s (line_at ln p chars))) rules_going ∙ decided_past (line_rules ln p chars) (order_rules s.upper s.top (line_at ln p chars)) (seen_next s (line_at ln p chars)) (case_of ln p chars) l h

    -- a line of this type, address, count and upper half
    abbrev typed : ℕ → ℕ → ℕ → ℕ → Result Seen TextFault
    typed t a n u = decided (cond (eqb t 0) (data_rules s.upper s.top a n ln p) []) (record { upper = cond (eqb t 4) u s.upper; top = cond (eqb t 0) (a + n) s.top; names = s.names || (eqb t 0 && ltb 0 n); ended = s.ended || eqb t 1; at = spot ln p })

    step_typed : (l : LineIs) → line_of ln p chars ≡ Ok l → answer ≡ typed (type_on chars) (address_on chars) (count_on chars) (upper_on chars)
    step_typed l h = step_on l h

    pub step_data : (a : ℕ) (d : List ℕ) (n q : ℕ) → line_of ln p chars ≡ Ok (data_is a d n q) → decided (data_rules s.upper s.top a (length d / 2) ln p) (record { upper = s.upper; top = a + length d / 2; names = s.names || ltb 0 (length d / 2); ended = s.ended; at = spot ln p }) ≡ answer
    step_data a d n q h =
        let f = case_facts ln p chars (data_is a d n q) h in
        sym (step_typed _ h ∙ ap (λ t. typed t (address_on chars) (count_on chars) (upper_on chars)) f.0 ∙ ap (λ x. typed 0 x (count_on chars) (upper_on chars)) (sym f.1) ∙ ap (λ x. typed 0 a x (upper_on chars)) (sym f.2) ∙ rw going)

    pub step_end : (d : List ℕ) (n q : ℕ) → line_of ln p chars ≡ Ok (end_is d n q) → Ok (record { upper = s.upper; top = s.top; names = s.names; ended = true; at = spot ln p }) ≡ answer
    step_end d n q h = sym (step_typed _ h ∙ ap (λ t. typed t (address_on chars) (count_on chars) (upper_on chars)) (case_facts ln p chars (end_is d n q) h) ∙ rw (going, or-false s.names))

    pub step_base : (u : ℕ) (d : List ℕ) (n q : ℕ) → line_of ln p chars ≡ Ok (base_is u d n q) → Ok (record { upper = u; top = s.top; names = s.names; ended = s.ended; at = spot ln p }) ≡ answer
    step_base u d n q h =
        let f = case_facts ln p chars (base_is u d n q) h in
        sym (step_typed _ h ∙ ap (λ t. typed t (address_on chars) (count_on chars) (upper_on chars)) f.0 ∙ ap (λ x. typed 4 (address_on chars) (count_on chars) x) (sym f.1) ∙ rw (going, or-false s.names))

    pub step_start : (d : List ℕ) (n q : ℕ) → line_of ln p chars ≡ Ok (start_is d n q) → Ok (record { upper = s.upper; top = s.top; names = s.names; ended = s.ended; at = spot ln p }) ≡ answer
    step_start d n q h = sym (step_typed _ h ∙ ap (λ t. typed t (address_on chars) (count_on chars) (upper_on chars)) (case_facts ln p chars (start_is d n q) h) ∙ rw (going, or-false s.names))

-- the lines that are left, beside what was said so far
unfoldable pub kept_from : Seen → List TextLine → Result Seen TextFault
kept_from s [] = Ok s
kept_from s (l ∷ ls) = and_then (decided (rules_beside s l) (seen_next s l)) (λ next. kept_from next ls)

pub kept_none : (s : Seen) → kept_from s [] ≡ Ok s
unfolding kept_from
kept_none s = refl

pub kept_more : (s : Seen) (l : TextLine) (ls : List TextLine) → kept_from s (l ∷ ls) ≡ and_then (decided (rules_beside s l) (seen_next s l)) (λ next. kept_from next ls)
unfolding kept_from
kept_more s l ls = refl

-- a decision, and what goes on from it
pub decided_then : {X Y : Type 0} (rs : List Rule) (x : X) (f : X → Result Y TextFault) → and_then (decided rs x) f ≡ and_then (decided {X = Unit {0}} rs tt) (λ _. f x)
decided_then [] x f = refl
decided_then (r ∷ rs) x f =
    elim r.broken as (λ b. and_then (cond b (Err r.fault) (decided rs x)) f ≡ and_then (cond b (Err r.fault) (decided {X = Unit {0}} rs tt)) (λ _. f x)) [ true ↦ refl | false ↦ decided_then rs x f ]

pub kept_is : (earlier ls : List TextLine) → kept_from (seen_after earlier) ls ≡ lines_kept earlier ls
unfolding kept_from lines_kept
kept_is earlier [] = refl
kept_is earlier (l ∷ ls) =
    decided_then (rules_beside (seen_after earlier) l) (seen_next (seen_after earlier) l) (λ next. kept_from next ls)
    ∙ ap (λ r. and_then (decided {X = Unit {0}} (rules_beside (seen_after earlier) l) tt) (λ _. r)) (ap (λ s. kept_from s ls) (sym (fold_push seen_next nothing_seen earlier l)) ∙ kept_is (earlier ++ (l ∷ [])) ls)

-- what a line that is kept has said
pub turn_seen : (s : Seen) (l : TextLine) (next : Seen) → decided (rules_beside s l) (seen_next s l) ≡ Ok next → next ≡ seen_next s l
turn_seen s l next is = sym (decided_ok (rules_beside s l) (seen_next s l) next is)

-- a turn of the loop over the lines
module _ (s : Seen) (l : TextLine) (ls rest : List TextLine) (goal : Result Seen TextFault) (cut : ls ≡ l ∷ rest) (inv : kept_from s ls ≡ goal) where
  abbrev turned_to : Result Seen TextFault
  turned_to = decided (rules_beside s l) (seen_next s l)

  turned : and_then turned_to (λ next. kept_from next rest) ≡ goal
  turned = sym (kept_more s l rest) ∙ ap (kept_from s) (sym cut) ∙ inv

  pub turn_on : (next : Seen) → turned_to ≡ Ok next → kept_from next rest ≡ goal
  turn_on next is = sym (ap (λ r. and_then r (λ n. kept_from n rest)) is) ∙ turned

  pub turn_stops : (f : TextFault) → turned_to ≡ Err f → Err f ≡ goal
  turn_stops f is = sym (ap (λ r. and_then r (λ n. kept_from n rest)) is) ∙ turned
