-- What the last line of a type says, and whether there was an end line. Assumes nothing.
use Rattle.std.proofs.Common.{◌≡◌, ℕ, true, false, cond, eqb, ◌⊎◌, List, [], ◌∷◌, fold, sym, refl, ap, ◌∙◌, inl, inr}
use Rattle.std.proofs.lemmas.Bool.{true≢false, eqb-true, eqb-false, eq-eqb, ne_eqb, cond-true, cond-false}
use Rattle.std.proofs.lemmas.List.Sums.{fold-append}
use Rattle.hexline.specs.Records.{type_on}
use Rattle.ihex.specs.declared.reads.Seen.{Seen}
use Rattle.ihex.specs.Texts.{TextLine}
use Rattle.checksum.proofs.Passing.{fold-or}
use Rattle.ihex.specs.Reads.{upper_next, end_next, names_next, ends_next, seen_next, is_end}
use Rattle.refusals.specs.Bad.{NoneOf, LastOf, LastSays}

module _ (t : ℕ) (says : List ℕ → ℕ) where
  abbrev pub next : ℕ → TextLine → ℕ
  next v l = cond (eqb (type_on l.chars) t) (says l.chars) v

  pub none_folded : (v : ℕ) (ls : List TextLine) → NoneOf t ls → fold next v ls ≡ v
  none_folded v [] none = refl
  none_folded v (l ∷ ls) none = none_folded (next v l) ls none.1 ∙ cond-false (eqb (type_on l.chars) t) (says l.chars) v (ne_eqb (type_on l.chars) t none.0)

  found : (v : ℕ) (ls : List TextLine) → (NoneOf t ls × (fold next v ls ≡ v)) ⊎ LastOf t says ls (fold next v ls)
  found v [] = inl (tt, refl)
  found v (l ∷ ls) =
      elim (found (next v l) ls) [
        | inl n ↦ elim (eqb (type_on l.chars) t) as (λ b. eqb (type_on l.chars) t ≡ b → (NoneOf t (l ∷ ls) × (fold next (next v l) ls ≡ v)) ⊎ LastOf t says (l ∷ ls) (fold next (next v l) ls)) [
          | true ↦ (λ e. inr (record { before = []; line = l; after = ls; place = refl; type = eqb-true (type_on l.chars) t e; last = n.0; value = n.1 ∙ cond-true (eqb (type_on l.chars) t) (says l.chars) v e }))
          | false ↦ (λ e. inl ((eqb-false (type_on l.chars) t e, n.0), n.1 ∙ cond-false (eqb (type_on l.chars) t) (says l.chars) v e))
        ] refl
        | inr o ↦ inr (record { before = l ∷ o.before; line = o.line; after = o.after; place = ap (λ xs. l ∷ xs) o.place; type = o.type; last = o.last; value = o.value })
      ]

  -- the value is what the last line of the type says
  pub says_so : (ls : List TextLine) → LastSays t says ls (fold next 0 ls)
  says_so ls = found 0 ls

  pub so_says : (ls : List TextLine) (v : ℕ) → LastSays t says ls v → v ≡ fold next 0 ls
  so_says ls v (inl n) = n.1 ∙ sym (none_folded 0 ls n.0)
  so_says ls v (inr o) =
      o.value
      ∙ sym (cond-true (eqb (type_on o.line.chars) t) (says o.line.chars) (fold next 0 o.before) (eq-eqb (type_on o.line.chars) t o.type))
      ∙ sym (none_folded (next (fold next 0 o.before) o.line) o.after o.last)
      ∙ sym (fold-append next 0 o.before (o.line ∷ o.after))
      ∙ ap (fold next 0) (sym o.place)

-- the parts of what was seen
seen_part : {X : Type 0} (part : Seen → X) (next : X → TextLine → X) → ((s : Seen) (l : TextLine) → part (seen_next s l) ≡ next (part s) l) → (s : Seen) (ls : List TextLine) → part (fold seen_next s ls) ≡ fold next (part s) ls
seen_part part next same s [] = refl
seen_part part next same s (l ∷ ls) = seen_part part next same (seen_next s l) ls ∙ ap (λ x. fold next x ls) (same s l)

pub upper_seen : (s : Seen) (ls : List TextLine) → (fold seen_next s ls).upper ≡ fold upper_next s.upper ls
upper_seen = seen_part (λ s. s.upper) upper_next (λ s l. refl)

pub top_seen : (s : Seen) (ls : List TextLine) → (fold seen_next s ls).top ≡ fold end_next s.top ls
top_seen = seen_part (λ s. s.top) end_next (λ s l. refl)

pub names_seen : (s : Seen) (ls : List TextLine) → (fold seen_next s ls).names ≡ fold names_next s.names ls
names_seen = seen_part (λ s. s.names) names_next (λ s l. refl)

pub ended_seen : (s : Seen) (ls : List TextLine) → (fold seen_next s ls).ended ≡ fold ends_next s.ended ls
ended_seen = seen_part (λ s. s.ended) ends_next (λ s l. refl)

pub ends_none : (ls : List TextLine) → fold ends_next false ls ≡ false → NoneOf 1 ls
ends_none [] e = tt
ends_none (l ∷ ls) e =
    elim (eqb (type_on l.chars) 1) as (λ b. eqb (type_on l.chars) 1 ≡ b → fold ends_next b ls ≡ false → NoneOf 1 (l ∷ ls)) [
      | true ↦ (λ _ k. absurd (true≢false (sym (fold-or is_end true ls) ∙ k)))
      | false ↦ (λ i k. (eqb-false (type_on l.chars) 1 i, ends_none ls k))
    ] refl e

pub none_ends : (ls : List TextLine) → NoneOf 1 ls → fold ends_next false ls ≡ false
none_ends [] none = refl
none_ends (l ∷ ls) none = ap (λ b. fold ends_next b ls) (ne_eqb (type_on l.chars) 1 none.0) ∙ none_ends ls none.1
