-- The first bad line decides. Assumes nothing.
use Rattle.std.proofs.Common.{◌≡◌, ◌≤◌, List, [], ◌∷◌, ◌++◌, Ok, Err, Result, sym, refl, ap, ◌∙◌, subst}
use Rattle.std.proofs.lemmas.List.{append-nil, append_assoc}
use Rattle.checksum.specs.Outcomes.{and_then}
use Rattle.hexline.specs.declared.fault.TextFault.{TextFault}
use Rattle.hexline.specs.Faults.{number_of, decided}
use Rattle.ihex.specs.declared.reads.Seen.{Seen}
use Rattle.ihex.specs.Texts.{TextLine}
use Rattle.ihex.specs.Reads.{seen_after, rules_beside, lines_kept}
use Rattle.refusals.specs.Bad.{Bad}
use Rattle.refusals.specs.Exact.{Clean, FirstBad}
use Rattle.refusals.proofs.Broken.{decides_lowest, lowest_decides, ok_none, none_ok}
use Rattle.refusals.proofs.Same.{broken_bad, bad_broken, rules_ascend}

abbrev Decision : Type 0
Decision = Result (Unit {0}) TextFault

-- one line after those before it
module _ (earlier : List TextLine) (l : TextLine) where
  abbrev decision : Decision
  decision = decided (rules_beside (seen_after earlier) l) tt

  kept_good : (v : Unit {0}) → decision ≡ Ok v → (f : TextFault) → Bad earlier l f → ⊥
  kept_good v e f bad = ok_none (rules_beside (seen_after earlier) l) tt v e f (bad_broken earlier l f bad)

  good_kept : ((f : TextFault) → Bad earlier l f → ⊥) → decision ≡ Ok tt
  good_kept good = none_ok (rules_beside (seen_after earlier) l) tt (λ g b. good g (broken_bad earlier l g b))

  stopped_bad : (f : TextFault) → decision ≡ Err f → Bad earlier l f × ((g : TextFault) → Bad earlier l g → number_of f ≤ number_of g)
  stopped_bad f e =
      let low = decides_lowest (rules_beside (seen_after earlier) l) tt f (rules_ascend earlier l) e in
      (broken_bad earlier l f low.0, λ g bad. low.1 g (bad_broken earlier l g bad))

  bad_stops : (f : TextFault) → Bad earlier l f → ((g : TextFault) → Bad earlier l g → number_of f ≤ number_of g) → decision ≡ Err f
  bad_stops f bad low = lowest_decides (rules_beside (seen_after earlier) l) tt f (rules_ascend earlier l) (bad_broken earlier l f bad, λ g b. low g (broken_bad earlier l g b))

pub clean_kept : (earlier ls : List TextLine) → Clean earlier ls → lines_kept earlier ls ≡ Ok (seen_after (earlier ++ ls))
unfolding lines_kept
clean_kept earlier [] clean = ap (λ ls. Ok (seen_after ls)) (sym (append-nil earlier))
clean_kept earlier (l ∷ ls) clean =
    ap (λ r. and_then r (λ _. lines_kept (earlier ++ (l ∷ [])) ls)) (good_kept earlier l clean.0)
    ∙ clean_kept (earlier ++ (l ∷ [])) ls clean.1
    ∙ ap (λ xs. Ok (seen_after xs)) (append_assoc earlier (l ∷ []) ls)

pub kept_clean : (earlier ls : List TextLine) (s : Seen) → lines_kept earlier ls ≡ Ok s → Clean earlier ls
unfolding lines_kept
kept_clean earlier [] s e = tt
kept_clean earlier (l ∷ ls) s e =
    let d = decision earlier l in
    elim d as (λ r. d ≡ r → and_then r (λ _. lines_kept (earlier ++ (l ∷ [])) ls) ≡ Ok s → Clean earlier (l ∷ ls)) [
      | Ok v ↦ (λ is k. (kept_good earlier l v is, kept_clean (earlier ++ (l ∷ [])) ls s k))
      | Err f ↦ (λ is k. cc)
    ] refl e

-- the first bad line after those before it
pub record Found (earlier ls : List TextLine) (f : TextFault) : Type 0 where
  pub before : List TextLine
  pub line : TextLine
  pub after : List TextLine
  pub place : ls ≡ before ++ (line ∷ after)
  pub clean : Clean earlier before
  pub bad : Bad (earlier ++ before) line f
  pub lowest : (g : TextFault) → Bad (earlier ++ before) line g → number_of f ≤ number_of g

pub stopped_found : (earlier ls : List TextLine) (f : TextFault) → lines_kept earlier ls ≡ Err f → Found earlier ls f
unfolding lines_kept
stopped_found earlier [] f e = cc
stopped_found earlier (l ∷ ls) f e =
    let d = decision earlier l in
    elim d as (λ r. d ≡ r → and_then r (λ _. lines_kept (earlier ++ (l ∷ [])) ls) ≡ Err f → Found earlier (l ∷ ls) f) [
      | Ok v ↦ (λ is k.
          let rest = stopped_found (earlier ++ (l ∷ [])) ls f k in
          let same = append_assoc earlier (l ∷ []) rest.before in
          record {
            before = l ∷ rest.before;
            line = rest.line;
            after = rest.after;
            place = ap (λ xs. l ∷ xs) rest.place;
            clean = (kept_good earlier l v is, rest.clean);
            bad = subst (λ xs. Bad xs rest.line f) same rest.bad;
            lowest = λ g b. rest.lowest g (subst (λ xs. Bad xs rest.line g) (sym same) b);
          })
      | Err g ↦ (λ is k.
          let same : g ≡ f = cc in
          let here = stopped_bad earlier l f (is ∙ ap Err same) in
          let nil = append-nil earlier in
          record {
            before = [];
            line = l;
            after = ls;
            place = refl;
            clean = tt;
            bad = subst (λ xs. Bad xs l f) (sym nil) here.0;
            lowest = λ h b. here.1 h (subst (λ xs. Bad xs l h) nil b);
          })
    ] refl e

bad_found : (earlier before : List TextLine) (line : TextLine) (after : List TextLine) (f : TextFault) → Clean earlier before → Bad (earlier ++ before) line f → ((g : TextFault) → Bad (earlier ++ before) line g → number_of f ≤ number_of g) → lines_kept earlier (before ++ (line ∷ after)) ≡ Err f
unfolding lines_kept
bad_found earlier [] line after f clean bad low =
    let nil = append-nil earlier in
    ap (λ r. and_then r (λ _. lines_kept (earlier ++ (line ∷ [])) after)) (bad_stops earlier line f (subst (λ xs. Bad xs line f) nil bad) (λ g b. low g (subst (λ xs. Bad xs line g) (sym nil) b)))
bad_found earlier (l ∷ before) line after f clean bad low =
    let same = append_assoc earlier (l ∷ []) before in
    ap (λ r. and_then r (λ _. lines_kept (earlier ++ (l ∷ [])) (before ++ (line ∷ after)))) (good_kept earlier l clean.0)
    ∙ bad_found (earlier ++ (l ∷ [])) before line after f clean.1 (subst (λ xs. Bad xs line f) (sym same) bad) (λ g b. low g (subst (λ xs. Bad xs line g) same b))

-- for a whole text
pub stopped_first : (ls : List TextLine) (f : TextFault) → lines_kept [] ls ≡ Err f → FirstBad ls f
stopped_first ls f e =
    let found = stopped_found [] ls f e in
    record { before = found.before; line = found.line; after = found.after; place = found.place; clean = found.clean; bad = found.bad; lowest = found.lowest }

pub first_stops : (ls : List TextLine) (f : TextFault) → FirstBad ls f → lines_kept [] ls ≡ Err f
first_stops ls f b = ap (lines_kept []) b.place ∙ bad_found [] b.before b.line b.after f b.clean b.bad b.lowest
