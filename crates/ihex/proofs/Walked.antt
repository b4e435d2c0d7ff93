-- A walk over data lines. Assumes nothing.
use Rattle.std.proofs.Common.{◌≡◌, ℕ, ◌+◌, ◌≤◌, suc, true, cond, List, [], ◌∷◌, ◌++◌, length, Some, None, Option, MatchOption, IfSome, sym, ap, ◌∙◌, subst, arith}
use Rattle.std.proofs.lemmas.Bool.{eq-eqb, ne_eqb}
use Rattle.std.specs.Fn.{Called}
use denote.Param.Members.{Mut}
use Rattle.std.specs.Iterator.{Yields, YieldsThen, FindsMapped}
use Rattle.std.specs.Iterator.Runs.{YieldsRun, SomeRun, AllItemsGive, CallKeepsClosure}
use Rattle.std.specs.List.{flat_map, FoldsTo, AllByRecursion, slice_get}
use Rattle.hexline.specs.Records.{type_on, address_on, data_digits}
use Rattle.ihex.specs.declared.lines.TextLine as declared
use Rattle.ihex.specs.declared.lines.Lines.{Lines}
use Rattle.ihex.specs.declared.walk.DataLine.{DataLine}
use Rattle.ihex.specs.Texts.{TextLine}
use Rattle.ihex.specs.Named.{DataIs, data_in}
use Rattle.ihex.specs.Walks.{said_text, lines_from, TextStep, said_data, SaysData}

abbrev pub walk_found : ℕ → ℕ → ℕ → List ℕ → DataIs
walk_found n p a d = record { address = a; digits = d; line = n; place = p }

module _ (n p : ℕ) (chars : List ℕ) (ls : List TextLine) where
  abbrev line : TextLine
  line = record { number = n; place = p; chars = chars }

  abbrev found : DataIs
  found = walk_found n p (address_on chars) (data_digits chars)

  pub walk_skips : (type_on chars ≡ 0 → ⊥) → flat_map data_in (line ∷ ls) ≡ flat_map data_in ls
  walk_skips other = ap (λ b. cond b (found ∷ []) [] ++ flat_map data_in ls) (ne_eqb (type_on chars) 0 other)

  pub walk_finds : type_on chars ≡ 0 → flat_map data_in (line ∷ ls) ≡ found ∷ flat_map data_in ls
  walk_finds is = ap (λ b. cond b (found ∷ []) [] ++ flat_map data_in ls) (eq-eqb (type_on chars) 0 is)

abbrev pub data_from : Lines → List DataIs
data_from w = flat_map data_in (lines_from w)

-- lines without data change nothing
walk_past : (xs : List declared.TextLine) (s t : Lines) → Yields TextStep s xs t → AllByRecursion (λ l. data_in (said_text l) ≡ []) xs → (data_from s ≡ data_from t) × (s.at.place ≤ t.at.place)
walk_past [] s t y none = (ap data_from y, omega (arith, ap (λ w. w.at.place) y))
walk_past (x ∷ xs) s t y none =
    let rest = walk_past xs y.0 t y.2 none.1 in
    let here : data_from s ≡ data_from y.0 = ap (flat_map data_in) y.1.0 ∙ ap (λ ds. ds ++ data_from y.0) none.0 in
    (here ∙ rest.0, omega (arith, y.1.2.1, rest.1))

-- `find_map` over the lines, by a call that says of each line what it has
module _ {F : Type 0} (g : Mut F (declared.TextLine × Unit {0}) (Option DataLine)) (says : (p q : F) (l : declared.TextLine) (r : Option DataLine) → Called g p (l, tt) r q → SaysData l r) where
  folded_none : (xs : List declared.TextLine) (f h : F) → FoldsTo (λ p l q. Called g p (l, tt) None q) f xs h → AllByRecursion (λ l. data_in (said_text l) ≡ []) xs
  folded_none [] f h k = tt
  folded_none (x ∷ xs) f h k = (says f k.0 x None k.1, folded_none xs k.0 h k.2)

  given_none : (xs : List declared.TextLine) (f : F) → ((k : ℕ) → IfSome (slice_get xs k) (λ l. Called g f (l, tt) None f)) → AllByRecursion (λ l. data_in (said_text l) ≡ []) xs
  given_none [] f given = tt
  given_none (x ∷ xs) f given = (says f f x None (given 0), given_none xs f (λ k. given (suc k)))

  module _ (s u : Lines) (f : F) where
    found_at : (d : DataLine) (xs : List declared.TextLine) (o : Option declared.TextLine) (h : F) → YieldsThen TextStep s xs o u → FoldsTo (λ p l q. Called g p (l, tt) None q) f xs h → MatchOption o (◌≡◌ {A = Option DataLine} (Some d) None) (λ l. (q : F) × Called g h (l, tt) (Some d) q) → (data_from s ≡ said_data d ∷ data_from u) × (s.at.place + length d.digits.now ≤ u.at.place) × (length d.digits.now ≤ 510)
    found_at d xs None h y k e = cc
    found_at d xs (Some x) h y k e =
        let past = walk_past xs s y.0 y.1 (folded_none xs f h k) in
        let here = says h e.0 x (Some d) e.1 in (
          past.0 ∙ ap (flat_map data_in) y.2.0 ∙ ap (λ ds. ds ++ data_from u) here.0,
          omega (arith, past.1, y.2.2.2, here.1),
          here.2,
        )

    pub walk_first : (d : DataLine) → FindsMapped TextStep g s f (Some d) u → (data_from s ≡ said_data d ∷ data_from u) × (s.at.place + length d.digits.now ≤ u.at.place) × (length d.digits.now ≤ 510)
    walk_first d ran = found_at d ran.0 ran.1 ran.2 ran.3 ran.4 ran.5

  pub walk_none : (s : Lines) (f : F) → CallKeepsClosure g f → SomeRun TextStep s (λ p. (p.whole ≡ true) × AllItemsGive p g f None) → data_from s ≡ []
  unfolding YieldsRun
  walk_none s f keeps run =
      let p = run.0 in
      let drained = p.gave.0 in
      let past = walk_past p.items p.from drained.0 drained.1 (given_none p.items f (λ k. subst (λ o. IfSome o (λ l. Called g f (l, tt) None f)) (p.gave.1 k) (run.2.1 keeps k))) in
      let end = drained.2 run.2.0 in
      ap data_from (sym run.1) ∙ past.0 ∙ ap (flat_map data_in) end.1.0.0
