-- The last line that names an address. Assumes nothing.
use Rattle.std.proofs.Common.{◌≡◌, ℕ, ◌+◌, ◌-◌, ◌*◌, ◌/◌, ◌<◌, cond, ltb, leb, ◌⊎◌, List, [], ◌∷◌, ◌++◌, length, get_or, Some, None, fold, Option, sym, refl, ap, ◌∙◌, inl, inr, ⊎_elim, arith}
use Rattle.std.proofs.lemmas.Bool.{le-leb, lt-leb, lt-ltb, le-ltb, and_from, and_left, and_right, cases_lt}
use Rattle.std.specs.List.{AllByRecursion}
use Rattle.std.proofs.lemmas.List.Sums.{fold-append}
use Rattle.hexline.specs.Digits.{pair_value}
use Rattle.hexline.proofs.Pairs.{get_or_pairs, length_pairs}
use Rattle.ihex.specs.Named.{DataIs, bytes_in, data_lines, byte_at, held, named_next, named}
use Rattle.naming.specs.Bytes.{Names, Holds, ByLast}

some_same : (b c : ℕ) → ◌≡◌ {A = Option ℕ} (Some b) (Some c) → b ≡ c
some_same b c e = cc

some_none : (b : ℕ) → ◌≡◌ {A = Option ℕ} (Some b) None → ⊥
some_none b e = cc

module _ (a : ℕ) where
  named_here : (d : DataIs) → Names d a → byte_at d.address (bytes_in d) a ≡ Some (get_or (bytes_in d) (a - d.address) 0)
  named_here d n =
      let long = length_pairs d.digits in
      ap (λ t. cond t (Some (get_or (bytes_in d) (a - d.address) 0)) None) (and_from (leb d.address a) (ltb a (d.address + length (bytes_in d))) (le-leb d.address a n.0) (lt-ltb a (d.address + length (bytes_in d)) (omega (arith, n.1))))

  named_not : (d : DataIs) → (Names d a → ⊥) → byte_at d.address (bytes_in d) a ≡ None
  named_not d none =
      let long = length_pairs d.digits in
      ap (λ t. cond t (Some (get_or (bytes_in d) (a - d.address) 0)) None)
      (⊎_elim (λ below. and_left (leb d.address a) (ltb a (d.address + length (bytes_in d))) (lt-leb d.address a below))
      (λ above. and_right (leb d.address a) (ltb a (d.address + length (bytes_in d))) (⊎_elim (λ within. absurd (none (above, omega arith))) (λ past. le-ltb a (d.address + length (bytes_in d)) past) (cases_lt a (d.address + length (bytes_in d)))))
      (cases_lt a d.address))

  names_or_not : (d : DataIs) → Names d a ⊎ (Names d a → ⊥)
  names_or_not d =
      ⊎_elim (λ below. inr (λ n. omega (arith, n.0))) (λ above. ⊎_elim (λ within. inl (above, within)) (λ past. inr (λ n. omega (arith, n.1))) (cases_lt a (d.address + length d.digits / 2))) (cases_lt a d.address)

  -- as in a text, of any lines
  record HoldsIn (ds : List DataIs) (b : ℕ) : Type 0 where
    before : List DataIs
    line : DataIs
    after : List DataIs
    place : ds ≡ before ++ (line ∷ after)
    here : Names line a
    byte : b ≡ get_or (bytes_in line) (a - line.address) 0
    last : AllByRecursion (λ d. Names d a → ⊥) after

  stays : (ds : List DataIs) (o : Option ℕ) → AllByRecursion (λ d. Names d a → ⊥) ds → fold (named_next a) o ds ≡ o
  stays [] o none = refl
  stays (d ∷ ds) o none = ap (λ p. fold (named_next a) (held o p) ds) (named_not d none.0) ∙ stays ds o none.1

  found : (ds : List DataIs) (o : Option ℕ) (b : ℕ) → fold (named_next a) o ds ≡ Some b → ((o ≡ Some b) × AllByRecursion (λ d. Names d a → ⊥) ds) ⊎ HoldsIn ds b
  found [] o b e = inl (e, tt)
  found (d ∷ ds) o b e =
      elim (found ds (named_next a o d) b e) [
        | inl p ↦ ⊎_elim
            (λ n. inr (record { before = []; line = d; after = ds; place = refl; here = n; byte = sym (some_same (get_or (bytes_in d) (a - d.address) 0) b (sym (ap (held o) (named_here d n)) ∙ p.0)); last = p.1 }))
            (λ n. inl (sym (ap (held o) (named_not d n)) ∙ p.0, (n, p.1)))
            (names_or_not d)
        | inr h ↦ inr (record { before = d ∷ h.before; line = h.line; after = h.after; place = ap (λ xs. d ∷ xs) h.place; here = h.here; byte = h.byte; last = h.last })
      ]

  held_in : (before : List DataIs) (line : DataIs) (after : List DataIs) (o : Option ℕ) → Names line a → AllByRecursion (λ d. Names d a → ⊥) after → fold (named_next a) o (before ++ (line ∷ after)) ≡ Some (get_or (bytes_in line) (a - line.address) 0)
  held_in before line after o here last =
      fold-append (named_next a) o before (line ∷ after)
      ∙ ap (λ p. fold (named_next a) (held (fold (named_next a) o before) p) after) (named_here line here)
      ∙ stays after (Some (get_or (bytes_in line) (a - line.address) 0)) last

  free_in : (ds : List DataIs) (o : Option ℕ) → fold (named_next a) o ds ≡ None → (o ≡ None) × AllByRecursion (λ d. Names d a → ⊥) ds
  free_in [] o e = (e, tt)
  free_in (d ∷ ds) o e =
      let rest = free_in ds (named_next a o d) e in
      ⊎_elim
      (λ n. absurd (some_none (get_or (bytes_in d) (a - d.address) 0) (sym (ap (held o) (named_here d n)) ∙ rest.0)))
      (λ n. (sym (ap (held o) (named_not d n)) ∙ rest.0, (n, rest.1)))
      (names_or_not d)

-- the byte of a pair
pair_byte : (d : DataIs) (k : ℕ) → k < length d.digits / 2 → get_or (bytes_in d) k 0 ≡ pair_value (get_or d.digits (2 * k) 0) (get_or d.digits (2 * k + 1) 0)
pair_byte d k within = get_or_pairs k d.digits (omega arith)

pub by_last : (text : List ℕ) → ByLast text
by_last text =
    record {
      holds = λ a b e. elim (found a (data_lines text) None b e) [ inl p ↦ absurd (some_none b (sym p.0)) | inr h ↦ holds a b h ];
      held = λ a b h. held_at a b h;
      free = λ a e. (free_in a (data_lines text) None e).1;
      freed = λ a all. stays a (data_lines text) None all;
    }
  where
    holds : (a b : ℕ) → HoldsIn a (data_lines text) b → Holds text a b
    holds a b h =
        let k = a - h.line.address in
        let within : k < length h.line.digits / 2 = omega (arith, h.here.0, h.here.1) in
        record { before = h.before; line = h.line; after = h.after; place = h.place; pair = k; within = within; address = omega (arith, h.here.0); byte = h.byte ∙ pair_byte h.line k within; last = h.last }

    held_at : (a b : ℕ) → Holds text a b → named text a ≡ Some b
    held_at a b h =
        let here : Names h.line a = (omega (arith, h.address), omega (arith, h.address, h.within)) in
        let back : a - h.line.address ≡ h.pair = omega (arith, h.address) in
        ap (λ ds. fold (named_next a) None ds) h.place
        ∙ held_in a h.before h.line h.after None here h.last
        ∙ ap (λ k. Some (get_or (bytes_in h.line) k 0)) back
        ∙ ap Some (pair_byte h.line h.pair h.within ∙ sym h.byte)
