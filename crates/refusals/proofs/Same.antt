-- A line is bad by a refusal exactly if the rule of that refusal is broken. Assumes nothing.
use Rattle.std.proofs.Common.{◌≡◌, ℕ, ◌+◌, ◌<◌, true, false, cond, eqb, List, [], ◌∷◌, ◌++◌, fold, sym, refl, ap, ◌∙◌, subst, inl, inr, ⊎_elim, arith}
use Rattle.std.proofs.lemmas.Bool.{true≢false, not-true, not_from_false, eqb-false, eq-eqb, ne_eqb, ltb-true, lt-ltb, cases_Bool, cases_eq}
use Rattle.hexline.specs.declared.fault.TextFault.{TextFault}
use Rattle.hexline.specs.declared.fault.TextFault.TheVariants.{TooLong, NoColon, NoDigit, WrongLength, WrongSum, UnknownType, WrongShape, WrongUpper, Backward, PastTop, NoEnd, AfterEnd, NothingNamed, RowLength}
use Rattle.hexline.specs.declared.spot.Spot.{Spot}
use Rattle.hexline.specs.Faults.{rule, spot}
use Rattle.hexline.specs.Records.{count_on, address_on, type_on, upper_on, stray_on}
use Rattle.hexline.specs.Lines.{line_rules}
use Rattle.ihex.specs.Texts.{TextLine}
use Rattle.ihex.specs.Reads.{upper_next, end_next, ends_next, nothing_seen, seen_after, data_rules, order_rules, rules_beside}
use Rattle.refusals.specs.Bad.{NoneOf, end_on, At, Bad}
use Rattle.refusals.proofs.Broken.{Broken, Ascends, chain_ascends, broken_left, broken_right, broken_either}
use Rattle.refusals.proofs.Tests.{colon_off, off_colon, stray_so, stray_is, is_stray, missing_so, so_missing, sum_so, so_sum, unknown_so, so_unknown, shapes_so, so_shapes}
use Rattle.refusals.proofs.Lasts.{says_so, so_says, upper_seen, top_seen, ended_seen, ends_none, none_ends}

module _ (earlier : List TextLine) (l : TextLine) where
  abbrev chars : List ℕ
  chars = l.chars

  upper_is : (seen_after earlier).upper ≡ fold upper_next 0 earlier
  upper_is = upper_seen nothing_seen earlier

  top_is : (seen_after earlier).top ≡ fold end_next 0 earlier
  top_is = top_seen nothing_seen earlier

  ended_is : (seen_after earlier).ended ≡ fold ends_next false earlier
  ended_is = ended_seen nothing_seen earlier

  ended_rules : (seen_after earlier).ended ≡ true → rules_beside (seen_after earlier) l ≡ rule true (AfterEnd (spot l.number l.place)) ∷ []
  unfolding rules_beside
  ended_rules e = ap (λ b. cond b (rule true (AfterEnd (spot l.number l.place)) ∷ []) (line_rules l.number l.place l.chars ++ order_rules (seen_after earlier).upper (seen_after earlier).top l)) e

  going_rules : (seen_after earlier).ended ≡ false → rules_beside (seen_after earlier) l ≡ line_rules l.number l.place l.chars ++ order_rules (seen_after earlier).upper (seen_after earlier).top l
  unfolding rules_beside
  going_rules e = ap (λ b. cond b (rule true (AfterEnd (spot l.number l.place)) ∷ []) (line_rules l.number l.place l.chars ++ order_rules (seen_after earlier).upper (seen_after earlier).top l)) e

  -- data
  data_rules_lem : type_on l.chars ≡ 0 → order_rules (seen_after earlier).upper (seen_after earlier).top l ≡ data_rules (seen_after earlier).upper (seen_after earlier).top (address_on l.chars) (count_on l.chars) l.number l.place
  data_rules_lem t = ap (λ b. cond b (data_rules (seen_after earlier).upper (seen_after earlier).top (address_on l.chars) (count_on l.chars) l.number l.place) []) (eq-eqb (type_on l.chars) 0 t)

  other_rules : (type_on l.chars ≡ 0 → ⊥) → order_rules (seen_after earlier).upper (seen_after earlier).top l ≡ []
  other_rules t = ap (λ b. cond b (data_rules (seen_after earlier).upper (seen_after earlier).top (address_on l.chars) (count_on l.chars) l.number l.place) []) (ne_eqb (type_on l.chars) 0 t)

  module _ (none : NoneOf 1 earlier) where
    line_bad : (g : TextFault) → Broken (line_rules l.number l.place l.chars) g → Bad earlier l g
    line_bad g (inl b) = subst (Bad earlier l) b.1 (none, ((refl, refl), colon_off l.chars b.0))
    line_bad g (inr (inl b)) = subst (Bad earlier l) b.1 (none, (refl, (stray_on l.chars, refl, stray_so l.chars b.0)))
    line_bad g (inr (inr (inl b))) = subst (Bad earlier l) b.1 (none, ((refl, refl), missing_so l.chars b.0))
    line_bad g (inr (inr (inr (inl b)))) = subst (Bad earlier l) b.1 (none, ((refl, refl), sum_so l.chars b.0))
    line_bad g (inr (inr (inr (inr (inl b))))) = subst (Bad earlier l) b.1 (none, ((refl, refl), unknown_so l.chars b.0))
    line_bad g (inr (inr (inr (inr (inr (inl b)))))) = subst (Bad earlier l) b.1 (none, ((refl, refl), shapes_so l.chars b.0))
    line_bad g (inr (inr (inr (inr (inr (inr b)))))) = absurd b

    data_bad : type_on l.chars ≡ 0 → (g : TextFault) → Broken (data_rules (seen_after earlier).upper (seen_after earlier).top (address_on l.chars) (count_on l.chars) l.number l.place) g → Bad earlier l g
    data_bad t g (inl b) = subst (Bad earlier l) b.1 (none, ((refl, refl), (t, λ u s is. eqb-false (seen_after earlier).upper 0x2000 (not-true (eqb (seen_after earlier).upper 0x2000) b.0) (upper_is ∙ sym (so_says 4 upper_on earlier u s) ∙ is))))
    data_bad t g (inr (inl b)) = subst (Bad earlier l) b.1 (none, ((refl, refl), (t, λ e s. subst (λ n. address_on l.chars < n) (top_is ∙ sym (so_says 0 end_on earlier e s)) (ltb-true (address_on l.chars) (seen_after earlier).top b.0))))
    data_bad t g (inr (inr (inl b))) = subst (Bad earlier l) b.1 (none, ((refl, refl), (t, ltb-true 65536 (address_on l.chars + count_on l.chars) b.0)))
    data_bad t g (inr (inr (inr b))) = absurd b

    order_bad : (g : TextFault) → Broken (order_rules (seen_after earlier).upper (seen_after earlier).top l) g → Bad earlier l g
    order_bad g b =
        ⊎_elim (λ t. data_bad t g (subst (λ rs. Broken rs g) (data_rules_lem t) b)) (λ t. absurd (subst (λ rs. Broken rs g) (other_rules t) b)) (cases_eq (type_on l.chars) 0)

  -- a broken rule means that the line is bad by it
  pub broken_bad : (g : TextFault) → Broken (rules_beside (seen_after earlier) l) g → Bad earlier l g
  broken_bad g b =
      ⊎_elim
      (λ e. elim (subst (λ rs. Broken rs g) (ended_rules e) b) [ inl x ↦ subst (Bad earlier l) x.1 ((refl, refl), λ none. true≢false (sym e ∙ ended_is ∙ none_ends earlier none)) | inr x ↦ absurd x ])
      (λ e.
      let none = ends_none earlier (sym ended_is ∙ e) in
      ⊎_elim (line_bad none g) (order_bad none g) (broken_either (line_rules l.number l.place l.chars) (order_rules (seen_after earlier).upper (seen_after earlier).top l) g (subst (λ rs. Broken rs g) (going_rules e) b)))
      (cases_Bool (seen_after earlier).ended)

  module _ (none : NoneOf 1 earlier) where
    in_line : (g : TextFault) → Broken (line_rules l.number l.place l.chars) g → Broken (rules_beside (seen_after earlier) l) g
    in_line g b = subst (λ rs. Broken rs g) (sym (going_rules (ended_is ∙ none_ends earlier none))) (broken_left (line_rules l.number l.place l.chars) (order_rules (seen_after earlier).upper (seen_after earlier).top l) g b)

    in_data : (g : TextFault) → type_on l.chars ≡ 0 → Broken (data_rules (seen_after earlier).upper (seen_after earlier).top (address_on l.chars) (count_on l.chars) l.number l.place) g → Broken (rules_beside (seen_after earlier) l) g
    in_data g t b = subst (λ rs. Broken rs g) (sym (going_rules (ended_is ∙ none_ends earlier none))) (broken_right (line_rules l.number l.place l.chars) (order_rules (seen_after earlier).upper (seen_after earlier).top l) g (subst (λ rs. Broken rs g) (sym (data_rules_lem t)) b))

  at_line : (f : Spot → TextFault) (at : Spot) → At at l → f (spot l.number l.place) ≡ f at
  at_line f at here = ap (λ n. f (spot n l.place)) (sym here.0) ∙ ap (λ p. f (spot at.line p)) (sym here.1)

  -- a line that is bad breaks that rule
  pub bad_broken : (g : TextFault) → Bad earlier l g → Broken (rules_beside (seen_after earlier) l) g
  bad_broken (NoColon at) b = in_line b.0 _ (inl (off_colon l.chars b.1.1, at_line NoColon at b.1.0))
  bad_broken (NoDigit at) b = in_line b.0 _ (inr (inl (is_stray l.chars b.1.1.0 b.1.1.2, ap (λ n. NoDigit (spot n (l.place + stray_on l.chars))) (sym b.1.0) ∙ ap (λ p. NoDigit (spot at.line p)) (ap (λ k. l.place + k) (stray_is l.chars b.1.1.0 b.1.1.2) ∙ sym b.1.1.1))))
  bad_broken (WrongLength at) b = in_line b.0 _ (inr (inr (inl (so_missing l.chars b.1.1, at_line WrongLength at b.1.0))))
  bad_broken (WrongSum at) b = in_line b.0 _ (inr (inr (inr (inl (so_sum l.chars b.1.1, at_line WrongSum at b.1.0)))))
  bad_broken (UnknownType at) b = in_line b.0 _ (inr (inr (inr (inr (inl (so_unknown l.chars b.1.1, at_line UnknownType at b.1.0))))))
  bad_broken (WrongShape at) b = in_line b.0 _ (inr (inr (inr (inr (inr (inl (so_shapes l.chars b.1.1, at_line WrongShape at b.1.0)))))))
  bad_broken (WrongUpper at) b = in_data b.0 _ b.1.1.0 (inl (not_from_false (eqb (seen_after earlier).upper 0x2000) (ne_eqb (seen_after earlier).upper 0x2000 (λ e. b.1.1.1 (fold upper_next 0 earlier) (says_so 4 upper_on earlier) (sym upper_is ∙ e))), at_line WrongUpper at b.1.0))
  bad_broken (Backward at) b = in_data b.0 _ b.1.1.0 (inr (inl (lt-ltb (address_on l.chars) (seen_after earlier).top (subst (λ n. address_on l.chars < n) (sym top_is) (b.1.1.1 (fold end_next 0 earlier) (says_so 0 end_on earlier))), at_line Backward at b.1.0)))
  bad_broken (PastTop at) b = in_data b.0 _ b.1.1.0 (inr (inr (inl (lt-ltb 65536 (address_on l.chars + count_on l.chars) b.1.1.1, at_line PastTop at b.1.0))))
  bad_broken (AfterEnd at) b =
      ⊎_elim (λ e. subst (λ rs. Broken rs (AfterEnd at)) (sym (ended_rules e)) (inl (refl, at_line AfterEnd at b.0))) (λ e. absurd (b.1 (ends_none earlier (sym ended_is ∙ e)))) (cases_Bool (seen_after earlier).ended)
  bad_broken TooLong b = absurd b
  bad_broken (NoEnd at) b = absurd b
  bad_broken (NothingNamed at) b = absurd b
  bad_broken RowLength b = absurd b

  six : Ascends (line_rules l.number l.place l.chars ++ [])
  six = chain_ascends 0 (line_rules l.number l.place l.chars ++ []) (omega arith, (omega arith, (omega arith, (omega arith, (omega arith, (omega arith, tt))))))

  nine : Ascends (line_rules l.number l.place l.chars ++ data_rules (seen_after earlier).upper (seen_after earlier).top (address_on l.chars) (count_on l.chars) l.number l.place)
  nine = chain_ascends 0 (line_rules l.number l.place l.chars ++ data_rules (seen_after earlier).upper (seen_after earlier).top (address_on l.chars) (count_on l.chars) l.number l.place) (omega arith, (omega arith, (omega arith, (omega arith, (omega arith, (omega arith, (omega arith, (omega arith, (omega arith, tt)))))))))

  -- the rules stand in the order of their numbers
  pub rules_ascend : Ascends (rules_beside (seen_after earlier) l)
  rules_ascend =
      ⊎_elim (λ e. subst Ascends (sym (ended_rules e)) (tt, tt))
      (λ e. subst Ascends (sym (going_rules e)) (⊎_elim (λ t. subst (λ rs. Ascends (line_rules l.number l.place l.chars ++ rs)) (sym (data_rules_lem t)) nine) (λ t. subst (λ rs. Ascends (line_rules l.number l.place l.chars ++ rs)) (sym (other_rules t)) six) (cases_eq (type_on l.chars) 0)))
      (cases_Bool (seen_after earlier).ended)
