-- Each outcome is allowed. Assumes nothing.
use Rattle.std.proofs.Common.{◌≡◌, ℕ, Bool, true, false, eqb, ◌⊎◌, List, [], ◌∷◌, length, set, Result, sym, refl, ap, ◌∙◌, subst, inl, inr, ⊎_elim}
use Rattle.std.proofs.lemmas.List.{length-set}
use Rattle.std.proofs.lemmas.Bool.{both_ways}
use Rattle.bootloader.specs.declared.fault.FrameFault.{FrameFault}
use Rattle.bootloader.specs.Commands.{CommandIs}
use Rattle.bootloader.specs.Frames.{decode_of}
use Rattle.sensor.specs.declared.stage.Stage.{Stage}
use Rattle.sensor.specs.declared.stage.Stage.TheVariants.{Asleep as asleep, Starting as starting, Loader as loader, Application as application}
use Rattle.sensor.specs.Kinds.{KindIs}
use Rattle.sensor.specs.Exchanges.{Exchange, writes, reads, Answer, acknowledged, missed, filled, sized}
use Rattle.sensor.specs.Sensors.{Sensor, started, rested, answered, carried_out, counts, in_loader}
use Rattle.sensor.specs.declared.registers.Asked.{Asked}
use Rattle.sensor.specs.Meaning.{Noisy, Refused, Obeyed, Judged, Taken, Told, Written, AppShown, StatusShown, ShowsBusy, ShowsStatus, Shown, Does, Happens, Allowed, Means}
use Rattle.outcomes.specs.Allowed.{Other, Allows}

noisy_length_lem : (sent got : List ℕ) → Noisy sent got → length got ≡ length sent
noisy_length_lem sent got (inl e) = ap length e
noisy_length_lem sent got (inr c) = ap length c.is ∙ length-set sent c.at c.to

module _ (k : KindIs) where
  -- an exchange of a link's size happens as it may
  happens : (s : Sensor) (e : Exchange) (answer : Answer) (after : Sensor) → sized e ≡ true → Happens k s e answer after → Means k s e answer after
  happens s e answer after fits h = subst (λ (b : Bool). Allowed b k s e answer after) (sym fits) h

  -- without a start
  plain : (s : Sensor) (e : Exchange) (answer : Answer) (after : Sensor) → sized e ≡ true → Does k s e answer after → Means k s e answer after
  plain s e answer after fits d = happens s e answer after fits (record { one = s; two = after; before = inl refl; does = d; later = inl refl })

  off_size_lem : (s : Sensor) (e : Exchange) → sized e ≡ false → Means k s e missed s
  off_size_lem s e odd = subst (λ (b : Bool). Allowed b k s e missed s) (sym odd) (refl, refl)

  elsewhere : (s : Sensor) (register : ℕ) (bytes : List ℕ) (answer : Answer) (after : Sensor) → eqb register 0x08 ≡ false → Told k s register bytes answer after → Does k s (writes register bytes) answer after
  elsewhere s register bytes answer after other t = subst (λ (b : Bool). Written b k s register bytes answer after) (sym other) t

  counted : (s : Sensor) (got : List ℕ) (after : Sensor) → counts s ≡ true → Refused s after ⊎ Obeyed k s (decode_of got) after → Taken k s got after
  counted s got after c j = subst (λ (b : Bool). Judged b k s got after) (sym c) j

  passed_over : (s : Sensor) (got : List ℕ) → counts s ≡ false → Taken k s got s
  passed_over s got c = subst (λ (b : Bool). Judged b k s got s) (sym c) refl

  one_changed : (bytes : List ℕ) (at to : ℕ) → Other bytes at to → Noisy bytes (set bytes at to)
  one_changed bytes at to o = inr (record { at = at; to = to; inside = o.inside; byte = o.byte; other = o.other; is = refl })

  nothing : (s : Sensor) (e : Exchange) → sized e ≡ true → Does k s e missed s
  nothing s (writes register bytes) fits = quiet (eqb register 0x08)
    where
      quiet : (b : Bool) → Written b k s register bytes missed s
      quiet true = inl refl
      quiet false = inl refl
  nothing s (reads register count) fits = inl refl

  at_loader : (s : Sensor) (got : List ℕ) (after : Sensor) → s.stage ≡ loader → ShowsBusy s got after ⊎ ShowsStatus s got after → Does k s (reads 0x08 3) (filled got) after
  at_loader s got after l shown = (⊎_elim (λ b. noisy_length_lem _ got b.shown) (λ r. noisy_length_lem _ got r.shown) shown, subst (λ (g : Stage). StatusShown g s got after) (sym l) shown)

  outside : (g : Stage) (s : Sensor) (got : List ℕ) → in_loader g ≡ false → StatusShown g s got s
  outside asleep s got l = refl
  outside starting s got l = refl
  outside loader s got l = absurd (both_ways true l refl)
  outside application s got l = refl

  pub all_allowed : (s : Sensor) → Allows k s
  all_allowed s =
      record {
        is_carried_out = λ frame command working fits c says can. plain s (writes 0x08 frame) acknowledged (carried_out command working s) fits (frame, (inl refl, counted s frame (carried_out command working s) c (inr (subst (λ (r : Result CommandIs FrameFault). Obeyed k s r (carried_out command working s)) (sym says) (record { working = working; can = can; is = refl })))));
        refused = λ frame status working fits c some small. plain s (writes 0x08 frame) acknowledged (answered status working s) fits (frame, (inl refl, counted s frame (answered status working s) c (inl (record { status = status; working = working; some = some; small = small; is = refl }))));
        not_counted = λ frame fits c. plain s (writes 0x08 frame) acknowledged s fits (frame, (inl refl, passed_over s frame c));
        arrived_but_missed = λ frame after fits t. plain s (writes 0x08 frame) missed after fits (inr (frame, (inl (inl refl), t)));
        changed = λ frame at to after fits o t. plain s (writes 0x08 frame) acknowledged after fits (set frame at to, (one_changed frame at to o, t));
        changed_and_missed = λ frame at to after fits o t. plain s (writes 0x08 frame) missed after fits (inr (set frame at to, (inl (one_changed frame at to o), t)));
        cut_short = λ frame at after fits inside t. plain s (writes 0x08 frame) missed after fits (inr (_, (inr (record { at = at; inside = inside; is = refl }), t)));
        lost = λ e fits. plain s e missed s fits (nothing s e fits);
        told_acknowledged = λ register bytes fits other. plain s (writes register bytes) acknowledged _ fits (elsewhere s register bytes acknowledged _ other refl);
        told_but_missed = λ register bytes fits other. plain s (writes register bytes) missed _ fits (elsewhere s register bytes missed _ other (inr refl));
        status_shown = λ l. plain s (reads 0x08 3) _ (rested s) refl (at_loader s _ (rested s) l (inr (record { shown = inl refl; is = refl })));
        status_changed = λ at to l o. plain s (reads 0x08 3) _ (rested s) refl (at_loader s _ (rested s) l (inr (record { shown = one_changed _ at to o; is = refl })));
        busy_shown = λ number l works some small. plain s (reads 0x08 3) _ s refl (at_loader s _ s l (inl (record { number = number; some = some; small = small; shown = inl refl; works = works; is = refl })));
        busy_changed = λ number at to l works some small o. plain s (reads 0x08 3) _ s refl (at_loader s _ s l (inl (record { number = number; some = some; small = small; shown = one_changed _ at to o; works = works; is = refl })));
        enable_shown = λ value says. plain s (reads 0xE0 1) (filled (value ∷ [])) s refl (refl, (refl, says));
        loader_shown = λ l. plain s (reads 0x00 1) (filled (0x80 ∷ [])) s refl (refl, (refl, subst (λ (g : Stage). AppShown k g (0x80 ∷ [])) (sym l) refl));
        application_shown = λ a. plain s (reads 0x00 1) (filled (k.app ∷ [])) s refl (refl, (refl, subst (λ (g : Stage). AppShown k g (k.app ∷ [])) (sym a) refl));
        anything_shown = λ register count got fits other long. plain s (reads register count) (filled got) s fits (long, subst (λ (a : Asked). Shown a k s got s) (sym other) refl);
        anything_for_status = λ got l long. plain s (reads 0x08 3) (filled got) s refl (long, outside s.stage s got l);
        work_ended_unseen = λ register count fits. plain s (reads register count) missed (rested s) fits (inr refl);
        start_ended_unseen = λ register count fits is. happens s (reads register count) missed (started s) fits (record { one = s; two = s; before = inl refl; does = inl refl; later = inr (is, refl) });
        start_before = λ e answer after fits is d. happens s e answer after fits (record { one = started s; two = after; before = inr (is, refl); does = d; later = inl refl });
        start_after = λ e answer two fits d is. happens s e answer (started two) fits (record { one = s; two = two; before = inl refl; does = d; later = inr (is, refl) });
        other_size = λ e odd. off_size_lem s e odd;
      }
