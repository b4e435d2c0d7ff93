-- Nothing else is allowed. Assumes nothing.
use Rattle.std.proofs.Common.{◌≡◌, ℕ, Bool, true, false, not, eqb, ◌⊎◌, List, [], ◌∷◌, get_or, is_ok, Ok, Err, Result, sym, refl, ap, ◌∙◌, subst, inl, inr, ⊎_elim}
use lib.Seq.{sets}
use Rattle.std.proofs.lemmas.Bool.{both_ways, eqb-true, and_parts}
use Rattle.bootloader.specs.declared.fault.FrameFault.{FrameFault}
use Rattle.bootloader.specs.Commands.{CommandIs, ram_remap_reset, rom_remap_reset, download_init, write_ram, addr_ram}
use Rattle.bootloader.specs.Frames.{decode_of, well_formed}
use Rattle.bootloader.proofs.Changing.{change_refused}
use Rattle.sensor.specs.declared.enable.Order.{Order}
use Rattle.sensor.specs.declared.enable.Order.TheVariants.{Wake, Sleep, Other}
use Rattle.sensor.specs.declared.stage.Stage.{Stage}
use Rattle.sensor.specs.declared.stage.Stage.TheVariants.{Asleep as asleep, Starting as starting, Loader as loader, Application as application}
use Rattle.sensor.specs.Kinds.{KindIs, seen, ordered}
use Rattle.sensor.specs.Exchanges.{Exchange, writes, reads, Answer, acknowledged, missed, filled, sized}
use Rattle.sensor.specs.Sensors.{Sensor, after_order, woken, rested, carried_out, able, counts, in_loader}
use Rattle.sensor.specs.declared.registers.Asked.{Asked}
use Rattle.sensor.specs.declared.registers.Asked.TheVariants.{Status as status_asked, Stage as enable_asked, App as app_asked, Other as other_asked}
use Rattle.sensor.specs.Meaning.{Noisy, CutShort, Refused, CarriedOut, Obeyed, Judged, Taken, FrameSent, Told, Written, told, enable_at, AppShown, StatusShown, asked, Shown, Does, MayStart, Happens, Allowed, Means}
use Rattle.sensor.specs.Machines.{Machine}
use Rattle.outcomes.specs.Bounds.{Bytes, WroteRam, ShownRight, Bounded, ForgetsNothing}

module _ (k : KindIs) where
  happened : (s : Sensor) (e : Exchange) (answer : Answer) (after : Sensor) → sized e ≡ true → Means k s e answer after → Happens k s e answer after
  happened s e answer after fits m = subst (λ (b : Bool). Allowed b k s e answer after) fits m

  odd_size : (s : Sensor) (e : Exchange) (answer : Answer) (after : Sensor) → sized e ≡ false → Means k s e answer after → (answer ≡ missed) × (after ≡ s)
  odd_size s e answer after odd m = subst (λ (b : Bool). Allowed b k s e answer after) odd m

  -- what leaves the RAM

  start_ram : (s t : Sensor) → MayStart s t → t.ram ≡ s.ram
  start_ram s t (inl e) = ap (λ (x : Sensor). x.ram) e
  start_ram s t (inr e) = ap (λ (x : Sensor). x.ram) e.1

  woken_ram : (g : Stage) (s : Sensor) → (woken g s).ram ≡ s.ram
  woken_ram asleep s = refl
  woken_ram starting s = refl
  woken_ram loader s = refl
  woken_ram application s = refl

  order_ram : (o : Order) (s : Sensor) → (after_order o s).ram ≡ s.ram
  order_ram Wake s = woken_ram s.stage s
  order_ram Sleep s = refl
  order_ram Other s = refl

  told_ram : (b : Bool) (bytes : List ℕ) (s : Sensor) → (told k b bytes s).ram ≡ s.ram
  told_ram true [] s = refl
  told_ram true (byte ∷ []) s = order_ram (ordered k byte) s
  told_ram true (byte ∷ second ∷ rest) s = refl
  told_ram false bytes s = refl

  same : (s t : Sensor) → t ≡ s → t.ram ≡ s.ram
  same s t e = ap (λ (x : Sensor). x.ram) e

  told_kept : (s : Sensor) (register : ℕ) (bytes : List ℕ) (answer : Answer) (after : Sensor) → Told k s register bytes answer after → after.ram ≡ s.ram
  told_kept s register bytes acknowledged after t = same _ _ t ∙ told_ram (eqb register 0xE0) bytes s
  told_kept s register bytes missed after t = ⊎_elim (same s after) (λ e. same _ _ e ∙ told_ram (eqb register 0xE0) bytes s) t
  told_kept s register bytes (filled got) after t = absurd t

  status_kept : (g : Stage) (s : Sensor) (got : List ℕ) (after : Sensor) → StatusShown g s got after → after.ram ≡ s.ram
  status_kept asleep s got after e = same s after e
  status_kept starting s got after e = same s after e
  status_kept loader s got after e = ⊎_elim (λ b. same s after b.is) (λ r. same (rested s) after r.is) e
  status_kept application s got after e = same s after e

  shown_kept : (a : Asked) (s : Sensor) (got : List ℕ) (after : Sensor) → Shown a k s got after → after.ram ≡ s.ram
  shown_kept status_asked s got after e = status_kept s.stage s got after e
  shown_kept enable_asked s got after e = same s after e.0
  shown_kept app_asked s got after e = same s after e.0
  shown_kept other_asked s got after e = same s after e

  read_kept : (s : Sensor) (register count : ℕ) (answer : Answer) (after : Sensor) → Does k s (reads register count) answer after → after.ram ≡ s.ram
  read_kept s register count acknowledged after d = absurd d
  read_kept s register count missed after d = ⊎_elim (same s after) (same (rested s) after) d
  read_kept s register count (filled got) after d = shown_kept (asked register count) s got after d.1

  -- what frames do to it

  pub record Stored (s : Sensor) (got : List ℕ) (after : Sensor) : Type 0 where
    bytes : List ℕ
    says : decode_of got ≡ Ok (write_ram bytes)
    counted : counts s ≡ true
    could : able k.window s (write_ram bytes) ≡ true
    is : after.ram ≡ sets s.ram s.pointer bytes

  obeyed_ram : (s : Sensor) (got : List ℕ) (after : Sensor) (r : Result CommandIs FrameFault) → decode_of got ≡ r → counts s ≡ true → Obeyed k s r after → (after.ram ≡ s.ram) ⊎ Stored s got after
  obeyed_ram s got after (Err f) e c o = absurd o
  obeyed_ram s got after (Ok ram_remap_reset) e c o = inl (same _ after o.is)
  obeyed_ram s got after (Ok rom_remap_reset) e c o = inl (same _ after o.is)
  obeyed_ram s got after (Ok download_init) e c o = inl (same _ after o.is)
  obeyed_ram s got after (Ok (addr_ram address)) e c o = inl (same _ after o.is)
  obeyed_ram s got after (Ok (write_ram bytes)) e c o = inr (record { bytes = bytes; says = e; counted = c; could = o.can; is = same _ after o.is })

  judged_ram : (b : Bool) (s : Sensor) (got : List ℕ) (after : Sensor) → counts s ≡ b → Judged b k s got after → (after.ram ≡ s.ram) ⊎ Stored s got after
  judged_ram true s got after c (inl r) = inl (same _ after r.is)
  judged_ram true s got after c (inr o) = obeyed_ram s got after (decode_of got) refl c o
  judged_ram false s got after c e = inl (same s after e)

  abbrev Kept : Sensor → Exchange → Sensor → Type 0
  Kept s e after = (after.ram ≡ s.ram) ⊎ WroteRam k s e after

  arrived :
      (s one : Sensor) (sent got : List ℕ) (two after : Sensor) → MayStart s one → MayStart two after → Noisy sent got ⊎ CutShort sent got → Taken k one got two
      → Kept s (writes 0x08 sent) after
  arrived s one sent got two after before later way t =
      ⊎_elim
      (λ e. inl (start_ram two after later ∙ e ∙ start_ram s one before))
      (λ w. inr (record { sent = sent; got = got; bytes = w.bytes; one = one; started = before; is_frame = refl; way = way; says = w.says; counted = w.counted; could = w.could; is = start_ram two after later ∙ w.is ∙ ap (λ (l : List ℕ). sets l one.pointer w.bytes) (start_ram s one before) }))
      (judged_ram (counts one) one got two refl t)

  frame_kept : (s one : Sensor) (sent : List ℕ) (answer : Answer) (two after : Sensor) → MayStart s one → MayStart two after → FrameSent k one sent answer two → Kept s (writes 0x08 sent) after
  frame_kept s one sent acknowledged two after before later f = arrived s one sent f.0 two after before later (inl f.1.0) f.1.1
  frame_kept s one sent missed two after before later (inl e) = inl (start_ram two after later ∙ same one two e ∙ start_ram s one before)
  frame_kept s one sent missed two after before later (inr f) = arrived s one sent f.0 two after before later f.1.0 f.1.1
  frame_kept s one sent (filled got) two after before later f = absurd f

  written_kept :
      (b : Bool) (s one : Sensor) (register : ℕ) (bytes : List ℕ) (answer : Answer) (two after : Sensor) → eqb register 0x08 ≡ b → MayStart s one → MayStart two after → Written b k one register bytes answer two
      → Kept s (writes register bytes) after
  written_kept true s one register bytes answer two after r before later w =
      subst (λ (n : ℕ). Kept s (writes n bytes) after) (sym (eqb-true register 0x08 r)) (frame_kept s one bytes answer two after before later w)
  written_kept false s one register bytes answer two after r before later w = inl (start_ram two after later ∙ told_kept one register bytes answer two w ∙ start_ram s one before)

  happened_ram : (s : Sensor) (e : Exchange) (answer : Answer) (after : Sensor) → Happens k s e answer after → Kept s e after
  happened_ram s (writes register bytes) answer after h = written_kept (eqb register 0x08) s h.one register bytes answer h.two after refl h.before h.later h.does
  happened_ram s (reads register count) answer after h = inl (start_ram h.two after h.later ∙ read_kept h.one register count answer h.two h.does ∙ start_ram s h.one h.before)

  allowed_ram : (b : Bool) (s : Sensor) (e : Exchange) (answer : Answer) (after : Sensor) → Allowed b k s e answer after → Kept s e after
  allowed_ram true s e answer after h = happened_ram s e answer after h
  allowed_ram false s e answer after h = inl (same s after h.1)

  right : (s : Sensor) (shows : Sensor → Type 0) (after one two : Sensor) → MayStart s one → shows one → two ≡ one → MayStart two after → ShownRight k s shows after
  right s shows after one two before r e later = record { one = one; before = before; right = r; later = subst (λ (x : Sensor). MayStart x after) e later }

  pub all_bounded : (s : Sensor) → Bounded k s
  all_bounded s =
      record {
        other_size = odd_size s;
        enable_right = λ got after m. right s (λ one. seen k (get_or got 0 0) ≡ enable_at one.stage) after m.one m.two m.before m.does.1.1 m.does.1.0 m.later;
        app_right = λ got after m. right s (λ one. AppShown k one.stage got) after m.one m.two m.before m.does.1.1 m.does.1.0 m.later;
        ram_kept = λ e answer after m. allowed_ram (sized e) s e answer after m;
      }

  -- an acknowledged frame is not forgotten

  in_loader_lem : (s : Sensor) → counts s ≡ true → in_loader s.stage ≡ true
  in_loader_lem s c = (and_parts (in_loader s.stage) (not s.working) c).0

  stays : (s t : Sensor) → in_loader s.stage ≡ true → MayStart s t → t ≡ s
  stays s t l (inl e) = e
  stays s t l (inr e) = absurd (both_ways (in_loader s.stage) (ap in_loader e.0) l)

  ill_formed : (s after : Sensor) (r : Result CommandIs FrameFault) → is_ok r ≡ false → Obeyed k s r after → ⊥
  ill_formed s after (Ok command) e o = both_ways true e refl
  ill_formed s after (Err fault) e o = o

  abbrev Left : Sensor → List ℕ → Sensor → Type 0
  Left s bytes after = ((working : Bool) × (after ≡ carried_out (write_ram bytes) working s)) ⊎ Refused s after

  judged_left : (s : Sensor) (frame got bytes : List ℕ) (after : Sensor) → Bytes frame → decode_of frame ≡ Ok (write_ram bytes) → Noisy frame got → Refused s after ⊎ Obeyed k s (decode_of got) after → Left s bytes after
  judged_left s frame got bytes after fits says noisy (inl r) = inr r
  judged_left s frame got bytes after fits says (inl e) (inr o) =
      let done : CarriedOut k s (write_ram bytes) after = subst (λ (r : Result CommandIs FrameFault). Obeyed k s r after) (ap decode_of e ∙ says) o in
      inl (done.working, done.is)
  judged_left s frame got bytes after fits says (inr c) (inr o) =
      absurd (ill_formed s after (decode_of got) (ap well_formed c.is ∙ change_refused frame fits (ap is_ok says) c.at c.to c.inside c.byte c.other) o)

  left_stays : (s : Sensor) (bytes : List ℕ) (two : Sensor) → Left s bytes two → two.stage ≡ s.stage
  left_stays s bytes two (inl w) = ap (λ (x : Sensor). x.stage) w.1
  left_stays s bytes two (inr r) = ap (λ (x : Sensor). x.stage) r.is

  heard_left :
      (s one : Sensor) (frame bytes : List ℕ) (two after : Sensor) → Bytes frame → decode_of frame ≡ Ok (write_ram bytes) → counts s ≡ true
      → one ≡ s → FrameSent k one frame acknowledged two → MayStart two after → Left s bytes after
  heard_left s one frame bytes two after fits says c e f later =
      let sent : FrameSent k s frame acknowledged two = subst (λ (x : Sensor). FrameSent k x frame acknowledged two) e f in
      let judged : Refused s two ⊎ Obeyed k s (decode_of sent.0) two = subst (λ (b : Bool). Judged b k s sent.0 two) c sent.1.1 in
      let left = judged_left s frame sent.0 bytes two fits says sent.1.0 judged in
      let quiet : after ≡ two = stays two after (ap in_loader (left_stays s bytes two left) ∙ in_loader_lem s c) later in
      subst (Left s bytes) (sym quiet) left

  happened_left : (b : Bool) (s : Sensor) (frame bytes : List ℕ) (after : Sensor) → Bytes frame → decode_of frame ≡ Ok (write_ram bytes) → counts s ≡ true → Allowed b k s (writes 0x08 frame) acknowledged after → Left s bytes after
  happened_left true s frame bytes after fits says c h = heard_left s h.one frame bytes h.two after fits says c (stays s h.one (in_loader_lem s c) h.before) h.does h.later
  happened_left false s frame bytes after fits says c h = absurd (heard_not h.0)
    where
      heard : Answer → Bool
      heard acknowledged = true
      heard missed = false
      heard (filled bytes) = false

      heard_not : acknowledged ≡ missed → ⊥
      heard_not e = both_ways true (ap heard e) refl

pub forgets_nothing : {S : Type 0} (machine : Machine S) (s : S) → ForgetsNothing machine s
forgets_nothing machine s frame bytes fits says c can heard =
    happened_left machine.kind (sized (writes 0x08 frame)) (machine.sensor s) frame bytes (machine.sensor (machine.step s (writes 0x08 frame)).next) fits says c
    (subst (λ (a : Answer). Means machine.kind (machine.sensor s) (writes 0x08 frame) a (machine.sensor (machine.step s (writes 0x08 frame)).next)) heard (machine.lawful s (writes 0x08 frame)))
