-- The state of a dump device behind each of its calls.
use Rattle.std.specs.Prelude.{Result, Ok, Err, IfSome, IsTrue, OnErr, OnOk, option_map}
use Rattle.std.proofs.Common.{◌≡◌, ℕ, ◌+◌, ◌-◌, ◌^◌, ◌<◌, ◌≤◌, List, [], ◌∷◌, Option, Some, None, true, inl, inr, ⊎_elim, refl, ap, sym, ◌∙◌, subst, arith}
use Rattle.disk_model.specs.Frame.{IsLater}
use Rattle.disk_model.specs.Held.{Held, IsThere, Rose}
use Rattle.disk_model.specs.declared.disk.Disk as disk
use Rattle.tmf_model.specs.Config.{IsWithin}
use Rattle.tmf_model.specs.RecordMap.{RecordMap}
use Rattle.keyed_file.specs.declared.dump_label.DumpLabel.{DumpLabel}
use Rattle.keyed_file.specs.Dump.{SpellsDumpLabel}
use Rattle.chronicle.specs.Seats.{Knows}
use Rattle.chronicle.proofs.Facts.{known_of_part}
use Rattle.audit_writer.specs.Writer.{IsHandedIn}
use Rattle.node_machine.specs.declared.event.By.{By}
use Rattle.node_machine.specs.declared.event.DumpEvent.{DumpEvent}
use Rattle.node_machine.specs.declared.event.DumpEvent.TheVariants.{Failed}
use Rattle.node_machine.specs.Disc.{start_of}
use Rattle.node_machine.specs.Dump.{IsOver, landed_here, landed_label, offered_label}
use Rattle.node_machine.specs.Made.{map_of}
use Rattle.node_machine.specs.Node.{node}
use Rattle.node_machine.specs.Opening.{Found, found_volume}
use Rattle.node_machine.specs.Parts.{Entry, DumpPart, DumpStart, PartState}
use Rattle.node_machine.specs.Parts.Fact.{Over}
use Rattle.node_machine.specs.Parts.PartState.{Dump}
use Rattle.online_dump.specs.Copies.{HasBodies, ToldBy}
use Rattle.online_dump.specs.Dumper.{AreStarted, Dumper, IsCopying, IsDumper, IsNamed, IsOpened, IsRise, IsTied, IsWellFound, ShowsAllowed, base_found, device_of, failures, first_held}
use Rattle.online_dump.specs.Filling.{HoldsDump, IsNext, ShowsDumpLabel}
use Rattle.online_dump.specs.Found.{DumpView, IsFoundDump, IsSealed, start_in}
use Rattle.online_dump.specs.Sealing.{ShowsFound}
use Rattle.online_dump.specs.Seat.{DumpSight, HasStepped, IsDumpAt}
use Rattle.online_dump.specs.declared.copying.Copying.{Copying}
use Rattle.online_dump.specs.declared.sealed.SealedDump.{SealedDump}
use Rattle.online_dump.proofs.Seats.{had_none}

-- ANSWERS

pub on_ok : {T E P Q : Type 0} (r : Result T E) → (P → Q) → OnOk r P → OnOk r Q
on_ok (Ok x) f p = f p
on_ok (Err e) f p = tt

pub on_ok2 : {T E P Q R : Type 0} (r : Result T E) → (P → Q → R) → OnOk r P → OnOk r Q → OnOk r R
on_ok2 (Ok x) f p q = f p q
on_ok2 (Err e) f p q = tt

pub on_ok3 : {T E P Q R S : Type 0} (r : Result T E) → (P → Q → R → S) → OnOk r P → OnOk r Q → OnOk r R → OnOk r S
on_ok3 (Ok x) f p q s = f p q s
on_ok3 (Err e) f p q s = tt

pub on_err : {T E P Q : Type 0} (r : Result T E) → (P → Q) → OnErr r P → OnErr r Q
on_err (Ok x) f p = tt
on_err (Err e) f p = f p

pub err_anyway : {T E P : Type 0} (r : Result T E) → P → OnErr r P
err_anyway (Ok x) p = tt
err_anyway (Err e) p = p

-- THE DEVICE

pub rise_same : (first old new : ℕ) (events : List DumpEvent) → IsRise first old events → old ≤ new → IsRise first new events
rise_same first old new events is later small =
    let before = is (omega (arith, later, small)) in
    omega (arith, before, later)

pub rise_failed : (first old new : ℕ) (events : List DumpEvent) (by : By) → IsRise first old events → old ≤ new → Rose old new → IsRise first new (Failed by ∷ events)
rise_failed first old new events by is later rose small =
    let low : old < 2 ^ 64 - 1 = omega (arith, later, small) in
    let before = is low in
    let more = rose low in
    omega (arith, before, more)

handed_on : {D : Type 0} (kind : disk.Ghosts D) → ((a b c : D) → kind.is_same a b → kind.is_same b c → kind.is_same a c) → (given : Option D) (old new : D) → IsHandedIn kind given old → IsLater kind old new → IsHandedIn kind given new
handed_on kind on None old new is later = is
handed_on kind on (Some given) old new is later = record { device = on given old new is.device later.device; tells = later.tells ∙ is.tells; later = (let a = is.later in let b = later.later in omega (arith, a, b)) }

-- what is said of the values, where any are told
pub told_on : (o : Option (List Entry)) {P Q : RecordMap → Type 0} → ((map : RecordMap) → P map → Q map) → ToldBy o P → ToldBy o Q
told_on None f h = tt
told_on (Some entries) f h = f (map_of entries) h

pub told_both : (o : Option (List Entry)) {P Q R : RecordMap → Type 0} → ((map : RecordMap) → P map → Q map → R map) → ToldBy o P → ToldBy o Q → ToldBy o R
told_both None f h k = tt
told_both (Some entries) f h k = f (map_of entries) h k

pub of_some : {A : Type 0} (P : A → Type 0) (o : Option A) (x : A) → o ≡ Some x → IfSome o P → P x
of_some {A} P o x is all = subst (λ (y : Option A). IfSome y P) is all

-- THE STATE

module _ {D : Type 0} (kind : disk.Ghosts D) (opening : List PartState) (found : Found) (faults_of : ℕ → ℕ) (premise_of : ℕ → Type 0) (devices : ℕ → Option D) where
  -- behind events that make this of the part, with the device as it is then
  dumper_at : (v : Dumper D) (w : DumpSight) (es : List DumpEvent) (file : DumpView D) (current : Option Copying) (part : DumpPart)
      → IsDumper kind opening found faults_of premise_of devices v → HasStepped opening found es v.seat w → w.part ≡ part → part.number ≡ v.seat.part.number → file.volume ≡ v.file.volume
      → IsTied part file → AreStarted (Knows node opening w.sight) part → IfSome current (IsCopying (Knows node opening w.sight) part file.filled)
      → IsHandedIn kind (devices (device_of v.seat.part.number)) file.device
      → IsRise (faults_of (device_of v.seat.part.number)) (kind.faults file.device) part.events
      → (premise_of (device_of v.seat.part.number) → IsTrue (kind.tells file.device) × HoldsDump kind.held file)
      → (premise_of (device_of v.seat.part.number) → ToldBy (base_found found v.seat.part.number) (λ base. HasBodies kind.held (Knows node opening w.sight) part base file (first_held kind devices v.seat.part.number) current))
      → (landed_here part.events ≡ None → (landed_here v.seat.part.events ≡ None) × (file.found ≡ v.file.found))
      → IsDumper kind opening found faults_of premise_of devices (record { seat = w; file = file; current = current })
  dumper_at v w es file current part is stepped part_is number volume tied named copying device rise holds bodies still =
      let n : w.part.number ≡ v.seat.part.number = ap (λ (s : DumpPart). s.number) part_is ∙ number in
      record {
        at = stepped.is;
        valid = is.valid;
        within = subst (λ (m : ℕ). IsWithin 1 8 m) (sym n) is.within;
        well = subst (λ (m : ℕ). IsWellFound (found_volume found m)) (sym n) is.well;
        volume = volume ∙ is.volume ∙ sym n;
        tied = subst (λ (s : DumpPart). IsTied s file) (sym part_is) tied;
        named = subst (λ (s : DumpPart). AreStarted (Knows node opening w.sight) s) (sym part_is) named;
        current = subst (λ (s : DumpPart). IfSome current (IsCopying (Knows node opening w.sight) s file.filled)) (sym part_is) copying;
        device = subst (λ (m : ℕ). IsHandedIn kind (devices (device_of m)) file.device) (sym n) device;
        rise = subst (λ (m : ℕ). IsRise (faults_of (device_of m)) (kind.faults file.device) w.part.events) (sym n)
            (subst (λ (s : DumpPart). IsRise (faults_of (device_of v.seat.part.number)) (kind.faults file.device) s.events) (sym part_is) rise);
        holds = λ p. holds (subst (λ (m : ℕ). premise_of (device_of m)) n p);
        bodies = λ p.
            subst (λ (m : ℕ). ToldBy (base_found found m) (λ base. HasBodies kind.held (Knows node opening w.sight) w.part base file (first_held kind devices m) current)) (sym n)
            (subst (λ (s : DumpPart). ToldBy (base_found found v.seat.part.number) (λ base. HasBodies kind.held (Knows node opening w.sight) s base file (first_held kind devices v.seat.part.number) current)) (sym part_is) (bodies (subst (λ (m : ℕ). premise_of (device_of m)) n p)));
        given = λ p none.
            (let before = still (ap (λ (s : DumpPart). landed_here s.events) (sym part_is) ∙ none) in
            subst (λ (o : Option SealedDump). IsFoundDump w.part.number (first_held kind devices w.part.number) o) (sym before.1)
            (subst (λ (m : ℕ). IsFoundDump m (first_held kind devices m) v.file.found) (sym n) (is.given (subst (λ (m : ℕ). premise_of (device_of m)) n p) before.0)));
      }

  -- behind a call of the device
  pub dumper_worked : ((a b c : D) → kind.is_same a b → kind.is_same b c → kind.is_same a c) → (v : Dumper D) (w : DumpSight) (es : List DumpEvent) (file : DumpView D) (current : Option Copying) (part : DumpPart)
      → IsDumper kind opening found faults_of premise_of devices v → HasStepped opening found es v.seat w → w.part ≡ part → part.number ≡ v.seat.part.number → file.volume ≡ v.file.volume
      → IsTied part file → AreStarted (Knows node opening w.sight) part → IfSome current (IsCopying (Knows node opening w.sight) part file.filled)
      → IsLater kind v.file.device file.device
      → IsRise (faults_of (device_of v.seat.part.number)) (kind.faults file.device) part.events
      → (IsTrue (kind.tells v.file.device) → HoldsDump kind.held v.file → HoldsDump kind.held file)
      → (IsTrue (kind.tells v.file.device) → ToldBy (base_found found v.seat.part.number) (λ base. HasBodies kind.held (Knows node opening v.seat.sight) v.seat.part base v.file (first_held kind devices v.seat.part.number) v.current)
      → ToldBy (base_found found v.seat.part.number) (λ base. HasBodies kind.held (Knows node opening w.sight) part base file (first_held kind devices v.seat.part.number) current))
      → (landed_here part.events ≡ None → (landed_here v.seat.part.events ≡ None) × (file.found ≡ v.file.found))
      → IsDumper kind opening found faults_of premise_of devices (record { seat = w; file = file; current = current })
  dumper_worked on v w es file current part is stepped part_is number volume tied named copying later rise holds bodies still =
      dumper_at v w es file current part is stepped part_is number volume tied named copying (handed_on kind on (devices (device_of v.seat.part.number)) v.file.device file.device is.device later) rise
      (λ p. (let h = is.holds p in (later.tells ∙ h.0, holds h.0 h.1)))
      (λ p. bodies (is.holds p).0 (is.bodies p)) still

  -- with the device as it was
  pub dumper_same : (v : Dumper D) (w : DumpSight) (es : List DumpEvent) (current : Option Copying) (part : DumpPart)
      → IsDumper kind opening found faults_of premise_of devices v → HasStepped opening found es v.seat w → w.part ≡ part → part.number ≡ v.seat.part.number
      → IsTied part v.file → AreStarted (Knows node opening w.sight) part → IfSome current (IsCopying (Knows node opening w.sight) part v.file.filled)
      → IsRise (faults_of (device_of v.seat.part.number)) (kind.faults v.file.device) part.events
      → ((base : RecordMap) → HasBodies kind.held (Knows node opening v.seat.sight) v.seat.part base v.file (first_held kind devices v.seat.part.number) v.current → HasBodies kind.held (Knows node opening w.sight) part base v.file (first_held kind devices v.seat.part.number) current)
      → (landed_here part.events ≡ None → landed_here v.seat.part.events ≡ None)
      → IsDumper kind opening found faults_of premise_of devices (record { seat = w; file = v.file; current = current })
  dumper_same v w es current part is stepped part_is number tied named copying rise bodies still =
      dumper_at v w es v.file current part is stepped part_is number refl tied named copying is.device rise is.holds (λ p. told_on (base_found found v.seat.part.number) bodies (is.bodies p))
      (λ none. (still none, refl))

  -- the state as it was opened
  pub dumper_opened : (v : DumpSight) (file : DumpView D) → IsOpened kind opening found faults_of premise_of devices v file → IsDumper kind opening found faults_of premise_of devices (record { seat = v; file = file; current = None })
  dumper_opened v file is = record {
    at = is.at;
    valid = is.valid;
    within = is.within;
    well = is.well;
    volume = is.volume;
    tied = record {
      landed = ap (λ (l : List DumpEvent). start_of (landed_label v.part.rest l)) is.none ∙ start_at v.part.rest ∙ is.rest;
      offered = ap (λ (l : List DumpEvent). start_of (offered_label l)) is.none ∙ ap (λ o. option_map (λ l. l.start) o) (sym is.next);
      rises = λ a b a_is b_is. absurd (cc (sym b_is ∙ ap offered_label is.none));
    };
    named = λ number named. absurd (subst (λ (l : List DumpEvent). IsNamed l number) is.none named);
    current = tt;
    device = is.device;
    rise = λ small. (let before = is.before in subst (λ (l : List DumpEvent). faults_of (device_of v.part.number) + failures l ≤ kind.faults file.device) (sym is.none) (omega (arith, before)));
    holds = is.holds;
    bodies = λ p. opened_bodies (base_found found v.part.number);
    given = λ p none. is.given p;
  }
    where
      opened_bodies : (o : Option (List Entry)) → ToldBy o (λ base. HasBodies kind.held (Knows node opening v.sight) v.part base file (first_held kind devices v.part.number) None)
      opened_bodies None = tt
      opened_bodies (Some entries) = record {
        landed = λ label at. absurd (cc (sym at ∙ ap landed_here is.none));
        opened = λ none dump at. ap (λ h. h dump.label.body) is.as_found;
        over = λ label at. absurd (cc (sym at ∙ ap landed_here is.none));
        offered = λ label at. absurd (cc (sym at ∙ ap offered_label is.none));
        named = λ label at. absurd (cc (sym at ∙ is.next));
        under_way = tt;
      }

      start_at : (rest : Option ℕ) → start_of (landed_label rest []) ≡ rest
      start_at None = refl
      start_at (Some start) = refl

-- the seat as it is
pub stepped_none : (opening : List PartState) (found : Found) (v : DumpSight) → IsDumpAt opening found v → HasStepped opening found [] v v
stepped_none opening found v is = record { is = is; had = had_none v; knows = λ f k. k }

-- whoever has the part's state knows that the dump is over
pub knows_over : (opening : List PartState) (found : Found) (w : DumpSight) (part : DumpPart) (number : ℕ) (rest : Option ℕ) → IsDumpAt opening found w → w.part ≡ part → IsOver part number rest → Knows node opening w.sight (Over w.part.number number rest)
knows_over opening found w part number rest is part_is over =
    known_of_part node opening w.sight (Dump w.part) (Over w.part.number number rest) is.at (refl, subst (λ (s : DumpPart). IsOver s number rest) (sym part_is) over)

-- IMAGES

-- the label of the image is one that the part allows
pub allowed : {D : Type 0} (part : DumpPart) (file : DumpView D) (image : Held) → IsTied part file → file.volume ≡ part.number → IfSome file.found (IsSealed file.volume) → IfSome file.next (IsNext file.volume) → ShowsDumpLabel file image → ShowsAllowed part image
allowed {D} part file image tied volume sealed next shows = ⊎_elim (of file.found refl sealed) later shows
  where
    none_of : (o : Option DumpStart) → start_of o ≡ None → o ≡ None
    none_of None e = refl
    none_of (Some x) e = absurd (cc (e))

    some_of : (o : Option DumpStart) (start : ℕ) → start_of o ≡ Some start → (label : DumpStart) × (o ≡ Some label) × (label.start ≡ start)
    some_of None start e = absurd (cc (e))
    some_of (Some x) start e = (x, refl, cc (e))

    of : (found : Option SealedDump) → file.found ≡ found → IfSome found (IsSealed file.volume) → ShowsFound file.found image → ShowsAllowed part image
    of None is s h =
        inl (none_of (landed_label part.rest part.events) (tied.landed ∙ ap start_in is), subst (λ (o : Option SealedDump). ShowsFound o image) is h)
    of (Some dump) is s h =
        let one = some_of (landed_label part.rest part.events) dump.label.start (tied.landed ∙ ap start_in is) in
        inr (
          one.0,
          inl one.1,
          record { label = dump.label; of_volume = s.of_volume ∙ volume; starts = sym one.2; spelled = subst (λ (o : Option SealedDump). ShowsFound o image) is h },
        )

    later : (file.offered ≡ true) × ((label : DumpLabel) × (file.next ≡ Some label) × IsThere image 1 (λ f. SpellsDumpLabel label f.bytes)) → ShowsAllowed part image
    later h =
        let label = h.1.0 in
        let is = h.1.1 in
        let one = some_of (offered_label part.events) label.start (tied.offered ∙ ap (λ o. option_map (λ l. l.start) o) is) in
        let valid : IsNext file.volume label = subst (λ (o : Option DumpLabel). IfSome o (IsNext file.volume)) is next in
        inr (one.0, inr one.1, record { label = label; of_volume = valid.1 ∙ volume; starts = sym one.2; spelled = h.1.2 })
