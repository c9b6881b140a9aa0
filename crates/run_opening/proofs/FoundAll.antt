-- What is kept of the devices is what they told: it is the opening of a history.
use Rattle.std.proofs.Common.{◌≡◌, ℕ, zero, suc, ◌+◌, ◌<◌, ◌≤◌, Bool, true, false, List, [], length, Option, Some, None, refl, sym, subst, ap, ◌∙◌, arith, ⊎_elim, IsTrue}
use Rattle.std.specs.Prelude.{if◌then◌else◌, option_and_then, slice_get, unwrap_or, IfSome, IsSome}
use Rattle.std.proofs.lemmas.Bool.{cases_lt}
use Rattle.disk_model.specs.Held.{Held}
use Rattle.disk_model.specs.declared.disk.Disk as disk
use Rattle.block_cache.specs.Blocks.{View as BlocksView}
use Rattle.block_cache.specs.Volume.{HasBase, HasDump, RestsFor}
use Rattle.keyed_file.specs.Volume.{label_of}
use Rattle.keyed_file.specs.declared.dump_label.DumpLabel.{DumpLabel}
use Rattle.online_dump.specs.Found.{IsFoundDump, IsSealed, start_in}
use Rattle.online_dump.specs.declared.sealed.SealedDump.{SealedDump}
use Rattle.node_machine.specs.Law.{IsFoundTrail, IsFoundVolume}
use Rattle.node_machine.specs.Opening.{Found, TrailFound, VolumeFound, each_from, found_volume}
use Rattle.tmf_model.specs.Commits.{numbered}
use Rattle.tmf_model.specs.Config.{IsDeclared, IsNumber, IsValidConfig}
use Rattle.tmf_model.specs.declared.config.Config.{Config}
use Rattle.tmf_model.specs.declared.config.Volume.{Volume}
use Rattle.trail_files.specs.AuditRecord.{audit_format}
use Rattle.trail_files.specs.MonitorRecord.{monitor_format}
use Rattle.trail_files.specs.StandsFor.{Base, position_of}
use Rattle.trail_files.specs.Text.{Spells}
use Rattle.trail_files.specs.Trail.{Rests}
use Rattle.trail_files.specs.declared.audit_record.AuditRecord.{AuditRecord}
use Rattle.trail_files.specs.declared.monitor_record.MonitorRecord.{MonitorRecord}
use Rattle.trail_replay.specs.Rules.{rules_of}
use Rattle.trail_replay.proofs.Rows.{there}
use Rattle.run_outcomes.specs.Devices.{dump_device, told_by, told_of, volume_device}
use Rattle.run_outcomes.specs.Found.{IsFoundOver, ToldAudit, ToldBase, ToldDump, ToldList}
use Rattle.run_opening.specs.Found.{AreBased, IsOnlyList, found_of, places_of, trail_of, volume_found, volume_of}
use Rattle.run_opening.specs.Kept.{AreBlocksKept, low_kept, start_kept}
use Rattle.run_opening.specs.Laws.{Laws}
use Rattle.run_opening.specs.Opening.{AreOpened, IsKept, IsNextIn, IsReachedIn}
use Rattle.run_opening.specs.declared.kept.Kept.{Kept}
use Rattle.run_opening.specs.declared.kept.Kept.TheVariants as kept
use Rattle.run_opening.specs.declared.opening.Opened.{Opened}
use Rattle.run_opening.proofs.FoundTrails.{trail_is}
use Rattle.run_opening.proofs.FoundVolumes.{based_is, lost_is, volume_is}
use Rattle.run_opening.proofs.DumpKeeping.{same_low}
use Rattle.run_opening.proofs.DumpLabels.{label_not_lost, one_label_there}
use Rattle.run_opening.proofs.Openings.{idle_behind, idle_touched, line_declared}

-- ONE FOR EACH NUMBER

get_each : {A : Type 0} (f : ℕ → A) (first count n : ℕ) → n < count → slice_get (each_from f first count) n ≡ Some (f (first + n))
get_each f first zero n lt = absurd (omega (arith, lt))
get_each f first (suc count) zero lt = ap (λ (k : ℕ). Some (f k)) (omega arith)
get_each f first (suc count) (suc n) lt = get_each f (first + 1) count n (omega (arith, lt)) ∙ ap (λ (k : ℕ). Some (f k)) (omega arith)

get_past : {A : Type 0} (f : ℕ → A) (first count n : ℕ) → count ≤ n → slice_get (each_from f first count) n ≡ None
get_past f first zero zero le = refl
get_past f first zero (suc n) le = refl
get_past f first (suc count) zero le = absurd (omega (arith, le))
get_past f first (suc count) (suc n) le = get_past f (first + 1) count n (omega (arith, le))

length_each : {A : Type 0} (f : ℕ → A) (first count : ℕ) → length (each_from f first count) ≡ count
length_each f first zero = refl
length_each f first (suc count) = ap suc (length_each f (first + 1) count)

numbered_each : {A : Type 0} (f : ℕ → A) (count n : ℕ) → 1 ≤ n → n ≤ count → numbered (each_from f 1 count) n ≡ Some (f n)
numbered_each f count zero some le = absurd (omega (arith, some))
numbered_each f count (suc n) some le = get_each f 1 count n (omega (arith, le)) ∙ ap (λ (k : ℕ). Some (f k)) (omega arith)

numbered_past : {A : Type 0} (f : ℕ → A) (count n : ℕ) → count < n → numbered (each_from f 1 count) n ≡ None
numbered_past f count zero lt = absurd (omega (arith, lt))
numbered_past f count (suc n) lt = get_past f 1 count n (omega (arith, lt))

-- WHAT A DEVICE TOLD

-- a device that told what it held
record Tells {D : Type 0} (kind : disk.Ghosts D) (old : List D) (n : ℕ) (held : Held) : Type 0 where
  pub device : D
  pub at : slice_get old n ≡ Some device
  pub tells : IsTrue (kind.tells device)
  pub same : kind.held device ≡ held

told_device : {D : Type 0} (kind : disk.Ghosts D) (old : List D) (n : ℕ) (held : Held) → told_by kind old n ≡ Some held → Tells kind old n held
told_device {D} kind old n held told = by_item (slice_get old n) refl told where
  by_tells : (device : D) → slice_get old n ≡ Some device → (b : Bool) → kind.tells device ≡ b → (if b then Some (kind.held device) else None) ≡ Some held → Tells kind old n held
  by_tells device at true tells e = record { device = device; at = at; tells = tells; same = cc }
  by_tells device at false tells e = absurd (cc)

  by_item : (o : Option D) → slice_get old n ≡ o → option_and_then (told_of kind) o ≡ Some held → Tells kind old n held
  by_item None at e = absurd (cc)
  by_item (Some device) at e = by_tells device at (kind.tells device) refl e

module _ {D : Type 0} (kind : disk.Ghosts D) (laws : Laws) (config : Config) (epoch : ℕ) (named : List ℕ) (old : List D) (opened : Opened D)
    (valid : IsValidConfig config) (are : AreOpened kind config epoch named old opened) where
  abbrev items : List (Kept D)
  items = opened.kept.items

  -- the start of the dump of each volume
  abbrev rest : ℕ → Option ℕ
  rest number = start_kept (slice_get items (dump_device number))

  kept_at : (n : ℕ) → n < 21 → (k : Kept D) × (slice_get items n ≡ Some k)
  kept_at n lt = there items n (omega (arith, lt, are.count))

  -- THE MONITOR TRAIL

  places_is : (device : D) (k : Kept D) (list : List MonitorRecord) → IsKept kind config epoch named 0 device k → IsTrue (kind.tells device) → Rests monitor_format (kind.held device) list → places_of (Some k) ≡ length list
  places_is device (kept.Monitor k) list is tells rests = is.1.places list tells rests.spells
  places_is device (kept.Audit k) list is tells rests = (let some = is.0 in absurd (omega (arith, some)))
  places_is device (kept.Volume blocks) list is tells rests = (let at = is.2 in absurd (omega (arith, at)))
  places_is device (kept.Dump file) list is tells rests = (let at = is.2 in absurd (omega (arith, at)))
  places_is device (kept.Idle left) list is tells rests = ⊎_elim (λ alone. (let many = idle_behind config valid 0 alone.0 in absurd (omega (arith, many)))) (λ v. (let at = v.2 in absurd (omega (arith, at)))) is

  places : (list : List MonitorRecord) → ToldList config (told_by kind old) list → places_of (slice_get items 0) ≡ length list
  places list told =
      let one = told_device kind old 0 told.0 told.1 in
      let k = kept_at 0 (omega arith) in
      ap places_of k.1 ∙ places_is one.device k.0 list (are.each 0 one.device k.0 one.at k.1).0 one.tells (subst (λ (h : Held). Rests monitor_format h list) (sym one.same) told.2)

  -- the list that it spells, where it tells what it holds
  monitor_spelled : (device : D) (k : Kept D) → IsKept kind config epoch named 0 device k → IsTrue (kind.tells device) → (list : List MonitorRecord) × Spells monitor_format (kind.held device) list
  monitor_spelled device (kept.Monitor k) is tells = is.1.opened.spelled tells
  monitor_spelled device (kept.Audit k) is tells = (let some = is.0 in absurd (omega (arith, some)))
  monitor_spelled device (kept.Volume blocks) is tells = (let at = is.2 in absurd (omega (arith, at)))
  monitor_spelled device (kept.Dump file) is tells = (let at = is.2 in absurd (omega (arith, at)))
  monitor_spelled device (kept.Idle left) is tells = ⊎_elim (λ alone. (let many = idle_behind config valid 0 alone.0 in absurd (omega (arith, many)))) (λ v. (let at = v.2 in absurd (omega (arith, at)))) is

  same_device : (a b : D) → Some a ≡ Some b → a ≡ b
  same_device a b e = cc (e)

  list_in : (b : Bool) (device : D) → slice_get old 0 ≡ Some device → kind.tells device ≡ b → (list : List MonitorRecord) × IsOnlyList config (told_by kind old) list
  list_in true device at tells =
      let k = kept_at 0 (omega arith) in
      let own = monitor_spelled device k.0 (are.each 0 device k.0 at k.1).0 tells in (
        own.0,
        (λ other told.
            let one = told_device kind old 0 told.0 told.1 in
            let same : one.device ≡ device = same_device one.device device (sym one.at ∙ at) in
            laws.list.one (kind.held device) own.0 other own.1 (subst (λ (h : Held). Spells monitor_format h other) (sym one.same ∙ ap kind.held same) told.2.spells)),
      )
  list_in false device at tells = (
    [],
    (λ other told.
        let one = told_device kind old 0 told.0 told.1 in
        let same : one.device ≡ device = same_device one.device device (sym one.at ∙ at) in
        absurd (let both : true ≡ false = sym one.tells ∙ ap kind.tells same ∙ tells in cc (both))),
  )

  list_there : (o : Option D) → slice_get old 0 ≡ o → (list : List MonitorRecord) × IsOnlyList config (told_by kind old) list
  list_there (Some device) at = list_in (kind.tells device) device at refl
  list_there None none = ([], (λ other told. (let one = told_device kind old 0 told.0 told.1 in absurd (let both : None ≡ Some one.device = sym none ∙ one.at in cc (both)))))

  -- one list alone may have been told
  pub only_list : (list : List MonitorRecord) × IsOnlyList config (told_by kind old) list
  only_list = list_there (slice_get old 0) refl

  -- AUDIT TRAILS

  trail_kept : (n : ℕ) (device : D) (k : Kept D) (audit : List AuditRecord) → 1 ≤ n → n ≤ length config.trails → IsKept kind config epoch named n device k → IsTrue (kind.tells device) → Rests (audit_format (rules_of config n)) (kind.held device) audit
      → IsFoundTrail (trail_of (Some k)) audit
  trail_kept n device (kept.Audit k) audit some le is tells rests = trail_is kind (rules_of config n) device k is.2 is.3 audit tells rests
  trail_kept n device (kept.Monitor k) audit some le is tells rests = (let at = is.0 in absurd (omega (arith, some, at)))
  trail_kept n device (kept.Volume blocks) audit some le is tells rests = (let at = is.2 in let v = is.1.above in absurd (omega (arith, le, at, v, valid.trails.few)))
  trail_kept n device (kept.Dump file) audit some le is tells rests = (let at = is.2 in absurd (omega (arith, le, at, valid.trails.few)))
  trail_kept n device (kept.Idle left) audit some le is tells rests =
      ⊎_elim (λ alone. (let many = idle_behind config valid n alone.0 in absurd (omega (arith, many, le)))) (λ v. (let at = v.2 in let above = v.1.above in absurd (omega (arith, le, at, above, valid.trails.few)))) is

  trails : (n : ℕ) (audit : List AuditRecord) → 1 ≤ n → n ≤ length config.trails → ToldAudit config (told_by kind old) n audit
      → (t : TrailFound) × (numbered (found_of kind config epoch items).trails n ≡ Some t) × IsFoundTrail t audit
  trails n audit some le told =
      let one = told_device kind old n told.0 told.1 in
      let k = kept_at n (omega (arith, le, valid.trails.few)) in
      let found = trail_kept n one.device k.0 audit some le (are.each n one.device k.0 one.at k.1).0 one.tells (subst (λ (h : Held). Rests (audit_format (rules_of config n)) h audit) (sym one.same) told.2) in
      (trail_of (slice_get items n), numbered_each (λ m. trail_of (slice_get items m)) (length config.trails) n some le, subst (λ (o : Option (Kept D)). IsFoundTrail (trail_of o) audit) (sym k.1) found)

  -- VOLUMES THAT WERE FOUND

  abbrev found : Found
  found = found_of kind config epoch items

  no_more : (number : ℕ) → length config.volumes < number → found_volume found number ≡ None
  no_more number lt = ap (λ o. unwrap_or o None) (numbered_past (λ n. volume_of kind config n (rest n) (slice_get items (volume_device n))) (length config.volumes) number lt)

  -- what was found of a volume that is declared is what is kept of its device
  found_is : (number : ℕ) → IsDeclared config.volumes number → (k : Kept D) → slice_get items (volume_device number) ≡ Some k → found_volume found number ≡ volume_of kind config number (rest number) (Some k)
  found_is number declared k at =
      ap (λ o. unwrap_or o None) (numbered_each (λ n. volume_of kind config n (rest n) (slice_get items (volume_device n))) (length config.volumes) number declared.above declared.below)
      ∙ ap (volume_of kind config number (rest number)) at

  none_found : (o : Option VolumeFound) (entry : VolumeFound) → o ≡ None → o ≡ Some entry → ⊥
  none_found o entry none some = let both : None ≡ Some entry = sym none ∙ some in cc

  declared_found : (number : ℕ) (entry : VolumeFound) → found_volume found number ≡ Some entry → IsDeclared config.volumes number
  declared_found zero entry is = absurd (none_found (found_volume found zero) entry refl is)
  declared_found (suc n) entry is =
      ⊎_elim (λ (past : length config.volumes < suc n). absurd (none_found (found_volume found (suc n)) entry (no_more (suc n) past) is))
      (λ (within : suc n ≤ length config.volumes). record { above = omega arith; below = within }) (cases_lt (length config.volumes) (suc n))

  based_kept : (number : ℕ) (device : D) (k : Kept D) (entry : VolumeFound) (base : Option Base) → volume_of kind config number (rest number) (Some k) ≡ Some entry → IsKept kind config epoch named (volume_device number) device k
      → IsTrue (kind.tells device) → HasBase config number (kind.held device) base → RestsFor (label_of config number 1) (kind.held device) → IsSome base × IsSome entry.base
  based_kept number device (kept.Volume blocks) entry base found_as is tells has rests =
      let same : is.0 ≡ number = (let e = is.2 in omega (arith, e)) in
      let entry_is : volume_found kind config number (rest number) blocks ≡ entry = cc in
      let based = based_is kind laws config number device blocks (subst (λ (n : ℕ). AreBlocksKept kind config n device blocks) same is.3) tells base (rest number) has rests in
      (based.0, subst (λ (v : VolumeFound). IsSome v.base) entry_is based.1)
  based_kept number device (kept.Monitor k) entry base found_as is tells has rests = absurd (cc)
  based_kept number device (kept.Audit k) entry base found_as is tells has rests = absurd (cc)
  based_kept number device (kept.Dump file) entry base found_as is tells has rests = absurd (cc)
  based_kept number device (kept.Idle left) entry base found_as is tells has rests = absurd (cc)

  based_found : (number : ℕ) (entry : VolumeFound) (base : Option Base) → found_volume found number ≡ Some entry → ToldBase config (told_by kind old) number base → IsSome base × IsSome entry.base
  based_found number entry base is told =
      let declared = declared_found number entry is in
      let own = told_device kind old (volume_device number) told.0 told.1 in
      let k = kept_at (volume_device number) (omega (arith, declared.below, valid.volumes.few)) in
      based_kept number own.device k.0 entry base (sym (found_is number declared k.0 k.1) ∙ is) (are.each (volume_device number) own.device k.0 own.at k.1).0 own.tells
      (subst (λ (h : Held). HasBase config number h base) (sym own.same) told.2.0) (subst (λ (h : Held). RestsFor (label_of config number 1) h) (sym own.same) told.2.1)

  pub based : AreBased config (told_by kind old) found
  based = record { declared = declared_found; based = based_found }

  -- THE STARTS OF DUMPS

  found_start : (held : Held) (volume number : ℕ) (found_ : Option SealedDump) (dump : Option Base) → IfSome found_ (IsSealed volume) → IsFoundDump volume held found_ → HasDump config number held dump → start_in found_ ≡ position_of dump
  found_start held volume number None None sealed is has = refl
  found_start held volume number None (Some base) sealed is has = absurd (label_not_lost held has.1.label has.1.label_file is)
  found_start held volume number (Some own) None sealed is has = absurd ((has is.0 is.1).1 is.2.spelled.gate)
  found_start held volume number (Some own) (Some base) sealed is has =
      let same : own.label ≡ has.1.label = one_label_there held own.label has.1.label sealed.label has.1.valid (is.0, is.1, is.2.spelled) has.1.label_file in
      ap (λ (l : DumpLabel). Some l.start) same ∙ ap Some has.1.starts

  start_is : (number : ℕ) (device : D) (k : Kept D) (blocks : BlocksView D) (dump : Option Base) → IsDeclared config.volumes number → slice_get items (volume_device number) ≡ Some (kept.Volume blocks)
      → IsKept kind config epoch named (dump_device number) device k → IsReachedIn kind config items (dump_device number) k → IsTrue (kind.tells device) → HasDump config number (kind.held device) dump
      → (start_kept (Some k) ≡ position_of dump) × ((start : ℕ) → start_kept (Some k) ≡ Some start → start ≤ blocks.label.low)
  start_is number device (kept.Dump file) blocks dump declared at is reached tells has = (
    found_start (kind.held device) is.0 number file.found dump is.3.sealed (is.3.found tells) has,
    (λ start is_start.
        let low = reached number refl in
        let le = low.2 start is_start in
        let same : low.0 ≡ blocks.label.low = same_low (low_kept (slice_get items (volume_device number))) low.0 blocks.label.low low.1 (ap low_kept at) in
        omega (arith, le, same)),
  )
  start_is number device (kept.Idle left) blocks dump declared at is reached tells has = absurd (reached number blocks.label.low declared refl (ap low_kept at))
  start_is number device (kept.Monitor k) blocks dump declared at is reached tells has = (let place = is.0 in absurd (omega (arith, place)))
  start_is number device (kept.Audit k) blocks dump declared at is reached tells has = (let place = is.1 in absurd (omega (arith, place, valid.trails.few)))
  start_is number device (kept.Volume other) blocks dump declared at is reached tells has = (let place = is.2 in let below = is.1.below in absurd (omega (arith, place, below, declared.above, valid.volumes.few)))

  starts : (number : ℕ) (line : Volume) (blocks : BlocksView D) (dump : Option Base) → IsNumber config.volumes number line → slice_get items (volume_device number) ≡ Some (kept.Volume blocks) → ToldDump config (told_by kind old) number dump
      → (rest number ≡ position_of dump) × ((start : ℕ) → rest number ≡ Some start → start ≤ blocks.label.low)
  starts number line blocks dump is_number at told =
      let declared = line_declared config number line is_number in
      let own = told_device kind old (dump_device number) told.0 told.1 in
      let k = kept_at (dump_device number) (omega (arith, declared.below, valid.volumes.few)) in
      let is = are.each (dump_device number) own.device k.0 own.at k.1 in
      let start = start_is number own.device k.0 blocks dump declared at is.0 is.2 own.tells (subst (λ (h : Held). HasDump config number h dump) (sym own.same) told.2.0) in
      (ap start_kept k.1 ∙ start.0, (λ s is_start. start.1 s (sym (ap start_kept k.1) ∙ is_start)))

  -- VOLUMES THAT TOLD WHAT THEY HELD

  module _ (number : ℕ) (line : Volume) (base dump : Option Base) (audit : List AuditRecord) (is_number : IsNumber config.volumes number line)
      (told_base : ToldBase config (told_by kind old) number base) (told_dump : ToldDump config (told_by kind old) number dump) (told_audit : ToldAudit config (told_by kind old) line.trail audit) where
    own : Tells kind old (volume_device number) told_base.0
    own = told_device kind old (volume_device number) told_base.0 told_base.1

    on : Tells kind old line.trail told_audit.0
    on = told_device kind old line.trail told_audit.0 told_audit.1

    has : HasBase config number (kind.held own.device) base
    has = subst (λ (h : Held). HasBase config number h base) (sym own.same) told_base.2.0

    rests : RestsFor (label_of config number 1) (kind.held own.device)
    rests = subst (λ (h : Held). RestsFor (label_of config number 1) h) (sym own.same) told_base.2.1

    volume_kept : (k : Kept D) → slice_get items (volume_device number) ≡ Some k → IsKept kind config epoch named (volume_device number) own.device k → IsNextIn kind config old (volume_device number) k
        → IsFoundVolume config number audit (volume_of kind config number (rest number) (Some k)) base dump
    volume_kept (kept.Monitor k) at is next = (let zero_is = is.0 in absurd (omega (arith, zero_is)))
    volume_kept (kept.Audit k) at is next = (let le = is.1 in let some = is_number.0 in absurd (omega (arith, le, some, valid.trails.few)))
    volume_kept (kept.Dump file) at is next =
        (let place = is.2 in let above = is.1.above in let below = (line_declared config number line is_number).below in absurd (omega (arith, place, above, below, valid.volumes.few)))
    volume_kept (kept.Idle left) at is next =
        ⊎_elim (λ alone. absurd (idle_touched config valid (volume_device number) number (line_declared config number line is_number) refl alone.0)) (λ v. lost_is config number (kind.held own.device) audit base dump (v.3.1 own.tells) has) is
    volume_kept (kept.Volume blocks) at is next =
        let same : is.0 ≡ number = (let e = is.2 in omega (arith, e)) in
        let start = starts number line blocks dump is_number at told_dump in
        volume_is kind laws config number own.device blocks (subst (λ (n : ℕ). AreBlocksKept kind config n own.device blocks) same is.3) own.tells audit base dump (rest number)
        (next number line on.device audit is_number refl on.at on.tells (subst (λ (h : Held). Spells (audit_format (rules_of config line.trail)) h audit) (sym on.same) told_audit.2.spells)) has rests start.0 start.1

    volume : IsFoundVolume config number audit (found_volume found number) base dump
    volume =
        let declared = line_declared config number line is_number in
        let k = kept_at (volume_device number) (omega (arith, declared.below, valid.volumes.few)) in
        let is = are.each (volume_device number) own.device k.0 own.at k.1 in
        subst (λ o. IsFoundVolume config number audit o base dump) (sym (found_is number declared k.0 k.1)) (volume_kept k.0 k.1 is.0 is.1)

  pub found_over : IsFoundOver config (told_by kind old) epoch found
  found_over = record {
    config_is = refl;
    epoch_is = refl;
    places = places;
    trails = trails;
    volumes = volume;
    few_trails = omega (arith, length_each (λ n. trail_of (slice_get items n)) 1 (length config.trails));
    no_more = no_more;
  }
