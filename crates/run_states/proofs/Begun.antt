-- What is kept of a run's devices may be joined, and the run's name is what its locks and its end ask.
use Rattle.std.specs.Prelude.{◌≡◌, ℕ, zero, suc, ◌+◌, ◌<◌, ◌≤◌, List, [], ◌∷◌, length, drop, Option, Some, None, slice_get}
use Rattle.std.proofs.Common.{refl, sym, ap, subst, ◌∙◌, arith, ⊎_elim}
use Rattle.std.proofs.lemmas.Bool.{cases_lt}
use Rattle.std.proofs.lemmas.Option.{slice_get_past}
use Rattle.block_cache.specs.Volume.{HasDump}
use Rattle.chronicle.specs.Seats.{new_seat}
use Rattle.disk_model.specs.Held.{File, Held, IfThere}
use Rattle.disk_model.specs.declared.disk.Disk as disk
use Rattle.node_machine.specs.Opening.{Found, opening_parts}
use Rattle.node_machine.specs.Parts.{PartState}
use Rattle.run_opening.specs.Found.{BasedLaw, FoundLaw, ValuesLaw}
use Rattle.run_opening.specs.Kept.{start_kept}
use Rattle.run_opening.specs.Opening.{IsKeptAmong, IsReachedIn}
use Rattle.run_opening.specs.declared.kept.Kept.{Kept}
use Rattle.run_opening.specs.declared.kept.Kept.TheVariants as kept
use Rattle.run_opening.specs.declared.opening.Opened.{Opened}
use Rattle.run_outcomes.specs.Devices.{DumpRests, dump_device, part_of_device, told_in, volume_device}
use Rattle.run_outcomes.specs.Found.{AreFoundWithValues}
use Rattle.tmf_model.specs.declared.config.Config.{Config}
use Rattle.trail_files.specs.AuditRecord.{audit_format}
use Rattle.trail_files.specs.Landed.{IsSettled}
use Rattle.trail_files.specs.MonitorRecord.{monitor_format}
use Rattle.trail_files.specs.StandsFor.{Base}
use Rattle.trail_files.specs.Trail.{Rests}
use Rattle.trail_files.specs.declared.audit_record.AuditRecord.{AuditRecord}
use Rattle.trail_files.specs.declared.monitor_record.MonitorRecord.{MonitorRecord}
use Rattle.trail_files.specs.declared.rules.Rules.{Rules}
use Rattle.trail_replay.specs.Rules.{rules_of}
use Rattle.run_states.specs.Begun.{JoinLaw, JoinsMonitor, MayBegin, MonitorLaw, NameLaw, Resting}
use Rattle.run_states.specs.Joined.{MayAllJoin, MayJoin}
use Rattle.run_states.specs.Post.{IsNamed}
use Rattle.run_states.specs.Volumes.{AreVolumesNamed}
use Rattle.run_states.proofs.AtRest.{rest_at}
use Rattle.run_states.proofs.JoinDumps.{join_dump}
use Rattle.run_states.proofs.JoinIdle.{join_idle}
use Rattle.run_states.proofs.JoinMonitor.{join_monitor}
use Rattle.run_states.proofs.JoinTrails.{join_trail}
use Rattle.run_states.proofs.JoinVolumes.{join_volume}
use Rattle.run_states.proofs.Keeping.{F, O, Setting, are_based, are_over, items, kept_at, rest, told_kept, told_same, was_kept}

got_drop : {A : Type 0} (xs : List A) (n : ℕ) → slice_get (drop 1 xs) n ≡ slice_get xs (suc n)
got_drop [] zero = refl
got_drop [] (suc n) = refl
got_drop (x ∷ xs) n = refl

module _ {D : Type 0} (kind : disk.Ghosts D) (s : Setting kind) where
  abbrev May : ℕ → Option ℕ → Kept D → Type 0
  May n r k = MayJoin kind (O kind s) (F kind s) s.rules s.faults s.premise s.handed_in s.config n r (new_seat (part_of_device n)) k

  join_blocks : (n v : ℕ) → n ≡ volume_device v → (r : Option ℕ) → r ≡ start_kept (slice_get (items kind s) (n + 8)) → (k : Kept D) → May (volume_device v) (rest kind s v) k → May n r k
  join_blocks n v place r is k may =
      let behind : dump_device v ≡ n + 8 = omega (arith, place) in
      subst (λ (m : ℕ). May m r k) (sym place) (subst (λ (o : Option ℕ). May (volume_device v) o k) (ap (λ (m : ℕ). start_kept (slice_get (items kind s) m)) behind ∙ sym is) may)

  join_kept : (n : ℕ) (k : Kept D) (device : D) → 1 ≤ n → slice_get (items kind s) n ≡ Some k → slice_get s.old n ≡ Some device → IsKeptAmong kind s.config s.epoch s.named s.old (items kind s) n device k
      → May n (start_kept (slice_get (items kind s) (n + 8))) k
  join_kept n (kept.Monitor k) device some at was is = (let first = is.0.0 in absurd (omega (arith, first, some)))
  join_kept n (kept.Audit a) device some at was is = join_trail kind s n a at device was is.0 (start_kept (slice_get (items kind s) (n + 8)))
  join_kept n (kept.Volume blocks) device some at was is =
      let v = is.0.0 in
      let place : n ≡ volume_device v = is.0.2 in
      join_blocks n v place (start_kept (slice_get (items kind s) (n + 8))) refl (kept.Volume blocks)
      (join_volume kind s v blocks is.0.1 (ap (slice_get (items kind s)) (sym place) ∙ at) device is.0.3)
  join_kept n (kept.Dump file) device some at was is =
      let v = is.0.0 in
      let place : n ≡ dump_device v = is.0.2 in
      let reached = subst (λ (m : ℕ). IsReachedIn kind s.config (items kind s) m (kept.Dump file)) place is.2 in
      subst (λ (m : ℕ). May m (start_kept (slice_get (items kind s) (n + 8))) (kept.Dump file)) (sym place)
      (join_dump kind s v file is.0.1 (ap (slice_get (items kind s)) (sym place) ∙ at) device is.0.3 reached (start_kept (slice_get (items kind s) (n + 8))))
  join_kept n (kept.Idle left) device some at was is = join_idle kind s n left some at device is.0 is.2 (start_kept (slice_get (items kind s) (n + 8)))

  pub join_all : MayAllJoin kind (O kind s) (F kind s) s.rules s.faults s.premise s.handed_in s.config 1 (drop 1 (items kind s))
  join_all = λ place k at.
      let here : suc place ≡ 1 + place = omega arith in
      let there : slice_get (items kind s) (1 + place) ≡ Some k = ap (slice_get (items kind s)) (sym here) ∙ sym (got_drop (items kind s) place) ∙ at in
      let was = was_kept kind s (1 + place) k there in
      let behind : slice_get (items kind s) (1 + place + 8) ≡ slice_get (drop 1 (items kind s)) (place + 8) = (let same : 1 + place + 8 ≡ suc (place + 8) = omega arith in ap (slice_get (items kind s)) same ∙ sym (got_drop (items kind s) (place + 8))) in
      subst (λ (o : Option (Kept D)). May (1 + place) (start_kept o) k) behind (join_kept (1 + place) k was.device (omega arith) there was.at was.is)

  -- THE MONITOR TRAIL

  monitor_rests : (k : Kept D) (list : List MonitorRecord) (held : Held) → slice_get (items kind s) 0 ≡ Some k → told_in kind s.handed_in 0 ≡ Some held → Rests monitor_format held list → s.before ≡ list → Resting kind s.before (Some k)
  monitor_rests (kept.Monitor k) list held at told rests same =
      let tells = told_kept kind s 0 (kept.Monitor k) held at told in
      (tells.0, subst (λ (l : List MonitorRecord). Rests monitor_format (kind.held k.trail.device) l) (sym same) (subst (λ (h : Held). Rests monitor_format h list) (sym tells.1) rests))
  monitor_rests (kept.Audit a) list held at told rests same = (let was = was_kept kind s 0 (kept.Audit a) at in let some = was.is.0.0 in absurd (omega (arith, some)))
  monitor_rests (kept.Volume blocks) list held at told rests same = tt
  monitor_rests (kept.Dump file) list held at told rests same = (let was = was_kept kind s 0 (kept.Dump file) at in let place = was.is.0.2 in absurd (omega (arith, place)))
  monitor_rests (kept.Idle left) list held at told rests same = tt

  -- AUDIT TRAILS

  trail_rests : (n : ℕ) (k : Kept D) (audit : List AuditRecord) (held : Held) → 1 ≤ n → n ≤ length s.config.trails → slice_get (items kind s) n ≡ Some k → told_in kind s.handed_in n ≡ Some held → Rests (audit_format (rules_of s.config n)) held audit
      → Resting kind s.before (Some k)
  trail_rests n (kept.Audit a) audit held some le at told rests =
      let tells = told_kept kind s n (kept.Audit a) held at told in
      let was = was_kept kind s n (kept.Audit a) at in
      let opened = was.is.0.2 in
      rest_at kind (rules_of s.config n) was.device a.trail opened (sym opened.reread.is_later.tells ∙ tells.0) audit
      (subst (λ (h : Held). Rests (audit_format (rules_of s.config n)) h audit) (sym (sym opened.reread.same ∙ tells.1)) rests)
  trail_rests n (kept.Monitor k) audit held some le at told rests = (let was = was_kept kind s n (kept.Monitor k) at in let first = was.is.0.0 in absurd (omega (arith, first, some)))
  trail_rests n (kept.Volume blocks) audit held some le at told rests = tt
  trail_rests n (kept.Dump file) audit held some le at told rests = (let was = was_kept kind s n (kept.Dump file) at in let place = was.is.0.2 in absurd (omega (arith, place, le, s.may.valid.trails.few)))
  trail_rests n (kept.Idle left) audit held some le at told rests = tt

  -- DEVICES OF DUMPS

  some_same : (a b : File) → Some a ≡ Some b → a ≡ b
  some_same a b e = cc (e)

  label_there : (dump : Option Base) (v : ℕ) (held : Held) → HasDump s.config v held dump → DumpRests held → IfThere held 1 (λ f. IsSettled f × (0 < length f.bytes))
  label_there None v held has rests = λ f at. (rests 1 (record { above = omega arith; below = omega arith }) f at, (has f at).0)
  label_there (Some base) v held has rests = λ f at.
      let there = has.1.label_file in
      let same : there.0 ≡ f = some_same there.0 f (sym there.1 ∙ at) in
      let long = there.2.long in
      (rests 1 (record { above = omega arith; below = omega arith }) f at, subst (λ (x : File). 0 < length x.bytes) same (omega (arith, long)))

  dump_rests : (v : ℕ) (k : Kept D) (dump : Option Base) (held : Held) → slice_get (items kind s) (dump_device v) ≡ Some k → told_in kind s.handed_in (dump_device v) ≡ Some held → HasDump s.config v held dump → DumpRests held → Resting kind s.before (Some k)
  dump_rests v (kept.Dump file) dump held at told has rests =
      let tells = told_kept kind s (dump_device v) (kept.Dump file) held at told in
      (tells.0, subst (λ (h : Held). IfThere h 1 (λ f. IsSettled f × (0 < length f.bytes))) (sym tells.1) (label_there dump v held has rests))
  dump_rests v (kept.Monitor k) dump held at told has rests = (let was = was_kept kind s (dump_device v) (kept.Monitor k) at in let first = was.is.0.0 in absurd (omega (arith, first)))
  dump_rests v (kept.Audit a) dump held at told has rests = (let was = was_kept kind s (dump_device v) (kept.Audit a) at in let le = was.is.0.1 in absurd (omega (arith, le, s.may.valid.trails.few)))
  dump_rests v (kept.Volume blocks) dump held at told has rests = tt
  dump_rests v (kept.Idle left) dump held at told has rests = tt

  no_kept : (n : ℕ) → 21 ≤ n → Resting kind s.before (slice_get (items kind s) n)
  no_kept n past = subst (Resting kind s.before) (sym (slice_get_past (items kind s) n (omega (arith, past, s.may.are.count)))) tt

  -- THE NAME

  pub is_named : IsNamed kind (F kind s) s.before s.rules s.faults s.premise s.handed_in
  is_named = record {
    list = λ list told.
        let same = s.may.name.list list told in
        let k = kept_at kind s 0 (omega arith) in
        (s.may.name.premises 0 (subst (Resting kind s.before) (sym k.1) (monitor_rests k.0 list told.0 k.1 told.1 told.2 same)), same);
    rules_are = λ trail some le. s.may.name.rules_are trail;
    trails = λ trail audit some le told.
        let k = kept_at kind s trail (omega (arith, le, s.may.valid.trails.few)) in
        s.may.name.premises trail (subst (Resting kind s.before) (sym k.1) (trail_rests trail k.0 audit told.0 some le k.1 told.1 told.2));
    few_trails = (are_over kind s).few_trails;
    faults_are = s.may.name.faults_are;
  }

  pub volumes_named : AreVolumesNamed kind (O kind s) (F kind s) s.premise s.handed_in
  volumes_named = record {
    opens = refl;
    valid = s.may.valid;
    declared = (are_based kind s).declared;
    based = λ v entry base is told. (are_based kind s).based v entry base is (told.0, sym (told_same kind s (volume_device v)) ∙ told.1, told.2);
    dumps = λ v dump told. s.may.name.premises (dump_device v) (⊎_elim
        (λ (lt : dump_device v < 21). (let k = kept_at kind s (dump_device v) lt in subst (Resting kind s.before) (sym k.1) (dump_rests v k.0 dump told.0 k.1 told.1 told.2.0 told.2.1)))
        (λ (past : 21 ≤ dump_device v). no_kept (dump_device v) past) (cases_lt (dump_device v) 21));
  }

  with_values : AreFoundWithValues s.config (told_in kind s.handed_in) (F kind s)
  with_values = λ volume entry base is told. (volumes_named.based volume entry (Some base) is told).1

module _ {D : Type 0} (kind : disk.Ghosts D) (same_itself : (device : D) → kind.is_same device device) (over : FoundLaw kind) (based : BasedLaw kind) (values : ValuesLaw kind)
    (opening : List PartState) (found : Found) (before : List MonitorRecord) (rules : ℕ → Rules) (faults : ℕ → ℕ) (premise : ℕ → Type 0) (handed_in : ℕ → Option D) where
  abbrev setting : (config : Config) (epoch : ℕ) (named : List ℕ) (old : List D) (opened : Opened D) → MayBegin kind config epoch named old opened opening found before rules faults premise handed_in → Setting kind
  setting config epoch named old opened may = record {
    config = config;
    epoch = epoch;
    named = named;
    old = old;
    opened = opened;
    opening = opening;
    found = found;
    before = before;
    rules = rules;
    faults = faults;
    premise = premise;
    handed_in = handed_in;
    may = may;
    same_itself = same_itself;
    over = over;
    based = based;
    values = values;
  }

  pub join_law : JoinLaw kind opening found before rules faults premise handed_in
  join_law = λ config epoch named old opened may.
      let s = setting config epoch named old opened may in
      let parts : opening ≡ O kind s = may.name.opens ∙ ap opening_parts may.name.found_is in
      subst (λ (o : List PartState). MayAllJoin kind o found rules faults premise handed_in config 1 (drop 1 opened.kept.items)) (sym parts)
      (subst (λ (f : Found). MayAllJoin kind (O kind s) f rules faults premise handed_in config 1 (drop 1 opened.kept.items)) (sym may.name.found_is) (join_all kind s))

  pub monitor_law : MonitorLaw kind opening found before rules faults premise handed_in
  monitor_law = λ config epoch named old opened may.
      let s = setting config epoch named old opened may in
      let parts : opening ≡ O kind s = may.name.opens ∙ ap opening_parts may.name.found_is in
      subst (λ (o : List PartState). JoinsMonitor kind opened.kept.items before faults premise handed_in o found) (sym parts)
      (subst (λ (f : Found). JoinsMonitor kind opened.kept.items before faults premise handed_in (O kind s) f) (sym may.name.found_is) (join_monitor kind s))

  pub name_law : NameLaw kind opening found before rules faults premise handed_in
  name_law = λ config epoch named old opened may.
      let s = setting config epoch named old opened may in
      let parts : opening ≡ O kind s = may.name.opens ∙ ap opening_parts may.name.found_is in (
        subst (λ (f : Found). IsNamed kind f before rules faults premise handed_in) (sym may.name.found_is) (is_named kind s),
        subst (λ (o : List PartState). AreVolumesNamed kind o found premise handed_in) (sym parts) (subst (λ (f : Found). AreVolumesNamed kind (O kind s) f premise handed_in) (sym may.name.found_is) (volumes_named kind s)),
        subst (λ (f : Found). AreFoundWithValues f.config (told_in kind handed_in) f) (sym may.name.found_is) (with_values kind s),
      )
