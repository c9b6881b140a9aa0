-- A run of one transaction over a node whose trails tell what they hold: what it leaves, and an answer that it may not give.
use Rattle.std.specs.Prelude.{◌≡◌, ℕ, zero, suc, ◌+◌, ◌-◌, ◌<◌, ◌≤◌, ◌==◌, ◌^◌, min, Bool, true, false, List, [], ◌∷◌, ◌++◌, length, filter, replicate, slice_get, Option, Some, None, if◌then◌else◌, cond, option_and_then}
use Rattle.std.specs.Option.{is_some}
use Rattle.std.proofs.Common.{refl, sym, ap, subst, ◌∙◌, append-nil, arith, inl, inr, ⊎_elim, lit<, ◌⊎◌}
use Rattle.chronicle.specs.Histories.{events_of, states_after}
use Rattle.disk_model.specs.Held.{File, Held, IfThere, Leaves, at_rest}
use Rattle.disk_model.specs.declared.disk.Disk as disk
use Rattle.tmf_model.specs.Commits.{numbered}
use Rattle.tmf_model.specs.declared.script.Close.TheVariants.{Commit as CommitClose}
use Rattle.tmf_model.specs.declared.script.Item.TheVariants.{Transaction as TransactionItem}
use Rattle.tmf_model.specs.declared.script.Op.TheVariants.{Put}
use Rattle.tmf_model.specs.declared.script.Phase.{Phase}
use Rattle.tmf_model.specs.declared.script.Step.{Step}
use Rattle.tmf_model.specs.declared.script.Transaction.{Transaction}
use Rattle.tmf_model.specs.declared.transid.Transid.{Transid}
use Rattle.trail_files.proofs.Laws.{resting, same_records}
use Rattle.trail_files.specs.AuditLaws.{audit_begins, audit_length, audit_one}
use Rattle.trail_files.specs.AuditRecord.{audit_format}
use Rattle.trail_files.specs.Format.{Format, text}
use Rattle.trail_files.specs.Landed.{IsSettled}
use Rattle.trail_files.specs.MonitorLaws.{monitor_front, monitor_length}
use Rattle.trail_files.specs.MonitorReading.{monitor_one_number}
use Rattle.trail_files.specs.MonitorRecord.{monitor_format}
use Rattle.trail_files.specs.Text.{Spells, batches_text}
use Rattle.trail_files.specs.Trail.{Rests}
use Rattle.trail_files.specs.declared.audit_record.AuditRecord.{AuditRecord}
use Rattle.trail_files.specs.declared.monitor_record.MonitorRecord.{MonitorRecord}
use Rattle.trail_files.specs.declared.monitor_record.MonitorRecord.TheVariants.{Start as StartRecord, Commit}
use Rattle.trail_replay.specs.Rules.{rules_of}
use Rattle.node_machine.proofs.Devices.{images, old_images, opens_here, shown_here}
use Rattle.node_machine.proofs.Example.{change, config, example, found, log, t}
use Rattle.node_machine.specs.Acts.{actor, acts_by}
use Rattle.node_machine.specs.Deeds.{HasBegun, HasEnlisted, HasFinished, HasLetGo, HasReleased, IsInOrder, IsWhole, Log}
use Rattle.node_machine.specs.Law.{IsFoundTrail}
use Rattle.node_machine.specs.Node.{node}
use Rattle.node_machine.specs.Opening.{TrailFound, found_volume, opening_parts}
use Rattle.node_machine.specs.Same.{Among}
use Rattle.node_machine.specs.declared.event.Event.{Event}
use Rattle.node_machine.specs.declared.event.Event.TheVariants.{OfWorker}
use Rattle.node_machine.specs.declared.event.WorkerEvent.TheVariants.{Begin}
use Rattle.run_outcomes.specs.Devices.{part_of_device, told_by, told_of}
use Rattle.run_outcomes.specs.Ends.{is_failure, times_failed}
use Rattle.run_outcomes.specs.Found.{IsFoundOver, ToldAudit, ToldList, ToldSo}
use Rattle.node_machine.specs.Moves.{mover}
use Rattle.run_outcomes.specs.Run.{HasNotRun, HasRun, RoseBy, account_of}
use Rattle.run_outcomes.specs.Shows.{ShowsAudit, ShowsDevice, ShowsList}
use Rattle.run_outcomes.specs.Outcomes.{AreAttempts}
use Rattle.run_outcomes.specs.declared.outcome.PhaseError.{PhaseError}
use Rattle.run_outcomes.specs.declared.outcome.PhaseError.TheVariants.{Failed, NoMemory}
use Rattle.run_outcomes.specs.Told.{Account, AreTold, IsOutcomeTold, IsRecordOf, IsTold}
use Rattle.run_outcomes.specs.declared.outcome.Outcome.{Outcome}
use Rattle.run_outcomes.specs.declared.outcome.Told.TheVariants.{Busy, Committed, Dumping}
use Rattle.run_outcomes.proofs.LimitRow.{within}

-- THE SCRIPT

abbrev pub put : Step
put = record { file = 1; key = 107 ∷ []; op = Put (118 ∷ []) }

abbrev pub one_put : Transaction
one_put = record { attempts = 1; steps = put ∷ []; close = CommitClose }

abbrev phase : Phase
phase = record { kill = None; workers = (TransactionItem one_put ∷ []) ∷ [] }

abbrev committed_at : ℕ → Outcome
committed_at place = record { tx = t; told = Committed place [] }

-- THE DEVICES: WHAT ONE HOLDS, IF IT TELLS THAT

abbrev pub Device : Type 0
Device = Option Held

abbrev held_in : Device → Held
held_in None = λ n. None
held_in (Some held) = held

abbrev pub kind : disk.Ghosts Device
kind = record {
  tells = λ d. is_some d;
  held = held_in;
  faults = λ d. 0;
  is_same = λ a b. Unit {0};
}

-- a device with one file
abbrev pub with_file : ℕ → List ℕ → Held
with_file number bytes n = if n == number then Some (at_rest bytes) else None

-- this is so of the file with these bytes, which is the only one of its device
only_file : (P : File → Type 0) (bytes : List ℕ) (n : ℕ) → P (at_rest bytes) → IfThere (with_file 1 bytes) n P
only_file P bytes n is f there = by_case (n == 1) there where
  by_case : (b : Bool) → (if b then Some (at_rest bytes) else None) ≡ Some f → P f
  by_case true e = (let same : at_rest bytes ≡ f = cc (e) in subst P same is)
  by_case false e = absurd (cc (e))

settled : (bytes : List ℕ) → IsSettled (at_rest bytes)
settled bytes = record { safe = λ i lt. refl; synced = refl }

before_first : (bytes : List ℕ) (q : ℕ) → q < 1 → with_file 1 bytes q ≡ None
before_first bytes zero lt = refl
before_first bytes (suc q) lt = absurd (omega (arith, lt))

one_list : (held : Held) (xs ys : List MonitorRecord) → Spells monitor_format held xs → Spells monitor_format held ys → xs ≡ ys
one_list held xs ys = same_records monitor_format 32 (lit< tt) (λ item place. monitor_length item (monitor_format.number item place))
    (λ a b p va vb e. (monitor_one_number a b p p va vb e).0) monitor_front held xs ys

abbrev formats : Format AuditRecord
formats = audit_format (rules_of config 1)

one_audit : (held : Held) (xs ys : List AuditRecord) → Spells formats held xs → Spells formats held ys → xs ≡ ys
one_audit held xs ys = same_records formats 128 (lit< tt) (λ item place. audit_length item (formats.number item place)) (λ a b p va vb e. (audit_one (rules_of config 1) a b va vb e).0) audit_begins held xs ys

-- THE TRAILS AT THE OPENING AND AT THE END

abbrev list_before : List MonitorRecord
list_before = StartRecord 1 ∷ []

monitor_before : Rests monitor_format (old_images 0) list_before
monitor_before = record { spells = opens_here.stands.monitor_spelled; settled = λ n least most. only_file IsSettled _ n (settled _) }

monitor_after : Rests monitor_format (images 0) (list_before ++ Commit t ∷ [])
monitor_after = record { spells = shown_here.monitor_spelled; settled = λ n least most. only_file IsSettled _ n (settled _) }

abbrev no_bytes : List ℕ
no_bytes = 0 ∷ []

-- the change in a batch of its own, and a closed gate behind it
abbrev pub change_bytes : List ℕ
change_bytes = batches_text (text formats) 1 ((change ∷ []) ∷ []) ++ 0 ∷ []

audit_before : Rests formats (with_file 1 no_bytes) []
audit_before = record {
  spells = record {
    least = 1;
    files = [];
    batches = [];
    is_least = (refl, before_first no_bytes);
    begins = refl;
    text = record { numbers = omega arith; rolled = tt; last = (at_rest no_bytes, refl, record { each = tt; gate = 0; rest = []; closed = λ e. omega (arith, e); parts = refl }) };
    all = refl;
    in_order = refl;
    may_end = refl;
  };
  settled = λ n least most. only_file IsSettled no_bytes n (settled no_bytes);
}

audit_after : Rests formats (with_file 1 change_bytes) (change ∷ [])
audit_after = record {
  spells = record {
    least = 1;
    files = [];
    batches = (change ∷ []) ∷ [];
    is_least = (refl, before_first change_bytes);
    begins = refl;
    text = record {
      numbers = omega arith;
      rolled = tt;
      last = (at_rest change_bytes, refl, record { each = (record { some = omega arith; few = omega arith; each = (refl, tt) }, tt); gate = 0; rest = []; closed = λ e. omega (arith, e); parts = refl });
    };
    all = refl;
    in_order = refl;
    may_end = refl;
  };
  settled = λ n least most. only_file IsSettled change_bytes n (settled change_bytes);
}

-- WHAT THE HISTORY HAS

abbrev tail_of : {A : Type 0} → List A → List A
tail_of [] = []
tail_of (x ∷ xs) = xs

events : {x y : ℕ × Event} → x ≡ y → x.1 ≡ y.1
events e = ap (λ (x : ℕ × Event). x.1) e

-- behind its first event no attempt begins
none_begins : (part : ℕ) (u : Transid) → Among (tail_of log) (part, OfWorker (Begin u)) → ⊥
none_begins part u among = ⊎_elim (λ e. absurd (cc (events e))) (λ b. ⊎_elim (λ e. absurd (cc (events e))) (λ b. ⊎_elim (λ e. absurd (cc (events e))) (λ b. ⊎_elim (λ e. absurd (cc (events e))) (λ b. ⊎_elim (λ e. absurd (cc (events e))) (λ b.
    ⊎_elim (λ e. absurd (cc (events e))) (λ b. ⊎_elim (λ e. absurd (cc (events e))) (λ b. ⊎_elim (λ e. absurd (cc (events e))) (λ b. ⊎_elim (λ e. absurd (cc (events e))) (λ b. ⊎_elim (λ e. absurd (cc (events e))) (λ b. b) b) b) b) b) b) b) b) b) b) among

only_begin : (u : Transid) → HasBegun log u → t ≡ u
only_begin u among = ⊎_elim (λ e. cc (events e)) (λ later. absurd (none_begins (u.worker - 1) u later)) among

-- the event is an act of the attempt or of nobody, and no move
abbrev IsOwn : Event → Type 0
IsOwn e = ((actor e ≡ Some t) ⊎ (actor e ≡ None)) × (mover e ≡ None)

abbrev AreOwn : Log → Type 0
AreOwn [] = Unit {0}
AreOwn (x ∷ l) = IsOwn x.1 × AreOwn l

own_event : (e : Event) (u : Transid) → IsOwn e → (actor e ≡ Some u) ⊎ (mover e ≡ Some u) → t ≡ u
own_event e u own is = ⊎_elim
    (λ (act : actor e ≡ Some u). ⊎_elim (λ (mine : actor e ≡ Some t). let same : Some t ≡ Some u = sym mine ∙ act in cc (same)) (λ (none : actor e ≡ None). absurd (let bad : None ≡ Some u = sym none ∙ act in cc (bad))) own.0)
    (λ (move : mover e ≡ Some u). absurd (let bad : None ≡ Some u = sym own.1 ∙ move in cc (bad)))
    is

own_entry : (l : Log) → AreOwn l → (part : ℕ) (e : Event) (u : Transid) → Among l (part, e) → (actor e ≡ Some u) ⊎ (mover e ≡ Some u) → t ≡ u
own_entry [] own part e u among is = absurd among
own_entry (x ∷ l) own part e u among is = ⊎_elim (λ (same : x ≡ (part, e)). own_event e u (subst IsOwn (events same) own.0) is) (λ (later : Among l (part, e)). own_entry l own.1 part e u later is) among

-- each act is of the one attempt, and there is no move
only_done : (part : ℕ) (e : Event) (u : Transid) → Among log (part, e) → (actor e ≡ Some u) ⊎ (mover e ≡ Some u) → t ≡ u
only_done = own_entry log ((inr refl, refl), ((inr refl, refl), ((inl refl, refl), ((inr refl, refl), ((inr refl, refl), ((inr refl, refl), ((inr refl, refl), ((inr refl, refl), ((inr refl, refl), ((inr refl, refl), ((inr refl, refl), tt)))))))))))

-- what stands in the middle of a list is in it
in_middle : {A : Type 0} (xs ys : List A) (x : A) → Among (xs ++ x ∷ ys) x
in_middle [] ys x = inl refl
in_middle (y ∷ xs) ys x = inr (in_middle xs ys x)

tail_is : {A : Type 0} (x y : A) (xs ys : List A) → x ∷ xs ≡ y ∷ ys → xs ≡ ys
tail_is x y xs ys e = cc (e)

-- nothing has begun before the one begin
begun_before : (before after : Log) (u other : Transid) → log ≡ before ++ (u.worker - 1, OfWorker (Begin other)) ∷ after → HasBegun before u → ⊥
begun_before [] after u other e begun = begun
begun_before (x ∷ before) after u other e begun =
    let rest = tail_is _ x (tail_of log) _ e in
    none_begins (u.worker - 1) other (subst (λ (l : Log). Among l (u.worker - 1, OfWorker (Begin other))) (sym rest) (in_middle before after _))

enlisted_one : (volume : ℕ) → HasEnlisted log t volume → 1 ≡ volume
enlisted_one volume among = ⊎_elim (λ e. absurd (cc (events e))) (λ b. ⊎_elim (λ e. cc (events e)) (λ b. ⊎_elim (λ e. absurd (cc (events e))) (λ b. ⊎_elim (λ e. absurd (cc (events e))) (λ b. ⊎_elim (λ e. absurd (cc (events e))) (λ b.
    ⊎_elim (λ e. absurd (cc (events e))) (λ b. ⊎_elim (λ e. absurd (cc (events e))) (λ b. ⊎_elim (λ e. absurd (cc (events e))) (λ b. ⊎_elim (λ e. absurd (cc (events e))) (λ b. ⊎_elim (λ e. absurd (cc (events e))) (λ b. ⊎_elim (λ e. absurd (cc (events e))) (λ b. absurd b) b) b) b) b) b) b) b) b) b) b) among

released : HasReleased log t 1
released = inr (inr (inr (inr (inr (inr (inr (inr (inr (inr (inl refl))))))))))

let_go : HasLetGo log t
let_go = record {
  each = λ volume enlisted. subst (λ (v : ℕ). HasReleased log t v) (enlisted_one volume enlisted) released;
  first = λ volume before after other enlisted e begun. absurd (begun_before before after t other e begun);
}

-- no call of any device has failed
unfailed : (part : ℕ) → times_failed part log ≡ 0
unfailed part = each_part log all where
  AreFine : Log → Type 0
  AreFine [] = Unit {0}
  AreFine (x ∷ xs) = (is_failure x.1 ≡ false) × AreFine xs

  all : AreFine log
  all = (refl, (refl, (refl, (refl, (refl, (refl, (refl, (refl, (refl, (refl, (refl, tt)))))))))))

  kept : (b : Bool) (e : Event) (es : List Event) → is_failure e ≡ false → length (filter is_failure es) ≡ 0 → length (filter is_failure (cond b (e ∷ es) es)) ≡ 0
  kept false e es fine none = none
  kept true e es fine none = without (is_failure e) fine where
    without : (b : Bool) → b ≡ false → length (cond b (e ∷ filter is_failure es) (filter is_failure es)) ≡ 0
    without true bad = absurd (cc (bad))
    without false bad = none

  each_part : (l : Log) → AreFine l → times_failed part l ≡ 0
  each_part [] fine = refl
  each_part (x ∷ xs) fine = kept (x.0 == part) x.1 (events_of part xs) fine.0 (each_part xs fine.1)

-- THE BAY

min_zero : (n : ℕ) → min 0 n ≤ 0
min_zero zero = omega arith
min_zero (suc n) = omega arith

replicated : {A : Type 0} (count n : ℕ) (x y : A) → slice_get (replicate count x) n ≡ Some y → x ≡ y
replicated zero n x y at = absurd (cc (at))
replicated (suc count) zero x y at = cc (at)
replicated (suc count) (suc n) x y at = replicated count n x y at

-- a bay whose trails hold this; of the other devices none tells anything
abbrev bay : Held → Held → List Device
bay monitor audit = Some monitor ∷ Some audit ∷ replicate 19 None

abbrev pub old : List Device
old = bay (old_images 0) (with_file 1 no_bytes)

abbrev pub new : List Device
new = bay (images 0) (with_file 1 change_bytes)

told_first : (held : Held) → told_by kind old 0 ≡ Some held → old_images 0 ≡ held
told_first held e = cc (e)

told_second : (held : Held) → told_by kind old 1 ≡ Some held → with_file 1 no_bytes ≡ held
told_second held e = cc (e)

told_other : (n : ℕ) (held : Held) → told_by kind old (suc (suc n)) ≡ Some held → ⊥
told_other n held e = by_case (slice_get (replicate 19 None) n) refl e where
  by_case : (device : Option Device) → slice_get (replicate 19 None) n ≡ device → option_and_then (told_of kind) device ≡ Some held → ⊥
  by_case None at e = absurd (cc (e))
  by_case (Some d) at e =
      let same : None ≡ d = replicated 19 n None d at in
      let no : None ≡ Some held = ap (told_of kind) same ∙ e in
      absurd (cc (no))

list_told : (list : List MonitorRecord) → ToldList config (told_by kind old) list → list_before ≡ list
list_told list told =
    let held = told_first told.0 told.1 in
    one_list told.0 list_before list (subst (λ (h : Held). Spells monitor_format h list_before) held monitor_before.spells) told.2.spells

audit_told : (audit : List AuditRecord) → ToldAudit config (told_by kind old) 1 audit → [] ≡ audit
audit_told audit told =
    let held = told_second told.0 told.1 in
    one_audit told.0 [] audit (subst (λ (h : Held). Spells formats h []) held audit_before.spells) told.2.spells

-- of a volume nothing is told, and of no other device behind the first trail's
untold : (device : ℕ) (says : Held → Type 0) → 2 ≤ device → ToldSo config (told_by kind old) device says → ⊥
untold zero says two told = omega (arith, two)
untold (suc zero) says two told = omega (arith, two)
untold (suc (suc n)) says two told = told_other n told.0 told.1

opens : IsFoundOver config (told_by kind old) 1 found
opens = record {
  config_is = refl;
  epoch_is = refl;
  places = λ list told. ap length (list_told list told);
  trails = λ trail audit some few told.
      let first : 1 ≡ trail = omega (arith, some, few) in
      subst (λ (n : ℕ). ToldAudit config (told_by kind old) n audit → (x : TrailFound) × (numbered found.trails n ≡ Some x) × IsFoundTrail x audit) first
      (λ told. (_, refl, record { old = []; told = refl; items = audit_told audit told; in_order = omega arith })) told;
  volumes = λ number line base dump audit is told dumped audited. absurd (untold (4 + number) _ (omega arith) told);
  few_trails = omega arith;
  no_more = none_more;
} where
  none_more : (number : ℕ) → 1 < number → found_volume found number ≡ None
  none_more zero more = absurd (omega (arith, more))
  none_more (suc zero) more = absurd (omega (arith, more))
  none_more (suc (suc n)) more = refl

-- THE OUTCOMES

abbrev outcomes : List Outcome
outcomes = committed_at 2 ∷ []

only_outcome : (P : Outcome → Type 0) → P (committed_at 2) → (outcome : Outcome) → Among outcomes outcome → P outcome
only_outcome P is outcome among = ⊎_elim (λ (e : committed_at 2 ≡ outcome). subst P e is) (λ e. absurd e) among

abbrev whole : IsWhole log t (put ∷ [])
whole = record { done = refl; unturned = refl }

told : AreTold (account_of kind config phase 1 (λ n. slice_get old n) found log) outcomes
told = record {
  each = only_outcome (λ o. IsOutcomeTold (account_of kind config phase 1 (λ n. slice_get old n) found log) o) (record {
    told = inl (one_put, refl, (refl, whole, record { numbers = refl; values = refl }, record { before = 0; place_is = refl; at = refl }), refl);
    in_order = λ transaction is.
        let same : one_put ≡ transaction = cc (is) in
        subst (λ (x : Transaction). IsInOrder log t x.steps × (HasFinished log t → IsWhole log t x.steps)) same (record { count = 1; done = refl; turn = inl refl }, λ finished. whole);
    last = λ transaction is. record { first = acts_by t log; last = []; acts_are = sym (append-nil (acts_by t log)); unturned = refl; few = omega arith };
    ended = λ begun. inr (record { let_go = let_go; recorded = inl tt });
  });
  begun = λ u has. (committed_at 2, inl refl, only_begin u has);
  done = λ part e u among is. (committed_at 2, inl refl, only_done part e u among is);
  busy = λ outcome transaction file key holder among is at turned. absurd (only_outcome (λ o. o.told ≡ Busy file key holder → ⊥) (λ e. absurd (cc (e))) outcome among is);
  dumping = λ outcome volume among is. absurd (only_outcome (λ o. o.told ≡ Dumping volume → ⊥) (λ e. absurd (cc (e))) outcome among is);
}

-- THE IMAGES

shows_monitor : (image : Held) → Leaves (images 0) image → (before : List MonitorRecord) → list_before ≡ before → ShowsList config (told_by kind old) (states_after node (opening_parts found) log) image before
shows_monitor image leaves before same =
    (Commit t ∷ [], subst (λ (l : List MonitorRecord). Spells monitor_format image (l ++ Commit t ∷ [])) same (resting monitor_format (images 0) image _ monitor_after leaves).spells, (_, refl, inl refl))

shows_audit : (image : Held) → Leaves (with_file 1 change_bytes) image → ShowsAudit config (told_by kind old) (states_after node (opening_parts found) log) image 1
shows_audit image leaves =
    (change ∷ [], (resting formats (with_file 1 change_bytes) image _ audit_after leaves).spells, (_, refl, record { old = []; told = refl; all = record { file = 1; item = change } ∷ []; is_all = inl refl; least = 0; gone = inl refl; audit_is = refl }))

leaves_of : (held : Held) (after : Device) (image : Held) → Some (Some held) ≡ Some after → Leaves (held_in after) image → Leaves held image
leaves_of held after image at leaves =
    let same : Some held ≡ after = cc (at) in
    subst (λ (d : Device). Leaves (held_in d) image) (sym same) leaves

shown : (device : ℕ) (after : Device) (image : Held) → slice_get new device ≡ Some after → Leaves (held_in after) image
    → ShowsDevice config (told_by kind old) (states_after node (opening_parts found) log) image device
shown zero after image at leaves = record {
  monitor = λ before first told. shows_monitor image (leaves_of _ after image at leaves) before (list_told before told);
  trail = λ audit some few told. absurd (omega (arith, some));
  volume = λ number line base is there told. absurd (untold (4 + number) _ (omega arith) told);
  dump = λ number line base old is there told dumped. absurd (untold (4 + number) _ (omega arith) told);
}
shown (suc zero) after image at leaves = record {
  monitor = λ before first told. absurd (omega (arith, first));
  trail = λ audit some few told. shows_audit image (leaves_of _ after image at leaves);
  volume = λ number line base is there told. absurd (untold (4 + number) _ (omega arith) told);
  dump = λ number line base old is there told dumped. absurd (untold (4 + number) _ (omega arith) told);
}
shown (suc (suc n)) after image at leaves = record {
  monitor = λ before first told. absurd (omega (arith, first));
  trail = λ audit some few told. absurd (omega (arith, few));
  volume = λ number line base is there told. absurd (untold (4 + number) _ (omega arith) told);
  dump = λ number line base old is there told dumped. absurd (untold (4 + number) _ (omega arith) told);
}

-- no count has risen
risen : (times before : ℕ) → times ≡ 0 → before ≡ 0 → (now : ℕ) → RoseBy times before now
risen times before none first now =
    let same : before + times ≡ 0 = omega (arith, none, first) in
    subst (λ (n : ℕ). min n (2 ^ 64 - 1) ≤ now) (sym same) (omega (arith, min_zero (2 ^ 64 - 1)))

-- THE RUN

record_of : (item : MonitorRecord) → Among (Commit t ∷ []) item → IsRecordOf outcomes item
record_of item among = ⊎_elim (λ (e : Commit t ≡ item). subst (λ (x : MonitorRecord). IsRecordOf outcomes x) e (record { outcome = committed_at 2; among = inl refl; tx_is = refl; is_so = tt })) (λ e. absurd e) among

-- one transaction is committed at the second place: its outcome and both trails are those of the history
pub has_run : HasRun kind config phase 1 old new outcomes
has_run = record {
  found = found;
  log = log;
  opens = opens;
  history = example;
  attempts = (outcomes, [], refl, (outcomes, [], refl, (refl, inl refl), refl), (refl, tt), refl);
  told = told;
  within = within;
  records = record_of;
  shown = shown;
  failed = λ device before after was is. risen (times_failed (part_of_device device) log) _ (unfailed (part_of_device device)) refl _;
}

-- WHAT IS REFUSED

-- Over the same devices no history whatever has the commit at the first place, where the start of the epoch stands.
pub not_first : (left : List Device) → HasRun kind config phase 1 old left (committed_at 1 ∷ []) → ⊥
not_first left run =
    let places : run.found.places ≡ 1 = run.opens.places list_before (old_images 0, refl, monitor_before) in
    refused (account_of kind config phase 1 (λ n. slice_get old n) run.found run.log) ((run.told.each (committed_at 1) (inl refl)).told) places
  where
    refused : (a : Account) → IsTold a (committed_at 1) → a.opened ≡ 1 → ⊥
    refused a is_told places = elim is_told [
      | inl of_attempt ↦ omega (arith, places, of_attempt.2.3.place_is)
      | inr of_item ↦ elim of_item [
        | inl of_control ↦ of_control.2
        | inr of_dump ↦ of_dump.2
      ]
    ]

empty_front : {A : Type 0} (xs ys : List A) → [] ≡ xs ++ ys → [] ≡ xs
empty_front [] ys e = refl
empty_front (x ∷ xs) ys e = absurd (cc (e))

some_attempt : (most : ℕ) (u : Transid) (first : List Outcome) → AreAttempts most u first → [] ≡ first → ⊥
some_attempt most u [] are e = are
some_attempt most u (outcome ∷ first) are e = absurd (cc (e))

-- Nor may a run leave the attempt out.
pub not_none : (left : List Device) → HasRun kind config phase 1 old left [] → ⊥
not_none left run =
    let workers = run.attempts in
    let items = workers.3 in
    some_attempt 1 t items.0 items.3 (empty_front items.0 items.1 (empty_front workers.0 workers.1 workers.2 ∙ items.2))

-- WHERE NO WORKER HAS BEGUN

-- where memory ran out, the devices are as they were
pub has_not_run : HasNotRun kind config phase 1 old old NoMemory
has_not_run = record {
  same = λ number before after was is. (let one : Some before ≡ Some after = sym was ∙ is in let same : before ≡ after = cc (one) in ap held_in (sym same));
  failed = λ device e. absurd (cc (e));
  damaged = λ device damage tell e. absurd (cc (e));
}

-- No count has risen, so no device is told as failed.
pub not_failed : (device : ℕ) → HasNotRun kind config phase 1 old old (Failed device) → ⊥
not_failed device run = (let rose = (run.failed device refl).rose in omega (arith, rose (lit< tt)))

-- Nor may a run write that was refused: the commit stands there now.
pub not_written : (why : PhaseError) → HasNotRun kind config phase 1 old new why → ⊥
not_written why run =
    let held : images 0 ≡ old_images 0 = run.same 0 (Some (old_images 0)) (Some (images 0)) refl refl in
    let lists = one_list (images 0) (list_before ++ Commit t ∷ []) list_before monitor_after.spells (subst (λ (h : Held). Spells monitor_format h list_before) (sym held) monitor_before.spells) in
    let long : 2 ≡ 1 = ap length lists in
    omega (arith, long)
