-- How the monitor's trail and part go on belonging together.
use Rattle.std.specs.Prelude.{ℕ, ◌<◌, ◌≤◌, ◌-◌, ◌^◌, List, [], ◌∷◌, ◌++◌, length, Option, Some, None}
use Rattle.std.proofs.Common.{◌≡◌, ◌≢◌, ◌⊎◌, inl, inr, ⊎_elim, refl, ap, sym, ◌∙◌, subst, arith, append_assoc, append-nil}
use Rattle.disk_model.specs.Frame.{IsLater}
use Rattle.disk_model.specs.Held.{Held, Rose}
use Rattle.disk_model.specs.declared.disk.Disk as disk
use Rattle.trail_files.specs.declared.monitor_record.MonitorRecord.{MonitorRecord}
use Rattle.trail_files.specs.declared.trail.TrailPhase.TheVariants.{Ready, Loaded, Offered, RollOffered}
use Rattle.trail_files.specs.Content.{Content, Pending, records_in, in_file, batch_of, offered_of, landed_in, with_loaded, with_landed, with_offered}
use Rattle.trail_files.specs.Content.Pending.{Nothing, Loaded as LoadedBatch, Offered as OfferedBatch, Rolling}
use Rattle.trail_files.specs.Holds.{Holds, Keeps, MaySpell}
use Rattle.trail_files.specs.MonitorRecord.{monitor_format}
use Rattle.trail_files.specs.Trail.{View, Rests}
use Rattle.trail_files.proofs.Placing.{records_in-append, records_in-in_file}
use Rattle.node_machine.specs.declared.event.By.{By}
use Rattle.node_machine.specs.declared.event.MonitorEvent.{MonitorEvent}
use Rattle.node_machine.specs.declared.event.MonitorEvent.TheVariants.{Offer, Land, Failed}
use Rattle.node_machine.specs.Monitor.{recorded, offered_car}
use Rattle.node_machine.specs.Parts.{MonitorPart}
use Rattle.node_machine.specs.Shows.{ShowsMonitor}
use Rattle.audit_writer.specs.Writer.{IsHandedIn}
use Rattle.commit_boxcar.specs.Seat.{monitor_with_event}
use Rattle.commit_boxcar.specs.Monitor.{Belong, Stands, HasPhase, IsRise, monitor_formats}

not_rolling : Ready ≢ RollOffered
not_rolling e = cc

loaded_not_rolling : Loaded ≢ RollOffered
loaded_not_rolling e = cc

offered_not_rolling : Offered ≢ RollOffered
offered_not_rolling e = cc

pub some_of : {A : Type 0} (xs : List A) → 0 < length xs → xs ≢ []
some_of [] lt e = omega (arith, lt)
some_of (x ∷ xs) lt e = absurd (cc (e))

module _ {D : Type 0} (kind : disk.Ghosts D) (premise : Type 0) (before : List MonitorRecord) (part : MonitorPart) (trail next : View D) (keeps : Keeps kind trail next) (is : Belong kind premise before part trail) where
  -- what was offered has landed
  pub lands : next.phase ≡ Ready → ((content : Content MonitorRecord) → Holds kind monitor_formats trail content → Holds kind monitor_formats next (with_landed content)) → Belong kind premise before (monitor_with_event part Land) next
  lands ready gated = record {
    writable = keeps.writable is.writable;
    phase = inl (inl ready, refl);
    more = λ rolls. absurd (not_rolling (sym ready ∙ rolls));
    stands = λ p. landed_there (is.stands p);
  }
    where
      landed_there : Stands kind before part trail → Stands kind before (monitor_with_event part Land) next
      landed_there s =
          let c = s.content in
          let batch = batch_of c.pending in record {
            tells = keeps.device.tells ∙ s.tells;
            content = with_landed c;
            holds = gated c s.holds;
            landed =
                records_in-append c.placed (in_file c.file batch)
                ∙ ap (λ (l : List MonitorRecord). landed_in c ++ l) (records_in-in_file c.file batch ∙ s.pending)
                ∙ ap (λ (l : List MonitorRecord). l ++ offered_car part.events) s.landed
                ∙ append_assoc before (recorded part.events) (offered_car part.events);
            pending = refl;
          }

  -- a batch is offered
  pub offers : (batch : List MonitorRecord) → batch ≢ [] → offered_car part.events ≡ [] → next.phase ≡ Loaded
      → (premise → (s : Stands kind before part trail) → (here : Content MonitorRecord) × (here.placed ≡ s.content.placed) × Holds kind monitor_formats next (with_loaded batch here))
      → Belong kind premise before (monitor_with_event part (Offer batch)) next
  offers batch some none loaded loads = record {
    writable = keeps.writable is.writable;
    phase = inr (inl loaded, some);
    more = λ rolls. absurd (loaded_not_rolling (sym loaded ∙ rolls));
    stands = λ p. (let s = is.stands p in let put = loads p s in record {
      tells = keeps.device.tells ∙ s.tells;
      content = with_loaded batch put.0;
      holds = put.2;
      landed = ap records_in put.1 ∙ s.landed;
      pending = refl;
    });
  }

  fails : (by : By) → HasPhase next.phase (offered_car part.events) → (next.phase ≡ RollOffered → next.file < 4294967295)
      → (premise → (s : Stands kind before part trail) → (here : Content MonitorRecord) × (here.placed ≡ s.content.placed) × (batch_of here.pending ≡ batch_of s.content.pending) × Holds kind monitor_formats next here)
      → Belong kind premise before (monitor_with_event part (Failed by)) next
  fails by phase rolls left = record {
    writable = keeps.writable is.writable;
    phase = phase;
    more = rolls;
    stands = λ p. (let s = is.stands p in let l = left p s in record {
      tells = keeps.device.tells ∙ s.tells;
      content = l.0;
      holds = l.3;
      landed = ap records_in l.1 ∙ s.landed;
      pending = l.2 ∙ s.pending;
    });
  }

  -- the gate's write has failed, and what is offered is still offered
  pub not_landed : (by : By) → offered_car part.events ≢ [] → next.phase ≡ Offered → ((content : Content MonitorRecord) → Holds kind monitor_formats trail content → Holds kind monitor_formats next (with_offered content))
      → Belong kind premise before (monitor_with_event part (Failed by)) next
  not_landed by some phase gated = fails by (inr (inr phase, some)) (λ rolls. absurd (offered_not_rolling (sym phase ∙ rolls))) (λ p s. (with_offered s.content, refl, refl, gated s.content s.holds))

  -- a load or a roll has failed, and nothing is offered
  pub not_offered : (by : By) → offered_car part.events ≡ [] → (next.phase ≡ Ready) ⊎ (next.phase ≡ RollOffered) → (next.phase ≡ RollOffered → next.file < 4294967295)
      → (premise → (s : Stands kind before part trail) → (here : Content MonitorRecord) × (here.placed ≡ s.content.placed) × (batch_of here.pending ≡ []) × Holds kind monitor_formats next here)
      → Belong kind premise before (monitor_with_event part (Failed by)) next
  not_offered by none phase rolls left = fails by (inl (phase, none)) rolls (λ p s. (let l = left p s in (l.0, l.1, l.2 ∙ sym (s.pending ∙ none), l.3)))

-- THE DEVICE

pub rise_same : (first old new : ℕ) (events : List MonitorEvent) → IsRise first old events → old ≤ new → IsRise first new events
rise_same first old new events is later small =
    let before = is (omega (arith, later, small)) in
    omega (arith, before, later)

pub rise_failed : (first old new : ℕ) (events : List MonitorEvent) (by : By) → IsRise first old events → old ≤ new → Rose old new → IsRise first new (Failed by ∷ events)
rise_failed first old new events by is later rose small =
    let low : old < 2 ^ 64 - 1 = omega (arith, later, small) in
    let before = is low in
    let more = rose low in
    omega (arith, before, more)

-- the device that was handed in, after a call more
pub handed_on : {D : Type 0} (kind : disk.Ghosts D) → ((a b c : D) → kind.is_same a b → kind.is_same b c → kind.is_same a c) → (given : Option D) (old new : D) → IsHandedIn kind given old → IsLater kind old new → IsHandedIn kind given new
handed_on kind on None old new is later = is
handed_on kind on (Some given) old new is later = record { device = on given old new is.device later.device; tells = later.tells ∙ is.tells; later = (let a = is.later in let b = later.later in omega (arith, a, b)) }

-- IMAGES

-- the image spells what the part allows
pub shown : {D : Type 0} (kind : disk.Ghosts D) (before : List MonitorRecord) (part : MonitorPart) (trail : View D) (image : Held) (s : Stands kind before part trail) → MaySpell monitor_format s.content image
    → (list : List MonitorRecord) × ShowsMonitor part list × Rests monitor_format image (before ++ list)
shown kind before part trail image s spells = ⊎_elim without (at s.content.pending refl) spells
  where
    without : Rests monitor_format image (landed_in s.content) → (list : List MonitorRecord) × ShowsMonitor part list × Rests monitor_format image (before ++ list)
    without rests = (recorded part.events, inl refl, subst (λ (l : List MonitorRecord). Rests monitor_format image l) s.landed rests)

    with_batch : Rests monitor_format image (landed_in s.content ++ batch_of s.content.pending) → (list : List MonitorRecord) × ShowsMonitor part list × Rests monitor_format image (before ++ list)
    with_batch rests = (
      recorded part.events ++ offered_car part.events,
      inr refl,
      subst (λ (l : List MonitorRecord). Rests monitor_format image l) ((λ i. s.landed i ++ s.pending i) ∙ append_assoc before (recorded part.events) (offered_car part.events)) rests,
    )

    at : (p : Pending MonitorRecord) → s.content.pending ≡ p → Rests monitor_format image (landed_in s.content ++ offered_of p) → (list : List MonitorRecord) × ShowsMonitor part list × Rests monitor_format image (before ++ list)
    at Nothing e more = without (subst (λ (l : List MonitorRecord). Rests monitor_format image l) (append-nil (landed_in s.content)) more)
    at (LoadedBatch batch) e more = without (subst (λ (l : List MonitorRecord). Rests monitor_format image l) (append-nil (landed_in s.content)) more)
    at (OfferedBatch batch) e more = with_batch (subst (λ (p : Pending MonitorRecord). Rests monitor_format image (landed_in s.content ++ batch_of p)) (sym e) more)
    at Rolling e more = without (subst (λ (l : List MonitorRecord). Rests monitor_format image l) (append-nil (landed_in s.content)) more)
