-- What a handover keeps while its note sees more, and what it says once its audit has landed.
use Rattle.std.proofs.Common.{inr, ◌≡◌, ◌≢◌, ◌≤◌, ◌-◌, ℕ, zero, suc, Option, List, [], ◌∷◌, ◌++◌, length, refl, ap, sym, ◌∙◌, subst, arith, append_assoc, append-nil}
use Rattle.std.specs.Prelude.{take, drop, ⊤, ◌⊎◌, Result, Ok, Err, IfErr, MatchResult, OnOk}
use Rattle.std.specs.List.{AllByRecursion}
use Rattle.std.proofs.lemmas.List.{length-drop, take-append-drop}
use mathlib.Core.List.{IsPrefix}
use Rattle.chronicle.specs.Seats.{Sight, HasGrown, Knows, own_events}
use Rattle.disk_model.specs.declared.disk.Disk as disk
use Rattle.tmf_model.specs.declared.config.Config.{Config}
use Rattle.tmf_model.specs.declared.transid.Transid.{Transid}
use Rattle.trail_files.specs.declared.audit_record.AuditRecord.{AuditRecord}
use Rattle.trail_files.specs.declared.rules.Rules.{Rules}
use Rattle.node_machine.specs.declared.event.Event.{Event}
use Rattle.node_machine.specs.Monitor.{IsFlushed}
use Rattle.node_machine.specs.Node.{node}
use Rattle.node_machine.specs.Opening.{Found}
use Rattle.node_machine.specs.Parts.{Fact, PartState}
use Rattle.node_machine.specs.Parts.Fact.{Closed, Durable}
use Rattle.record_locks.specs.Names.{Entry as LockEntry}
use Rattle.block_cache.specs.Blocks.{View}
use Rattle.audit_writer.specs.Handing.{MayHand, disc_of, last_of}
use Rattle.audit_writer.specs.Locked.{HasFailed}
use Rattle.audit_writer.specs.declared.lock.FlushRefused.{FlushRefused}
use Rattle.txn_states.specs.Txn.{HasMet, HasStepped, Txn}
use Rattle.node_machine.specs.declared.event.By.{By}
use Rattle.disc_process.specs.declared.live.LiveTable.{LiveTable}
use Rattle.disc_process.specs.declared.moves.Moves.{Moves}
use Rattle.disc_process.specs.Disc.{IsDisc}
use Rattle.disc_process.specs.Handover.{IsHandover}
use Rattle.disc_process.proofs.Drawn.{durable_below, if_err, prefix_same}
use Rattle.disc_process.proofs.Handing.{all_durable, may_hand}
use Rattle.disc_process.proofs.LastWrite.{failed_told, stepped_met, told_same}

-- what may be handed in may be by whoever knows more
pub may_more : (opening : List PartState) (found : Found) (rules : Rules) (trail : ℕ) (v w : Sight Event) (disc : ℕ) (records : List AuditRecord) → ((f : Fact) → Knows node opening v f → Knows node opening w f)
    → MayHand opening found rules trail v disc records → MayHand opening found rules trail w disc records
may_more opening found rules trail v w disc records more m = record {
  volume = m.volume;
  volume_is = m.volume_is;
  own = m.own;
  number = m.number;
  begins = m.begins;
  front = m.front;
  positions = m.positions;
  last = m.last;
  made = more _ m.made;
  before = m.before;
  reaches = m.reaches;
  durable = more _ m.durable;
  valid = m.valid;
  small = m.small;
}

module _ {opening : List PartState} {found : Found} {rules : ℕ → Rules} {config : Config} {volume : ℕ} {tx : Transid} {records : List AuditRecord} {last landed : ℕ} {note : Sight Event}
    (h : IsHandover opening found rules config volume tx records last landed note) (w : Sight Event) (more : (f : Fact) → Knows node opening note f → Knows node opening w f) where
  -- the note has seen more, and knows the audit durable up to another position
  pub handover_to : (to : ℕ) → Knows node opening w (Durable volume to) → IsHandover opening found rules config volume tx records last to w
  handover_to to durable = record {
    config_is = h.config_is;
    valid = h.valid;
    declared = h.declared;
    position = h.position;
    closed = more _ h.closed;
    within = h.within;
    may = λ some. may_more opening found _ _ note w _ records more (h.may some);
    all = λ x further landed_. h.all x (λ f k. further f (more f k)) landed_;
    durable = durable;
  }

  pub handover_more : IsHandover opening found rules config volume tx records last landed w
  handover_more = handover_to landed (more _ h.durable)

  -- its audit has landed
  pub is_flushed : (records ≢ [] → Knows node opening w (Durable (disc_of records) (last_of records))) → IsFlushed (Knows node opening w) tx volume
  is_flushed shown = (h.position, more _ h.closed, durable_below opening w volume last h.position h.within (h.all w more shown))

  pub all_landed : (records ≢ [] → Knows node opening w (Durable (disc_of records) (last_of records))) → Knows node opening w (Durable volume last)
  all_landed shown = h.all w more shown

-- a disc hands out what is pending
module _ {D : Type 0} {kind : disk.Ghosts D} {found : Found} {rules : ℕ → Rules} {faults_of : ℕ → ℕ} {devices : ℕ → Option D} {config : Config} {volume : ℕ} {blocks : View D} {locks : List LockEntry} {live : LiveTable} {pending : List AuditRecord} {next : ℕ} {moves : Moves}
    (opening : List PartState) (v : Sight Event) (i : IsDisc kind opening found rules faults_of devices config volume blocks locks live pending next moves v) where
  pub handed_out : (tx : Transid) (p : ℕ) (records : List AuditRecord) (note : Sight Event) → records ≡ pending → note.seen ≡ v.seen → Knows node opening v (Closed tx volume p) → p ≤ next - 1
      → IsHandover opening found rules config volume tx records (next - 1) (next - 1 - length pending) note
  handed_out tx p records note same seen closed within =
      let knows : (f : Fact) → Knows node opening v f → Knows node opening note f = λ f k. subst (λ (l : List (ℕ × Event)). Knows node opening (record { part = note.part; seen = l }) f) (sym seen) k in
      subst (λ (rs : List AuditRecord). IsHandover opening found rules config volume tx rs (next - 1) (next - 1 - length pending) note) (sym same)
      (record {
        config_is = sym i.is_found.config_is;
        valid = i.valid;
        declared = i.declared;
        position = p;
        closed = knows _ closed;
        within = within;
        may = λ some. may_more opening found _ _ v note _ pending knows (may_hand opening v i some);
        all = λ w more landed. all_durable opening v i w (λ f k. more f (knows f k)) landed;
        durable = knows _ i.durable;
      })

-- FORGETTING

rest_valid : (P : AuditRecord → Type 0) (n : ℕ) (rs : List AuditRecord) → AllByRecursion P rs → AllByRecursion P (drop n rs)
rest_valid P zero rs all = all
rest_valid P (suc n) [] all = all
rest_valid P (suc n) (r ∷ rs) all = rest_valid P n rs all.1

module _ {D : Type 0} {kind : disk.Ghosts D} {found : Found} {rules : ℕ → Rules} {faults_of : ℕ → ℕ} {devices : ℕ → Option D} {config : Config} {volume : ℕ} {blocks : View D} {locks : List LockEntry} {live : LiveTable} {pending : List AuditRecord} {next : ℕ} {moves : Moves}
    (opening : List PartState) (v : Sight Event) (i : IsDisc kind opening found rules faults_of devices config volume blocks locks live pending next moves v) where
  -- the first of the pending records are durable, and are forgotten
  pub forgotten : (n landed : ℕ) (rest : List AuditRecord) → n ≤ length pending → next - 1 - landed ≤ length pending - n → Knows node opening v (Durable volume landed) → rest ≡ drop n pending
      → IsDisc kind opening found rules faults_of devices config volume blocks locks live rest next moves v
  forgotten n landed rest few behind known same =
      let k = i.keeps in
      let front : List AuditRecord = k.holds_pending.0 in
      let count : length (drop n pending) ≡ length pending - n = length-drop n pending in
      subst (λ (rs : List AuditRecord). IsDisc kind opening found rules faults_of devices config volume blocks locks live rs next moves v) (sym same)
      (record {
        fresh = i.fresh;
        valid = i.valid;
        volume_few = i.volume_few;
        declared = i.declared;
        is_found = i.is_found;
        seat = i.seat;
        keeps = record {
          position = k.position;
          few = k.few;
          holds_locks = k.holds_locks;
          holds_live = k.holds_live;
          coming = k.coming;
          holds_pending = (front ++ take n pending, k.holds_pending.1 ∙ ap (λ (xs : List AuditRecord). front ++ xs) (sym (take-append-drop n pending)) ∙ sym (append_assoc front (take n pending) (drop n pending)));
          values = k.values;
          draws = k.draws;
          are_drawn = k.are_drawn;
          below = k.below;
          audit = k.audit;
          homes = k.homes;
          files = k.files;
          only = k.only;
        };
        durable = durable_below opening v volume landed (next - 1 - length (drop n pending)) (omega (arith, count, behind)) known;
        records = rest_valid _ n pending i.records;
        holds_moves = i.holds_moves;
        spans = i.spans;
        holds_keys = i.holds_keys;
        holds_blocks = i.holds_blocks;
        holds_device = i.holds_device;
      })

-- TRANSACTIONS

pub stepped_same : (opening : List PartState) (t : Txn) → HasStepped opening t [] t
stepped_same opening t = record { tx = refl; discs = refl; steps = refl; seat = record { part = refl; begins = prefix_same t.seat.seen t.seat.seen refl; events = sym (append-nil (own_events t.seat)); kept = λ f k. k } }

-- A transaction's seat has met a note, and met it again once that has seen more.
module _ (opening : List PartState) (t u w : Txn) (a b c d : Sight Event) (first : HasMet opening t u a b) (grown : HasGrown b c) (second : HasMet opening u w c d) where
  pub met_twice : HasStepped opening t [] w
  met_twice = stepped_met opening t u w c d (stepped_met opening t t u a b (stepped_same opening t) first) second

  -- what newly failed for the note did so for the transaction
  pub failed_met : (trail other : ℕ) (by for : By) (r : Result ⊤ FlushRefused) → trail ≡ other → by ≡ for → IfErr r (HasFailed trail by b c) → IfErr r (HasFailed other for t.seat w.seat)
  failed_met trail other by for r trails bys failed =
      let begins : IsPrefix t.seat.seen b.seen = subst (λ (l : List (ℕ × Event)). IsPrefix t.seat.seen l) first.same first.first.begins in
      let front : IsPrefix u.seat.seen c.seen = subst (λ (l : List (ℕ × Event)). IsPrefix l c.seen) (sym first.same) grown.begins in
      if_err r (HasFailed trail by b c) (HasFailed other for t.seat w.seat) (λ e h. failed_told trail other by for t.seat b c w.seat e trails bys begins (told_same opening u w c d second front) h) failed

-- what is so in both cases
pub told_either : {A E : Type 0} (r : Result A E) (P Q : Type 0) → P → MatchResult r (λ _. P) (λ _. Q ⊎ P)
told_either (Ok x) P Q p = p
told_either (Err e) P Q p = inr p

pub ok_either : {A E : Type 0} (r : Result A E) (P : Type 0) → P → OnOk r P
ok_either (Ok x) P p = p
ok_either (Err e) P p = tt
