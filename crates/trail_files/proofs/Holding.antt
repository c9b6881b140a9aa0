-- What the calls of a trail make of its content.
use Rattle.std.specs.Prelude.{Some, IsTrue}
use Rattle.std.proofs.Common.{◌≡◌, ◌≢◌, ◌⊎◌, ⊎_elim, inl, inr, ℕ, ◌+◌, ◌<◌, ◌^◌, ◌++◌, ◌∷◌, [], List, length, true, arith, ap, sym, refl, ◌∙◌, subst, length-append}
use Rattle.std.proofs.lemmas.List.{append-nil}
use Rattle.disk_model.specs.declared.disk.Disk as disk
use Rattle.disk_model.specs.Held.{Held, File, IsThere, Elsewhere, created}
use Rattle.trail_files.specs.declared.rules.Rules.{Rules}
use Rattle.trail_files.specs.declared.trail.TrailPhase.TheVariants as phase
use Rattle.trail_files.specs.Content.{Placed, Content, Pending, records_in, in_file, HasBatch, batch_of, phase_of, landed_in, with_loaded, with_landed, with_offered, with_next_file, with_roll, at_risk}
use Rattle.trail_files.specs.Content.Pending.{Nothing, Loaded, Offered, Rolling}
use Rattle.trail_files.specs.Format.{Format, text}
use Rattle.trail_files.specs.Holds.{Holds, Stands, IsPending}
use Rattle.trail_files.specs.Landed.{IsSettled, IsLandedFile, IsOfferedFile}
use Rattle.trail_files.specs.Put.{Put, Left}
use Rattle.trail_files.specs.Text.{body, IsBatchOf, place_behind}
use Rattle.trail_files.specs.Trail.{View, HasFiles, IsReady, IsOffered, IsRolling}
use Rattle.trail_files.proofs.Calls.{staged, body_of, gate_ok, gate_err, load_err, ready_elsewhere, roll_staged, roll_ok, roll_err, settled_put, settled_created, not_ready, not_loaded, not_offered}
use Rattle.trail_files.proofs.Placing.{records_in-append, records_in-in_file, placed_more, placed_rolled}

-- a record's batch lands behind those before
pub landed_more : {R : Type 0} (file : ℕ) (placed : List (Placed R)) (batch : List R) → records_in (placed ++ in_file file batch) ≡ records_in placed ++ batch
landed_more file placed batch = records_in-append placed (in_file file batch) ∙ ap (λ l. records_in placed ++ l) (records_in-in_file file batch)

module _ {D R : Type 0} (held : D → Held) (format : Format R) (t : View D) (files : List (List (List R))) (batches : List (List R)) where
  -- a batch that is loaded or offered may be offered
  pub offered_in : (pending : Pending R) → phase_of pending ≢ phase.Ready → phase_of pending ≢ phase.RollOffered → IsPending held format t files batches pending → IsOffered held format t files batches (batch_of pending)
  offered_in Nothing some no_roll is = absurd (some refl)
  offered_in (Loaded batch) some no_roll is = is.1
  offered_in (Offered batch) some no_roll is = is
  offered_in Rolling some no_roll is = absurd (no_roll refl)

  -- none is pending in front of a load
  pub ready_in : (pending : Pending R) → phase_of pending ≡ phase.Ready → IsPending held format t files batches pending → IsReady held format t files batches
  ready_in Nothing ready is = is
  ready_in (Loaded batch) ready is = absurd cc
  ready_in (Offered batch) ready is = absurd cc
  ready_in Rolling ready is = absurd cc

  pub rolling_in : (pending : Pending R) → phase_of pending ≡ phase.RollOffered → IsPending held format t files batches pending → IsRolling held format t files batches
  rolling_in Nothing rolls is = absurd cc
  rolling_in (Loaded batch) rolls is = absurd cc
  rolling_in (Offered batch) rolls is = absurd cc
  rolling_in Rolling rolls is = is

  pub pending_ready : (pending : Pending R) → phase_of pending ≡ phase.Ready → IsReady held format t files batches → IsPending held format t files batches pending
  pending_ready Nothing ready is = is
  pending_ready (Loaded batch) ready is = absurd cc
  pending_ready (Offered batch) ready is = absurd cc
  pending_ready Rolling ready is = absurd cc

  pub pending_rolling : (pending : Pending R) → phase_of pending ≡ phase.RollOffered → IsRolling held format t files batches → IsPending held format t files batches pending
  pending_rolling Nothing rolls is = absurd cc
  pending_rolling (Loaded batch) rolls is = absurd cc
  pending_rolling (Offered batch) rolls is = absurd cc
  pending_rolling Rolling rolls is = is

  module _ (new : D) (same : held new ≡ held t.device) where
    front_same : HasFiles format (held t.device) t.least t.file t.gate t.places files batches → HasFiles format (held new) t.least t.file t.gate t.places files batches
    front_same is = subst (λ h. HasFiles format h t.least t.file t.gate t.places files batches) (sym same) is

    there_same : (P : File → Type 0) → IsThere (held t.device) t.file P → IsThere (held new) t.file P
    there_same P is = subst (λ h. IsThere h t.file P) (sym same) is

    ready_same : IsReady held format t files batches → IsReady held format (record t { device = new }) files batches
    ready_same is = record { front = front_same is.front; file = there_same (IsLandedFile (text format) (place_behind files) batches) is.file }

    offered_same : (batch : List R) → IsOffered held format t files batches batch → IsOffered held format (record t { device = new }) files batches batch
    offered_same batch is = record { front = front_same is.front; size = is.size; count = is.count; is_batch = is.is_batch; file = there_same (IsOfferedFile (text format) (place_behind files) batches batch) is.file }

    pub pending_same : (pending : Pending R) → IsPending held format t files batches pending → IsPending held format (record t { device = new }) files batches pending
    pending_same Nothing is = ready_same is
    pending_same (Loaded batch) is = (ready_same is.0, offered_same batch is.1)
    pending_same (Offered batch) is = offered_same batch is
    pending_same Rolling is = record { front = front_same is.front; phase = is.phase; file = there_same (IsOfferedFile (text format) (place_behind files) batches []) is.file; more = is.more; next = ap (λ h. h (t.file + 1)) same ∙ is.next }

pub stands_same : {D R : Type 0} (held : D → Held) (format : Format R) (t : View D) (new : D) (c : Content R) → held new ≡ held t.device → Stands held format t c → Stands held format (record t { device = new }) c
stands_same held format t new c same s = record {
  files = s.files;
  batches = s.batches;
  start = s.start;
  file_is = s.file_is;
  stands = pending_same held format t s.files s.batches new same c.pending s.stands;
  placed_is = s.placed_is;
  in_order = s.in_order;
  settled = λ e. subst (λ h. IsThere h t.file IsSettled) (sym same) (s.settled e);
}

-- a batch that is loaded or offered has a record
some_in : {R : Type 0} (pending : Pending R) → phase_of pending ≢ phase.Ready → phase_of pending ≢ phase.RollOffered → HasBatch pending → 0 < length (batch_of pending)
some_in Nothing not_none no_roll some = absurd (not_none refl)
some_in (Loaded batch) not_none no_roll some = some
some_in (Offered batch) not_none no_roll some = some
some_in Rolling not_none no_roll some = absurd (no_roll refl)

-- where no batch is pending, there is none
no_batch : {R : Type 0} (pending : Pending R) → (phase_of pending ≡ phase.Ready) ⊎ (phase_of pending ≡ phase.RollOffered) → batch_of pending ≡ []
no_batch Nothing none = refl
no_batch (Loaded batch) none = absurd (⊎_elim (λ e. cc) (λ e. cc) none)
no_batch (Offered batch) none = absurd (⊎_elim (λ e. cc) (λ e. cc) none)
no_batch Rolling none = refl

module _ {D R : Type 0} (kind : disk.Ghosts D) (format : Rules → Format R) (t : View D) (new : D) (telling : kind.tells new ≡ kind.tells t.device) (c : Content R) (is : Holds kind format t c) where
  pub holds_gated : t.phase ≢ phase.Ready → t.phase ≢ phase.RollOffered → (IsTrue (kind.tells t.device) → Elsewhere t.file (kind.held t.device) (kind.held new) × Put t.file (kind.held t.device) (kind.held new) t.gate (1 ∷ []))
      → Holds kind format (record t { device = new; phase = phase.Ready; gate = t.gate + t.size; places = t.places + t.count; size = 0; count = 0 }) (with_landed c)
  holds_gated some no_roll done = record {
    phase = refl;
    least = is.least;
    file = is.file;
    some = tt;
    more = λ e. absurd (not_ready e);
    told = λ told.
        let told' = sym telling ∙ told in
        let s = is.told told' in
        let d = done told' in
        let batch = batch_of c.pending in
        let offered = offered_in kind.held (format t.rules) t s.files s.batches c.pending (λ e. some (is.phase ∙ e)) (λ e. no_roll (is.phase ∙ e)) s.stands in
        record {
          files = s.files;
          batches = s.batches ++ batch ∷ [];
          start = s.start;
          file_is = s.file_is;
          stands = gate_ok kind.held (format t.rules) t new s.files s.batches batch offered d.0 d.1;
          placed_is = ap (λ l. l ++ in_file c.file batch) s.placed_is ∙ sym (placed_more s.start s.files s.batches batch c.file (sym is.file ∙ s.file_is));
          in_order = ap (format t.rules).in_order (append-nil _ ∙ landed_more c.file c.placed batch) ∙ s.in_order;
          settled = λ _. settled_put t.file (kind.held t.device) (kind.held new) t.gate (1 ∷ []) d.1 offered.file.0 offered.file.1;
        };
  }

  pub holds_not_gated : t.phase ≢ phase.Ready → t.phase ≢ phase.RollOffered → (IsTrue (kind.tells t.device) → Elsewhere t.file (kind.held t.device) (kind.held new) × Left t.file (kind.held t.device) (kind.held new) t.gate (1 ∷ []))
      → Holds kind format (record t { device = new; phase = phase.Offered }) (with_offered c)
  holds_not_gated some no_roll done = record {
    phase = refl;
    least = is.least;
    file = is.file;
    some = some_in c.pending (λ e. some (is.phase ∙ e)) (λ e. no_roll (is.phase ∙ e)) is.some;
    more = λ e. absurd (not_offered e);
    told = λ told.
        let told' = sym telling ∙ told in
        let s = is.told told' in
        let d = done told' in
        let batch = batch_of c.pending in
        let offered = offered_in kind.held (format t.rules) t s.files s.batches c.pending (λ e. some (is.phase ∙ e)) (λ e. no_roll (is.phase ∙ e)) s.stands in
        record {
          files = s.files;
          batches = s.batches;
          start = s.start;
          file_is = s.file_is;
          stands = gate_err kind.held (format t.rules) t new s.files s.batches batch offered d.0 d.1;
          placed_is = s.placed_is;
          in_order = s.in_order;
          settled = λ e. absurd cc;
        };
  }

  -- the records are in order, with no batch behind them
  alone : (s : Stands kind.held (format t.rules) t c) → (t.phase ≡ phase.Ready) ⊎ (t.phase ≡ phase.RollOffered) → (format t.rules).in_order (landed_in c ++ []) ≡ true
  alone s none = ap (λ l. (format t.rules).in_order (landed_in c ++ l)) (sym (no_batch c.pending (⊎_elim (λ e. inl (sym is.phase ∙ e)) (λ e. inr (sym is.phase ∙ e)) none))) ∙ s.in_order

  pub holds_loaded : (batch : List R) (size : ℕ) → t.phase ≡ phase.Ready → IsBatchOf (format t.rules) batch → size ≡ length (body (text (format t.rules)) (t.places + 1) batch) + 1 → (IsTrue (kind.tells t.device) → (format t.rules).in_order (landed_in c ++ batch) ≡ true)
      → (IsTrue (kind.tells t.device) → Elsewhere t.file (kind.held t.device) (kind.held new) × Put t.file (kind.held t.device) (kind.held new) (t.gate + 1) (body (text (format t.rules)) (t.places + 1) batch ++ 0 ∷ []))
      → Holds kind format (record t { device = new; phase = phase.Loaded; size = size; count = length batch }) (with_loaded batch c)
  holds_loaded batch size ready is_batch long ordered done = record {
    phase = refl;
    least = is.least;
    file = is.file;
    some = is_batch.some;
    more = λ e. absurd (not_loaded e);
    told = λ told.
        let told' = sym telling ∙ told in
        let s = is.told told' in
        let d = done told' in
        let r = ready_in kind.held (format t.rules) t s.files s.batches c.pending (sym is.phase ∙ ready) s.stands in
        let both = staged kind.held (format t.rules) t new batch s.files s.batches r d.0 d.1 in
        let next = body_of (format t.rules) t.least t.file t.gate t.places s.files s.batches batch r.front.counts.next in
        record {
          files = s.files;
          batches = s.batches;
          start = s.start;
          file_is = s.file_is;
          stands = (
            record { front = both.1; file = (both.0.0, both.0.1, both.0.2.ready) },
            record { front = both.1; size = long ∙ ap (λ (b : List ℕ). length b + 1) next; count = refl; is_batch = is_batch; file = (both.0.0, both.0.1, both.0.2.offered) },
          );
          placed_is = s.placed_is;
          in_order = ordered told';
          settled = λ _. settled_put t.file (kind.held t.device) (kind.held new) (t.gate + 1) _ d.1 r.file.0 r.file.1;
        };
  }

  pub holds_not_loaded : (bytes : List ℕ) → t.phase ≡ phase.Ready → (IsTrue (kind.tells t.device) → Elsewhere t.file (kind.held t.device) (kind.held new) × Left t.file (kind.held t.device) (kind.held new) (t.gate + 1) bytes) → Holds kind format (record t { device = new }) (at_risk c)
  holds_not_loaded bytes ready done = record {
    phase = is.phase;
    least = is.least;
    file = is.file;
    some = is.some;
    more = is.more;
    told = λ told.
        let told' = sym telling ∙ told in
        let s = is.told told' in
        let d = done told' in
        let r = ready_in kind.held (format t.rules) t s.files s.batches c.pending (sym is.phase ∙ ready) s.stands in
        record {
          files = s.files;
          batches = s.batches;
          start = s.start;
          file_is = s.file_is;
          stands = pending_ready kind.held (format t.rules) (record t { device = new }) s.files s.batches c.pending (sym is.phase ∙ ready) (load_err kind.held (format t.rules) t new bytes s.files s.batches r d.0 d.1);
          placed_is = s.placed_is;
          in_order = s.in_order;
          settled = λ e. absurd cc;
        };
  }

  -- the next file was made, or may have been
  pub holds_unmade : t.phase ≡ phase.Ready → (IsTrue (kind.tells t.device) → Elsewhere (t.file + 1) (kind.held t.device) (kind.held new)) → Holds kind format (record t { device = new }) c
  holds_unmade ready done = record {
    phase = is.phase;
    least = is.least;
    file = is.file;
    some = is.some;
    more = is.more;
    told = λ told.
        let told' = sym telling ∙ told in
        let s = is.told told' in
        let r = ready_in kind.held (format t.rules) t s.files s.batches c.pending (sym is.phase ∙ ready) s.stands in
        record {
          files = s.files;
          batches = s.batches;
          start = s.start;
          file_is = s.file_is;
          stands = pending_ready kind.held (format t.rules) (record t { device = new }) s.files s.batches c.pending (sym is.phase ∙ ready) (ready_elsewhere kind.held (format t.rules) t new s.files s.batches r (done told'));
          placed_is = s.placed_is;
          in_order = s.in_order;
          settled = λ e. let file = s.settled e in (file.0, done told' t.file (λ e. omega (arith, e)) ∙ file.1, file.2);
        };
  }

  pub holds_rolling : (size : ℕ) → t.phase ≡ phase.Ready → t.file + 1 < 2 ^ 32
      → (IsTrue (kind.tells t.device) → (kind.held t.device (t.file + 1) ≡ Some created) × Elsewhere t.file (kind.held t.device) (kind.held new) × Put t.file (kind.held t.device) (kind.held new) (t.gate + 1) (body (text (format t.rules)) (t.places + 1) [] ++ 0 ∷ []))
      → Holds kind format (record t { device = new; phase = phase.RollOffered; size = size; count = 0 }) (with_roll c)
  holds_rolling size ready more done = record {
    phase = refl;
    least = is.least;
    file = is.file;
    some = tt;
    more = λ _. omega (arith, more);
    told = λ told.
        let told' = sym telling ∙ told in
        let s = is.told told' in
        let d = done told' in
        let r = ready_in kind.held (format t.rules) t s.files s.batches c.pending (sym is.phase ∙ ready) s.stands in
        record {
          files = s.files;
          batches = s.batches;
          start = s.start;
          file_is = s.file_is;
          stands = roll_staged kind.held (format t.rules) t new size s.files s.batches r more d.0 d.1 d.2;
          placed_is = s.placed_is;
          in_order = alone s (inl ready);
          settled = λ e. absurd cc;
        };
  }

  pub holds_rolled : t.phase ≡ phase.RollOffered → (IsTrue (kind.tells t.device) → Elsewhere t.file (kind.held t.device) (kind.held new) × Put t.file (kind.held t.device) (kind.held new) t.gate (1 ∷ []))
      → Holds kind format (record t { device = new; phase = phase.Ready; file = t.file + 1; gate = 0; size = 0; count = 0 }) (with_next_file c)
  holds_rolled rolls done = record {
    phase = refl;
    least = is.least;
    file = ap (λ n. n + 1) is.file;
    some = tt;
    more = λ e. absurd (not_ready e);
    told = λ told.
        let told' = sym telling ∙ told in
        let s = is.told told' in
        let d = done told' in
        let r = rolling_in kind.held (format t.rules) t s.files s.batches c.pending (sym is.phase ∙ rolls) s.stands in
        record {
          files = s.files ++ s.batches ∷ [];
          batches = [];
          start = s.start;
          file_is = omega (arith, s.file_is, length-append s.files (s.batches ∷ []));
          stands = roll_ok kind.held (format t.rules) t new s.files s.batches r d.0 d.1;
          placed_is = s.placed_is ∙ sym (placed_rolled s.start s.files s.batches);
          in_order = alone s (inr rolls);
          settled = λ _. (created, d.0 (t.file + 1) (λ e. omega (arith, e)) ∙ r.next, settled_created);
        };
  }

  pub holds_not_rolled : t.phase ≡ phase.RollOffered → (IsTrue (kind.tells t.device) → Elsewhere t.file (kind.held t.device) (kind.held new) × Left t.file (kind.held t.device) (kind.held new) t.gate (1 ∷ [])) → Holds kind format (record t { device = new }) (with_roll c)
  holds_not_rolled rolls done = record {
    phase = rolls;
    least = is.least;
    file = is.file;
    some = tt;
    more = is.more;
    told = λ told.
        let told' = sym telling ∙ told in
        let s = is.told told' in
        let d = done told' in
        let r = rolling_in kind.held (format t.rules) t s.files s.batches c.pending (sym is.phase ∙ rolls) s.stands in
        record {
          files = s.files;
          batches = s.batches;
          start = s.start;
          file_is = s.file_is;
          stands = roll_err kind.held (format t.rules) t new s.files s.batches r d.0 d.1;
          placed_is = s.placed_is;
          in_order = alone s (inr rolls);
          settled = λ e. absurd cc;
        };
  }

module _ {D R : Type 0} (kind : disk.Ghosts D) (format : Rules → Format R) (t : View D) (c : Content R) where
  -- what is known of a content is known with less of it settled
  pub holds_at_risk : Holds kind format t c → Holds kind format t (at_risk c)
  holds_at_risk is = record {
    phase = is.phase;
    least = is.least;
    file = is.file;
    some = is.some;
    more = is.more;
    told = λ told.
        let s = is.told told in
        record { files = s.files; batches = s.batches; start = s.start; file_is = s.file_is; stands = s.stands; placed_is = s.placed_is; in_order = s.in_order; settled = λ e. absurd cc };
  }

  -- a read changes nothing
  pub holds_same : (new : D) → kind.tells new ≡ kind.tells t.device → kind.held new ≡ kind.held t.device → Holds kind format t c → Holds kind format (record t { device = new }) c
  holds_same new telling same is = record {
    phase = is.phase;
    least = is.least;
    file = is.file;
    some = is.some;
    more = is.more;
    told = λ told. stands_same kind.held (format t.rules) t new c same (is.told (sym telling ∙ told));
  }
