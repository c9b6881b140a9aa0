-- A transaction that is to be committed closes at a disc.
use Rattle.std.proofs.Common.{◌||◌, Option, inl, inr, eqb-true, ◌≡◌, ℕ, ◌==◌, ◌++◌, Bool, true, false, List, [], ◌∷◌, Some, cond, refl, ap, sym, subst, ◌∙◌, append-nil}
use Rattle.std.specs.List.{list_any}
use Rattle.chronicle.specs.Histories.{IsHistory, IsTrueIn, states_after}
use Rattle.chronicle.specs.Seats.{Sight, HasLearned, Knows, part_state}
use Rattle.disk_model.specs.declared.disk.Disk as disk
use Rattle.chronicle.proofs.Facts.{known_of_part}
use Rattle.tmf_model.specs.declared.transid.Transid.{Transid}
use Rattle.node_machine.specs.declared.event.DiscEvent.{DiscEvent}
use Rattle.node_machine.specs.declared.event.DiscEvent.TheVariants as did
use Rattle.node_machine.specs.declared.event.Event.{Event}
use Rattle.node_machine.specs.declared.event.Event.TheVariants.{OfDisc}
use Rattle.node_machine.specs.Made.{has_closed, last_write}
use Rattle.node_machine.specs.Node.{node}
use Rattle.node_machine.specs.Parts.{DiscPart, PartState}
use Rattle.node_machine.specs.Parts.Fact.{Closed, Enlisted, Finished}
use Rattle.node_machine.specs.Parts.PartState.{Worker, Disc}
use Rattle.node_machine.specs.Same.{Among}
use Rattle.txn_states.specs.Txn.{IsEndingTxn, Txn}
use Rattle.trail_files.specs.declared.audit_record.AuditRecord.{AuditRecord}
use Rattle.tmf_model.specs.declared.config.Config.{Config}
use Rattle.record_locks.specs.Names.{Entry as LockEntry}
use Rattle.disc_process.specs.declared.live.LiveTable.{LiveTable}
use Rattle.block_cache.specs.Blocks.{View}
use Rattle.node_machine.specs.Opening.{Found}
use Rattle.trail_files.specs.declared.rules.Rules.{Rules}
use Rattle.disc_process.specs.Live.{live_of}
use Rattle.disc_process.specs.declared.moves.Moves.{Moves}
use Rattle.disc_process.specs.Disc.{HoldsLive, IsDisc, IsFresh, closings, the_disc}
use Rattle.disc_process.specs.LiveTx.{LiveTx, ended}
use Rattle.disc_process.proofs.Acting.{IsLeft, is_left}
use Rattle.disc_process.proofs.Keeping.{live_same}

among_step : (x d : ℕ) (xs : List ℕ) (b : Bool) → (x == d) ≡ b → (list_any (λ y. y == d) xs ≡ true → Among xs d) → (b || list_any (λ y. y == d) xs) ≡ true → Among (x ∷ xs) d
among_step x d xs true same rest h = inl (eqb-true x d same)
among_step x d xs false same rest h = inr (rest h)

among_any : (xs : List ℕ) (d : ℕ) → list_any (λ x. x == d) xs ≡ true → Among xs d
among_any [] d h = absurd (cc (h))
among_any (x ∷ xs) d h = among_step x d xs (x == d) refl (among_any xs d) h

module _ (opening : List PartState) where
  pub ending_left : (t : Txn) (u : Sight Event) → IsFresh opening → IsEndingTxn opening t → IsHistory node opening u.seen → t.seat.seen ≡ u.seen
      → (s : DiscPart) → part_state node opening u ≡ Some (Disc s) → IsLeft s t.tx
  ending_left t u fresh e h same s at = (let a = e.committing in is_left opening t.seat u fresh h same a.part a.at t.tx a.is_open s at)

  pub ending_enlisted : (t : Txn) (d : ℕ) → IsEndingTxn opening t → list_any (λ x. x == d) t.discs ≡ true → Knows node opening t.seat (Enlisted t.tx d)
  ending_enlisted t d e there =
      let a = e.committing in
      known_of_part node opening t.seat (Worker a.part) (Enlisted t.tx d) a.at (
        record { worker = a.is_open.is_own.worker; epoch = a.is_open.is_own.epoch },
        subst (λ (xs : List ℕ). Among xs d) (sym a.discs_are) (among_any t.discs d there),
      )

  pub ending_finished : (t : Txn) → IsEndingTxn opening t → Knows node opening t.seat (Finished t.tx)
  ending_finished t e =
      let a = e.committing in
      known_of_part node opening t.seat (Worker a.part) (Finished t.tx) a.at
      (record { worker = a.is_open.is_own.worker; epoch = a.is_open.is_own.epoch }, a.finished)

  -- what a disc that has closed tells a seat that has seen the same
  pub closed_told : (v u : Sight Event) (s : DiscPart) (t : Transid) (p : ℕ) → part_state node opening u ≡ Some (Disc s) → has_closed s.events t ≡ true → last_write s.events t ≡ p → v.seen ≡ u.seen
      → Knows node opening v (Closed t s.number p)
  closed_told v u s t p at closed last same =
      subst (λ (l : List (ℕ × Event)). IsTrueIn node (states_after node opening l) (Closed t s.number p)) (sym same)
      (known_of_part node opening u (Disc s) (Closed t s.number p) at (refl, closed, last))

-- what the table keeps of a transaction that is to be committed
pub closing_live : {D : Type 0} {kind : disk.Ghosts D} {found : Found} {rules : ℕ → Rules} {faults_of : ℕ → ℕ} {devices : ℕ → Option D} {config : Config} {volume : ℕ} {blocks : View D} {locks : List LockEntry} {live : LiveTable} {pending : List AuditRecord} {next : ℕ} {moves : Moves}
    → (opening : List PartState) (v : Sight Event) → IsDisc kind opening found rules faults_of devices config volume blocks locks live pending next moves v
    → (old new : Txn) (u : Sight Event) (t : Transid) → t ≡ old.tx → new.tx ≡ old.tx → IsEndingTxn opening new → HasLearned node opening v u → new.seat.seen ≡ u.seen
    → (now : LiveTable) → live_of now t ≡ live_of live t
    → HoldsLive now (the_disc opening v).events t × IsLeft (the_disc opening v) t
closing_live {live} opening v i old new u t is kept e learned same now same_live =
    let s : DiscPart = the_disc opening v in
    let left : IsLeft s t = subst (λ (x : Transid). IsLeft s x) (kept ∙ sym is) (ending_left opening new u i.fresh e learned.history same s (learned.state ∙ i.seat.at)) in
    (live_same live now s.events t same_live (i.keeps.holds_live t left.unreleased), left)

pub no_closings : (xs : List Event) (events : List DiscEvent) (t : Transid) → has_closed events t ≡ true → xs ≡ xs ++ closings events t
no_closings xs events t is = sym (append-nil xs) ∙ ap (λ b. xs ++ cond b [] (OfDisc (did.Close t) ∷ [])) (sym is)

pub one_closing : (events : List DiscEvent) (t : Transid) → has_closed events t ≡ false → OfDisc (did.Close t) ∷ [] ≡ closings events t
one_closing events t is = ap (λ b. cond b [] (OfDisc (did.Close t) ∷ [])) (sym is)

pub ended_last : (b : Bool) (l : LiveTx) → (cond b (ended l) l).last ≡ l.last
ended_last true l = refl
ended_last false l = refl
