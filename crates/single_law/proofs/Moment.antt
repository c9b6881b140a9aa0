-- When an attempt of the one worker acts at a disc, nobody else holds anything there, and the commits so far come to what the outcomes before its own leave.
use Rattle.std.specs.Prelude.{◌≡◌, ◌⊎◌, ℕ, suc, ◌+◌, ◌<◌, true, false, List, [], ◌∷◌, ◌++◌, length, map, Option, Some, None, slice_get, take}
use Rattle.std.specs.List.{cons_option}
use Rattle.std.proofs.Common.{refl, ap, sym, ◌∙◌, subst, arith, append_assoc, append-nil, ⊎_elim, inl, inr}
use Rattle.chronicle.specs.Histories.{IsEnabled, IsHistory, IsTrueIn, states_after}
use Rattle.tmf_model.specs.Commits.{after_commit, script_transaction}
use Rattle.tmf_model.specs.Effect.{after_steps, closed, effect}
use Rattle.tmf_model.specs.RecordMap.{RecordMap}
use Rattle.tmf_model.specs.declared.script.Close.TheVariants.{Abort as AbortClose, Commit as CommitClose}
use Rattle.tmf_model.specs.declared.script.Item.{Item}
use Rattle.tmf_model.specs.declared.script.Phase.{Phase}
use Rattle.tmf_model.specs.declared.script.Step.{Step}
use Rattle.tmf_model.specs.declared.script.Transaction.{Transaction}
use Rattle.tmf_model.specs.declared.transid.Transid.{Transid}
use Rattle.trail_files.specs.declared.damage.Damage.{Damage}
use Rattle.trail_files.specs.declared.monitor_record.MonitorRecord.{MonitorRecord}
use Rattle.trail_files.specs.declared.monitor_record.MonitorRecord.TheVariants.{Abort, Commit, Start}
use Rattle.node_machine.specs.Deeds.{DoneLaw, EventsLaw, HasBegun, HasEnlisted, HasLetGo, HasReleased, Log, done, step_of, steps_done}
use Rattle.node_machine.specs.Disc.{IsNoOther}
use Rattle.node_machine.specs.Holders.{HolderLaw}
use Rattle.node_machine.specs.Law.{Deed, after_list, deeds_of}
use Rattle.node_machine.specs.Made.{has_released, key_holder}
use Rattle.node_machine.specs.Monitor.{ended_by, offered_car, recorded}
use Rattle.node_machine.specs.Node.{node}
use Rattle.node_machine.specs.Opening.{Found, disc_part, monitor_part, opening_parts, worker_part}
use Rattle.node_machine.specs.Parts.{MonitorPart}
use Rattle.node_machine.specs.Parts.Fact.{Closed, Decided, Recorded}
use Rattle.node_machine.specs.Parts.PartState.{Disc, Monitor}
use Rattle.node_machine.specs.Same.{Among, IsBefore}
use Rattle.node_machine.specs.SameLaws.{among_append, among_left, among_right}
use Rattle.node_machine.specs.declared.event.DiscEvent.TheVariants.{Release}
use Rattle.node_machine.specs.declared.event.Event.{Event}
use Rattle.node_machine.specs.declared.event.Event.TheVariants.{OfDisc, OfWorker}
use Rattle.node_machine.specs.declared.event.WorkerEvent.TheVariants.{Begin}
use Rattle.run_outcomes.specs.Outcomes.{first_attempt}
use Rattle.run_outcomes.specs.Told.{IsEnded, MayHold}
use Rattle.run_outcomes.specs.declared.outcome.Outcome.{Outcome}
use Rattle.run_outcomes.specs.declared.outcome.Told.{Told}
use Rattle.run_outcomes.specs.declared.outcome.Told.TheVariants.{Aborted, Busy, Committed, Controlled, Damaged, Dumped, Dumping, Failed, Full, Hanging, InDoubt, Memory, Refused, Skipped, Spent}
use Rattle.single_law.proofs.Acting.{IsActing, done_enlisted, none_behind}
use Rattle.single_law.proofs.Alone.{AreFrom}
use Rattle.single_law.proofs.Folds.{IsIdle, same_fold, same_meaning}
use Rattle.single_law.proofs.Given.{IsGiven, account, among_front, among_given, front_among, landed, landed_first, landed_true, monitor_there, offered, recorded_begun, was_backed}
use Rattle.single_law.proofs.Landed.{IsItemTold, IsLeftBy, IsOwnEnd, all_are, all_records, at_m, attempt_of, commit_left, ends_or_item, events_are, front_left, going, its, later_from, m, no_attempt, row}
use Rattle.single_law.proofs.Moments.{among_cut, begun_before, decided_once, enlist_begun, enlisted_begun, enlisted_decided, enlisted_stands, front_log, is_closed, is_released, next_enabled, not_before, still_true}
use Rattle.single_law.proofs.Rows.{row_across, row_front}
use Rattle.single_law.proofs.Served.{Agree, deeds_append}
use Rattle.single_law.specs.Left.{end_record, map_left, records_left}
use Rattle.single_law.specs.Row.{AreInRow}

-- AN OUTCOME AMONG OTHERS

-- those before it are of earlier attempts, those behind it of later ones
pub record IsAround (epoch first : ℕ) (earlier later : List Outcome) (o : Outcome) : Type 0 where
  pub tx : o.tx ≡ first_attempt epoch 1 (first + length earlier)
  pub before : (e : Outcome) → Among earlier e → IsBefore e.tx o.tx × (e.tx.worker ≡ 1)
  pub behind_it : (l : Outcome) → Among later l → IsBefore o.tx l.tx × (l.tx.worker ≡ 1)

pub is_around : (epoch first : ℕ) (earlier later : List Outcome) (o : Outcome) → AreFrom epoch first (earlier ++ o ∷ later) → IsAround epoch first earlier later o
is_around epoch first [] later o are = record {
  tx = are.0 ∙ ap (λ (n : ℕ). first_attempt epoch 1 n) (omega arith);
  before = λ e has. absurd has;
  behind_it = λ l has. (let is = later_from epoch first (suc first) later l (omega arith) are.1 has in (subst (λ (t : Transid). IsBefore t l.tx) (sym are.0) is.0, is.1));
}
is_around epoch first (e ∷ earlier) later o are =
    let rest = is_around epoch (suc first) earlier later o are.1 in
    record {
      tx = rest.tx ∙ ap (λ (n : ℕ). first_attempt epoch 1 n) (omega arith);
      before = λ u has. ⊎_elim
          (λ (is : e ≡ u).
          let tx : u.tx ≡ first_attempt epoch 1 first = ap (λ (v : Outcome). v.tx) (sym is) ∙ are.0 in
          let later_ = later_from epoch first (suc first) (earlier ++ o ∷ later) o (omega arith) are.1 (among_right earlier (o ∷ later) o (inl refl)) in
          (subst (λ (t : Transid). IsBefore t o.tx) (sym tx) later_.0, ap (λ (t : Transid). t.worker) tx))
          (λ (more : Among earlier u). rest.before u more)
          has;
      behind_it = rest.behind_it;
    }

-- a record of a commit is left by an outcome that tells of it
pub commit_told : (t u : Transid) (how : Told) → end_record t how ≡ Some (Commit u) → (t ≡ u) × ((place : ℕ) × (reads : List (ℕ × Option (List ℕ))) × (how ≡ Committed place reads))
commit_told t u (Committed place reads) is = (let one : Commit t ≡ Commit u = cc (is) in (cc (one), (place, reads, refl)))
commit_told t u Aborted is = (let one : Abort t ≡ Commit u = cc (is) in absurd (cc (one)))
commit_told t u (Full file key) is = (let one : Abort t ≡ Commit u = cc (is) in absurd (cc (one)))
commit_told t u (Refused op reason) is = (let one : Abort t ≡ Commit u = cc (is) in absurd (cc (one)))
commit_told t u (Busy file key holder) is = absurd (cc (is))
commit_told t u (Spent part) is = absurd (cc (is))
commit_told t u (Failed device) is = absurd (cc (is))
commit_told t u (Damaged device damage) is = absurd (cc (is))
commit_told t u (InDoubt device) is = absurd (cc (is))
commit_told t u (Hanging why) is = absurd (cc (is))
commit_told t u Skipped is = absurd (cc (is))
commit_told t u Memory is = absurd (cc (is))
commit_told t u (Controlled volume low) is = absurd (cc (is))
commit_told t u (Dumped volume start) is = absurd (cc (is))
commit_told t u (Dumping volume) is = absurd (cc (is))

-- a record that outcomes leave is left by one of them
pub left_by : (outcomes : List Outcome) (x : MonitorRecord) → Among (records_left outcomes) x → (o : Outcome) × Among outcomes o × IsLeftBy o x
left_by [] x has = absurd has
left_by (o ∷ outcomes) x has = by_case (end_record o.tx o.told) refl (left_by outcomes x) has where
  by_case : (left : Option MonitorRecord) → end_record o.tx o.told ≡ left → (Among (records_left outcomes) x → (u : Outcome) × Among outcomes u × IsLeftBy u x) → Among (cons_option left (records_left outcomes)) x
      → (u : Outcome) × Among (o ∷ outcomes) u × IsLeftBy u x
  by_case None is rest has = (let r = rest has in (r.0, inr r.1, r.2))
  by_case (Some y) is rest has = ⊎_elim
      (λ (same : y ≡ x). (o, inl refl, is ∙ ap (λ (z : MonitorRecord). Some z) same))
      (λ (more : Among (records_left outcomes) x). (let r = rest more in (r.0, inr r.1, r.2)))
      has

pub effect_same : (t : Transaction) (steps : List Step) (map_ : RecordMap) → t.close ≡ CommitClose → steps ≡ t.steps → effect (record { attempts = 1; steps = steps; close = CommitClose }) map_ ≡ effect t map_
effect_same t steps map_ c s = ap (λ xs. closed CommitClose (after_steps xs map_) map_) s ∙ ap (λ k. closed k (after_steps t.steps map_) map_) (sym c)

module _ (law : EventsLaw) (holder_law : HolderLaw) (done_law : DoneLaw) (phase : Phase) (items : List Item) (outcomes : List Outcome) (found : Found) (log : Log) (broken : ℕ → Damage → Type 0)
    (given : IsGiven phase items outcomes found log broken) where
  -- whoever has begun has let go
  let_go : (outcome : Outcome) → Among (going law phase items outcomes found log broken given) outcome → HasBegun log outcome.tx → HasLetGo log outcome.tx
  let_go outcome among begun = ⊎_elim
      (λ (own : IsOwnEnd law phase items outcomes found log broken given outcome.told). of_end outcome.told own ((given.told.each outcome (front_among given.count outcomes outcome among)).ended begun))
      (λ (item : IsItemTold outcome.told). absurd (no_attempt law phase items outcomes found log broken given outcome.tx outcome.told item (given.told.each outcome (front_among given.count outcomes outcome among)).told begun))
      (ends_or_item law phase items outcomes found log broken given outcome outcome.told among refl)
    where
      of_end : (how : Told) → IsOwnEnd law phase items outcomes found log broken given how → MayHold how ⊎ IsEnded (account phase items outcomes found log broken) outcome.tx how → HasLetGo log outcome.tx
      of_end (Committed place reads) own (inl may) = absurd may
      of_end (Committed place reads) own (inr is) = is.let_go
      of_end Aborted own (inl may) = absurd may
      of_end Aborted own (inr is) = is.let_go
      of_end (Full file key) own (inl may) = absurd may
      of_end (Full file key) own (inr is) = is.let_go
      of_end (Refused op reason) own (inl may) = absurd may
      of_end (Refused op reason) own (inr is) = is.let_go
      of_end _ own is = absurd own

  -- an attempt that is committed is decided so, and in no other way
  not_backed_out : (u : Transid) (discs : List ℕ) → Among (landed phase items outcomes found log broken) (Commit u) → IsTrueIn node (states_after node (opening_parts found) log) (Decided u AbortClose discs) → ⊥
  not_backed_out u discs has decided =
      let all : Among (recorded (m law phase items outcomes found log broken given).events ++ offered_car (m law phase items outcomes found log broken given).events) (Commit u) =
      subst (λ (l : List MonitorRecord). Among l (Commit u)) (all_are law phase items outcomes found log broken given)
      (among_left (landed phase items outcomes found log broken) (offered phase items outcomes found log broken) (Commit u) has) in
      let was = was_backed law found log (m law phase items outcomes found log broken given) (Commit u) given.history (at_m law phase items outcomes found log broken given) all in
      let committed = still_true law found log was.front was.rest (Decided u CommitClose was.backed.0) was.cut given.history was.backed.1 in
      let both : CommitClose ≡ AbortClose = decided_once law found log u CommitClose AbortClose was.backed.0 discs given.history committed decided in
      cc (both)

  -- ONE OUTCOME, AT A MOMENT AT WHICH ITS ATTEMPT ACTS

  module _ (earlier later : List Outcome) (o : Outcome) (whole : outcomes ≡ earlier ++ o ∷ later) (few : length earlier < given.count) where
    around : IsAround found.epoch 1 earlier later o
    around = is_around found.epoch 1 earlier later o (subst (λ (l : List Outcome). AreFrom found.epoch 1 l) whole (its law phase items outcomes found log broken given).from)

    o_worker : o.tx.worker ≡ 1
    o_worker = ap (λ (t : Transid). t.worker) around.tx

    among_here : (u : Outcome) → Among (earlier ++ o ∷ later) u → Among outcomes u
    among_here u has = subst (λ (l : List Outcome). Among l u) (sym whole) has

    -- up to this one none is the last
    up_to : (u : Outcome) → Among (earlier ++ o ∷ []) u → Among (going law phase items outcomes found log broken given) u
    up_to u has = subst (λ (l : List Outcome). Among (take given.count l) u) (sym whole) (among_front given.count earlier later o u few has)

    o_going : Among (going law phase items outcomes found log broken given) o
    o_going = up_to o (among_right earlier (o ∷ []) o (inl refl))

    e_going : (e : Outcome) → Among earlier e → Among (going law phase items outcomes found log broken given) e
    e_going e has = up_to e (among_left earlier (o ∷ []) e has)

    e_among : (e : Outcome) → Among earlier e → Among outcomes e
    e_among e has = among_here e (among_left earlier (o ∷ later) e has)

    -- what the outcomes before leave stands first of what has landed
    before_it : (behind : List MonitorRecord) × (landed phase items outcomes found log broken ≡ records_left earlier ++ behind)
    before_it = front_left law phase items outcomes found log broken given earlier (o ∷ later) whole e_going

    module _ (front rest : Log) (cut : log ≡ front ++ rest) (acts : IsActing found front o.tx) where
      front_is : IsHistory node (opening_parts found) front
      front_is = front_log law found log front rest cut given.history

      begun_front : HasBegun front o.tx
      begun_front = enlisted_begun law found front o.tx acts.s.number front_is acts.listed

      in_log : (x : ℕ × Event) → Among front x → Among log x
      in_log x has = subst (λ (l : Log). Among l x) (sym cut) (among_left front rest x has)

      listed_log : HasEnlisted log o.tx acts.s.number
      listed_log = in_log _ (enlisted_stands law found front o.tx acts.s.number front_is acts.listed)

      still_holds : HasReleased front o.tx acts.s.number → ⊥
      still_holds gone = (let both : true ≡ false = sym (is_released law found front acts.s.number acts.s o.tx front_is acts.at gone) ∙ acts.acts.unreleased in cc (both))

      -- a begin in the front stands in the log too
      begin_cut : (t : Transid) → HasBegun front t → (b a : Log) × (log ≡ b ++ (worker_part t.worker, OfWorker (Begin t)) ∷ a) × ((x : ℕ × Event) → Among b x → Among front x)
      begin_cut t begun =
          let entry : ℕ × Event = (worker_part t.worker, OfWorker (Begin t)) in
          let c = among_cut front entry begun in (
            c.0,
            c.1 ++ rest,
            cut ∙ (ap (λ (l : Log). l ++ rest) c.2 ∙ append_assoc c.0 (entry ∷ c.1) rest),
            λ x has. subst (λ (l : Log). Among l x) (sym c.2) (among_left c.0 (entry ∷ c.1) x has),
          )

      -- at the begin of an attempt an earlier one has released
      released_by_begin : (u : Outcome) (t : Transid) (volume : ℕ) → Among (going law phase items outcomes found log broken given) u → u.tx.worker ≡ t.worker → IsBefore u.tx t → HasBegun front t → HasEnlisted log u.tx volume → HasReleased front u.tx volume
      released_by_begin u t volume among worker earlier_ begun listed =
          let c = begin_cut t begun in
          let u_begun = enlist_begun law found log u.tx volume given.history listed in
          let u_before = begun_before law found log c.0 c.1 u.tx t given.history c.2 worker earlier_ u_begun in
          let as_own : log ≡ c.0 ++ (worker_part u.tx.worker, OfWorker (Begin t)) ∷ c.1 = subst (λ (w : ℕ). log ≡ c.0 ++ (worker_part w, OfWorker (Begin t)) ∷ c.1) (sym worker) c.2 in
          c.3 _ ((let_go u among u_begun).first volume c.0 c.1 t listed as_own u_before)

      -- no later attempt has begun
      later_unbegun : (l : Outcome) → Among later l → HasBegun front l.tx → ⊥
      later_unbegun l has begun =
          let is = around.behind_it l has in
          still_holds (released_by_begin o l.tx acts.s.number o_going (o_worker ∙ sym is.1) is.0 begun listed_log)

      -- each earlier one has released
      earlier_released : (e : Outcome) → Among earlier e → (volume : ℕ) → HasEnlisted log e.tx volume → HasReleased front e.tx volume
      earlier_released e has volume listed =
          let is = around.before e has in
          released_by_begin e o.tx volume (e_going e has) (is.1 ∙ sym o_worker) is.0 begun_front listed

      -- so it has made no step since
      earlier_done : (e : Outcome) → Among earlier e → steps_done e.tx front ≡ steps_done e.tx log
      earlier_done e has =
          let none : deeds_of e.tx rest ≡ [] = none_behind law found log given.history e.tx front (earlier_released e has) [] rest (cut ∙ ap (λ (l : Log). l ++ rest) (sym (append-nil front))) in
          let all : deeds_of e.tx log ≡ deeds_of e.tx front = ap (λ (l : Log). deeds_of e.tx l) cut ∙ (deeds_append e.tx front rest ∙ (ap (λ (l : List Deed). deeds_of e.tx front ++ l) none ∙ append-nil (deeds_of e.tx front))) in
          ap (λ (l : List Deed). map step_of l) (sym all)

      -- WHAT HAS LANDED SO FAR

      abbrev pub mf : MonitorPart
      mf = (monitor_there found front).0

      pub at_mf : slice_get (states_after node (opening_parts found) front) monitor_part ≡ Some (Monitor mf)
      at_mf = (monitor_there found front).1

      abbrev pub so_far : List MonitorRecord
      so_far = recorded mf.events

      first_of_all : (more : List MonitorRecord) × (so_far ++ more ≡ landed phase items outcomes found log broken)
      first_of_all =
          let is = landed_first found log front rest mf (m law phase items outcomes found log broken given) cut given.history at_mf (at_m law phase items outcomes found log broken given) in
          (is.0, is.1 ∙ ap recorded (sym (events_are law phase items outcomes found log broken given)))

      -- those that have landed so far, and those that land behind them, stand in a row
      in_row : AreInRow (so_far ++ first_of_all.0)
      in_row = subst (λ (l : List MonitorRecord). AreInRow l) (sym first_of_all.1)
          (row_front (landed phase items outcomes found log broken) (offered phase items outcomes found log broken) (row law phase items outcomes found log broken given))

      so_far_all : (x : MonitorRecord) → Among so_far x → Among (all_records law phase items outcomes found log broken given) x
      so_far_all x has = among_left (landed phase items outcomes found log broken) (offered phase items outcomes found log broken) x
          (subst (λ (l : List MonitorRecord). Among l x) first_of_all.1 (among_left so_far first_of_all.0 x has))

      so_far_begun : (x : MonitorRecord) (t : Transid) → Among so_far x → ended_by x ≡ Some t → HasBegun front t
      so_far_begun x t has is = recorded_begun law found front mf x t front_is at_mf (among_left so_far (offered_car mf.events) x has) is

      -- who has released and is committed has its commit among them
      released_commit : (u : Transid) (volume : ℕ) → HasReleased front u volume → Among (landed phase items outcomes found log broken) (Commit u) → Among so_far (Commit u)
      released_commit u volume gone committed =
          let entry : ℕ × Event = (disc_part volume, OfDisc (Release u)) in
          let c = among_cut front entry gone in
          at_moment c.0 c.1 c.2 (next_enabled law found front c.0 c.1 entry c.2 front_is)
        where
          at_moment : (b a : Log) → front ≡ b ++ (disc_part volume, OfDisc (Release u)) ∷ a → IsEnabled node (states_after node (opening_parts found) b) (disc_part volume, OfDisc (Release u)) → Among so_far (Commit u)
          at_moment b a split (Disc s, at, may, inl is) =
              landed_true found front mf (Commit u) is.0 front_is at_mf (still_true law found front b ((disc_part volume, OfDisc (Release u)) ∷ a) (Recorded (Commit u) is.0) split front_is is.1)
          at_moment b a split (Disc s, at, may, inr is) =
              let to_log : log ≡ b ++ ((disc_part volume, OfDisc (Release u)) ∷ a ++ rest) = cut ∙ (ap (λ (l : Log). l ++ rest) split ∙ append_assoc b ((disc_part volume, OfDisc (Release u)) ∷ a) rest) in
              absurd (not_backed_out u is.0.0 committed (still_true law found log b ((disc_part volume, OfDisc (Release u)) ∷ a ++ rest) (Decided u AbortClose is.0.0) to_log given.history is.0.1))
          at_moment b a split (_, at, may, asks) = absurd may

      -- its own is not: that asks that it has closed at each disc that it has enlisted
      pub not_yet : Among so_far (Commit o.tx) → ⊥
      not_yet has =
          let was = was_backed law found front mf (Commit o.tx) front_is at_mf (among_left so_far (offered_car mf.events) (Commit o.tx) has) in
          let decided = still_true law found front was.front was.rest (Decided o.tx CommitClose was.backed.0) was.cut front_is was.backed.1 in
          let flushed = was.backed.2 acts.s.number (enlisted_decided law found front o.tx acts.s.number CommitClose was.backed.0 front_is acts.listed decided) in
          let closed_ = still_true law found front was.front was.rest (Closed o.tx acts.s.number flushed.0) was.cut front_is flushed.1 in
          let both : true ≡ false = sym (is_closed law found front acts.s.number flushed.0 acts.s o.tx front_is acts.at closed_) ∙ acts.acts.unclosed in
          cc (both)

      -- each commit among them is of an earlier outcome
      commit_from : (u : Transid) → Among so_far (Commit u) → (e : Outcome) × Among earlier e × (e.tx ≡ u) × ((place : ℕ) × (reads : List (ℕ × Option (List ℕ))) × (e.told ≡ Committed place reads))
      commit_from u has =
          let by = given.records (Commit u) (so_far_all (Commit u) has) in
          ⊎_elim
          (λ (before : Among earlier by.outcome).
          let told = commit_told by.outcome.tx u by.outcome.told
          (commit_left law phase items outcomes found log broken given u by.outcome by.outcome.told (e_going by.outcome before) by.tx_is refl by.is_so) in
          (by.outcome, before, told.0, told.1))
          (λ (others : Among (o ∷ later) by.outcome). ⊎_elim
          (λ (is : o ≡ by.outcome). absurd (not_yet (subst (λ (t : Transid). Among so_far (Commit t)) (sym (ap (λ (v : Outcome). v.tx) is ∙ by.tx_is)) has)))
          (λ (behind_ : Among later by.outcome). absurd (later_unbegun by.outcome behind_ (subst (λ (t : Transid). HasBegun front t) (sym by.tx_is) (so_far_begun (Commit u) u has refl))))
          others)
          (among_append earlier (o ∷ later) by.outcome (subst (λ (l : List Outcome). Among l by.outcome) whole by.among))

      -- an earlier outcome that tells of a commit has carried out its transaction
      is_done : (e : Outcome) (place : ℕ) (reads : List (ℕ × Option (List ℕ))) → Among earlier e → e.told ≡ Committed place reads
          → (transaction : Transaction) × (script_transaction phase found.epoch e.tx ≡ Some transaction) × (transaction.close ≡ CommitClose) × (steps_done e.tx log ≡ transaction.steps)
      is_done e place reads has is = (let of = attempt_of law phase items outcomes found log broken given e (Committed place reads) (e_among e has) is tt in (of.0, of.1, of.2.0, of.2.1.done))

      same_as_script : (u : Transid) → Among so_far (Commit u) → (map_ : RecordMap) → after_commit (Some (done front u)) map_ ≡ after_commit (script_transaction phase found.epoch u) map_
      same_as_script u has map_ =
          let c = commit_from u has in
          let d = is_done c.0 c.3.0 c.3.1 c.1 c.3.2 in
          let at_e : after_commit (Some (done front c.0.tx)) map_ ≡ after_commit (script_transaction phase found.epoch c.0.tx) map_ =
          effect_same d.0 (steps_done c.0.tx front) map_ d.2 (earlier_done c.0 c.1 ∙ d.3) ∙ ap (λ (x : Option Transaction). after_commit x map_) (sym d.1) in
          subst (λ (t : Transid). after_commit (Some (done front t)) map_ ≡ after_commit (script_transaction phase found.epoch t) map_) c.2 at_e

      -- none of the commits among them stands behind what the outcomes before leave
      one_idle : (x : MonitorRecord) → Among so_far x → Among before_it.0 x → IsIdle (script_transaction phase found.epoch) x
      one_idle (Start epoch) has there = tt
      one_idle (Abort u) has there = tt
      one_idle (Commit u) has there =
          let by = commit_from u has in
          let left : IsLeftBy by.0 (Commit u) = ap (λ (how : Told). end_record by.0.tx how) by.3.2 ∙ ap (λ (t : Transid). Some (Commit t)) by.2 in
          let before = among_given (λ (e : Outcome). end_record e.tx e.told) earlier by.0 (Commit u) by.1 left in
          let in_two : AreInRow (records_left earlier ++ before_it.0) = subst (λ (l : List MonitorRecord). AreInRow l) (first_of_all.1 ∙ before_it.1) in_row in
          absurd (not_before u (row_across (records_left earlier) before_it.0 (Commit u) (Commit u) in_two before there u u refl refl refl))

      -- what an outcome before leaves that is not among them changes nothing
      other_idle : (x : MonitorRecord) → Among (records_left earlier) x → Among first_of_all.0 x → IsIdle (script_transaction phase found.epoch) x
      other_idle (Start epoch) has there = tt
      other_idle (Abort u) has there = tt
      other_idle (Commit u) has there =
          let by = left_by earlier (Commit u) has in
          let told = commit_told by.0.tx u by.0.told by.2 in
          subst (λ (t : Transid). (map_ : RecordMap) → after_commit (script_transaction phase found.epoch t) map_ ≡ map_) told.0
          (by_deeds by.0 by.1 (is_done by.0 told.1.0 told.1.1 by.1 told.1.2) (deeds_of by.0.tx log) refl (subst (λ (t : Transid). Among first_of_all.0 (Commit t)) (sym told.0) there)
          (subst (λ (t : Transid). Among (landed phase items outcomes found log broken) (Commit t)) (sym told.0)
          (subst (λ (l : List MonitorRecord). Among l (Commit u)) first_of_all.1 (among_right so_far first_of_all.0 (Commit u) there))))
        where
          by_deeds : (e : Outcome) → Among earlier e
              → ((transaction : Transaction) × (script_transaction phase found.epoch e.tx ≡ Some transaction) × (transaction.close ≡ CommitClose) × (steps_done e.tx log ≡ transaction.steps))
              → (deeds : List Deed) → deeds_of e.tx log ≡ deeds → Among first_of_all.0 (Commit e.tx) → Among (landed phase items outcomes found log broken) (Commit e.tx)
              → (map_ : RecordMap) → after_commit (script_transaction phase found.epoch e.tx) map_ ≡ map_
          by_deeds e has_ d [] none there_ committed map_ =
              ap (λ (x : Option Transaction). after_commit x map_) d.1 ∙ sym (effect_same d.0 [] map_ d.2 (sym (ap (λ (l : List Deed). map step_of l) none) ∙ d.3))
          by_deeds e has_ d (deed ∷ deeds) some there_ committed map_ =
              let listed = done_enlisted law found log given.history e.tx deed (subst (λ (l : List Deed). Among l deed) (sym some) (inl refl)) in
              let before = released_commit e.tx listed.0 (earlier_released e has_ listed.0 listed.1) committed in
              absurd (not_before e.tx (row_across so_far first_of_all.0 (Commit e.tx) (Commit e.tx) in_row before there_ e.tx e.tx refl refl refl))

      -- the commits so far come to what the outcomes before leave
      pub comes_to : (map_ : RecordMap) → Agree (after_list front so_far map_) (map_left phase found.epoch earlier map_)
      comes_to map_ =
          let cut_records : so_far ++ first_of_all.0 ≡ records_left earlier ++ before_it.0 = first_of_all.1 ∙ before_it.1 in
          let same : after_list front so_far map_ ≡ map_left phase found.epoch earlier map_ =
          done_law front so_far map_ ∙ (same_meaning (λ t. Some (done front t)) (script_transaction phase found.epoch) so_far map_ same_as_script
          ∙ same_fold (script_transaction phase found.epoch) so_far first_of_all.0 (records_left earlier) before_it.0 map_ cut_records one_idle other_idle) in
          λ file key. ap (λ (v : RecordMap). v file key) same

      -- NOBODY ELSE

      holder_is : (h : Transid) → HasEnlisted front h acts.s.number → has_released acts.s.events h ≡ false → HasBegun front h → h ≡ o.tx
      holder_is h listed held begun =
          let by = given.told.begun h (in_log _ begun) in
          ⊎_elim
          (λ (before : Among earlier by.0).
          let gone = earlier_released by.0 before acts.s.number (subst (λ (t : Transid). HasEnlisted log t acts.s.number) (sym by.2) (in_log _ listed)) in
          let both : true ≡ false = sym (is_released law found front acts.s.number acts.s h front_is acts.at (subst (λ (t : Transid). HasReleased front t acts.s.number) by.2 gone)) ∙ held in
          absurd (cc (both)))
          (λ (others : Among (o ∷ later) by.0). ⊎_elim
          (λ (is : o ≡ by.0). sym (ap (λ (v : Outcome). v.tx) is ∙ by.2))
          (λ (behind_ : Among later by.0). absurd (later_unbegun by.0 behind_ (subst (λ (t : Transid). HasBegun front t) (sym by.2) begun)))
          others)
          (among_append earlier (o ∷ later) by.0 (subst (λ (l : List Outcome). Among l by.0) whole by.1))

      -- nobody else holds a key of the disc
      pub keys_free : (file : ℕ) (key : List ℕ) → IsNoOther (key_holder acts.s.events file key) o.tx
      keys_free file key = by_holder (key_holder acts.s.events file key) refl where
        by_holder : (held : Option Transid) → key_holder acts.s.events file key ≡ held → IsNoOther held o.tx
        by_holder None is = inl refl
        by_holder (Some h) is =
            let live = (holder_law found front acts.s.number acts.s h front_is acts.at).0 file key is in
            inr (ap (λ (t : Transid). Some t) (holder_is h (enlisted_stands law found front h acts.s.number front_is live.enlisted) live.unreleased (enlisted_begun law found front h acts.s.number front_is live.enlisted)))
