-- The map that the commits come to, by the operations of the node's own script steps: that of any layout, on each file that is declared.
use Rattle.std.specs.Prelude.{◌≡◌, ℕ, zero, suc, ◌≤◌, Bool, true, false, cond, List, [], ◌∷◌, ◌++◌, fold, Option, Some, None, Result, Ok, if◌then◌else◌}
use Rattle.std.specs.Result.{result_unwrap_or}
use Rattle.std.proofs.Common.{refl, ap, sym, ◌∙◌, subst, arith, append-nil, append_assoc}
use Rattle.chronicle.specs.Histories.{IsHistory, IsEnabled, next_states}
use Rattle.tmf_model.specs.Commits.{after_commit, after_commits}
use Rattle.tmf_model.specs.Effect.{applied, stepped, after_step, after_steps}
use Rattle.tmf_model.specs.RecordMap.{RecordMap, with_value}
use Rattle.tmf_model.specs.declared.script.Reason.{Reason}
use Rattle.tmf_model.specs.declared.script.Step.{Step}
use Rattle.tmf_model.specs.declared.transid.Transid.{Transid}
use Rattle.trail_files.specs.MonitorOrder.{is_same_transid}
use Rattle.trail_files.specs.Recovered.{commits_of}
use Rattle.trail_files.specs.declared.monitor_record.MonitorRecord.{MonitorRecord}
use Rattle.trail_files.specs.declared.monitor_record.MonitorRecord.TheVariants.{Start as StartRecord, Commit, Abort}
use Rattle.any_node.specs.Layout.{put}
use Rattle.any_node.specs.Value.{Ending}
use Rattle.any_node.specs.Node.{State, Event}
use Rattle.any_node.specs.Fold.{steps, writes, perform, effect, After, IsServed}
use Rattle.any_node.specs.Fold.Step.{wrote, saw}
use Rattle.node_machine.specs.declared.event.Cause.TheVariants.{Busy, BusyFile, Full, Refused, Dumping}
use Rattle.node_machine.specs.declared.event.DiscEvent.TheVariants.{Write, Read, Lock, Turn, Undo, Close as CloseEvent, Release, Draw, Drawn, Low, Lowered, Start, Raise, Failed}
use Rattle.node_machine.specs.declared.event.DumpEvent.TheVariants.{Copy, Seal, Sealed, Failed as DumpFailed}
use Rattle.node_machine.specs.declared.event.MonitorEvent.TheVariants.{Offer as OfferCar, Land as LandCar, Failed as MonitorFailed}
use Rattle.node_machine.specs.declared.event.TrailEvent.TheVariants.{Offer, Land, Purge, Failed as TrailFailed}
use Rattle.node_machine.specs.declared.event.WorkerEvent.TheVariants.{Begin, Enlist, Finish, End, Quit}
use Rattle.node_machine.specs.declared.event.Event.{Event as NodeEvent}
use Rattle.node_machine.specs.declared.event.Event.TheVariants.{OfWorker, OfDisc, OfTrail, OfMonitor, OfDump}
use Rattle.node_machine.specs.Parts.{PartState}
use Rattle.node_machine.specs.Parts.PartState.{Worker, Disc, Trail, Monitor, Dump, Idle}
use Rattle.node_machine.specs.Made.{volume_of}
use Rattle.node_machine.specs.Disc.{TellsChange}
use Rattle.node_machine.specs.Law.{deeds_of, AreServed, steps_of, written}
use Rattle.node_machine.specs.Law.Deed.{Changed, Saw, Locked}
use Rattle.node_machine.specs.Node.{node}
use Rattle.node_machine.specs.Opening.{Found, VolumeFound, found_volume}
use Rattle.node_machine.specs.Same.{is_same_key}
use Rattle.node_laws.specs.Layouts.{layout, file_keys, FileKey, Content}
use Rattle.node_laws.specs.Views.{rec_of, mons_of}
use Rattle.node_laws.proofs.Others.{AreOld, HaveBlocks}
use Rattle.node_laws.proofs.Records.{of_told_values}
use Rattle.node_laws.proofs.Seen.{AreFit}
use Rattle.node_laws.proofs.Transfer.{any_log, fit_next}

module _ (found : Found) where
  -- the file is declared
  abbrev pub IsFile : ℕ → Type 0
  IsFile file = 1 ≤ volume_of found.config file

  -- on each file that is declared the two maps are one
  abbrev pub Agree : RecordMap → (FileKey → Content) → Type 0
  Agree r a = (file : ℕ) (key : List ℕ) → IsFile file → r file key ≡ a (file, key)

  agree_put : (r : RecordMap) (a : FileKey → Content) (file : ℕ) (key : List ℕ) (v : Content) → Agree r a → Agree (with_value file key v r) (put file_keys (file, key) v a)
  agree_put r a file key v agree f k is = by_case (is_same_key f k file key) (agree f k is) where
    by_case : (b : Bool) → r f k ≡ a (f, k) → (if b then v else r f k) ≡ cond b v (a (f, k))
    by_case true e = refl
    by_case false e = e

  step_ok : (s : Step) (r : RecordMap) (before after : Content) → r s.file s.key ≡ before → applied s.op before ≡ Ok after → after_step (Ok r) s ≡ Ok (with_value s.file s.key after r)
  step_ok s r before after here is = ap (λ v. stepped s v r) (ap (λ v. applied s.op v) here ∙ is)

  -- each change in the log is one of its operation, on a file that is declared
  abbrev pub AreWrites : List (ℕ × NodeEvent) → Type 0
  AreWrites [] = Unit {0}
  AreWrites ((q, OfDisc (Write r op)) ∷ log) = ((applied op r.before ≡ Ok r.after) × IsFile r.file) × AreWrites log
  AreWrites ((q, OfDisc (Read t file key value)) ∷ log) = IsFile file × AreWrites log
  AreWrites (_ ∷ log) = AreWrites log

module _ (found : Found) (before : List MonitorRecord) (values : ℕ → RecordMap × ℕ) (idle : ℕ → State (layout found)) (old : AreOld found before) (blocks : HaveBlocks found) where
  abbrev L : List (ℕ × NodeEvent) → List (ℕ × Event (layout found))
  L log = any_log found before values idle old blocks log

  abbrev Comes : Transid → List (ℕ × NodeEvent) → RecordMap → (FileKey → Content) → Type 0
  Comes t log r a = (r2 : RecordMap) × (a2 : FileKey → Content) × (after_steps (steps_of t log) r ≡ Ok r2) × (perform (writes t (L log)) a ≡ Some a2) × Agree found r2 a2

  served : (t : Transid) (log : List (ℕ × NodeEvent)) → AreWrites found log → (a : FileKey → Content) (r : RecordMap) → IsServed (steps t (L log)) a → Agree found r a → Comes t log r a
  served t [] are a r h agree = (r, a, refl, refl, agree)
  served t ((q, OfDisc (Write c op)) ∷ log) are a r h agree =
      by_case (λ a2 r2 h2 agree2. served t log are.1 a2 r2 h2 agree2) (is_same_transid t c.tx) h
    where
      by_case : ((a2 : FileKey → Content) (r2 : RecordMap) → IsServed (steps t (L log)) a2 → Agree found r2 a2 → Comes t log r2 a2) → (b : Bool) → IsServed (cond b (wrote (rec_of found c) ∷ steps t (L log)) (steps t (L log))) a
          → (r2 : RecordMap) × (a2 : FileKey → Content) × (after_steps (if b then record { file = c.file; key = c.key; op = op } ∷ steps_of t log else steps_of t log) r ≡ Ok r2) × (perform (cond b (rec_of found c ∷ writes t (L log)) (writes t (L log))) a ≡ Some a2) × Agree found r2 a2
      by_case more true h =
          let rest = more (put file_keys (c.file, c.key) c.after a) (with_value c.file c.key c.after r) h.2 (agree_put found r a c.file c.key c.after agree) in
          let here : r c.file c.key ≡ c.before = agree c.file c.key are.0.1 ∙ sym h.0 in (
            rest.0,
            rest.1,
            ap (λ v. fold after_step v (steps_of t log)) (step_ok found (record { file = c.file; key = c.key; op = op }) r c.before c.after here are.0.0) ∙ rest.2,
            ap (λ (o : Option Content). elim o [ None ↦ None | Some v ↦ perform (writes t (L log)) (put file_keys (c.file, c.key) v a) ]) h.1 ∙ rest.3,
            rest.4,
          )
      by_case more false h = more a r h agree
  served t ((q, OfDisc (Read t2 file key value)) ∷ log) are a r h agree =
      by_case (λ h2. served t log are.1 a r h2 agree) (is_same_transid t t2) h
    where
      by_case : (IsServed (steps t (L log)) a → Comes t log r a) → (b : Bool) → IsServed (cond b (saw (file, key) value ∷ steps t (L log)) (steps t (L log))) a → Comes t log r a
      by_case more true h = more h.1
      by_case more false h = more h
  served t ((q, OfWorker (Begin t2)) ∷ log) are a r h agree = served t log are a r h agree
  served t ((q, OfWorker (Enlist t2 d)) ∷ log) are a r h agree = served t log are a r h agree
  served t ((q, OfWorker (Finish t2)) ∷ log) are a r h agree = served t log are a r h agree
  served t ((q, OfWorker (End t2)) ∷ log) are a r h agree = served t log are a r h agree
  served t ((q, OfWorker (Quit t2)) ∷ log) are a r h agree = served t log are a r h agree
  served t ((q, OfDisc (Lock t2 file)) ∷ log) are a r h agree = served t log are a r h agree
  served t ((q, OfDisc (Turn t2 (Busy step h2))) ∷ log) are a r h agree = served t log are a r h agree
  served t ((q, OfDisc (Turn t2 (BusyFile file h2))) ∷ log) are a r h agree = served t log are a r h agree
  served t ((q, OfDisc (Turn t2 (Full step))) ∷ log) are a r h agree = served t log are a r h agree
  served t ((q, OfDisc (Turn t2 (Refused step reason))) ∷ log) are a r h agree = served t log are a r h agree
  served t ((q, OfDisc (Turn t2 Dumping)) ∷ log) are a r h agree = served t log are a r h agree
  served t ((q, OfDisc (Undo r2)) ∷ log) are a r h agree = served t log are a r h agree
  served t ((q, OfDisc (CloseEvent t2)) ∷ log) are a r h agree = served t log are a r h agree
  served t ((q, OfDisc (Release t2)) ∷ log) are a r h agree = served t log are a r h agree
  served t ((q, OfDisc (Draw file block position)) ∷ log) are a r h agree = served t log are a r h agree
  served t ((q, OfDisc (Drawn file block)) ∷ log) are a r h agree = served t log are a r h agree
  served t ((q, OfDisc (Low position by)) ∷ log) are a r h agree = served t log are a r h agree
  served t ((q, OfDisc Lowered) ∷ log) are a r h agree = served t log are a r h agree
  served t ((q, OfDisc (Start number start item)) ∷ log) are a r h agree = served t log are a r h agree
  served t ((q, OfDisc (Raise number rest)) ∷ log) are a r h agree = served t log are a r h agree
  served t ((q, OfDisc (Failed by)) ∷ log) are a r h agree = served t log are a r h agree
  served t ((q, OfTrail (Offer file records)) ∷ log) are a r h agree = served t log are a r h agree
  served t ((q, OfTrail Land) ∷ log) are a r h agree = served t log are a r h agree
  served t ((q, OfTrail (Purge below last)) ∷ log) are a r h agree = served t log are a r h agree
  served t ((q, OfTrail (TrailFailed by)) ∷ log) are a r h agree = served t log are a r h agree
  served t ((q, OfMonitor (OfferCar records)) ∷ log) are a r h agree = served t log are a r h agree
  served t ((q, OfMonitor LandCar) ∷ log) are a r h agree = served t log are a r h agree
  served t ((q, OfMonitor (MonitorFailed by)) ∷ log) are a r h agree = served t log are a r h agree
  served t ((q, OfDump (Copy number file block position)) ∷ log) are a r h agree = served t log are a r h agree
  served t ((q, OfDump (Seal number start)) ∷ log) are a r h agree = served t log are a r h agree
  served t ((q, OfDump (Sealed number whole)) ∷ log) are a r h agree = served t log are a r h agree
  served t ((q, OfDump (DumpFailed by)) ∷ log) are a r h agree = served t log are a r h agree

  -- what is served from the one map is from the other
  pub deeds_served : (t : Transid) (log : List (ℕ × NodeEvent)) → AreWrites found log → (a : FileKey → Content) (r : RecordMap) → IsServed (steps t (L log)) a → Agree found r a → AreServed (deeds_of t log) r
  deeds_served t [] are a r h agree = tt
  deeds_served t ((q, OfDisc (Write c op)) ∷ log) are a r h agree = by_case (λ a2 r2 h2 agree2. deeds_served t log are.1 a2 r2 h2 agree2) (is_same_transid t c.tx) h where
    by_case : ((a2 : FileKey → Content) (r2 : RecordMap) → IsServed (steps t (L log)) a2 → Agree found r2 a2 → AreServed (deeds_of t log) r2) → (b : Bool) → IsServed (cond b (wrote (rec_of found c) ∷ steps t (L log)) (steps t (L log))) a
        → AreServed (if b then Changed c op ∷ deeds_of t log else deeds_of t log) r
    by_case more true h =
        (h.0 ∙ sym (agree c.file c.key are.0.1), are.0.0, more (put file_keys (c.file, c.key) c.after a) (with_value c.file c.key c.after r) h.2 (agree_put found r a c.file c.key c.after agree))
    by_case more false h = more a r h agree
  deeds_served t ((q, OfDisc (Read t2 file key value)) ∷ log) are a r h agree = by_case (λ h2. deeds_served t log are.1 a r h2 agree) (is_same_transid t t2) h where
    by_case : (IsServed (steps t (L log)) a → AreServed (deeds_of t log) r) → (b : Bool) → IsServed (cond b (saw (file, key) value ∷ steps t (L log)) (steps t (L log))) a → AreServed (if b then Saw file key value ∷ deeds_of t log else deeds_of t log) r
    by_case more true h = (h.0 ∙ sym (agree file key are.0), more h.1)
    by_case more false h = more h
  deeds_served t ((q, OfWorker (Begin t2)) ∷ log) are a r h agree = deeds_served t log are a r h agree
  deeds_served t ((q, OfWorker (Enlist t2 d)) ∷ log) are a r h agree = deeds_served t log are a r h agree
  deeds_served t ((q, OfWorker (Finish t2)) ∷ log) are a r h agree = deeds_served t log are a r h agree
  deeds_served t ((q, OfWorker (End t2)) ∷ log) are a r h agree = deeds_served t log are a r h agree
  deeds_served t ((q, OfWorker (Quit t2)) ∷ log) are a r h agree = deeds_served t log are a r h agree
  deeds_served t ((q, OfDisc (Lock u file)) ∷ log) are a r h agree = by_case (is_same_transid t u) (deeds_served t log are a r h agree) where
    by_case : (b : Bool) → AreServed (deeds_of t log) r → AreServed (if b then Locked file ∷ deeds_of t log else deeds_of t log) r
    by_case true more = more
    by_case false more = more
  deeds_served t ((q, OfDisc (Turn t2 (Busy step h2))) ∷ log) are a r h agree = deeds_served t log are a r h agree
  deeds_served t ((q, OfDisc (Turn t2 (BusyFile file h2))) ∷ log) are a r h agree = deeds_served t log are a r h agree
  deeds_served t ((q, OfDisc (Turn t2 (Full step))) ∷ log) are a r h agree = deeds_served t log are a r h agree
  deeds_served t ((q, OfDisc (Turn t2 (Refused step reason))) ∷ log) are a r h agree = deeds_served t log are a r h agree
  deeds_served t ((q, OfDisc (Turn t2 Dumping)) ∷ log) are a r h agree = deeds_served t log are a r h agree
  deeds_served t ((q, OfDisc (Undo r2)) ∷ log) are a r h agree = deeds_served t log are a r h agree
  deeds_served t ((q, OfDisc (CloseEvent t2)) ∷ log) are a r h agree = deeds_served t log are a r h agree
  deeds_served t ((q, OfDisc (Release t2)) ∷ log) are a r h agree = deeds_served t log are a r h agree
  deeds_served t ((q, OfDisc (Draw file block position)) ∷ log) are a r h agree = deeds_served t log are a r h agree
  deeds_served t ((q, OfDisc (Drawn file block)) ∷ log) are a r h agree = deeds_served t log are a r h agree
  deeds_served t ((q, OfDisc (Low position by)) ∷ log) are a r h agree = deeds_served t log are a r h agree
  deeds_served t ((q, OfDisc Lowered) ∷ log) are a r h agree = deeds_served t log are a r h agree
  deeds_served t ((q, OfDisc (Start number start item)) ∷ log) are a r h agree = deeds_served t log are a r h agree
  deeds_served t ((q, OfDisc (Raise number rest)) ∷ log) are a r h agree = deeds_served t log are a r h agree
  deeds_served t ((q, OfDisc (Failed by)) ∷ log) are a r h agree = deeds_served t log are a r h agree
  deeds_served t ((q, OfTrail (Offer file records)) ∷ log) are a r h agree = deeds_served t log are a r h agree
  deeds_served t ((q, OfTrail Land) ∷ log) are a r h agree = deeds_served t log are a r h agree
  deeds_served t ((q, OfTrail (Purge below last)) ∷ log) are a r h agree = deeds_served t log are a r h agree
  deeds_served t ((q, OfTrail (TrailFailed by)) ∷ log) are a r h agree = deeds_served t log are a r h agree
  deeds_served t ((q, OfMonitor (OfferCar records)) ∷ log) are a r h agree = deeds_served t log are a r h agree
  deeds_served t ((q, OfMonitor LandCar) ∷ log) are a r h agree = deeds_served t log are a r h agree
  deeds_served t ((q, OfMonitor (MonitorFailed by)) ∷ log) are a r h agree = deeds_served t log are a r h agree
  deeds_served t ((q, OfDump (Copy number file block position)) ∷ log) are a r h agree = deeds_served t log are a r h agree
  deeds_served t ((q, OfDump (Seal number start)) ∷ log) are a r h agree = deeds_served t log are a r h agree
  deeds_served t ((q, OfDump (Sealed number whole)) ∷ log) are a r h agree = deeds_served t log are a r h agree
  deeds_served t ((q, OfDump (DumpFailed by)) ∷ log) are a r h agree = deeds_served t log are a r h agree

  -- the transaction's effect is the same
  pub effects : (t : Transid) (log : List (ℕ × NodeEvent)) → AreWrites found log → (a : FileKey → Content) (r : RecordMap) → IsServed (steps t (L log)) a → Agree found r a → Agree found (after_commit (written log t) r) (effect (writes t (L log)) a)
  effects t log are a r h agree =
      let c = served t log are a r h agree in
      let real : after_commit (written log t) r ≡ c.0 = ap (λ (v : Result RecordMap Reason). result_unwrap_or v r) c.2 in
      let any : effect (writes t (L log)) a ≡ c.1 = ap (λ (o : Option (FileKey → Content)). elim o [ None ↦ a | Some n ↦ n ]) c.3 in
      λ file key is. ap (λ (m : RecordMap). m file key) real ∙ (c.4 file key is ∙ sym (ap (λ (m : FileKey → Content). m (file, key)) any))

  After-append : (log : List (ℕ × Event (layout found))) (xs ys : List (Ending (layout found))) (m : FileKey → Content) → After log (xs ++ ys) m ≡ After log ys (After log xs m)
  After-append log [] ys m = refl
  After-append log (x ∷ xs) ys m = After-append log xs ys (cond x.commit (effect (writes x.tx log) m) m)

  -- the fold over the commits of a list is the same
  pub folds : (log : List (ℕ × NodeEvent)) → AreWrites found log → (m : FileKey → Content) (whole : List (Ending (layout found)))
      → ((xs ys : List (Ending (layout found))) (x : Ending (layout found)) → whole ≡ xs ++ x ∷ ys → x.commit ≡ true → IsServed (steps x.tx (L log)) (After (L log) xs m))
      → (xs : List (Ending (layout found))) (list : List MonitorRecord) (rest : List (Ending (layout found))) → whole ≡ xs ++ (mons_of found list ++ rest)
      → (r : RecordMap) → Agree found r (After (L log) xs m) → Agree found (after_commits (written log) (commits_of list) r) (After (L log) (xs ++ mons_of found list) m)
  folds log are m whole serves xs [] rest e r agree = subst (λ (ys : List (Ending (layout found))). Agree found r (After (L log) ys m)) (sym (append-nil xs)) agree
  folds log are m whole serves xs (StartRecord n ∷ list) rest e r agree = folds log are m whole serves xs list rest e r agree
  folds log are m whole serves xs (Commit t ∷ list) rest e r agree =
      let x : Ending (layout found) = record { tx = t; commit = true } in
      let now = effects t log are (After (L log) xs m) r (serves xs (mons_of found list ++ rest) x e refl) agree in
      let push : After (L log) (xs ++ x ∷ []) m ≡ effect (writes t (L log)) (After (L log) xs m) = After-append (L log) xs (x ∷ []) m in
      let next : whole ≡ (xs ++ x ∷ []) ++ (mons_of found list ++ rest) = e ∙ sym (append_assoc xs (x ∷ []) (mons_of found list ++ rest)) in
      let more = folds log are m whole serves (xs ++ x ∷ []) list rest next (after_commit (written log t) r) (subst (λ (b : FileKey → Content). Agree found (after_commit (written log t) r) b) (sym push) now) in
      subst (λ (ys : List (Ending (layout found))). Agree found (after_commits (written log) (commits_of list) (after_commit (written log t) r)) (After (L log) ys m)) (append_assoc xs (x ∷ []) (mons_of found list)) more
  folds log are m whole serves xs (Abort t ∷ list) rest e r agree =
      let x : Ending (layout found) = record { tx = t; commit = false } in
      let push : After (L log) (xs ++ x ∷ []) m ≡ After (L log) xs m = After-append (L log) xs (x ∷ []) m in
      let next : whole ≡ (xs ++ x ∷ []) ++ (mons_of found list ++ rest) = e ∙ sym (append_assoc xs (x ∷ []) (mons_of found list ++ rest)) in
      let more = folds log are m whole serves (xs ++ x ∷ []) list rest next r (subst (λ (b : FileKey → Content). Agree found r b) (sym push) agree) in
      subst (λ (ys : List (Ending (layout found))). Agree found (after_commits (written log) (commits_of list) r) (After (L log) ys m)) (append_assoc xs (x ∷ []) (mons_of found list)) more

  pub volume_one : (n : ℕ) (v : VolumeFound) → found_volume found n ≡ Some v → 1 ≤ n
  volume_one zero v e = absurd (cc (e))
  volume_one (suc n) v e = omega arith

  -- each change of a history is one of its operation
  pub writes_of : (ss : List PartState) (log : List (ℕ × NodeEvent)) → AreFit found before values idle ss → IsHistory node ss log → AreWrites found log
  writes_of ss [] fit h = tt
  writes_of ss ((q, OfDisc (Write r op)) ∷ log) fit h = (here h.0, writes_of (next_states node ss (q, OfDisc (Write r op))) log (fit_next found before values idle old blocks ss (q, OfDisc (Write r op)) fit h.0) h.1) where
    here : IsEnabled node ss (q, OfDisc (Write r op)) → (applied op r.before ≡ Ok r.after) × IsFile found r.file
    here (Disc s, at, may, asked) =
        let f = fit.each q (Disc s) at in
        ((of_told_values s.base f.1.0 s.events (TellsChange s r op) f.1.1 may.told).after, (let one = volume_one s.number f.3.0 f.3.1 in let on : volume_of found.config r.file ≡ s.number = ap (λ c. volume_of c r.file) (sym f.0) ∙ may.takes.here in omega (arith, one, on)))
    here (Worker s, at, may, asked) = absurd may
    here (Trail s, at, may, asked) = absurd may
    here (Monitor s, at, may, asked) = absurd may
    here (Dump s, at, may, asked) = absurd may
    here (Idle, at, may, asked) = absurd may
  writes_of ss ((q, OfWorker (Begin t2)) ∷ log) fit h = writes_of (next_states node ss (q, OfWorker (Begin t2))) log (fit_next found before values idle old blocks ss (q, OfWorker (Begin t2)) fit h.0) h.1
  writes_of ss ((q, OfWorker (Enlist t2 d)) ∷ log) fit h = writes_of (next_states node ss (q, OfWorker (Enlist t2 d))) log (fit_next found before values idle old blocks ss (q, OfWorker (Enlist t2 d)) fit h.0) h.1
  writes_of ss ((q, OfWorker (Finish t2)) ∷ log) fit h = writes_of (next_states node ss (q, OfWorker (Finish t2))) log (fit_next found before values idle old blocks ss (q, OfWorker (Finish t2)) fit h.0) h.1
  writes_of ss ((q, OfWorker (End t2)) ∷ log) fit h = writes_of (next_states node ss (q, OfWorker (End t2))) log (fit_next found before values idle old blocks ss (q, OfWorker (End t2)) fit h.0) h.1
  writes_of ss ((q, OfWorker (Quit t2)) ∷ log) fit h = writes_of (next_states node ss (q, OfWorker (Quit t2))) log (fit_next found before values idle old blocks ss (q, OfWorker (Quit t2)) fit h.0) h.1
  writes_of ss ((q, OfDisc (Lock t2 file)) ∷ log) fit h = writes_of (next_states node ss (q, OfDisc (Lock t2 file))) log (fit_next found before values idle old blocks ss (q, OfDisc (Lock t2 file)) fit h.0) h.1
  writes_of ss ((q, OfDisc (Turn t2 (Busy step h2))) ∷ log) fit h = writes_of (next_states node ss (q, OfDisc (Turn t2 (Busy step h2)))) log (fit_next found before values idle old blocks ss (q, OfDisc (Turn t2 (Busy step h2))) fit h.0) h.1
  writes_of ss ((q, OfDisc (Turn t2 (BusyFile file h2))) ∷ log) fit h = writes_of (next_states node ss (q, OfDisc (Turn t2 (BusyFile file h2)))) log (fit_next found before values idle old blocks ss (q, OfDisc (Turn t2 (BusyFile file h2))) fit h.0) h.1
  writes_of ss ((q, OfDisc (Turn t2 (Full step))) ∷ log) fit h = writes_of (next_states node ss (q, OfDisc (Turn t2 (Full step)))) log (fit_next found before values idle old blocks ss (q, OfDisc (Turn t2 (Full step))) fit h.0) h.1
  writes_of ss ((q, OfDisc (Turn t2 (Refused step reason))) ∷ log) fit h = writes_of (next_states node ss (q, OfDisc (Turn t2 (Refused step reason)))) log (fit_next found before values idle old blocks ss (q, OfDisc (Turn t2 (Refused step reason))) fit h.0) h.1
  writes_of ss ((q, OfDisc (Turn t2 Dumping)) ∷ log) fit h = writes_of (next_states node ss (q, OfDisc (Turn t2 Dumping))) log (fit_next found before values idle old blocks ss (q, OfDisc (Turn t2 Dumping)) fit h.0) h.1
  writes_of ss ((q, OfDisc (Undo r2)) ∷ log) fit h = writes_of (next_states node ss (q, OfDisc (Undo r2))) log (fit_next found before values idle old blocks ss (q, OfDisc (Undo r2)) fit h.0) h.1
  writes_of ss ((q, OfDisc (CloseEvent t2)) ∷ log) fit h = writes_of (next_states node ss (q, OfDisc (CloseEvent t2))) log (fit_next found before values idle old blocks ss (q, OfDisc (CloseEvent t2)) fit h.0) h.1
  writes_of ss ((q, OfDisc (Release t2)) ∷ log) fit h = writes_of (next_states node ss (q, OfDisc (Release t2))) log (fit_next found before values idle old blocks ss (q, OfDisc (Release t2)) fit h.0) h.1
  writes_of ss ((q, OfDisc (Draw file block position)) ∷ log) fit h = writes_of (next_states node ss (q, OfDisc (Draw file block position))) log (fit_next found before values idle old blocks ss (q, OfDisc (Draw file block position)) fit h.0) h.1
  writes_of ss ((q, OfDisc (Drawn file block)) ∷ log) fit h = writes_of (next_states node ss (q, OfDisc (Drawn file block))) log (fit_next found before values idle old blocks ss (q, OfDisc (Drawn file block)) fit h.0) h.1
  writes_of ss ((q, OfDisc (Low position by)) ∷ log) fit h = writes_of (next_states node ss (q, OfDisc (Low position by))) log (fit_next found before values idle old blocks ss (q, OfDisc (Low position by)) fit h.0) h.1
  writes_of ss ((q, OfDisc Lowered) ∷ log) fit h = writes_of (next_states node ss (q, OfDisc Lowered)) log (fit_next found before values idle old blocks ss (q, OfDisc Lowered) fit h.0) h.1
  writes_of ss ((q, OfDisc (Start number start item)) ∷ log) fit h = writes_of (next_states node ss (q, OfDisc (Start number start item))) log (fit_next found before values idle old blocks ss (q, OfDisc (Start number start item)) fit h.0) h.1
  writes_of ss ((q, OfDisc (Raise number rest)) ∷ log) fit h = writes_of (next_states node ss (q, OfDisc (Raise number rest))) log (fit_next found before values idle old blocks ss (q, OfDisc (Raise number rest)) fit h.0) h.1
  writes_of ss ((q, OfDisc (Failed by)) ∷ log) fit h = writes_of (next_states node ss (q, OfDisc (Failed by))) log (fit_next found before values idle old blocks ss (q, OfDisc (Failed by)) fit h.0) h.1
  writes_of ss ((q, OfTrail (Offer file records)) ∷ log) fit h = writes_of (next_states node ss (q, OfTrail (Offer file records))) log (fit_next found before values idle old blocks ss (q, OfTrail (Offer file records)) fit h.0) h.1
  writes_of ss ((q, OfTrail Land) ∷ log) fit h = writes_of (next_states node ss (q, OfTrail Land)) log (fit_next found before values idle old blocks ss (q, OfTrail Land) fit h.0) h.1
  writes_of ss ((q, OfTrail (Purge below last)) ∷ log) fit h = writes_of (next_states node ss (q, OfTrail (Purge below last))) log (fit_next found before values idle old blocks ss (q, OfTrail (Purge below last)) fit h.0) h.1
  writes_of ss ((q, OfTrail (TrailFailed by)) ∷ log) fit h = writes_of (next_states node ss (q, OfTrail (TrailFailed by))) log (fit_next found before values idle old blocks ss (q, OfTrail (TrailFailed by)) fit h.0) h.1
  writes_of ss ((q, OfMonitor (OfferCar records)) ∷ log) fit h = writes_of (next_states node ss (q, OfMonitor (OfferCar records))) log (fit_next found before values idle old blocks ss (q, OfMonitor (OfferCar records)) fit h.0) h.1
  writes_of ss ((q, OfMonitor LandCar) ∷ log) fit h = writes_of (next_states node ss (q, OfMonitor LandCar)) log (fit_next found before values idle old blocks ss (q, OfMonitor LandCar) fit h.0) h.1
  writes_of ss ((q, OfMonitor (MonitorFailed by)) ∷ log) fit h = writes_of (next_states node ss (q, OfMonitor (MonitorFailed by))) log (fit_next found before values idle old blocks ss (q, OfMonitor (MonitorFailed by)) fit h.0) h.1
  writes_of ss ((q, OfDump (Copy number file block position)) ∷ log) fit h = writes_of (next_states node ss (q, OfDump (Copy number file block position))) log (fit_next found before values idle old blocks ss (q, OfDump (Copy number file block position)) fit h.0) h.1
  writes_of ss ((q, OfDump (Seal number start)) ∷ log) fit h = writes_of (next_states node ss (q, OfDump (Seal number start))) log (fit_next found before values idle old blocks ss (q, OfDump (Seal number start)) fit h.0) h.1
  writes_of ss ((q, OfDump (Sealed number whole)) ∷ log) fit h = writes_of (next_states node ss (q, OfDump (Sealed number whole))) log (fit_next found before values idle old blocks ss (q, OfDump (Sealed number whole)) fit h.0) h.1
  writes_of ss ((q, OfDump (DumpFailed by)) ∷ log) fit h = writes_of (next_states node ss (q, OfDump (DumpFailed by))) log (fit_next found before values idle old blocks ss (q, OfDump (DumpFailed by)) fit h.0) h.1
  writes_of ss ((q, OfDisc (Read t2 file key value)) ∷ log) fit h = (here h.0, writes_of (next_states node ss (q, OfDisc (Read t2 file key value))) log (fit_next found before values idle old blocks ss (q, OfDisc (Read t2 file key value)) fit h.0) h.1) where
    here : IsEnabled node ss (q, OfDisc (Read t2 file key value)) → IsFile found file
    here (Disc s, at, may, asked) =
        let f = fit.each q (Disc s) at in
        let one = volume_one s.number f.3.0 f.3.1 in
        let on : volume_of found.config file ≡ s.number = ap (λ c. volume_of c file) (sym f.0) ∙ may.takes.here in
        omega (arith, one, on)
    here (Worker s, at, may, asked) = absurd may
    here (Trail s, at, may, asked) = absurd may
    here (Monitor s, at, may, asked) = absurd may
    here (Dump s, at, may, asked) = absurd may
    here (Idle, at, may, asked) = absurd may
