-- What attempts have carried out, deed by deed: the reads of a committed one find what its steps yield, and reads change nothing of the fold.
use Rattle.std.specs.Prelude.{◌≡◌, ℕ, ◌==◌, ◌&&◌, Bool, true, false, List, [], ◌∷◌, ◌++◌, map, fold, Option, Some, Result, Ok, Err, bytes_eq, if◌then◌else◌}
use Rattle.std.specs.List.{filter_map}
use Rattle.std.specs.Result.{result_unwrap_or}
use Rattle.std.proofs.Common.{refl, ap, sym, ◌∙◌, eqb-true}
use Rattle.std.proofs.lemmas.Bool.{and_parts}
use Rattle.std.proofs.lemmas.Slice.Eq.{bytes_eq-Decides}
use Rattle.chronicle.specs.Histories.{IsEnabled, IsHistory, next_states}
use Rattle.tmf_model.specs.Commits.{after_commit, after_commits}
use Rattle.tmf_model.specs.Effect.{after_step, after_steps, applied, read_value, reads_after, stepped}
use Rattle.tmf_model.specs.RecordMap.{RecordMap, with_value}
use Rattle.tmf_model.specs.Script.{whole_file}
use Rattle.tmf_model.specs.declared.script.Op.{Op}
use Rattle.tmf_model.specs.declared.script.Op.TheVariants.{Put, Add, Del, Read as ReadOp, Lock as LockOp}
use Rattle.tmf_model.specs.declared.script.Reason.{Reason}
use Rattle.tmf_model.specs.declared.script.Step.{Step}
use Rattle.tmf_model.specs.declared.transid.Transid.{Transid}
use Rattle.trail_files.specs.MonitorOrder.{is_same_transid}
use Rattle.trail_files.specs.Recovered.{commits_of}
use Rattle.node_machine.specs.declared.event.Cause.TheVariants.{Busy, BusyFile, Full, Refused, Dumping}
use Rattle.node_machine.specs.declared.event.DiscEvent.TheVariants.{Write, Read, Lock, Turn, Undo, Close as CloseEvent, Release, Draw, Drawn, Low, Lowered, Start, Raise, Failed}
use Rattle.node_machine.specs.declared.event.DumpEvent.TheVariants.{Copy, Seal, Sealed, Failed as DumpFailed}
use Rattle.node_machine.specs.declared.event.MonitorEvent.TheVariants.{Offer as OfferCar, Land as LandCar, Failed as MonitorFailed}
use Rattle.node_machine.specs.declared.event.TrailEvent.TheVariants.{Offer, Land, Purge, Failed as TrailFailed}
use Rattle.node_machine.specs.declared.event.WorkerEvent.TheVariants.{Begin, Enlist, Finish, End, Quit}
use Rattle.node_machine.specs.declared.event.Event.{Event as NodeEvent}
use Rattle.node_machine.specs.declared.event.Event.TheVariants.{OfWorker, OfDisc, OfTrail, OfMonitor, OfDump}
use Rattle.node_machine.specs.Deeds.{DoneLaw, done, lock_step, step_of, value_of}
use Rattle.node_machine.specs.Disc.{IsChange}
use Rattle.node_machine.specs.Law.{AreServed, Deed, deeds_of, steps_of, written}
use Rattle.node_machine.specs.Law.Deed.{Changed, Saw, Locked}
use Rattle.node_machine.specs.Node.{node}
use Rattle.node_machine.specs.Parts.{PartState}
use Rattle.node_machine.specs.Parts.PartState.{Disc}
use Rattle.node_machine.specs.Reads.{ReadsLaw}
use Rattle.node_laws.proofs.Serials.{node_serial_law}

-- EACH CHANGE IS ONE

-- a change was carried out by an operation that changes
abbrev IsReal : Deed → Type 0
IsReal (Changed r op) = IsChange op
IsReal (Saw file key value) = Unit {0}
IsReal (Locked file) = Unit {0}

abbrev AreReal : List Deed → Type 0
AreReal [] = Unit {0}
AreReal (d ∷ ds) = IsReal d × AreReal ds

real : (t : Transid) (ss : List PartState) (log : List (ℕ × NodeEvent)) → IsHistory node ss log → AreReal (deeds_of t log)
real t ss [] h = tt
real t ss ((q, OfDisc (Write c op)) ∷ log) h = by_case (is_same_transid t c.tx) (here h.0) (real t (next_states node ss (q, OfDisc (Write c op))) log h.1) where
  here : IsEnabled node ss (q, OfDisc (Write c op)) → IsChange op
  here (Disc s, at, may, asked) = may.op_changes
  here (_, at, may, asked) = absurd may

  by_case : (b : Bool) → IsChange op → AreReal (deeds_of t log) → AreReal (if b then Changed c op ∷ deeds_of t log else deeds_of t log)
  by_case true is rest = (is, rest)
  by_case false is rest = rest
real t ss ((q, OfDisc (Read u file key value)) ∷ log) h = by_case (is_same_transid t u) (real t (next_states node ss (q, OfDisc (Read u file key value))) log h.1) where
  by_case : (b : Bool) → AreReal (deeds_of t log) → AreReal (if b then Saw file key value ∷ deeds_of t log else deeds_of t log)
  by_case true rest = (tt, rest)
  by_case false rest = rest
real t ss ((q, OfWorker (Begin t2)) ∷ log) h = real t (next_states node ss (q, OfWorker (Begin t2))) log h.1
real t ss ((q, OfWorker (Enlist t2 d)) ∷ log) h = real t (next_states node ss (q, OfWorker (Enlist t2 d))) log h.1
real t ss ((q, OfWorker (Finish t2)) ∷ log) h = real t (next_states node ss (q, OfWorker (Finish t2))) log h.1
real t ss ((q, OfWorker (End t2)) ∷ log) h = real t (next_states node ss (q, OfWorker (End t2))) log h.1
real t ss ((q, OfWorker (Quit t2)) ∷ log) h = real t (next_states node ss (q, OfWorker (Quit t2))) log h.1
real t ss ((q, OfDisc (Lock u file)) ∷ log) h = by_case (is_same_transid t u) (real t (next_states node ss (q, OfDisc (Lock u file))) log h.1) where
  by_case : (b : Bool) → AreReal (deeds_of t log) → AreReal (if b then Locked file ∷ deeds_of t log else deeds_of t log)
  by_case true rest = (tt, rest)
  by_case false rest = rest
real t ss ((q, OfDisc (Turn t2 (Busy step h2))) ∷ log) h = real t (next_states node ss (q, OfDisc (Turn t2 (Busy step h2)))) log h.1
real t ss ((q, OfDisc (Turn t2 (BusyFile file h2))) ∷ log) h = real t (next_states node ss (q, OfDisc (Turn t2 (BusyFile file h2)))) log h.1
real t ss ((q, OfDisc (Turn t2 (Full step))) ∷ log) h = real t (next_states node ss (q, OfDisc (Turn t2 (Full step)))) log h.1
real t ss ((q, OfDisc (Turn t2 (Refused step reason))) ∷ log) h = real t (next_states node ss (q, OfDisc (Turn t2 (Refused step reason)))) log h.1
real t ss ((q, OfDisc (Turn t2 Dumping)) ∷ log) h = real t (next_states node ss (q, OfDisc (Turn t2 Dumping))) log h.1
real t ss ((q, OfDisc (Undo r2)) ∷ log) h = real t (next_states node ss (q, OfDisc (Undo r2))) log h.1
real t ss ((q, OfDisc (CloseEvent t2)) ∷ log) h = real t (next_states node ss (q, OfDisc (CloseEvent t2))) log h.1
real t ss ((q, OfDisc (Release t2)) ∷ log) h = real t (next_states node ss (q, OfDisc (Release t2))) log h.1
real t ss ((q, OfDisc (Draw file block position)) ∷ log) h = real t (next_states node ss (q, OfDisc (Draw file block position))) log h.1
real t ss ((q, OfDisc (Drawn file block)) ∷ log) h = real t (next_states node ss (q, OfDisc (Drawn file block))) log h.1
real t ss ((q, OfDisc (Low position by)) ∷ log) h = real t (next_states node ss (q, OfDisc (Low position by))) log h.1
real t ss ((q, OfDisc Lowered) ∷ log) h = real t (next_states node ss (q, OfDisc Lowered)) log h.1
real t ss ((q, OfDisc (Start number start item)) ∷ log) h = real t (next_states node ss (q, OfDisc (Start number start item))) log h.1
real t ss ((q, OfDisc (Raise number rest)) ∷ log) h = real t (next_states node ss (q, OfDisc (Raise number rest))) log h.1
real t ss ((q, OfDisc (Failed by)) ∷ log) h = real t (next_states node ss (q, OfDisc (Failed by))) log h.1
real t ss ((q, OfTrail (Offer file records)) ∷ log) h = real t (next_states node ss (q, OfTrail (Offer file records))) log h.1
real t ss ((q, OfTrail Land) ∷ log) h = real t (next_states node ss (q, OfTrail Land)) log h.1
real t ss ((q, OfTrail (Purge below last)) ∷ log) h = real t (next_states node ss (q, OfTrail (Purge below last))) log h.1
real t ss ((q, OfTrail (TrailFailed by)) ∷ log) h = real t (next_states node ss (q, OfTrail (TrailFailed by))) log h.1
real t ss ((q, OfMonitor (OfferCar records)) ∷ log) h = real t (next_states node ss (q, OfMonitor (OfferCar records))) log h.1
real t ss ((q, OfMonitor LandCar) ∷ log) h = real t (next_states node ss (q, OfMonitor LandCar)) log h.1
real t ss ((q, OfMonitor (MonitorFailed by)) ∷ log) h = real t (next_states node ss (q, OfMonitor (MonitorFailed by))) log h.1
real t ss ((q, OfDump (Copy number file block position)) ∷ log) h = real t (next_states node ss (q, OfDump (Copy number file block position))) log h.1
real t ss ((q, OfDump (Seal number start)) ∷ log) h = real t (next_states node ss (q, OfDump (Seal number start))) log h.1
real t ss ((q, OfDump (Sealed number whole)) ∷ log) h = real t (next_states node ss (q, OfDump (Sealed number whole))) log h.1
real t ss ((q, OfDump (DumpFailed by)) ∷ log) h = real t (next_states node ss (q, OfDump (DumpFailed by))) log h.1

-- READS

same_value : (m : RecordMap) (file : ℕ) (key : List ℕ) → with_value file key (m file key) m ≡ m
same_value m file key = λ i f k. by_case f k ((f == file) && bytes_eq k key) refl i where
  by_case : (f : ℕ) (k : List ℕ) (b : Bool) → ((f == file) && bytes_eq k key) ≡ b → (if b then m file key else m f k) ≡ m f k
  by_case f k true e = (let parts = and_parts (f == file) (bytes_eq k key) e in let one = eqb-true f file parts.0 in let two = (bytes_eq-Decides k key).0 parts.1 in λ i. m (sym one i) (sym two i))
  by_case f k false e = refl

-- a change yields nothing
no_read : (op : Op) (v : Option (List ℕ)) → IsChange op → read_value op v ≡ []
no_read (Put value) v is = refl
no_read (Add addend) v is = refl
no_read Del v is = refl
no_read ReadOp v is = absurd is
no_read LockOp v is = absurd is

-- what is served from a map finds what its steps yield there
yields : (ds : List Deed) (m : RecordMap) → AreReal ds → AreServed ds m → filter_map value_of ds ≡ reads_after (Ok m) (map step_of ds)
yields [] m are served = refl
yields (Changed r op ∷ ds) m are served =
    let here : applied op (m r.file r.key) ≡ Ok r.after = ap (λ v. applied op v) (sym served.0) ∙ served.1 in
    let next : stepped (step_of (Changed r op)) (applied op (m r.file r.key)) m ≡ Ok (with_value r.file r.key r.after m) = ap (λ v. stepped (step_of (Changed r op)) v m) here in
    yields ds (with_value r.file r.key r.after m) are.1 served.2
    ∙ sym (λ i. no_read op (m r.file r.key) are.0 i ++ reads_after (next i) (map step_of ds))
yields (Saw file key value ∷ ds) m are served =
    λ i. served.0 i ∷ (yields ds m are.1 served.1 ∙ ap (λ (x : RecordMap). reads_after (Ok x) (map step_of ds)) (sym (same_value m file key))) i
yields (Locked file ∷ ds) m are served = yields ds m are.1 served ∙ ap (λ (x : RecordMap). reads_after (Ok x) (map step_of ds)) (sym (same_value m file whole_file))

-- the reads law
pub node_reads_law : ReadsLaw
node_reads_law rules found images bases dumps before map_ log o h s at front rest t e =
    yields (deeds_of t log) _ (real t _ log h) (node_serial_law rules found images bases dumps before map_ log o h s at front rest t e)

-- THE FOLD

-- the steps of the changes
abbrev changes : List Deed → List Step
changes [] = []
changes (Changed r op ∷ ds) = step_of (Changed r op) ∷ changes ds
changes (Saw file key value ∷ ds) = changes ds
changes (Locked file ∷ ds) = changes ds

changes_are : (t : Transid) (log : List (ℕ × NodeEvent)) → steps_of t log ≡ changes (deeds_of t log)
changes_are t [] = refl
changes_are t ((q, OfDisc (Write c op)) ∷ log) = by_case (is_same_transid t c.tx) (changes_are t log) where
  by_case : (b : Bool) → steps_of t log ≡ changes (deeds_of t log) → (if b then step_of (Changed c op) ∷ steps_of t log else steps_of t log) ≡ changes (if b then Changed c op ∷ deeds_of t log else deeds_of t log)
  by_case true e = ap (λ ss. step_of (Changed c op) ∷ ss) e
  by_case false e = e
changes_are t ((q, OfDisc (Read u file key value)) ∷ log) = by_case (is_same_transid t u) (changes_are t log) where
  by_case : (b : Bool) → steps_of t log ≡ changes (deeds_of t log) → steps_of t log ≡ changes (if b then Saw file key value ∷ deeds_of t log else deeds_of t log)
  by_case true e = e
  by_case false e = e
changes_are t ((q, OfWorker (Begin t2)) ∷ log) = changes_are t log
changes_are t ((q, OfWorker (Enlist t2 d)) ∷ log) = changes_are t log
changes_are t ((q, OfWorker (Finish t2)) ∷ log) = changes_are t log
changes_are t ((q, OfWorker (End t2)) ∷ log) = changes_are t log
changes_are t ((q, OfWorker (Quit t2)) ∷ log) = changes_are t log
changes_are t ((q, OfDisc (Lock u file)) ∷ log) = by_case (is_same_transid t u) (changes_are t log) where
  by_case : (b : Bool) → steps_of t log ≡ changes (deeds_of t log) → steps_of t log ≡ changes (if b then Locked file ∷ deeds_of t log else deeds_of t log)
  by_case true e = e
  by_case false e = e
changes_are t ((q, OfDisc (Turn t2 (Busy step h2))) ∷ log) = changes_are t log
changes_are t ((q, OfDisc (Turn t2 (BusyFile file h2))) ∷ log) = changes_are t log
changes_are t ((q, OfDisc (Turn t2 (Full step))) ∷ log) = changes_are t log
changes_are t ((q, OfDisc (Turn t2 (Refused step reason))) ∷ log) = changes_are t log
changes_are t ((q, OfDisc (Turn t2 Dumping)) ∷ log) = changes_are t log
changes_are t ((q, OfDisc (Undo r2)) ∷ log) = changes_are t log
changes_are t ((q, OfDisc (CloseEvent t2)) ∷ log) = changes_are t log
changes_are t ((q, OfDisc (Release t2)) ∷ log) = changes_are t log
changes_are t ((q, OfDisc (Draw file block position)) ∷ log) = changes_are t log
changes_are t ((q, OfDisc (Drawn file block)) ∷ log) = changes_are t log
changes_are t ((q, OfDisc (Low position by)) ∷ log) = changes_are t log
changes_are t ((q, OfDisc Lowered) ∷ log) = changes_are t log
changes_are t ((q, OfDisc (Start number start item)) ∷ log) = changes_are t log
changes_are t ((q, OfDisc (Raise number rest)) ∷ log) = changes_are t log
changes_are t ((q, OfDisc (Failed by)) ∷ log) = changes_are t log
changes_are t ((q, OfTrail (Offer file records)) ∷ log) = changes_are t log
changes_are t ((q, OfTrail Land) ∷ log) = changes_are t log
changes_are t ((q, OfTrail (Purge below last)) ∷ log) = changes_are t log
changes_are t ((q, OfTrail (TrailFailed by)) ∷ log) = changes_are t log
changes_are t ((q, OfMonitor (OfferCar records)) ∷ log) = changes_are t log
changes_are t ((q, OfMonitor LandCar) ∷ log) = changes_are t log
changes_are t ((q, OfMonitor (MonitorFailed by)) ∷ log) = changes_are t log
changes_are t ((q, OfDump (Copy number file block position)) ∷ log) = changes_are t log
changes_are t ((q, OfDump (Seal number start)) ∷ log) = changes_are t log
changes_are t ((q, OfDump (Sealed number whole)) ∷ log) = changes_are t log
changes_are t ((q, OfDump (DumpFailed by)) ∷ log) = changes_are t log

-- a read changes nothing
unchanged : (v : Result RecordMap Reason) (file : ℕ) (key : List ℕ) → after_step v (record { file = file; key = key; op = ReadOp }) ≡ v
unchanged (Err reason) file key = refl
unchanged (Ok m) file key = ap (λ (x : RecordMap). Ok x) (same_value m file key)

-- nor does a lock
unlocked : (v : Result RecordMap Reason) (file : ℕ) → after_step v (lock_step file) ≡ v
unlocked (Err reason) file = refl
unlocked (Ok m) file = ap (λ (x : RecordMap). Ok x) (same_value m file whole_file)

same_after : (ds : List Deed) (v : Result RecordMap Reason) → fold after_step v (changes ds) ≡ fold after_step v (map step_of ds)
same_after [] v = refl
same_after (Changed r op ∷ ds) v = same_after ds (after_step v (step_of (Changed r op)))
same_after (Saw file key value ∷ ds) v = same_after ds v ∙ ap (λ (w : Result RecordMap Reason). fold after_step w (map step_of ds)) (sym (unchanged v file key))
same_after (Locked file ∷ ds) v = same_after ds v ∙ ap (λ (w : Result RecordMap Reason). fold after_step w (map step_of ds)) (sym (unlocked v file))

-- the done law
pub node_done_law : DoneLaw
node_done_law log list map_ = by_list (commits_of list) map_ where
  one : (t : Transid) (m : RecordMap) → after_commit (written log t) m ≡ after_commit (Some (done log t)) m
  one t m = ap (λ (v : Result RecordMap Reason). result_unwrap_or v m) (ap (λ ss. after_steps ss m) (changes_are t log) ∙ same_after (deeds_of t log) (Ok m))

  by_list : (ts : List Transid) (m : RecordMap) → after_commits (written log) ts m ≡ after_commits (λ t. Some (done log t)) ts m
  by_list [] m = refl
  by_list (t ∷ ts) m = by_list ts (after_commit (written log t) m) ∙ ap (λ (x : RecordMap). after_commits (λ u. Some (done log u)) ts x) (one t m)
