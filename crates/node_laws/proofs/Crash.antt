-- The crash law of a node: whatever the history and the images that it shows, they stand for the list and the map of its commits.
use Rattle.std.specs.Prelude.{◌≡◌, ◌⊎◌, ℕ, zero, suc, ◌+◌, ◌<◌, ◌≤◌, nat_le, Bool, true, false, List, [], ◌∷◌, ◌++◌, length, map, All, Option, Some, None, slice_get, unwrap_or, if◌then◌else◌}
use Rattle.std.specs.Option.{option_map_or}
use Rattle.std.proofs.Common.{refl, ap, sym, ◌∙◌, subst, arith, append-nil, ⊎_elim, inl, inr}
use Rattle.std.proofs.lemmas.Bool.{leb-true}
use Rattle.chronicle.specs.Histories.{IsHistory, states_after}
use Rattle.disk_model.specs.Held.{Held}
use Rattle.tmf_model.specs.Commits.{numbered}
use Rattle.tmf_model.specs.RecordMap.{RecordMap}
use Rattle.tmf_model.specs.declared.config.Volume.{Volume}
use Rattle.trail_files.specs.MonitorOrder.{last_epoch}
use Rattle.trail_files.specs.StandsFor.{Base, IsNumber, StandsFor}
use Rattle.trail_files.specs.declared.audit_record.AuditRecord.{AuditRecord}
use Rattle.trail_files.specs.declared.monitor_record.MonitorRecord.{MonitorRecord}
use Rattle.trail_files.specs.declared.rules.Rules.{Rules}
use Rattle.any_node.specs.Value.{AuditRecord as AnyRecord, Ending, Each, last_start, entries}
use Rattle.any_node.specs.Stands.{Image}
use Rattle.any_node.specs.Stands.{Base as AnyBase, StandsFor as AnyStands}
use Rattle.any_node.specs.Node.{Label, State, Event, node as any_node}
use Rattle.any_node.specs.Node.{Disc as AnyDisc, Trail as AnyTrail, Monitor as AnyMonitor, Dump as AnyDump}
use Rattle.any_node.specs.Node.State.{worker, disc, trail, monitor, dump}
use Rattle.any_node.specs.Node.Label.{Found as OldLabel, Taken}
use Rattle.any_node.specs.Fold.{After}
use Rattle.any_node.specs.Shows.{ShowsRows, ShowsCloses, says}
use Rattle.any_node.specs.Shows.{Shows as AnyShows, ShowsVolume as AnyVolumeShown, ShowsDump as AnyDumpShown}
use Rattle.any_node.proofs.Laws.{crash_law as any_crash_law, serial_law as any_serial_law}
use Rattle.node_machine.specs.Law.{IsOpening, CrashLaw, after_list}
use Rattle.node_machine.specs.Monitor.{recorded, offered_car}
use Rattle.node_machine.specs.Trail.{trail_of, records_of, landed, offered, landed_standing, offered_standing}
use Rattle.node_machine.specs.Dump.{landed_here}
use Rattle.node_machine.specs.Shows.{PartIs, IfTrail, IfMonitor, ShowsTrail, ShowsMonitor, ShowsVolume, ShowsDump, ShowsOwn, HasCopies, ShowsDisc, Shows}
use Rattle.node_machine.specs.Node.{node}
use Rattle.node_machine.specs.Opening.{Found, TrailFound, VolumeFound, found_volume, opening_parts}
use Rattle.node_machine.specs.Parts.{Standing, DumpStart, DiscPart, TrailPart, MonitorPart, DumpPart, PartState}
use Rattle.node_machine.specs.Parts.PartState.{Worker, Disc, Trail, Monitor, Dump, Idle}
use Rattle.node_machine.specs.Same.{Among}
use Rattle.node_machine.specs.SameLaws.{among_left, among_right, among_append}
use Rattle.node_machine.specs.declared.event.Event.{Event as NodeEvent}
use Rattle.node_machine.proofs.Placed.{IsPlaced, parts_placed}
use Rattle.node_laws.specs.Layouts.{layout, FileKey}
use Rattle.node_laws.specs.Views.{rec_of, recs_of, mons_of, entries_of, landed_mons, offered_mons, any_disc, any_trail, any_monitor, any_dump, landed_dump, old_dump}
use Rattle.node_laws.proofs.Begun.{first_image, records_in, lost_disc, lost_dump, no_part, disc_or_none, dump_or_none, idles, label_at}
use Rattle.node_laws.proofs.Discs.{recs_among}
use Rattle.node_laws.proofs.Places.{among_records}
use Rattle.node_laws.proofs.Dumps.{taken_here, or_old, landed_taken, taken_mark}
use Rattle.node_laws.proofs.Filed.{landed_item, offered_item, from_item, old_item}
use Rattle.node_laws.proofs.Folds.{Agree, folds, writes_of}
use Rattle.node_laws.proofs.Opens.{audit, values, idle, V, up_of, is_declared, listed, label_is, within, declared_at, have_blocks, old_closes, opening_fit, opens}
use Rattle.node_laws.proofs.Others.{landed_mons_of, offered_mons_of, mark_of}
use Rattle.node_laws.proofs.Seen.{view, views, view_at, AreFit}
use Rattle.node_laws.proofs.Shown.{mons_append, volume_shown, own_dump, trail_shown, monitor_shown}
use Rattle.node_laws.proofs.Standing.{image, audit_on, inside, inside_is, declared_disc, stands_back, stands_audit}
use Rattle.node_laws.proofs.Sums.{any_base, among_all, epoch_is}
use Rattle.node_laws.proofs.Transfer.{any_log, transfer}

module _ (rules : ℕ → Rules) (images : ℕ → Held) (bases dumps : ℕ → Option Base) (before : List MonitorRecord) (map_ : RecordMap) (found : Found) (o : IsOpening rules images bases dumps before map_ found) where
  abbrev A0 : ℕ → List AuditRecord
  A0 = audit rules images bases dumps before map_ found o

  abbrev W : ℕ → RecordMap × ℕ
  W = values rules images bases dumps before map_ found o

  abbrev I : ℕ → State (layout found)
  I = idle rules images bases dumps before map_ found o

  -- what an idle part is seen as
  abbrev IsIdle : ℕ → State (layout found) → Type 0
  IsIdle q (worker s) = Unit {0}
  IsIdle q (disc s) = (d : ℕ) × (s ≡ lost_disc found before A0 bases dumps map_ d) × ((1 ≤ d) × (d ≤ length found.config.volumes)) × (q ≡ 15 + d)
  IsIdle q (dump s) = (d : ℕ) × (s ≡ lost_dump found before A0 bases dumps map_ d) × ((1 ≤ d) × (d ≤ length found.config.volumes)) × (q ≡ 28 + d)
  IsIdle q (trail s) = ⊥
  IsIdle q (monitor s) = ⊥

  abbrev AreIdle : ℕ → List (State (layout found)) → Type 0
  AreIdle q [] = Unit {0}
  AreIdle q (s ∷ ss) = IsIdle q s × AreIdle (suc q) ss

  idle_disc : (d : ℕ) → 1 ≤ d → IsIdle (15 + d) (disc_or_none found before A0 bases dumps map_ d)
  idle_disc d one = by_case (nat_le d (length found.config.volumes)) refl where
    by_case : (b : Bool) → nat_le d (length found.config.volumes) ≡ b → IsIdle (15 + d) (if b then disc (lost_disc found before A0 bases dumps map_ d) else no_part found before A0 bases dumps map_ (16 + d))
    by_case true e = (d, refl, (one, leb-true d (length found.config.volumes) e), refl)
    by_case false e = tt

  idle_dump : (d : ℕ) → 1 ≤ d → IsIdle (28 + d) (dump_or_none found before A0 bases dumps map_ d)
  idle_dump d one = by_case (nat_le d (length found.config.volumes)) refl where
    by_case : (b : Bool) → nat_le d (length found.config.volumes) ≡ b → IsIdle (28 + d) (if b then dump (lost_dump found before A0 bases dumps map_ d) else no_part found before A0 bases dumps map_ (29 + d))
    by_case true e = (d, refl, (one, leb-true d (length found.config.volumes) e), refl)
    by_case false e = tt

  all_idle : AreIdle 0 (idles found before A0 bases dumps map_)
  all_idle = (tt, (tt, (tt, (tt, (tt, (tt, (tt, (tt, (tt, (tt, (tt, (tt, (tt, (tt, (tt, (tt, (idle_disc 1 (omega arith), (idle_disc 2 (omega arith), (idle_disc 3 (omega arith), (idle_disc 4 (omega arith), (idle_disc 5 (omega arith), (idle_disc 6 (omega arith), (idle_disc 7 (omega arith), (idle_disc 8 (omega arith), (tt, (tt, (tt, (tt, (tt, (idle_dump 1 (omega arith), (idle_dump 2 (omega arith), (idle_dump 3 (omega arith), (idle_dump 4 (omega arith), (idle_dump 5 (omega arith), (idle_dump 6 (omega arith), (idle_dump 7 (omega arith), (idle_dump 8 (omega arith), tt)))))))))))))))))))))))))))))))))))))

  idle_or : (n : ℕ) (ss : List (State (layout found))) → AreIdle n ss → (q : ℕ) → IsIdle (n + q) (unwrap_or (slice_get ss q) (no_part found before A0 bases dumps map_ 0))
  idle_or n [] all q = tt
  idle_or n (x ∷ ss) all zero = (let e : n ≡ n + 0 = omega arith in subst (λ (m : ℕ). IsIdle m x) e all.0)
  idle_or n (x ∷ ss) all (suc q) = (let e : suc n + q ≡ n + suc q = omega arith in subst (λ (m : ℕ). IsIdle m (unwrap_or (slice_get ss q) (no_part found before A0 bases dumps map_ 0))) e (idle_or (suc n) ss all.1 q))

  is_idle : (q : ℕ) → IsIdle q (I q)
  is_idle q = (let e : 0 + q ≡ q = omega arith in subst (λ (m : ℕ). IsIdle m (I q)) e (idle_or 0 (idles found before A0 bases dumps map_) all_idle q))

  -- a part that is seen is one of the node's
  back_from : (n : ℕ) (ss : List PartState) (q : ℕ) (x : State (layout found)) → slice_get (views found before W I n ss) q ≡ Some x → (s : PartState) × (slice_get ss q ≡ Some s) × (x ≡ view found before W I (n + q) s)
  back_from n [] q x at = absurd (cc (at))
  back_from n (s ∷ ss) zero x at = (let same : view found before W I n s ≡ x = cc (at) in let e : n ≡ n + 0 = omega arith in (s, refl, sym same ∙ ap (λ (m : ℕ). view found before W I m s) e))
  back_from n (s ∷ ss) (suc q) x at = (let e : suc n + q ≡ n + suc q = omega arith in let h = back_from (suc n) ss q x at in (h.0, h.1, h.2 ∙ ap (λ (m : ℕ). view found before W I m h.0) e))

  back : (ss : List PartState) (q : ℕ) (x : State (layout found)) → slice_get (views found before W I 0 ss) q ≡ Some x → (s : PartState) × (slice_get ss q ≡ Some s) × (x ≡ view found before W I q s)
  back ss q x at = (let e : 0 + q ≡ q = omega arith in let h = back_from 0 ss q x at in (h.0, h.1, h.2 ∙ ap (λ (m : ℕ). view found before W I m h.0) e))

  -- a disc that is seen: one of the node's, or one whose volume is lost
  abbrev pub IsLostDisc : List PartState → ℕ → AnyDisc (layout found) → Type 0
  IsLostDisc ss q x = (d : ℕ) × (x ≡ lost_disc found before A0 bases dumps map_ d) × ((1 ≤ d) × (d ≤ length found.config.volumes)) × (q ≡ 15 + d) × (slice_get ss q ≡ Some Idle)

  abbrev pub DiscSeen : List PartState → ℕ → AnyDisc (layout found) → Type 0
  DiscSeen ss q x = ((u : DiscPart) × (slice_get ss q ≡ Some (Disc u)) × (x ≡ any_disc found u)) ⊎ IsLostDisc ss q x

  pub disc_seen : (ss : List PartState) (q : ℕ) (x : AnyDisc (layout found)) → slice_get (views found before W I 0 ss) q ≡ Some (disc x) → DiscSeen ss q x
  disc_seen ss q x at = (let h = back ss q (disc x) at in by_part h.0 h.1 h.2) where
    by_part : (s : PartState) → slice_get ss q ≡ Some s → disc x ≡ view found before W I q s → DiscSeen ss q x
    by_part (Disc u) at e = inl (u, at, cc (e))
    by_part (Worker u) at e = absurd (cc (e))
    by_part (Trail u) at e = absurd (cc (e))
    by_part (Monitor u) at e = absurd (cc (e))
    by_part (Dump u) at e = absurd (cc (e))
    by_part Idle at e = (let i = subst (λ (y : State (layout found)). IsIdle q y) (sym e) (is_idle q) in inr (i.0, i.1, i.2, i.3, at))

  abbrev IsLostDump : List PartState → ℕ → AnyDump (layout found) → Type 0
  IsLostDump ss q x = (d : ℕ) × (x ≡ lost_dump found before A0 bases dumps map_ d) × ((1 ≤ d) × (d ≤ length found.config.volumes)) × (q ≡ 28 + d) × (slice_get ss q ≡ Some Idle)

  abbrev DumpSeen : List PartState → ℕ → AnyDump (layout found) → Type 0
  DumpSeen ss q x = ((u : DumpPart) × (slice_get ss q ≡ Some (Dump u)) × (x ≡ any_dump found (W u.number).0 u)) ⊎ IsLostDump ss q x

  dump_seen : (ss : List PartState) (q : ℕ) (x : AnyDump (layout found)) → slice_get (views found before W I 0 ss) q ≡ Some (dump x) → DumpSeen ss q x
  dump_seen ss q x at = (let h = back ss q (dump x) at in by_part h.0 h.1 h.2) where
    by_part : (s : PartState) → slice_get ss q ≡ Some s → dump x ≡ view found before W I q s → DumpSeen ss q x
    by_part (Dump u) at e = inl (u, at, cc (e))
    by_part (Worker u) at e = absurd (cc (e))
    by_part (Trail u) at e = absurd (cc (e))
    by_part (Monitor u) at e = absurd (cc (e))
    by_part (Disc u) at e = absurd (cc (e))
    by_part Idle at e = (let i = subst (λ (y : State (layout found)). IsIdle q y) (sym e) (is_idle q) in inr (i.0, i.1, i.2, i.3, at))

  trail_seen : (ss : List PartState) (q : ℕ) (x : AnyTrail (layout found)) → slice_get (views found before W I 0 ss) q ≡ Some (trail x) → (u : TrailPart) × (slice_get ss q ≡ Some (Trail u)) × (x ≡ any_trail found (λ n. (W n).1) u)
  trail_seen ss q x at = (let h = back ss q (trail x) at in by_part h.0 h.1 h.2) where
    by_part : (s : PartState) → slice_get ss q ≡ Some s → trail x ≡ view found before W I q s → (u : TrailPart) × (slice_get ss q ≡ Some (Trail u)) × (x ≡ any_trail found (λ n. (W n).1) u)
    by_part (Trail u) at e = (u, at, cc (e))
    by_part (Worker u) at e = absurd (cc (e))
    by_part (Dump u) at e = absurd (cc (e))
    by_part (Monitor u) at e = absurd (cc (e))
    by_part (Disc u) at e = absurd (cc (e))
    by_part Idle at e = absurd (subst (λ (y : State (layout found)). IsIdle q y) (sym e) (is_idle q))

  monitor_seen : (ss : List PartState) (q : ℕ) (x : AnyMonitor (layout found)) → slice_get (views found before W I 0 ss) q ≡ Some (monitor x) → (u : MonitorPart) × (slice_get ss q ≡ Some (Monitor u)) × (x ≡ any_monitor found before u)
  monitor_seen ss q x at = (let h = back ss q (monitor x) at in by_part h.0 h.1 h.2) where
    by_part : (s : PartState) → slice_get ss q ≡ Some s → monitor x ≡ view found before W I q s → (u : MonitorPart) × (slice_get ss q ≡ Some (Monitor u)) × (x ≡ any_monitor found before u)
    by_part (Monitor u) at e = (u, at, cc (e))
    by_part (Worker u) at e = absurd (cc (e))
    by_part (Dump u) at e = absurd (cc (e))
    by_part (Trail u) at e = absurd (cc (e))
    by_part (Disc u) at e = absurd (cc (e))
    by_part Idle at e = absurd (subst (λ (y : State (layout found)). IsIdle q y) (sym e) (is_idle q))

  -- what is said of the part with this number is said of its state
  this_part : (ss : List PartState) (q : ℕ) (s : PartState) (P : PartState → Type 0) → slice_get ss q ≡ Some s → PartIs ss q P → P s
  this_part ss q s P at p = (let both : Some p.0 ≡ Some s = sym p.1 ∙ at in let same : p.0 ≡ s = cc (both) in subst (λ (t : PartState). P t) same p.2)

  -- the two parts of a volume that is not lost
  up_parts : (u : DiscPart) (t : PartState) (old base now : Option Base) → ShowsDisc (Disc u) t old base now → (w : DumpPart) × (t ≡ Dump w) × (b : Base) × (base ≡ Some b) × ShowsVolume u b × ShowsDump w u old now
  up_parts u (Dump w) old (Some b) now h = (w, refl, b, refl, h.0, h.1)
  up_parts u (Dump w) old None now h = absurd h
  up_parts u (Worker w) old base now h = absurd h
  up_parts u (Disc w) old base now h = absurd h
  up_parts u (Trail w) old base now h = absurd h
  up_parts u (Monitor w) old base now h = absurd h
  up_parts u Idle old base now h = absurd h

  lost_parts : (t : PartState) (old base now : Option Base) → ShowsDisc Idle t old base now → (t ≡ Idle) × (base ≡ None) × (now ≡ old)
  lost_parts Idle old base now h = (refl, h.0, h.1)
  lost_parts (Worker w) old base now h = absurd h
  lost_parts (Disc w) old base now h = absurd h
  lost_parts (Trail w) old base now h = absurd h
  lost_parts (Monitor w) old base now h = absurd h
  lost_parts (Dump w) old base now h = absurd h

  module _ (log : List (ℕ × NodeEvent)) (h : IsHistory node (opening_parts found) log) where
    abbrev A : List PartState
    A = states_after node (opening_parts found) log

    abbrev LOG : List (ℕ × Event (layout found))
    LOG = any_log found before W I (old_closes rules images bases dumps before map_ found o) (have_blocks rules images bases dumps before map_ found o) log

    seen_so : IsHistory (any_node (layout found)) (V rules images bases dumps before map_ found o) LOG
        × (states_after (any_node (layout found)) (V rules images bases dumps before map_ found o) LOG ≡ views found before W I 0 A)
        × AreFit found before W I A
    seen_so = transfer found before W I (old_closes rules images bases dumps before map_ found o) (have_blocks rules images bases dumps before map_ found o) (opening_parts found) log (opening_fit rules images bases dumps before map_ found o) h

    fit : AreFit found before W I A
    fit = seen_so.2

    stands_at : (q : ℕ) (s : PartState) → slice_get A q ≡ Some s → IsPlaced q s
    stands_at = parts_placed found log h

    module _ (now_images : ℕ → Held) (now_bases now_dumps : ℕ → Option Base) (list : List MonitorRecord) (shown : Shows found.config rules A dumps before now_images now_bases now_dumps list) where
      abbrev J : Image (layout found)
      J = image found (before ++ list) shown.audit now_bases now_dumps

      volume_at : (u : DiscPart) (q : ℕ) → slice_get A q ≡ Some (Disc u) → (1 ≤ u.number) × ((volume : Volume) × IsNumber found.config.volumes u.number volume)
      volume_at u q at =
          let f = fit.each q (Disc u) at in
          let one = number_one u.number f.3.0 f.3.1 in
          (one, declared_at rules images bases dumps before map_ found o u.number one (is_declared rules images bases dumps before map_ found o u.number f.3.0 f.3.1))
        where
          number_one : (n : ℕ) (v : VolumeFound) → found_volume found n ≡ Some v → 1 ≤ n
          number_one zero v e = absurd (cc (e))
          number_one (suc n) v e = omega arith

      -- what is shown of the two parts of a volume that is there
      disc_part_shown : (u : DiscPart) (q : ℕ) → slice_get A q ≡ Some (Disc u) → (t : PartState) × (slice_get A (28 + u.number) ≡ Some t) × ShowsDisc (Disc u) t (dumps u.number) (now_bases u.number) (now_dumps u.number)
      disc_part_shown u q at =
          let v = volume_at u q at in
          let here : slice_get A (15 + u.number) ≡ Some (Disc u) = ap (λ (n : ℕ). slice_get A n) (sym (stands_at q (Disc u) at)) ∙ at in
          this_part A (15 + u.number) (Disc u) (λ s. PartIs A (28 + u.number) (λ t. ShowsDisc s t (dumps u.number) (now_bases u.number) (now_dumps u.number))) here (shown.volumes_shown u.number v.1.0 v.1.1)

      -- and of one that is lost
      lost_shown : (d : ℕ) → 1 ≤ d → d ≤ length found.config.volumes → slice_get A (15 + d) ≡ Some Idle → (slice_get A (28 + d) ≡ Some Idle) × (now_bases d ≡ None) × (now_dumps d ≡ dumps d)
      lost_shown d one most at =
          let v = declared_at rules images bases dumps before map_ found o d one most in
          let p = this_part A (15 + d) Idle (λ s. PartIs A (28 + d) (λ t. ShowsDisc s t (dumps d) (now_bases d) (now_dumps d))) at (shown.volumes_shown d v.0 v.1) in
          let l = lost_parts p.0 (dumps d) (now_bases d) (now_dumps d) p.2 in
          (p.1 ∙ ap (λ (s : PartState). Some s) l.0, l.1, l.2)

      -- a disc that is seen is of the layout
      most_of : (ss : List (State (layout found))) → (d : ℕ) → 1 ≤ d → Among (layout found).discs d → d ≤ length found.config.volumes
      most_of ss d one has = (let v = declared_disc found o.valid d has in within rules images bases dumps before map_ found o d v.0 v.1)

      old_shown : (d : ℕ) (x : AnyDisc (layout found)) (u : AnyDump (layout found)) → u.landed ≡ label_at found before A0 bases dumps map_ (any_base found (dumps d)) → now_dumps d ≡ dumps d
          → ((l : Label (layout found)) (k : FileKey) → (b : AnyBase (layout found)) → l ≡ OldLabel b.position b.values → b.values k ≡ says {N = layout found} x l k)
          → AnyDumpShown {N = layout found} x u (any_base found (now_dumps d))
      old_shown d x u landed same says_ =
          by_base (any_base found (dumps d)) (any_base found (now_dumps d)) (ap (any_base found) same) landed
        where
          by_base : (old now : Option (AnyBase (layout found))) → now ≡ old → u.landed ≡ label_at found before A0 bases dumps map_ old → AnyDumpShown {N = layout found} x u now
          by_base None None e l = l
          by_base (Some b) None e l = absurd (cc (e))
          by_base None (Some c) e l = absurd (cc (e))
          by_base (Some b) (Some c) e l =
              let one : c ≡ b = cc (e) in
              subst (λ (y : AnyBase (layout found)). AnyDumpShown {N = layout found} x u (Some y)) (sym one) (OldLabel b.position b.values, inl l, refl, λ k on. says_ (OldLabel b.position b.values) k b refl)

      old_says : (x : AnyDisc (layout found)) (l : Label (layout found)) (k : FileKey) (b : AnyBase (layout found)) → l ≡ OldLabel b.position b.values → b.values k ≡ says {N = layout found} x l k
      old_says x l k b e = ap (λ (y : Label (layout found)). says {N = layout found} x y k) (sym e)

      unmark : (p : Option (Label (layout found))) → mark_of found p ≡ None → p ≡ None
      unmark None e = refl
      unmark (Some (OldLabel start_ v)) e = absurd (cc (e))
      unmark (Some (Taken i start_ c)) e = absurd (cc (e))

      dump_up : (u : DiscPart) (q : ℕ) → slice_get A q ≡ Some (Disc u) → (w : DumpPart) (r : ℕ) → slice_get A r ≡ Some (Dump w) → u.number ≡ w.number
          → AnyDumpShown {N = layout found} (any_disc found u) (any_dump found (W w.number).0 w) (any_base found (now_dumps u.number))
      dump_up u q at w r bt same =
          let f = fit.each q (Disc u) at in
          let g = fit.each r (Dump w) bt in
          let v = volume_at u q at in
          let p = disc_part_shown u q at in
          let up = up_parts u p.0 (dumps u.number) (now_bases u.number) (now_dumps u.number) p.2 in
          let there : slice_get A (28 + u.number) ≡ Some (Dump w) = ap (λ (n : ℕ). slice_get A (28 + n)) same ∙ (ap (λ (n : ℕ). slice_get A n) (sym (stands_at r (Dump w) bt)) ∙ bt) in
          let both : Some (Dump up.0) ≡ Some (Dump w) = ap (λ (s : PartState). Some s) (sym up.1) ∙ (sym p.1 ∙ there) in
          let dumped : Dump up.0 ≡ Dump w = cc (both) in
          let one : up.0 ≡ w = cc (dumped) in
          let shows : ShowsDump w u (dumps u.number) (now_dumps u.number) = subst (λ (x : DumpPart). ShowsDump x u (dumps u.number) (now_dumps u.number)) one up.5 in
          let found_up = up_of rules images bases dumps before map_ found o w.number (volume_of_dump w r bt same v).0 g.3.0 (volume_of_dump w r bt same v).1 g.3.1 in
          ⊎_elim
          (λ (x : (landed_here w.events ≡ None) × (now_dumps u.number ≡ dumps u.number)).
          (let none : taken_here found w.events ≡ None = unmark (taken_here found w.events) (taken_mark found w.events ∙ x.0) in
          let landed : landed_dump found (old_dump found w.rest (W w.number).0) w.events ≡ label_at found before A0 bases dumps map_ (any_base found (dumps u.number)) =
          landed_taken found (old_dump found w.rest (W w.number).0) w.events
          ∙ (ap (or_old found (old_dump found w.rest (W w.number).0)) none
          ∙ (ap (λ (s : Option ℕ). old_dump found s (records_in (dumps w.number))) (g.3.2 ∙ found_up.rest)
          ∙ (label_is rules images bases dumps before map_ found o (dumps w.number)
          ∙ (ap (λ (n : ℕ). label_at found before A0 bases dumps map_ (any_base found (dumps n))) (sym same))))) in
          old_shown u.number (any_disc found u) (any_dump found (W w.number).0 w) landed x.1 (old_says (any_disc found u))))
          (λ (x : (label : DumpStart) × ShowsOwn w label × (b : Base) × (now_dumps u.number ≡ Some b) × HasCopies w u label b).
          (let now : (any_base found (now_dumps u.number)) ≡ any_base found (Some x.2) = ap (any_base found) x.3 in
          subst (λ (b : Option (AnyBase (layout found))). AnyDumpShown {N = layout found} (any_disc found u) (any_dump found (W w.number).0 w) b) (sym now)
          (own_dump found u w (W w.number).0 x.0 x.2 f.0 same g.2 x.1 x.4)))
          shows
        where
          volume_of_dump : (w : DumpPart) (r : ℕ) → slice_get A r ≡ Some (Dump w) → u.number ≡ w.number → ((1 ≤ u.number) × ((volume : Volume) × IsNumber found.config.volumes u.number volume)) → (volume : Volume) × IsNumber found.config.volumes w.number volume
          volume_of_dump w r bt same v = (v.1.0, subst (λ (n : ℕ). IsNumber found.config.volumes n v.1.0) same v.1.1)

      shows_any : AnyShows {N = layout found} (views found before W I 0 A) (mons_of found list) J
      shows_any = record {
        list = λ q m at.
            (let s = monitor_seen A q m at in
            let here : slice_get A 28 ≡ Some (Monitor s.0) = ap (λ (n : ℕ). slice_get A n) (sym (stands_at q (Monitor s.0) s.1)) ∙ s.1 in
            let is = this_part A 28 (Monitor s.0) (λ t. IfMonitor t (λ u. ShowsMonitor u list)) here shown.monitor_shown in
            subst (λ (x : AnyMonitor (layout found)). ShowsCloses {N = layout found} x (mons_of found list) × (J.list ≡ x.before ++ entries {N = layout found} (mons_of found list))) (sym s.2)
            (monitor_shown found before s.0 list (fit.each q (Monitor s.0) s.1).2 is));
        audit = λ q t at.
            (let s = trail_seen A q t at in
            let f = fit.each q (Trail s.0) s.1 in
            let here : slice_get A (23 + s.0.number) ≡ Some (Trail s.0) = ap (λ (n : ℕ). slice_get A n) (sym (stands_at q (Trail s.0) s.1)) ∙ s.1 in
            let is = this_part A (23 + s.0.number) (Trail s.0) (λ x. IfTrail x (λ u. ShowsTrail u (shown.audit s.0.number))) here (shown.audit_shown s.0.number f.2.0 f.2.1) in
            let rows = trail_shown found (λ n. (W n).1) s.0 (shown.audit s.0.number) is in (
              rows.0,
              subst (λ (x : AnyTrail (layout found)). ShowsRows {N = layout found} x rows.0) (sym s.2) rows.1,
              λ d on. audit_there shown.audit d s.0.number (on ∙ ap (λ (x : AnyTrail (layout found)). x.number) s.2) f.2.0 ∙ sym (rows.2 d),
            ));
        lost = λ q s at is. ⊎_elim
            (λ (x : (u : DiscPart) × (slice_get A q ≡ Some (Disc u)) × (s ≡ any_disc found u)). absurd (let both : true ≡ false = sym is ∙ ap (λ (y : AnyDisc (layout found)). y.lost) x.2 in cc (both)))
            (λ (y : IsLostDisc A q s). ap (λ (z : AnyDisc (layout found)). J.volume z.number) y.1 ∙ lost_volume y.0 y.2 (ap (λ (n : ℕ). slice_get A n) (sym y.3) ∙ y.4))
            (disc_seen A q s at);
        volumes = λ q s at is. ⊎_elim
            (λ (x : (u : DiscPart) × (slice_get A q ≡ Some (Disc u)) × (s ≡ any_disc found u)).
            (let f = fit.each q (Disc x.0) x.1 in
            let v = volume_at x.0 q x.1 in
            let p = disc_part_shown x.0 q x.1 in
            let up = up_parts x.0 p.0 (dumps x.0.number) (now_bases x.0.number) (now_dumps x.0.number) p.2 in
            let now : (any_base found (now_bases x.0.number)) ≡ any_base found (Some up.2) = ap (any_base found) up.3 in
            subst (λ (y : AnyDisc (layout found)). (b : AnyBase (layout found)) × (J.volume y.number ≡ Some b) × AnyVolumeShown {N = layout found} y b) (sym x.2)
            (record { values = λ k. up.2.records k.0 k.1; position = up.2.position }, now, volume_shown found x.0 up.2 f.0 up.4)))
            (λ (y : IsLostDisc A q s). absurd (let both : false ≡ true = sym is ∙ ap (λ (z : AnyDisc (layout found)). z.lost) y.1 in cc (both)))
            (disc_seen A q s at);
        dumps = λ q r s u at bt same. dumps_shown q r s u at bt same;
      } where
        audit_there : (a : ℕ → List AuditRecord) (d t : ℕ) → trail_of found.config d ≡ t → 1 ≤ t → audit_on found a d ≡ recs_of found (records_of d (a t))
        audit_there a d t on one = ap (λ (n : ℕ). recs_of found (records_of d (a n))) on

        lost_volume : (d : ℕ) → (1 ≤ d) × (d ≤ length found.config.volumes) → slice_get A (15 + d) ≡ Some Idle → J.volume d ≡ None
        lost_volume d in_ at = ap (any_base found) (lost_shown d in_.0 in_.1 at).1

        no_dump : (q : ℕ) (w : DumpPart) → slice_get A q ≡ Some Idle → slice_get A q ≡ Some (Dump w) → ⊥
        no_dump q w a b = (let both : Some Idle ≡ Some (Dump w) = sym a ∙ b in let one : Idle ≡ Dump w = cc (both) in cc (one))

        dumps_shown : (q r : ℕ) (s : AnyDisc (layout found)) (u : AnyDump (layout found)) → slice_get (views found before W I 0 A) q ≡ Some (disc s) → slice_get (views found before W I 0 A) r ≡ Some (dump u) → s.number ≡ u.number
            → AnyDumpShown {N = layout found} s u (J.dump s.number)
        dumps_shown q r s u at bt same =
            ⊎_elim
            (λ (a : (c : DiscPart) × (slice_get A q ≡ Some (Disc c)) × (s ≡ any_disc found c)).
            (let v = volume_at a.0 q a.1 in
            let number : s.number ≡ a.0.number = ap (λ (y : AnyDisc (layout found)). y.number) a.2 in
            ⊎_elim
            (λ (b : (w : DumpPart) × (slice_get A r ≡ Some (Dump w)) × (u ≡ any_dump found (W w.number).0 w)).
            (let one : a.0.number ≡ b.0.number = sym number ∙ (same ∙ ap (λ (y : AnyDump (layout found)). y.number) b.2) in
            subst (λ (y : AnyDisc (layout found)). AnyDumpShown {N = layout found} y u (J.dump y.number)) (sym a.2)
            (subst (λ (y : AnyDump (layout found)). AnyDumpShown {N = layout found} (any_disc found a.0) y (J.dump a.0.number)) (sym b.2) (dump_up a.0 q a.1 b.0 r b.1 one))))
            (λ (c : IsLostDump A r u).
            (let one : a.0.number ≡ c.0 = sym number ∙ (same ∙ ap (λ (y : AnyDump (layout found)). y.number) c.1) in
            let p = disc_part_shown a.0 q a.1 in
            let up = up_parts a.0 p.0 (dumps a.0.number) (now_bases a.0.number) (now_dumps a.0.number) p.2 in
            let there : slice_get A r ≡ Some (Dump up.0) = ap (λ (n : ℕ). slice_get A n) (c.3 ∙ ap (λ (n : ℕ). 28 + n) (sym one)) ∙ (p.1 ∙ ap (λ (x : PartState). Some x) up.1) in
            absurd (no_dump r up.0 c.4 there)))
            (dump_seen A r u bt)))
            (λ (c : IsLostDisc A q s).
            (let number : s.number ≡ c.0 = ap (λ (y : AnyDisc (layout found)). y.number) c.1 in
            let l = lost_shown c.0 c.2.0 c.2.1 (ap (λ (n : ℕ). slice_get A n) (sym c.3) ∙ c.4) in
            ⊎_elim
            (λ (b : (w : DumpPart) × (slice_get A r ≡ Some (Dump w)) × (u ≡ any_dump found (W w.number).0 w)).
            (let one : c.0 ≡ b.0.number = sym number ∙ (same ∙ ap (λ (y : AnyDump (layout found)). y.number) b.2) in
            let there : slice_get A (28 + c.0) ≡ Some (Dump b.0) = ap (λ (n : ℕ). slice_get A (28 + n)) one ∙ (ap (λ (n : ℕ). slice_get A n) (sym (stands_at r (Dump b.0) b.1)) ∙ b.1) in
            absurd (no_dump (28 + c.0) b.0 l.0 there)))
            (λ (e : IsLostDump A r u).
            (let one : e.0 ≡ c.0 = sym (ap (λ (y : AnyDump (layout found)). y.number) e.1) ∙ (sym same ∙ number) in
            let dump_is : u ≡ lost_dump found before A0 bases dumps map_ c.0 = e.1 ∙ ap (λ (n : ℕ). lost_dump found before A0 bases dumps map_ n) one in
            subst (λ (y : AnyDisc (layout found)). AnyDumpShown {N = layout found} y u (J.dump y.number)) (sym c.1)
            (subst (λ (y : AnyDump (layout found)). AnyDumpShown {N = layout found} (lost_disc found before A0 bases dumps map_ c.0) y (J.dump c.0)) (sym dump_is)
            (old_shown c.0 (lost_disc found before A0 bases dumps map_ c.0) (lost_dump found before A0 bases dumps map_ c.0) refl l.2 (old_says (lost_disc found before A0 bases dumps map_ c.0))))))
            (dump_seen A r u bt)))
            (disc_seen A q s at)

      -- WHAT THEY STAND FOR

      any : AnyStands {N = layout found} J (After LOG (mons_of found list) (inside found map_))
      any = any_crash_law (layout found) (V rules images bases dumps before map_ found o) (first_image found before A0 bases dumps map_) (inside found map_) LOG (mons_of found list) J (opens rules images bases dumps before map_ found o) seen_so.0
          (subst (λ (ss : List (State (layout found))). AnyShows {N = layout found} ss (mons_of found list) J) (sym seen_so.1) shows_any)

      agree : Agree found (after_list log list map_) (After LOG (mons_of found list) (inside found map_))
      agree = by_monitor shown.monitor_shown where
        by_monitor : PartIs A 28 (λ s. IfMonitor s (λ m. ShowsMonitor m list)) → Agree found (after_list log list map_) (After LOG (mons_of found list) (inside found map_))
        by_monitor (Monitor u, at, is) =
            let whole : List (Ending (layout found)) = landed_mons found u.events ++ offered_mons found u.events in
            let there : slice_get (states_after (any_node (layout found)) (V rules images bases dumps before map_ found o) LOG) 28 ≡ Some (monitor (any_monitor found before u)) = ap (λ (ss : List (State (layout found))). slice_get ss 28) seen_so.1 ∙ view_at found before W I A 28 (Monitor u) at in
            let rest : (ys : List (Ending (layout found))) × (whole ≡ [] ++ (mons_of found list ++ ys)) =
            ⊎_elim
            (λ (e : list ≡ recorded u.events). (offered_mons found u.events, ap (λ ms. ms ++ offered_mons found u.events) (landed_mons_of found u.events ∙ ap (mons_of found) (sym e))))
            (λ (e : list ≡ recorded u.events ++ offered_car u.events). ([], (λ i. landed_mons_of found u.events i ++ offered_mons_of found u.events i) ∙ (sym (mons_append found (recorded u.events) (offered_car u.events)) ∙ (ap (mons_of found) (sym e) ∙ sym (append-nil (mons_of found list))))))
            is in
            folds found before W I (old_closes rules images bases dumps before map_ found o) (have_blocks rules images bases dumps before map_ found o) log (writes_of found before W I (old_closes rules images bases dumps before map_ found o) (have_blocks rules images bases dumps before map_ found o) (opening_parts found) log (opening_fit rules images bases dumps before map_ found o) h)
            (inside found map_) whole
            (λ xs ys x e c. any_serial_law (layout found) (V rules images bases dumps before map_ found o) (first_image found before A0 bases dumps map_) (inside found map_) LOG xs ys x 28 (any_monitor found before u) (opens rules images bases dumps before map_ found o) seen_so.0 there e c)
            [] list rest.0 rest.1 map_ (λ file key is_file. sym (inside_is found map_ file key is_file))
        by_monitor (Worker u, at, is) = absurd is
        by_monitor (Disc u, at, is) = absurd is
        by_monitor (Trail u, at, is) = absurd is
        by_monitor (Dump u, at, is) = absurd is
        by_monitor (Idle, at, is) = absurd is

      -- each record of a trail's image is of one of its discs
      of_trail : (t : ℕ) → 1 ≤ t → t ≤ length found.config.trails → (r : AuditRecord) → Among (shown.audit t) r → trail_of found.config r.disc ≡ t
      of_trail t one most r has = by_part (shown.audit_shown t one most) where
        by_part : PartIs A (23 + t) (λ s. IfTrail s (λ u. ShowsTrail u (shown.audit t))) → trail_of found.config r.disc ≡ t
        by_part (Trail u, at, is) =
            let f = fit.each (23 + t) (Trail u) at in
            let q : 23 + t ≡ 23 + u.number = stands_at (23 + t) (Trail u) at in
            let number : u.number ≡ t = omega (arith, q) in
            let x = from_item is.least is.all r (subst (λ (rs : List AuditRecord). Among rs r) is.audit_is has) in
            let w = o.trails t one most in
            let old_is : w.0.old ≡ Some is.old = (let both : Some w.0 ≡ Some f.6.0 = sym w.1 ∙ (ap (λ (n : ℕ). numbered found.trails n) (sym number) ∙ f.6.1) in let same : w.0 ≡ f.6.0 = cc (both) in ap (λ (y : TrailFound). y.old) same ∙ (sym f.6.2 ∙ is.told)) in
            let items : map (λ y. y.item) is.old ≡ A0 t = (let both : Some w.2.old ≡ Some is.old = sym w.2.told ∙ old_is in let same : w.2.old ≡ is.old = cc (both) in ap (λ (xs : List Standing). map (λ y. y.item) xs) (sym same) ∙ w.2.items) in
            let from_old : (y : Standing) → Among is.old y → trail_of found.config y.item.disc ≡ t = λ y k. (o.own t one most y.item (subst (λ (rs : List AuditRecord). Among rs y.item) items (old_item is.old y k))).1 in
            let from_new : (y : Standing) → Among (landed_standing u.events) y ⊎ Among (offered_standing u.events) y → trail_of found.config y.item.disc ≡ t = λ y k.
            f.5 y.item (⊎_elim
            (λ (l : Among (landed_standing u.events) y). among_left (landed u.events) (offered u.events) y.item (landed_item u.events y l))
            (λ (l : Among (offered_standing u.events) y). among_right (landed u.events) (offered u.events) y.item (offered_item u.events y l)) k) ∙ number in
            ap (λ (y : AuditRecord). trail_of found.config y.disc) (sym x.2) ∙
            ⊎_elim
            (λ (e : is.all ≡ is.old ++ landed_standing u.events).
            ⊎_elim (λ (k : Among is.old x.0). from_old x.0 k) (λ (k : Among (landed_standing u.events) x.0). from_new x.0 (inl k))
            (among_append is.old (landed_standing u.events) x.0 (subst (λ (xs : List Standing). Among xs x.0) e x.1)))
            (λ (e : is.all ≡ (is.old ++ landed_standing u.events) ++ offered_standing u.events).
            ⊎_elim
            (λ (k : Among (is.old ++ landed_standing u.events) x.0). ⊎_elim (λ (j : Among is.old x.0). from_old x.0 j) (λ (j : Among (landed_standing u.events) x.0). from_new x.0 (inl j)) (among_append is.old (landed_standing u.events) x.0 k))
            (λ (k : Among (offered_standing u.events) x.0). from_new x.0 (inr k))
            (among_append (is.old ++ landed_standing u.events) (offered_standing u.events) x.0 (subst (λ (xs : List Standing). Among xs x.0) e x.1)))
            is.is_all
        by_part (Worker u, at, is) = absurd is
        by_part (Disc u, at, is) = absurd is
        by_part (Monitor u, at, is) = absurd is
        by_part (Dump u, at, is) = absurd is
        by_part (Idle, at, is) = absurd is

      disc_listed : (d : ℕ) → 1 ≤ trail_of found.config d → Among (layout found).discs d
      disc_listed zero on = absurd (omega (arith, on))
      disc_listed (suc i) on = listed rules images bases dumps before map_ found o (suc i) (omega arith) (by_volume (slice_get found.config.volumes i) refl on) where
        below : {X : Type 0} (xs : List X) (i : ℕ) (x : X) → slice_get xs i ≡ Some x → i < length xs
        below [] i x e = absurd (cc (e))
        below (y ∷ xs) zero x e = omega arith
        below (y ∷ xs) (suc i) x e = (let lt = below xs i x e in omega (arith, lt))

        by_volume : (v : Option Volume) → slice_get found.config.volumes i ≡ v → 1 ≤ option_map_or (λ y. y.trail) v 0 → suc i ≤ length found.config.volumes
        by_volume None e on = absurd (omega (arith, on))
        by_volume (Some v) e on = (let lt = below found.config.volumes i v e in omega (arith, lt))

      each_at : {X : Type 0} (P : X → Type 0) (xs : List X) → Each P xs → (x : X) → Among xs x → P x
      each_at P [] each x k = absurd k
      each_at P (y ∷ xs) each x k = ⊎_elim (λ (e : y ≡ x). subst P e each.0) (λ (l : Among xs x). each_at P xs each.1 x l) k

      epochs : (t : ℕ) → 1 ≤ t → t ≤ length found.config.trails → All (λ r. r.tx.epoch ≤ unwrap_or (last_epoch (before ++ list)) 0) (shown.audit t)
      epochs t one most = among_all (λ r. r.tx.epoch ≤ unwrap_or (last_epoch (before ++ list)) 0) (shown.audit t) (λ r has.
          (let on = of_trail t one most r has in
          let rows : audit_on found shown.audit r.disc ≡ recs_of found (records_of r.disc (shown.audit t)) = ap (λ (n : ℕ). recs_of found (records_of r.disc (shown.audit n))) on in
          let each = any.epochs r.disc (disc_listed r.disc (omega (arith, on, one))) in
          let le = each_at (λ (x : AnyRecord (layout found)). x.tx.epoch ≤ last_start {N = layout found} 0 (entries_of found (before ++ list))) (audit_on found shown.audit r.disc) each (rec_of found r)
          (subst (λ (rs : List (AnyRecord (layout found))). Among rs (rec_of found r)) (sym rows) (recs_among found (records_of r.disc (shown.audit t)) r (among_records r.disc (shown.audit t) r has refl))) in
          let epoch = epoch_is found (before ++ list) in
          omega (arith, le, epoch)))

      pub stands : StandsFor found.config rules now_images now_bases now_dumps (before ++ list) (after_list log list map_)
      stands = stands_back found o.valid rules now_images now_bases now_dumps (before ++ list) shown.audit (after_list log list map_) (After LOG (mons_of found list) (inside found map_)) agree
          shown.monitor_spelled shown.audit_spelled epochs any

      -- with the audit that is shown
      pub stands_on : stands.audit ≡ shown.audit
      unfolding stands
      stands_on = stands_audit found o.valid rules now_images now_bases now_dumps (before ++ list) shown.audit (after_list log list map_) (After LOG (mons_of found list) (inside found map_)) agree
          shown.monitor_spelled shown.audit_spelled epochs any

-- the crash law
pub node_crash_law : CrashLaw
node_crash_law rules found old_images old_bases old_dumps before map_ log images bases dumps list o h shown =
    stands rules old_images old_bases old_dumps before map_ found o log h images bases dumps list shown
