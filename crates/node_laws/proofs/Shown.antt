-- The images that a history shows are some that it shows seen as one of any layout; and so they stand for the list and the map.
use Rattle.std.specs.Prelude.{◌≡◌, ◌⊎◌, ℕ, ◌≤◌, ◌==◌, nat_le, Bool, true, false, cond, List, [], ◌∷◌, ◌++◌, map, filter, Option, Some, None}
use Rattle.std.proofs.Common.{refl, ap, sym, ◌∙◌, subst, arith, eqb-true, eq-eqb, append_assoc, ⊎_elim, inl, inr}
use Rattle.tmf_model.specs.RecordMap.{RecordMap}
use Rattle.trail_files.specs.Recovered.{after_last_of, records_on}
use Rattle.trail_files.specs.StandsFor.{Base}
use Rattle.trail_files.specs.declared.audit_record.AuditRecord.{AuditRecord}
use Rattle.trail_files.specs.declared.monitor_record.MonitorRecord.{MonitorRecord}
use Rattle.trail_files.specs.declared.monitor_record.MonitorRecord.TheVariants.{Start as StartRecord, Commit, Abort}
use Rattle.any_node.specs.Value.{AuditRecord as AnyRecord, entries, on, up_to as any_up_to, latest, own}
use Rattle.any_node.specs.Value.Entry.{start, close}
use Rattle.any_node.specs.Node.{Label}
use Rattle.any_node.specs.Node.Label.{Found as OldLabel, Taken}
use Rattle.any_node.specs.Shows.{from_file, ShowsRows, ShowsCloses, content}
use Rattle.any_node.specs.Shows.{ShowsVolume as AnyVolumeShown, ShowsDump as AnyDumpShown}
use Rattle.node_machine.specs.Made.{made, up_to, values_at, volume_of, home_block, position_before, drawn, drawing}
use Rattle.node_machine.specs.Monitor.{recorded, offered_car}
use Rattle.node_machine.specs.Trail.{records_of, landed_standing, offered_standing}
use Rattle.node_machine.specs.Dump.{offered_label, landed_here, copied}
use Rattle.node_machine.specs.Shows.{MayBeGone, records_from, ShowsTrail, ShowsMonitor, ShowsVolume, ShowsOwn, HasCopies, HasContent}
use Rattle.node_machine.specs.Opening.{Found}
use Rattle.node_machine.specs.Parts.{Standing, DumpStart, DiscPart, TrailPart, MonitorPart, DumpPart}
use Rattle.node_machine.specs.Parts.{Entry as FileEntry}
use Rattle.node_machine.specs.Same.{Among}
use Rattle.node_machine.specs.SameLaws.{among_append}
use Rattle.node_machine.specs.declared.event.TrailEvent.{TrailEvent}
use Rattle.node_machine.specs.declared.event.TrailEvent.TheVariants.{Offer, Land, Purge, Failed as TrailFailed}
use Rattle.node_laws.specs.Layouts.{layout, FileKey, FileBlock, Content}
use Rattle.node_laws.specs.Views.{rec_of, recs_of, mons_of, entries_of, rows_of, old_rows, base_of, any_disc, any_trail, any_monitor, any_dump, offered_dump, landed_dump, old_dump, purged_below}
use Rattle.node_laws.proofs.Asked.{landed_are, offered_are}
use Rattle.node_laws.proofs.Dumps.{taken_here, or_old, landed_taken, taken_mark, IsSolid, AreSolid}
use Rattle.node_laws.proofs.Others.{AreRequests, landed_mons_of, offered_mons_of, mark_of, offered_mark}
use Rattle.node_laws.proofs.Records.{made_recs}
use Rattle.node_laws.proofs.Sums.{on_is}

module _ (found : Found) where
  up_to_recs : (n : ℕ) (rs : List AuditRecord) → any_up_to {N = layout found} n (recs_of found rs) ≡ recs_of found (up_to n rs)
  up_to_recs n [] = refl
  up_to_recs n (r ∷ rs) = by_case (nat_le r.position n) (up_to_recs n rs) where
    by_case : (b : Bool) → any_up_to {N = layout found} n (recs_of found rs) ≡ recs_of found (up_to n rs) → cond b (rec_of found r ∷ any_up_to {N = layout found} n (recs_of found rs)) (any_up_to {N = layout found} n (recs_of found rs)) ≡ recs_of found (cond b (r ∷ up_to n rs) (up_to n rs))
    by_case true e = ap (λ xs. rec_of found r ∷ xs) e
    by_case false e = e

  latest_is : (v : Content) (rs : List AuditRecord) → latest {N = layout found} v (recs_of found rs) ≡ after_last_of rs v
  latest_is v [] = refl
  latest_is v (r ∷ rs) = latest_is r.after rs

  -- a block's content is that of the records that were made
  content_is : (s : DiscPart) (n file : ℕ) (key : List ℕ) → content {N = layout found} (any_disc found s) n (file, key) ≡ values_at (base_of s.base) s.events n file key
  content_is s n file key =
      ap (λ rs. latest {N = layout found} (base_of s.base file key) (on (file, key) (any_up_to {N = layout found} n rs))) (made_recs found s.events)
      ∙ (ap (λ rs. latest {N = layout found} (base_of s.base file key) (on (file, key) rs)) (up_to_recs n (made s.events))
      ∙ (ap (λ rs. latest {N = layout found} (base_of s.base file key) rs) (on_is found file key (up_to n (made s.events)))
      ∙ latest_is (base_of s.base file key) (records_on file key (up_to n (made s.events)))))

  has_content : (s : DiscPart) (ent : List FileEntry) (file block n : ℕ) (records : RecordMap) → s.config ≡ found.config → s.base ≡ Some ent → HasContent s ent file block n records
      → (k : FileKey) → (◌≡◌ {A = FileBlock} (k.0, home_block found.config k.0 k.1) (file, block)) → records k.0 k.1 ≡ content {N = layout found} (any_disc found s) n k
  has_content s ent file block n records same told h k e =
      let f : k.0 ≡ file = ap (λ (b : FileBlock). b.0) e in
      let home : home_block s.config file k.1 ≡ block = ap (λ c. home_block c file k.1) same ∙ (ap (λ (g : ℕ). home_block found.config g k.1) (sym f) ∙ ap (λ (b : FileBlock). b.1) e) in
      ap (λ (g : ℕ). records g k.1) f ∙ (h k.1 home
      ∙ (ap (λ (b : Option (List FileEntry)). values_at (base_of b) s.events n file k.1) (sym told)
      ∙ (sym (content_is s n file k.1) ∙ ap (λ (g : ℕ). content {N = layout found} (any_disc found s) n (g, k.1)) (sym f))))

  pub volume_shown : (s : DiscPart) (b : Base) → s.config ≡ found.config → ShowsVolume s b → AnyVolumeShown {N = layout found} (any_disc found s) (record { values = λ k. b.records k.0 k.1; position = b.position })
  volume_shown s b same v = record {
    low = v.low;
    blocks = λ x. by_case x (volume_of found.config x.0 == s.number) refl;
  } where
    by_case : (x : FileBlock) (c : Bool) → (volume_of found.config x.0 == s.number) ≡ c
        → (n : ℕ) × ((n ≡ drawn (position_before s) s.events x.0 x.1) ⊎ (drawing s.events x.0 x.1 ≡ Some n)) × ((k : FileKey) → volume_of found.config k.0 ≡ s.number → (◌≡◌ {A = FileBlock} (k.0, home_block found.config k.0 k.1) x) → b.records k.0 k.1 ≡ content {N = layout found} (any_disc found s) n k)
    by_case x true e =
        let p = v.blocks x.0 x.1 (ap (λ c. volume_of c x.0) same ∙ eqb-true (volume_of found.config x.0) s.number e) in
        (p.0, p.1, λ k on here. has_content s v.entries x.0 x.1 p.0 b.records same v.told p.2 k here)
    by_case x false e = (
      drawn (position_before s) s.events x.0 x.1,
      inl refl,
      λ k on here. absurd (let at : volume_of found.config x.0 ≡ s.number = ap (λ (c : FileBlock). volume_of found.config c.0) (sym here) ∙ on in let both : false ≡ true = sym e ∙ eq-eqb (volume_of found.config x.0) s.number at in cc (both)),
    )

  -- a dump of this run
  pub own_dump : (s : DiscPart) (u : DumpPart) (values_ : RecordMap) (label : DumpStart) (b : Base) → s.config ≡ found.config → s.number ≡ u.number → AreSolid found u.number u.events → ShowsOwn u label → HasCopies u s label b
      → AnyDumpShown {N = layout found} (any_disc found s) (any_dump found values_ u) (Some (record { values = λ k. b.records k.0 k.1; position = b.position }))
  own_dump s u values_ label b same one solid own_ copies =
      ⊎_elim
      (λ (e : landed_here u.events ≡ Some label).
      (let l = marked (taken_here found u.events) label (taken_mark found u.events ∙ e) in
      by_label l.0 (inl (landed_taken found (old_dump found u.rest values_) u.events ∙ ap (or_old found (old_dump found u.rest values_)) l.1)) (solid.1 l.0 l.1) l.2))
      (λ (e : offered_label u.events ≡ Some label).
      (let l = marked (offered_dump found u.events) label (offered_mark found u.events ∙ e) in
      by_label l.0 (inr l.1) (solid.0 l.0 l.1) l.2))
      own_
    where
      marked : (o : Option (Label (layout found))) (label : DumpStart) → mark_of found o ≡ Some label → (l : Label (layout found)) × (o ≡ Some l) × (mark_of found (Some l) ≡ Some label)
      marked None label e = absurd (cc (e))
      marked (Some l) label e = (l, refl, e)

      by_label : (l : Label (layout found)) → ((landed_dump found (old_dump found u.rest values_) u.events ≡ Some l) ⊎ (offered_dump found u.events ≡ Some l)) → IsSolid found u.number u.events l → mark_of found (Some l) ≡ Some label
          → AnyDumpShown {N = layout found} (any_disc found s) (any_dump found values_ u) (Some (record { values = λ k. b.records k.0 k.1; position = b.position }))
      by_label (OldLabel from values__) shown solid m = absurd solid
      by_label (Taken i from cs) shown solid m =
          let is : record { number = i; start = from } ≡ label = cc (m) in
          let number : i ≡ label.number = ap (λ (d : DumpStart). d.number) is in (
            Taken i from cs,
            shown,
            copies.start ∙ sym (ap (λ (d : DumpStart). d.start) is),
            λ k on. (let w = solid.1 k (on ∙ one) in
                let at : copied u.events label.number k.0 (home_block found.config k.0 k.1) ≡ Some w.0 = ap (λ (n : ℕ). copied u.events n k.0 (home_block found.config k.0 k.1)) (sym number) ∙ solid.0 (k.0, home_block found.config k.0 k.1) w.0 w.1 in
                has_content s copies.entries k.0 (home_block found.config k.0 k.1) w.0 b.records same copies.told (copies.blocks k.0 (home_block found.config k.0 k.1) w.0 at) k refl
                ∙ ap (λ (x : Option ℕ). elim x [ None ↦ None | Some n ↦ content {N = layout found} (any_disc found s) n k ]) (sym w.1)),
          )

  -- what a trail's image spells
  rows_append : (xs ys : List Standing) → rows_of found (xs ++ ys) ≡ rows_of found xs ++ rows_of found ys
  rows_append [] ys = refl
  rows_append (x ∷ xs) ys = ap (λ rs. (x.file, rec_of found x.item) ∷ rs) (rows_append xs ys)

  from_rows : (d n : ℕ) (xs : List Standing) → own d (from_file n (rows_of found xs)) ≡ recs_of found (records_of d (records_from n xs))
  from_rows d n [] = refl
  from_rows d n (x ∷ xs) = by_case (nat_le n x.file) (x.item.disc == d) refl (from_rows d n xs) where
    by_case : (a b : Bool) → (x.item.disc == d) ≡ b → own d (from_file n (rows_of found xs)) ≡ recs_of found (records_of d (records_from n xs))
        → own d (cond a ((x.file, rec_of found x.item) ∷ from_file n (rows_of found xs)) (from_file n (rows_of found xs))) ≡ recs_of found (records_of d (map (λ y. y.item) (cond a (x ∷ filter (λ y. nat_le n y.file) xs) (filter (λ y. nat_le n y.file) xs))))
    by_case true true e h = rw e (ap (λ rs. rec_of found x.item ∷ rs) h)
    by_case true false e h = rw e h
    by_case false b e h = h

  gone_below : (events : List TrailEvent) (below last : ℕ) → Among events (Purge below last) → below ≤ purged_below found events
  gone_below [] below last h = absurd h
  gone_below (Purge b l ∷ events) below last h =
      ⊎_elim
      (λ (e : Purge b l ≡ Purge below last). (let same : b ≡ below = cc (e) in omega (arith, same)))
      (λ (k : Among events (Purge below last)). (let le = gone_below events below last k in omega (arith, le)))
      h
  gone_below (Offer file records ∷ events) below last h = ⊎_elim (λ (e : Offer file records ≡ Purge below last). absurd (cc (e))) (λ (k : Among events (Purge below last)). gone_below events below last k) h
  gone_below (Land ∷ events) below last h = ⊎_elim (λ (e : Land ≡ Purge below last). absurd (cc (e))) (λ (k : Among events (Purge below last)). gone_below events below last k) h
  gone_below (TrailFailed by ∷ events) below last h = ⊎_elim (λ (e : TrailFailed by ≡ Purge below last). absurd (cc (e))) (λ (k : Among events (Purge below last)). gone_below events below last k) h

  may_be_gone : (events : List TrailEvent) (n : ℕ) → MayBeGone events n → n ≤ purged_below found events
  may_be_gone events n h =
      ⊎_elim
      (λ (e : n ≡ 0). omega (arith, e))
      (λ (x : (below last : ℕ) × Among events (Purge below last) × (n ≤ below)). (let le = gone_below events x.0 x.1 x.2 in let low = x.3 in omega (arith, le, low)))
      h

  pub trail_shown : (lost : ℕ → ℕ) (s : TrailPart) (spelled : List AuditRecord) → ShowsTrail s spelled → (rows : List (ℕ × AnyRecord (layout found))) × ShowsRows {N = layout found} (any_trail found lost s) rows × ((d : ℕ) → own d rows ≡ recs_of found (records_of d spelled))
  trail_shown lost s spelled h = (
    from_file h.least (rows_of found h.all),
    (
      h.least,
      may_be_gone s.events h.least h.gone,
      ⊎_elim
          (λ (e : h.all ≡ h.old ++ landed_standing s.events). inl (ap (λ xs. from_file h.least xs) (ap (rows_of found) e ∙ (rows_append h.old (landed_standing s.events) ∙ (λ i. old_is i ++ sym (landed_are found s.events) i)))))
          (λ (e : h.all ≡ (h.old ++ landed_standing s.events) ++ offered_standing s.events).
          inr (ap (λ xs. from_file h.least xs) (ap (rows_of found) (e ∙ append_assoc h.old (landed_standing s.events) (offered_standing s.events)) ∙ (rows_append h.old (landed_standing s.events ++ offered_standing s.events)
          ∙ ((λ i. old_is i ++ rows_append (landed_standing s.events) (offered_standing s.events) i) ∙ (λ i. old_rows found s.old ++ (sym (landed_are found s.events) i ++ sym (offered_are found s.events) i)))))))
          h.is_all,
    ),
    λ d. from_rows d h.least h.all ∙ ap (λ rs. recs_of found (records_of d rs)) (sym h.audit_is),
  )
    where
      old_is : rows_of found h.old ≡ old_rows found s.old
      old_is = ap (old_rows found) (sym h.told)

  -- what the monitor's image spells
  pub mons_append : (xs ys : List MonitorRecord) → mons_of found (xs ++ ys) ≡ mons_of found xs ++ mons_of found ys
  mons_append [] ys = refl
  mons_append (StartRecord e ∷ xs) ys = mons_append xs ys
  mons_append (Commit t ∷ xs) ys = ap (λ ms. record { tx = t; commit = true } ∷ ms) (mons_append xs ys)
  mons_append (Abort t ∷ xs) ys = ap (λ ms. record { tx = t; commit = false } ∷ ms) (mons_append xs ys)

  entries_append : (xs ys : List MonitorRecord) → entries_of found (xs ++ ys) ≡ entries_of found xs ++ entries_of found ys
  entries_append [] ys = refl
  entries_append (StartRecord e ∷ xs) ys = ap (λ ms. start e ∷ ms) (entries_append xs ys)
  entries_append (Commit t ∷ xs) ys = ap (λ ms. close (record { tx = t; commit = true }) ∷ ms) (entries_append xs ys)
  entries_append (Abort t ∷ xs) ys = ap (λ ms. close (record { tx = t; commit = false }) ∷ ms) (entries_append xs ys)

  entries_mons : (epoch : ℕ) (xs : List MonitorRecord) → AreRequests epoch xs → entries_of found xs ≡ entries {N = layout found} (mons_of found xs)
  entries_mons epoch [] h = refl
  entries_mons epoch (StartRecord e ∷ xs) h = absurd (h (StartRecord e) (inl refl))
  entries_mons epoch (Commit t ∷ xs) h = ap (λ ms. close (record { tx = t; commit = true }) ∷ ms) (entries_mons epoch xs (λ x is. h x (inr is)))
  entries_mons epoch (Abort t ∷ xs) h = ap (λ ms. close (record { tx = t; commit = false }) ∷ ms) (entries_mons epoch xs (λ x is. h x (inr is)))

  pub monitor_shown : (before : List MonitorRecord) (s : MonitorPart) (list : List MonitorRecord) → AreRequests s.epoch (recorded s.events) × AreRequests s.epoch (offered_car s.events) → ShowsMonitor s list
      → ShowsCloses {N = layout found} (any_monitor found before s) (mons_of found list) × (entries_of found (before ++ list) ≡ entries_of found before ++ entries {N = layout found} (mons_of found list))
  monitor_shown before s list requests shown = (
    ⊎_elim
        (λ (e : list ≡ recorded s.events). inl (ap (mons_of found) e ∙ sym (landed_mons_of found s.events)))
        (λ (e : list ≡ recorded s.events ++ offered_car s.events). inr (ap (mons_of found) e ∙ (mons_append (recorded s.events) (offered_car s.events) ∙ (λ i. sym (landed_mons_of found s.events) i ++ sym (offered_mons_of found s.events) i))))
        shown,
    entries_append before list ∙ ap (λ ms. entries_of found before ++ ms) (entries_mons s.epoch list all),
  )
    where
      all : AreRequests s.epoch list
      all x is =
          ⊎_elim
          (λ (e : list ≡ recorded s.events). requests.0 x (subst (λ (xs : List MonitorRecord). Among xs x) e is))
          (λ (e : list ≡ recorded s.events ++ offered_car s.events). ⊎_elim (λ (l : Among (recorded s.events) x). requests.0 x l) (λ (r : Among (offered_car s.events) x). requests.1 x r) (among_append (recorded s.events) (offered_car s.events) x (subst (λ (xs : List MonitorRecord). Among xs x) e is)))
          shown
