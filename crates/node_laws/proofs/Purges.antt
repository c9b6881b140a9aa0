-- The purge law of a node: no purge takes a record that a low position, a label or a dump under way may still ask for.
use Rattle.std.specs.Prelude.{◌≡◌, ◌⊎◌, ℕ, ◌+◌, ◌<◌, ◌≤◌, false, List, [], ◌∷◌, ◌++◌, max, Option, Some, None, slice_get}
use Rattle.std.proofs.Common.{refl, ap, sym, ◌∙◌, subst, arith, ⊎_elim, inl, inr}
use Rattle.chronicle.specs.Histories.{IsHistory, states_after}
use Rattle.disk_model.specs.Held.{Held}
use Rattle.tmf_model.specs.RecordMap.{RecordMap}
use Rattle.trail_files.specs.StandsFor.{Base}
use Rattle.trail_files.specs.declared.monitor_record.MonitorRecord.{MonitorRecord}
use Rattle.trail_files.specs.declared.rules.Rules.{Rules}
use Rattle.any_node.specs.Value.{AuditRecord as AnyRecord}
use Rattle.any_node.specs.Node.{Label, State, Event, Dump as AnyDump, node as any_node, start_of as any_start}
use Rattle.any_node.specs.Node.State.{disc, dump}
use Rattle.any_node.specs.Shows.{ShowsLabel as AnyLabelShown, ShowsLow}
use Rattle.any_node.proofs.Laws.{purge_law as any_purge_law}
use Rattle.any_node.proofs.Stand.{parts as any_parts}
use Rattle.node_machine.specs.Law.{IsOpening, PurgeLaw}
use Rattle.node_machine.specs.Made.{lowered, lowering, rest_start, under_way}
use Rattle.node_machine.specs.Disc.{IsUpTo, start_of, IsFloor}
use Rattle.node_machine.specs.Dump.{landed_label, offered_label}
use Rattle.node_machine.specs.Trail.{landed_standing, offered_standing, IsBelow}
use Rattle.node_machine.specs.Shows.{ShowsLabel}
use Rattle.node_machine.specs.Node.{node}
use Rattle.node_machine.specs.Opening.{Found, opening_parts, disc_part, dump_part, trail_part}
use Rattle.node_machine.specs.Parts.{Standing, DumpStart, DiscPart, TrailPart, DumpPart, PartState}
use Rattle.node_machine.specs.Parts.PartState.{Disc, Trail, Dump}
use Rattle.node_machine.specs.Same.{Among}
use Rattle.node_machine.specs.SameLaws.{among_left, among_right}
use Rattle.node_machine.specs.declared.event.Event.{Event as NodeEvent}
use Rattle.node_machine.specs.declared.event.TrailEvent.{TrailEvent}
use Rattle.node_machine.specs.declared.event.TrailEvent.TheVariants.{Offer, Land, Purge, Failed as TrailFailed}
use Rattle.node_machine.proofs.Placed.{parts_placed}
use Rattle.node_laws.specs.Layouts.{layout}
use Rattle.node_laws.specs.Views.{rec_of, rows_of, old_rows, landed_rows, offered_rows, purged_below, way_of, any_disc, any_trail, any_dump, landed_dump, old_dump, offered_dump}
use Rattle.node_laws.proofs.Asked.{all_rows}
use Rattle.node_laws.proofs.Begun.{first_image}
use Rattle.node_laws.proofs.Opens.{audit, values, idle, V, have_blocks, old_closes, opening_fit, opens}
use Rattle.node_laws.proofs.Others.{mark_of, mark_start, landed_mark, offered_mark}
use Rattle.node_laws.proofs.Seen.{view, views, view_at, AreFit}
use Rattle.node_laws.proofs.Standing.{inside}
use Rattle.node_laws.proofs.Transfer.{any_log, transfer}

-- a file below that of a purge is below that of the furthest one
purged_far : (found : Found) (events : List TrailEvent) (below last n : ℕ) → Among events (Purge below last) → n < below → n < purged_below found events
purged_far found [] below last n has lt = absurd has
purged_far found (Purge b l ∷ events) below last n has lt =
    ⊎_elim
    (λ (e : Purge b l ≡ Purge below last). (let same : b ≡ below = cc (e) in let m : b ≤ max (purged_below found events) b = omega arith in omega (arith, same, m, lt)))
    (λ (k : Among events (Purge below last)). (let far = purged_far found events below last n k lt in let m : purged_below found events ≤ max (purged_below found events) b = omega arith in omega (arith, far, m)))
    has
purged_far found (Offer file records ∷ events) below last n has lt =
    ⊎_elim (λ (e : Offer file records ≡ Purge below last). absurd (cc (e))) (λ (k : Among events (Purge below last)). purged_far found events below last n k lt) has
purged_far found (Land ∷ events) below last n has lt =
    ⊎_elim (λ (e : Land ≡ Purge below last). absurd (cc (e))) (λ (k : Among events (Purge below last)). purged_far found events below last n k lt) has
purged_far found (TrailFailed by ∷ events) below last n has lt =
    ⊎_elim (λ (e : TrailFailed by ≡ Purge below last). absurd (cc (e))) (λ (k : Among events (Purge below last)). purged_far found events below last n k lt) has

-- what stands in the files is among their rows
row_there : (found : Found) (xs : List Standing) (x : Standing) → Among xs x → Among (rows_of found xs) (x.file, rec_of found x.item)
row_there found [] x h = absurd h
row_there found (y ∷ xs) x h = ⊎_elim (λ (e : y ≡ x). inl (ap (λ (z : Standing). (z.file, rec_of found z.item)) e)) (λ (k : Among xs x). inr (row_there found xs x k)) h

-- below each bound that there is
up_to_each : (o : Option ℕ) (n : ℕ) → ((bound : ℕ) → o ≡ Some bound → n < bound) → IsUpTo o (n + 1)
up_to_each None n each = tt
up_to_each (Some bound) n each = (let lt = each bound refl in omega (arith, lt))

up_to_way : (o : Option DumpStart) (n : ℕ) → ((number bound : ℕ) → way_of o ≡ Some (number, bound) → n < bound) → IsUpTo (start_of o) (n + 1)
up_to_way None n each = tt
up_to_way (Some d) n each = (let lt = each d.number d.start refl in omega (arith, lt))

module _ (rules : ℕ → Rules) (images : ℕ → Held) (bases dumps : ℕ → Option Base) (before : List MonitorRecord) (map_ : RecordMap) (found : Found) (o : IsOpening rules images bases dumps before map_ found) (log : List (ℕ × NodeEvent)) (h : IsHistory node (opening_parts found) log) where
  abbrev W : ℕ → RecordMap × ℕ
  W = values rules images bases dumps before map_ found o

  abbrev I : ℕ → State (layout found)
  I = idle rules images bases dumps before map_ found o

  abbrev A : List PartState
  A = states_after node (opening_parts found) log

  abbrev LOG : List (ℕ × Event (layout found))
  LOG = any_log found before W I (old_closes rules images bases dumps before map_ found o) (have_blocks rules images bases dumps before map_ found o) log

  seen_so : IsHistory (any_node (layout found)) (V rules images bases dumps before map_ found o) LOG
      × (states_after (any_node (layout found)) (V rules images bases dumps before map_ found o) LOG ≡ views found before W I 0 A)
      × AreFit found before W I A
  seen_so = transfer found before W I (old_closes rules images bases dumps before map_ found o) (have_blocks rules images bases dumps before map_ found o) (opening_parts found) log (opening_fit rules images bases dumps before map_ found o) h

  -- a label that is shown has the start of one of any layout that is
  label_there : (u : DumpPart) (kept : RecordMap) (label : DumpStart) → ShowsLabel u label → (l : Label (layout found)) × AnyLabelShown (any_dump found kept u) l × (any_start l ≡ label.start)
  label_there u kept label shows =
      ⊎_elim
      (λ (e : landed_label u.rest u.events ≡ Some label). (let l = found_mark (landed_dump found (old_dump found u.rest kept) u.events) (landed_mark found u.rest kept u.events ∙ e) in (l.0, inl l.1, l.2)))
      (λ (e : offered_label u.events ≡ Some label). (let l = found_mark (offered_dump found u.events) (offered_mark found u.events ∙ e) in (l.0, inr l.1, l.2)))
      shows
    where
      found_mark : (a : Option (Label (layout found))) → mark_of found a ≡ Some label → (l : Label (layout found)) × (a ≡ Some l) × (any_start l ≡ label.start)
      found_mark None e = absurd (cc (e))
      found_mark (Some l) e = (l, refl, mark_start found l label e)

  abbrev NOW : List (State (layout found))
  NOW = states_after (any_node (layout found)) (V rules images bases dumps before map_ found o) LOG

  there : (q : ℕ) (v : PartState) → slice_get A q ≡ Some v → slice_get NOW q ≡ Some (view found before W I q v)
  there q v at = ap (λ us. slice_get us q) seen_so.1 ∙ view_at found before W I A q v at

  -- the record is below all that its disc and a dump device of it ask for
  abbrev IsBelowAll : DiscPart → AnyDump (layout found) → ℕ → Type 0
  IsBelowAll s u position =
      (false ≡ false → (l : ℕ) → ShowsLow (any_disc found s) l → position < l)
      × ((l : Label (layout found)) → AnyLabelShown u l → position < any_start l)
      × ((n : ℕ) → rest_start s.rest s.events ≡ Some n → position < n)
      × ((n l : ℕ) → way_of (under_way s.events) ≡ Some (n, l) → position < l)

  module _ (number below last : ℕ) (t : TrailPart) (old : List Standing) (x : Standing) (s : DiscPart) (at_t : slice_get A (trail_part number) ≡ Some (Trail t)) (told : t.old ≡ Some old) (purge : Among t.events (Purge below last)) (is : IsBelow old t.events below x) (at_s : slice_get A (disc_part x.item.disc) ≡ Some (Disc s)) where
    at_disc : slice_get NOW (disc_part x.item.disc) ≡ Some (disc (any_disc found s))
    at_disc = there (disc_part x.item.disc) (Disc s) at_s

    s_here : x.item.disc ≡ s.number
    s_here = (let s_is : disc_part x.item.disc ≡ disc_part s.number = parts_placed found log h (disc_part x.item.disc) (Disc s) at_s in omega (arith, s_is))

    has : Among (old_rows found t.old ++ (landed_rows found t.events ++ offered_rows found t.events)) (x.file, rec_of found x.item)
    has = subst (λ (rs : List (ℕ × AnyRecord (layout found))). Among rs (x.file, rec_of found x.item)) (sym (all_rows found before W I A seen_so.2 t old told))
        (row_there found (old ++ (landed_standing t.events ++ offered_standing t.events)) x
        (⊎_elim
        (λ (k : Among old x). among_left old (landed_standing t.events ++ offered_standing t.events) x k)
        (λ (k : Among (landed_standing t.events) x ⊎ Among (offered_standing t.events) x). among_right old (landed_standing t.events ++ offered_standing t.events) x (⊎_elim
        (λ (l : Among (landed_standing t.events) x). among_left (landed_standing t.events) (offered_standing t.events) x l)
        (λ (l : Among (offered_standing t.events) x). among_right (landed_standing t.events) (offered_standing t.events) x l) k))
        is.0))

    below_all : (r : ℕ) (u : AnyDump (layout found)) → slice_get NOW r ≡ Some (dump u) → s.number ≡ u.number → IsBelowAll s u x.item.position
    below_all r u at same = any_purge_law (layout found) (V rules images bases dumps before map_ found o) (first_image found before (audit rules images bases dumps before map_ found o) bases dumps map_) (inside found map_) LOG (opens rules images bases dumps before map_ found o) seen_so.0
        (disc_part x.item.disc) (trail_part number) r (any_disc found s) (any_trail found (λ n. (W n).1) t) u
        at_disc (there (trail_part number) (Trail t) at_t) at same
        (x.file, rec_of found x.item) has s_here (purged_far found t.events below last x.file purge is.1)

    -- the disc has a dump device, which the node may tell or not
    floor : IsFloor s (x.item.position + 1)
    floor =
        let ps = any_parts (layout found) (V rules images bases dumps before map_ found o) (first_image found before (audit rules images bases dumps before map_ found o) bases dumps map_) (inside found map_) LOG (opens rules images bases dumps before map_ found o) seen_so.0 in
        let u = ps.dumps s.number (ps.listed (disc_part x.item.disc) (any_disc found s) at_disc) in
        let safe = below_all u.0 u.1 u.2 u.3 in
        let below_low : x.item.position < lowered s.low s.events = safe.0 refl (lowered s.low s.events) (inl refl) in
        record {
          low = omega (arith, below_low);
          lowering_ = up_to_each (lowering s.events) x.item.position (λ n e. safe.0 refl n (inr e));
          rest = up_to_each (rest_start s.rest s.events) x.item.position (λ n e. safe.2 n e);
          way = up_to_way (under_way s.events) x.item.position (λ n bound e. safe.3 n bound e);
        }

    labels : (u : DumpPart) (label : DumpStart) → slice_get A (dump_part x.item.disc) ≡ Some (Dump u) → ShowsLabel u label → x.item.position < label.start
    labels u label at_u shows =
        let u_is : dump_part x.item.disc ≡ dump_part u.number = parts_placed found log h (dump_part x.item.disc) (Dump u) at_u in
        let u_here : x.item.disc ≡ u.number = omega (arith, u_is) in
        let l = label_there u (W u.number).0 label shows in
        let below_label : x.item.position < any_start l.0 = (below_all (dump_part x.item.disc) (any_dump found (W u.number).0 u) (there (dump_part x.item.disc) (Dump u) at_u) (sym s_here ∙ u_here)).1 l.0 l.1 in
        let starts_so = l.2 in
        omega (arith, below_label, starts_so)

    pub purged_safely : IsFloor s (x.item.position + 1) × ((u : DumpPart) (label : DumpStart) → slice_get A (dump_part x.item.disc) ≡ Some (Dump u) → ShowsLabel u label → x.item.position < label.start)
    purged_safely = (floor, labels)

-- the purge law
pub node_purge_law : PurgeLaw
node_purge_law rules found images bases dumps before map_ log o h = purged_safely rules images bases dumps before map_ found o log h
