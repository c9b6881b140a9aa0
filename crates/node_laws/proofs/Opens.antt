-- The opening of a run is one of any layout.
use Rattle.std.specs.Prelude.{◌≡◌, ◌⊎◌, ℕ, zero, suc, ◌+◌, ◌-◌, ◌<◌, ◌≤◌, ◌==◌, nat_le, Bool, true, false, cond, List, [], ◌∷◌, ◌++◌, length, map, Option, Some, None, slice_get, unwrap_or, if◌then◌else◌}
use Rattle.std.specs.Option.{option_map_or}
use Rattle.std.proofs.Common.{refl, ap, sym, ◌∙◌, subst, arith, eqb-true, inl, inr}
use Rattle.std.proofs.lemmas.Bool.{and_parts, false_from_ne_true, le-leb, leb-true, leb-false}
use Rattle.disk_model.specs.Held.{Held}
use Rattle.tmf_model.specs.Commits.{numbered}
use Rattle.tmf_model.specs.Config.{IsWithin}
use Rattle.tmf_model.specs.RecordMap.{RecordMap}
use Rattle.tmf_model.specs.declared.config.FileLine.{FileLine}
use Rattle.tmf_model.specs.declared.config.Volume.{Volume}
use Rattle.trail_files.specs.AuditOrder.{is_audit_order}
use Rattle.trail_files.specs.MonitorOrder.{is_monitor_order, are_placed}
use Rattle.trail_files.specs.Recovered.{kept_records}
use Rattle.trail_files.specs.StandsFor.{Base, IsNumber, position_of}
use Rattle.trail_files.specs.StandsFor.{next_position as own_next}
use Rattle.trail_files.specs.declared.audit_record.AuditRecord.{AuditRecord}
use Rattle.trail_files.specs.declared.monitor_record.MonitorRecord.{MonitorRecord}
use Rattle.trail_files.specs.declared.monitor_record.MonitorRecord.TheVariants.{Start as StartRecord, Commit, Abort}
use Rattle.trail_files.specs.declared.rules.Rules.{Rules}
use Rattle.any_node.specs.Value.{AuditRecord as AnyRecord, Ending, Each, own, on, kept, value, closes, last_start}
use Rattle.any_node.specs.Stands.{Base as AnyBase, next_position as any_next, GivesValues as AnyGives}
use Rattle.any_node.specs.Node.{Label, State, start_of}
use Rattle.any_node.specs.Node.State.{worker, disc, trail, monitor, dump}
use Rattle.any_node.specs.Node.Label.{Found as OldLabel}
use Rattle.any_node.specs.Opening.{AreFrom, DiscAt, TrailAt, DumpAt}
use Rattle.any_node.specs.Opening.{IsOpening as AnyOpening, AreInOrder as AnyOrder}
use Rattle.node_machine.specs.Law.{AreInOrder, IsFoundTrail, IsFoundVolume, IsOpening}
use Rattle.node_machine.specs.Made.{volume_of, blocks_of, map_of}
use Rattle.node_machine.specs.Trail.{trail_of, records_of}
use Rattle.node_machine.specs.Opening.{Found, TrailFound, VolumeFound, found_volume, firsts_on, opening_parts, worker_at, disc_at, trail_at, dump_at, disc_with, dump_with, trail_with}
use Rattle.node_machine.specs.Parts.{Standing, PartState}
use Rattle.node_machine.specs.Parts.{Entry as FileEntry}
use Rattle.node_machine.specs.Same.{Among}
use Rattle.node_machine.proofs.Opened.{opening_disc, opening_trail, opening_dump}
use Rattle.node_laws.specs.Layouts.{layout, FileKey}
use Rattle.node_laws.specs.Views.{any_worker, first_or, rec_of, recs_of, entries_of, rows_of, old_rows, old_dump, base_of}
use Rattle.node_laws.proofs.Begun.{records_in, first_image, next_at, label_at, start_at, lost_disc, lost_dump, no_part, disc_or_none, dump_or_none, idle_at, IsGood, AreGood, good_at, apart, lost_fresh, lost_dump_fresh, label_fresh}
use Rattle.node_laws.proofs.Discs.{among_recs}
use Rattle.node_laws.proofs.Fine.{IsFine}
use Rattle.node_laws.proofs.Orders.{in_a_row, none_kept, ended_epochs}
use Rattle.node_laws.proofs.Others.{AreOld, HaveBlocks}
use Rattle.node_laws.proofs.Places.{first_is}
use Rattle.node_laws.proofs.Seen.{view, views, view_at, IsFit, AreFit}
use Rattle.node_laws.proofs.Standing.{audit_on, inside, audit_is, trail_is, declared_disc, of_records, line_at, get_some, mem_each, numbered_is, each_from_all, stands_any}
use Rattle.node_laws.proofs.Sums.{all_among, any_base, next_is}

module _ (rules : ℕ → Rules) (images : ℕ → Held) (bases dumps : ℕ → Option Base) (before : List MonitorRecord) (map_ : RecordMap) (found : Found) (o : IsOpening rules images bases dumps before map_ found) where
  abbrev pub audit : ℕ → List AuditRecord
  audit = o.stands.audit

  abbrev pub values : ℕ → RecordMap × ℕ
  values d = (records_in (dumps d), next_at found before audit bases dumps map_ d)

  abbrev pub idle : ℕ → State (layout found)
  idle = idle_at found before audit bases dumps map_

  abbrev pub V : List (State (layout found))
  V = views found before values idle 0 (opening_parts found)

  -- WHAT IS DECLARED

  pub declared_at : (d : ℕ) → 1 ≤ d → d ≤ length found.config.volumes → (volume : Volume) × IsNumber found.config.volumes d volume
  declared_at d one most = (let v = get_some found.config.volumes (d - 1) (omega (arith, one, most)) in (v.0, (one, v.1)))

  pub listed : (d : ℕ) → 1 ≤ d → d ≤ length found.config.volumes → Among (layout found).discs d
  listed d one most = mem_each found o.valid 1 (length found.config.volumes) d one (omega (arith, most))

  pub is_declared : (d : ℕ) (v : VolumeFound) → found_volume found d ≡ Some v → d ≤ length found.config.volumes
  is_declared d v e = by_case (nat_le d (length found.config.volumes)) refl where
    by_case : (b : Bool) → nat_le d (length found.config.volumes) ≡ b → d ≤ length found.config.volumes
    by_case true f = leb-true d (length found.config.volumes) f
    by_case false f = (let lt = leb-false d (length found.config.volumes) f in let both : None ≡ Some v = sym (o.no_more d lt) ∙ e in absurd (cc (both)))

  pub next_here : (d : ℕ) (volume : Volume) → IsNumber found.config.volumes d volume → next_at found before audit bases dumps map_ d ≡ own_next (kept_records d 0 (audit volume.trail)) (position_of (bases d)) (position_of (dumps d))
  next_here d volume is =
      (λ i. any_next {N = layout found} (audit_is found o.valid audit d volume is i) (any_base found (bases d)) (any_base found (dumps d)))
      ∙ sym (next_is found d (audit volume.trail) (bases d) (dumps d))

  below : {A : Type 0} (xs : List A) (i : ℕ) (x : A) → slice_get xs i ≡ Some x → i < length xs
  below [] i x e = absurd (cc (e))
  below (y ∷ xs) zero x e = omega arith
  below (y ∷ xs) (suc i) x e = (let lt = below xs i x e in omega (arith, lt))

  pub within : (d : ℕ) (volume : Volume) → IsNumber found.config.volumes d volume → d ≤ length found.config.volumes
  within d volume is = (let lt = below found.config.volumes (d - 1) volume is.1 in let one = is.0 in omega (arith, lt, one))

  -- of a volume that was found lost there is no base
  lost_base : (d : ℕ) (volume : Volume) → IsNumber found.config.volumes d volume → found_volume found d ≡ None → (any_base found (bases d)) ≡ None
  lost_base d volume is e =
      let v = subst (λ (x : Option VolumeFound). IsFoundVolume found.config d (audit volume.trail) x (bases d) (dumps d)) e (o.volumes d volume is) in
      ap (any_base found) v

  -- of one that was found there is
  pub record IsUp (d : ℕ) (x : VolumeFound) : Type 0 where
    pub b : Base
    pub base : bases d ≡ Some b
    pub entries : List FileEntry
    pub told : x.base ≡ Some entries
    pub same : (file : ℕ) (key : List ℕ) → volume_of found.config file ≡ d → map_of entries file key ≡ b.records file key
    pub low : x.low ≡ b.position
    pub next : x.next ≡ next_at found before audit bases dumps map_ d
    pub level : x.low ≡ x.next
    pub positive : 1 ≤ x.next
    pub rest : x.rest ≡ position_of (dumps d)

  pub up_of : (d : ℕ) (volume : Volume) (x : VolumeFound) → IsNumber found.config.volumes d volume → found_volume found d ≡ Some x → IsUp d x
  up_of d volume x is e = by_base (bases d) refl (subst (λ (y : Option VolumeFound). IsFoundVolume found.config d (audit volume.trail) y (bases d) (dumps d)) e (o.volumes d volume is)) where
    by_base : (base : Option Base) → bases d ≡ base → IsFoundVolume found.config d (audit volume.trail) (Some x) base (dumps d) → IsUp d x
    by_base None f v = absurd v
    by_base (Some b) f v = record {
      b = b;
      base = f;
      entries = v.0.0;
      told = v.0.1;
      same = v.0.2;
      low = v.1;
      next = v.2 ∙ (ap (λ (p : Option ℕ). own_next (kept_records d 0 (audit volume.trail)) p (position_of (dumps d))) (ap position_of (sym f)) ∙ sym (next_here d volume is));
      level = v.3;
      positive = v.4;
      rest = v.5;
    }

  -- THE PARTS

  idle_disc : (d : ℕ) → 1 ≤ d → d ≤ 8 → idle (15 + d) ≡ disc_or_none found before audit bases dumps map_ d
  idle_disc zero low high = absurd (omega (arith, low))
  idle_disc (suc zero) low high = refl
  idle_disc (suc (suc zero)) low high = refl
  idle_disc (suc (suc (suc zero))) low high = refl
  idle_disc (suc (suc (suc (suc zero)))) low high = refl
  idle_disc (suc (suc (suc (suc (suc zero))))) low high = refl
  idle_disc (suc (suc (suc (suc (suc (suc zero)))))) low high = refl
  idle_disc (suc (suc (suc (suc (suc (suc (suc zero))))))) low high = refl
  idle_disc (suc (suc (suc (suc (suc (suc (suc (suc zero)))))))) low high = refl
  idle_disc (suc (suc (suc (suc (suc (suc (suc (suc (suc n))))))))) low high = absurd (omega (arith, high))

  idle_trail : (d : ℕ) → 1 ≤ d → d ≤ 4 → idle (23 + d) ≡ no_part found before audit bases dumps map_ (24 + d)
  idle_trail zero low high = absurd (omega (arith, low))
  idle_trail (suc zero) low high = refl
  idle_trail (suc (suc zero)) low high = refl
  idle_trail (suc (suc (suc zero))) low high = refl
  idle_trail (suc (suc (suc (suc zero)))) low high = refl
  idle_trail (suc (suc (suc (suc (suc n))))) low high = absurd (omega (arith, high))

  idle_dump : (d : ℕ) → 1 ≤ d → d ≤ 8 → idle (28 + d) ≡ dump_or_none found before audit bases dumps map_ d
  idle_dump zero low high = absurd (omega (arith, low))
  idle_dump (suc zero) low high = refl
  idle_dump (suc (suc zero)) low high = refl
  idle_dump (suc (suc (suc zero))) low high = refl
  idle_dump (suc (suc (suc (suc zero)))) low high = refl
  idle_dump (suc (suc (suc (suc (suc zero))))) low high = refl
  idle_dump (suc (suc (suc (suc (suc (suc zero)))))) low high = refl
  idle_dump (suc (suc (suc (suc (suc (suc (suc zero))))))) low high = refl
  idle_dump (suc (suc (suc (suc (suc (suc (suc (suc zero)))))))) low high = refl
  idle_dump (suc (suc (suc (suc (suc (suc (suc (suc (suc n))))))))) low high = absurd (omega (arith, high))

  worker_good : (n : ℕ) → IsGood found before audit bases dumps map_ (n - 1) (worker (any_worker found n []))
  worker_good n = (refl, tt)

  lost_disc_good : (d : ℕ) → 1 ≤ d → found_volume found d ≡ None → IsGood found before audit bases dumps map_ (15 + d) (disc_or_none found before audit bases dumps map_ d)
  lost_disc_good d one e = by_case (nat_le d (length found.config.volumes)) refl where
    by_case : (b : Bool) → nat_le d (length found.config.volumes) ≡ b → IsGood found before audit bases dumps map_ (15 + d) (if b then disc (lost_disc found before audit bases dumps map_ d) else no_part found before audit bases dumps map_ (16 + d))
    by_case true f =
        let most = leb-true d (length found.config.volumes) f in
        let v = declared_at d one most in
        (refl, (lost_fresh found before audit bases dumps map_ d (lost_base d v.0 v.1 e), listed d one most, refl))
    by_case false f = (omega arith, tt)

  lost_dump_good : (d : ℕ) → 1 ≤ d → IsGood found before audit bases dumps map_ (28 + d) (dump_or_none found before audit bases dumps map_ d)
  lost_dump_good d one = by_case (nat_le d (length found.config.volumes)) refl where
    by_case : (b : Bool) → nat_le d (length found.config.volumes) ≡ b → IsGood found before audit bases dumps map_ (28 + d) (if b then dump (lost_dump found before audit bases dumps map_ d) else no_part found before audit bases dumps map_ (29 + d))
    by_case true f = (refl, (lost_dump_fresh found before audit bases dumps map_ d, refl))
    by_case false f = (omega arith, tt)

  pub start_is : (b : Option Base) → position_of b ≡ start_at found before audit bases dumps map_ (any_base found b)
  start_is None = refl
  start_is (Some b) = refl

  pub label_is : (b : Option Base) → old_dump found (position_of b) (records_in b) ≡ label_at found before audit bases dumps map_ (any_base found b)
  label_is None = refl
  label_is (Some b) = refl

  -- at the opening a volume's base is the map
  base_is : (d : ℕ) (volume : Volume) (x : VolumeFound) → IsNumber found.config.volumes d volume → (up : IsUp d x) → (k : FileKey) → volume_of found.config k.0 ≡ d → up.b.records k.0 k.1 ≡ inside found map_ k
  base_is d volume x is up k here =
      let s = stands_any found o.valid rules images bases dumps before map_ o.stands in
      let v = (s.volumes d (listed d is.0 (within d volume is))).values in
      let same : (any_base found (bases d)) ≡ any_base found (Some up.b) = ap (any_base found) up.base in
      let row = in_a_row found d (audit volume.trail) in_order in
      let none : kept {N = layout found} up.b.position (audit_on found audit d) ≡ [] =
      by_rows (audit_on found audit d) row.0 (subst (λ (rs : List (AnyRecord (layout found))). AreFrom row.0 rs) (sym (audit_is found o.valid audit d volume is)) row.1) up.next in
      let g = subst (λ (b : Option (AnyBase (layout found))). AnyGives {N = layout found} d (audit_on found audit d) (entries_of found before) (inside found map_) b) same v k here in
      ap (λ rs. value {N = layout found} (up.b.records k.0 k.1) (on k rs) (closes (entries_of found before))) (sym none) ∙ g
    where
      in_order : is_audit_order (audit volume.trail) ≡ true
      in_order = (let t = trail_is found o.valid d volume is in (o.stands.audit_spelled volume.trail t.0 t.1).in_order)

      by_rows : (rs : List (AnyRecord (layout found))) (n : ℕ) → AreFrom n rs → x.next ≡ any_next {N = layout found} rs (any_base found (bases d)) (any_base found (dumps d)) → kept {N = layout found} up.b.position rs ≡ []
      by_rows [] n are e = refl
      by_rows (r ∷ rs) n are e = none_kept found n up.b.position r rs are (sym e ∙ (sym up.level ∙ up.low))

  -- a disc that was found
  up_good : (d : ℕ) (x : VolumeFound) → 1 ≤ d → found_volume found d ≡ Some x → IsGood found before audit bases dumps map_ (15 + d) (view found before values idle (15 + d) (disc_with found.config d (Some x)))
  up_good d x one e =
      let v = declared_at d one (is_declared d x e) in
      let up = up_of d v.0 x v.1 e in
      let positive = up.positive in
      let base : (any_base found (bases d)) ≡ any_base found (Some up.b) = ap (any_base found) up.base in (
        refl,
        (
          record {
            lost = λ f. absurd (cc (f));
            there = λ f. (record { values = λ k. up.b.records k.0 k.1; position = up.b.position }, base, sym up.low ∙ up.level);
            first = up.next;
            positive = up.positive;
            base = λ k here. ap (λ (b : Option (List FileEntry)). base_of b k.0 k.1) up.told ∙ (up.same k.0 k.1 here ∙ base_is d v.0 x v.1 up k here);
            made = refl;
            map = λ k. refl;
            held = λ k. refl;
            locked = λ f. refl;
            written = λ k. refl;
            left = λ t. refl;
            undone = λ t. refl;
            released = λ t. refl;
            drawn = λ b. omega (arith, positive);
            drawing = λ b. refl;
            low = up.level;
            lowering = refl;
            way = refl;
            starts = refl;
          },
          listed d one (is_declared d x e),
          up.rest ∙ start_is (dumps d),
        ),
      )

  disc_good : (d : ℕ) → 1 ≤ d → d ≤ 8 → IsGood found before audit bases dumps map_ (15 + d) (view found before values idle (15 + d) (disc_at found d))
  disc_good d one most = by_found (found_volume found d) refl where
    by_found : (x : Option VolumeFound) → found_volume found d ≡ x → IsGood found before audit bases dumps map_ (15 + d) (view found before values idle (15 + d) (disc_with found.config d x))
    by_found None e = subst (λ (s : State (layout found)). IsGood found before audit bases dumps map_ (15 + d) s) (sym (idle_disc d one most)) (lost_disc_good d one e)
    by_found (Some x) e = up_good d x one e

  dump_good : (d : ℕ) → 1 ≤ d → d ≤ 8 → IsGood found before audit bases dumps map_ (28 + d) (view found before values idle (28 + d) (dump_at found d))
  dump_good d one most = by_found (found_volume found d) refl where
    by_found : (x : Option VolumeFound) → found_volume found d ≡ x → IsGood found before audit bases dumps map_ (28 + d) (view found before values idle (28 + d) (dump_with found.config d x))
    by_found None e = subst (λ (s : State (layout found)). IsGood found before audit bases dumps map_ (28 + d) s) (sym (idle_dump d one most)) (lost_dump_good d one)
    by_found (Some x) e =
        let v = declared_at d one (is_declared d x e) in
        let up = up_of d v.0 x v.1 e in
        let label : old_dump found x.rest (records_in (dumps d)) ≡ label_at found before audit bases dumps map_ (any_base found (dumps d)) =
        ap (λ (r : Option ℕ). old_dump found r (records_in (dumps d))) up.rest ∙ label_is (dumps d) in (
          refl,
          (
            record {
              landed = subst (λ (l : Option (Label (layout found))). (((any_base found (dumps d)) ≡ None) × (l ≡ None)) ⊎ ((c : AnyBase (layout found)) × ((any_base found (dumps d)) ≡ Some c) × (l ≡ Some (OldLabel c.position c.values)))) (sym label)
                  (label_fresh found before audit bases dumps map_ (any_base found (dumps d)));
              offered = refl;
              copied = λ n b. refl;
              over = refl;
            },
            label,
          ),
        )

  -- THE TRAILS

  own_rows : (d : ℕ) (xs : List Standing) → own d (rows_of found xs) ≡ recs_of found (records_of d (map (λ x. x.item) xs))
  own_rows d [] = refl
  own_rows d (x ∷ xs) = by_case (x.item.disc == d) (own_rows d xs) where
    by_case : (b : Bool) → own d (rows_of found xs) ≡ recs_of found (records_of d (map (λ x. x.item) xs))
        → cond b (rec_of found x.item ∷ own d (rows_of found xs)) (own d (rows_of found xs)) ≡ recs_of found (cond b (x.item ∷ records_of d (map (λ x. x.item) xs)) (records_of d (map (λ x. x.item) xs)))
    by_case true e = ap (λ rs. rec_of found x.item ∷ rs) e
    by_case false e = e

  rows_order : (n last : ℕ) (xs : List Standing) → AreInOrder n xs last → AnyOrder {N = layout found} n (rows_of found xs) last
  rows_order n last [] h = h
  rows_order n last (x ∷ xs) h = (h.0, rows_order x.file last xs h.1)

  -- of a disc of which nothing was found its trail has no position
  other_at : (x n start i : ℕ) (volumes : List (Option VolumeFound)) → unwrap_or (slice_get volumes i) None ≡ None → first_or x (firsts_on found n start volumes) (start + i) ≡ x
  other_at x n start i [] e = refl
  other_at x n start zero (None ∷ volumes) e = before_all (start + 1) (omega arith) volumes where
    before_all : (from : ℕ) → start + 0 < from → (volumes : List (Option VolumeFound)) → first_or x (firsts_on found n from volumes) (start + 0) ≡ x
    before_all from lt [] = refl
    before_all from lt (None ∷ volumes) = before_all (from + 1) (omega (arith, lt)) volumes
    before_all from lt (Some w ∷ volumes) = by_case (trail_of found.config from == n) (before_all (from + 1) (omega (arith, lt)) volumes) where
      by_case : (b : Bool) → first_or x (firsts_on found n (from + 1) volumes) (start + 0) ≡ x → first_or x (if b then (from, w.next) ∷ firsts_on found n (from + 1) volumes else firsts_on found n (from + 1) volumes) (start + 0) ≡ x
      by_case true e = rw (false_from_ne_true (from == (start + 0)) (λ f. (let same = eqb-true from (start + 0) f in absurd (omega (arith, same, lt))))) e
      by_case false e = e
  other_at x n start zero (Some w ∷ volumes) e = absurd (cc (e))
  other_at x n start (suc i) (None ∷ volumes) e =
      let same : start + suc i ≡ (start + 1) + i = omega arith in
      ap (λ (m : ℕ). first_or x (firsts_on found n (start + 1) volumes) m) same ∙ other_at x n (start + 1) i volumes e
  other_at x n start (suc i) (Some w ∷ volumes) e =
      let same : start + suc i ≡ (start + 1) + i = omega arith in
      let rest : first_or x (firsts_on found n (start + 1) volumes) (start + suc i) ≡ x = ap (λ (m : ℕ). first_or x (firsts_on found n (start + 1) volumes) m) same ∙ other_at x n (start + 1) i volumes e in
      let apart : (start == (start + suc i)) ≡ false = false_from_ne_true (start == (start + suc i)) (λ f. (let z = eqb-true start (start + suc i) f in absurd (omega (arith, z)))) in
      by_case (trail_of found.config start == n) (rw apart rest) rest
    where
      by_case : (b : Bool) → first_or x ((start, w.next) ∷ firsts_on found n (start + 1) volumes) (start + suc i) ≡ x → first_or x (firsts_on found n (start + 1) volumes) (start + suc i) ≡ x
          → first_or x (if b then (start, w.next) ∷ firsts_on found n (start + 1) volumes else firsts_on found n (start + 1) volumes) (start + suc i) ≡ x
      by_case true y z = y
      by_case false y z = z

  firsts_are : (d n : ℕ) → Among (layout found).discs d → trail_of found.config d ≡ n → 1 ≤ n → first_or (next_at found before audit bases dumps map_ d) (firsts_on found n 1 found.volumes) d ≡ next_at found before audit bases dumps map_ d
  firsts_are d n has on one =
      let v = declared_disc found o.valid d has in
      by_found v (found_volume found d) refl
    where
      by_found : ((volume : Volume) × IsNumber found.config.volumes d volume) → (x : Option VolumeFound) → found_volume found d ≡ x → first_or (next_at found before audit bases dumps map_ d) (firsts_on found n 1 found.volumes) d ≡ next_at found before audit bases dumps map_ d
      by_found v (Some x) e = first_is found (next_at found before audit bases dumps map_ d) n d x e on ∙ (up_of d v.0 x v.1 e).next
      by_found v None e = none d v.1.0 e where
        none : (d : ℕ) → 1 ≤ d → found_volume found d ≡ None → first_or (next_at found before audit bases dumps map_ d) (firsts_on found n 1 found.volumes) d ≡ next_at found before audit bases dumps map_ d
        none zero one e = absurd (omega (arith, one))
        none (suc i) one e = (let same : suc i ≡ 1 + i = omega arith in
            ap (λ (m : ℕ). first_or (next_at found before audit bases dumps map_ (suc i)) (firsts_on found n 1 found.volumes) m) same ∙ other_at (next_at found before audit bases dumps map_ (suc i)) n 1 i found.volumes e)

  numbered_within : (xs : List TrailFound) (t : ℕ) (x : TrailFound) → numbered xs t ≡ Some x → t ≤ length xs
  numbered_within xs zero x e = omega arith
  numbered_within xs (suc i) x e = (let lt = below xs i x e in omega (arith, lt))

  audit_there : (d t : ℕ) → trail_of found.config d ≡ t → 1 ≤ t → audit_on found audit d ≡ recs_of found (records_of d (audit t))
  audit_there d t on one = ap (λ (n : ℕ). recs_of found (records_of d (audit n))) on

  trail_good : (t : ℕ) → 1 ≤ t → t ≤ 4 → IsGood found before audit bases dumps map_ (23 + t) (view found before values idle (23 + t) (trail_at found t))
  trail_good t one most = by_found (numbered found.trails t) refl where
    by_found : (x : Option TrailFound) → numbered found.trails t ≡ x → IsGood found before audit bases dumps map_ (23 + t) (view found before values idle (23 + t) (trail_with found.config t (firsts_on found t 1 found.volumes) x))
    by_found None e = subst (λ (s : State (layout found)). IsGood found before audit bases dumps map_ (23 + t) s) (sym (idle_trail t one most)) (omega arith, tt)
    by_found (Some x) e =
        let few = o.few_trails in
        let under = numbered_within found.trails t x e in
        let w = o.trails t one (omega (arith, few, under)) in
        let f : IsFoundTrail x (audit t) = subst (λ (y : TrailFound). IsFoundTrail y (audit t)) (let both : Some w.0 ≡ Some x = sym w.1 ∙ e in cc (both)) w.2 in (
          refl,
          record {
            before = λ d on. ap (λ (y : Option (List Standing)). own d (old_rows found y)) f.told ∙ (own_rows d f.old ∙ (ap (λ rs. recs_of found (records_of d rs)) f.items ∙ sym (audit_there d t on one)));
            first = λ d has on. firsts_are d t has on one;
            landed = refl;
            offered = refl;
            files = subst (λ (y : Option (List Standing)). AnyOrder {N = layout found} 0 (old_rows found y) x.present) (sym f.told) (rows_order 0 x.present f.old f.in_order);
          },
        )

  pub all_good : AreGood found before audit bases dumps map_ 0 V
  all_good = (worker_good 1, (worker_good 2, (worker_good 3, (worker_good 4, (worker_good 5, (worker_good 6, (worker_good 7, (worker_good 8, (worker_good 9, (worker_good 10, (worker_good 11, (worker_good 12, (worker_good 13, (worker_good 14, (worker_good 15, (worker_good 16, (disc_good 1 (omega arith) (omega arith), (disc_good 2 (omega arith) (omega arith), (disc_good 3 (omega arith) (omega arith), (disc_good 4 (omega arith) (omega arith), (disc_good 5 (omega arith) (omega arith), (disc_good 6 (omega arith) (omega arith), (disc_good 7 (omega arith) (omega arith), (disc_good 8 (omega arith) (omega arith), (trail_good 1 (omega arith) (omega arith), (trail_good 2 (omega arith) (omega arith), (trail_good 3 (omega arith) (omega arith), (trail_good 4 (omega arith) (omega arith), ((refl, (refl, refl, refl)), (dump_good 1 (omega arith) (omega arith), (dump_good 2 (omega arith) (omega arith), (dump_good 3 (omega arith) (omega arith), (dump_good 4 (omega arith) (omega arith), (dump_good 5 (omega arith) (omega arith), (dump_good 6 (omega arith) (omega arith), (dump_good 7 (omega arith) (omega arith), (dump_good 8 (omega arith) (omega arith), tt)))))))))))))))))))))))))))))))))))))

  -- WHAT EVERY HISTORY KEEPS

  blocks_of_line : (file : ℕ) → 1 ≤ volume_of found.config file → 1 ≤ blocks_of found.config file
  blocks_of_line file one =
      let l = line_at found.config.files file one in
      let is : blocks_of found.config file ≡ l.0.blocks = ap (λ (x : Option FileLine). option_map_or (λ line. line.blocks) x 0) l.3 in
      let range = all_among (λ (f : FileLine). IsWithin 1 256 f.blocks) found.config.files o.valid.files.blocks l.0 (get_among found.config.files (file - 1) l.0 l.2) in
      let above = range.above in
      omega (arith, is, above)
    where
      get_among : (xs : List FileLine) (i : ℕ) (x : FileLine) → slice_get xs i ≡ Some x → Among xs x
      get_among [] i x e = absurd (cc (e))
      get_among (y ∷ xs) zero x e = inl (cc (e))
      get_among (y ∷ xs) (suc i) x e = inr (get_among xs i x e)

  pub have_blocks : HaveBlocks found
  have_blocks = blocks_of_line

  closes_front : (xs : List MonitorRecord) (epoch : ℕ) → closes (entries_of found (xs ++ StartRecord epoch ∷ [])) ≡ closes (entries_of found xs)
  closes_front [] epoch = refl
  closes_front (StartRecord e ∷ xs) epoch = closes_front xs epoch
  closes_front (Commit t ∷ xs) epoch = ap (λ ms. record { tx = t; commit = true } ∷ ms) (closes_front xs epoch)
  closes_front (Abort t ∷ xs) epoch = ap (λ ms. record { tx = t; commit = false } ∷ ms) (closes_front xs epoch)

  start_last : (n : ℕ) (xs : List MonitorRecord) (epoch : ℕ) → last_start {N = layout found} n (entries_of found (xs ++ StartRecord epoch ∷ [])) ≡ epoch
  start_last n [] epoch = refl
  start_last n (StartRecord e ∷ xs) epoch = start_last e xs epoch
  start_last n (Commit t ∷ xs) epoch = start_last n xs epoch
  start_last n (Abort t ∷ xs) epoch = start_last n xs epoch

  pub old_closes : AreOld found before
  old_closes y h =
      let front = o.begun.0 in
      let ordered : is_monitor_order before ≡ true = (and_parts (is_monitor_order before) (are_placed before) o.stands.monitor_spelled.in_order).0 in
      ended_epochs found [] front found.epoch (ap is_monitor_order (sym o.begun.1) ∙ ordered) y
      (subst (λ (ms : List (Ending (layout found))). Among ms y) (ap (λ xs. closes (entries_of found xs)) o.begun.1 ∙ closes_front front found.epoch) h)

  abbrev AllFit : ℕ → List PartState → Type 0
  AllFit q [] = Unit {0}
  AllFit q (s ∷ ss) = IsFit found before values idle q s × AllFit (suc q) ss

  fit_from : (n : ℕ) (ss : List PartState) → AllFit n ss → (q : ℕ) (s : PartState) → slice_get ss q ≡ Some s → IsFit found before values idle (n + q) s
  fit_from n [] all q s at = absurd (cc (at))
  fit_from n (x ∷ ss) all zero s at = (let same : x ≡ s = cc (at) in let e : n ≡ n + 0 = omega arith in subst (λ (m : ℕ). IsFit found before values idle m s) e (subst (λ (y : PartState). IsFit found before values idle n y) same all.0))
  fit_from n (x ∷ ss) all (suc q) s at = (let e : suc n + q ≡ n + suc q = omega arith in subst (λ (m : ℕ). IsFit found before values idle m s) e (fit_from (suc n) ss all.1 q s at))

  nothing_fine : (first : ℕ) → IsFine first []
  nothing_fine first = record { exclusive = λ f k t e. inl refl; begun = λ d h. absurd h; positions = tt }

  disc_fit : (d : ℕ) → 1 ≤ d → IsFit found before values idle (15 + d) (disc_at found d)
  disc_fit d one = by_found (found_volume found d) refl where
    by_found : (x : Option VolumeFound) → found_volume found d ≡ x → IsFit found before values idle (15 + d) (disc_with found.config d x)
    by_found None e = tt
    by_found (Some x) e =
        let v = declared_at d one (is_declared d x e) in
        let up = up_of d v.0 x v.1 e in
        (refl, (up.entries, up.told), nothing_fine x.next, (x, e, refl))

  dump_fit : (d : ℕ) → 1 ≤ d → IsFit found before values idle (28 + d) (dump_at found d)
  dump_fit d one = by_found (found_volume found d) refl where
    by_found : (x : Option VolumeFound) → found_volume found d ≡ x → IsFit found before values idle (28 + d) (dump_with found.config d x)
    by_found None f = tt
    by_found (Some x) f = (refl, one, ((λ l e. absurd (cc (e))), (λ l e. absurd (cc (e)))), (x, f, refl))

  trail_fit : (t : ℕ) → 1 ≤ t → IsFit found before values idle (23 + t) (trail_at found t)
  trail_fit t one = by_found (numbered found.trails t) refl where
    by_found : (x : Option TrailFound) → numbered found.trails t ≡ x → IsFit found before values idle (23 + t) (trail_with found.config t (firsts_on found t 1 found.volumes) x)
    by_found None e = tt
    by_found (Some x) e =
        let few = o.few_trails in
        let under = numbered_within found.trails t x e in
        let w = o.trails t one (omega (arith, few, under)) in
        let f : IsFoundTrail x (audit t) = subst (λ (y : TrailFound). IsFoundTrail y (audit t)) (let both : Some w.0 ≡ Some x = sym w.1 ∙ e in cc (both)) w.2 in
        (refl, refl, (one, omega (arith, few, under)), (f.old, f.told), (λ d on. tt), (λ r h. absurd h), (x, e, refl))

  worker_fit : IsFit found before values idle 0 (worker_at found 1)
  worker_fit = (refl, λ u h. absurd (cc (h)))

  all_fit : AllFit 0 (opening_parts found)
  all_fit = ((refl, λ u h. absurd (cc (h))), ((refl, λ u h. absurd (cc (h))), ((refl, λ u h. absurd (cc (h))), ((refl, λ u h. absurd (cc (h))), ((refl, λ u h. absurd (cc (h))), ((refl, λ u h. absurd (cc (h))), ((refl, λ u h. absurd (cc (h))), ((refl, λ u h. absurd (cc (h))), ((refl, λ u h. absurd (cc (h))), ((refl, λ u h. absurd (cc (h))), ((refl, λ u h. absurd (cc (h))), ((refl, λ u h. absurd (cc (h))), ((refl, λ u h. absurd (cc (h))), ((refl, λ u h. absurd (cc (h))), ((refl, λ u h. absurd (cc (h))), ((refl, λ u h. absurd (cc (h))), (disc_fit 1 (omega arith), (disc_fit 2 (omega arith), (disc_fit 3 (omega arith), (disc_fit 4 (omega arith), (disc_fit 5 (omega arith), (disc_fit 6 (omega arith), (disc_fit 7 (omega arith), (disc_fit 8 (omega arith), (trail_fit 1 (omega arith), (trail_fit 2 (omega arith), (trail_fit 3 (omega arith), (trail_fit 4 (omega arith), ((refl, o.places, ((λ x h. absurd h), (λ x h. absurd h))), (dump_fit 1 (omega arith), (dump_fit 2 (omega arith), (dump_fit 3 (omega arith), (dump_fit 4 (omega arith), (dump_fit 5 (omega arith), (dump_fit 6 (omega arith), (dump_fit 7 (omega arith), (dump_fit 8 (omega arith), tt)))))))))))))))))))))))))))))))))))))

  pub opening_fit : AreFit found before values idle (opening_parts found)
  opening_fit = record { each = λ q s at. (let e : 0 + q ≡ q = omega arith in subst (λ (m : ℕ). IsFit found before values idle m s) e (fit_from 0 (opening_parts found) all_fit q s at)) }

  -- THE OPENING

  seen_at : (q : ℕ) (s : PartState) → slice_get (opening_parts found) q ≡ Some s → slice_get V q ≡ Some (view found before values idle q s)
  seen_at q s at = view_at found before values idle (opening_parts found) q s at

  few_volumes : (d : ℕ) (volume : Volume) → IsNumber found.config.volumes d volume → d ≤ 8
  few_volumes d volume is = (let few = o.valid.volumes.few in let in_ = within d volume is in omega (arith, few, in_))

  disc_there : (d : ℕ) → Among (layout found).discs d → DiscAt {N = layout found} V d
  disc_there d has =
      let v = declared_disc found o.valid d has in
      by_found v (found_volume found d) (seen_at (15 + d) (disc_at found d) (opening_disc found d v.1.0 (few_volumes d v.0 v.1)))
    where
      by_found : ((volume : Volume) × IsNumber found.config.volumes d volume) → (x : Option VolumeFound) → slice_get V (15 + d) ≡ Some (view found before values idle (15 + d) (disc_with found.config d x)) → DiscAt {N = layout found} V d
      by_found v (Some x) at = (15 + d, _, at, refl)
      by_found v None at = (
        15 + d,
        lost_disc found before audit bases dumps map_ d,
        at ∙ ap (λ (s : State (layout found)). Some s) (idle_disc d v.1.0 (few_volumes d v.0 v.1) ∙ ap (λ (b : Bool). if b then disc (lost_disc found before audit bases dumps map_ d) else no_part found before audit bases dumps map_ (16 + d)) (le-leb d (length found.config.volumes) (within d v.0 v.1))),
        refl,
      )

  dump_there : (d : ℕ) → Among (layout found).discs d → DumpAt {N = layout found} V d
  dump_there d has =
      let v = declared_disc found o.valid d has in
      by_found v (found_volume found d) (seen_at (28 + d) (dump_at found d) (opening_dump found d v.1.0 (few_volumes d v.0 v.1)))
    where
      by_found : ((volume : Volume) × IsNumber found.config.volumes d volume) → (x : Option VolumeFound) → slice_get V (28 + d) ≡ Some (view found before values idle (28 + d) (dump_with found.config d x)) → DumpAt {N = layout found} V d
      by_found v (Some x) at = (28 + d, _, at, refl)
      by_found v None at = (
        28 + d,
        lost_dump found before audit bases dumps map_ d,
        at ∙ ap (λ (s : State (layout found)). Some s) (idle_dump d v.1.0 (few_volumes d v.0 v.1) ∙ ap (λ (b : Bool). if b then dump (lost_dump found before audit bases dumps map_ d) else no_part found before audit bases dumps map_ (29 + d)) (le-leb d (length found.config.volumes) (within d v.0 v.1))),
        refl,
      )

  trail_there : (d : ℕ) → Among (layout found).discs d → TrailAt {N = layout found} V d
  trail_there d has =
      let v = declared_disc found o.valid d has in
      let t = trail_is found o.valid d v.0 v.1 in
      let few = o.valid.trails.few in
      let most = t.1 in
      let w = o.trails v.0.trail t.0 t.1 in
      let on : trail_of found.config d ≡ v.0.trail = ap (λ (x : Option Volume). option_map_or (λ y. y.trail) x 0) (numbered_is found.config.volumes d v.0 v.1) in
      let at = seen_at (23 + v.0.trail) (trail_at found v.0.trail) (opening_trail found v.0.trail t.0 (omega (arith, few, most))) in
      (23 + v.0.trail, _, at ∙ ap (λ (x : Option TrailFound). Some (view found before values idle (23 + v.0.trail) (trail_with found.config v.0.trail (firsts_on found v.0.trail 1 found.volumes) x))) w.1, sym on)

  good : (q : ℕ) (s : State (layout found)) → slice_get V q ≡ Some s → IsGood found before audit bases dumps map_ q s
  good = good_at found before audit bases dumps map_ V all_good

  rest_label : (b : Option (AnyBase (layout found))) → start_at found before audit bases dumps map_ b ≡ elim (label_at found before audit bases dumps map_ b) [ None ↦ None | Some l ↦ Some (start_of l) ]
  rest_label None = refl
  rest_label (Some b) = refl

  pub opens : AnyOpening {N = layout found} V (first_image found before audit bases dumps map_) (inside found map_)
  opens = record {
    parts = record {
      apart = apart found before audit bases dumps map_ V all_good;
      discs = disc_there;
      trails = trail_there;
      dumps = dump_there;
      listed = λ q s at. (good q (disc s) at).1.1;
      of_monitor = (28, _, refl);
    };
    stands = stands_any found o.valid rules images bases dumps before map_ o.stands;
    discs = λ q s at. (good q (disc s) at).1.0;
    rests = λ q r s u at bt same.
        (good q (disc s) at).1.2
        ∙ (ap (λ (n : ℕ). start_at found before audit bases dumps map_ (any_base found (dumps n))) same
        ∙ (rest_label (any_base found (dumps u.number))
        ∙ ap (λ (l : Option (Label (layout found))). elim l [ None ↦ None | Some x ↦ Some (start_of x) ]) (sym ((good r (dump u) bt).1.1))));
    trails = λ q t at. (good q (trail t) at).1;
    mons = λ q u at. (good q (monitor u) at).1;
    dumps = λ q u at. (good q (dump u) at).1.0;
    audit = λ d has.
        (let v = declared_disc found o.valid d has in
        let t = trail_is found o.valid d v.0 v.1 in
        let row = in_a_row found d (audit v.0.trail) ((o.stands.audit_spelled v.0.trail t.0 t.1).in_order) in
        let is = audit_is found o.valid audit d v.0 v.1 in
        let each : (x : AnyRecord (layout found)) → Among (recs_of found (records_of d (audit v.0.trail))) x → (x.tx.epoch < found.epoch) × (x.disc ≡ d) = λ x h.
        (let r = among_recs found (records_of d (audit v.0.trail)) x h in
        let of = of_records d (audit v.0.trail) r.0 r.1 in
        let lt = all_among (λ r. r.tx.epoch < found.epoch) (audit v.0.trail) (o.unused v.0.trail t.0 t.1) r.0 of.0 in
        let tx : r.0.tx.epoch ≡ x.tx.epoch = ap (λ (y : AnyRecord (layout found)). y.tx.epoch) r.2 in
        (omega (arith, lt, tx), sym (ap (λ (y : AnyRecord (layout found)). y.disc) r.2) ∙ of.1)) in
        subst (λ (rs : List (AnyRecord (layout found))). Each (λ r. r.tx.epoch < found.epoch) rs × ((m : ℕ) × AreFrom m rs) × Each (λ r. r.disc ≡ d) rs) (sym is) (
          each_from_all found o.valid (λ r. r.tx.epoch < found.epoch) (recs_of found (records_of d (audit v.0.trail))) (λ x h. (each x h).0),
          row,
          each_from_all found o.valid (λ r. r.disc ≡ d) (recs_of found (records_of d (audit v.0.trail))) (λ x h. (each x h).1),
        ));
    list = each_from_all found o.valid (λ x. x.tx.epoch < found.epoch) (closes (entries_of found before)) old_closes;
    started = ap (λ xs. last_start {N = layout found} 0 (entries_of found xs)) o.begun.1 ∙ start_last 0 o.begun.0 found.epoch;
  }
