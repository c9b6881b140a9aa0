-- Each disc's images: its audit, its volume and its dump.
use Rattle.std.proofs.Common.{◌≡◌, ◌⊎◌, ℕ, zero, suc, ◌+◌, ◌-◌, ◌≤◌, ◌<◌, nat_le, Bool, true, false, cond, List, [], ◌∷◌, ◌++◌, length, Option, Some, None, slice_get, refl, ap, sym, ◌∙◌, subst, ⊎_elim, inl, inr, arith, append_assoc, length-append}
use Rattle.chronicle.specs.Histories.{IsHistory}
use Rattle.any_node.specs.Layout.{Layout}
use Rattle.any_node.specs.Value.{AuditRecord, Ending, Entry, Among, Each, closes, entries, last_start, on, own, kept, value}
use Rattle.any_node.specs.Node.{Disc, Trail, Monitor, Dump, Label, State, Event, node, makes, start_of, IsUpTo, IsQuiet, IsClean}
use Rattle.any_node.specs.Node.Label.{Found, Taken}
use Rattle.any_node.specs.Fold.{After}
use Rattle.any_node.specs.Stands.{Base, Image, VolumeStandsFor, GivesValues, IsKept, next_position}
use Rattle.any_node.specs.Opening.{IsFresh, IsFreshTrail, IsFreshDump, IsOpening, AreInOrder, AreFrom}
use Rattle.any_node.specs.Shows.{ShowsLow, ShowsLabel, ShowsVolume, ShowsDump, ShowsCloses, ShowsRows, says, content, from_file}
use Rattle.any_node.specs.Node.State.{disc, trail, monitor, dump}
use Rattle.any_node.specs.Node.Fact.{Enlisted, Durable, Floor}
use Rattle.any_node.proofs.Lists.{some≢none, some_is, true_or_false, each_map, each_at, each_from, among_left, among_right, among_append}
use Rattle.any_node.proofs.Values.{on-append, on_each}
use Rattle.any_node.proofs.Positions.{from_left, from_append, from_least, from_most, from_at, kept-append, kept_none, kept_all, kept_cut}
use Rattle.any_node.proofs.Facts.{own-append}
use Rattle.any_node.proofs.Parts.{True, durable_here, floor_here, started_here, epoch_enlisted}
use Rattle.any_node.proofs.Discs.{IsGood}
use Rattle.any_node.proofs.Trails.{IsFiled, rows_of, split_file}
use Rattle.any_node.proofs.Invariant.{Inv}
use Rattle.any_node.proofs.Volumes.{IsVolume}
use Rattle.any_node.proofs.Dumps.{IsSound, floor_below}
use Rattle.any_node.proofs.Deep.{Deep}
use Rattle.any_node.proofs.Images.{IsOld, front_spelled, opening_value, content_value}
use Rattle.any_node.proofs.Ends.{IsReached, IsReachedBy, among_own, opening_from, all_kept, kept_whole}
use Rattle.any_node.proofs.Stand.{closes-append, last_start-append, order_left, end, deep, inv, ended, parts, base_is, after_is}

module _ (N : Layout) (ss : List (State N)) (i : Image N) (m : N.Key → Option N.Val) (log : List (ℕ × Event N)) (o : IsOpening ss i m) (history : IsHistory (node N) ss log)
    (z : ℕ) (w : Monitor N) (at_w : slice_get (end N ss i m log o history) z ≡ Some (monitor w)) (mons : List (Ending N)) (shown : ShowsCloses w mons)
    (q p r : ℕ) (s : Disc N) (t : Trail N) (u : Dump N) (at : slice_get (end N ss i m log o history) q ≡ Some (disc s)) (at_t : slice_get (end N ss i m log o history) p ≡ Some (trail t)) (at_u : slice_get (end N ss i m log o history) r ≡ Some (dump u))
    (here : t.number ≡ N.trail_of s.number) (same : s.number ≡ u.number) where
  abbrev ts : List (State N)
  ts = end N ss i m log o history

  d : Deep N ts log
  d = deep N ss i m log o history

  v : Inv N ts
  v = inv N ss i m log o history

  good : IsGood (True N ts) s
  good = v.discs q s at

  volume : IsVolume (True N ts) s
  volume = d.volumes q s at

  filed : IsFiled (True N ts) t
  filed = v.trails p t at_t

  then_s : (x : Disc N) × (slice_get ss q ≡ Some (disc x)) × (s.number ≡ x.number) × (s.base ≡ x.base) × (s.first ≡ x.first) × (s.lost ≡ x.lost)
  then_s = (ended N ss i m log o history).discs q s at

  then_t : (x : Trail N) × (slice_get ss p ≡ Some (trail x)) × (t.number ≡ x.number) × (t.before ≡ x.before) × (t.first ≡ x.first)
  then_t = (ended N ss i m log o history).trails p t at_t

  then_w : (x : Monitor N) × (slice_get ss z ≡ Some (monitor x)) × (w.before ≡ x.before)
  then_w = (ended N ss i m log o history).mons z w at_w

  fresh : IsFresh i m then_s.0
  fresh = o.discs q then_s.0 then_s.1

  is_listed : Among N.discs s.number
  is_listed = (parts N ss i m log o history).listed q s at

  first_is : s.first ≡ next_position (i.audit s.number) (i.volume s.number) (i.dump s.number)
  first_is = then_s.4 ∙ subst (λ (n : ℕ). then_s.0.first ≡ next_position (i.audit n) (i.volume n) (i.dump n)) (sym then_s.2) fresh.first

  positive : 1 ≤ s.first
  positive = (let p : 1 ≤ then_s.0.first = fresh.positive in let e : s.first ≡ then_s.0.first = then_s.4 in omega (arith, p, e))

  trail_first : t.first s.number ≡ s.first
  trail_first = (let f : IsFreshTrail i then_t.0 = o.trails p then_t.0 then_t.1 in ap (λ (g : ℕ → ℕ). g s.number) then_t.4 ∙ f.first s.number is_listed (sym here ∙ then_t.2) ∙ sym first_is)

  old_is : own s.number t.before ≡ i.audit s.number
  old_is = (let f : IsFreshTrail i then_t.0 = o.trails p then_t.0 then_t.1 in ap (λ us. own s.number us) then_t.3 ∙ f.before s.number (sym here ∙ then_t.2))

  list_is : w.before ≡ i.list
  list_is = then_w.2 ∙ (o.mons z then_w.0 then_w.1).0

  old_closes : Each (λ x. IsOld N x.tx) (closes w.before)
  old_closes = subst (λ (xs : List (Entry N)). Each (λ x. IsOld N x.tx) (closes xs)) (sym list_is) o.list

  -- the records of the opening
  old_from : (n : ℕ) × AreFrom n (i.audit s.number) × (n + length (i.audit s.number) ≡ s.first)
  old_from = opening_from ((o.audit s.number is_listed).1.0) s.first (i.audit s.number) (i.volume s.number) (i.dump s.number) (o.audit s.number is_listed).1.1 first_is

  -- an image of the trail, and what of the disc it lacks
  module _ (rows : List (ℕ × AuditRecord N)) (shows : ShowsRows t rows) where
    pub news : (X : List (ℕ × AuditRecord N)) × ((X ≡ t.landed) ⊎ (X ≡ t.landed ++ t.offered)) × (rows ≡ from_file shows.0 (t.before ++ X)) × AreInOrder 0 (t.before ++ X) t.present × ((x : ℕ × AuditRecord N) → Among (t.before ++ X) x → Among (rows_of t) x)
    news = ⊎_elim
        (λ (e : rows ≡ from_file shows.0 (t.before ++ t.landed)). (t.landed, inl refl, e, order_left 0 t.present (t.before ++ t.landed) t.offered (subst (λ (us : List (ℕ × AuditRecord N)). AreInOrder 0 us t.present) (sym (append_assoc t.before t.landed t.offered)) filed.order), (λ x has. subst (λ (us : List (ℕ × AuditRecord N)). Among us x) (append_assoc t.before t.landed t.offered) (among_left (t.before ++ t.landed) t.offered x has))))
        (λ (e : rows ≡ from_file shows.0 (t.before ++ (t.landed ++ t.offered))). (t.landed ++ t.offered, inr refl, e, filed.order, (λ x has. has)))
        shows.2

    pub cuts : (A : List (ℕ × AuditRecord N)) × (B : List (ℕ × AuditRecord N)) × (t.before ++ news.0 ≡ A ++ B) × Each (λ x. x.0 < shows.0) A × (from_file shows.0 (t.before ++ news.0) ≡ B)
    cuts = split_file shows.0 0 t.present (t.before ++ news.0) news.3

    abbrev pub front : List (AuditRecord N)
    front = own s.number news.0

    abbrev pub full : List (AuditRecord N)
    full = i.audit s.number ++ front

    abbrev pub lacks : List (AuditRecord N)
    lacks = own s.number cuts.0

    abbrev pub audit : List (AuditRecord N)
    audit = own s.number rows

    audit_is : full ≡ lacks ++ audit
    audit_is =
        ap (λ us. us ++ front) (sym old_is)
        ∙ sym (own-append s.number t.before news.0)
        ∙ ap (λ us. own s.number us) cuts.2
        ∙ own-append s.number cuts.0 cuts.1
        ∙ ap (λ us. lacks ++ own s.number us) (sym cuts.4 ∙ sym news.2)

    made_is : (rest : List (AuditRecord N)) × (s.made ≡ front ++ rest) × (length (own s.number t.landed) ≤ length front)
    made_is = front_spelled N ts v q p z s t w at at_t at_w here trail_first news.0 news.1

    front_from : AreFrom s.first front
    front_from = from_left s.first front made_is.0 (subst (λ (us : List (AuditRecord N)). AreFrom s.first us) made_is.1 good.numbered)

    full_from : AreFrom old_from.0 full
    full_from = from_append old_from.0 (i.audit s.number) front old_from.1 (subst (λ (n : ℕ). AreFrom n front) (sym old_from.2) front_from)

    full_size : old_from.0 + length full ≡ s.first + length front
    full_size = (let a : length full ≡ length (i.audit s.number) + length front = length-append (i.audit s.number) front in let b : old_from.0 + length (i.audit s.number) ≡ s.first = old_from.2 in omega (arith, a, b))

    end_positive : 1 ≤ s.first + length front
    end_positive = (let a : 1 ≤ s.first = positive in omega (arith, a))

    -- what is durable has landed
    durable_in : (n : ℕ) → True N ts (Durable s.number n) → n < s.first + length front
    durable_in n f = (let a : n < t.first s.number + length (own s.number t.landed) = durable_here N ts v.apart p t at_t s.number n here f in let b : length (own s.number t.landed) ≤ length front = made_is.2 in let c : t.first s.number ≡ s.first = trail_first in omega (arith, a, b, c))

    -- what the image lacks is below each position that no floor passes
    lacks_below : (y : ℕ) → ((n : ℕ) → makes N (disc s) (Floor s.number n) → n ≤ y) → Each (λ x. x.position < y) lacks
    lacks_below y bounded = each_from (λ x. x.position < y) lacks (λ x has.
        (let a = among_own s.number cuts.0 x has in
        let row : Among (rows_of t) a.0 = news.4 a.0 (subst (λ (us : List (ℕ × AuditRecord N)). Among us a.0) (sym cuts.2) (among_left cuts.0 cuts.1 a.0 a.1)) in
        let lt : a.0.0 < shows.0 = each_at (λ y. y.0 < shows.0) cuts.0 a.0 cuts.3 a.1 in
        let le : shows.0 ≤ t.purged = shows.1 in
        let of : a.0.1.disc ≡ s.number = ap (λ (e : AuditRecord N). e.disc) a.2 ∙ a.3 in
        let b = filed.floors a.0 row (omega (arith, lt, le)) in
        let floor : makes N (disc s) (Floor s.number b.0) = floor_here N ts v.apart q s at b.0 (subst (λ (n : ℕ). True N ts (Floor n b.0)) of b.1) in
        let up : b.0 ≤ y = bounded b.0 floor in
        let below : a.0.1.position < b.0 = b.2 in
        let at_x : a.0.1.position ≡ x.position = ap (λ (e : AuditRecord N). e.position) a.2 in
        omega (arith, up, below, at_x)))

    -- a position of this run
    reached_new : (y : ℕ) → s.first ≤ y → True N ts (Durable s.number (y - 1)) → ((n : ℕ) → makes N (disc s) (Floor s.number n) → n ≤ y) → IsReached full lacks (s.first + length front) y
    reached_new y from durable bounded = record {
      reached = (let lt : y - 1 < s.first + length front = durable_in (y - 1) durable in omega (arith, lt));
      lacks_below = lacks_below y bounded;
      there = λ n ge lt. (let f = from_at s.first front n front_from (omega (arith, from, ge)) lt in (f.0, among_right (i.audit s.number) front f.0 f.1, f.2));
    }

    low_bound : s.lost ≡ false → (l : ℕ) → ShowsLow s l → (n : ℕ) → makes N (disc s) (Floor s.number n) → n ≤ l
    low_bound there l low n f = ⊎_elim
        (λ (e : l ≡ s.low). (let a : n ≤ s.low = (f.1 there).0 in omega (arith, a, e)))
        (λ (e : s.lowering ≡ Some l). upto s.lowering e (f.1 there).1)
        low
      where
        upto : (x : Option ℕ) → x ≡ Some l → IsUpTo x n → n ≤ l
        upto None e h = absurd (cc (e))
        upto (Some b) e h = (let b_is : b ≡ l = some_is b l e in omega (arith, b_is, h))

    label_bound : (l : Label N) → ShowsLabel u l → (n : ℕ) → makes N (disc s) (Floor s.number n) → n ≤ start_of l
    label_bound l label n f = floor_below s u n l (d.pairs q r s u at at_u same) f.2 f.3 label

    -- what the image has of this run, from a position on, is what is kept
    kept_new : (y : ℕ) → s.first ≤ y → IsReached full lacks (s.first + length front) y → (P rest : List (AuditRecord N)) → front ≡ P ++ rest → s.first + length P ≡ y → kept y audit ≡ rest
    kept_new y from reached P rest is size =
        let below : Each (λ x. x.position < y) (i.audit s.number) = each_map (λ x. x.position < old_from.0 + length (i.audit s.number)) (λ x. x.position < y) (i.audit s.number) (λ x lt. (let e : old_from.0 + length (i.audit s.number) ≡ s.first = old_from.2 in omega (arith, lt, e, from))) (from_most old_from.0 (i.audit s.number) old_from.1) in
        kept_whole full lacks audit old_from.0 (s.first + length front) audit_is full_from full_size end_positive y reached.lacks_below
        ∙ kept-append y (i.audit s.number) front
        ∙ ap (λ us. us ++ kept y front) (kept_none y (i.audit s.number) below)
        ∙ ap (λ us. kept y us) is
        ∙ kept_cut s.first y P rest (subst (λ (us : List (AuditRecord N)). AreFrom s.first us) is front_from) size

    -- a content of this run, in an image
    gives_content : (k : N.Key) → N.disc_of k ≡ s.number → (l n : ℕ) → IsQuiet s l → s.first ≤ l → s.first ≤ n + 1 → IsClean s (N.block_of k) n l → True N ts (Durable s.number (l - 1)) → True N ts (Durable s.number n) → IsReached full lacks (s.first + length front) l →
        value (content s n k) (on k (kept l audit)) (closes w.before ++ mons) ≡ After log mons m k
    gives_content k on_it l n quiet from_l from_n clean durable_l durable_n reached =
        let c = content_value N ts v q p z s t w at at_t at_w here trail_first log d old_closes k l n quiet from_l from_n clean front made_is.0 made_is.1 made_is.2 reached.reached (durable_in n durable_n) mons shown in
        ap (λ us. value (content s n k) (on k us) (closes w.before ++ mons)) (kept_new l from_l reached c.0 c.1 c.2 c.3)
        ∙ c.4
        ∙ sym (after_is N ss i m log o history z w at_w mons shown q s at k on_it)

    module _ (list : List (Entry N)) (list_shown : list ≡ w.before ++ entries mons) where
      closes_are : closes list ≡ closes w.before ++ mons
      closes_are = ap closes list_shown ∙ closes-append w.before mons

      -- the volume's image
      pub volume_reached : s.lost ≡ false → (b : Base N) → ShowsVolume s b → IsReached full lacks (s.first + length front) b.position
      volume_reached there b h = (let l = volume.lows b.position h.low in reached_new b.position l.2 l.1 (low_bound there b.position h.low))

      pub volume_values : s.lost ≡ false → (b : Base N) → ShowsVolume s b → GivesValues s.number audit list (After log mons m) (Some b)
      volume_values there b h = λ k on_it.
          let l = volume.lows b.position h.low in
          let x = h.blocks (N.block_of k) in
          let y = volume.blocks (N.block_of k) x.0 x.1 in
          ap (λ c. value (b.values k) (on k (kept b.position audit)) c) closes_are
          ∙ ap (λ c. value c (on k (kept b.position audit)) (closes w.before ++ mons)) (x.2 k on_it refl)
          ∙ gives_content k on_it b.position x.0 l.0 l.2 y.2 (volume.covers (N.block_of k) x.0 b.position x.1 h.low) l.1 y.1 (volume_reached there b h)

      -- the image of a dump of this run
      taken : (n l : ℕ) (c : N.Block → Option ℕ) → ShowsLabel u (Taken n l c) → IsSound N (True N ts) s.number n l c
      taken n l c label = subst (λ (x : ℕ). IsSound N (True N ts) x n l c) (sym same) ((d.dumps r u at_u).sound n l c label)

      taken_start : (n l : ℕ) (c : N.Block → Option ℕ) → ShowsLabel u (Taken n l c) → IsQuiet s l × (s.first ≤ l)
      taken_start n l c label = volume.begun n l (started_here N ts v.apart q s at n l (taken n l c label).0)

      taken_copy : (n l : ℕ) (c : N.Block → Option ℕ) → ShowsLabel u (Taken n l c) → (b : N.Block) (x : ℕ) → c b ≡ Some x → True N ts (Durable s.number x) × (l ≤ x + 1)
      taken_copy n l c label b x e =
          let a = (taken n l c label).3 b x e in
          let y : ℕ = a.1.0 in
          let same_start : y ≡ l = volume.alone n y l (started_here N ts v.apart q s at n y a.1.1) (started_here N ts v.apart q s at n l (taken n l c label).0) in
          (a.0, (let le : y ≤ x + 1 = a.1.2 in omega (arith, same_start, le)))

      -- the image of a dump of the opening
      found : (y : ℕ) (f : N.Key → Option N.Val) → ShowsLabel u (Found y f) → (b : Base N) × (i.dump s.number ≡ Some b) × (b.position ≡ y) × (b.values ≡ f)
      found y f label =
          let a = (ended N ss i m log o history).dumps r u at_u in
          let g : IsFreshDump i a.0 = o.dumps r a.0 a.1 in
          let number : a.0.number ≡ s.number = sym a.2 ∙ sym same in
          ⊎_elim
          (λ (e : a.0.landed ≡ Some (Found y f)). ⊎_elim
          (λ (x : (i.dump a.0.number ≡ None) × (a.0.landed ≡ None)). absurd (some≢none (Found y f) (sym e ∙ x.1)))
          (λ (x : (b : Base N) × (i.dump a.0.number ≡ Some b) × (a.0.landed ≡ Some (Found b.position b.values))).
          (let is : Found x.0.position x.0.values ≡ Found y f = some_is (Found x.0.position x.0.values) (Found y f) (sym x.2 ∙ e) in
          (x.0, subst (λ (n : ℕ). i.dump n ≡ Some x.0) number x.1, cc (is), cc (is))))
          g.landed)
          (λ (e : a.0.offered ≡ Some (Found y f)). absurd (some≢none (Found y f) (sym e ∙ g.offered)))
          (a.3 y f label)

      -- what the opening's images stand for, of the disc
      stood : VolumeStandsFor s.number (i.audit s.number) (i.volume s.number) (i.dump s.number) i.list m
      stood = o.stands.volumes s.number is_listed

      kept_some : (x : Option (Base N)) (b : Base N) → x ≡ Some b → IsKept (i.audit s.number) (next_position (i.audit s.number) (i.volume s.number) (i.dump s.number)) x → (b.position ≤ s.first) × ((n : ℕ) → b.position ≤ n → n < s.first → (y : AuditRecord N) × Among (i.audit s.number) y × (y.position ≡ n))
      kept_some None b e h = absurd (cc (e))
      kept_some (Some a) b e h =
          let is : a ≡ b = some_is a b e in
          subst (λ (c : Base N). (c.position ≤ s.first) × ((n : ℕ) → c.position ≤ n → n < s.first → (y : AuditRecord N) × Among (i.audit s.number) y × (y.position ≡ n))) is
          (subst (λ (x : ℕ). (a.position ≤ x) × ((n : ℕ) → a.position ≤ n → n < x → (y : AuditRecord N) × Among (i.audit s.number) y × (y.position ≡ n))) (sym first_is) h)

      values_some : (x : Option (Base N)) (b : Base N) → x ≡ Some b → GivesValues s.number (i.audit s.number) i.list m x → (k : N.Key) → N.disc_of k ≡ s.number → value (b.values k) (on k (kept b.position (i.audit s.number))) (closes i.list) ≡ m k
      values_some None b e h = absurd (cc (e))
      values_some (Some a) b e h = subst (λ (c : Base N). (k : N.Key) → N.disc_of k ≡ s.number → value (c.values k) (on k (kept c.position (i.audit s.number))) (closes i.list) ≡ m k) (some_is a b e) h

      found_reached : (y : ℕ) (f : N.Key → Option N.Val) → ShowsLabel u (Found y f) → IsReached full lacks (s.first + length front) y
      found_reached y f label =
          let b = found y f label in
          let kept_from = kept_some (i.dump s.number) b.0 b.1 stood.dump_kept in
          let le : b.0.position ≤ s.first = kept_from.0 in
          let is : b.0.position ≡ y = b.2 in
          record {
            reached = omega (arith, le, is);
            lacks_below = lacks_below y (label_bound (Found y f) label);
            there = λ n ge lt. ⊎_elim
                (λ (new : s.first ≤ n). (let x = from_at s.first front n front_from new lt in (x.0, among_right (i.audit s.number) front x.0 x.1, x.2)))
                (λ (early : n < s.first). (let x = kept_from.1 n (omega (arith, is, ge)) early in (x.0, among_left (i.audit s.number) front x.0 x.1, x.2)))
                (either s.first n);
          }
        where
          either : (a b : ℕ) → (a ≤ b) ⊎ (b < a)
          either zero b = inl (omega arith)
          either (suc a) zero = inr (omega arith)
          either (suc a) (suc b) = ⊎_elim (λ (x : a ≤ b). inl (omega (arith, x))) (λ (x : b < a). inr (omega (arith, x))) (either a b)

      found_value : (y : ℕ) (f : N.Key → Option N.Val) → ShowsLabel u (Found y f) → (k : N.Key) → N.disc_of k ≡ s.number → value (f k) (on k (kept y audit)) (closes w.before ++ mons) ≡ After log mons m k
      found_value y f label k on_it =
          let b = found y f label in
          let le : b.0.position ≤ s.first = (kept_some (i.dump s.number) b.0 b.1 stood.dump_kept).0 in
          let is : b.0.position ≡ y = b.2 in
          let earlier : List (AuditRecord N) = kept y (i.audit s.number) in
          let whole : kept y audit ≡ earlier ++ front =
          kept_whole full lacks audit old_from.0 (s.first + length front) audit_is full_from full_size end_positive y (found_reached y f label).lacks_below
          ∙ kept-append y (i.audit s.number) front
          ∙ ap (λ us. kept y (i.audit s.number) ++ us) (kept_all y front (each_map (λ x. s.first ≤ x.position) (λ x. y ≤ x.position) front (λ x ge. omega (arith, ge, le, is)) (from_least s.first front front_from))) in
          let opens : value (f k) (on k earlier) (closes w.before) ≡ s.base k =
          ap (λ c. value (f k) (on k earlier) (closes c)) list_is
          ∙ ap (λ n. value (f k) (on k (kept n (i.audit s.number))) (closes i.list)) (sym is)
          ∙ ap (λ (g : N.Key → Option N.Val). value (g k) (on k (kept b.0.position (i.audit s.number))) (closes i.list)) (sym b.3)
          ∙ values_some (i.dump s.number) b.0 b.1 stood.dump_values k on_it
          ∙ sym (base_is N ss i m log o history q s at k on_it) in
          let ago : Each (λ x. IsOld N x.tx) (on k earlier) = on_each (λ x. IsOld N x.tx) k earlier (kept_each y (i.audit s.number) (o.audit s.number is_listed).0) in
          ap (λ us. value (f k) us (closes w.before ++ mons)) (ap (λ us. on k us) whole ∙ on-append k earlier front)
          ∙ opening_value N ts v q p z s t w at at_t at_w here trail_first k (f k) (on k earlier) opens ago old_closes front made_is.0 made_is.1 made_is.2 mons shown
          ∙ sym (after_is N ss i m log o history z w at_w mons shown q s at k on_it)
        where
          kept_each : (y : ℕ) (us : List (AuditRecord N)) → Each (λ x. IsOld N x.tx) us → Each (λ x. IsOld N x.tx) (kept y us)
          kept_each y [] e = tt
          kept_each y (x ∷ us) e = pick (nat_le y x.position) (kept_each y us e.1) where
            pick : (b : Bool) → Each (λ x. IsOld N x.tx) (kept y us) → Each (λ x. IsOld N x.tx) (cond b (x ∷ kept y us) (kept y us))
            pick true h = (e.0, h)
            pick false h = h

      -- either
      pub label_reached : (l : Label N) → ShowsLabel u l → IsReached full lacks (s.first + length front) (start_of l)
      label_reached (Found y f) label = found_reached y f label
      label_reached (Taken n l c) label = (let x = taken n l c label in reached_new l (taken_start n l c label).1 x.1 (label_bound (Taken n l c) label))

      pub label_value : (l : Label N) → ShowsLabel u l → (k : N.Key) → N.disc_of k ≡ s.number → value (says s l k) (on k (kept (start_of l) audit)) (closes w.before ++ mons) ≡ After log mons m k
      label_value (Found y f) label k on_it = found_value y f label k on_it
      label_value (Taken n l c) label k on_it =
          let x = taken n l c label in
          let y = taken_start n l c label in
          let copy = x.2 k on_it in
          let a = taken_copy n l c label (N.block_of k) copy.0 copy.1 in
          let from : s.first ≤ l = y.1 in
          let le : l ≤ copy.0 + 1 = a.1 in
          ap (λ (b : Option ℕ). value (elim b [ None ↦ None | Some n ↦ content s n k ]) (on k (kept l audit)) (closes w.before ++ mons)) copy.1
          ∙ gives_content k on_it l copy.0 y.0 from (omega (arith, from, le)) (λ e has of lt to. omega (arith, le, lt, to)) x.1 a.0 (label_reached (Taken n l c) label)

      volume_cases : (x : Option (Base N)) → (s.lost ≡ true → x ≡ None) → (s.lost ≡ false → (b : Base N) × (x ≡ Some b) × ShowsVolume s b) → GivesValues s.number audit list (After log mons m) x × IsReachedBy full lacks (s.first + length front) x
      volume_cases None gone there = (tt, tt)
      volume_cases (Some b) gone there = ⊎_elim
          (λ (e : s.lost ≡ true). absurd (some≢none b (gone e)))
          (λ (e : s.lost ≡ false).
          (let x = there e in
          let is : x.0 ≡ b = some_is x.0 b (sym x.1) in
          let h : ShowsVolume s b = subst (λ (c : Base N). ShowsVolume s c) is x.2 in
          (volume_values e b h, volume_reached e b h)))
          (true_or_false s.lost)

      dump_cases : (x : Option (Base N)) → ShowsDump s u x → GivesValues s.number audit list (After log mons m) x × IsReachedBy full lacks (s.first + length front) x
      dump_cases None h = (tt, tt)
      dump_cases (Some b) h = (
        (λ k on_it.
            ap (λ c. value (b.values k) (on k (kept b.position audit)) c) closes_are
            ∙ ap (λ n. value (b.values k) (on k (kept n audit)) (closes w.before ++ mons)) h.2
            ∙ ap (λ c. value c (on k (kept (start_of h.0) audit)) (closes w.before ++ mons)) (h.3 k on_it)
            ∙ label_value h.0 h.1 k on_it),
        subst (λ (n : ℕ). IsReached full lacks (s.first + length front) n) (sym h.2) (label_reached h.0 h.1),
      )

      pub stands : (volume dump : Option (Base N)) → (s.lost ≡ true → volume ≡ None) → (s.lost ≡ false → (b : Base N) × (volume ≡ Some b) × ShowsVolume s b) → ShowsDump s u dump → VolumeStandsFor s.number audit volume dump list (After log mons m)
      stands base copy gone there h =
          let a = volume_cases base gone there in
          let b = dump_cases copy h in
          let k = all_kept full lacks audit old_from.0 (s.first + length front) audit_is full_from full_size end_positive base copy a.1 b.1 in
          record { values = a.0; dump_values = b.0; kept_from = k.0; dump_kept = k.1 }

      -- no record is of a later epoch than the list's last Start
      pub epochs : Each (λ x. N.epoch_of x.tx ≤ last_start 0 list) audit
      epochs = each_from (λ x. N.epoch_of x.tx ≤ last_start 0 list) audit (λ x has.
          (let e : last_start 0 list ≡ N.epoch = ap (λ us. last_start 0 us) list_shown ∙ last_start-append 0 w.before mons ∙ ap (λ us. last_start 0 us) list_is ∙ o.started in
          ⊎_elim
          (λ (a : Among (i.audit s.number) x). (let lt : N.epoch_of x.tx < N.epoch = each_at (λ y. N.epoch_of y.tx < N.epoch) (i.audit s.number) x (o.audit s.number is_listed).0 a in omega (arith, lt, e)))
          (λ (a : Among front x).
          (let in_made : Among s.made x = subst (λ (us : List (AuditRecord N)). Among us x) (sym made_is.1) (among_left front made_is.0 x a) in
          let this : N.epoch_of x.tx ≡ N.epoch = epoch_enlisted N ts v.apart x.tx s.number (each_at (λ y. True N ts (Enlisted y.tx s.number)) s.made x good.listed in_made) in
          omega (arith, this, e)))
          (among_append (i.audit s.number) front x (subst (λ (us : List (AuditRecord N)). Among us x) (sym audit_is) (among_right lacks audit x has)))))
