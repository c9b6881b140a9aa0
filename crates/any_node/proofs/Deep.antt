-- All that holds through a history, from an opening on.
use Rattle.std.proofs.Common.{◌≡◌, ◌≢◌, ℕ, ◌+◌, ◌-◌, ◌≤◌, ◌<◌, true, false, List, [], ◌∷◌, ◌++◌, Option, Some, None, slice_get, refl, ap, sym, ◌∙◌, subst, ⊎_elim, inl, arith, append_assoc, append-nil, reverse}
use Rattle.chronicle.specs.Histories.{next_states, states_after, IsEnabled, IsHistory}
use Rattle.any_node.specs.Layout.{Layout}
use Rattle.any_node.specs.Value.{AuditRecord, Ending, Among, Each, on, own, commits, undo, redo, folded, latest}
use Rattle.any_node.specs.Node.{Disc, Trail, Monitor, Dump, Label, State, Event, Fact, node, Backed, step_disc, step_dump, start_of, IsTaken}
use Rattle.any_node.specs.Stands.{Base, Image}
use Rattle.any_node.specs.Opening.{IsFresh, IsFreshTrail, IsFreshDump, IsOpening, AreInOrder, AreFrom}
use Rattle.any_node.specs.Shows.{ShowsLow, ShowsBlock}
use Rattle.any_node.specs.Node.State.{disc, trail, monitor, dump}
use Rattle.any_node.specs.Node.Label.{Found, Taken}
use Rattle.any_node.specs.Node.Fact.{Enlisted, Durable, Started, Over}
use Rattle.any_node.proofs.Lists.{some≢none, some_is, no_front, each_map, each_at}
use Rattle.any_node.proofs.Values.{Absent, Once, by, Linked}
use Rattle.any_node.proofs.Parts.{True, more, clash, disc_came, dump_came, disc_number, dump_number, may_of, asked_of, two_kinds, over_here, started_here}
use Rattle.any_node.proofs.Discs.{IsGood}
use Rattle.any_node.proofs.Trails.{IsFiled, rows_of, order_least}
use Rattle.any_node.proofs.Invariant.{knows, of_disc, beside_monitor}
use Rattle.any_node.proofs.Chains.{waiting, Back, Runs}
use Rattle.any_node.proofs.Whole.{Whole, whole_step}
use Rattle.any_node.proofs.Quiet.{IsRun, IsEven}
use Rattle.any_node.proofs.Evens.{run_step, even_disc, even_monitor}
use Rattle.any_node.proofs.Volumes.{IsVolume, volume_more, volume_step}
use Rattle.any_node.proofs.Rooms.{IsRoomed, roomed_step}
use Rattle.any_node.proofs.Dumps.{Pair, IsDumped, pair_disc, pair_dump, dumped_more, dumped_step}

module _ (N : Layout) where
  pub record Deep (ss : List (State N)) (log : List (ℕ × Event N)) : Type 0 where
    pub whole : Whole N ss log
    pub runs : (q : ℕ) (s : Disc N) → slice_get ss q ≡ Some (disc s) → IsRun N s
    pub evens : (q r : ℕ) (s : Disc N) (m : Monitor N) → slice_get ss q ≡ Some (disc s) → slice_get ss r ≡ Some (monitor m) → IsEven N s m
    pub volumes : (q : ℕ) (s : Disc N) → slice_get ss q ≡ Some (disc s) → IsVolume (True N ss) s
    pub rooms : (q : ℕ) (s : Disc N) → slice_get ss q ≡ Some (disc s) → IsRoomed s
    pub pairs : (q r : ℕ) (s : Disc N) (u : Dump N) → slice_get ss q ≡ Some (disc s) → slice_get ss r ≡ Some (dump u) → s.number ≡ u.number → Pair s u
    pub dumps : (q : ℕ) (u : Dump N) → slice_get ss q ≡ Some (dump u) → IsDumped N (True N ss) u

  pairs_step : (ss : List (State N)) (log : List (ℕ × Event N)) (x : ℕ × Event N) → IsEnabled (node N) ss x → Deep ss log →
      (q r : ℕ) (s : Disc N) (u : Dump N) → slice_get (next_states (node N) ss x) q ≡ Some (disc s) → slice_get (next_states (node N) ss x) r ≡ Some (dump u) → s.number ≡ u.number → Pair s u
  pairs_step ss log x en d q r s u at at_u same =
      ⊎_elim
      (λ (a : (q ≢ x.0) × (slice_get ss q ≡ Some (disc s))).
      ⊎_elim
      (λ (b : (r ≢ x.0) × (slice_get ss r ≡ Some (dump u))). d.pairs q r s u a.1 b.1 same)
      (λ (b : (o : Dump N) × (r ≡ x.0) × (slice_get ss r ≡ Some (dump o)) × (u ≡ step_dump N o x.1)).
      (let is : s.number ≡ b.0.number = same ∙ ap (λ (z : Dump N). z.number) b.3 ∙ dump_number N b.0 x.1 in
      subst (λ (z : Dump N). Pair s z) (sym b.3)
      (pair_dump N (True N ss) s b.0 x.1 (λ i l t. started_here N ss d.whole.inv.apart q s a.1 i l (subst (λ (n : ℕ). True N ss (Started n i l)) (sym is) t)) (may_of N ss x r (dump b.0) en b.2 b.1) (asked_of N ss x r (dump b.0) en b.2 b.1) (d.pairs q r s b.0 a.1 b.2 is))))
      (dump_came N ss x r u at_u))
      (λ (a : (o : Disc N) × (q ≡ x.0) × (slice_get ss q ≡ Some (disc o)) × (s ≡ step_disc N o x.1)).
      (let number : a.0.number ≡ s.number = sym (ap (λ (z : Disc N). z.number) a.3 ∙ disc_number N a.0 x.1) in
      ⊎_elim
      (λ (b : (r ≢ x.0) × (slice_get ss r ≡ Some (dump u))).
      (let is : a.0.number ≡ u.number = number ∙ same in
      subst (λ (z : Disc N). Pair z u) (sym a.3)
      (pair_disc N (True N ss) a.0 u x.1 (λ i o t. over_here N ss d.whole.inv.apart r u b.1 i o (subst (λ (n : ℕ). True N ss (Over n i o)) is t)) (may_of N ss x q (disc a.0) en a.2 a.1).1 (asked_of N ss x q (disc a.0) en a.2 a.1) (d.pairs q r a.0 u a.2 b.1 is))))
      (λ (b : (o : Dump N) × (r ≡ x.0) × (slice_get ss r ≡ Some (dump o)) × (u ≡ step_dump N o x.1)).
      (let both : disc a.0 ≡ dump b.0 = two_kinds N ss x q r (disc a.0) (dump b.0) a.2 b.2 a.1 b.1 in absurd (cc (both))))
      (dump_came N ss x r u at_u)))
      (disc_came N ss x q s at)

  pub deep_step : (ss : List (State N)) (log : List (ℕ × Event N)) (x : ℕ × Event N) → IsEnabled (node N) ss x → Deep ss log → Deep (next_states (node N) ss x) (log ++ x ∷ [])
  deep_step ss log x en d =
      let w = d.whole in
      let up : (f : Fact N) → True N ss f → True N (next_states (node N) ss x) f = more N ss x en in
      record {
        whole = whole_step N ss log x en w;
        runs = of_disc N (λ z. IsRun N z) ss x d.runs
            (λ q o at is h. run_step N (True N ss) o x.1 (clash N ss w.inv.apart) (knows N ss w.inv) (may_of N ss x q (disc o) en at is).1 (asked_of N ss x q (disc o) en at is) (w.inv.discs q o at) h);
        evens = beside_monitor N (λ s m. IsEven N s m) ss x en d.evens
            (λ q r s m at at_m is h. even_disc N ss log w q r s m x.1 at at_m (may_of N ss x q (disc s) en at is).1 (asked_of N ss x q (disc s) en at is) (d.runs q s at) h)
            (λ q r s m at at_m is h. even_monitor N ss w.inv q r s m x.1 at at_m h);
        volumes = λ q s at. volume_more (True N ss) (True N (next_states (node N) ss x)) s up
            (of_disc N (λ z. IsVolume (True N ss) z) ss x d.volumes
            (λ p o at_o is h. volume_step N (True N ss) o x.1 (clash N ss w.inv.apart) (knows N ss w.inv) (may_of N ss x p (disc o) en at_o is).1 (asked_of N ss x p (disc o) en at_o is) (w.inv.discs p o at_o) h)
            q s at);
        rooms = of_disc N (λ z. IsRoomed z) ss x d.rooms
            (λ q o at is h. roomed_step N (True N ss) o (w.inv.discs q o at) h (clash N ss w.inv.apart) (knows N ss w.inv) x.1 (may_of N ss x q (disc o) en at is).1 (asked_of N ss x q (disc o) en at is));
        pairs = pairs_step ss log x en d;
        dumps = λ q u at. dumped_more N (True N ss) (True N (next_states (node N) ss x)) u up
            (⊎_elim
            (λ (a : (q ≢ x.0) × (slice_get ss q ≡ Some (dump u))). d.dumps q u a.1)
            (λ (a : (o : Dump N) × (q ≡ x.0) × (slice_get ss q ≡ Some (dump o)) × (u ≡ step_dump N o x.1)).
            subst (λ (z : Dump N). IsDumped N (True N ss) z) (sym a.3) (dumped_step N (True N ss) a.0 x.1 (may_of N ss x q (dump a.0) en a.2 a.1) (asked_of N ss x q (dump a.0) en a.2 a.1) (d.dumps q a.0 a.2)))
            (dump_came N ss x q u at));
      }

  pub deep_after : (ss : List (State N)) (log xs : List (ℕ × Event N)) → IsHistory (node N) ss xs → Deep ss log → Deep (states_after (node N) ss xs) (log ++ xs)
  deep_after ss log [] h d = subst (λ (us : List (ℕ × Event N)). Deep ss us) (sym (append-nil log)) d
  deep_after ss log (x ∷ xs) h d = subst (λ (us : List (ℕ × Event N)). Deep (states_after (node N) (next_states (node N) ss x) xs) us) (append_assoc log (x ∷ []) xs) (deep_after (next_states (node N) ss x) (log ++ x ∷ []) xs h.1 (deep_step ss log x h.0 d))

  -- the opening
  module _ (ss : List (State N)) (i : Image N) (m : N.Key → Option N.Val) (o : IsOpening ss i m) where
    first_good : (s : Disc N) → IsFresh i m s → IsGood (True N ss) s
    first_good s f = record {
      kept = λ t k live. inl (subst (λ (rs : List (AuditRecord N)). Absent t (on k rs)) (sym f.made) tt);
      first = λ k. ap (λ us. undo (s.map k) (on k us)) f.made ∙ f.map k;
      listed = subst (λ (rs : List (AuditRecord N)). Each (λ r. True N ss (Enlisted r.tx s.number)) rs) (sym f.made) tt;
      numbered = subst (λ (rs : List (AuditRecord N)). AreFrom s.first rs) (sym f.made) tt;
      behind = λ t e r has. absurd (subst (λ (rs : List (AuditRecord N)). Among rs r) f.made has);
      backed = λ t e. (let both : true ≡ false = sym e ∙ f.undone t in absurd (cc (both)));
      let_go = λ t e. (let both : true ≡ false = sym e ∙ f.released t in absurd (cc (both)));
      stack = λ t r has _. subst (λ (rs : List (AuditRecord N)). Among rs r) (f.left t) has;
    }

    order_from : (f g : ℕ) (rows : List (ℕ × AuditRecord N)) → AreInOrder f rows g → f ≤ g
    order_from f g [] a = a
    order_from f g (x ∷ rows) a = (let le : x.0 ≤ g = order_from x.0 g rows a.1 in omega (arith, a.0, le))

    order_zero : (f g : ℕ) (rows : List (ℕ × AuditRecord N)) → AreInOrder f rows g → AreInOrder 0 rows g
    order_zero f g [] a = omega arith
    order_zero f g (x ∷ rows) a = (omega arith, a.1)

    first_filed : (t : Trail N) → IsFreshTrail i t → IsFiled (True N ss) t
    first_filed t f =
        let rows : rows_of t ≡ t.before = ap (λ us. t.before ++ (us ++ t.offered)) f.landed ∙ ap (λ us. t.before ++ ([] ++ us)) f.offered ∙ append-nil t.before in
        record {
          spelled = λ d some. absurd (some (ap (λ us. own d (us ++ t.offered)) f.landed ∙ ap (λ us. own d ([] ++ us)) f.offered));
          order = subst (λ (us : List (ℕ × AuditRecord N)). AreInOrder 0 us t.present) (sym rows) (order_zero t.purged t.present t.before f.files);
          named = order_from t.purged t.present t.before f.files;
          floors = λ x has lt.
              (let le : t.purged ≤ x.0 = each_at (λ y. t.purged ≤ y.0) t.before x (order_least t.purged t.present t.before f.files) (subst (λ (us : List (ℕ × AuditRecord N)). Among us x) rows has) in
              absurd (omega (arith, le, lt)));
        }

    first_durable : (q : ℕ) (s : Disc N) → slice_get ss q ≡ Some (disc s) → (n : ℕ) → n < s.first → True N ss (Durable s.number n)
    first_durable q s at n lt =
        let here : Among N.discs s.number = o.parts.listed q s at in
        let t = o.parts.trails s.number here in
        let f : IsFreshTrail i t.1 = o.trails t.0 t.1 t.2 in
        let same : t.1.first s.number ≡ s.first = f.first s.number here (sym t.3) ∙ sym (o.discs q s at).first in
        (t.0, trail t.1, t.2, (t.3, omega (arith, lt, same)))

    first_volume : (q : ℕ) (s : Disc N) → slice_get ss q ≡ Some (disc s) → IsVolume (True N ss) s
    first_volume q s at =
        let f : IsFresh i m s = o.discs q s at in
        let low : (l : ℕ) → ShowsLow s l → l ≡ s.first = λ l h. ⊎_elim (λ (e : l ≡ s.low). e ∙ f.low) (λ (e : s.lowering ≡ Some l). absurd (some≢none l (sym e ∙ f.lowering))) h in
        let block : (b : N.Block) (n : ℕ) → ShowsBlock s b n → n + 1 ≡ s.first = λ b n h. ⊎_elim (λ (e : n ≡ s.drawn b). ap (λ x. x + 1) e ∙ f.drawn b) (λ (e : s.drawing b ≡ Some n). absurd (some≢none n (sym e ∙ f.drawing b))) h in
        let none : (r : AuditRecord N) → Among s.made r → ⊥ = λ r has. subst (λ (rs : List (AuditRecord N)). Among rs r) f.made has in
        record {
          lows = λ l h. (let e : l ≡ s.first = low l h in (((omega (arith, e)), (λ r has lt. absurd (none r has))), first_durable q s at (l - 1) (let p : 1 ≤ s.first = f.positive in omega (arith, e, p)), omega (arith, e)));
          blocks = λ b n h. (let e : n + 1 ≡ s.first = block b n h in (omega (arith, e), first_durable q s at n (omega (arith, e)), omega (arith, e)));
          covers = λ b n l h k r has. absurd (none r has);
          begun = λ j l has. absurd (subst (λ (us : List (ℕ × ℕ)). Among us (j, l)) f.starts has);
          alone = λ j l n has. absurd (subst (λ (us : List (ℕ × ℕ)). Among us (j, l)) f.starts has);
        }

    first_roomed : (q : ℕ) (s : Disc N) → slice_get ss q ≡ Some (disc s) → IsRoomed s
    first_roomed q s at =
        let f : IsFresh i m s = o.discs q s at in
        record {
          writing = λ k u e. absurd (some≢none u (sym e ∙ f.held k));
          fits = λ k here ks distinct taken. o.stands.room (N.block_of k) ks distinct
              (each_map (λ j. (N.block_of j ≡ N.block_of k) × IsTaken s j) (λ j. (N.block_of j ≡ N.block_of k) × (m j ≢ None)) ks
              (λ j h. (
                h.0,
                (λ e. ⊎_elim
                    (λ (some : s.map j ≢ None). some (f.map j ∙ f.base j (N.one_disc j k h.0 ∙ here) ∙ e))
                    (λ (w : s.written j ≡ true). (let both : true ≡ false = sym w ∙ f.written j in cc (both)))
                    h.1),
              )) taken);
        }

    first_pair : (q r : ℕ) (s : Disc N) (u : Dump N) → slice_get ss q ≡ Some (disc s) → slice_get ss r ≡ Some (dump u) → s.number ≡ u.number → Pair s u
    first_pair q r s u at at_u same =
        let f : IsFresh i m s = o.discs q s at in
        let g : IsFreshDump i u = o.dumps r u at_u in
        record {
          labels = λ l shows. ⊎_elim
              (λ (e : u.landed ≡ Some l). inl (start_of l, o.rests q r s u at at_u same ∙ ap (λ (x : Option (Label N)). elim x [ None ↦ None | Some a ↦ Some (start_of a) ]) e, omega arith))
              (λ (e : u.offered ≡ Some l). absurd (some≢none l (sym e ∙ g.offered))) shows;
          started = λ j n has. absurd (subst (λ (us : List (ℕ × ℕ)). Among us (j, n)) f.starts has);
          unsealed = λ j n c w. absurd (some≢none (j, n) (sym w ∙ f.way));
          ended = λ j c has. absurd (subst (λ (us : List (ℕ × ℕ)). Among us (j, c)) g.over has);
        }

    first_dumped : (r : ℕ) (u : Dump N) → slice_get ss r ≡ Some (dump u) → IsDumped N (True N ss) u
    first_dumped r u at =
        let g : IsFreshDump i u = o.dumps r u at in
        record {
          copies = λ j b n e. absurd (some≢none n (sym e ∙ g.copied j b));
          sound = λ j l c shows. ⊎_elim
              (λ (e : u.landed ≡ Some (Taken j l c)). ⊎_elim
              (λ (x : (i.dump u.number ≡ None) × (u.landed ≡ None)). absurd (some≢none (Taken j l c) (sym e ∙ x.1)))
              (λ (x : (b : Base N) × (i.dump u.number ≡ Some b) × (u.landed ≡ Some (Found b.position b.values))). (let both : Found x.0.position x.0.values ≡ Taken j l c = some_is (Found x.0.position x.0.values) (Taken j l c) (sym x.2 ∙ e) in absurd (cc (both))))
              g.landed)
              (λ (e : u.offered ≡ Some (Taken j l c)). absurd (some≢none (Taken j l c) (sym e ∙ g.offered))) shows;
        }

    pub deep_opening : Deep ss []
    deep_opening = record {
      whole = record {
        inv = record {
          apart = o.parts.apart;
          discs = λ q s at. first_good s (o.discs q s at);
          mons = λ q u at. (let e = o.mons q u at in record {
            backed = subst (λ (xs : List (Ending N)). Each (Backed N (True N ss)) (xs ++ u.offered)) (sym e.1) (subst (λ (xs : List (Ending N)). Each (Backed N (True N ss)) ([] ++ xs)) (sym e.2) tt);
            fresh = subst (λ (xs : List (Ending N)). Each (λ x. commits u.landed x.tx ≡ false) xs) (sym e.2) tt;
            once = subst (λ (xs : List (Ending N)). Once xs) (sym e.2) tt;
          });
          trails = λ q t at. first_filed t (o.trails q t at);
          agree = λ q r s u at at_u k. (let none : on k s.made ≡ [] = ap (λ us. on k us) (o.discs q s at).made in
              subst (λ (rs : List (AuditRecord N)). redo (commits u.landed) (s.base k) rs ≡ folded rs u.landed (s.base k)) (sym none)
              (subst (λ (xs : List (Ending N)). redo {N = N} (commits xs) (s.base k) [] ≡ folded {N = N} [] xs (s.base k)) (sym (o.mons r u at_u).1) refl));
        };
        stacked = λ q s at t k live. (let f = o.discs q s at in ap (λ us. on k us) (f.left t) ∙ sym (ap (λ us. reverse (by t (on k us))) f.made));
        fine = λ q r s u at at_u. (let f = o.discs q s at in record {
          chain = λ k. subst (λ (xs : List (Ending N)). Back N (folded (on k s.made) xs (s.base k)) (waiting xs s.left k (s.held k)) (s.map k)) (sym (o.mons r u at_u).1)
              (subst (λ (h : Option N.Tx). Back N (s.base k) (waiting [] s.left k h) (s.map k)) (sym (f.held k)) (sym (f.map k)));
          runs = λ k. subst (λ (xs : List (Ending N)). Runs N (on k s.made) xs (s.base k)) (sym (o.mons r u at_u).1) tt;
        });
        wrote = λ q s at t k here live. sym (ap (λ us. by t (on k us)) (o.discs q s at).made);
      };
      runs = λ q s at. (let f = o.discs q s at in record {
        tail = λ t k live. ([], [], ap (λ xs. on k xs) f.made, tt, tt);
        linked = λ k. subst (λ (xs : List (AuditRecord N)). Linked (s.base k) (on k xs)) (sym f.made) tt;
        ends = λ k. ap (λ xs. latest (s.base k) (on k xs)) f.made ∙ sym (f.map k);
      });
      evens = λ q r s u at at_u k P R e done. (let f = o.discs q s at in
          let nothing : P ≡ [] = no_front P R (sym e ∙ ap (λ xs. on k xs) f.made) in
          subst (λ (xs : List (AuditRecord N)). latest (s.base k) xs ≡ redo (commits u.landed) (s.base k) xs) (sym nothing) refl);
      volumes = first_volume;
      rooms = first_roomed;
      pairs = first_pair;
      dumps = first_dumped;
    }
