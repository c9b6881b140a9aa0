-- The moves on the table: each keeps its rule.
use Rattle.std.proofs.Common.{◌≡◌, ◌≢◌, ◌⊎◌, ℕ, zero, suc, ◌+◌, ◌*◌, ◌/◌, ◌%◌, ◌^◌, ◌<◌, List, [], ◌∷◌, ◌++◌, length, set, Option, Some, refl, ap, sym, ◌∙◌, subst, ⊎_elim, inl, inr, arith, length-append}
use Rattle.std.specs.Prelude.{slice_index, slice_set}
use Rattle.std.proofs.lemmas.List.{append-nil}
use Rattle.std.proofs.Math.Nat.{mod-add-div', add-mul-mod_self_right}
use mathlib.Core.Option.{none, some, some-injective, some-ne-none}
use mathlib.Core.List.{IsPrefix}
use lib.ListN.{get_elem?}
use Rattle.atomic_table.specs.Table.{State, Me, step, keeps, Allows, Splits, Joins, Final, Seen}
use Rattle.atomic_table.proofs.Lists.{at_set, at_snoc, set_again}
use Rattle.chronicle.specs.declared.view.View.{View}
use Rattle.chronicle.specs.Histories.{Rules, FactsStay, IsMonotone, events_of, states_after, IsEnabled, IsHistory}
use Rattle.chronicle.specs.Views.{Among, FirstIsAlone, first_part, parts_of, other_parts, numbers, unopened, spent, view_of, held, without_parts, with_first, with_others, joined, settled}
use Rattle.chronicle.specs.Counting.{Fits, IsOpen, Counts, Opened, IsAppended, Appended, Settled}
use Rattle.chronicle.proofs.Prefixes.{prefix_self, prefix_trans, longer_cases}
use Rattle.chronicle.proofs.Events.{events_of-push_other, none_between, sandwich}
use Rattle.chronicle.proofs.States.{still_enabled, history-append, history_front, history_rest, length-states_after, nothing_more}
use Rattle.chronicle.proofs.Among.{first_among, among_left, among_right, among_append}

mod_step : (n m : ℕ) → (n % m + 1) % m ≡ (n + 1) % m
mod_step n m =
    let whole : n % m + n / m * m ≡ n = mod-add-div' n m in
    let more : (n % m + 1) + n / m * m ≡ n + 1 = omega (arith, whole) in
    sym (add-mul-mod_self_right (n % m + 1) (n / m) m) ∙ ap (λ (k : ℕ). k % m) more

next_word : (n : ℕ) → (n % 2 ^ 64 + 1) % 2 ^ 64 ≡ (n + 1) % 2 ^ 64
next_word n = mod_step n (2 ^ 64)

module _ {S E F : Type 0} (R : Rules S E F) where
  -- the rule as the table asks it
  abbrev pub Holds : State (Unit {0}) (View S E) → Type 0
  Holds s = Counts R s.words s.views

  -- a seat that is live stands in a history that was opened
  pub is_open : (words : List ℕ) (views : List (View S E)) (id : ℕ) (v : View S E) → Counts R words views → get_elem? views id ≡ some v → v.stage ≡ 1 → IsOpen R words views
  is_open words views id v (inr k) at live = k
  is_open words views zero v (inl k) at live =
      let same : unopened {S = S} {E = E} ≡ v = some-injective (unopened {S = S} {E = E}) v (subst (λ (l : List (View S E)). get_elem? l 0 ≡ some v) k.1 at) in
      let was : 0 ≡ v.stage = ap (λ (u : View S E). u.stage) same in absurd (omega arith)
  is_open words views (suc id) v (inl k) at live = absurd (some-ne-none v (sym (subst (λ (l : List (View S E)). get_elem? l (suc id) ≡ some v) k.1 at)))

  -- one view is changed
  fits_set : (opening : List S) (log now : List (ℕ × E)) (views : List (View S E)) (id : ℕ) (w : View S E)
      → ((j : ℕ) (u : View S E) → j ≢ id → get_elem? views j ≡ some u → Fits R opening now u) → Fits R opening now w
      → (j : ℕ) (u : View S E) → get_elem? (set views id w) j ≡ some u → Fits R opening now u
  fits_set opening log now views id w others mine j u e =
      ⊎_elim
      (λ (x : (j ≡ id) × (w ≡ u)). subst (λ (y : View S E). Fits R opening now y) x.1 mine)
      (λ (x : (j ≢ id) × (get_elem? views j ≡ some u)). others j u x.0 x.1)
      (at_set views id j w u e)

  -- no part is of two seats
  abbrev pub Apart : List (View S E) → Type 0
  Apart views = (i j : ℕ) (v w : View S E) (p : ℕ) → get_elem? views i ≡ some v → get_elem? views j ≡ some w → Among (held v) p → Among (held w) p → i ≡ j

  -- where a changed view has no part that it had not, its parts are its own still
  whose : (views : List (View S E)) (id : ℕ) (v w : View S E) → get_elem? views id ≡ some v → ((p : ℕ) → Among (held w) p → Among (held v) p)
      → (i : ℕ) (a : View S E) (p : ℕ) → get_elem? (set views id w) i ≡ some a → Among (held a) p → (b : View S E) × (get_elem? views i ≡ some b) × Among (held b) p
  whose views id v w at fewer i a p e among =
      ⊎_elim
      (λ (x : (i ≡ id) × (w ≡ a)). (v, subst (λ (k : ℕ). get_elem? views k ≡ some v) (sym x.0) at, fewer p (subst (λ (u : View S E). Among (held u) p) (sym x.1) among)))
      (λ (x : (i ≢ id) × (get_elem? views i ≡ some a)). (a, x.1, among))
      (at_set views id i w a e)

  apart_set : (views : List (View S E)) (id : ℕ) (v w : View S E) → get_elem? views id ≡ some v → ((p : ℕ) → Among (held w) p → Among (held v) p) → Apart views → Apart (set views id w)
  apart_set views id v w at fewer all i j a b p ei ej mi mj =
      let x = whose views id v w at fewer i a p ei mi in
      let y = whose views id v w at fewer j b p ej mj in
      all i j x.0 y.0 p x.1 y.1 x.2 y.2

  abbrev LastAt : List (View S E) → View S E → ℕ → View S E → Type 0
  LastAt l u k c = (k ≡ length l) × (u ≡ c)

  at_end : (l : List (View S E)) (u c : View S E) (k : ℕ) → get_elem? (l ++ u ∷ []) k ≡ some c → (get_elem? l k ≡ some c) ⊎ LastAt l u k c
  at_end [] u c zero e = inr (refl, some-injective u c e)
  at_end [] u c (suc k) e = absurd (some-ne-none c (sym e))
  at_end (y ∷ ys) u c zero e = inl e
  at_end (y ∷ ys) u c (suc k) e = ⊎_elim (λ (t : get_elem? ys k ≡ some c). inl t) (λ (t : LastAt ys u k c). inr (ap suc t.0, t.1)) (at_end ys u c k e)

  -- a new seat, with parts of nobody
  apart_snoc : (views : List (View S E)) (w : View S E) → ((i : ℕ) (a : View S E) (p : ℕ) → get_elem? views i ≡ some a → Among (held a) p → Among (held w) p → ⊥) → Apart views → Apart (views ++ w ∷ [])
  apart_snoc views w nobody all i j a b p ei ej mi mj =
      ⊎_elim
      (λ (x : get_elem? views i ≡ some a). ⊎_elim
      (λ (y : get_elem? views j ≡ some b). all i j a b p x y mi mj)
      (λ (y : LastAt views w j b). absurd (nobody i a p x mi (subst (λ (u : View S E). Among (held u) p) (sym y.1) mj)))
      (at_end views w b j ej))
      (λ (x : LastAt views w i a). ⊎_elim
      (λ (y : get_elem? views j ≡ some b). absurd (nobody j b p y mj (subst (λ (u : View S E). Among (held u) p) (sym x.1) mi)))
      (λ (y : LastAt views w j b). x.0 ∙ sym y.0)
      (at_end views w b j ej))
      (at_end views w a i ei)

  -- the opening
  pub opens : (ss : List S) (slots id : ℕ) (me : Me (Unit {0}) (View S E)) → me.0 ≡ unopened → Allows Holds slots id me 0 (λ n. n) (Opened ss (step slots 0 0 0 none) me)
  opens ss slots id me is s (inr k) len at small = absurd ((k.fits id me.0 at).opened (ap (λ (u : View S E). u.stage) is))
  opens ss slots zero me is s (inl k) len at small =
      let w : View S E = view_of ss (numbers 0 (length ss)) [] in
      let words : slice_set s.words 0 (slice_index s.words 0) ≡ 0 ∷ [] = ap (λ (l : List ℕ). slice_set l 0 (slice_index l 0)) k.0 in
      let views : set s.views 0 w ≡ w ∷ [] = ap (λ (l : List (View S E)). set l 0 w) k.1 in
      let one : IsOpen R (0 ∷ []) (w ∷ []) = record {
        opening = ss;
        log = [];
        word = refl;
        legal = tt;
        fits = first_fits ss w refl;
        apart = alone w;
      } in
      (w, keeps, tt, inr (subst (λ (l : List ℕ). IsOpen R l (set s.views 0 w)) (sym words) (subst (λ (l : List (View S E)). IsOpen R (0 ∷ []) l) (sym views) one)), (refl, refl))
    where
      first_fits : (ss : List S) (w : View S E) → w ≡ view_of ss (numbers 0 (length ss)) [] → (id : ℕ) (v : View S E) → get_elem? (w ∷ []) id ≡ some v → Fits R ss [] v
      first_fits ss w is zero v e =
          let same : view_of ss (numbers 0 (length ss)) [] ≡ v = sym is ∙ some-injective w v e in
          subst (λ (u : View S E). Fits R ss [] u) same (record { opened = λ (h : 1 ≡ 0). omega arith; same = λ _. refl; begins = ([], refl); hears = ([], refl); mine = λ p _. refl; theirs = λ p has. absurd has })
      first_fits ss w is (suc id) v e = absurd (some-ne-none v (sym e))

      alone : (w : View S E) → Apart (w ∷ [])
      alone w zero zero a b p ei ej mi mj = refl
      alone w zero (suc j) a b p ei ej mi mj = absurd (some-ne-none b (sym ej))
      alone w (suc i) j a b p ei ej mi mj = absurd (some-ne-none a (sym ei))
  opens ss slots (suc id) me is s (inl k) len at small = absurd (some-ne-none me.0 (sym (subst (λ (l : List (View S E)). get_elem? l (suc id) ≡ some me.0) k.1 at)))

  -- an event is appended
  pub appends : FactsStay R → IsMonotone R → (x : Option E) (e : E) (p slots id : ℕ) (me : Me (Unit {0}) (View S E)) → x ≡ Some e → me.0.stage ≡ 1 → first_part me.0.parts ≡ Some p → IsEnabled R (states_after R me.0.opening me.0.seen) (p, e)
      → Allows Holds slots id me 0 (λ n. (n + 1) % 2 ^ 64) (Appended R x (step slots 0 1 0 none) me)
  appends law grows x e p slots id me is live first en s h len at small =
      let k = is_open s.words s.views id me.0 h at live in
      let f = k.fits id me.0 at in
      let v : View S E = me.0 in
      let rest : List (ℕ × E) = f.begins.0 in
      let log : List (ℕ × E) = v.seen ++ rest in
      let whole : log ≡ k.log = f.begins.1 in
      let same : v.opening ≡ k.opening = f.same live in
      let new : ℕ × E = (p, e) in
      let among : Among v.parts p = first_among v.parts p first in
      let mine : events_of p log ≡ events_of p v.seen = ap (events_of p) whole ∙ f.mine p among in
      let was : IsHistory R v.opening log = subst (λ (l : List (ℕ × E)). IsHistory R v.opening l) (sym whole) (subst (λ (o : List S). IsHistory R o k.log) (sym same) k.legal) in
      let may : IsEnabled R (states_after R v.opening log) new = still_enabled R law grows v.opening v.seen rest new was mine en in
      let legal : IsHistory R v.opening (log ++ new ∷ []) = history-append R v.opening log (new ∷ []) was (may, tt) in
      let w : View S E = view_of v.opening v.parts (log ++ new ∷ []) in
      let count : length (log ++ new ∷ []) ≡ length log + 1 = length-append log (new ∷ []) in
      let found : slice_index s.words 0 ≡ length log % 2 ^ 64 = ap (λ (l : List ℕ). slice_index l 0) k.word ∙ ap (λ (l : List (ℕ × E)). length l % 2 ^ 64) (sym whole) in
      let word : slice_set s.words 0 ((slice_index s.words 0 + 1) % 2 ^ 64) ≡ (length (log ++ new ∷ []) % 2 ^ 64) ∷ [] =
      ap (λ (l : List ℕ). slice_set l 0 ((slice_index s.words 0 + 1) % 2 ^ 64)) k.word ∙ ap (λ (n : ℕ). ((n + 1) % 2 ^ 64) ∷ []) found ∙ ap (λ (n : ℕ). n ∷ []) (next_word (length log) ∙ ap (λ (n : ℕ). n % 2 ^ 64) (sym count)) in
      let others : (j : ℕ) (u : View S E) → j ≢ id → get_elem? s.views j ≡ some u → Fits R v.opening (log ++ new ∷ []) u = λ j u n there.
      let g = k.fits j u there in record {
        opened = g.opened;
        same = λ z. g.same z ∙ sym same;
        begins = prefix_trans u.seen log (log ++ new ∷ []) (subst (λ (l : List (ℕ × E)). IsPrefix u.seen l) (sym whole) g.begins) (new ∷ [], refl);
        hears = prefix_trans u.heard log (log ++ new ∷ []) (subst (λ (l : List (ℕ × E)). IsPrefix u.heard l) (sym whole) g.hears) (new ∷ [], refl);
        mine = λ q has. events_of-push_other q p e log (λ pq. n (k.apart j id u v q there at (among_left u.parts u.more q has) (among_left v.parts v.more q (subst (λ (r : ℕ). Among v.parts r) pq among)))) ∙ ap (events_of q) whole ∙ g.mine q has;
        theirs = λ q has. events_of-push_other q p e log (λ pq. n (k.apart j id u v q there at (among_right u.parts u.more q has) (among_left v.parts v.more q (subst (λ (r : ℕ). Among v.parts r) pq among)))) ∙ ap (events_of q) whole ∙ g.theirs q has;
      } in
      let own_fits : Fits R v.opening (log ++ new ∷ []) w = record { opened = λ (z : 1 ≡ 0). omega arith; same = λ _. refl; begins = prefix_self (log ++ new ∷ []); hears = (log ++ new ∷ [], refl); mine = λ q has. refl; theirs = λ q has. absurd has } in (
        w,
        keeps,
        tt,
        inr (record {
          opening = v.opening;
          log = log ++ new ∷ [];
          word = word;
          legal = legal;
          fits = fits_set v.opening log (log ++ new ∷ []) s.views id w others own_fits;
          apart = apart_set s.views id v w at (λ q has. among_left v.parts v.more q (subst (λ (l : List ℕ). Among l q) (append-nil v.parts) has)) k.apart;
        }),
        (
          (λ d isd.
              let ed : e ≡ d = cc (is, isd) in
              subst (λ (y : E). IsAppended R y v (slice_index s.words 0) w) ed (record { part = p; between = rest; first = first; view = refl; others = none_between p v.seen rest mine; number = found; legal = legal })),
          refl,
        ),
      )

  -- a seat without a part is cut off
  pub notes : (id : ℕ) (v : View S E) → v.stage ≡ 1 → Splits Holds id v v (without_parts v)
  notes id v live s h at =
      let k = is_open s.words s.views id v h at live in
      let f = k.fits id v at in
      let again : set s.views id v ≡ s.views = set_again s.views id v at in
      let mine : Fits R k.opening k.log (without_parts v) = record { opened = f.opened; same = f.same; begins = f.begins; hears = (k.log, refl); mine = λ p has. absurd has; theirs = λ p has. absurd has } in
      inr (subst (λ (l : List (View S E)). IsOpen R s.words (l ++ without_parts v ∷ [])) (sym again) (record {
        opening = k.opening;
        log = k.log;
        word = k.word;
        legal = k.legal;
        fits = λ j u e. ⊎_elim (λ (x : get_elem? s.views j ≡ some u). k.fits j u x) (λ (x : without_parts v ≡ u). subst (λ (y : View S E). Fits R k.opening k.log y) x mine) (at_snoc s.views (without_parts v) u j e);
        apart = apart_snoc s.views (without_parts v) (λ i a p e one two. two) k.apart;
      }))

  others_fewer : (ps : List ℕ) (p : ℕ) → Among (other_parts ps) p → Among ps p
  others_fewer [] p has = has
  others_fewer (q ∷ ps) p has = inr has

  first_fewer : (ps : List ℕ) (p : ℕ) → Among (parts_of (first_part ps)) p → Among ps p
  first_fewer [] p has = has
  first_fewer (q ∷ ps) p has = ⊎_elim (λ (x : q ≡ p). inl x) (λ x. absurd x) has

  -- the first part is cut off
  pub deals : (id : ℕ) (v : View S E) → v.stage ≡ 1 → v.more ≡ [] → FirstIsAlone v.parts → Splits Holds id v (with_others v) (with_first v)
  deals id v live bare fresh s h at =
      let k = is_open s.words s.views id v h at live in
      let f = k.fits id v at in
      let left : Fits R k.opening k.log (with_others v) = record { opened = f.opened; same = f.same; begins = f.begins; hears = f.hears; mine = λ p has. f.mine p (others_fewer v.parts p has); theirs = f.theirs } in
      let right : Fits R k.opening k.log (with_first v) = record { opened = f.opened; same = f.same; begins = f.begins; hears = (k.log, refl); mine = λ p has. f.mine p (first_fewer v.parts p has); theirs = λ p has. absurd has } in
      let l : List (View S E) = set s.views id (with_others v) in
      let all_fit : (j : ℕ) (u : View S E) → get_elem? l j ≡ some u → Fits R k.opening k.log u = fits_set k.opening k.log k.log s.views id (with_others v) (λ j u n e. k.fits j u e) left in
      let apart : Apart l = apart_set s.views id v (with_others v) at (λ p has. ⊎_elim (λ (m : Among (other_parts v.parts) p). among_left v.parts v.more p (others_fewer v.parts p m)) (λ (m : Among v.more p). among_right v.parts v.more p m) (among_append (other_parts v.parts) v.more p has)) k.apart in
      let nobody : (i : ℕ) (a : View S E) (p : ℕ) → get_elem? l i ≡ some a → Among (held a) p → Among (held (with_first v)) p → ⊥ = λ i a p e one two'.
      let two : Among (parts_of (first_part v.parts)) p = subst (λ (l : List ℕ). Among l p) (append-nil (parts_of (first_part v.parts))) two' in ⊎_elim
      (λ (x : (i ≡ id) × (with_others v ≡ a)). ⊎_elim (λ (m : Among (other_parts v.parts) p). fresh p two m) (λ (m : Among v.more p). subst (λ (l : List ℕ). Among l p) bare m) (among_append (other_parts v.parts) v.more p (subst (λ (u : View S E). Among (held u) p) (sym x.1) one)))
      (λ (x : (i ≢ id) × (get_elem? s.views i ≡ some a)). x.0 (k.apart i id a v p x.1 at one (among_left v.parts v.more p (first_fewer v.parts p two))))
      (at_set s.views id i (with_others v) a e) in
      inr (record {
        opening = k.opening;
        log = k.log;
        word = k.word;
        legal = k.legal;
        fits = λ j u e. ⊎_elim (λ (x : get_elem? l j ≡ some u). all_fit j u x) (λ (x : with_first v ≡ u). subst (λ (y : View S E). Fits R k.opening k.log y) x right) (at_snoc l (with_first v) u j e);
        apart = apart_snoc l (with_first v) nobody apart;
      })

  -- the original seat whose parts a part is among, once two seats are put together
  abbrev Owner : List (View S E) → ℕ → ℕ → View S E → View S E → ℕ → View S E → ℕ → Type 0
  Owner views id other v w i a p = (i ≢ other) × (((i ≡ id) × (Among (held v) p ⊎ Among (held w) p)) ⊎ ((i ≢ id) × (get_elem? views i ≡ some a) × Among (held a) p))

  owner : (views : List (View S E)) (id other : ℕ) (v w : View S E) (i : ℕ) (a : View S E) (p : ℕ) → get_elem? (set (set views id (joined v w)) other spent) i ≡ some a → Among (held a) p → Owner views id other v w i a p
  owner views id other v w i a p e has =
      ⊎_elim
      (λ (x : (i ≡ other) × (spent ≡ a)). absurd (subst (λ (u : View S E). Among (held u) p) (sym x.1) has))
      (λ (x : (i ≢ other) × (get_elem? (set views id (joined v w)) i ≡ some a)). (
        x.0,
        ⊎_elim
            (λ (y : (i ≡ id) × (joined v w ≡ a)). inl (y.0, ⊎_elim (λ (m : Among v.parts p). inl (among_left v.parts v.more p m)) (λ m. inr m) (among_append v.parts (held w) p (subst (λ (u : View S E). Among (held u) p) (sym y.1) has))))
            (λ (y : (i ≢ id) × (get_elem? views i ≡ some a)). inr (y.0, y.1, has))
            (at_set views id i (joined v w) a x.1),
      ))
      (at_set (set views id (joined v w)) other i spent a e)

  apart_joined : (views : List (View S E)) (id other : ℕ) (v w : View S E) → get_elem? views id ≡ some v → get_elem? views other ≡ some w → Apart views → Apart (set (set views id (joined v w)) other spent)
  apart_joined views id other v w at there all i j a b p ei ej mi mj =
      let x = owner views id other v w i a p ei mi in
      let y = owner views id other v w j b p ej mj in
      ⊎_elim
      (λ (s : (i ≡ id) × (Among (held v) p ⊎ Among (held w) p)). ⊎_elim
      (λ (t : (j ≡ id) × (Among (held v) p ⊎ Among (held w) p)). s.0 ∙ sym t.0)
      (λ (t : (j ≢ id) × (get_elem? views j ≡ some b) × Among (held b) p). ⊎_elim
      (λ (m : Among (held v) p). absurd (t.0 (all j id b v p t.1 at t.2 m)))
      (λ (m : Among (held w) p). absurd (y.0 (all j other b w p t.1 there t.2 m)))
      s.1)
      y.1)
      (λ (s : (i ≢ id) × (get_elem? views i ≡ some a) × Among (held a) p). ⊎_elim
      (λ (t : (j ≡ id) × (Among (held v) p ⊎ Among (held w) p)). ⊎_elim
      (λ (m : Among (held v) p). absurd (s.0 (all i id a v p s.1 at s.2 m)))
      (λ (m : Among (held w) p). absurd (x.0 (all i other a w p s.1 there s.2 m)))
      t.1)
      (λ (t : (j ≢ id) × (get_elem? views j ≡ some b) × Among (held b) p). all i j a b p s.1 t.1 s.2 t.2)
      y.1)
      x.1

  -- two seats are put together
  pub joins : (id other : ℕ) (v w : View S E) → v.stage ≡ 1 → w.more ≡ [] → Joins Holds id v other w (joined v w) spent
  joins id other v w live bare s h at differ there' =
      let k = is_open s.words s.views id v h at live in
      let there : get_elem? s.views other ≡ some w = ⊎_elim (λ (x : (other ≡ id) × (joined v w ≡ w)). absurd (differ x.0)) (λ (x : (other ≢ id) × (get_elem? s.views other ≡ some w)). x.1) (at_set s.views id other (joined v w) w there') in
      let f = k.fits id v at in
      let g = k.fits other w there in
      let both : Fits R k.opening k.log (joined v w) = record {
        opened = f.opened;
        same = f.same;
        begins = f.begins;
        hears = g.begins;
        mine = f.mine;
        theirs = λ p has. ⊎_elim
            (λ (m : Among w.parts p). g.mine p m)
            (λ (m : Among w.more p). absurd (subst (λ (l : List ℕ). Among l p) bare m))
            (among_append w.parts w.more p has);
      } in
      let gone : Fits R k.opening k.log spent = record { opened = λ (z : 2 ≡ 0). omega arith; same = λ (z : 2 ≡ 1). absurd (omega arith); begins = (k.log, refl); hears = (k.log, refl); mine = λ p has. absurd has; theirs = λ p has. absurd has } in
      let l : List (View S E) = set s.views id (joined v w) in
      inr (record {
        opening = k.opening;
        log = k.log;
        word = k.word;
        legal = k.legal;
        fits = fits_set k.opening k.log k.log l other spent (λ j u n e. fits_set k.opening k.log k.log s.views id (joined v w) (λ i a m d. k.fits i a d) both j u e) gone;
        apart = apart_joined s.views id other v w at there k.apart;
      })

  -- what was put in is taken in
  pub settles : (slots id : ℕ) (me : Me (Unit {0}) (View S E)) → me.0.stage ≡ 1 → Allows Holds slots id me 0 (λ n. n) (Settled R (step slots 0 0 0 none) me)
  settles slots id me live s h len at small =
      let k = is_open s.words s.views id me.0 h at live in
      let v : View S E = me.0 in
      let f = k.fits id v at in
      let w : View S E = settled v in
      let longest = longer_cases v.seen v.heard k.log f.begins f.hears in
      let same : v.opening ≡ k.opening = f.same live in
      let mine : (p : ℕ) → Among v.parts p → events_of p k.log ≡ events_of p w.seen = λ p m. sandwich p v.seen w.seen k.log longest.0 longest.2 (f.mine p m) in
      let theirs : (p : ℕ) → Among v.more p → events_of p k.log ≡ events_of p w.seen = λ p m. sandwich p v.heard w.seen k.log longest.1 longest.2 (f.theirs p m) in
      let fit : Fits R k.opening k.log w = record {
        opened = f.opened;
        same = f.same;
        begins = longest.2;
        hears = (k.log, refl);
        mine = λ p has. ⊎_elim (mine p) (theirs p) (among_append v.parts v.more p has);
        theirs = λ p has. absurd has;
      } in
      let word : slice_set s.words 0 (slice_index s.words 0) ≡ (length k.log % 2 ^ 64) ∷ [] = ap (λ (l : List ℕ). slice_set l 0 (slice_index l 0)) k.word in
      let legal : IsHistory R v.opening w.seen = history_front R v.opening w.seen longest.2.0 (subst (λ (l : List (ℕ × E)). IsHistory R v.opening l) (sym longest.2.1) (subst (λ (o : List S). IsHistory R o k.log) (sym same) k.legal)) in (
        w,
        keeps,
        tt,
        inr (record {
          opening = k.opening;
          log = k.log;
          word = word;
          legal = k.legal;
          fits = fits_set k.opening k.log k.log s.views id w (λ j u n e. k.fits j u e) fit;
          apart = apart_set s.views id v w at (λ p has. subst (λ (l : List ℕ). Among l p) (append-nil (held v)) has) k.apart;
        }),
        (
          record {
            view = refl;
            one = longest.0;
            other = longest.1;
            mine = λ p m. sym (mine p m) ∙ f.mine p m;
            theirs = λ p m. sym (theirs p m) ∙ f.theirs p m;
            legal = legal;
          },
          refl,
        ),
      )

  -- a seat with all parts has seen the whole history
  pub saw_all : (id : ℕ) (v : View S E) (ws : List ℕ) (xs : List (Unit {0})) → v.stage ≡ 1 → ((p : ℕ) → p < length v.opening → Among v.parts p) → Final (Seen Holds id v) ws xs → (ws ≡ (length v.seen % 2 ^ 64) ∷ []) × IsHistory R v.opening v.seen
  saw_all id v ws xs live all last =
      let s = last.0 in
      let k = is_open s.words s.views id v last.1.0 last.1.1 live in
      let f = k.fits id v last.1.1 in
      let same : v.opening ≡ k.opening = f.same live in
      let rest : List (ℕ × E) = f.begins.0 in
      let whole : v.seen ++ rest ≡ k.log = f.begins.1 in
      let was : IsHistory R v.opening (v.seen ++ rest) = subst (λ (l : List (ℕ × E)). IsHistory R v.opening l) (sym whole) (subst (λ (o : List S). IsHistory R o k.log) (sym same) k.legal) in
      let no_more : (p : ℕ) → p < length (states_after R v.opening v.seen) → events_of p rest ≡ [] = λ p lt.
      let small : p < length v.opening = subst (λ (n : ℕ). p < n) (length-states_after R v.opening v.seen) lt in
      none_between p v.seen rest (ap (events_of p) whole ∙ f.mine p (all p small)) in
      let empty : rest ≡ [] = nothing_more R (states_after R v.opening v.seen) rest (history_rest R v.opening v.seen rest was) no_more in
      let is : k.log ≡ v.seen = sym whole ∙ ap (λ (l : List (ℕ × E)). v.seen ++ l) empty ∙ append-nil v.seen in
      (sym last.2 ∙ k.word ∙ ap (λ (l : List (ℕ × E)). (length l % 2 ^ 64) ∷ []) is, history_front R v.opening v.seen rest was)
