-- The devices that stand behind locks, when one more does.
use Rattle.std.specs.Prelude.{◌≡◌, ℕ, zero, suc, ◌+◌, ◌-◌, ◌<◌, ◌≤◌, List, [], ◌∷◌, ◌++◌, length, map, min, true, Option, Some, None, IsSome}
use Rattle.std.specs.List.{Contains}
use Rattle.std.proofs.Common.{refl, sym, ap, subst, ◌∙◌, arith, inl, inr, ⊎_elim, length-append}
use Rattle.std.proofs.lemmas.Bool.Decides.{leb_tells}
use Rattle.std.proofs.lemmas.List.Elements.{Contains-append_left, Contains-append_right, Contains-push}
use Rattle.node_machine.specs.Opening.{Found, VolumeFound, each_from, found_volume}
use Rattle.disk_model.specs.declared.disk.Disk as disk
use Rattle.node_machine.specs.Parts.{PartState}
use Rattle.run_outcomes.specs.Devices.{discs, dump_device, volume_device}
use Rattle.tmf_model.specs.Config.{IsNumber, IsWithin}
use Rattle.tmf_model.specs.declared.config.Volume.{Volume}
use Rattle.run_states.proofs.Lists.{item_there}
use Rattle.run_states.specs.Rows.{AreLocked, AreLockedUpTo, IsHeld, RowsView, all_places, no_rows, total, with_state}
use Rattle.run_states.specs.States.{IsBuilt, IsLeftAlone, is_monitor}
use Rattle.run_states.specs.Volumes.{AreVolumesNamed, IsOfLost}
use Rattle.run_states.specs.declared.state.State.{State}
use Rattle.run_states.specs.declared.state.State.TheVariants.{Monitor, Writer, Disc, Dumper, Idle}

-- a list of numbers from the first on, with one more at its end
each_more : (first n : ℕ) → each_from (λ k. k) first (suc n) ≡ each_from (λ k. k) first n ++ (first + n) ∷ []
each_more first zero = let same : first ≡ first + 0 = omega arith in ap (λ x. x ∷ []) same
each_more first (suc n) =
    let same : (first + 1) + n ≡ first + suc n = omega arith in
    ap (λ l. first ∷ l) (each_more (first + 1) n ∙ ap (λ x. each_from (λ k. k) (first + 1) n ++ x ∷ []) same)

-- what stood there does
pub record Grows (s t : RowsView) : Type 0 where
  pub trails : (m : ℕ) → Contains s.trails m → Contains t.trails m
  pub discs : (m : ℕ) → Contains s.discs m → Contains t.discs m
  pub dumpers : (m : ℕ) → Contains s.dumpers m → Contains t.dumpers m
  pub alone : (m : ℕ) → Contains s.alone m → Contains t.alone m

held_still : (s t : RowsView) → Grows s t → (m : ℕ) → IsHeld s m → IsHeld t m
held_still s t g m h =
    ⊎_elim (λ a. inl (g.trails m a)) (λ b. inr (
    ⊎_elim (λ c. inl (c.0, g.discs c.0 c.1, c.2)) (λ d. inr (
    ⊎_elim (λ e. inl (e.0, g.dumpers e.0 e.1, e.2)) (λ f. inr (g.alone m f)) d)) b)) h

-- the next device stands there too
pub record IsNext (found : Found) (n : ℕ) (s t : RowsView) : Type 0 where
  pub grows : Grows s t
  pub here : IsHeld t n
  pub trails_are : t.trails ≡ each_from (λ k. k) 1 (min n (length found.config.trails))
  pub disc : (v : ℕ) → IsSome (found_volume found v) → volume_device v ≡ n → Contains t.discs v
  pub dumper : (v : ℕ) → IsSome (found_volume found v) → dump_device v ≡ n → Contains t.dumpers v
  pub count : total t ≡ total s + 1
  pub few : (length t.discs ≤ n - 4) × (length t.discs ≤ discs)

pub locked_next : (found : Found) (n : ℕ) (s t : RowsView) → 1 ≤ n → AreLockedUpTo found n s → IsNext found n s t → AreLockedUpTo found (n + 1) t
locked_next found n s t some so next = record {
  trails_are = (let same : (n + 1) - 1 ≡ n = omega arith in subst (λ k. t.trails ≡ each_from (λ i. i) 1 (min k (length found.config.trails))) (sym same) next.trails_are);
  discs_are = λ v is lt. ⊎_elim (λ h. next.grows.discs v (so.discs_are v is h.1)) (λ h. (let same : volume_device v ≡ n = omega (arith, lt, h.1) in next.disc v is same)) (leb_tells (suc (volume_device v)) n);
  dumpers_are = λ v is lt. ⊎_elim (λ h. next.grows.dumpers v (so.dumpers_are v is h.1)) (λ h. (let same : dump_device v ≡ n = omega (arith, lt, h.1) in next.dumper v is same)) (leb_tells (suc (dump_device v)) n);
  held = λ m least lt. ⊎_elim (λ h. held_still s t next.grows m (so.held m least h.1)) (λ h. (let same : n ≡ m = omega (arith, lt, h.1) in subst (λ k. IsHeld t k) same next.here)) (leb_tells (suc m) n);
  count = omega (arith, so.count, next.count);
  few = ((let same : (n + 1) - 5 ≡ n - 4 = omega arith in subst (λ k. length t.discs ≤ k) (sym same) next.few.0), next.few.1);
}

same_trails : (found : Found) (n : ℕ) (s : RowsView) → length found.config.trails < n → AreLockedUpTo found n s → s.trails ≡ each_from (λ k. k) 1 (min n (length found.config.trails))
same_trails found n s behind so =
    let same : min (n - 1) (length found.config.trails) ≡ min n (length found.config.trails) = omega (arith, behind) in
    so.trails_are ∙ ap (λ k. each_from (λ i. i) 1 k) same

module _ (found : Found) (declared : (v : ℕ) → IsSome (found_volume found v) → IsWithin 1 8 v) (n : ℕ) (s : RowsView) where
  pub writer_next : IsWithin 1 4 n → n ≤ length found.config.trails → AreLockedUpTo found n s → IsNext found n s (record s { trails = s.trails ++ n ∷ [] })
  writer_next within few so = record {
    grows = record { trails = λ m h. Contains-append_left s.trails (n ∷ []) m h; discs = λ m h. h; dumpers = λ m h. h; alone = λ m h. h };
    here = inl (Contains-push s.trails n);
    trails_are =
        (let before : min (n - 1) (length found.config.trails) ≡ n - 1 = omega (arith, few) in
        let after : min n (length found.config.trails) ≡ suc (n - 1) = omega (arith, few, within.above) in
        let last : 1 + (n - 1) ≡ n = omega (arith, within.above) in
        ap (λ l. l ++ n ∷ []) (so.trails_are ∙ ap (λ k. each_from (λ i. i) 1 k) before)
        ∙ ap (λ x. each_from (λ i. i) 1 (n - 1) ++ x ∷ []) (sym last)
        ∙ sym (each_more 1 (n - 1))
        ∙ ap (λ k. each_from (λ i. i) 1 k) (sym after));
    disc = λ v is e. absurd (omega (arith, e, within.below, (declared v is).above));
    dumper = λ v is e. absurd (omega (arith, e, within.below, (declared v is).above));
    count = (let more = length-append s.trails (n ∷ []) in omega (arith, more));
    few = (omega (arith, so.few.0), so.few.1);
  }

  pub disc_next : IsWithin 5 12 n → length found.config.trails ≤ 4 → AreLockedUpTo found n s → IsNext found n s (record s { discs = s.discs ++ (n - 4) ∷ [] })
  disc_next within few so =
      let more = length-append s.discs ((n - 4) ∷ []) in
      record {
        grows = record { trails = λ m h. h; discs = λ m h. Contains-append_left s.discs ((n - 4) ∷ []) m h; dumpers = λ m h. h; alone = λ m h. h };
        here = inr (inl (n - 4, Contains-push s.discs (n - 4), (let same : n ≡ volume_device (n - 4) = omega (arith, within.above) in same)));
        trails_are = same_trails found n s (omega (arith, few, within.above)) so;
        disc = λ v is e. (let same : n - 4 ≡ v = omega (arith, e) in subst (λ k. Contains (s.discs ++ (n - 4) ∷ []) k) same (Contains-push s.discs (n - 4)));
        dumper = λ v is e. absurd (omega (arith, e, within.below, (declared v is).above));
        count = omega (arith, more);
        few = (omega (arith, more, so.few.0, within.above), omega (arith, more, so.few.0, within.below, within.above));
      }

  pub dumper_next : IsWithin 13 20 n → length found.config.trails ≤ 4 → AreLockedUpTo found n s → IsNext found n s (record s { dumpers = s.dumpers ++ (n - 12) ∷ [] })
  dumper_next within few so =
      let more = length-append s.dumpers ((n - 12) ∷ []) in
      record {
        grows = record { trails = λ m h. h; discs = λ m h. h; dumpers = λ m h. Contains-append_left s.dumpers ((n - 12) ∷ []) m h; alone = λ m h. h };
        here = inr (inr (inl (n - 12, Contains-push s.dumpers (n - 12), (let same : n ≡ dump_device (n - 12) = omega (arith, within.above) in same))));
        trails_are = same_trails found n s (omega (arith, few, within.above)) so;
        disc = λ v is e. absurd (omega (arith, e, within.above, (declared v is).below));
        dumper = λ v is e. (let same : n - 12 ≡ v = omega (arith, e) in subst (λ k. Contains (s.dumpers ++ (n - 12) ∷ []) k) same (Contains-push s.dumpers (n - 12)));
        count = omega (arith, more);
        few = (omega (arith, so.few.0), so.few.1);
      }

  pub alone_next : length found.config.trails < n → ((v : ℕ) → IsSome (found_volume found v) → volume_device v ≡ n → ⊥) → ((v : ℕ) → IsSome (found_volume found v) → dump_device v ≡ n → ⊥)
      → AreLockedUpTo found n s → IsNext found n s (record s { alone = s.alone ++ n ∷ [] })
  alone_next behind no_disc no_dumper so = record {
    grows = record { trails = λ m h. h; discs = λ m h. h; dumpers = λ m h. h; alone = λ m h. Contains-append_left s.alone (n ∷ []) m h };
    here = inr (inr (inr (Contains-push s.alone n)));
    trails_are = same_trails found n s behind so;
    disc = λ v is e. absurd (no_disc v is e);
    dumper = λ v is e. absurd (no_dumper v is e);
    count = (let more = length-append s.alone (n ∷ []) in omega (arith, more));
    few = (omega (arith, so.few.0), so.few.1);
  }

-- nothing is there before the first one
pub locked_none : (found : Found) → AreLockedUpTo found 1 no_rows
locked_none found = record {
  trails_are = (let none : 0 ≡ min (1 - 1) (length found.config.trails) = omega arith in ap (λ k. each_from (λ i. i) 1 k) none);
  discs_are = λ v is lt. absurd (omega (arith, lt));
  dumpers_are = λ v is lt. absurd (omega (arith, lt));
  held = λ m least lt. absurd (omega (arith, least, lt));
  count = refl;
  few = (omega arith, omega arith);
}

-- all of a node
pub locked_all : (found : Found) (s : RowsView) → length found.config.trails ≤ 4 → ((v : ℕ) → IsSome (found_volume found v) → IsWithin 1 8 v) → AreLockedUpTo found 21 s → AreLocked found s
locked_all found s few declared so = record {
  trails_are = (let same : min (21 - 1) (length found.config.trails) ≡ length found.config.trails = omega (arith, few) in so.trails_are ∙ ap (λ k. each_from (λ i. i) 1 k) same);
  discs_are = λ v is. so.discs_are v is (omega (arith, (declared v is).below));
  dumpers_are = λ v is. so.dumpers_are v is (omega (arith, (declared v is).below));
  held = so.held;
  count = so.count;
  few = so.few.1;
}

mapped_in : (f : ℕ → ℕ) (xs : List ℕ) (x : ℕ) → Contains xs x → Contains (map f xs) (f x)
mapped_in f [] x (k, lt, e) = absurd (omega (arith, lt))
mapped_in f (y ∷ xs) x (zero, lt, e) = (zero, omega arith, ap f e)
mapped_in f (y ∷ xs) x (suc k, lt, e) =
    let r = mapped_in f xs x (k, omega (arith, lt), e) in (suc r.0, omega (arith, r.1), r.2)

-- a device that has its place there is among those that are given back
pub held_place : (s : RowsView) (m : ℕ) → IsHeld s m → Contains (all_places s) m
held_place s m h =
    let ds = map (λ volume. volume_device volume) s.discs in
    let us = map (λ volume. dump_device volume) s.dumpers in
    ⊎_elim (λ a. Contains-append_left ((s.alone ++ s.trails) ++ ds) us m (Contains-append_left (s.alone ++ s.trails) ds m (Contains-append_right s.alone s.trails m a))) (λ b.
    ⊎_elim (λ c. Contains-append_left ((s.alone ++ s.trails) ++ ds) us m (Contains-append_right (s.alone ++ s.trails) ds m (subst (λ k. Contains ds k) (sym c.2) (mapped_in (λ volume. volume_device volume) s.discs c.0 c.1)))) (λ d.
    ⊎_elim (λ e. Contains-append_right ((s.alone ++ s.trails) ++ ds) us m (subst (λ k. Contains us k) (sym e.2) (mapped_in (λ volume. dump_device volume) s.dumpers e.0 e.1)))
    (λ f. Contains-append_left ((s.alone ++ s.trails) ++ ds) us m (Contains-append_left (s.alone ++ s.trails) ds m (Contains-append_left s.alone s.trails m f))) d) b) h

length-mapped : (f : ℕ → ℕ) (xs : List ℕ) → length (map f xs) ≡ length xs
length-mapped f [] = refl
length-mapped f (x ∷ xs) = ap suc (length-mapped f xs)

pub length-all_places : (s : RowsView) → length (all_places s) ≡ total s
length-all_places s =
    let ds = map (λ volume. volume_device volume) s.discs in
    let us = map (λ volume. dump_device volume) s.dumpers in
    let one = length-append ((s.alone ++ s.trails) ++ ds) us in
    let two = length-append (s.alone ++ s.trails) ds in
    let three = length-append s.alone s.trails in
    let four = length-mapped (λ volume. volume_device volume) s.discs in
    let five = length-mapped (λ volume. dump_device volume) s.dumpers in
    omega (arith, one, two, three, four, five)

some_at : {A : Type 0} (o : Option A) → IsSome o → (x : A) × (o ≡ Some x)
some_at (Some x) is = (x, refl)
some_at None is = absurd (cc (is))

module _ {D : Type 0} (kind : disk.Ghosts D) (opening : List PartState) (found : Found) (premise : ℕ → Type 0) (handed_in : ℕ → Option D) (named : AreVolumesNamed kind opening found premise handed_in) where
  pub found_declared : (v : ℕ) → IsSome (found_volume found v) → IsWithin 1 8 v
  found_declared v is =
      let some = some_at (found_volume found v) is in
      let declared = named.declared v some.0 some.1 in
      let few = named.valid.volumes.few in
      record { above = declared.above; below = omega (arith, declared.below, few) }

  -- the line of a volume that was found
  line_of : (v : ℕ) → IsSome (found_volume found v) → (line : Volume) × IsNumber found.config.volumes v line
  line_of v is =
      let some = some_at (found_volume found v) is in
      let declared = named.declared v some.0 some.1 in
      let there = item_there found.config.volumes (v - 1) (omega (arith, declared.above, declared.below)) in
      (there.0, (declared.above, there.1))

  lost_not_found : (v w : ℕ) → IsSome (found_volume found v) → found_volume found w ≡ None → v ≡ w → ⊥
  lost_not_found v w is none same = (let is_none : IsSome {T = VolumeFound} None = subst (λ (o : Option VolumeFound). IsSome o) (ap (found_volume found) same ∙ none) is in cc (is_none))

  -- no disc and no dump device of a volume that was found is left alone
  module _ (n : ℕ) (device : D) where
    lost_behind : IsOfLost kind found handed_in n device → length found.config.trails < n
    lost_behind h =
        let few = named.valid.trails.few in
        let above = h.declared.above in
        ⊎_elim (λ p. (let at = p.0 in omega (arith, few, above, at))) (λ at. omega (arith, few, above, at)) h.place

    lost_no_disc : IsOfLost kind found handed_in n device → (v : ℕ) → IsSome (found_volume found v) → volume_device v ≡ n → ⊥
    lost_no_disc h v is e =
        let few = (found_declared v is).below in
        let above = h.declared.above in
        ⊎_elim (λ p. (let at = p.0 in lost_not_found v h.volume is h.none (omega (arith, at, e)))) (λ at. absurd (omega (arith, at, e, few, above))) h.place

    lost_no_dumper : IsOfLost kind found handed_in n device → (v : ℕ) → IsSome (found_volume found v) → dump_device v ≡ n → ⊥
    lost_no_dumper h v is e =
        let few = named.valid.volumes.few in
        let below = h.declared.below in
        let above = (found_declared v is).above in
        ⊎_elim (λ p. (let at = p.0 in absurd (omega (arith, at, e, few, below, above)))) (λ at. lost_not_found v h.volume is h.none (omega (arith, at, e))) h.place

    alone_locked : (s : RowsView) → IsLeftAlone kind found handed_in n device → AreLockedUpTo found n s → IsNext found n s (record s { alone = s.alone ++ n ∷ [] })
    alone_locked s alone so = ⊎_elim
        (λ h. alone_next found found_declared n s h.0.trail
        (λ v is e. (let line = line_of v is in h.0.volume v line.0 line.1 (sym e)))
        (λ v is e. (let line = line_of v is in h.0.dump v line.0 line.1 (sym e))) so)
        (λ h. alone_next found found_declared n s (lost_behind h) (lost_no_disc h) (lost_no_dumper h) so)
        alone

  pub state_next : {J C Q : Type 0} (n : ℕ) (state : State D J C Q) (s : RowsView) → 1 ≤ n → IsBuilt kind found handed_in n state → AreLockedUpTo found n s
      → AreLockedUpTo found (n + 1) (with_state n state s)
  state_next n (Monitor m) s some is so = absurd (omega (arith, some, is))
  state_next n (Writer w) s some is so = locked_next found n s (record s { trails = s.trails ++ n ∷ [] }) some so (writer_next found found_declared n s is.0 is.1.below so)
  state_next n (Disc d) s some is so = locked_next found n s (record s { discs = s.discs ++ (n - 4) ∷ [] }) some so (disc_next found found_declared n s is named.valid.trails.few so)
  state_next n (Dumper w) s some is so = locked_next found n s (record s { dumpers = s.dumpers ++ (n - 12) ∷ [] }) some so (dumper_next found found_declared n s is named.valid.trails.few so)
  state_next n (Idle aside) s some is so = locked_next found n s (record s { alone = s.alone ++ n ∷ [] }) some so (alone_locked n aside.device s is.0 so)

  -- the first state is the monitor's
  pub first_monitor : {J C Q : Type 0} (state : State D J C Q) → IsBuilt kind found handed_in 0 state → is_monitor state ≡ true
  first_monitor (Monitor m) is = refl
  first_monitor (Writer w) is = absurd (omega (arith, is.0.above))
  first_monitor (Disc d) is = absurd (omega (arith, is.above))
  first_monitor (Dumper w) is = absurd (omega (arith, is.above))
  first_monitor (Idle aside) is = ⊎_elim (λ h. (let behind = h.0.trail in absurd (omega (arith, behind)))) (λ h. (let behind = lost_behind 0 aside.device h in absurd (omega (arith, behind)))) is.0
