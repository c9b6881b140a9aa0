-- A recovery, whole or stopped, leaves images that stand for the same map.
use Rattle.std.proofs.Common.{◌≡◌, ◌⊎◌, ℕ, ◌+◌, ◌≤◌, ◌<◌, max, List, [], ◌∷◌, ◌++◌, length, Option, Some, None, refl, ap, sym, ◌∙◌, subst, ⊎_elim, arith}
use Rattle.any_node.specs.Layout.{Layout}
use Rattle.any_node.specs.Value.{AuditRecord, Ending, Entry, Among, Each, closes, last_start, on, kept, value}
use Rattle.any_node.specs.Value.Entry.{start, close}
use Rattle.any_node.specs.Stands.{Base, VolumeStandsFor, GivesValues, IsKept, next_position, or_one, last_position}
use Rattle.any_node.specs.Opening.{AreFrom}
use Rattle.any_node.specs.Recovery.{IsWritten, IsFounded, IsRecovered, RecoveryLaw}
use Rattle.any_node.proofs.Lists.{each_map}
use Rattle.any_node.proofs.Positions.{kept_none, from_most}
use Rattle.any_node.proofs.Ends.{last_from}

module _ {N : Layout} where
  closes_start : (xs : List (Entry N)) (e : ℕ) → closes (xs ++ start e ∷ []) ≡ closes xs
  closes_start [] e = refl
  closes_start (start f ∷ xs) e = closes_start xs e
  closes_start (close x ∷ xs) e = ap (λ us. x ∷ us) (closes_start xs e)

  last_is : (xs : List (Entry N)) (e f : ℕ) → last_start f (xs ++ start e ∷ []) ≡ e
  last_is [] e f = refl
  last_is (start g ∷ xs) e f = last_is xs e g
  last_is (close x ∷ xs) e f = last_is xs e f

  -- nothing of the audit stands at the next position or behind it
  none_behind : (n : ℕ) (audit : List (AuditRecord N)) (volume dump : Option (Base N)) → AreFrom n audit → kept (next_position audit volume dump) audit ≡ []
  none_behind n [] volume dump a = refl
  none_behind n (r ∷ rs) volume dump a =
      let e : last_position r.position rs + 1 ≡ n + 1 + length rs = last_from n r.position rs a.0 a.1 in
      kept_none (last_position r.position rs + 1) (r ∷ rs) (each_map (λ x. x.position < n + length (r ∷ rs)) (λ x. x.position < last_position r.position rs + 1) (r ∷ rs) (λ x lt. omega (arith, lt, e)) (from_most n (r ∷ rs) a))

  -- a value at a key without kept records is the base's; with some, any base gives the same
  any_base : (b c v : Option N.Val) (rs : List (AuditRecord N)) (mons : List (Ending N)) → value b rs mons ≡ v → (c ≡ b) ⊎ (c ≡ v) → value c rs mons ≡ v
  any_base b c v [] mons e h = ⊎_elim (λ (x : c ≡ b). x ∙ e) (λ (x : c ≡ v). x) h
  any_base b c v (r ∷ rs) mons e h = e

  -- the next position stays where a volume is founded there, and where its position stays
  next_founded : (audit : List (AuditRecord N)) (volume dump : Option (Base N)) (y : Base N) → y.position ≡ next_position audit volume dump → next_position audit (Some y) dump ≡ next_position audit volume dump
  next_founded [] volume dump y e = (let is : y.position ≡ max (or_one volume) (or_one dump) = e in omega (arith, is))
  next_founded (r ∷ rs) volume dump y e = refl

  next_written : (audit : List (AuditRecord N)) (x y : Base N) (dump : Option (Base N)) → y.position ≡ x.position → next_position audit (Some y) dump ≡ next_position audit (Some x) dump
  next_written [] x y dump e = ap (λ n. max n (or_one dump)) e
  next_written (r ∷ rs) x y dump e = refl

  module _ (d : ℕ) (audit : List (AuditRecord N)) (n : ℕ) (from : AreFrom n audit) (dump : Option (Base N)) (list : List (Entry N)) (m : N.Key → Option N.Val) where
    -- one volume
    abbrev Stands : Option (Base N) → Type 0
    Stands volume = VolumeStandsFor d audit volume dump list m

    same_next : (volume : Option (Base N)) (y : Base N) → next_position audit (Some y) dump ≡ next_position audit volume dump → IsKept audit (next_position audit volume dump) dump → IsKept audit (next_position audit (Some y) dump) dump
    same_next volume y e h = subst (λ (x : ℕ). IsKept audit x dump) (sym e) h

    written : (x y : Base N) → IsWritten d m (Some x) y → Stands (Some x) → Stands (Some y)
    written x y w s =
        let next : next_position audit (Some y) dump ≡ next_position audit (Some x) dump = next_written audit x y dump w.0 in
        record {
          values = λ k here. ap (λ p. value (y.values k) (on k (kept p audit)) (closes list)) w.0 ∙ any_base (x.values k) (y.values k) (m k) (on k (kept x.position audit)) (closes list) (s.values k here) (w.1 k here);
          dump_values = s.dump_values;
          kept_from = subst (λ (p : ℕ). (y.position ≤ p) × ((q : ℕ) → y.position ≤ q → q < p → (r : AuditRecord N) × Among audit r × (r.position ≡ q))) (sym next)
              (subst (λ (p : ℕ). (p ≤ next_position audit (Some x) dump) × ((q : ℕ) → p ≤ q → q < next_position audit (Some x) dump → (r : AuditRecord N) × Among audit r × (r.position ≡ q))) (sym w.0) s.kept_from);
          dump_kept = same_next (Some x) y next s.dump_kept;
        }

    founded : (volume : Option (Base N)) (y : Base N) → IsFounded d m (next_position audit volume dump) y → Stands volume → Stands (Some y)
    founded volume y f s =
        let next : next_position audit (Some y) dump ≡ next_position audit volume dump = next_founded audit volume dump y f.0 in
        let none : kept y.position audit ≡ [] = ap (λ p. kept p audit) f.0 ∙ none_behind n audit volume dump from in
        record {
          values = λ k here. ap (λ us. value (y.values k) (on k us) (closes list)) none ∙ f.1 k here;
          dump_values = s.dump_values;
          kept_from = ((let is : y.position ≡ next_position audit volume dump = f.0 in omega (arith, next, is)), (λ q ge lt. (let is : y.position ≡ next_position audit volume dump = f.0 in absurd (omega (arith, next, is, ge, lt)))));
          dump_kept = same_next volume y next s.dump_kept;
        }

    written_or : (before : Option (Base N)) (y : Base N) → IsWritten d m before y → Stands before → Stands (Some y)
    written_or None y w s = absurd w
    written_or (Some x) y w s = written x y w s

    pub recovered : (before after : Option (Base N)) → IsRecovered d m (next_position audit before dump) before after → Stands before → Stands after
    recovered before after h s = ⊎_elim
        (λ (e : after ≡ before). subst (λ (v : Option (Base N)). Stands v) (sym e) s)
        (λ (a : (y : Base N) × (after ≡ Some y) × (IsWritten d m before y ⊎ IsFounded d m (next_position audit before dump) y)).
        subst (λ (v : Option (Base N)). Stands v) (sym a.1) (⊎_elim (λ (w : IsWritten d m before a.0). written_or before a.0 w s) (λ (f : IsFounded d m (next_position audit before dump) a.0). founded before a.0 f s) a.2))
        h

  -- the list's closes are all that matter of it
  same_closes : (d : ℕ) (audit : List (AuditRecord N)) (volume dump : Option (Base N)) (xs ys : List (Entry N)) (m : N.Key → Option N.Val) → closes ys ≡ closes xs → VolumeStandsFor d audit volume dump xs m → VolumeStandsFor d audit volume dump ys m
  same_closes d audit volume dump xs ys m e s = record { values = gives volume s.values; dump_values = gives dump s.dump_values; kept_from = s.kept_from; dump_kept = s.dump_kept } where
    gives : (v : Option (Base N)) → GivesValues d audit xs m v → GivesValues d audit ys m v
    gives None h = tt
    gives (Some b) h = λ k here. ap (λ c. value (b.values k) (on k (kept b.position audit)) c) e ∙ h k here

pub recovery_law : (N : Layout) → RecoveryLaw N
recovery_law N i j m stands order r =
    let closes_are : closes j.list ≡ closes i.list = ⊎_elim (λ (e : j.list ≡ i.list). ap closes e) (λ (e : j.list ≡ i.list ++ start r.epoch ∷ []). ap closes e ∙ closes_start i.list r.epoch) r.list in
    let epoch_up : last_start 0 i.list ≤ last_start 0 j.list = ⊎_elim
    (λ (e : j.list ≡ i.list). (let is : last_start 0 j.list ≡ last_start 0 i.list = ap (λ us. last_start 0 us) e in omega (arith, is)))
    (λ (e : j.list ≡ i.list ++ start r.epoch ∷ []). (let is : last_start 0 j.list ≡ r.epoch = ap (λ us. last_start 0 us) e ∙ last_is i.list r.epoch 0 in let up : last_start 0 i.list ≤ r.epoch = r.rises in omega (arith, is, up)))
    r.list in
    record {
      room = stands.room;
      epochs = λ d has. subst (λ (us : List (AuditRecord N)). Each (λ x. N.epoch_of x.tx ≤ last_start 0 j.list) us) (sym (r.audit d)) (each_map (λ x. N.epoch_of x.tx ≤ last_start 0 i.list) (λ x. N.epoch_of x.tx ≤ last_start 0 j.list) (i.audit d) (λ x le. omega (arith, le, epoch_up)) (stands.epochs d has));
      volumes = λ d has.
          (let o = order d has in
          subst (λ (us : List (AuditRecord N)). VolumeStandsFor d us (j.volume d) (j.dump d) j.list m) (sym (r.audit d))
          (subst (λ (x : Option (Base N)). VolumeStandsFor d (i.audit d) (j.volume d) x j.list m) (sym (r.dump d))
          (same_closes d (i.audit d) (j.volume d) (i.dump d) i.list j.list m closes_are
          (recovered d (i.audit d) o.0 o.1 (i.dump d) i.list m (i.volume d) (j.volume d) (r.volumes d has) (stands.volumes d has)))));
    }
