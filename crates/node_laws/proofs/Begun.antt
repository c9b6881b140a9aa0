-- The opening of a run, seen as one of any layout.
use Rattle.std.specs.Prelude.{◌≡◌, ◌⊎◌, ℕ, zero, suc, ◌+◌, ◌-◌, ◌≤◌, nat_le, true, false, List, [], ◌∷◌, ◌++◌, length, Option, Some, None, slice_get, unwrap_or, if◌then◌else◌}
use Rattle.std.proofs.Common.{refl, ap, sym, ◌∙◌, subst, arith, inl, inr}
use Rattle.tmf_model.specs.RecordMap.{RecordMap, empty_map}
use Rattle.trail_files.specs.StandsFor.{Base}
use Rattle.trail_files.specs.declared.audit_record.AuditRecord.{AuditRecord}
use Rattle.trail_files.specs.declared.monitor_record.MonitorRecord.{MonitorRecord}
use Rattle.any_node.specs.Value.{AuditRecord as AnyRecord}
use Rattle.any_node.specs.Stands.{Image}
use Rattle.any_node.specs.Stands.{Base as AnyBase, next_position as any_next}
use Rattle.any_node.specs.Node.{Label, State}
use Rattle.any_node.specs.Node.{Disc as AnyDisc, Dump as AnyDump}
use Rattle.any_node.specs.Node.State.{worker, disc, trail, monitor, dump}
use Rattle.any_node.specs.Node.Label.{Found as OldLabel}
use Rattle.any_node.specs.Opening.{IsFresh, IsFreshTrail, IsFreshDump, Same}
use Rattle.node_machine.specs.Opening.{Found, each_from}
use Rattle.node_machine.specs.Same.{Among}
use Rattle.node_laws.specs.Layouts.{layout}
use Rattle.node_laws.specs.Views.{entries_of, any_worker}
use Rattle.node_laws.proofs.Standing.{image, audit_on, inside}
use Rattle.node_laws.proofs.Sums.{any_base}

-- the records of a dump
abbrev pub records_in : Option Base → RecordMap
records_in None = empty_map
records_in (Some b) = b.records

module _ (found : Found) (before : List MonitorRecord) (audit : ℕ → List AuditRecord) (bases dumps : ℕ → Option Base) (map_ : RecordMap) where
  abbrev pub first_image : Image (layout found)
  first_image = image found before audit bases dumps

  -- the position behind a disc's audit, whether or not its volume is lost
  abbrev pub next_at : ℕ → ℕ
  next_at d = any_next {N = layout found} (audit_on found audit d) (any_base found (bases d)) (any_base found (dumps d))

  abbrev pub label_at : Option (AnyBase (layout found)) → Option (Label (layout found))
  label_at None = None
  label_at (Some b) = Some (OldLabel b.position b.values)

  abbrev pub start_at : Option (AnyBase (layout found)) → Option ℕ
  start_at None = None
  start_at (Some b) = Some b.position

  -- a disc whose volume is lost
  abbrev pub lost_disc : ℕ → AnyDisc (layout found)
  lost_disc d = record {
    number = d;
    lost = true;
    first = next_at d;
    base = inside found map_;
    map = inside found map_;
    made = [];
    held = λ k. None;
    locked = λ f. None;
    written = λ k. false;
    left = λ t. [];
    closed = λ t. false;
    undone = λ t. false;
    released = λ t. false;
    last = λ t. 0;
    drawn = λ b. next_at d - 1;
    drawing = λ b. None;
    low = next_at d;
    lowering = None;
    rest = start_at (any_base found (dumps d));
    way = None;
    starts = [];
  }

  abbrev pub lost_dump : ℕ → AnyDump (layout found)
  lost_dump d = record { number = d; landed = label_at (any_base found (dumps d)); offered = None; copied = λ i b. None; seals = 0; over = [] }

  -- a part of which nothing is declared is seen as a worker of a number that no worker has
  abbrev pub no_part : ℕ → State (layout found)
  no_part n = worker (any_worker found n [])

  abbrev pub disc_or_none : ℕ → State (layout found)
  disc_or_none v = if nat_le v (length found.config.volumes) then disc (lost_disc v) else no_part (16 + v)

  abbrev pub dump_or_none : ℕ → State (layout found)
  dump_or_none v = if nat_le v (length found.config.volumes) then dump (lost_dump v) else no_part (29 + v)

  abbrev pub idles : List (State (layout found))
  idles = each_from no_part 1 16 ++ (each_from disc_or_none 1 8 ++ (each_from (λ t. no_part (24 + t)) 1 4 ++ (no_part 29 ∷ each_from dump_or_none 1 8)))

  abbrev pub idle_at : ℕ → State (layout found)
  idle_at q = unwrap_or (slice_get idles q) (no_part 0)

  -- where a part of this kind and number stands
  abbrev pub place_of : State (layout found) → ℕ
  place_of (worker s) = s.number - 1
  place_of (disc s) = 15 + s.number
  place_of (trail s) = 23 + s.number
  place_of (monitor s) = 28
  place_of (dump s) = 28 + s.number

  same_place : (a b : State (layout found)) → Same a b → place_of a ≡ place_of b
  same_place (worker a) (worker b) e = ap (λ (n : ℕ). n - 1) e
  same_place (disc a) (disc b) e = ap (λ (n : ℕ). 15 + n) e
  same_place (trail a) (trail b) e = ap (λ (n : ℕ). 23 + n) e
  same_place (monitor a) (monitor b) e = refl
  same_place (dump a) (dump b) e = ap (λ (n : ℕ). 28 + n) e
  same_place _ _ e = absurd e

  -- what is so of each part at the opening
  abbrev pub IsBegun : State (layout found) → Type 0
  IsBegun (worker s) = Unit {0}
  IsBegun (disc s) = IsFresh first_image (inside found map_) s × Among (layout found).discs s.number × (s.rest ≡ start_at (any_base found (dumps s.number)))
  IsBegun (trail s) = IsFreshTrail first_image s
  IsBegun (monitor s) = (s.before ≡ entries_of found before) × (s.landed ≡ []) × (s.offered ≡ [])
  IsBegun (dump s) = IsFreshDump first_image s × (s.landed ≡ label_at (any_base found (dumps s.number)))

  abbrev pub IsGood : ℕ → State (layout found) → Type 0
  IsGood q s = (q ≡ place_of s) × IsBegun s

  abbrev pub AreGood : ℕ → List (State (layout found)) → Type 0
  AreGood q [] = Unit {0}
  AreGood q (s ∷ ss) = IsGood q s × AreGood (suc q) ss

  good_from : (n : ℕ) (ss : List (State (layout found))) → AreGood n ss → (q : ℕ) (s : State (layout found)) → slice_get ss q ≡ Some s → IsGood (n + q) s
  good_from n [] all q s at = absurd (cc (at))
  good_from n (x ∷ ss) all zero s at = (let same : x ≡ s = cc (at) in let e : n ≡ n + 0 = omega arith in subst (λ (m : ℕ). IsGood m s) e (subst (λ (y : State (layout found)). IsGood n y) same all.0))
  good_from n (x ∷ ss) all (suc q) s at = (let e : suc n + q ≡ n + suc q = omega arith in subst (λ (m : ℕ). IsGood m s) e (good_from (suc n) ss all.1 q s at))

  pub good_at : (ss : List (State (layout found))) → AreGood 0 ss → (q : ℕ) (s : State (layout found)) → slice_get ss q ≡ Some s → IsGood q s
  good_at ss all q s at = (let e : 0 + q ≡ q = omega arith in subst (λ (m : ℕ). IsGood m s) e (good_from 0 ss all q s at))

  pub apart : (ss : List (State (layout found))) → AreGood 0 ss → (q r : ℕ) (s t : State (layout found)) → slice_get ss q ≡ Some s → slice_get ss r ≡ Some t → Same s t → q ≡ r
  apart ss all q r s t at bt same = (good_at ss all q s at).0 ∙ (same_place s t same ∙ sym ((good_at ss all r t bt).0))

  -- a next position is 1 or more
  next_positive : (d : ℕ) → (any_base found (bases d)) ≡ None → 1 ≤ next_at d
  next_positive d lost = subst (λ (b : Option (AnyBase (layout found))). 1 ≤ any_next {N = layout found} (audit_on found audit d) b (any_base found (dumps d))) (sym lost) (by_audit (audit_on found audit d)) where
    by_audit : (rs : List (AnyRecord (layout found))) → 1 ≤ any_next {N = layout found} rs None (any_base found (dumps d))
    by_audit [] = omega arith
    by_audit (r ∷ rs) = omega arith

  pub lost_fresh : (d : ℕ) → (any_base found (bases d)) ≡ None → IsFresh first_image (inside found map_) (lost_disc d)
  lost_fresh d lost =
      let one = next_positive d lost in
      record {
        lost = λ e. lost;
        there = λ e. absurd (cc (e));
        first = refl;
        positive = one;
        base = λ k e. refl;
        made = refl;
        map = λ k. refl;
        held = λ k. refl;
        locked = λ f. refl;
        written = λ k. refl;
        left = λ t. refl;
        undone = λ t. refl;
        released = λ t. refl;
        drawn = λ b. omega (arith, one);
        drawing = λ b. refl;
        low = refl;
        lowering = refl;
        way = refl;
        starts = refl;
      }

  pub label_fresh : (b : Option (AnyBase (layout found))) → ((b ≡ None) × (label_at b ≡ None)) ⊎ ((c : AnyBase (layout found)) × (b ≡ Some c) × (label_at b ≡ Some (OldLabel c.position c.values)))
  label_fresh None = inl (refl, refl)
  label_fresh (Some b) = inr (b, refl, refl)

  pub lost_dump_fresh : (d : ℕ) → IsFreshDump first_image (lost_dump d)
  lost_dump_fresh d = record { landed = label_fresh (any_base found (dumps d)); offered = refl; copied = λ n b. refl; over = refl }
