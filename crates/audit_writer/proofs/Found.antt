-- What each part of a history was at its opening, and which part has made a fact true.
use Rattle.std.specs.Prelude.{ℕ, zero, suc, ◌+◌, ◌==◌, if◌then◌else◌, List, [], ◌∷◌, Bool, Option, Some, None, slice_get, unwrap_or}
use Rattle.std.proofs.Common.{◌≡◌, true, false, refl, ap, sym, ◌∙◌, subst, arith, eq-eqb, ne_eqb}
use Rattle.chronicle.specs.Histories.{states_after, IsHistory, IsTrueIn}
use Rattle.tmf_model.specs.Commits.{numbered}
use Rattle.tmf_model.specs.declared.config.Config.{Config}
use Rattle.trail_files.specs.declared.audit_record.AuditRecord.{AuditRecord}
use Rattle.node_machine.specs.declared.event.Event.{Event}
use Rattle.node_machine.specs.declared.event.Event.TheVariants.{OfWorker, OfDisc, OfTrail, OfMonitor, OfDump}
use Rattle.node_machine.specs.Parts.{DiscPart, TrailPart, PartState}
use Rattle.node_machine.specs.Parts.Fact.{Made, Durable}
use Rattle.node_machine.specs.Parts.PartState.{Worker, Disc, Trail, Monitor, Dump, Idle}
use Rattle.node_machine.specs.Opening.{Found, VolumeFound, TrailFound, found_volume, firsts_on, opening_parts, disc_with, dump_with, trail_with, disc_at, trail_at, dump_at, disc_part, trail_part, dump_part}
use Rattle.node_machine.specs.Disc.{DiscMakes}
use Rattle.node_machine.specs.Trail.{TrailMakes, trail_of, first_of}
use Rattle.node_machine.specs.Node.{node, IsAllowed, state_with}
use Rattle.node_machine.proofs.Kept.{kept}

-- the part of a disc or a trail is the one of its number, and opened as the run has found it
abbrev pub WasFound : Found → ℕ → PartState → Type 0
WasFound found q (Disc s) = (q ≡ disc_part s.number) × (disc_at found s.number ≡ Disc (record s { events = [] }))
WasFound found q (Trail s) = (q ≡ trail_part s.number) × (trail_at found s.number ≡ Trail (record s { events = [] }))
WasFound found q (Worker s) = Unit {0}
WasFound found q (Monitor s) = Unit {0}
WasFound found q (Dump s) = Unit {0}
WasFound found q Idle = Unit {0}

module _ (found : Found) where
  keeps : (q : ℕ) (s : PartState) (e : Event) → IsAllowed s e → WasFound found q s → WasFound found q (state_with s e)
  keeps q (Worker s) (OfWorker e) may is = is
  keeps q (Disc s) (OfDisc e) may is = is
  keeps q (Trail s) (OfTrail e) may is = is
  keeps q (Monitor s) (OfMonitor e) may is = is
  keeps q (Dump s) (OfDump e) may is = is
  keeps q _ _ may is = absurd may

  -- the parts from this number on
  abbrev AreFound : ℕ → List PartState → Type 0
  AreFound q [] = Unit {0}
  AreFound q (s ∷ ss) = WasFound found q s × AreFound (suc q) ss

  each_found : (first : ℕ) (ss : List PartState) → AreFound first ss → (q : ℕ) (s : PartState) → slice_get ss q ≡ Some s → WasFound found (first + q) s
  each_found first [] all q s at = absurd (cc (at))
  each_found first (x ∷ ss) all zero s at = (let same : x ≡ s = cc (at) in subst (λ (n : ℕ). WasFound found n s) (omega arith) (subst (λ (u : PartState). WasFound found first u) same all.0))
  each_found first (x ∷ ss) all (suc q) s at = subst (λ (n : ℕ). WasFound found n s) (omega arith) (each_found (suc first) ss all.1 q s at)

  disc_found : (n : ℕ) (v : Option VolumeFound) → found_volume found n ≡ v → WasFound found (disc_part n) (disc_with found.config n v)
  disc_found n None e = tt
  disc_found n (Some v) e = (refl, ap (disc_with found.config n) e)

  trail_found : (n : ℕ) (t : Option TrailFound) → numbered found.trails n ≡ t → WasFound found (trail_part n) (trail_with found.config n (firsts_on found n 1 found.volumes) t)
  trail_found n None e = tt
  trail_found n (Some t) e = (refl, ap (trail_with found.config n (firsts_on found n 1 found.volumes)) e)

  dump_found : (n : ℕ) (v : Option VolumeFound) → WasFound found (dump_part n) (dump_with found.config n v)
  dump_found n None = tt
  dump_found n (Some v) = tt

  opening_found : (q : ℕ) (s : PartState) → slice_get (opening_parts found) q ≡ Some s → WasFound found q s
  opening_found q s at =
      let d : (n : ℕ) → WasFound found (disc_part n) (disc_at found n) = λ n. disc_found n (found_volume found n) refl in
      let t : (n : ℕ) → WasFound found (trail_part n) (trail_at found n) = λ n. trail_found n (numbered found.trails n) refl in
      let u : (n : ℕ) → WasFound found (dump_part n) (dump_at found n) = λ n. dump_found n (found_volume found n) in
      subst (λ (n : ℕ). WasFound found n s) (omega arith) (each_found 0 (opening_parts found)
      (tt, (tt, (tt, (tt, (tt, (tt, (tt, (tt, (tt, (tt, (tt, (tt, (tt, (tt, (tt, (tt, (d 1, (d 2, (d 3, (d 4, (d 5, (d 6, (d 7, (d 8, (t 1, (t 2, (t 3, (t 4, (tt, (u 1, (u 2, (u 3, (u 4, (u 5, (u 6, (u 7, (u 8, tt))))))))))))))))))))))))))))))))))))) q s at)

  -- and so is each part after a history
  pub parts_found : (opening : List PartState) (log : List (ℕ × Event)) → opening ≡ opening_parts found → IsHistory node opening log → (q : ℕ) (s : PartState) → slice_get (states_after node opening log) q ≡ Some s → WasFound found q s
  parts_found opening log opens h = kept node (WasFound found) keeps opening log h (λ q s at. opening_found q s (ap (λ ss. slice_get ss q) (sym opens) ∙ at))

  abbrev disc_first : PartState → ℕ
  disc_first (Disc s) = s.first
  disc_first (Worker s) = 0
  disc_first (Trail s) = 0
  disc_first (Monitor s) = 0
  disc_first (Dump s) = 0
  disc_first Idle = 0

  -- a disc's first position
  pub first_is : (s : DiscPart) (d : ℕ) (volume : VolumeFound) → disc_at found d ≡ Disc (record s { events = [] }) → found_volume found d ≡ Some volume → s.first ≡ volume.next
  first_is s d volume was is = sym (ap disc_first was) ∙ ap (λ (o : Option VolumeFound). disc_first (disc_with found.config d o)) is

  module _ (ss : List PartState) (each : (q : ℕ) (s : PartState) → slice_get ss q ≡ Some s → WasFound found q s) where
    -- the disc that has made these records
    pub disc_there : (d n : ℕ) (records : List AuditRecord) → IsTrueIn node ss (Made d n records)
        → (s : DiscPart) × (slice_get ss (disc_part d) ≡ Some (Disc s)) × DiscMakes s (Made d n records) × (disc_at found d ≡ Disc (record s { events = [] }))
    disc_there d n records (q, Disc s, at, makes) =
        let was = each q (Disc s) at in
        (s, ap (λ (p : ℕ). slice_get ss p) (sym (was.0 ∙ ap (λ (m : ℕ). disc_part m) makes.0)) ∙ at, makes, ap (disc_at found) (sym makes.0) ∙ was.1)
    disc_there d n records (q, Worker s, at, makes) = absurd makes
    disc_there d n records (q, Trail s, at, makes) = absurd makes
    disc_there d n records (q, Monitor s, at, makes) = absurd makes
    disc_there d n records (q, Dump s, at, makes) = absurd makes
    disc_there d n records (q, Idle, at, makes) = absurd makes

    -- the trail whose records of the disc are durable
    pub trail_there : (d n : ℕ) → IsTrueIn node ss (Durable d n) → (s : TrailPart) × (slice_get ss (trail_part s.number) ≡ Some (Trail s)) × TrailMakes s (Durable d n)
    trail_there d n (q, Trail s, at, makes) = (s, ap (λ (p : ℕ). slice_get ss p) (sym (each q (Trail s) at).0) ∙ at, makes)
    trail_there d n (q, Worker s, at, makes) = absurd makes
    trail_there d n (q, Disc s, at, makes) = absurd makes
    trail_there d n (q, Monitor s, at, makes) = absurd makes
    trail_there d n (q, Dump s, at, makes) = absurd makes
    trail_there d n (q, Idle, at, makes) = absurd makes

  abbrev trail_config : PartState → Config
  trail_config (Trail s) = s.config
  trail_config (Worker s) = found.config
  trail_config (Disc s) = found.config
  trail_config (Monitor s) = found.config
  trail_config (Dump s) = found.config
  trail_config Idle = found.config

  abbrev trail_firsts : PartState → List (ℕ × ℕ)
  trail_firsts (Trail s) = s.firsts
  trail_firsts (Worker s) = []
  trail_firsts (Disc s) = []
  trail_firsts (Monitor s) = []
  trail_firsts (Dump s) = []
  trail_firsts Idle = []

  config_with : (n : ℕ) (firsts : List (ℕ × ℕ)) (t : Option TrailFound) → trail_config (trail_with found.config n firsts t) ≡ found.config
  config_with n firsts None = refl
  config_with n firsts (Some t) = refl

  firsts_with : (n : ℕ) (firsts : List (ℕ × ℕ)) (t : Option TrailFound) (s : TrailPart) → trail_with found.config n firsts t ≡ Trail (record s { events = [] }) → s.firsts ≡ firsts
  firsts_with n firsts None s e = absurd (cc (e))
  firsts_with n firsts (Some t) s e = sym (ap trail_firsts e)

  -- a trail's configuration is the run's, and the first positions of its discs are those that the run has found
  pub config_is : (s : TrailPart) → trail_at found s.number ≡ Trail (record s { events = [] }) → s.config ≡ found.config
  config_is s was = sym (ap trail_config was) ∙ config_with s.number (firsts_on found s.number 1 found.volumes) (numbered found.trails s.number)

  pub firsts_are : (s : TrailPart) → trail_at found s.number ≡ Trail (record s { events = [] }) → s.firsts ≡ firsts_on found s.number 1 found.volumes
  firsts_are s was = firsts_with s.number (firsts_on found s.number 1 found.volumes) (numbered found.trails s.number) s was

  -- the first position of a disc of the trail is its volume's next one
  first_at : (number : ℕ) (volumes : List (Option VolumeFound)) (k i d : ℕ) (v : VolumeFound) → d ≡ k + i → slice_get volumes i ≡ Some (Some v) → trail_of found.config d ≡ number → first_of (firsts_on found number k volumes) d ≡ v.next
  first_at number [] k i d v at there on = absurd (cc (there))
  first_at number (None ∷ volumes) k zero d v at there on = absurd (cc (there))
  first_at number (None ∷ volumes) k (suc i) d v at there on = first_at number volumes (k + 1) i d v (omega (arith, at)) there on
  first_at number (Some w ∷ volumes) k zero d v at there on =
      let same : d ≡ k = omega (arith, at) in
      let is : w ≡ v = cc (there) in
      let here : (trail_of found.config k == number) ≡ true = eq-eqb (trail_of found.config k) number (ap (trail_of found.config) (sym same) ∙ on) in
      rw (here, eq-eqb k d (sym same)) (ap (λ (x : VolumeFound). x.next) is)
  first_at number (Some w ∷ volumes) k (suc i) d v at there on = of (trail_of found.config k == number) (first_at number volumes (k + 1) i d v (omega (arith, at)) there on)
    where
      of : (b : Bool) → first_of (firsts_on found number (k + 1) volumes) d ≡ v.next → first_of (if b then (k, w.next) ∷ firsts_on found number (k + 1) volumes else firsts_on found number (k + 1) volumes) d ≡ v.next
      of true rest = rw (ne_eqb k d (λ (e : k ≡ d). absurd (omega (arith, e, at)))) rest
      of false rest = rest

  pub first_on : (number d : ℕ) (v : VolumeFound) → found_volume found d ≡ Some v → trail_of found.config d ≡ number → first_of (firsts_on found number 1 found.volumes) d ≡ v.next
  first_on number zero v is on = absurd (cc (is))
  first_on number (suc i) v is on = first_at number found.volumes 1 i (suc i) v (omega arith) (there (slice_get found.volumes i) refl is) on
    where
      there : (o : Option (Option VolumeFound)) → slice_get found.volumes i ≡ o → unwrap_or o None ≡ Some v → slice_get found.volumes i ≡ Some (Some v)
      there None e is = absurd (cc (is))
      there (Some x) e is = e ∙ ap (λ (y : Option VolumeFound). Some y) is
