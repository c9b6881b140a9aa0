-- A disc of a node whose devices tell what they hold has values, and the configuration is the node's.
use Rattle.std.specs.Prelude.{◌≡◌, ℕ, zero, suc, ◌-◌, ◌<◌, ◌≤◌, List, [], ◌∷◌, length, Option, Some, None, slice_get}
use Rattle.std.proofs.Common.{refl, sym, subst, ◌∙◌, arith, ⊎_elim, inl, inr, ◌⊎◌}
use Rattle.chronicle.specs.Histories.{IsHistory, states_after}
use Rattle.disk_model.specs.Held.{Held}
use Rattle.tmf_model.specs.Commits.{numbered}
use Rattle.tmf_model.specs.RecordMap.{RecordMap}
use Rattle.tmf_model.specs.declared.config.Config.{Config}
use Rattle.trail_files.specs.StandsFor.{Base}
use Rattle.trail_files.specs.declared.audit_record.AuditRecord.{AuditRecord}
use Rattle.trail_files.specs.declared.monitor_record.MonitorRecord.{MonitorRecord}
use Rattle.trail_files.specs.declared.rules.Rules.{Rules}
use Rattle.node_machine.specs.Deeds.{Log}
use Rattle.node_machine.specs.Law.{IsFoundVolume, IsOpening}
use Rattle.node_machine.specs.Node.{IsAllowed, node, state_with}
use Rattle.node_machine.specs.Opening.{Found, TrailFound, VolumeFound, disc_at, disc_with, dump_at, dump_with, firsts_on, found_volume, opening_parts, trail_at, trail_with}
use Rattle.node_machine.specs.Parts.{DiscPart, Entry, PartState}
use Rattle.node_machine.specs.Parts.PartState.{Disc, Dump, Idle, Monitor, Trail, Worker}
use Rattle.node_machine.specs.declared.event.Event.{Event}
use Rattle.node_machine.specs.declared.event.Event.TheVariants.{OfDisc, OfDump, OfMonitor, OfTrail, OfWorker}
use Rattle.node_machine.proofs.Kept.{kept}

some_at : {T : Type 0} (xs : List T) (n : ℕ) → n < length xs → (x : T) × (slice_get xs n ≡ Some x)
some_at [] n lt = absurd (omega (arith, lt))
some_at (x ∷ xs) zero lt = (x, refl)
some_at (x ∷ xs) (suc n) lt = some_at xs n (omega (arith, lt))

-- the disc is of this configuration, and tells its values
abbrev HasValues : Config → DiscPart → Type 0
HasValues config s = (s.config ≡ config) × ((entries : List Entry) × (s.base ≡ Some entries))

abbrev IsTelling : Config → ℕ → PartState → Type 0
IsTelling config q (Disc s) = HasValues config s
IsTelling config q _ = Unit {0}

keeps : (config : Config) (q : ℕ) (s : PartState) (e : Event) → IsAllowed s e → IsTelling config q s → IsTelling config q (state_with s e)
keeps config q (Worker s) (OfWorker e) may is = tt
keeps config q (Disc s) (OfDisc e) may is = is
keeps config q (Trail s) (OfTrail e) may is = tt
keeps config q (Monitor s) (OfMonitor e) may is = tt
keeps config q (Dump s) (OfDump e) may is = tt
keeps config q _ _ may is = absurd may

-- each of these parts tells
abbrev AllTell : Config → List PartState → Type 0
AllTell config [] = Unit {0}
AllTell config (s ∷ ss) = IsTelling config 0 s × AllTell config ss

tell_at : (config : Config) (ss : List PartState) → AllTell config ss → (q : ℕ) (s : PartState) → slice_get ss q ≡ Some s → IsTelling config 0 s
tell_at config [] all q s at = absurd (cc (at))
tell_at config (x ∷ ss) all zero s at = (let same : x ≡ s = cc (at) in subst (λ (u : PartState). IsTelling config 0 u) same all.0)
tell_at config (x ∷ ss) all (suc q) s at = tell_at config ss all.1 q s at

anywhere : (config : Config) (q : ℕ) (s : PartState) → IsTelling config 0 s → IsTelling config q s
anywhere config q (Disc s) is = is
anywhere config q (Worker s) is = tt
anywhere config q (Trail s) is = tt
anywhere config q (Monitor s) is = tt
anywhere config q (Dump s) is = tt
anywhere config q Idle is = tt

module _ (rules : ℕ → Rules) (images : ℕ → Held) (bases dumps : ℕ → Option Base) (list : List MonitorRecord) (map_ : RecordMap) (found : Found) (o : IsOpening rules images bases dumps list map_ found) where
  -- a volume that was found told its values
  values_of : (n : ℕ) (v : VolumeFound) → 1 ≤ n → found_volume found n ≡ Some v → (entries : List Entry) × (v.base ≡ Some entries)
  values_of n v low is = ⊎_elim
      (λ (none : found_volume found n ≡ None). (let both : None ≡ Some v = sym none ∙ is in absurd (cc (both))))
      (λ (le : n ≤ length found.config.volumes).
      let line = some_at found.config.volumes (n - 1) (omega (arith, low, le)) in
      let has = o.volumes n line.0 (low, line.1) in
      of_base (bases n) (o.stands.audit line.0.trail) (subst (λ (w : Option VolumeFound). IsFoundVolume found.config n (o.stands.audit line.0.trail) w (bases n) (dumps n)) is has))
      declared
    where
      declared : (found_volume found n ≡ None) ⊎ (n ≤ length found.config.volumes)
      declared = ⊎_elim (λ (lt : length found.config.volumes < n). inl (o.no_more n lt)) (λ (le : n ≤ length found.config.volumes). inr le) (either (length found.config.volumes) n) where
        either : (a b : ℕ) → (a < b) ⊎ (b ≤ a)
        either a zero = inr (omega arith)
        either zero (suc b) = inl (omega arith)
        either (suc a) (suc b) = ⊎_elim (λ (lt : a < b). inl (omega (arith, lt))) (λ (le : b ≤ a). inr (omega (arith, le))) (either a b)

      of_base : (base : Option Base) (audit : List AuditRecord) → IsFoundVolume found.config n audit (Some v) base (dumps n) → (entries : List Entry) × (v.base ≡ Some entries)
      of_base None audit is = absurd is
      of_base (Some base) audit is = (is.0.0, is.0.1)

  disc_tells : (n : ℕ) → 1 ≤ n → IsTelling found.config 0 (disc_at found n)
  disc_tells n low = by_case (found_volume found n) refl where
    by_case : (v : Option VolumeFound) → found_volume found n ≡ v → IsTelling found.config 0 (disc_with found.config n v)
    by_case None is = tt
    by_case (Some v) is = (refl, values_of n v low is)

  trail_tells : (n : ℕ) → IsTelling found.config 0 (trail_at found n)
  trail_tells n = by_case (numbered found.trails n) where
    by_case : (v : Option TrailFound) → IsTelling found.config 0 (trail_with found.config n (firsts_on found n 1 found.volumes) v)
    by_case None = tt
    by_case (Some v) = tt

  dump_tells : (n : ℕ) → IsTelling found.config 0 (dump_at found n)
  dump_tells n = by_case (found_volume found n) where
    by_case : (v : Option VolumeFound) → IsTelling found.config 0 (dump_with found.config n v)
    by_case None = tt
    by_case (Some v) = tt

  begins : (q : ℕ) (s : PartState) → slice_get (opening_parts found) q ≡ Some s → IsTelling found.config q s
  begins q s at =
      let d : (n : ℕ) → 1 ≤ n → IsTelling found.config 0 (disc_at found n) = disc_tells in
      let t : (n : ℕ) → IsTelling found.config 0 (trail_at found n) = trail_tells in
      let u : (n : ℕ) → IsTelling found.config 0 (dump_at found n) = dump_tells in
      anywhere found.config q s (tell_at found.config (opening_parts found)
      (tt, (tt, (tt, (tt, (tt, (tt, (tt, (tt, (tt, (tt, (tt, (tt, (tt, (tt, (tt, (tt, (d 1 (omega arith), (d 2 (omega arith), (d 3 (omega arith), (d 4 (omega arith), (d 5 (omega arith), (d 6 (omega arith), (d 7 (omega arith), (d 8 (omega arith), (t 1, (t 2, (t 3, (t 4, (tt, (u 1, (u 2, (u 3, (u 4, (u 5, (u 6, (u 7, (u 8, tt))))))))))))))))))))))))))))))))))))) q s at)

  -- a disc of the history tells its values
  pub has_values : (log : Log) → IsHistory node (opening_parts found) log → (q : ℕ) (s : DiscPart) → slice_get (states_after node (opening_parts found) log) q ≡ Some (Disc s) → HasValues found.config s
  has_values log history q s at = kept node (IsTelling found.config) (keeps found.config) (opening_parts found) log history begins q (Disc s) at
