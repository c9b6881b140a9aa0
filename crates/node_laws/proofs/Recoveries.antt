-- The recovery law of a node: whatever of a recovery or a rollforward was done, the images stand for the same map.
use Rattle.std.specs.Prelude.{◌≡◌, ◌⊎◌, ℕ, ◌≤◌, true, false, List, [], ◌∷◌, ◌++◌, length, Option, Some, None, unwrap_or}
use Rattle.std.proofs.Common.{refl, ap, sym, ◌∙◌, subst, arith, ⊎_elim, inl, inr}
use Rattle.tmf_model.specs.Config.{IsValidConfig}
use Rattle.tmf_model.specs.RecordMap.{RecordMap}
use Rattle.tmf_model.specs.declared.config.Config.{Config}
use Rattle.tmf_model.specs.declared.config.Volume.{Volume}
use Rattle.trail_files.specs.AuditOrder.{is_audit_order}
use Rattle.trail_files.specs.MonitorOrder.{begun_epoch, last_epoch}
use Rattle.trail_files.specs.StandsFor.{Base, IsNumber}
use Rattle.trail_files.specs.declared.audit_record.AuditRecord.{AuditRecord}
use Rattle.trail_files.specs.declared.monitor_record.MonitorRecord.{MonitorRecord}
use Rattle.trail_files.specs.declared.monitor_record.MonitorRecord.TheVariants.{Start as StartRecord, Commit, Abort}
use Rattle.any_node.specs.Opening.{AreFrom}
use Rattle.any_node.specs.Recovery.{IsRecovered as AnyRecovered, IsWritten as AnyWritten}
use Rattle.any_node.specs.Stands.{next_position as any_next}
use Rattle.any_node.specs.Value.{AuditRecord as AnyRecord, Among as AnyAmong}
use Rattle.any_node.specs.Value.Entry.{start, close}
use Rattle.any_node.proofs.Recovery.{recovery_law as any_recovery_law}
use Rattle.node_machine.specs.Made.{volume_of}
use Rattle.node_machine.specs.Opening.{Found}
use Rattle.node_machine.specs.Recovering.{IsFounded, IsRecovered, IsWritten, RecoveryLaw, next_of}
use Rattle.node_laws.specs.Layouts.{layout}
use Rattle.node_laws.specs.Views.{entries_of}
use Rattle.node_laws.proofs.Orders.{in_a_row, told_push}
use Rattle.node_laws.proofs.Standing.{audit_is, audit_on, declared_disc, image, inside, inside_is, stands_any, stands_back, trail_is}
use Rattle.node_laws.proofs.Sums.{all_among, among_all, any_base, epoch_is, next_is}

module _ (found : Found) where
  entries_start : (list : List MonitorRecord) (epoch : ℕ) → entries_of found (list ++ StartRecord epoch ∷ []) ≡ entries_of found list ++ start epoch ∷ []
  entries_start [] epoch = refl
  entries_start (StartRecord e ∷ list) epoch = ap (λ xs. start e ∷ xs) (entries_start list epoch)
  entries_start (Commit t ∷ list) epoch = ap (λ xs. close (record { tx = t; commit = true }) ∷ xs) (entries_start list epoch)
  entries_start (Abort t ∷ list) epoch = ap (λ xs. close (record { tx = t; commit = false }) ∷ xs) (entries_start list epoch)

  module _ (valid : IsValidConfig found.config) (audit : ℕ → List AuditRecord) (old_bases bases dumps : ℕ → Option Base) (map_ : RecordMap) where
    -- the position that a disc gives out next
    abbrev next : ℕ → ℕ
    next d = any_next {N = layout found} (audit_on found audit d) (any_base found (old_bases d)) (any_base found (dumps d))

    next_here : (d : ℕ) (volume : Volume) → IsNumber found.config.volumes d volume → next_of d (audit volume.trail) (old_bases d) (dumps d) ≡ next d
    next_here d volume is =
        next_is found d (audit volume.trail) (old_bases d) (dumps d)
        ∙ sym (λ i. any_next {N = layout found} (audit_is found valid audit d volume is i) (any_base found (old_bases d)) (any_base found (dumps d)))

    is_file : (d file : ℕ) → 1 ≤ d → volume_of found.config file ≡ d → 1 ≤ volume_of found.config file
    is_file d file one here = omega (arith, one, here)

    written : (d : ℕ) (old : Option Base) (now : Base) → 1 ≤ d → IsWritten found.config d map_ old now
        → AnyWritten {N = layout found} d (inside found map_) (any_base found old) (record { values = λ k. now.records k.0 k.1; position = now.position })
    written d None now one w = w
    written d (Some old) now one w = (
      w.0,
      λ k here. ⊎_elim
          (λ (e : now.records k.0 k.1 ≡ old.records k.0 k.1). inl e)
          (λ (e : now.records k.0 k.1 ≡ map_ k.0 k.1). inr (e ∙ sym (inside_is found map_ k.0 k.1 (is_file d k.0 one here))))
          (w.1 k.0 k.1 here),
    )

    recovered : (d : ℕ) (volume : Volume) → IsNumber found.config.volumes d volume → IsRecovered found.config d map_ (next_of d (audit volume.trail) (old_bases d) (dumps d)) (old_bases d) (bases d)
        → AnyRecovered {N = layout found} d (inside found map_) (next d) (any_base found (old_bases d)) (any_base found (bases d))
    recovered d volume is r =
        ⊎_elim
        (λ (e : bases d ≡ old_bases d). inl (ap (any_base found) e))
        (λ (n : (base : Base) × (bases d ≡ Some base) × (IsWritten found.config d map_ (old_bases d) base ⊎ IsFounded found.config d map_ (next_of d (audit volume.trail) (old_bases d) (dumps d)) base)).
        inr (
          record { values = λ k. n.0.records k.0 k.1; position = n.0.position },
          ap (any_base found) n.1,
          ⊎_elim
              (λ (w : IsWritten found.config d map_ (old_bases d) n.0). inl (written d (old_bases d) n.0 is.0 w))
              (λ (f : IsFounded found.config d map_ (next_of d (audit volume.trail) (old_bases d) (dumps d)) n.0).
              inr (f.0 ∙ next_here d volume is, λ k here. f.1 k.0 k.1 here ∙ sym (inside_is found map_ k.0 k.1 (is_file d k.0 is.0 here))))
              n.2,
        ))
        r

    pub all_recovered : ((d : ℕ) (volume : Volume) → IsNumber found.config.volumes d volume → IsRecovered found.config d map_ (next_of d (audit volume.trail) (old_bases d) (dumps d)) (old_bases d) (bases d))
        → (d : ℕ) → AnyAmong (layout found).discs d → AnyRecovered {N = layout found} d (inside found map_) (next d) (any_base found (old_bases d)) (any_base found (bases d))
    all_recovered each d has = (let v = declared_disc found valid d has in recovered d v.0 v.1 (each d v.0 v.1))

    abbrev IsRow : ℕ → Type 0
    IsRow d = (n : ℕ) × AreFrom {N = layout found} n (audit_on found audit d)

    pub in_rows : ((trail : ℕ) → 1 ≤ trail → trail ≤ length found.config.trails → is_audit_order (audit trail) ≡ true) → (d : ℕ) → AnyAmong (layout found).discs d → IsRow d
    in_rows order d has =
        let v = declared_disc found valid d has in
        let t = trail_is found valid d v.0 v.1 in
        let row = in_a_row found d (audit v.0.trail) (order v.0.trail t.0 t.1) in
        (row.0, subst (λ (rs : List (AnyRecord (layout found))). AreFrom row.0 rs) (sym (audit_is found valid audit d v.0 v.1)) row.1)

-- a configuration alone, with nothing found
abbrev bare : Config → Found
bare config = record { config = config; epoch = 0; places = 0; trails = []; volumes = [] }

-- the list's last epoch does not fall
epoch_up : (old list : List MonitorRecord) (epoch : ℕ) → unwrap_or (last_epoch old) 0 ≤ epoch → (list ≡ old) ⊎ (list ≡ old ++ StartRecord epoch ∷ []) → unwrap_or (last_epoch old) 0 ≤ unwrap_or (last_epoch list) 0
epoch_up old list epoch rises h =
    ⊎_elim
    (λ (e : list ≡ old). (let is : unwrap_or (last_epoch list) 0 ≡ unwrap_or (last_epoch old) 0 = ap (λ xs. unwrap_or (last_epoch xs) 0) e in omega (arith, is)))
    (λ (e : list ≡ old ++ StartRecord epoch ∷ []).
    (let is : unwrap_or (last_epoch list) 0 ≡ epoch = ap (λ xs. unwrap_or (last_epoch xs) 0) e ∙ ap (λ (o : Option ℕ). unwrap_or o 0) (told_push begun_epoch old (StartRecord epoch)) in omega (arith, is, rises)))
    h

-- the recovery law
pub node_recovery_law : RecoveryLaw
node_recovery_law config rules old_images images old_bases bases dumps old_list list map_ valid stands r =
    let found : Found = bare config in
    let epoch : ℕ = unwrap_or (last_epoch old_list) 0 in
    let rises = r.rises in
    let last = epoch_is found old_list in
    let done = any_recovery_law (layout found) (image found old_list stands.audit old_bases dumps) (image found list stands.audit bases dumps) (inside found map_)
    (stands_any found valid rules old_images old_bases dumps old_list map_ stands)
    (in_rows found valid stands.audit old_bases bases dumps map_ (λ trail low high. (stands.audit_spelled trail low high).in_order))
    (record {
      epoch = r.epoch;
      rises = omega (arith, rises, last);
      list = ⊎_elim (λ (e : list ≡ old_list). inl (ap (entries_of found) e)) (λ (e : list ≡ old_list ++ StartRecord r.epoch ∷ []). inr (ap (entries_of found) e ∙ entries_start found old_list r.epoch)) r.list_is;
      audit = λ d. refl;
      dump = λ d. refl;
      volumes = all_recovered found valid stands.audit old_bases bases dumps map_ r.volumes;
    }) in
    let up = epoch_up old_list list r.epoch r.rises r.list_is in
    stands_back found valid rules images bases dumps list stands.audit map_ (inside found map_) (λ file key is. sym (inside_is found map_ file key is)) r.monitor_spelled r.audit_spelled
    (λ trail low high. among_all (λ (x : AuditRecord). x.tx.epoch ≤ unwrap_or (last_epoch list) 0) (stands.audit trail)
    (λ x has. (let le = all_among (λ (y : AuditRecord). y.tx.epoch ≤ unwrap_or (last_epoch old_list) 0) (stands.audit trail) (stands.epochs trail low high) x has in omega (arith, le, up))))
    done
