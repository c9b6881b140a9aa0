-- What an audit trail that was opened has, each record in its file.
use Rattle.std.proofs.Common.{◌≡◌, ◌+◌, ◌-◌, Bool, true, false, Some, List, length, refl, sym, subst, ap, ◌∙◌, arith, lit<, IsTrue}
use Rattle.disk_model.specs.Held.{Held, IsLeast}
use Rattle.disk_model.specs.declared.disk.Disk as disk
use Rattle.trail_files.specs.AuditLaws.{audit_one, audit_length, audit_begins}
use Rattle.trail_files.specs.AuditRecord.{audit_format}
use Rattle.trail_files.specs.Content.{Pending, phase_of}
use Rattle.trail_files.specs.Content.Pending.{Nothing, Loaded, Offered, Rolling}
use Rattle.trail_files.specs.Text.{IsTrailText, Spells}
use Rattle.trail_files.specs.Trail.{Rests, View}
use Rattle.trail_files.specs.declared.audit_record.AuditRecord.{AuditRecord}
use Rattle.trail_files.specs.declared.rules.Rules.{Rules}
use Rattle.trail_files.specs.declared.trail.TrailPhase.TheVariants as phase
use Rattle.trail_files.proofs.Laws.{same_text}
use Rattle.trail_replay.specs.Landed.{HasLanded}
use Rattle.trail_replay.specs.Opening.{IsOpened}
use Rattle.node_machine.specs.Only.{TheOnly}
use Rattle.run_opening.specs.Placed.{HasPlaced, HasPlacedAlone, IsPlaced, Placing, are_settled, is_at_rest, found_placed, told_by_case}
use Rattle.run_opening.proofs.Once.{one_placed}
use Rattle.run_opening.proofs.Resting.{both_on, each_settled, on_both, settled_each}

module _ {A : Type 0} (P : A → Type 0) where
  told_is : (b : Bool) (only : IsTrue b → TheOnly P) (x : A) → told_by_case b only ≡ Some x → IsTrue b × ∥ P x ∥₁
  told_is true only x is = (refl, (let same : (only refl).0 ≡ x = cc in subst_only (only refl).0 x same (only refl).1)) where
    subst_only : (a b : A) → a ≡ b → ∥ P a ∥₁ → ∥ P b ∥₁
    subst_only a b e p = subst (λ (y : A). ∥ P y ∥₁) e p
  told_is false only x is = absurd (cc)

  told_there : (b : Bool) (only : IsTrue b → TheOnly P) → IsTrue b → (x : A) × (told_by_case b only ≡ Some x)
  told_there true only is = ((only refl).0, refl)
  told_there false only is = absurd (cc)

pub is_placed : {D : Type 0} (kind : disk.Ghosts D) (trail : View D) (placing : Placing kind trail) → IsPlaced kind (record { trail = trail; placed = found_placed kind trail placing })
is_placed kind trail placing = record {
  told = told_is (HasPlacedAlone kind trail) (is_at_rest kind trail) placing;
  there = told_there (HasPlacedAlone kind trail) (is_at_rest kind trail) placing;
}

ready_nothing : (p : Pending AuditRecord) → phase_of p ≡ phase.Ready → p ≡ Nothing
ready_nothing Nothing e = refl
ready_nothing (Loaded batch) e = absurd (cc)
ready_nothing (Offered batch) e = absurd (cc)
ready_nothing Rolling e = absurd (cc)

module _ {D : Type 0} (kind : disk.Ghosts D) (rules : Rules) (device : D) (trail : View D) (opened : IsOpened kind audit_format rules device trail) (tells : IsTrue (kind.tells device)) where
  held_is : kind.held trail.device ≡ kind.held device
  held_is = opened.reread.same

  -- what is spelled stands in the files that the trail has counted
  pub spelled_there : (records : List AuditRecord) (spells : Spells (audit_format rules) (kind.held device) records) → (spells.least ≡ trail.least) × (spells.least + length spells.files ≡ trail.file)
  spelled_there records spells =
      let reads = opened.reads records tells spells in
      let ruled = opened.ruled in
      let least : IsLeast (kind.held device) (Some trail.least) = subst (λ (h : Held). IsLeast h (Some trail.least)) held_is reads.is_least in
      let text : IsTrailText (audit_format rules) (kind.held device) trail.least reads.files reads.batches =
      subst (λ (r : Rules). IsTrailText (audit_format r) (kind.held device) trail.least reads.files reads.batches) ruled
      (subst (λ (h : Held). IsTrailText (audit_format trail.rules) h trail.least reads.files reads.batches) held_is reads.text) in
      let same = same_text (audit_format rules) 128 (lit< tt) (λ item place. audit_length item item.position) (λ a b place va vb e. (audit_one rules a b va vb e).0) audit_begins (kind.held device)
      spells.least trail.least spells.files reads.files spells.batches reads.batches spells.is_least least spells.text text
      (ap (audit_format rules).in_order (sym spells.all) ∙ spells.in_order) (ap (audit_format rules).in_order (sym reads.all) ∙ spells.in_order) in
      (same.0, omega (arith, same.0, ap length same.1, reads.counts.file_is))

  -- a trail at rest spells what rests
  pub at_rest : IsTrue (is_at_rest kind trail) → (records : List AuditRecord) × Rests (audit_format rules) (kind.held device) records
  at_rest rests =
      let one = opened.spelled tells in
      let there = spelled_there one.0 one.1 in
      let parts = both_on (kind.tells trail.device) (are_settled (kind.held trail.device) trail.least (trail.file + 1 - trail.least)) rests in
      let settled : are_settled (kind.held device) trail.least (trail.file + 1 - trail.least) ≡ true = subst (λ (h : Held). are_settled h trail.least (trail.file + 1 - trail.least) ≡ true) held_is parts.1 in (
        one.0,
        record {
          spells = one.1;
          settled = λ n le lt. settled_each (kind.held device) trail.least (trail.file + 1 - trail.least) settled n (omega (arith, le, there.0)) (omega (arith, lt, le, there.0, there.1));
        },
      )

  -- and one that rests is at rest
  pub rest_at : (records : List AuditRecord) → Rests (audit_format rules) (kind.held device) records → IsTrue (is_at_rest kind trail)
  rest_at records rests =
      let there = spelled_there records rests.spells in
      on_both (kind.tells trail.device) (are_settled (kind.held trail.device) trail.least (trail.file + 1 - trail.least)) (opened.reread.is_later.tells ∙ tells)
      (subst (λ (h : Held). are_settled h trail.least (trail.file + 1 - trail.least) ≡ true) (sym held_is)
      (each_settled (kind.held device) trail.least (trail.file + 1 - trail.least) (λ n le lt. rests.settled n (omega (arith, le, there.0)) (omega (arith, lt, le, there.0, there.1)))))

  pub landed_placed : (records : List AuditRecord) → (has : HasLanded kind audit_format trail records) → HasPlaced kind trail has.content.placed
  landed_placed records has = record {
    content = has.content;
    holds = has.holds;
    pending = ready_nothing has.content.pending (sym has.holds.phase ∙ opened.ready);
    placed_is = refl;
  }

-- what a trail at rest has is found
pub placing_opened : {D : Type 0} (kind : disk.Ghosts D) (rules : Rules) (device : D) (trail : View D) → IsOpened kind audit_format rules device trail → Placing kind trail
placing_opened kind rules device trail opened rests =
    let again = (both_on (kind.tells trail.device) (are_settled (kind.held trail.device) trail.least (trail.file + 1 - trail.least)) rests).0 in
    let tells = sym opened.reread.is_later.tells ∙ again in
    let one = at_rest kind rules device trail opened tells rests in
    let has = opened.landed one.0 tells one.1 in
    let own = landed_placed kind rules device trail opened tells one.0 has in
    (has.content.placed, ∣ (own, (λ others more. one_placed kind trail again has.content.placed others own more)) ∣₁)
