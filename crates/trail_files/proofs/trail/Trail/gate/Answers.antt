use Rattle.std.specs.Prelude.{IsTrue}
use Rattle.trail_files.specs.declared.trail.TrailPhase.TheVariants.{Ready, Offered, RollOffered}
use Rattle.std.proofs.Common.{◌≡◌, ◌≢◌, ◌+◌, ◌<◌, ◌≤◌, ◌∷◌, [], true, length, arith, refl, ap, sym, ◌∙◌, subst}
use Rattle.std.proofs.lemmas.Result.{err_from_is_err_and}
use Rattle.disk_model.specs.Held.{Elsewhere, IsThere}
use Rattle.trail_files.specs.Put.{Put, Left}
use Rattle.trail_files.specs.Trail.{Ahead, IsWritable}
use Rattle.trail_files.proofs.Followed.{kept_left, ahead_kept}
use Rattle.trail_files.proofs.Calls.{no_shorter, still_long, not_ready as not_rolling, not_offered}
use Rattle.trail_files.specs.Holds.{Holds}
use Rattle.trail_files.proofs.Carrying.{gate_ahead}
use Rattle.trail_files.proofs.Holding.{holds_gated, holds_not_gated}
use Rattle.trail_files.proofs.trail.Trail.gate.Goals as goal

pub invariant_of-self-2 : goal.invariant_of-self-2
invariant_of-self-2 g c =
    let i = c.self.invariant.2 in (
      c.self.invariant.0,
      c.self.invariant.1,
      record { short = omega (arith, i.short); places_short = omega (arith, i.places_short, i.count_short); count_short = omega arith },
    )

pub returns-in_err-put-clause-writable : goal.returns-in_err-put-clause-writable
returns-in_err-put-clause-writable g c =
    let held = g.D.Disk.held in
    let may = subst (λ t. IsWritable g.D.Disk.tells held t) (sym c.self.view_is) c.requires.writable in
    let loaded = subst (λ t. t.phase ≢ Ready) (sym c.self.view_is) c.requires.phase in
    let batch = subst (λ t. t.phase ≢ RollOffered) (sym c.self.view_is) c.requires.batch in
    let long : IsTrue (g.D.Disk.tells c.put.new.device) → IsThere (held c.put.new.device) c.self.inside.file (λ f. c.self.inside.gate + c.self.inside.size < length f.bytes) = λ now.
    let device : c.deref_mut.result.now ≡ c.self.inside.device.value = c.deref_mut.ensures.value in
    let told1 = sym c.put.ensures.works.is_later.tells ∙ now in
    let left = subst (λ d. Left c.self.inside.file (held d) (held c.put.new.device) c.self.inside.gate (1 ∷ [])) device (c.in_err-put.ensures.err told1) in
    let is = may.batch (sym (ap g.D.Disk.tells device) ∙ told1) loaded batch in
    no_shorter c.self.inside.file (held c.self.inside.device.value) (held c.put.new.device) c.self.inside.gate _ (c.self.inside.gate + c.self.inside.size) left (is.0, is.1, (is.2, omega (arith, is.2))) in
    record {
      gate = λ now. let is = long now in (is.0, is.1, omega (arith, is.2));
      batch = λ now not_ready not_rolling. long now;
      next = λ now phase. absurd (not_offered phase);
    }

pub returns-clause-writable : goal.returns-clause-writable
returns-clause-writable g c =
    let held = g.D.Disk.held in
    let may = subst (λ t. IsWritable g.D.Disk.tells held t) (sym c.self.view_is) c.requires.writable in
    let loaded = subst (λ t. t.phase ≢ Ready) (sym c.self.view_is) c.requires.phase in
    let batch = subst (λ t. t.phase ≢ RollOffered) (sym c.self.view_is) c.requires.batch in
    record {
      gate = λ now.
          let device : c.deref_mut.result.now ≡ c.self.inside.device.value = c.deref_mut.ensures.value in
          let told1 = sym c.put.ensures.works.is_later.tells ∙ now in
          let put = subst (λ d. Put c.self.inside.file (held d) (held c.put.new.device) c.self.inside.gate (1 ∷ [])) device (c.in_ok-put.ensures.ok told1) in
          let is = may.batch (sym (ap g.D.Disk.tells device) ∙ told1) loaded batch in
          still_long c.self.inside.file (held c.self.inside.device.value) (held c.put.new.device) c.self.inside.gate _ (c.self.inside.gate + c.self.inside.size) put (is.0, is.1, (is.2, omega (arith, is.2)));
      batch = λ now not_ready. absurd (not_ready refl);
      next = λ now phase. absurd (not_rolling phase);
    }

pub returns-in_err-put-clause-ahead_err : goal.returns-in_err-put-clause-ahead_err
returns-in_err-put-clause-ahead_err g c = λ cursor rest told is.
    let p = err_from_is_err_and c.from_residual.result c.from_residual.ensures.1 in
    let held = g.D.Disk.held in
    let t = c.self.inside in
    let told' = subst (λ t. g.D.Disk.tells t.device ≡ true) (sym c.self.view_is) told in
    let is' = subst (λ t. Ahead held g.R.Spelled.format t cursor rest) (sym c.self.view_is) is in
    let device : c.deref_mut.result.now ≡ t.device.value = c.deref_mut.ensures.value in
    let told1 = ap g.D.Disk.tells device ∙ told' in
    let long = subst (λ t. IsThere (held t.device) t.file (λ f. t.gate < length f.bytes)) (sym c.self.view_is) (c.requires.writable.gate told) in
    let others = subst (λ d. Elsewhere t.file (held d) (held c.put.new.device)) device (c.put.ensures.others told1) in
    let left = subst (λ d. Left t.file (held d) (held c.put.new.device) t.gate (1 ∷ [])) device (c.in_err-put.ensures.err told1) in
    rw p.1
    (ahead_kept held g.R.Spelled.format _ c.put.new.device Offered t.size t.count cursor rest (kept_left (held t.device.value) (held c.put.new.device) t.file t.gate t.gate (1 ∷ []) (omega arith) (long.0, long.1, (long.2, omega (arith, long.2))) left)
    (λ q lt. others q (λ e. omega (arith, e, lt))) is')

pub returns-clause-ahead : goal.returns-clause-ahead
returns-clause-ahead g c = λ cursor content rest told holds is.
    let held = g.D.Disk.held in
    let t = c.self.inside in
    let told' = subst (λ t. g.D.Disk.tells t.device ≡ true) (sym c.self.view_is) told in
    let holds' = subst (λ t. Holds g.D.Disk g.R.Spelled.format t content) (sym c.self.view_is) holds in
    let is' = subst (λ t. Ahead held g.R.Spelled.format t cursor rest) (sym c.self.view_is) is in
    let not_ready = subst (λ v. v.phase ≢ Ready) (sym c.self.view_is) c.requires.phase in
    let no_roll = subst (λ v. v.phase ≢ RollOffered) (sym c.self.view_is) c.requires.batch in
    let device : c.deref_mut.result.now ≡ t.device.value = c.deref_mut.ensures.value in
    let told1 = ap g.D.Disk.tells device ∙ told' in
    let others = subst (λ d. Elsewhere t.file (held d) (held c.put.new.device)) device (c.put.ensures.others told1) in
    let put = subst (λ d. Put t.file (held d) (held c.put.new.device) t.gate (1 ∷ [])) device (c.in_ok-put.ensures.ok told1) in
    rw c.from.ensures (gate_ahead g.D.Disk g.R.Spelled.format _ content holds' c.put.new.device cursor rest is' not_ready no_roll told' others put)

pub returns-in_err-put-clause-holds : goal.returns-in_err-put-clause-holds
returns-in_err-put-clause-holds g c =
    let p = err_from_is_err_and c.from_residual.result c.from_residual.ensures.1 in
    let tells = g.D.Disk.tells in
    let held = g.D.Disk.held in
    let t = c.self.inside in
    let device : c.deref_mut.result.now ≡ t.device.value = c.deref_mut.ensures.value in
    let not_ready = subst (λ v. v.phase ≢ Ready) (sym c.self.view_is) c.requires.phase in
    let not_rolling = subst (λ v. v.phase ≢ RollOffered) (sym c.self.view_is) c.requires.batch in
    λ content is.
    let is' = subst (λ v. Holds g.D.Disk g.R.Spelled.format v content) (sym c.self.view_is) is in
    rw p.1 (holds_not_gated g.D.Disk g.R.Spelled.format _ c.put.new.device (c.put.ensures.works.is_later.tells ∙ ap tells device) content is' not_ready not_rolling (λ told.
    let told1 = ap tells device ∙ told in (
      subst (λ d. Elsewhere t.file (held d) (held c.put.new.device)) device (c.put.ensures.others told1),
      subst (λ d. Left t.file (held d) (held c.put.new.device) t.gate (1 ∷ [])) device (c.in_err-put.ensures.err told1),
    )))

pub returns-clause-holds : goal.returns-clause-holds
returns-clause-holds g c =
    let tells = g.D.Disk.tells in
    let held = g.D.Disk.held in
    let t = c.self.inside in
    let device : c.deref_mut.result.now ≡ t.device.value = c.deref_mut.ensures.value in
    let not_ready = subst (λ v. v.phase ≢ Ready) (sym c.self.view_is) c.requires.phase in
    let not_rolling = subst (λ v. v.phase ≢ RollOffered) (sym c.self.view_is) c.requires.batch in
    λ content is.
    let is' = subst (λ v. Holds g.D.Disk g.R.Spelled.format v content) (sym c.self.view_is) is in
    rw c.from.ensures (holds_gated g.D.Disk g.R.Spelled.format _ c.put.new.device (c.put.ensures.works.is_later.tells ∙ ap tells device) content is' not_ready not_rolling (λ told.
    let told1 = ap tells device ∙ told in (
      subst (λ d. Elsewhere t.file (held d) (held c.put.new.device)) device (c.put.ensures.others told1),
      subst (λ d. Put t.file (held d) (held c.put.new.device) t.gate (1 ∷ [])) device (c.in_ok-put.ensures.ok told1),
    )))

pub returns-clause-keeps : goal.returns-clause-keeps
returns-clause-keeps g c =
    let kind = g.D.Disk in
    let same : c.deref_mut.result.now ≡ c.args.self.now.device = c.deref_mut.ensures.value ∙ ap (λ v. v.device) c.self.view_is in
    record {
      rules = ap (λ v. v.rules) c.self.view_is;
      device = record {
        device = subst (λ d. kind.is_same d c.put.new.device) same c.put.ensures.works.is_later.device;
        tells = c.put.ensures.works.is_later.tells ∙ ap kind.tells same;
        later = subst (λ d. kind.faults d ≤ kind.faults c.put.new.device) same c.put.ensures.works.is_later.later;
      };
      writable = λ _. returns-clause-writable g c;
    }
