use Rattle.std.proofs.Common.{◌≡◌, ◌<◌, length, ◌∷◌, [], true, ◌+◌, arith, refl, ap, sym, ◌∙◌, subst}
use Rattle.std.proofs.lemmas.Result.{err_from_is_err_and}
use Rattle.disk_model.specs.Held.{Elsewhere, IsThere}
use Rattle.trail_files.specs.declared.trail.TrailPhase.TheVariants.{RollOffered}
use Rattle.trail_files.specs.Put.{Put, Left}
use Rattle.trail_files.specs.Trail.{Ahead, IsWritable}
use Rattle.trail_files.proofs.Followed.{kept_left, ahead_kept}
use Rattle.trail_files.proofs.Calls.{no_shorter, not_ready as not_rolling}
use Rattle.trail_files.specs.Holds.{Holds}
use Rattle.trail_files.proofs.Carrying.{roll_ahead}
use Rattle.trail_files.proofs.Holding.{holds_rolled, holds_not_rolled}
use Rattle.trail_files.proofs.trail.Trail.land_roll.Goals as goal

pub returns-in_err-put-clause-writable : goal.returns-in_err-put-clause-writable
returns-in_err-put-clause-writable g c =
    let held = g.D.Disk.held in
    let may = subst (λ t. IsWritable g.D.Disk.tells held t) (sym c.self.view_is) c.requires.writable in
    let rolling = subst (λ t. t.phase ≡ RollOffered) (sym c.self.view_is) c.requires.offered in
    let device : c.deref_mut.result.now ≡ c.self.inside.device.value = c.deref_mut.ensures.value in
    record {
      gate = λ now.
          let told1 = sym c.put.ensures.works.is_later.tells ∙ now in
          let left = subst (λ d. Left c.self.inside.file (held d) (held c.put.new.device) c.self.inside.gate (1 ∷ [])) device (c.in_err-put.ensures.err told1) in
          let is = may.gate (sym (ap g.D.Disk.tells device) ∙ told1) in
          no_shorter c.self.inside.file (held c.self.inside.device.value) (held c.put.new.device) c.self.inside.gate _ c.self.inside.gate left (is.0, is.1, (is.2, omega (arith, is.2)));
      batch = λ now not_ready not_rolling. absurd (not_rolling rolling);
      next = λ now phase.
          let told1 = sym c.put.ensures.works.is_later.tells ∙ now in
          let is = may.next (sym (ap g.D.Disk.tells device) ∙ told1) rolling in
          let others = subst (λ d. Elsewhere c.self.inside.file (held d) (held c.put.new.device)) device (c.put.ensures.others told1) in
          (is.0, others (c.self.inside.file + 1) (λ e. omega (arith, e)) ∙ is.1, is.2);
    }

pub returns-clause-writable : goal.returns-clause-writable
returns-clause-writable g c =
    let held = g.D.Disk.held in
    let may = subst (λ t. IsWritable g.D.Disk.tells held t) (sym c.self.view_is) c.requires.writable in
    let rolling = subst (λ t. t.phase ≡ RollOffered) (sym c.self.view_is) c.requires.offered in
    let device : c.deref_mut.result.now ≡ c.self.inside.device.value = c.deref_mut.ensures.value in
    record {
      gate = λ now.
          let told1 = sym c.put.ensures.works.is_later.tells ∙ now in
          let is = may.next (sym (ap g.D.Disk.tells device) ∙ told1) rolling in
          let others = subst (λ d. Elsewhere c.self.inside.file (held d) (held c.put.new.device)) device (c.put.ensures.others told1) in
          (is.0, others (c.self.inside.file + 1) (λ e. omega (arith, e)) ∙ is.1, is.2);
      batch = λ now not_ready. absurd (not_ready refl);
      next = λ now phase. absurd (not_rolling phase);
    }

pub returns-in_err-put-clause-ahead : goal.returns-in_err-put-clause-ahead
returns-in_err-put-clause-ahead g c = λ cursor content rest told has is.
    let held = g.D.Disk.held in
    let t = c.self.inside in
    let told' = subst (λ t. g.D.Disk.tells t.device ≡ true) (sym c.self.view_is) told in
    let is' = subst (λ t. Ahead held g.R.Spelled.format t cursor rest) (sym c.self.view_is) is in
    let device : c.deref_mut.result.now ≡ t.device.value = c.deref_mut.ensures.value in
    let told1 = ap g.D.Disk.tells device ∙ told' in
    let long = subst (λ t. IsThere (held t.device) t.file (λ f. t.gate < length f.bytes)) (sym c.self.view_is) (c.requires.writable.gate told) in
    let others = subst (λ d. Elsewhere t.file (held d) (held c.put.new.device)) device (c.put.ensures.others told1) in
    let left = subst (λ d. Left t.file (held d) (held c.put.new.device) t.gate (1 ∷ [])) device (c.in_err-put.ensures.err told1) in
    ahead_kept held g.R.Spelled.format _ c.put.new.device t.phase t.size t.count cursor rest (kept_left (held t.device.value) (held c.put.new.device) t.file t.gate t.gate (1 ∷ []) (omega arith) (long.0, long.1, (long.2, omega (arith, long.2))) left)
    (λ q lt. others q (λ e. omega (arith, e, lt))) is'

pub returns-clause-ahead : goal.returns-clause-ahead
returns-clause-ahead g c = λ cursor content rest told has is.
    let held = g.D.Disk.held in
    let t = c.self.inside in
    let told' = subst (λ t. g.D.Disk.tells t.device ≡ true) (sym c.self.view_is) told in
    let has' = subst (λ t. Holds g.D.Disk g.R.Spelled.format t content) (sym c.self.view_is) has in
    let is' = subst (λ t. Ahead held g.R.Spelled.format t cursor rest) (sym c.self.view_is) is in
    let phase = subst (λ t. t.phase ≡ RollOffered) (sym c.self.view_is) c.requires.offered in
    let device : c.deref_mut.result.now ≡ t.device.value = c.deref_mut.ensures.value in
    let told1 = ap g.D.Disk.tells device ∙ told' in
    let others = subst (λ d. Elsewhere t.file (held d) (held c.put.new.device)) device (c.put.ensures.others told1) in
    let put = subst (λ d. Put t.file (held d) (held c.put.new.device) t.gate (1 ∷ [])) device (c.in_ok-put.ensures.ok told1) in
    roll_ahead g.D.Disk g.R.Spelled.format _ content has' c.put.new.device cursor rest is' phase told' others put

pub returns-in_err-put-clause-holds : goal.returns-in_err-put-clause-holds
returns-in_err-put-clause-holds g c =
    let p = err_from_is_err_and c.from_residual.result c.from_residual.ensures.1 in
    let tells = g.D.Disk.tells in
    let held = g.D.Disk.held in
    let t = c.self.inside in
    let device : c.deref_mut.result.now ≡ t.device.value = c.deref_mut.ensures.value in
    let rolls = subst (λ v. v.phase ≡ RollOffered) (sym c.self.view_is) c.requires.offered in
    λ content is.
    let is' = subst (λ v. Holds g.D.Disk g.R.Spelled.format v content) (sym c.self.view_is) is in
    rw p.1 (holds_not_rolled g.D.Disk g.R.Spelled.format _ c.put.new.device (c.put.ensures.works.is_later.tells ∙ ap tells device) content is' rolls (λ told.
    let told1 = ap tells device ∙ told in (
      subst (λ d. Elsewhere t.file (held d) (held c.put.new.device)) device (c.put.ensures.others told1),
      subst (λ d. Left t.file (held d) (held c.put.new.device) t.gate (1 ∷ [])) device (c.in_err-put.ensures.err told1),
    )))

pub returns-clause-holds : goal.returns-clause-holds
returns-clause-holds g c =
    let tells = g.D.Disk.tells in
    let held = g.D.Disk.held in
    let t = c.self.inside in
    let device : c.deref_mut.result.now ≡ t.device.value = c.deref_mut.ensures.value in
    let rolls = subst (λ v. v.phase ≡ RollOffered) (sym c.self.view_is) c.requires.offered in
    λ content is.
    let is' = subst (λ v. Holds g.D.Disk g.R.Spelled.format v content) (sym c.self.view_is) is in
    holds_rolled g.D.Disk g.R.Spelled.format _ c.put.new.device (c.put.ensures.works.is_later.tells ∙ ap tells device) content is' rolls (λ told.
    let told1 = ap tells device ∙ told in (
      subst (λ d. Elsewhere t.file (held d) (held c.put.new.device)) device (c.put.ensures.others told1),
      subst (λ d. Put t.file (held d) (held c.put.new.device) t.gate (1 ∷ [])) device (c.in_ok-put.ensures.ok told1),
    ))
