use Rattle.std.specs.Prelude.{IsTrue}
use Rattle.std.proofs.Common.{◌≡◌, length, ◌+◌, ◌<◌, ◌≤◌, ◌^◌, ◌++◌, true, arith, ap, sym, ◌∷◌, [], ◌∙◌, subst, length-append}
use Rattle.std.proofs.lemmas.Result.{err_from_is_err_and}
use Rattle.disk_model.specs.Held.{Elsewhere, IsThere, created}
use Rattle.trail_files.specs.declared.trail.TrailPhase.TheVariants.{Ready, RollOffered}
use Rattle.trail_files.specs.Format.{text}
use Rattle.trail_files.specs.Text.{body}
use Rattle.trail_files.specs.Put.{Put, Left}
use Rattle.trail_files.specs.Trail.{Ahead, IsWritable}
use Rattle.trail_files.proofs.Followed.{kept_left, kept_put, kept_same, ahead_kept}
use Rattle.trail_files.proofs.Texts.{length-body}
use Rattle.trail_files.proofs.Calls.{no_shorter, long_enough, not_ready as not_rolling}
use Rattle.trail_files.specs.Holds.{Holds}
use Rattle.trail_files.proofs.Holding.{holds_at_risk, holds_unmade, holds_not_loaded, holds_rolling}
use Rattle.trail_files.proofs.trail.Trail.offer_roll.Goals as goal

pub invariant_of-self-2 : goal.invariant_of-self-2
invariant_of-self-2 g c =
    let i = c.self.invariant.2 in (
      c.stage.ensures.room ∙ c.self.invariant.0,
      subst (λ n. g.R.Spelled.record_length ≤ n) (sym c.stage.ensures.room) c.self.invariant.1,
      record { short = c.in_ok-size.ensures.small; places_short = i.places_short; count_short = omega arith },
    )

pub returns-in_err-create-clause-writable : goal.returns-in_err-create-clause-writable
returns-in_err-create-clause-writable g c =
    let held = g.D.Disk.held in
    let may = subst (λ t. IsWritable g.D.Disk.tells held t) (sym c.self.view_is) c.requires.writable in
    let ready = subst (λ t. t.phase ≡ Ready) (sym c.self.view_is) c.requires.ready in
    record {
      gate = λ now.
          let device : c.deref_mut.result.now ≡ c.self.inside.device.value = c.deref_mut.ensures.value in
          let told1 = sym c.create.ensures.tells ∙ now in
          let is = may.gate (sym (ap g.D.Disk.tells device) ∙ told1) in
          let others = subst (λ d. Elsewhere (c.self.inside.file + 1) (held d) (held c.create.new.self)) device (c.create.ensures.others told1) in
          (is.0, others c.self.inside.file (λ e. omega (arith, e)) ∙ is.1, is.2);
      batch = λ now not_ready. absurd (not_ready ready);
      next = λ now phase. absurd (not_rolling (sym ready ∙ phase));
    }

pub returns-in_err-size-clause-writable : goal.returns-in_err-size-clause-writable
returns-in_err-size-clause-writable g c =
    let held = g.D.Disk.held in
    let r = c.self.inside.rules in
    let may = subst (λ t. IsWritable g.D.Disk.tells held t) (sym c.self.view_is) c.requires.writable in
    let ready = subst (λ t. t.phase ≡ Ready) (sym c.self.view_is) c.requires.ready in
    record {
      gate = λ now.
          let device : c.deref_mut.result.now ≡ c.self.inside.device.value = c.deref_mut.ensures.value in
          let device2 : c.deref_mut-2.result.now ≡ c.create.new.self = c.deref_mut-2.ensures.value in
          let told2 = sym c.stage.ensures.works.is_later.tells ∙ now in
          let told1 = sym c.create.ensures.tells ∙ sym (ap g.D.Disk.tells device2) ∙ told2 in
          let left = subst (λ d. Left c.self.inside.file (held d) (held c.stage.new.device) (c.self.inside.gate + 1) (body (text (g.R.Spelled.format r)) (c.self.inside.places + 1) [] ++ 0 ∷ [])) device2 (c.in_err-size.ensures.err r told2) in
          let is = may.gate (sym (ap g.D.Disk.tells device) ∙ told1) in
          let others = subst (λ d. Elsewhere (c.self.inside.file + 1) (held d) (held c.create.new.self)) device (c.create.ensures.others told1) in
          no_shorter c.self.inside.file (held c.create.new.self) (held c.stage.new.device) (c.self.inside.gate + 1) _ c.self.inside.gate left (is.0, others c.self.inside.file (λ e. omega (arith, e)) ∙ is.1, (is.2, omega (arith, is.2)));
      batch = λ now not_ready. absurd (not_ready ready);
      next = λ now phase. absurd (not_rolling (sym ready ∙ phase));
    }

pub returns-clause-writable : goal.returns-clause-writable
returns-clause-writable g c =
    let held = g.D.Disk.held in
    let r = c.self.inside.rules in
    let format = g.R.Spelled.format r in
    let may = subst (λ t. IsWritable g.D.Disk.tells held t) (sym c.self.view_is) c.requires.writable in
    let device : c.deref_mut.result.now ≡ c.self.inside.device.value = c.deref_mut.ensures.value in
    let device2 : c.deref_mut-2.result.now ≡ c.create.new.self = c.deref_mut-2.ensures.value in
    let long : IsTrue (g.D.Disk.tells c.stage.new.device) → IsThere (held c.stage.new.device) c.self.inside.file (λ f. c.self.inside.gate + c.in_ok-size.size < length f.bytes) = λ now.
    let told2 = sym c.stage.ensures.works.is_later.tells ∙ now in
    let told1 = sym c.create.ensures.tells ∙ sym (ap g.D.Disk.tells device2) ∙ told2 in
    let put = subst (λ d. Put c.self.inside.file (held d) (held c.stage.new.device) (c.self.inside.gate + 1) (body (text format) (c.self.inside.places + 1) [] ++ 0 ∷ [])) device2 (c.in_ok-size.ensures.ok r told2) in
    let is = may.gate (sym (ap g.D.Disk.tells device) ∙ told1) in
    let others = subst (λ d. Elsewhere (c.self.inside.file + 1) (held d) (held c.create.new.self)) device (c.create.ensures.others told1) in
    let size = length-body (text format) g.R.Spelled.record_length (λ item place. g.met.R.Spelled.text_length r item (format.number item place)) (c.self.inside.places + 1) [] in
    long_enough c.self.inside.file (held c.create.new.self) (held c.stage.new.device) (c.self.inside.gate + 1) _ (c.self.inside.gate + c.in_ok-size.size) put (is.0, others c.self.inside.file (λ e. omega (arith, e)) ∙ is.1, omega (arith, is.2)) (omega (arith, size, c.in_ok-size.ensures.size, length-append (body (text format) (c.self.inside.places + 1) []) (0 ∷ []))) in
    record {
      gate = λ now. let is = long now in (is.0, is.1, omega (arith, is.2));
      batch = λ now not_ready not_rolling. long now;
      next = λ now phase.
          let told2 = sym c.stage.ensures.works.is_later.tells ∙ now in
          let told1 = sym c.create.ensures.tells ∙ sym (ap g.D.Disk.tells device2) ∙ told2 in
          let others2 = subst (λ d. Elsewhere c.self.inside.file (held d) (held c.stage.new.device)) device2 (c.stage.ensures.others told2) in
          (created, others2 (c.self.inside.file + 1) (λ e. omega (arith, e)) ∙ c.in_ok-create.ensures.ok told1, omega arith);
    }

pub returns-in_err-create-clause-ahead : goal.returns-in_err-create-clause-ahead
returns-in_err-create-clause-ahead g c = λ cursor rest told is.
    let held = g.D.Disk.held in
    let t = c.self.inside in
    let told' = subst (λ t. g.D.Disk.tells t.device ≡ true) (sym c.self.view_is) told in
    let is' = subst (λ t. Ahead held g.R.Spelled.format t cursor rest) (sym c.self.view_is) is in
    let device : c.deref_mut.result.now ≡ t.device.value = c.deref_mut.ensures.value in
    let told1 = ap g.D.Disk.tells device ∙ told' in
    let long = subst (λ t. IsThere (held t.device) t.file (λ f. t.gate < length f.bytes)) (sym c.self.view_is) (c.requires.writable.gate told) in
    let others = subst (λ d. Elsewhere (t.file + 1) (held d) (held c.create.new.self)) device (c.create.ensures.others told1) in
    ahead_kept held g.R.Spelled.format _ c.create.new.self t.phase t.size t.count cursor rest (kept_same (held t.device.value) (held c.create.new.self) t.file t.gate long (others t.file (λ e. omega (arith, e))))
    (λ q lt. others q (λ e. omega (arith, e, lt))) is'

pub returns-in_err-size-clause-ahead : goal.returns-in_err-size-clause-ahead
returns-in_err-size-clause-ahead g c = λ cursor rest told is.
    let held = g.D.Disk.held in
    let t = c.self.inside in
    let told' = subst (λ t. g.D.Disk.tells t.device ≡ true) (sym c.self.view_is) told in
    let is' = subst (λ t. Ahead held g.R.Spelled.format t cursor rest) (sym c.self.view_is) is in
    let device : c.deref_mut.result.now ≡ t.device.value = c.deref_mut.ensures.value in
    let told1 = ap g.D.Disk.tells device ∙ told' in
    let long = subst (λ t. IsThere (held t.device) t.file (λ f. t.gate < length f.bytes)) (sym c.self.view_is) (c.requires.writable.gate told) in
    let others = subst (λ d. Elsewhere (t.file + 1) (held d) (held c.create.new.self)) device (c.create.ensures.others told1) in
    let is1 = ahead_kept held g.R.Spelled.format _ c.create.new.self t.phase t.size t.count cursor rest (kept_same (held t.device.value) (held c.create.new.self) t.file t.gate long (others t.file (λ e. omega (arith, e)))) (λ q lt. others q (λ e. omega (arith, e, lt))) is' in
    let long1 : IsThere (held c.create.new.self) t.file (λ f. t.gate < length f.bytes) = (long.0, others t.file (λ e. omega (arith, e)) ∙ long.1, long.2) in
    let device2 : c.deref_mut-2.result.now ≡ c.create.new.self = c.deref_mut-2.ensures.value in
    let told2 = ap g.D.Disk.tells device2 ∙ c.create.ensures.tells ∙ told1 in
    let others2 = subst (λ d. Elsewhere t.file (held d) (held c.stage.new.device)) device2 (c.stage.ensures.others told2) in
    let left = subst (λ d. Left t.file (held d) (held c.stage.new.device) (t.gate + 1) (body (text (g.R.Spelled.format t.rules)) (t.places + 1) [] ++ 0 ∷ [])) device2 (c.in_err-size.ensures.err t.rules told2) in
    ahead_kept held g.R.Spelled.format _ c.stage.new.device t.phase t.size t.count cursor rest (kept_left (held c.create.new.self) (held c.stage.new.device) t.file t.gate (t.gate + 1) _ (omega arith) (long1.0, long1.1, (long1.2, omega (arith, long1.2))) left)
    (λ q lt. others2 q (λ e. omega (arith, e, lt))) is1

pub returns-clause-ahead : goal.returns-clause-ahead
returns-clause-ahead g c = λ cursor rest told is.
    let held = g.D.Disk.held in
    let t = c.self.inside in
    let told' = subst (λ t. g.D.Disk.tells t.device ≡ true) (sym c.self.view_is) told in
    let is' = subst (λ t. Ahead held g.R.Spelled.format t cursor rest) (sym c.self.view_is) is in
    let device : c.deref_mut.result.now ≡ t.device.value = c.deref_mut.ensures.value in
    let told1 = ap g.D.Disk.tells device ∙ told' in
    let long = subst (λ t. IsThere (held t.device) t.file (λ f. t.gate < length f.bytes)) (sym c.self.view_is) (c.requires.writable.gate told) in
    let others = subst (λ d. Elsewhere (t.file + 1) (held d) (held c.create.new.self)) device (c.create.ensures.others told1) in
    let is1 = ahead_kept held g.R.Spelled.format _ c.create.new.self t.phase t.size t.count cursor rest (kept_same (held t.device.value) (held c.create.new.self) t.file t.gate long (others t.file (λ e. omega (arith, e)))) (λ q lt. others q (λ e. omega (arith, e, lt))) is' in
    let long1 : IsThere (held c.create.new.self) t.file (λ f. t.gate < length f.bytes) = (long.0, others t.file (λ e. omega (arith, e)) ∙ long.1, long.2) in
    let device2 : c.deref_mut-2.result.now ≡ c.create.new.self = c.deref_mut-2.ensures.value in
    let told2 = ap g.D.Disk.tells device2 ∙ c.create.ensures.tells ∙ told1 in
    let others2 = subst (λ d. Elsewhere t.file (held d) (held c.stage.new.device)) device2 (c.stage.ensures.others told2) in
    let put = subst (λ d. Put t.file (held d) (held c.stage.new.device) (t.gate + 1) (body (text (g.R.Spelled.format t.rules)) (t.places + 1) [] ++ 0 ∷ [])) device2 (c.in_ok-size.ensures.ok t.rules told2) in
    ahead_kept held g.R.Spelled.format _ c.stage.new.device RollOffered c.in_ok-size.size 0 cursor rest (kept_put (held c.create.new.self) (held c.stage.new.device) t.file t.gate (t.gate + 1) _ (omega arith) (long1.0, long1.1, (long1.2, omega (arith, long1.2))) put)
    (λ q lt. others2 q (λ e. omega (arith, e, lt))) is1

pub returns-in_err-create-clause-holds : goal.returns-in_err-create-clause-holds
returns-in_err-create-clause-holds g c =
    let p = err_from_is_err_and c.from_residual.result c.from_residual.ensures.1 in
    let tells = g.D.Disk.tells in
    let held = g.D.Disk.held in
    let t = c.self.inside in
    let device : c.deref_mut.result.now ≡ t.device.value = c.deref_mut.ensures.value in
    let ready = subst (λ v. v.phase ≡ Ready) (sym c.self.view_is) c.requires.ready in
    λ content is.
    let is' = subst (λ v. Holds g.D.Disk g.R.Spelled.format v content) (sym c.self.view_is) is in
    rw p.1 (holds_at_risk g.D.Disk g.R.Spelled.format _ content (holds_unmade g.D.Disk g.R.Spelled.format _ c.create.new.self (c.create.ensures.tells ∙ ap tells device) content is' ready (λ told.
    subst (λ d. Elsewhere (t.file + 1) (held d) (held c.create.new.self)) device (c.create.ensures.others (ap tells device ∙ told)))))

pub returns-in_err-size-clause-holds : goal.returns-in_err-size-clause-holds
returns-in_err-size-clause-holds g c =
    let p = err_from_is_err_and c.from_residual-in_err-size.result c.from_residual-in_err-size.ensures.1 in
    let tells = g.D.Disk.tells in
    let held = g.D.Disk.held in
    let t = c.self.inside in
    let bytes = body (text (g.R.Spelled.format t.rules)) (t.places + 1) [] ++ 0 ∷ [] in
    let device : c.deref_mut.result.now ≡ t.device.value = c.deref_mut.ensures.value in
    let device2 : c.deref_mut-2.result.now ≡ c.create.new.self = c.deref_mut-2.ensures.value in
    let ready = subst (λ v. v.phase ≡ Ready) (sym c.self.view_is) c.requires.ready in
    λ content is.
    let is' = subst (λ v. Holds g.D.Disk g.R.Spelled.format v content) (sym c.self.view_is) is in
    let made = holds_unmade g.D.Disk g.R.Spelled.format _ c.create.new.self (c.create.ensures.tells ∙ ap tells device) content is' ready (λ told.
    subst (λ d. Elsewhere (t.file + 1) (held d) (held c.create.new.self)) device (c.create.ensures.others (ap tells device ∙ told))) in
    rw p.1 (holds_not_loaded g.D.Disk g.R.Spelled.format _ c.stage.new.device (c.stage.ensures.works.is_later.tells ∙ ap tells device2) content made bytes ready (λ told.
    let told2 = ap tells device2 ∙ told in (
      subst (λ d. Elsewhere t.file (held d) (held c.stage.new.device)) device2 (c.stage.ensures.others told2),
      subst (λ d. Left t.file (held d) (held c.stage.new.device) (t.gate + 1) bytes) device2 (c.in_err-size.ensures.err t.rules told2),
    )))

pub returns-clause-holds : goal.returns-clause-holds
returns-clause-holds g c =
    let tells = g.D.Disk.tells in
    let held = g.D.Disk.held in
    let t = c.self.inside in
    let bytes = body (text (g.R.Spelled.format t.rules)) (t.places + 1) [] ++ 0 ∷ [] in
    let device : c.deref_mut.result.now ≡ t.device.value = c.deref_mut.ensures.value in
    let device2 : c.deref_mut-2.result.now ≡ c.create.new.self = c.deref_mut-2.ensures.value in
    let ready = subst (λ v. v.phase ≡ Ready) (sym c.self.view_is) c.requires.ready in
    let more = subst (λ v. v.file + 1 < 2 ^ 32) (sym c.self.view_is) (omega (arith, c.requires.more)) in
    λ content is.
    let is' = subst (λ v. Holds g.D.Disk g.R.Spelled.format v content) (sym c.self.view_is) is in
    let made = holds_unmade g.D.Disk g.R.Spelled.format _ c.create.new.self (c.create.ensures.tells ∙ ap tells device) content is' ready (λ told.
    subst (λ d. Elsewhere (t.file + 1) (held d) (held c.create.new.self)) device (c.create.ensures.others (ap tells device ∙ told))) in
    holds_rolling g.D.Disk g.R.Spelled.format _ c.stage.new.device (c.stage.ensures.works.is_later.tells ∙ ap tells device2) content made c.in_ok-size.size ready more (λ told.
    let told2 = ap tells device2 ∙ told in (
      c.in_ok-create.ensures.ok (sym c.create.ensures.tells ∙ told),
      subst (λ d. Elsewhere t.file (held d) (held c.stage.new.device)) device2 (c.stage.ensures.others told2),
      subst (λ d. Put t.file (held d) (held c.stage.new.device) (t.gate + 1) bytes) device2 (c.in_ok-size.ensures.ok t.rules told2),
    ))
