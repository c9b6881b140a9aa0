use Rattle.std.specs.Prelude.{IsTrue}
use Rattle.std.proofs.Common.{◌≡◌, ◌+◌, ◌<◌, ◌≤◌, ◌++◌, true, length, arith, ap, sym, ◌∷◌, [], ◌∙◌, subst, length-append}
use Rattle.std.proofs.lemmas.Result.{err_from_is_err_and}
use Rattle.disk_model.specs.Held.{Elsewhere, IsThere}
use Rattle.trail_files.specs.Format.{text, AllValid}
use Rattle.trail_files.specs.Text.{body}
use Rattle.trail_files.specs.Put.{Put, Left}
use Rattle.trail_files.specs.declared.trail.TrailPhase.TheVariants.{Ready, Loaded}
use Rattle.trail_files.specs.Trail.{Ahead, IsWritable}
use Rattle.trail_files.proofs.Followed.{kept_left, kept_put, ahead_kept}
use Rattle.trail_files.proofs.Texts.{length-body}
use Rattle.trail_files.proofs.Calls.{no_shorter, long_enough, not_ready as not_rolling, not_loaded}
use Rattle.trail_files.specs.Content.{landed_in}
use Rattle.trail_files.specs.Holds.{Holds}
use Rattle.trail_files.proofs.Holding.{holds_loaded, holds_not_loaded}
use Rattle.trail_files.proofs.trail.Trail.load.Goals as goal

pub invariant_of-self-2 : goal.invariant_of-self-2
invariant_of-self-2 g c =
    let i = c.self.invariant.2 in (
      c.stage.ensures.room ∙ c.self.invariant.0,
      subst (λ n. g.R.Spelled.record_length ≤ n) (sym c.stage.ensures.room) c.self.invariant.1,
      record { short = c.in_ok-size.ensures.small; places_short = i.places_short; count_short = c.in_ok-size.ensures.count },
    )

pub returns-in_err-size-clause-writable : goal.returns-in_err-size-clause-writable
returns-in_err-size-clause-writable g c =
    let held = g.D.Disk.held in
    let r = c.self.inside.rules in
    let may = subst (λ t. IsWritable g.D.Disk.tells held t) (sym c.self.view_is) c.requires.writable in
    let ready = subst (λ t. t.phase ≡ Ready) (sym c.self.view_is) c.requires.ready in
    record {
      gate = λ now.
          let device : c.deref_mut.result.now ≡ c.self.inside.device.value = c.deref_mut.ensures.value in
          let told1 = sym c.stage.ensures.works.is_later.tells ∙ now in
          let left = subst (λ d. Left c.self.inside.file (held d) (held c.stage.new.device) (c.self.inside.gate + 1) (body (text (g.R.Spelled.format r)) (c.self.inside.places + 1) c.args.records.now ++ 0 ∷ [])) device (c.in_err-size.ensures.err r told1) in
          let is = may.gate (sym (ap g.D.Disk.tells device) ∙ told1) in
          no_shorter c.self.inside.file (held c.self.inside.device.value) (held c.stage.new.device) (c.self.inside.gate + 1) _ c.self.inside.gate left (is.0, is.1, (is.2, omega (arith, is.2)));
      batch = λ now not_ready. absurd (not_ready ready);
      next = λ now phase. absurd (not_rolling (sym ready ∙ phase));
    }

pub returns-clause-writable : goal.returns-clause-writable
returns-clause-writable g c =
    let held = g.D.Disk.held in
    let r = c.self.inside.rules in
    let format = g.R.Spelled.format r in
    let may = subst (λ t. IsWritable g.D.Disk.tells held t) (sym c.self.view_is) c.requires.writable in
    let long : IsTrue (g.D.Disk.tells c.stage.new.device) → IsThere (held c.stage.new.device) c.self.inside.file (λ f. c.self.inside.gate + c.in_ok-size.size < length f.bytes) = λ now.
    let device : c.deref_mut.result.now ≡ c.self.inside.device.value = c.deref_mut.ensures.value in
    let told1 = sym c.stage.ensures.works.is_later.tells ∙ now in
    let put = subst (λ d. Put c.self.inside.file (held d) (held c.stage.new.device) (c.self.inside.gate + 1) (body (text format) (c.self.inside.places + 1) c.args.records.now ++ 0 ∷ [])) device (c.in_ok-size.ensures.ok r told1) in
    let is = may.gate (sym (ap g.D.Disk.tells device) ∙ told1) in
    let size = length-body (text format) g.R.Spelled.record_length (λ item place. g.met.R.Spelled.text_length r item (format.number item place)) (c.self.inside.places + 1) c.args.records.now in
    long_enough c.self.inside.file (held c.self.inside.device.value) (held c.stage.new.device) (c.self.inside.gate + 1) _ (c.self.inside.gate + c.in_ok-size.size) put (is.0, is.1, omega (arith, is.2)) (omega (arith, size, c.in_ok-size.ensures.size, length-append (body (text format) (c.self.inside.places + 1) c.args.records.now) (0 ∷ []))) in
    record {
      gate = λ now. let is = long now in (is.0, is.1, omega (arith, is.2));
      batch = λ now not_ready not_rolling. long now;
      next = λ now phase. absurd (not_loaded phase);
    }

pub returns-in_err-size-clause-ahead : goal.returns-in_err-size-clause-ahead
returns-in_err-size-clause-ahead g c = λ cursor rest told is.
    let held = g.D.Disk.held in
    let t = c.self.inside in
    let told' = subst (λ t. g.D.Disk.tells t.device ≡ true) (sym c.self.view_is) told in
    let is' = subst (λ t. Ahead held g.R.Spelled.format t cursor rest) (sym c.self.view_is) is in
    let device : c.deref_mut.result.now ≡ t.device.value = c.deref_mut.ensures.value in
    let told1 = ap g.D.Disk.tells device ∙ told' in
    let long = subst (λ t. IsThere (held t.device) t.file (λ f. t.gate < length f.bytes)) (sym c.self.view_is) (c.requires.writable.gate told) in
    let others = subst (λ d. Elsewhere t.file (held d) (held c.stage.new.device)) device (c.stage.ensures.others told1) in
    let left = subst (λ d. Left t.file (held d) (held c.stage.new.device) (t.gate + 1) (body (text (g.R.Spelled.format t.rules)) (t.places + 1) c.args.records.now ++ 0 ∷ [])) device (c.in_err-size.ensures.err t.rules told1) in
    ahead_kept held g.R.Spelled.format _ c.stage.new.device t.phase t.size t.count cursor rest (kept_left (held t.device.value) (held c.stage.new.device) t.file t.gate (t.gate + 1) _ (omega arith) (long.0, long.1, (long.2, omega (arith, long.2))) left)
    (λ q lt. others q (λ e. omega (arith, e, lt))) is'

pub returns-clause-ahead : goal.returns-clause-ahead
returns-clause-ahead g c = λ cursor rest told is.
    let held = g.D.Disk.held in
    let t = c.self.inside in
    let told' = subst (λ t. g.D.Disk.tells t.device ≡ true) (sym c.self.view_is) told in
    let is' = subst (λ t. Ahead held g.R.Spelled.format t cursor rest) (sym c.self.view_is) is in
    let device : c.deref_mut.result.now ≡ t.device.value = c.deref_mut.ensures.value in
    let told1 = ap g.D.Disk.tells device ∙ told' in
    let long = subst (λ t. IsThere (held t.device) t.file (λ f. t.gate < length f.bytes)) (sym c.self.view_is) (c.requires.writable.gate told) in
    let others = subst (λ d. Elsewhere t.file (held d) (held c.stage.new.device)) device (c.stage.ensures.others told1) in
    let put = subst (λ d. Put t.file (held d) (held c.stage.new.device) (t.gate + 1) (body (text (g.R.Spelled.format t.rules)) (t.places + 1) c.args.records.now ++ 0 ∷ [])) device (c.in_ok-size.ensures.ok t.rules told1) in
    ahead_kept held g.R.Spelled.format _ c.stage.new.device Loaded c.in_ok-size.size (length c.args.records.now) cursor rest (kept_put (held t.device.value) (held c.stage.new.device) t.file t.gate (t.gate + 1) _ (omega arith) (long.0, long.1, (long.2, omega (arith, long.2))) put)
    (λ q lt. others q (λ e. omega (arith, e, lt))) is'

pub returns-in_err-size-clause-holds : goal.returns-in_err-size-clause-holds
returns-in_err-size-clause-holds g c =
    let p = err_from_is_err_and c.from_residual.result c.from_residual.ensures.1 in
    let tells = g.D.Disk.tells in
    let held = g.D.Disk.held in
    let t = c.self.inside in
    let bytes = body (text (g.R.Spelled.format t.rules)) (t.places + 1) c.args.records.now ++ 0 ∷ [] in
    let device : c.deref_mut.result.now ≡ t.device.value = c.deref_mut.ensures.value in
    let ready = subst (λ v. v.phase ≡ Ready) (sym c.self.view_is) c.requires.ready in
    λ content is ordered.
    let is' = subst (λ v. Holds g.D.Disk g.R.Spelled.format v content) (sym c.self.view_is) is in
    rw p.1 (holds_not_loaded g.D.Disk g.R.Spelled.format _ c.stage.new.device (c.stage.ensures.works.is_later.tells ∙ ap tells device) content is' bytes ready (λ told.
    let told1 = ap tells device ∙ told in (
      subst (λ d. Elsewhere t.file (held d) (held c.stage.new.device)) device (c.stage.ensures.others told1),
      subst (λ d. Left t.file (held d) (held c.stage.new.device) (t.gate + 1) bytes) device (c.in_err-size.ensures.err t.rules told1),
    )))

pub returns-clause-holds : goal.returns-clause-holds
returns-clause-holds g c =
    let tells = g.D.Disk.tells in
    let held = g.D.Disk.held in
    let t = c.self.inside in
    let format = g.R.Spelled.format t.rules in
    let batch = c.args.records.now in
    let bytes = body (text format) (t.places + 1) batch ++ 0 ∷ [] in
    let device : c.deref_mut.result.now ≡ t.device.value = c.deref_mut.ensures.value in
    let ready = subst (λ v. v.phase ≡ Ready) (sym c.self.view_is) c.requires.ready in
    let few = subst (λ v. length batch ≤ (g.R.Spelled.format v.rules).most) (sym c.self.view_is) c.requires.most in
    let valid = subst (λ v. AllValid (g.R.Spelled.format v.rules) batch) (sym c.self.view_is) c.requires.valid in
    let size = length-body (text format) g.R.Spelled.record_length (λ item place. g.met.R.Spelled.text_length t.rules item (format.number item place)) (t.places + 1) batch in
    λ content is ordered.
    let is' = subst (λ v. Holds g.D.Disk g.R.Spelled.format v content) (sym c.self.view_is) is in
    let ordered' = subst (λ v. IsTrue (tells v.device) → (g.R.Spelled.format v.rules).in_order (landed_in content ++ batch) ≡ true) (sym c.self.view_is) ordered in
    holds_loaded g.D.Disk g.R.Spelled.format _ c.stage.new.device (c.stage.ensures.works.is_later.tells ∙ ap tells device) content is' batch c.in_ok-size.size ready (record { some = c.requires.some; few = few; each = valid }) (omega (arith, size, c.in_ok-size.ensures.size)) ordered' (λ told.
    let told1 = ap tells device ∙ told in (
      subst (λ d. Elsewhere t.file (held d) (held c.stage.new.device)) device (c.stage.ensures.others told1),
      subst (λ d. Put t.file (held d) (held c.stage.new.device) (t.gate + 1) bytes) device (c.in_ok-size.ensures.ok t.rules told1),
    ))

pub returns-in_err-size-clause-keeps : goal.returns-in_err-size-clause-keeps
returns-in_err-size-clause-keeps g c =
    let kind = g.D.Disk in
    let same : c.deref_mut.result.now ≡ c.args.self.now.device = c.deref_mut.ensures.value ∙ ap (λ v. v.device) c.self.view_is in
    record {
      rules = ap (λ v. v.rules) c.self.view_is;
      device = record {
        device = subst (λ d. kind.is_same d c.stage.new.device) same c.stage.ensures.works.is_later.device;
        tells = c.stage.ensures.works.is_later.tells ∙ ap kind.tells same;
        later = subst (λ d. kind.faults d ≤ kind.faults c.stage.new.device) same c.stage.ensures.works.is_later.later;
      };
      writable = λ _. returns-in_err-size-clause-writable g c;
    }

pub returns-clause-keeps : goal.returns-clause-keeps
returns-clause-keeps g c =
    let kind = g.D.Disk in
    let same : c.deref_mut.result.now ≡ c.args.self.now.device = c.deref_mut.ensures.value ∙ ap (λ v. v.device) c.self.view_is in
    record {
      rules = ap (λ v. v.rules) c.self.view_is;
      device = record {
        device = subst (λ d. kind.is_same d c.stage.new.device) same c.stage.ensures.works.is_later.device;
        tells = c.stage.ensures.works.is_later.tells ∙ ap kind.tells same;
        later = subst (λ d. kind.faults d ≤ kind.faults c.stage.new.device) same c.stage.ensures.works.is_later.later;
      };
      writable = λ _. returns-clause-writable g c;
    }
