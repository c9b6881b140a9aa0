use Rattle.std.proofs.Common.{◌≡◌, ◌+◌, ◌≤◌, true, length, rules, inl, refl, ap, sym, subst, ◌∙◌, arith}
use Rattle.trail_files.specs.Cursor.{Leads}
use Rattle.trail_files.specs.declared.cursor.Cursor.{Cursor}
use Rattle.trail_files.specs.Trail.{Ahead, IsCount, IsWritable, StartsAt, with_device}
use Rattle.trail_files.proofs.Cursors.{map_next}
use Rattle.trail_files.proofs.Openings.{writable_same}
use Rattle.trail_files.specs.Next.{IsNextDamage}
use Rattle.trail_files.proofs.Outcomes.{if_err}
use Rattle.trail_files.specs.Holds.{Holds}
use Rattle.trail_files.proofs.Holding.{holds_same}
use Rattle.trail_files.proofs.trail.Trail.next.Goals as goal

pub returns-clause-frame : goal.returns-clause-frame
returns-clause-frame g c =
    let kind = g.D.Disk in
    let held = kind.held in
    let tells = kind.tells in
    let format = g.R.Spelled.format in
    let device = c.deref_mut.ensures.value in
    let same : c.deref_mut.result.now ≡ c.args.self.now.device = device ∙ ap (λ v. v.device) c.self.view_is in
    record {
      keeps = record {
        rules = ap (λ v. v.rules) c.self.view_is;
        device = record {
          device = subst (λ d. kind.is_same d c.take_next.new.device) same c.take_next.ensures.works.device;
          tells = c.take_next.ensures.works.tells ∙ ap tells same;
          later = subst (λ d. kind.faults d ≤ kind.faults c.take_next.new.device) same c.take_next.ensures.works.later;
        };
        writable = λ is.
            writable_same held format tells _ c.take_next.new.device (c.take_next.ensures.works.tells ∙ ap tells device) (c.take_next.ensures.same ∙ ap held device) (subst (λ t. IsWritable tells held t) (sym c.self.view_is) is);
      };
      holds = λ content is.
          holds_same kind format _ content c.take_next.new.device (c.take_next.ensures.works.tells ∙ ap tells device) (c.take_next.ensures.same ∙ ap held device) (subst (λ v. Holds kind format v content) (sym c.self.view_is) is);
      same = c.take_next.ensures.same ∙ ap held same;
      view = ap (λ v. with_device v c.take_next.new.device) c.self.view_is;
    }

pub returns-clause-passes : goal.returns-clause-passes
returns-clause-passes g c = record {
  next = λ rest told is.
      let held = g.D.Disk.held in
      let format = g.R.Spelled.format c.self.inside.rules in
      let t = c.self.inside in
      let told' = subst (λ t. g.D.Disk.tells t.device ≡ true) (sym c.self.view_is) told in
      let is' = subst (λ t. Ahead held g.R.Spelled.format t c.args.cursor.now rest) (sym c.self.view_is) is in
      let device : c.deref_mut.result.now ≡ t.device.value = c.deref_mut.ensures.value in
      let near = subst (λ d. StartsAt (held d) t.least c.args.cursor.now is'.from) (sym device) is'.from_is in
      let leads = subst (λ d. Leads format (held d) t.file t.gate is'.from rest) (sym device) is'.leads in
      let now = c.take_next.new.self in
      let taken = c.take_next.ensures.takes is'.from rest (ap g.D.Disk.tells device ∙ told') near leads in
      map_next now.file (λ more. Leads format (held c.deref_mut.result.now) t.file t.gate now more) _ (now.place ≡ c.args.cursor.now.place + 1) rest
      (λ item more e place behind. record { from = now; from_is = inl refl; leads = subst (λ h. Leads format h t.file t.gate now more) (sym c.take_next.ensures.same) behind; count = subst (λ n. IsCount format (t.places + 1) n) (omega (arith, ap length e, place)) is'.count })
      c.take_next.result taken c.take_next.ensures.place;
  rises = search rules;
  stays = search rules;
  ends = search rules;
}

pub returns-clause-damage : goal.returns-clause-damage
returns-clause-damage g c = record {
  damaged = λ told.
      let held = g.D.Disk.held in
      let t = c.self.inside in
      let told' = subst (λ t. g.D.Disk.tells t.device ≡ true) (sym c.self.view_is) told in
      let device : c.deref_mut.result.now ≡ t.device.value = c.deref_mut.ensures.value in
      let size = g.R.Spelled.record_length in
      let cursor = c.args.cursor.now in
      if_err c.take_next.result
      (λ fault is d e. subst (λ v. (start : Cursor) × StartsAt (held v.device) v.least cursor start × IsNextDamage (g.R.Spelled.format v.rules) (g.R.Spelled.bad_field v.rules) size (held v.device) start d) c.self.view_is
      (subst (λ x. (start : Cursor) × StartsAt (held x) t.least cursor start × IsNextDamage (g.R.Spelled.format t.rules) (g.R.Spelled.bad_field t.rules) size (held x) start d) device (is d e))) (c.take_next.ensures.damaged (ap g.D.Disk.tells device ∙ told'));
  undamaged = λ rest told is.
      let held = g.D.Disk.held in
      let format = g.R.Spelled.format c.self.inside.rules in
      let t = c.self.inside in
      let told' = subst (λ t. g.D.Disk.tells t.device ≡ true) (sym c.self.view_is) told in
      let is' = subst (λ t. Ahead held g.R.Spelled.format t c.args.cursor.now rest) (sym c.self.view_is) is in
      let device : c.deref_mut.result.now ≡ t.device.value = c.deref_mut.ensures.value in
      let near = subst (λ d. StartsAt (held d) t.least c.args.cursor.now is'.from) (sym device) is'.from_is in
      let leads = subst (λ d. Leads format (held d) t.file t.gate is'.from rest) (sym device) is'.leads in
      c.take_next.ensures.undamaged is'.from rest (ap g.D.Disk.tells device ∙ told') near leads;
}
