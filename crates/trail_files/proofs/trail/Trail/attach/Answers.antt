use Rattle.std.proofs.Common.{◌≡◌, List, IsTrue, ap, sym, subst, ◌∙◌}
use Rattle.trail_files.specs.Damaged.{IsDamagedAt}
use Rattle.trail_files.specs.Text.{Spells}
use Rattle.trail_files.specs.Scanned.{IsCounted, TellsOnly}
use Rattle.trail_files.specs.Trail.{Rests}
use Rattle.trail_files.proofs.Damages.{spelled_undamaged, one_damage}
use Rattle.trail_files.proofs.Openings.{opened_ready, opened_reads, counted_spells}
use Rattle.trail_files.proofs.Contents.{holds_opened}
use Rattle.trail_files.proofs.trail.Trail.attach.Goals as goal

pub returns-in-Ok-scan-clause-reads : goal.returns-in-Ok-scan-clause-reads
returns-in-Ok-scan-clause-reads g c = λ records told spells.
    let held = g.D.Disk.held in
    let format = g.R.Spelled.format in
    let laws = g.met.R.Spelled in
    let t = c.over.result in
    let device : c.deref_mut.result.now ≡ c.args.device = c.deref_mut.ensures.value ∙ c.in-Ok.ensures.device in
    let end = c.in-Ok-scan.end in
    let found = c.in-Ok-scan.ensures.found (ap g.D.Disk.tells device ∙ told) in
    let found' = subst (λ h. IsCounted (format c.args.rules) h end.least end.file end.gate end.places) (sym c.scan.ensures.same) found in
    let counted = subst (λ v. IsCounted (format v.rules) (held v.device) v.least v.file v.gate v.places) (sym c.over.ensures.view) found' in
    let rules : t.rules ≡ c.args.rules = ap (λ v. v.rules) c.over.ensures.view in
    let same : held t.device ≡ held c.args.device = ap (λ v. held v.device) c.over.ensures.view ∙ c.scan.ensures.same ∙ ap held device in
    let spells' = subst (λ r. Spells (format r) (held t.device) records) (sym rules) (subst (λ h. Spells (format c.args.rules) h records) (sym same) spells) in
    opened_reads held format t g.R.Spelled.record_length (laws.few t.rules) (λ item place. laws.text_length t.rules item ((format t.rules).number item place)) (λ a b place va vb e. (laws.one t.rules a b place place va vb e).0) (laws.begins t.rules) records spells' counted

pub returns-in-Ok-scan-clause-damage : goal.returns-in-Ok-scan-clause-damage
returns-in-Ok-scan-clause-damage g c =
    let held = g.D.Disk.held in
    let format = g.R.Spelled.format in
    let laws = g.met.R.Spelled in
    let t = c.over.result in
    let device : c.deref_mut.result.now ≡ c.args.device = c.deref_mut.ensures.value ∙ c.in-Ok.ensures.device in
    let end = c.in-Ok-scan.end in
    let rules : t.rules ≡ c.args.rules = ap (λ v. v.rules) c.over.ensures.view in
    let same : held t.device ≡ held c.args.device = ap (λ v. held v.device) c.over.ensures.view ∙ c.scan.ensures.same ∙ ap held device in
    let spelled : IsTrue (g.D.Disk.tells c.args.device) → (records : List _) × Spells (format c.args.rules) (held c.args.device) records = λ told.
    let found = c.in-Ok-scan.ensures.found (ap g.D.Disk.tells device ∙ told) in
    let found' = subst (λ h. IsCounted (format c.args.rules) h end.least end.file end.gate end.places) (sym c.scan.ensures.same) found in
    let counted = subst (λ v. IsCounted (format v.rules) (held v.device) v.least v.file v.gate v.places) (sym c.over.ensures.view) found' in
    let is = counted_spells held format t g.R.Spelled.record_length (laws.few t.rules) (λ item place. laws.text_length t.rules item ((format t.rules).number item place)) (λ a b place va vb e. (laws.one t.rules a b place place va vb e).0) (laws.begins t.rules) counted in
    (is.0, subst (λ h. Spells (format c.args.rules) h is.0) same (subst (λ r. Spells (format r) (held t.device) is.0) rules is.1)) in
    record {
      spelled = spelled;
      undamaged = λ records told spells. tt;
      damaged = λ told. tt;
      exact = λ damage told broken.
          let is = spelled told in
          spelled_undamaged (format c.args.rules) (g.R.Spelled.damage c.args.rules) g.R.Spelled.record_length (laws.few c.args.rules) (λ item place. laws.text_length c.args.rules item ((format c.args.rules).number item place)) (λ a b place va vb e. (laws.one c.args.rules a b place place va vb e).0) (laws.begins c.args.rules) (laws.undamaged c.args.rules)
          (held c.args.device) is.0 damage is.1 broken;
    }

pub returns-in-Err-scan-clause-damage : goal.returns-in-Err-scan-clause-damage
returns-in-Err-scan-clause-damage g c =
    let held = g.D.Disk.held in
    let format = g.R.Spelled.format c.args.rules in
    let laws = g.met.R.Spelled in
    let device : c.deref_mut.result.now ≡ c.args.device = c.deref_mut.ensures.value ∙ c.in-Ok.ensures.device in
    let size = g.R.Spelled.record_length in
    let damage = g.R.Spelled.damage c.args.rules in
    let told_is : IsTrue (g.D.Disk.tells c.args.device) → TellsOnly (IsDamagedAt format damage size (held c.args.device)) c.in-Err-scan.fault = λ told d e.
    subst (λ x. IsDamagedAt format damage size (held x) d) device (c.in-Err-scan.ensures.damaged (ap g.D.Disk.tells device ∙ told) d e) in
    record {
      spelled = λ told. tt;
      undamaged = λ records told spells d e.
          spelled_undamaged format damage size (laws.few c.args.rules) (λ item place. laws.text_length c.args.rules item (format.number item place)) (λ a b place va vb e. (laws.one c.args.rules a b place place va vb e).0) (laws.begins c.args.rules) (laws.undamaged c.args.rules) (held c.args.device) records d spells (told_is told d e);
      damaged = told_is;
      exact = λ wanted told broken d e.
          one_damage format damage size (laws.few c.args.rules) (λ item place. laws.text_length c.args.rules item (format.number item place)) (λ a b place va vb e. (laws.one c.args.rules a b place place va vb e).0) (laws.begins c.args.rules) (laws.undamaged c.args.rules) (held c.args.device) d wanted (told_is told d e) broken;
    }

pub returns-in-Ok-scan-clause-holds : goal.returns-in-Ok-scan-clause-holds
returns-in-Ok-scan-clause-holds g c = λ records rests.
    let held = g.D.Disk.held in
    let format = g.R.Spelled.format in
    let laws = g.met.R.Spelled in
    let t = c.over.result in
    let device : c.deref_mut.result.now ≡ c.args.device = c.deref_mut.ensures.value ∙ c.in-Ok.ensures.device in
    let end = c.in-Ok-scan.end in
    let telling : g.D.Disk.tells t.device ≡ g.D.Disk.tells c.args.device = ap (λ v. g.D.Disk.tells v.device) c.over.ensures.view ∙ c.scan.ensures.works.tells ∙ ap g.D.Disk.tells device in
    holds_opened g.D.Disk format t records (ap (λ v. v.phase) c.over.ensures.view) (λ told.
    let told0 = sym telling ∙ told in
    let found = c.in-Ok-scan.ensures.found (ap g.D.Disk.tells device ∙ told0) in
    let found' = subst (λ h. IsCounted (format c.args.rules) h end.least end.file end.gate end.places) (sym c.scan.ensures.same) found in
    let counted = subst (λ v. IsCounted (format v.rules) (held v.device) v.least v.file v.gate v.places) (sym c.over.ensures.view) found' in
    let rules : t.rules ≡ c.args.rules = ap (λ v. v.rules) c.over.ensures.view in
    let same : held t.device ≡ held c.args.device = ap (λ v. held v.device) c.over.ensures.view ∙ c.scan.ensures.same ∙ ap held device in
    let rests' = subst (λ r. Rests (format r) (held t.device) records) (sym rules) (subst (λ h. Rests (format c.args.rules) h records) (sym same) (rests told0)) in
    opened_ready held format t g.R.Spelled.record_length (laws.few t.rules) (λ item place. laws.text_length t.rules item ((format t.rules).number item place)) (λ a b place va vb e. (laws.one t.rules a b place place va vb e).0) (laws.begins t.rules) records rests' counted)
