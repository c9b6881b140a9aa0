-- An audit trail that was opened, and is at rest.
use Rattle.std.proofs.Common.{◌≡◌, ℕ, zero, suc, ◌+◌, ◌-◌, ◌<◌, ◌≤◌, Bool, true, false, Option, Some, None, List, length, refl, sym, subst, ap, ◌∙◌, arith, ⊎_elim, lit<, IsTrue}
use Rattle.std.specs.Prelude.{◌==◌, ◌&&◌, not}
use Rattle.std.specs.Option.{option_map_or}
use Rattle.std.proofs.lemmas.Bool.{cases_lt}
use Rattle.std.proofs.lemmas.Bool.Decides.{nat_tests}
use Rattle.disk_model.specs.Held.{File, Held, IfThere, IsLeast}
use Rattle.disk_model.specs.declared.disk.Disk as disk
use Rattle.run_opening.specs.Placed.{are_settled, is_at_rest, is_file_settled, none_at_risk}
use Rattle.trail_files.specs.AuditLaws.{audit_one, audit_length, audit_begins}
use Rattle.trail_files.specs.AuditRecord.{audit_format}
use Rattle.trail_files.specs.Landed.{IsSettled}
use Rattle.trail_files.specs.Text.{IsTrailText, Spells}
use Rattle.trail_files.specs.Trail.{Rests, View}
use Rattle.trail_files.specs.declared.audit_record.AuditRecord.{AuditRecord}
use Rattle.trail_files.specs.declared.rules.Rules.{Rules}
use Rattle.trail_files.proofs.Laws.{same_text}
use Rattle.trail_replay.specs.Opening.{IsOpened}

both_on : (a b : Bool) → (a && b) ≡ true → (a ≡ true) × (b ≡ true)
both_on true b is = (refl, is)
both_on false b is = absurd (cc)

on_both : (a b : Bool) → a ≡ true → b ≡ true → (a && b) ≡ true
on_both true b is_a is_b = is_b
on_both false b is_a is_b = absurd (cc)

not_off : (b : Bool) → not b ≡ true → b ≡ false
not_off true is = absurd (cc)
not_off false is = refl

off_not : (b : Bool) → b ≡ false → not b ≡ true
off_not true is = absurd (cc)
off_not false is = refl

same_on : (a b : ℕ) → (a == b) ≡ true → a ≡ b
same_on a b is = grind (arith, nat_tests)

on_same : (a b : ℕ) → a ≡ b → (a == b) ≡ true
on_same a b is = grind (arith, nat_tests)

none_below : (n : ℕ) (risk : ℕ → Bool) → none_at_risk n risk ≡ true → (i : ℕ) → i < n → risk i ≡ false
none_below zero risk is i lt = absurd (omega (arith, lt))
none_below (suc n) risk is i lt =
    let parts = both_on (not (risk n)) (none_at_risk n risk) is in
    ⊎_elim (λ (before : i < n). none_below n risk parts.1 i before)
    (λ (past : n ≤ i). (let here : n ≡ i = omega (arith, lt, past) in subst (λ (k : ℕ). risk k ≡ false) here (not_off (risk n) parts.0))) (cases_lt i n)

below_none : (n : ℕ) (risk : ℕ → Bool) → ((i : ℕ) → i < n → risk i ≡ false) → none_at_risk n risk ≡ true
below_none zero risk all = refl
below_none (suc n) risk all = on_both (not (risk n)) (none_at_risk n risk) (off_not (risk n) (all n (omega arith))) (below_none n risk (λ i lt. all i (omega (arith, lt))))

settled_file : (f : File) → is_file_settled f ≡ true → IsSettled f
settled_file f is =
    let parts = both_on (f.synced == length f.bytes) (none_at_risk (length f.bytes) f.risk) is in
    record { safe = none_below (length f.bytes) f.risk parts.1; synced = same_on f.synced (length f.bytes) parts.0 }

file_settled : (f : File) → IsSettled f → is_file_settled f ≡ true
file_settled f is = on_both (f.synced == length f.bytes) (none_at_risk (length f.bytes) f.risk) (on_same f.synced (length f.bytes) is.synced) (below_none (length f.bytes) f.risk is.safe)

settled_there : (o : Option File) → option_map_or is_file_settled o true ≡ true → (f : File) → o ≡ Some f → IsSettled f
settled_there o is f at = settled_file f (subst (λ (x : Option File). option_map_or is_file_settled x true ≡ true) at is)

there_settled : (o : Option File) → ((f : File) → o ≡ Some f → IsSettled f) → option_map_or is_file_settled o true ≡ true
there_settled None all = refl
there_settled (Some f) all = file_settled f (all f refl)

-- each file among so many is settled
settled_each : (held : Held) (first count : ℕ) → are_settled held first count ≡ true → (n : ℕ) → first ≤ n → n < first + count → IfThere held n IsSettled
settled_each held first zero is n le lt = absurd (omega (arith, le, lt))
settled_each held first (suc count) is n le lt =
    let parts = both_on (option_map_or is_file_settled (held first) true) (are_settled held (first + 1) count) is in
    ⊎_elim (λ (past : first < n). settled_each held (first + 1) count parts.1 n (omega (arith, past)) (omega (arith, lt)))
    (λ (here : n ≤ first). (let same : first ≡ n = omega (arith, le, here) in subst (λ (k : ℕ). IfThere held k IsSettled) same (settled_there (held first) parts.0))) (cases_lt first n)

each_settled : (held : Held) (first count : ℕ) → ((n : ℕ) → first ≤ n → n < first + count → IfThere held n IsSettled) → are_settled held first count ≡ true
each_settled held first zero all = refl
each_settled held first (suc count) all =
    on_both (option_map_or is_file_settled (held first) true) (are_settled held (first + 1) count) (there_settled (held first) (all first (omega arith) (omega arith)))
    (each_settled held (first + 1) count (λ n le lt. all n (omega (arith, le)) (omega (arith, lt))))

module _ {D : Type 0} (kind : disk.Ghosts D) (rules : Rules) (device : D) (trail : View D) (opened : IsOpened kind audit_format rules device trail) where
  held_is : kind.held trail.device ≡ kind.held device
  held_is = opened.reread.same

  -- one that is at rest tells what it holds
  pub rest_tells : IsTrue (is_at_rest kind trail) → IsTrue (kind.tells device)
  rest_tells rests = sym opened.reread.is_later.tells ∙ (both_on (kind.tells trail.device) (are_settled (kind.held trail.device) trail.least (trail.file + 1 - trail.least)) rests).0

  -- what is spelled stands in the files that the trail has counted
  spelled_there : IsTrue (kind.tells device) → (records : List AuditRecord) (spells : Spells (audit_format rules) (kind.held device) records) → (spells.least ≡ trail.least) × (spells.least + length spells.files ≡ trail.file)
  spelled_there tells records spells =
      let reads = opened.reads records tells spells in
      let ruled = opened.ruled in
      let least : IsLeast (kind.held device) (Some trail.least) = subst (λ (h : Held). IsLeast h (Some trail.least)) held_is reads.is_least in
      let text : IsTrailText (audit_format rules) (kind.held device) trail.least reads.files reads.batches =
      subst (λ (r : Rules). IsTrailText (audit_format r) (kind.held device) trail.least reads.files reads.batches) ruled
      (subst (λ (h : Held). IsTrailText (audit_format trail.rules) h trail.least reads.files reads.batches) held_is reads.text) in
      let same = same_text (audit_format rules) 128 (lit< tt) (λ item place. audit_length item item.position) (λ a b place va vb e. (audit_one rules a b va vb e).0) audit_begins (kind.held device)
      spells.least trail.least spells.files reads.files spells.batches reads.batches spells.is_least least spells.text text
      (ap (audit_format rules).in_order (sym spells.all) ∙ spells.in_order) (ap (audit_format rules).in_order (sym reads.all) ∙ spells.in_order) in
      (same.0, omega (arith, same.0, ap length same.1, reads.counts.file_is))

  -- it spells what rests on its device
  pub at_rest : IsTrue (is_at_rest kind trail) → (records : List AuditRecord) × Rests (audit_format rules) (kind.held device) records
  at_rest rests =
      let tells = rest_tells rests in
      let one = opened.spelled tells in
      let there = spelled_there tells one.0 one.1 in
      let parts = both_on (kind.tells trail.device) (are_settled (kind.held trail.device) trail.least (trail.file + 1 - trail.least)) rests in
      let settled : are_settled (kind.held device) trail.least (trail.file + 1 - trail.least) ≡ true = subst (λ (h : Held). are_settled h trail.least (trail.file + 1 - trail.least) ≡ true) held_is parts.1 in (
        one.0,
        record {
          spells = one.1;
          settled = λ n le lt. settled_each (kind.held device) trail.least (trail.file + 1 - trail.least) settled n (omega (arith, le, there.0)) (omega (arith, lt, le, there.0, there.1));
        },
      )

  -- and one on whose device records rest is at rest
  pub rest_at : IsTrue (kind.tells device) → (records : List AuditRecord) → Rests (audit_format rules) (kind.held device) records → IsTrue (is_at_rest kind trail)
  rest_at tells records rests =
      let there = spelled_there tells records rests.spells in
      on_both (kind.tells trail.device) (are_settled (kind.held trail.device) trail.least (trail.file + 1 - trail.least)) (opened.reread.is_later.tells ∙ tells)
      (subst (λ (h : Held). are_settled h trail.least (trail.file + 1 - trail.least) ≡ true) (sym held_is)
      (each_settled (kind.held device) trail.least (trail.file + 1 - trail.least) (λ n le lt. rests.settled n (omega (arith, le, there.0)) (omega (arith, lt, le, there.0, there.1)))))
