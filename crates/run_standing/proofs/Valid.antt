-- Each record that an audit trail's image spells is of a disc of that trail, and of a file on that disc.
use Rattle.std.specs.Prelude.{◌≡◌, ◌⊎◌, ℕ, ◌+◌, true, List, [], ◌∷◌, ◌++◌, length}
use Rattle.std.specs.List.{AllByRecursion}
use Rattle.std.proofs.Common.{subst, inl, inr, ⊎_elim}
use Rattle.disk_model.specs.Held.{Held}
use Rattle.tmf_model.specs.declared.config.Config.{Config}
use Rattle.trail_files.specs.declared.audit_record.AuditRecord.{AuditRecord}
use Rattle.trail_files.specs.AuditRecord.{audit_format}
use Rattle.trail_files.specs.Format.{Format}
use Rattle.trail_files.specs.Text.{AreFiles, IsBatchOf, IsRolledText, Spells, all_of, records_of}
use Rattle.trail_replay.specs.Rules.{rules_of}
use Rattle.node_machine.specs.Law.{AreOfTrail}
use Rattle.node_machine.specs.Same.{Among}
use Rattle.run_standing.proofs.TrailRules.{are-rules}

among-append : {A : Type 0} (xs ys : List A) (x : A) → Among (xs ++ ys) x → Among xs x ⊎ Among ys x
among-append [] ys x among = inr among
among-append (z ∷ xs) ys x (inl is) = inl (inl is)
among-append (z ∷ xs) ys x (inr among) = ⊎_elim (λ here. inl (inr here)) (λ there. inr there) (among-append xs ys x among)

among-all : {A : Type 0} (P : A → Type 0) (xs : List A) (x : A) → AllByRecursion P xs → Among xs x → P x
among-all P [] x all among = absurd among
among-all P (y ∷ xs) x all (inl is) = subst P is all.0
among-all P (y ∷ xs) x all (inr among) = among-all P xs x all.1 among

module _ {R : Type 0} (format : Format R) where
  valid-batches : (batches : List (List R)) (r : R) → AllByRecursion (IsBatchOf format) batches → Among (all_of batches) r → format.valid r ≡ true
  valid-batches [] r each among = absurd among
  valid-batches (batch ∷ batches) r each among =
      ⊎_elim (λ here. among-all (λ x. format.valid x ≡ true) batch r each.0.each here) (valid-batches batches r each.1) (among-append batch (all_of batches) r among)

  valid-files : (held : Held) (file place : ℕ) (files : List (List (List R))) (r : R) → AreFiles (λ place batches f. IsRolledText format place batches f.bytes) held file place files
      → Among (records_of files) r → format.valid r ≡ true
  valid-files held file place [] r are among = absurd among
  valid-files held file place (batches ∷ files) r are among =
      ⊎_elim (valid-batches batches r are.0.2.each) (valid-files held (file + 1) (place + length (all_of batches)) files r are.1) (among-append (all_of batches) (records_of files) r among)

  -- each record that an image spells is valid
  pub spelled-valid : (held : Held) (records : List R) (r : R) → Spells format held records → Among records r → format.valid r ≡ true
  spelled-valid held records r spells among =
      ⊎_elim (valid-files held spells.least 1 spells.files r spells.text.rolled) (valid-batches spells.batches r spells.text.last.2.each)
      (among-append (records_of spells.files) (all_of spells.batches) r (subst (λ l. Among l r) spells.all among))

pub of-trail : (config : Config) (number : ℕ) (held : Held) (audit : List AuditRecord) → Spells (audit_format (rules_of config number)) held audit → AreOfTrail config number audit
of-trail config number held audit spells r among = are-rules config number r (spelled-valid (audit_format (rules_of config number)) held audit r spells among)
