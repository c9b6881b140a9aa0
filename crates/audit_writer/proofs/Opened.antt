-- A writer whose part has just opened.
use Rattle.std.specs.Prelude.{ℕ, List, [], ◌∷◌, ◌++◌, length, Option, slice_index}
use Rattle.std.proofs.Common.{zero, suc, ◌≡◌, inl, refl, ap, sym, ◌∙◌, subst, arith}
use Rattle.disk_model.specs.declared.disk.Disk as disk
use Rattle.trail_files.specs.declared.audit_record.AuditRecord.{AuditRecord}
use Rattle.trail_files.specs.declared.rules.Rules.{Rules}
use Rattle.trail_files.specs.declared.trail.TrailPhase.TheVariants.{Ready, RollOffered}
use Rattle.trail_files.specs.Trail.{View}
use Rattle.node_machine.specs.declared.event.TrailEvent.{TrailEvent}
use Rattle.node_machine.specs.declared.event.TrailEvent.TheVariants.{Purge}
use Rattle.node_machine.specs.Same.{Among}
use Rattle.node_machine.specs.Parts.{PartState}
use Rattle.node_machine.specs.Opening.{Found}
use Rattle.node_machine.specs.Trail.{offered, landed, present_file, records_of, first_of}
use Rattle.audit_writer.specs.Seat.{TrailSight}
use Rattle.audit_writer.specs.Writer.{IsWriter, IsOpened, AreFrom, AreDue, disc_made, failures, no_bounds}
use Rattle.audit_writer.proofs.Queues.{some_before}

not_rolling : Ready ≡ RollOffered → ⊥
not_rolling e = cc

zeros : (d : ℕ) → slice_index (0 ∷ 0 ∷ 0 ∷ 0 ∷ 0 ∷ 0 ∷ 0 ∷ 0 ∷ 0 ∷ []) d ≡ 0
zeros zero = refl
zeros (suc zero) = refl
zeros (suc (suc zero)) = refl
zeros (suc (suc (suc zero))) = refl
zeros (suc (suc (suc (suc zero)))) = refl
zeros (suc (suc (suc (suc (suc zero))))) = refl
zeros (suc (suc (suc (suc (suc (suc zero)))))) = refl
zeros (suc (suc (suc (suc (suc (suc (suc zero))))))) = refl
zeros (suc (suc (suc (suc (suc (suc (suc (suc zero)))))))) = refl
zeros (suc (suc (suc (suc (suc (suc (suc (suc (suc d))))))))) = refl

module _ {D : Type 0} (kind : disk.Ghosts D) (opening : List PartState) (found : Found) (rules_of : ℕ → Rules) (faults_of : ℕ → ℕ) (premise_of : ℕ → Type 0) (devices : ℕ → Option D) (v : TrailSight) (trail : View D)
    (is : IsOpened kind opening found rules_of faults_of premise_of devices v trail) where
  none_made : (d : ℕ) → disc_made v.part [] d ≡ []
  none_made d = ap (λ (es : List TrailEvent). records_of d (landed es ++ [])) is.none

  pub opened : IsWriter kind opening found rules_of faults_of premise_of devices (record { seat = v; trail = trail; queue = []; bounds = no_bounds })
  opened = record {
    at = is.at;
    belong = record {
      writable = is.writable;
      phase = inl (inl is.ready, ap offered is.none);
      more = λ rolls. absurd (not_rolling (sym is.ready ∙ rolls));
      file = (let same = ap (λ (es : List TrailEvent). present_file v.part.present es) is.none in omega (arith, same, is.file));
      front = ([], ap (λ (es : List TrailEvent). offered es ++ []) is.none);
      valid = tt;
      own = λ r none. absurd none;
      positions = λ d. subst (λ (l : List AuditRecord). AreFrom (first_of v.part.firsts d) d l) (sym (none_made d)) tt;
      made = λ d xs ys there some. absurd (some_before xs ys some (sym there ∙ none_made d));
      told = is.told;
      purged = λ below last there. absurd (subst (λ (es : List TrailEvent). Among es (Purge below last)) is.none there);
      stands = is.stands;
    };
    rules = is.rules;
    device = is.device;
    rise = λ small. (let none = ap failures is.none in omega (arith, is.before, none));
    floors = λ d. inl (zeros d);
  }

  pub opened_due : AreDue v.part [] (0 ∷ 0 ∷ 0 ∷ 0 ∷ 0 ∷ 0 ∷ 0 ∷ 0 ∷ 0 ∷ [])
  opened_due d small = inl (ap length (none_made d), zeros d)
