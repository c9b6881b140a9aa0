-- The audit records of changes are valid, and go on without a gap.
use Rattle.std.specs.Prelude.{is_some, ◌||◌, nat_le}
use Rattle.std.proofs.Common.{◌≡◌, ℕ, ◌+◌, ◌≤◌, true, List, [], ◌∷◌, ◌++◌, length, Option, Some, None, Ok, refl, ap, sym, arith}
use Rattle.std.specs.List.{AllByRecursion}
use Rattle.std.proofs.lemmas.Bool.{and_from, le-leb}
use Rattle.tmf_model.specs.Effect.{applied}
use Rattle.tmf_model.specs.Transid.{is_between, is_transid}
use Rattle.tmf_model.specs.Word.{is_key}
use Rattle.tmf_model.specs.declared.script.Op.{Op}
use Rattle.tmf_model.specs.declared.script.Op.TheVariants.{Put, Add, Del, Read, Lock}
use Rattle.trail_files.specs.AuditFormat.{is_audit_record, is_disc_of, is_file_of, is_image}
use Rattle.trail_files.specs.declared.audit_record.AuditRecord.{AuditRecord}
use Rattle.trail_files.specs.declared.rules.Rules.{Rules}
use Rattle.node_machine.specs.Disc.{IsChange}
use Rattle.audit_writer.specs.Writer.{AreFrom}

-- a change has a value before it or after it
pub some_image : (op : Op) (before after : Option (List ℕ)) → IsChange op → applied op before ≡ Ok after → (is_some before || is_some after) ≡ true
some_image (Put value) None after c e = (let v : Some value ≡ after = cc (e) in ap is_some (sym v))
some_image (Put value) (Some b) after c e = refl
some_image (Add n) None after c e = absurd (cc (e))
some_image (Add n) (Some b) after c e = refl
some_image Del None after c e = absurd (cc (e))
some_image Del (Some b) after c e = refl
some_image Read before after c e = absurd c
some_image Lock before after c e = absurd c

between : (a b n : ℕ) → a ≤ n → n ≤ b → is_between a b n ≡ true
between a b n low high = and_from (nat_le a n) (nat_le n b) (le-leb a n low) (le-leb n b high)

pub record_valid : (rules : Rules) (r : AuditRecord) → is_disc_of rules r.disc ≡ true → is_file_of rules r.file r.disc ≡ true → is_transid r.tx ≡ true → 1 ≤ r.position → r.position ≤ 4611686018427387903
    → is_key r.key ≡ true → is_image r.before ≡ true → is_image r.after ≡ true → (is_some r.before || is_some r.after) ≡ true → is_audit_record rules r ≡ true
record_valid rules r disc file tx low high key before after some =
    and_from _ _ disc (and_from _ _ file (and_from _ _ tx (and_from _ _ (between 1 4611686018427387903 r.position low high) (and_from _ _ key (and_from _ _ before (and_from _ _ after some))))))

pub all_more : (P : AuditRecord → Type 0) (xs : List AuditRecord) (x : AuditRecord) → AllByRecursion P xs → P x → AllByRecursion P (xs ++ x ∷ [])
all_more P [] x h p = (p, tt)
all_more P (y ∷ xs) x h p = (h.0, all_more P xs x h.1 p)

pub from_more : (p d : ℕ) (xs : List AuditRecord) (x : AuditRecord) → AreFrom p d xs → x.disc ≡ d → x.position ≡ p + length xs → AreFrom p d (xs ++ x ∷ [])
from_more p d [] x h disc at = (disc, (omega (arith, at)), tt)
from_more p d (y ∷ xs) x h disc at = (h.0, h.1, from_more (p + 1) d xs x h.2 disc (omega (arith, at)))
