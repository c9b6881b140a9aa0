use Rattle.std.proofs.Common.{[], ◌∷◌, subst}
use Rattle.trail_files.specs.declared.audit_record.AuditRecord.{AuditRecord}
use Rattle.audit_writer.specs.Handing.{disc_of, last_of}
use Rattle.audit_writer.specs.OneTrail.{IsFirst}
use Rattle.audit_writer.specs.Writer.{Writer}
use Rattle.audit_writer.specs.Writes.{HasUpTo}
use Rattle.two_discs.proofs.one_writer.hand_and_flush.Goals as goal

up_to_first : {D : Type 0} (w : Writer D) (r : AuditRecord) → IsFirst r → HasUpTo w (disc_of (r ∷ [])) (last_of (r ∷ [])) → HasUpTo w 1 1
up_to_first w r first has = subst (λ d. HasUpTo w d 1) first.disc (subst (λ n. HasUpTo w r.disc n) first.position has)

pub flush_to-requires : goal.flush_to-requires
flush_to-requires g c = record { has = up_to_first c.hand.new.self _ c.in_ok-state.ensures.first (c.in-Ok.ensures.has (λ none. absurd (cc (none)))) }
