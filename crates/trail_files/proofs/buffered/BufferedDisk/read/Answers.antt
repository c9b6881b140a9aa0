use Rattle.std.specs.Prelude.{IfSome}
use Rattle.std.proofs.Common.{◌≡◌, ◌∙◌, ◌+◌, ◌++◌, ℕ, List, take, drop, length, arith, ap, sym, subst, append-nil}
use Rattle.std.proofs.lemmas.List.{drop_all}
use Rattle.disk_model.specs.Held.{read_of}
use Rattle.trail_files.specs.Buffered.{IsPiece}
use Rattle.trail_files.proofs.Pieces.{part_of_piece}
use Rattle.trail_files.proofs.buffered.BufferedDisk.read.Goals as goal

pub returns-in-Some-offset_of-clause-bytes : goal.returns-in-Some-offset_of-clause-bytes
returns-in-Some-offset_of-clause-bytes g c = λ told.
    let held = g.D.Disk.held c.args.self.now in
    let piece = c.in-Some.piece in
    let skip = c.in-Some-offset_of.skip in
    let into = c.args.into.now in
    let count = length into in
    let kept = subst (λ o. IfSome o (IsPiece g.D.Disk.tells g.D.Disk.held c.self.inside.device c.self.inside.buffer.items)) c.in-Some.is c.self.invariant in
    let kept' = subst (λ d. IsPiece g.D.Disk.tells g.D.Disk.held d c.self.inside.buffer.items piece) c.self.view_is kept in
    let k = c.in-Some-offset_of.ensures in
    let copied : c.copy_from_slice.new.self ≡ take count (drop skip c.self.inside.buffer.items) = c.copy_from_slice.ensures.after ∙ ap (λ (n : ℕ). take n (drop skip c.deref.result.now)) (omega arith) ∙ ap (λ (l : List ℕ). take count (drop skip l)) c.deref.ensures.value in
    let part = part_of_piece (held piece.file) c.self.inside.buffer.items piece.at piece.len skip count (kept'.has told) k.2 in
    let given : c.copy_from_slice.new.self ≡ read_of (held c.args.file) c.args.at count = copied ∙ part ∙ ap (λ n. read_of (held n) (piece.at + skip) count) k.0 ∙ ap (λ n. read_of (held c.args.file) n count) k.1 in (
      sym c.copy_from_slice.ensures.len ∙ ap length given,
      given ∙ sym (append-nil _) ∙ ap (λ l. read_of (held c.args.file) c.args.at count ++ l) (sym (drop_all count into (omega arith))),
    )
