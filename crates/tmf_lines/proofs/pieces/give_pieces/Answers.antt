use Rattle.std.specs.Prelude.{drop, take, vec_capacity}
use Rattle.std.proofs.Common.{ℕ, Vec, Global, ◌≡◌, ◌≤◌, ◌+◌, ◌++◌, ◌∷◌, [], IsTrue, subst, sym, ap, ◌∙◌, arith}
use Rattle.tmf_lines.specs.Line.{line_text, lines_text}
use Rattle.tmf_edges.specs.Moves.{AppendsPart}
use Rattle.tmf_lines.proofs.LineTexts.{lines_text-next, lines_text-parts}
use Rattle.tmf_lines.proofs.UnderWay.{IsUnderWay, on-err, on-err-so, under-way-added, under-way-given, under-way-part, record-at}
use Rattle.tmf_lines.proofs.pieces.give_pieces.Goals.{then-len+in_ok-give_all, else-len}
use Rattle.tmf_lines.proofs.pieces.give_pieces.Goals as goal

pub add_line-requires-clause-record : goal.add_line-requires-clause-record
add_line-requires-clause-record g c = record-at c.args.lines.now c.loop-line.line-index c.line-item.result c.requires.records c.loop-line-test.true c.line-item.is

pub returns-in_err-give_all-clause-err : goal.returns-in_err-give_all-clause-err
returns-in_err-give_all-clause-err g c = λ told.
    let n = c.loop-line.line-index in
    let lines = c.args.lines.now in
    on-err c.from_residual.result
    (subst (λ text. AppendsPart (g.K.Sink.given c.args.sink.now) (g.K.Sink.given c.give_all.new.sink) text) (sym (lines_text-parts lines n))
    (under-way-part (g.K.Sink.given c.args.sink.now) (g.K.Sink.given c.loop-line.sink) (g.K.Sink.given c.give_all.new.sink) c.loop-line.piece.items (lines_text (take n lines)) (lines_text (drop n lines)) (c.loop-line.invariant.given told)
    (subst (λ piece. AppendsPart (g.K.Sink.given c.loop-line.sink) (g.K.Sink.given c.give_all.new.sink) piece) c.deref.ensures.value (c.in_err-give_all.ensures.err (subst IsTrue (sym c.loop-line.invariant.tells) told)))))

pub loop-line-preserved : goal.loop-line-preserved
loop-line-preserved g c =
    let n = c.loop-line.line-index in
    let lines = c.args.lines.now in
    let next = lines_text-next lines n c.line-item.result c.loop-line-test.true c.line-item.is in
    let inv = c.loop-line.invariant in
    let before = g.K.Sink.given c.args.sink.now in
    let text = lines_text (take n lines) in
    let IsSo : g.row.K.Denot → Vec ℕ Global → Type 0 = λ sink piece. (g.K.Sink.tells sink ≡ g.K.Sink.tells c.args.sink.now) × (g.K.Sink.faults c.args.sink.now ≤ g.K.Sink.faults sink) × (16384 ≤ vec_capacity piece)
    × (IsTrue (g.K.Sink.tells c.args.sink.now) → IsUnderWay before (g.K.Sink.given sink) piece.items text) in
    let here : IsSo c.if-len.sink c.if-len.piece = elim c.if-len.branch [
      | then-len+in_ok-give_all w ↦
          subst (λ sink. IsSo sink c.if-len.piece) (sym w.sink-is)
          (subst (λ piece. IsSo w.give_all.new.sink piece) (sym w.piece-is) (
            w.give_all.ensures.tells ∙ inv.tells,
            omega (arith, inv.later, w.give_all.ensures.cause.later),
            omega (arith, inv.room, w.clear.ensures.capacity),
            λ told. subst (λ items. IsUnderWay before (g.K.Sink.given w.give_all.new.sink) items text) (sym w.clear.ensures.items)
                (under-way-given before (g.K.Sink.given c.loop-line.sink) (g.K.Sink.given w.give_all.new.sink) c.loop-line.piece.items text (inv.given told)
                (w.in_ok-give_all.ensures.told (subst IsTrue (sym inv.tells) told) ∙ ap (λ bytes. g.K.Sink.given c.loop-line.sink ++ bytes) w.deref.ensures.value)),
          ))
      | else-len w ↦ subst (λ sink. IsSo sink c.if-len.piece) (sym w.sink-is) (subst (λ piece. IsSo c.loop-line.sink piece) (sym w.piece-is) (inv.tells, inv.later, inv.room, inv.given))
    ] in
    record {
      tells = here.0;
      later = here.1;
      room = omega (arith, here.2, c.add_line.ensures.capacity);
      given = λ told. under-way-added (g.K.Sink.given c.args.sink.now) (g.K.Sink.given c.if-len.sink) c.if-len.piece.items c.add_line.new.piece.items (lines_text (take n lines)) _ (lines_text (take (n + 1) lines)) (here.3 told) c.add_line.ensures.items next;
    }

pub returns-clause-err : goal.returns-clause-err
returns-clause-err g c = λ told.
    let n = c.loop-line.line-index in
    let lines = c.args.lines.now in
    on-err-so c.give_all-2.result
    (λ part. subst (λ text. AppendsPart (g.K.Sink.given c.args.sink.now) (g.K.Sink.given c.give_all-2.new.sink) text) (sym (lines_text-parts lines n))
    (under-way-part (g.K.Sink.given c.args.sink.now) (g.K.Sink.given c.loop-line.sink) (g.K.Sink.given c.give_all-2.new.sink) c.loop-line.piece.items (lines_text (take n lines)) (lines_text (drop n lines)) (c.loop-line.invariant.given told)
    (subst (λ piece. AppendsPart (g.K.Sink.given c.loop-line.sink) (g.K.Sink.given c.give_all-2.new.sink) piece) c.deref-2.ensures.value part)))
    (c.give_all-2.ensures.err (subst IsTrue (sym c.loop-line.invariant.tells) told))
