use Rattle.std.specs.Prelude.{drop, take}
use Rattle.std.proofs.Common.{◌++◌, IsTrue, refl, sym, ap, subst, ◌∙◌}
use Rattle.tmf_lines.specs.Line.{IsNotGiven, lines_text}
use Rattle.tmf_edges.specs.Moves.{AppendsPart}
use Rattle.tmf_lines.proofs.LineTexts.{lines_text-parts}
use Rattle.tmf_lines.proofs.UnderWay.{part-second, fault-first}
use Rattle.tmf_lines.proofs.output.give_lines.Goals as goal

pub returns-in_default-clause-err : goal.returns-in_default-clause-err
returns-in_default-clause-err g c = λ tells. refl

pub returns-in-Err-clause-err : goal.returns-in-Err-clause-err
returns-in-Err-clause-err g c = λ told.
    let lines = c.args.lines.now in
    let n = c.records_in_front.result in
    subst (IsNotGiven c.in-Err.fault (g.K.Sink.given c.args.sink.now) (g.K.Sink.given c.give_records.new.sink)) (sym (lines_text-parts lines n))
    (fault-first c.in-Err.fault (g.K.Sink.given c.args.sink.now) (g.K.Sink.given c.give_records.new.sink) (lines_text (take n lines)) (lines_text (drop n lines))
    (subst (λ front. IsNotGiven c.in-Err.fault (g.K.Sink.given c.args.sink.now) (g.K.Sink.given c.give_records.new.sink) (lines_text front)) c.split_at.ensures.front (c.in-Err.ensures.err told)))

pub returns-clause-err : goal.returns-clause-err
returns-clause-err g c = λ told.
    let lines = c.args.lines.now in
    let n = c.records_in_front.result in
    let given = g.K.Sink.given c.give_records.new.sink in
    let after = g.K.Sink.given c.give_all.new.sink in
    subst (AppendsPart (g.K.Sink.given c.args.sink.now) after) (sym (lines_text-parts lines n))
    (part-second (g.K.Sink.given c.args.sink.now) given after (lines_text (take n lines)) (lines_text (drop n lines))
    (c.in_default-give_records.ensures.told told ∙ ap (λ front. g.K.Sink.given c.args.sink.now ++ lines_text front) c.split_at.ensures.front)
    (subst (AppendsPart given after) (c.as_bytes.ensures.value ∙ c.in-Ok.ensures ∙ ap lines_text c.split_at.ensures.back)
    (c.in-Err-give_all.ensures.err (subst IsTrue (sym c.give_records.ensures.tells) told))))
