use Rattle.std.proofs.Common.{◌≡◌, ◌++◌, ◌≤◌, ℕ, List, take, vec_capacity, IsTrue}
use Rattle.tmf_lines.specs.Line.{lines_text}
use Rattle.tmf_lines.proofs.pieces.give_pieces.Given as goal

abbrev pub invariant-loop-line : goal.invariant-loop-line
invariant-loop-line g l = record {
  tells : g.K.Sink.tells l.sink ≡ g.K.Sink.tells l.fn.sink;
  later : g.K.Sink.faults l.fn.sink ≤ g.K.Sink.faults l.sink;
  room : 16384 ≤ vec_capacity l.piece;
  given : IsTrue (g.K.Sink.tells l.fn.sink)
      → (sent : List ℕ) × (g.K.Sink.given l.sink ≡ g.K.Sink.given l.fn.sink ++ sent) × (sent ++ l.piece.items ≡ lines_text (take l.line-index l.lines));
}
