-- The lines of a recovery, of which some were printed before.
use Rattle.std.specs.Prelude.{map, drop, min}
use Rattle.std.specs.List.{enumerate_from}
use Rattle.std.proofs.Common.{zero, suc, ◌≡◌, ◌≤◌, ◌+◌, ◌++◌, ◌∷◌, [], ℕ, List, length, refl, sym, ap, ◌∙◌, ⊎_elim, arith}
use Rattle.std.proofs.lemmas.Bool.{cases_lt}
use Rattle.std.proofs.lemmas.List.{append-nil}
use Rattle.std.proofs.Math.Nat.{min-eq_left, min-eq_right, min-le_right}
use Rattle.trail_files.specs.declared.monitor_record.MonitorRecord.{MonitorRecord}
use Rattle.tmf_lines.specs.declared.line.Line.{Line}
use Rattle.tmf_lines.specs.declared.line.Line.TheVariants.{Recorded}
use Rattle.tmf_lines.specs.Report.{recorded_lines}

-- the lines of records whose first stands at this place
abbrev pub lines_from : ℕ → List MonitorRecord → List Line
lines_from place records = map (λ numbered. Recorded numbered.0 numbered.1) (enumerate_from place records)

-- the lines behind the first so many are those of the records behind them
pub dropped : (count place : ℕ) (records : List MonitorRecord) → count ≤ length records → lines_from (place + count) (drop count records) ≡ drop count (lines_from place records)
dropped zero place records le = ap (λ p. lines_from p records) (omega arith)
dropped (suc count) place [] le = absurd (omega (arith, le))
dropped (suc count) place (r ∷ rest) le = ap (λ p. lines_from p (drop count rest)) (omega arith) ∙ dropped count (place + 1) rest (omega (arith, le))

-- no more are left out than there are
drop-all : {T : Type 0} (count : ℕ) (xs : List T) → length xs ≤ count → drop count xs ≡ []
drop-all zero [] le = refl
drop-all zero (x ∷ xs) le = absurd (omega (arith, le))
drop-all (suc count) [] le = refl
drop-all (suc count) (x ∷ xs) le = drop-all count xs (omega (arith, le))

lines-length : (place : ℕ) (records : List MonitorRecord) → length (lines_from place records) ≡ length records
lines-length place [] = refl
lines-length place (r ∷ rest) = ap suc (lines-length (place + 1) rest)

pub dropped-least : (count place : ℕ) (records : List MonitorRecord) → drop (min count (length records)) (lines_from place records) ≡ drop count (lines_from place records)
dropped-least count place records =
    ⊎_elim
    (λ lt. let less : count ≤ length records = omega (arith, lt) in ap (λ k. drop k (lines_from place records)) (min-eq_left less))
    (λ ge.
    let same = lines-length place records in
    ap (λ k. drop k (lines_from place records)) (min-eq_right ge)
    ∙ drop-all (length records) (lines_from place records) (omega (arith, same))
    ∙ sym (drop-all count (lines_from place records) (omega (arith, same, ge))))
    (cases_lt count (length records))

-- the lines that the loop begins with
pub lines-begin : (printed skipped : ℕ) (records rest : List MonitorRecord) (none : List Line) → skipped ≡ min printed (length records) → rest ≡ drop skipped records → none ≡ []
    → none ++ lines_from (skipped + 1) rest ≡ drop skipped (recorded_lines records)
lines-begin printed skipped records rest none least is empty =
    let few : skipped ≤ length records = let m = min-le_right printed (length records) in omega (arith, m, least) in
    ap (λ ls. ls ++ lines_from (skipped + 1) rest) empty ∙ ap (λ p. lines_from p rest) (omega arith) ∙ ap (lines_from (1 + skipped)) is ∙ dropped skipped 1 records few

-- no lines of no records
pub lines-none : (place : ℕ) (rest : List MonitorRecord) (lines : List Line) → length rest ≡ 0 → lines ++ lines_from place rest ≡ lines
lines-none place [] lines none = append-nil lines
lines-none place (r ∷ more) lines none = absurd (omega (arith, none))

-- and those that it ends with
pub lines-end : (printed skipped : ℕ) (records : List MonitorRecord) (lines : List Line) → skipped ≡ min printed (length records) → lines ≡ drop skipped (recorded_lines records) → lines ≡ drop printed (recorded_lines records)
lines-end printed skipped records lines least is = is ∙ ap (λ k. drop k (recorded_lines records)) least ∙ dropped-least printed 1 records
