use Rattle.std.proofs.Common.{◌++◌, length, arith, ap, ◌∙◌, length-append}
use Rattle.std.proofs.lemmas.List.{append-nil, nil_from_length}
use Rattle.trail_files.specs.Format.{text}
use Rattle.trail_files.proofs.trail.Trail.no_prefix.Goals as goal

pub returns-clause-whole : goal.returns-clause-whole
returns-clause-whole g c = λ rules a b n m rest e.
    let format = g.R.Spelled.format rules in
    let long = g.met.R.Spelled.text_length rules in
    nil_from_length rest (omega (arith, ap length e, long a n, long b m, length-append (format.spelling a n) rest))

pub returns-clause-prefix : goal.returns-clause-prefix
returns-clause-prefix g c = λ rules a b n m rest va vb e.
    let format = g.R.Spelled.format rules in
    let long = g.met.R.Spelled.text_length rules in
    let none = nil_from_length rest (omega (arith, ap length e, long a (format.number a n), long b (format.number b m), length-append (text format a n) rest)) in
    let same = g.met.R.Spelled.one rules b a m n vb va (e ∙ ap (λ l. text format a n ++ l) none ∙ append-nil (text format a n)) in
    (same.0, same.1, none)
