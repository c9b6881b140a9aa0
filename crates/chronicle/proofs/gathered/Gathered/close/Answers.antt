use Rattle.std.proofs.Common.{◌≡◌, ℕ, ◌<◌, ◌%◌, ◌^◌, List, length, ap, sym, ◌∙◌, subst}
use mathlib.Core.Option.{some-injective}
use lib.ListN.{get_elem?}
use Rattle.chronicle.specs.Seats.{Sight}
use Rattle.chronicle.specs.Views.{Among}
use Rattle.chronicle.proofs.Facts.{last_state}
use Rattle.chronicle.proofs.Seating.{took_whole}
use Rattle.chronicle.proofs.Steps.{saw_all}
use Rattle.chronicle.proofs.gathered.Gathered.close.Goals as goal

pub invariant_of-result : goal.invariant_of-result
invariant_of-result g c =
    let u = c.unite-all.ensures in
    let all = c.unite-all.result in
    let n = c.note.ensures in
    let pass = c.note.new.pass in
    let live : pass.me.0.stage ≡ 1 = ap (λ m. m.0.stage) n.kept.1 ∙ ap (λ m. m.0.stage) u.united.view in
    let same : pass.me.0.opening ≡ g.J.Run.opening = ap (λ m. m.0.opening) n.kept.1 ∙ ap (λ m. m.0.opening) u.united.view in
    let parts : pass.me.0.parts ≡ all.me.0.parts = ap (λ m. m.0.parts) n.kept.1 in
    let whole : (p : ℕ) → p < length pass.me.0.opening → Among pass.me.0.parts p = λ p lt.
    let there = c.requires.all p (subst (λ l. p < length l) same lt) in
    subst (λ (ps : List ℕ). Among ps p) (sym parts) ((u.took there.0 there.1).has p there.2) in
    let last = saw_all g.M.Machine.rules pass.id pass.me.0 _ _ live whole c.close_with-closed.ensures.values.2 in
    let word = some-injective _ _ (sym c.word-events.ensures ∙ ap (λ (l : List ℕ). get_elem? l 0) last.0) in
    let seen : c.new-note.result.seen ≡ all.me.0.seen = ap (λ (v : Sight g.row.M-Event.Denot). v.seen) c.new-note.ensures ∙ ap (λ m. m.0.seen) n.given.1 in
    word ∙ ap (λ (l : List (ℕ × g.row.M-Event.Denot)). length l % 2 ^ 64) (ap (λ m. m.0.seen) n.kept.1 ∙ sym seen)

pub returns-clause-whole : goal.returns-clause-whole
returns-clause-whole g c v has =
    let seen : c.new-note.result.seen ≡ c.unite-all.result.me.0.seen = ap (λ (w : Sight g.row.M-Event.Denot). w.seen) c.new-note.ensures ∙ ap (λ m. m.0.seen) c.note.ensures.given.1 in
    took_whole c.unite-all.result.me.0 v c.new-note.result.seen seen (c.unite-all.ensures.took v has)

pub returns-clause-states : goal.returns-clause-states
returns-clause-states g c v p has is = last_state g.M.Machine.rules g.J.Run.opening c.new-note.result.seen v p (returns-clause-whole g c v has) is
