use Rattle.std.proofs.Common.{◌≡◌, ◌+◌, ◌++◌, ℕ, List, [], ◌∷◌, length, take, sym, ap, subst, ◌∙◌}
use Rattle.std.proofs.lemmas.List.{take_more}
use Rattle.rollforward.specs.Filled.{Records}
use Rattle.rollforward.proofs.Gathers.{AreGathered, gathered_more, gathered_pass, none_files}
use Rattle.rollforward.proofs.gather.gather.Goals as goal
use Rattle.rollforward.proofs.gather.gather.Goals.{in-Some+in_ok-add_to, in_default}

pub loop-entry-preserved : goal.loop-entry-preserved
loop-entry-preserved c =
    let files : List (ℕ × ℕ) = c.args.files.now in
    let records : Records = c.args.records.now in
    let i : ℕ = c.loop-entry.entry-index in
    let e : ℕ × List ℕ × List ℕ = c.entry-item.result in
    let more : take (i + 1) records ≡ take i records ++ e ∷ [] = take_more records i e c.loop-entry-test.true ∙ ap (λ (x : ℕ × List ℕ × List ℕ). take i records ++ x ∷ []) (sym c.entry-item.is) in
    elim c.match-slot_of.branch [
      | in-Some+in_ok-add_to w ↦ record {
        many = ap (λ (v : List Records). length v) (ap (λ v. v.items) w.groups-is) ∙ w.add_to.ensures.count ∙ c.loop-entry.invariant.many;
        so_far = subst (λ (r : Records). AreGathered files c.match-slot_of.groups.items r) (sym more)
            (subst (λ v. AreGathered files v.items (take i records ++ e ∷ [])) (sym w.groups-is)
            (gathered_more files c.loop-entry.groups.items w.add_to.new.groups.items (take i records) e w.in-Some.slot w.in-Some.ensures.some.1 w.in_ok-add_to.ensures.here w.in_ok-add_to.ensures.others c.loop-entry.invariant.so_far));
      }
      | in_default w ↦ record {
        many = ap (λ v. length v.items) w.groups-is ∙ c.loop-entry.invariant.many;
        so_far = subst (λ (r : Records). AreGathered files c.match-slot_of.groups.items r) (sym more)
            (subst (λ v. AreGathered files v.items (take i records ++ e ∷ [])) (sym w.groups-is)
            (gathered_pass files c.loop-entry.groups.items (take i records) e (none_files c.slot_of.result _ w.in_default.not-Some c.slot_of.ensures.none) c.loop-entry.invariant.so_far));
      }
    ]
