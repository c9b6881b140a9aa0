use Rattle.std.proofs.Common.{◌++◌, ℕ, List, get_or, take, sym, ap, ◌∙◌}
use Rattle.std.proofs.lemmas.List.{take_more}
use Rattle.keyed_file.specs.declared.home.Home.{Home}
use Rattle.rollforward.specs.Body.{homes_below, homes_in}
use Rattle.rollforward.proofs.HomeRows.{homes_snoc}
use Rattle.rollforward.proofs.homes.homes_of.Goals as goal

pub loop-file-preserved : goal.loop-file-preserved
loop-file-preserved c =
    let files : List (ℕ × ℕ) = c.args.files.now in
    let i : ℕ = c.loop-file.file-index in
    let f : ℕ × ℕ = get_or files i (0, 0) in
    c.in_ok-push_homes.ensures ∙ ap (λ (hs : List Home). hs ++ homes_below f.0 f.1 f.1) c.loop-file.invariant ∙ sym (homes_snoc (take i files) f) ∙ ap homes_in (sym (take_more files i (0, 0) c.loop-file-test.true))
