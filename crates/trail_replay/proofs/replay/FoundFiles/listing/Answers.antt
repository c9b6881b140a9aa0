use Rattle.std.specs.Prelude.{Some, slice_get}
use Rattle.std.proofs.Common.{◌≡◌, ◌-◌, length, get_or, ◌<◌, sym, ap, ◌∙◌, arith}
use Rattle.std.proofs.lemmas.Option.{slice_get-get_or}
use Rattle.trail_replay.proofs.Replays.{listing-at}
use Rattle.trail_replay.proofs.replay.FoundFiles.listing.Goals as goal

pub returns : goal.returns
returns c =
    let files = c.args.self.now.files.items in
    let below : c.args.file - 1 < length files = omega (arith, c.requires.some, c.requires.few) in
    let there : slice_get files (c.args.file - 1) ≡ Some c.index.result.now = slice_get-get_or files (c.args.file - 1) c.index.result.now below ∙ ap Some (sym (c.index.ensures ∙ ap (λ n. get_or files (n - 1) c.index.result.now) c.from.ensures)) in
    listing-at c.args.self.now c.args.file c.index.result.now c.listing.result there (c.listing.ensures c.args.file)
