-- The body of a dump, over what its calls leave of it.
use Rattle.std.proofs.Common.{◌≡◌, ◌+◌, ◌*◌, ℕ, zero, suc, List, [], ◌∷◌, ◌++◌, length, take, drop, refl, sym, ap, subst, ◌∙◌, arith, append-nil, length-append}
use Rattle.std.proofs.lemmas.List.{drop_all, take_all}
use Rattle.std.specs.Prelude.{Option, Some, None, ◌<◌}
use Rattle.disk_model.specs.Held.{File, Held, IsThere, Leaves, LeavesAt, LeavesFile, created, synced, written}
use Rattle.trail_files.specs.Landed.{IsSettled}
use Rattle.keyed_file.specs.Layout.{IsSpelledAt}
use Rattle.keyed_file.specs.declared.block.TheConstants.{BLOCK_BYTES}
use Rattle.online_dump.specs.Body.{IsBodySoFar, IsWholeBody}
use Rattle.online_dump.proofs.Stands.{stands_image}

-- bytes written at the end of others stand behind them
behind_all : (at : ℕ) (front block : List ℕ) → length front ≡ at → take at front ++ block ++ drop (at + length block) front ≡ front ++ block
behind_all at front block is =
    ap (λ (l : List ℕ). take at front ++ block ++ l) (drop_all (at + length block) front (omega (arith, is)))
    ∙ append-nil (take at front ++ block)
    ∙ ap (λ (l : List ℕ). l ++ block) (take_all at front (omega (arith, is)))

pub part_more : (number : ℕ) (text block : List ℕ) (f : File) → length block ≡ BLOCK_BYTES → IsBodySoFar number text f → IsBodySoFar (number + 1) (text ++ block) (written (number * BLOCK_BYTES) block f)
part_more zero text block f long is = record {
  long = length-append text block ∙ omega (arith, is.long, long);
  begun = λ e. absurd (omega (arith, e));
  written = λ some.
      ap (λ (l : List ℕ). block ++ l) (ap (drop (0 + length block)) (is.begun refl) ∙ drop_all (0 + length block) (0 ∷ []) (omega (arith, long))) ∙ append-nil block
      ∙ ap (λ (l : List ℕ). l ++ block) (sym (no_bytes text (omega (arith, is.long))));
}
  where
    no_bytes : (l : List ℕ) → length l ≡ 0 → l ≡ []
    no_bytes [] h = refl
    no_bytes (x ∷ xs) h = absurd (omega (arith, h))
part_more (suc n) text block f long is = record {
  long = length-append text block ∙ omega (arith, is.long, long);
  begun = λ e. absurd (omega (arith, e));
  written = λ some.
      (let same : f.bytes ≡ text = is.written (omega arith) in
      subst (λ (l : List ℕ). take (suc n * BLOCK_BYTES) l ++ block ++ drop (suc n * BLOCK_BYTES + length block) l ≡ text ++ block) (sym same) (behind_all (suc n * BLOCK_BYTES) text block is.long));
}

pub part_whole : (number : ℕ) (text : List ℕ) (f : File) → IsBodySoFar number text f → IsWholeBody text (synced f)
part_whole number text f is = record { bytes = λ some. is.written (omega (arith, some, is.long)); settled = record { safe = λ i lt. refl; synced = refl } }

pub part_at : (number at : ℕ) (text block : List ℕ) (f : File) → at ≡ number * BLOCK_BYTES → length block ≡ BLOCK_BYTES → IsBodySoFar number text f → IsBodySoFar (number + 1) (text ++ block) (written at block f)
part_at number at text block f is long part = subst (λ (n : ℕ). IsBodySoFar (number + 1) (text ++ block) (written n block f)) (sym is) (part_more number text block f long part)

pub part_none : IsBodySoFar 0 [] created
part_none = record { long = omega arith; begun = λ e. refl; written = λ some. absurd (omega (arith, some)) }

-- AN IMAGE

pub there_of : (h i : Option File) (file : File) → h ≡ Some file → LeavesAt h i → (image : File) × (i ≡ Some image) × LeavesFile file image
there_of None i file is leaves = absurd (cc (is))
there_of (Some f) None file is leaves = absurd leaves
there_of (Some f) (Some g) file is leaves = (g, refl, (let same : f ≡ file = cc (is) in subst (λ (x : File). LeavesFile x g) same leaves))

-- a file of which nothing is at risk has the text in every image
settled_image : (f g : File) (text : List ℕ) → 0 < length text → f.bytes ≡ text → IsSettled f → LeavesFile f g → IsSpelledAt g.bytes 0 text
settled_image f g text some is rest leaves =
    let long : length f.bytes ≡ length text = ap length is in
    stands_image f g 0 text some leaves (
    record {
      within = omega (arith, long);
      spelled = ap (λ (l : List ℕ). take (length text) l) is ∙ take_all (length text) text (omega arith);
      pinned = λ i from below. record { synced = (let all = rest.synced in omega (arith, below, long, all)); safe = rest.safe i (omega (arith, below, long)) };
    }
    )

pub body_image : (held image : Held) (body : ℕ) (text : List ℕ) → IsThere held body (IsWholeBody text) → Leaves held image → 0 < length text → IsThere image body (λ f. IsSpelledAt f.bytes 0 text)
body_image held image body text whole leaves some =
    let there = there_of (held body) (image body) whole.0 whole.1 (leaves body) in
    (there.0, there.1, settled_image whole.0 there.0 text some (whole.2.bytes some) whole.2.settled there.2)
