-- A label, as its file is written.
use Rattle.std.proofs.Common.{◌≡◌, ◌≢◌, ◌⊎◌, inl, inr, ℕ, ◌+◌, ◌-◌, ◌<◌, ◌≤◌, List, [], ◌∷◌, ◌++◌, length, get_or, take, drop, Option, Some, refl, sym, ap, subst, ◌∙◌, arith, append_assoc, length-drop}
use Rattle.std.proofs.lemmas.List.{ext_get_or, get_or-drop, get_or-take, get_or_append_left, length-take-le}
use Rattle.std.proofs.Math.Seq.{get_or-append_right}
use Rattle.disk_model.specs.Held.{Held, File, Leaves, LeavesAt, Elsewhere, Tears, written, synced, created}
use Rattle.trail_files.specs.Landed.{IsPinned, IsSettled}
use Rattle.keyed_file.specs.declared.label.Label.{Label}
use Rattle.keyed_file.specs.LabelFormat.{label_text}
use Rattle.block_cache.specs.Created.{IsSurelyLost, MayBeLabelled}
use Rattle.keyed_file.specs.Layout.{IsSpelledAt, bytes_at, label_pair, selected_by, slot_at}
use Rattle.block_cache.specs.Pairs.{StandsAt, IsSelected}
use Rattle.keyed_file.specs.Volume.{SpellsLabel}
use Rattle.block_cache.proofs.Caches.{same_or_other}
use Rattle.block_cache.proofs.Creating.{length_at_end, settled_synced}
use Rattle.block_cache.proofs.Pairing.{keeps_left}
use Rattle.block_cache.proofs.Showing.{leaves_there}
use Rattle.block_cache.proofs.Stands.{get_or_put, get_or-written, length-written, same_range, stands_image}

-- a file whose first byte is 0 in every image leaves the volume without a label
pub lost_file : (held : Held) (f : File) → held 1 ≡ Some f → IsPinned f 0 → get_or f.bytes 0 0 ≢ 1 → IsSurelyLost held
lost_file held f at pin away image leaves = λ file there.
    let left = leaves_there (held 1) (image 1) f at (leaves 1) in
    let same : left.0 ≡ file = some_file left.0 file (sym left.1 ∙ there) in
    subst (λ (x : File). (0 < length x.bytes) × (get_or x.bytes 0 0 ≢ 1)) same (omega (arith, pin.synced, left.2.no_shorter), λ one. away (sym (left.2.same 0 pin.synced pin.safe) ∙ one))
  where
    some_file : (a b : File) → Some a ≡ Some b → a ≡ b
    some_file a b e = cc

pub lost_created : (held : Held) → held 1 ≡ Some created → IsSurelyLost held
lost_created held at = lost_file held created at (record { synced = omega arith; safe = refl }) (λ e. omega (arith, e))

-- a byte that was written is read at its place
pub get_or-within : (at : ℕ) (bytes : List ℕ) (file : File) (i : ℕ) → at ≤ length file.bytes → i < length bytes → get_or (written at bytes file).bytes (at + i) 0 ≡ get_or bytes i 0
get_or-within at bytes file i le lt =
    let front = take at file.bytes in
    let long : length front ≡ at = length-take-le at file.bytes le in
    let back : at + i - length front ≡ i = omega (arith, long) in
    ap (λ (l : List ℕ). get_or l (at + i) 0) (append_assoc front bytes (drop (at + length bytes) file.bytes))
    ∙ get_or-append_right front (bytes ++ drop (at + length bytes) file.bytes) (at + i) 0 (omega (arith, long))
    ∙ ap (λ (n : ℕ). get_or (bytes ++ drop (at + length bytes) file.bytes) n 0) back
    ∙ get_or_append_left bytes (drop (at + length bytes) file.bytes) 0 i lt

-- what stands within what was written
pub spelled_within : (at offset : ℕ) (bytes text : List ℕ) (file : File) → at ≤ length file.bytes → offset + length text ≤ length bytes → IsSpelledAt bytes offset text → IsSpelledAt (written at bytes file).bytes (at + offset) text
spelled_within at offset bytes text file le within spelled =
    let all = (written at bytes file).bytes in
    let grown = length-written at bytes file le in
    let one : length (bytes_at (at + offset) (length text) all) ≡ length text = length-take-le (length text) (drop (at + offset) all) (omega (arith, length-drop (at + offset) all, grown.1, within)) in
    ext_get_or 0 (bytes_at (at + offset) (length text) all) text one (λ i lt.
    let below : i < length text = omega (arith, lt, one) in
    let shift : at + offset + i ≡ at + (offset + i) = omega arith in
    get_or-take (length text) (drop (at + offset) all) i 0 below ∙ get_or-drop (at + offset) all i 0
    ∙ ap (λ (n : ℕ). get_or all n 0) shift ∙ get_or-within at bytes file (offset + i) le (omega (arith, below, within))
    ∙ sym (get_or-drop offset bytes i 0) ∙ sym (get_or-take (length text) (drop offset bytes) i 0 below) ∙ ap (λ (l : List ℕ). get_or l i 0) spelled)

-- the file behind its gate
pub record IsBehindGate (label : Label) (f : File) : Type 0 where
  pub long : length f.bytes ≡ 768
  pub settled : IsSettled f
  pub selector : get_or f.bytes 1 0 ≡ 0
  pub spelled : IsSpelledAt f.bytes 256 (label_text label)
  pub size : length (label_text label) ≡ 256

pub behind_gate : (label : Label) (bytes : List ℕ) → length bytes ≡ 767 → get_or bytes 0 0 ≡ 0 → IsSpelledAt bytes 255 (label_text label) → length (label_text label) ≡ 256 → IsBehindGate label (synced (written 1 bytes created))
behind_gate label bytes long closed spelled size = record {
  long = length_at_end 1 bytes created refl ∙ omega (arith, long);
  settled = settled_synced (written 1 bytes created);
  selector = get_or-within 1 bytes created 0 (omega arith) (omega (arith, long)) ∙ closed;
  spelled = spelled_within 1 255 bytes (label_text label) created (omega arith) (omega (arith, long, size)) spelled;
  size = size;
}

-- with an open gate it spells the label
spells_open : (label : Label) (bytes : List ℕ) → 768 ≤ length bytes → get_or bytes 0 0 ≡ 1 → get_or bytes 1 0 ≡ 0 → IsSpelledAt bytes 256 (label_text label) → SpellsLabel label bytes
spells_open label bytes long gate selector spelled = record {
  long = long;
  gate = gate;
  shown = subst (λ (byte : ℕ). IsSpelledAt bytes (slot_at label_pair (selected_by byte)) (label_text label)) (sym selector) spelled;
}

pub gate_ok : (label : Label) (f : File) → IsBehindGate label f → IsSettled (synced (written 0 (1 ∷ []) f)) × SpellsLabel label (synced (written 0 (1 ∷ []) f)).bytes
gate_ok label f is =
    let g = written 0 (1 ∷ []) f in
    let long = length-written 0 (1 ∷ []) f (omega arith) in (
      settled_synced g,
      spells_open label g.bytes (omega (arith, long.0, is.long)) (get_or_put 0 1 f (omega arith)) (get_or-written 0 (1 ∷ []) f 1 (omega arith) (inr (omega arith)) ∙ is.selector)
          (same_range g.bytes f.bytes 256 (length (label_text label)) (omega (arith, long.0, is.long, is.size)) (omega (arith, is.long, is.size)) (λ i from below. get_or-written 0 (1 ∷ []) f i (omega arith) (inr (omega (arith, from)))) ∙ is.spelled),
    )

-- what a failed write of the gate leaves: no label, or this one
pub gate_err : (label : Label) (held : Held) (f g : File) → IsBehindGate label f → Tears 0 1 f g ⊎ (g ≡ written 0 (1 ∷ []) f) → held 1 ≡ Some g → MayBeLabelled label held
gate_err label held f g is left at image leaves =
    let keeps = keeps_left 0 (1 ∷ []) f g (omega arith) left in
    let stands : StandsAt f 256 (label_text label) = record { within = omega (arith, is.long, is.size); spelled = is.spelled; pinned = λ i from below. record { synced = omega (arith, is.settled.synced, is.long, is.size, below); safe = is.settled.safe i (omega (arith, is.long, is.size, below)) } } in
    let now = keeps.stands 256 (label_text label) (inr (omega arith)) stands in
    let selected : IsSelected f 1 0 = record { pinned = record { synced = omega (arith, is.settled.synced, is.long); safe = is.settled.safe 1 (omega (arith, is.long)) }; named = ap selected_by is.selector } in
    let there = leaves_there (held 1) (image 1) g at (leaves 1) in
    let selector = keeps.selected 1 0 (omega (arith, is.long)) (inr (omega arith)) selected in
    let image_selector : selected_by (get_or there.0.bytes 1 0) ≡ 0 = ap selected_by (there.2.same 1 selector.pinned.synced selector.pinned.safe) ∙ selector.named in
    let image_slot = stands_image g there.0 256 (label_text label) (omega (arith, is.size)) there.2 now in
    elim (same_or_other (get_or there.0.bytes 0 0) 1) [
      | inl opened ↦ inr (there.0, there.1, record { long = omega (arith, keeps.whole (omega (arith, is.settled.synced)), is.settled.synced, is.long, there.2.no_shorter); gate = opened; shown = subst (λ (s : ℕ). IsSpelledAt there.0.bytes (slot_at label_pair s) (label_text label)) (sym image_selector) image_slot })
      | inr closed ↦ inl (λ file found. subst (λ (x : File). (0 < length x.bytes) × (get_or x.bytes 0 0 ≢ 1)) (some_file there.0 file (sym there.1 ∙ found)) (omega (arith, selector.pinned.synced, there.2.no_shorter), closed))
    ]
  where
    some_file : (a b : File) → Some a ≡ Some b → a ≡ b
    some_file a b e = cc

-- a failed write behind the gate leaves the volume lost
pub body_err : (held : Held) (bytes : List ℕ) (g : File) → Tears 1 (length bytes) created g ⊎ (g ≡ written 1 bytes created) → held 1 ≡ Some g → IsSurelyLost held
body_err held bytes g left at =
    let keeps = keeps_left 1 bytes created g (omega arith) left in
    let gate : StandsAt created 0 (0 ∷ []) = record { within = omega arith; spelled = refl; pinned = λ i from below. record { synced = omega (arith, below); safe = refl } } in
    let now = keeps.stands 0 (0 ∷ []) (inl (omega arith)) gate in
    lost_file held g at (now.pinned 0 (omega arith) (omega arith)) (λ e. omega (arith, e, first g.bytes now.spelled))
  where
    first : (bytes : List ℕ) → IsSpelledAt bytes 0 (0 ∷ []) → get_or bytes 0 0 ≡ 0
    first bytes is = sym (get_or-drop 0 bytes 0 0) ∙ sym (get_or-take 1 (drop 0 bytes) 0 0 (omega arith)) ∙ ap (λ (l : List ℕ). get_or l 0 0) is

-- where the label's file is as it was, so is what a crash leaves
pub leaves_kept : (old new image : Held) → Elsewhere 1 old new → new 1 ≡ old 1 → Leaves new image → Leaves old image
leaves_kept old new image others same leaves = λ n. elim (same_or_other n 1) [
  | inl e ↦ subst (λ (k : ℕ). LeavesAt (old k) (image k)) (sym e) (subst (λ (o : Option File). LeavesAt o (image 1)) same (leaves 1))
  | inr other ↦ subst (λ (o : Option File). LeavesAt o (image n)) (others n other) (leaves n)
]

-- a volume whose label's file is as it was is lost as before
pub lost_kept : (old new : Held) → Elsewhere 1 old new → new 1 ≡ old 1 → IsSurelyLost old → IsSurelyLost new
lost_kept old new others same lost = λ image leaves. lost image (leaves_kept old new image others same leaves)

pub create_err : (label : Label) (old new : Held) → Elsewhere 1 old new → (new 1 ≡ old 1) ⊎ (new 1 ≡ Some created) → IsSurelyLost old → MayBeLabelled label new
create_err label old new others done lost = λ image leaves. elim done [
  | inl same ↦ inl (lost_kept old new others same lost image leaves)
  | inr made ↦ inl (lost_created new made image leaves)
]
