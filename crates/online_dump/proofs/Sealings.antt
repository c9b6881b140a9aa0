-- The label's file of a dump device, over what its calls leave of it.
use Rattle.std.proofs.Common.{◌≡◌, ◌≢◌, ◌⊎◌, ◌==◌, if◌then◌else◌, ◌+◌, ◌-◌, ◌<◌, ◌≤◌, inl, inr, ⊎_elim, ℕ, zero, suc, Bool, true, false, List, [], ◌∷◌, ◌++◌, length, get_or, take, drop, Option, Some, None, Result, Ok, Err, OnOk, OnErr, refl, sym, ap, subst, ◌∙◌, arith, append_assoc, length-drop, eqb-true, eq-eqb}
use Rattle.std.proofs.lemmas.List.{ext_get_or, get_or-drop, get_or-take, get_or_append_left, length-take-le}
use Rattle.std.proofs.Math.Seq.{get_or-append_right}
use Rattle.disk_model.specs.Held.{File, Held, IfThere, IsThere, Leaves, LeavesAt, LeavesFile, Tears, created, synced, written}
use Rattle.trail_files.specs.Landed.{IsPinned, IsSettled}
use Rattle.trail_files.specs.Put.{Left, Put}
use Rattle.keyed_file.specs.declared.dump_label.DumpLabel.{DumpLabel}
use Rattle.keyed_file.specs.Dump.{SpellsDumpLabel}
use Rattle.keyed_file.specs.LabelFormat.{dump_text}
use Rattle.keyed_file.specs.Layout.{IsSpelledAt, bytes_at, label_pair, selected_by, slot_at}
use Rattle.block_cache.specs.Pairs.{StandsAt}
use Rattle.block_cache.specs.Volume.{HasNoLabel}
use Rattle.block_cache.specs.declared.pair.PairPhase.{PairPhase}
use Rattle.block_cache.specs.declared.pair.PairPhase.TheVariants.{Settled, Written, Offered}
use Rattle.online_dump.specs.Sealing.{HasLabelFile, HoldsFirst, HoldsLabel, IsBehindGate, IsLong, IsOpenWith, IsShut, IsUnderWay, ShowsFound, ShowsLabel}
use Rattle.std.specs.Prelude.{IfSome}
use Rattle.online_dump.specs.Found.{IsFoundAt, IsFoundDump, IsSealed}
use Rattle.online_dump.specs.Filling.{phase_of, text_of}
use Rattle.online_dump.specs.declared.sealed.SealedDump.{SealedDump}
use Rattle.online_dump.proofs.Pairing.{IsFront, Keeps, keeps_left, keeps_put, selector_keeps, selector_written, slot_keeps, slot_written}
use Rattle.online_dump.proofs.Stands.{length-written, selected_image, stands_image, stands_put, stands_synced}

front : IsFront label_pair
front = (omega arith, omega arith)

long_put : (at : ℕ) (bytes : List ℕ) (f : File) → at ≤ length f.bytes → IsLong f → IsLong (synced (written at bytes f))
long_put at bytes f le is = (let grown = length-written at bytes f le in record { long = omega (arith, grown.0, is.long, is.sound); sound = omega arith })

long_kept : (at n : ℕ) (f g : File) → Keeps at n f g → IsLong f → IsLong g
long_kept at n f g keeps is = record { long = omega (arith, keeps.whole is.sound, is.long); sound = keeps.sound is.sound }

-- A FURTHER LABEL

module _ (dump : SealedDump) (any text : List ℕ) (f : File) (long : length text ≡ 256) (is : IsOpenWith dump Settled any f) where
  within : slot_at label_pair (1 - dump.slot) + 256 ≤ length f.bytes
  within = omega (arith, is.whole.long, is.whole.sound)

  pub slot_put : IsOpenWith dump Written text (synced (written (slot_at label_pair (1 - dump.slot)) text f))
  slot_put =
      let le : slot_at label_pair (1 - dump.slot) ≤ length f.bytes = omega (arith, within) in
      let keeps = keeps_put (slot_at label_pair (1 - dump.slot)) text f le in
      record {
        whole = long_put (slot_at label_pair (1 - dump.slot)) text f le is.whole;
        gate = keeps.stands 0 (1 ∷ []) (inl (omega arith)) is.gate;
        pair = slot_written label_pair dump.slot (dump_text dump.label) any text f front long (omega (arith, within)) le is.pair;
      }

  pub slot_left : (g : File) → Tears (slot_at label_pair (1 - dump.slot)) (length text) f g ⊎ (g ≡ written (slot_at label_pair (1 - dump.slot)) text f) → IsOpenWith dump Settled any g
  slot_left g left =
      let le : slot_at label_pair (1 - dump.slot) ≤ length f.bytes = omega (arith, within) in
      let keeps = keeps_left (slot_at label_pair (1 - dump.slot)) text f g le left in
      record {
        whole = long_kept (slot_at label_pair (1 - dump.slot)) (length text) f g keeps is.whole;
        gate = keeps.stands 0 (1 ∷ []) (inl (omega arith)) is.gate;
        pair = slot_keeps label_pair dump.slot (dump_text dump.label) any f g front (omega (arith, within)) (subst (λ (n : ℕ). Keeps (slot_at label_pair (1 - dump.slot)) n f g) long keeps) is.pair;
      }

-- its selector
module _ (dump : SealedDump) (label : DumpLabel) (phase : PairPhase) (under_way : IsUnderWay phase) (f : File) (is : IsOpenWith dump phase (dump_text label) f) where
  some : 2 ≤ length f.bytes
  some = omega (arith, is.whole.long, is.whole.sound)

  pub selector_put : (any : List ℕ) → IsOpenWith (record { label = label; slot = 1 - dump.slot }) Settled any (synced (written 1 ((1 - dump.slot) ∷ []) f))
  selector_put any =
      let le : 1 ≤ length f.bytes = omega (arith, some) in
      let keeps = keeps_put 1 ((1 - dump.slot) ∷ []) f le in
      record {
        whole = long_put 1 ((1 - dump.slot) ∷ []) f le is.whole;
        gate = keeps.stands 0 (1 ∷ []) (inl (omega arith)) is.gate;
        pair = selector_written label_pair dump.slot (dump_text dump.label) (dump_text label) any f phase front under_way (omega (arith, some)) is.pair;
      }

  pub selector_left : (g : File) → Tears 1 1 f g ⊎ (g ≡ written 1 ((1 - dump.slot) ∷ []) f) → IsOpenWith dump Offered (dump_text label) g
  selector_left g left =
      let keeps = keeps_left 1 ((1 - dump.slot) ∷ []) f g (omega (arith, some)) left in
      record {
        whole = long_kept 1 1 f g keeps is.whole;
        gate = keeps.stands 0 (1 ∷ []) (inl (omega arith)) is.gate;
        pair = selector_keeps label_pair dump.slot (dump_text dump.label) (dump_text label) f g phase front under_way keeps is.pair;
      }

-- THE FIRST LABEL

-- a byte that was written is read at its place
get_or-within : (at : ℕ) (bytes : List ℕ) (file : File) (i : ℕ) → at ≤ length file.bytes → i < length bytes → get_or (written at bytes file).bytes (at + i) 0 ≡ get_or bytes i 0
get_or-within at bytes file i le lt =
    let front = take at file.bytes in
    let long : length front ≡ at = length-take-le at file.bytes le in
    let back : at + i - length front ≡ i = omega (arith, long) in
    ap (λ (l : List ℕ). get_or l (at + i) 0) (append_assoc front bytes (drop (at + length bytes) file.bytes))
    ∙ get_or-append_right front (bytes ++ drop (at + length bytes) file.bytes) (at + i) 0 (omega (arith, long))
    ∙ ap (λ (n : ℕ). get_or (bytes ++ drop (at + length bytes) file.bytes) n 0) back
    ∙ get_or_append_left bytes (drop (at + length bytes) file.bytes) 0 i lt

-- what stands within what was written
spelled_within : (at offset : ℕ) (bytes text : List ℕ) (file : File) → at ≤ length file.bytes → offset + length text ≤ length bytes → IsSpelledAt bytes offset text → IsSpelledAt (written at bytes file).bytes (at + offset) text
spelled_within at offset bytes text file le within spelled =
    let all = (written at bytes file).bytes in
    let grown = length-written at bytes file le in
    let one : length (bytes_at (at + offset) (length text) all) ≡ length text = length-take-le (length text) (drop (at + offset) all) (omega (arith, length-drop (at + offset) all, grown.1, within)) in
    ext_get_or 0 (bytes_at (at + offset) (length text) all) text one (λ i lt.
    let below : i < length text = omega (arith, lt, one) in
    let shift : at + offset + i ≡ at + (offset + i) = omega arith in
    get_or-take (length text) (drop (at + offset) all) i 0 below ∙ get_or-drop (at + offset) all i 0
    ∙ ap (λ (n : ℕ). get_or all n 0) shift ∙ get_or-within at bytes file (offset + i) le (omega (arith, below, within))
    ∙ sym (get_or-drop offset bytes i 0) ∙ sym (get_or-take (length text) (drop offset bytes) i 0 below) ∙ ap (λ (l : List ℕ). get_or l i 0) spelled)

-- a file that was just made has a shut gate
pub shut_created : IsShut created
shut_created = record { byte = 0; shut = λ e. omega (arith, e); stands = record { within = omega arith; spelled = refl; pinned = λ i from below. record { synced = omega (arith, below); safe = refl } } }

shut_kept : (at n : ℕ) (f g : File) → 1 ≤ at → Keeps at n f g → IsShut f → IsShut g
shut_kept at n f g some keeps is = record { byte = is.byte; shut = is.shut; stands = keeps.stands 0 (is.byte ∷ []) (inl (omega arith)) is.stands }

pub first_put : (bytes text : List ℕ) → length bytes ≡ 767 → length text ≡ 256 → get_or bytes 0 0 ≡ 0 → IsSpelledAt bytes 255 text → IsShut (synced (written 1 bytes created)) × IsBehindGate text (synced (written 1 bytes created))
first_put bytes text whole long closed spelled =
    let grown = length-written 1 bytes created (omega arith) in (
      shut_kept 1 (length bytes) created (synced (written 1 bytes created)) (omega arith) (keeps_put 1 bytes created (omega arith)) shut_created,
      record {
        whole = record { long = omega (arith, grown.1, whole); sound = omega arith };
        size = long;
        stands = stands_synced (written 1 bytes created) 256 text (omega (arith, grown.1, whole, long)) (spelled_within 1 255 bytes text created (omega arith) (omega (arith, whole, long)) spelled);
        selected = record { pinned = record { synced = omega (arith, grown.1, whole); safe = refl }; named = ap selected_by (get_or-within 1 bytes created 0 (omega arith) (omega (arith, whole)) ∙ closed) };
      },
    )

pub first_left : (bytes : List ℕ) (g : File) → Tears 1 (length bytes) created g ⊎ (g ≡ written 1 bytes created) → IsShut g
first_left bytes g left = shut_kept 1 (length bytes) created g (omega arith) (keeps_left 1 bytes created g (omega arith) left) shut_created

-- its gate
module _ (label : DumpLabel) (f : File) (is : IsBehindGate (dump_text label) f) where
  pub gate_put : (any : List ℕ) → IsOpenWith (record { label = label; slot = 0 }) Settled any (synced (written 0 (1 ∷ []) f))
  gate_put any =
      let keeps = keeps_put 0 (1 ∷ []) f (omega arith) in
      record {
        whole = long_put 0 (1 ∷ []) f (omega arith) is.whole;
        gate = stands_put 0 (1 ∷ []) f (omega arith);
        pair = record {
          is_slot = omega arith;
          size = is.size;
          landed = keeps.stands 256 (dump_text label) (inr (omega arith)) is.stands;
          next = tt;
          named = keeps.selected 1 0 (omega (arith, is.whole.long, is.whole.sound)) (inr (omega arith)) is.selected;
        };
      }

  pub gate_left : (g : File) → Tears 0 1 f g ⊎ (g ≡ written 0 (1 ∷ []) f) → IsBehindGate (dump_text label) g
  gate_left g left =
      let keeps = keeps_left 0 (1 ∷ []) f g (omega arith) left in
      record {
        whole = long_kept 0 1 f g keeps is.whole;
        size = is.size;
        stands = keeps.stands 256 (dump_text label) (inr (omega arith)) is.stands;
        selected = keeps.selected 1 0 (omega (arith, is.whole.long, is.whole.sound)) (inr (omega arith)) is.selected;
      }

-- IMAGES

leaves_there : (h i : Option File) (file : File) → h ≡ Some file → LeavesAt h i → (image : File) × (i ≡ Some image) × LeavesFile file image
leaves_there None i file is leaves = absurd (cc (is))
leaves_there (Some f) None file is leaves = absurd leaves
leaves_there (Some f) (Some image) file is leaves = (let same : f ≡ file = cc (is) in (image, refl, subst (λ (x : File). LeavesFile x image) same leaves))

leaves_back : (h i : Option File) (image : File) → i ≡ Some image → LeavesAt h i → (file : File) × (h ≡ Some file) × LeavesFile file image
leaves_back h None image is leaves = absurd (cc (is))
leaves_back None (Some g) image is leaves = absurd leaves
leaves_back (Some f) (Some g) image is leaves = (let same : g ≡ image = cc (is) in (f, refl, subst (λ (x : File). LeavesFile f x) same leaves))

some_is : (a b : File) → Some a ≡ Some b → a ≡ b
some_is a b e = cc (e)

first_byte : (bytes : List ℕ) (byte : ℕ) → IsSpelledAt bytes 0 (byte ∷ []) → get_or bytes 0 0 ≡ byte
first_byte bytes byte is = sym (get_or-drop 0 bytes 0 0) ∙ sym (get_or-take 1 (drop 0 bytes) 0 0 (omega arith)) ∙ ap (λ (l : List ℕ). get_or l 0 0) is

-- a shut gate stays shut in the image
shut_shown : (f image : File) → IsShut f → LeavesFile f image → (0 < length image.bytes) × (get_or image.bytes 0 0 ≢ 1)
shut_shown f image is leaves =
    let pin = is.stands.pinned 0 (omega arith) (omega arith) in
    let byte = first_byte image.bytes is.byte (stands_image f image 0 (is.byte ∷ []) (omega arith) leaves is.stands) in
    (omega (arith, pin.synced, leaves.no_shorter), λ one. is.shut (sym byte ∙ one))

none_shown : (held image : Held) → ((file : File) → held 1 ≡ Some file → IsShut file) → Leaves held image → HasNoLabel image
none_shown held image is leaves file there = (let back = leaves_back (held 1) (image 1) file there (leaves 1) in shut_shown back.0 file (is back.0 back.1) back.2)

selected_small : (byte : ℕ) → selected_by byte < 2
selected_small byte = of (byte == 1) refl
  where
    of : (b : Bool) → (byte == 1) ≡ b → selected_by byte < 2
    of true e = subst (λ (n : ℕ). selected_by n < 2) (sym (eqb-true byte 1 e)) (omega arith)
    of false e = (elim (byte == 1) as (λ y. (if y then 1 else 0) < 2) [ true ↦ omega arith | false ↦ omega arith ])

same_or_other : (slot which : ℕ) → slot < 2 → which < 2 → (which ≡ slot) ⊎ (which ≡ 1 - slot)
same_or_other zero zero a b = inl refl
same_or_other zero (suc zero) a b = inr refl
same_or_other (suc zero) zero a b = inr refl
same_or_other (suc zero) (suc zero) a b = inl refl
same_or_other (suc (suc n)) which a b = absurd (omega arith)
same_or_other slot (suc (suc n)) a b = absurd (omega arith)

-- the slot that the image's selector names spells its text
spells : (label : DumpLabel) (slot : ℕ) (f image : File) → IsLong f → LeavesFile f image → get_or image.bytes 0 0 ≡ 1 → selected_by (get_or image.bytes 1 0) ≡ slot → length (dump_text label) ≡ 256
    → StandsAt f (slot_at label_pair slot) (dump_text label) → SpellsDumpLabel label image.bytes
spells label slot f image whole leaves gate named size stands = record {
  long = omega (arith, whole.long, leaves.no_shorter);
  gate = gate;
  shown = subst (λ (s : ℕ). IsSpelledAt image.bytes (slot_at label_pair s) (dump_text label)) (sym named) (stands_image f image (slot_at label_pair slot) (dump_text label) (omega (arith, size)) leaves stands);
}

open_shown : (dump : SealedDump) (next : DumpLabel) (f image : File) (phase : PairPhase) → IsOpenWith dump phase (dump_text next) f → LeavesFile f image → SpellsDumpLabel dump.label image.bytes ⊎ ((phase ≡ Offered) × SpellsDumpLabel next image.bytes)
open_shown dump next f image Settled is leaves =
    let gate = first_byte image.bytes 1 (stands_image f image 0 (1 ∷ []) (omega arith) leaves is.gate) in
    inl (spells dump.label dump.slot f image is.whole leaves gate (selected_image f image 1 dump.slot leaves is.pair.named) is.pair.size is.pair.landed)
open_shown dump next f image Written is leaves =
    let gate = first_byte image.bytes 1 (stands_image f image 0 (1 ∷ []) (omega arith) leaves is.gate) in
    inl (spells dump.label dump.slot f image is.whole leaves gate (selected_image f image 1 dump.slot leaves is.pair.named) is.pair.size is.pair.landed)
open_shown dump next f image Offered is leaves =
    let gate = first_byte image.bytes 1 (stands_image f image 0 (1 ∷ []) (omega arith) leaves is.gate) in
    ⊎_elim
    (λ (same : selected_by (get_or image.bytes 1 0) ≡ dump.slot). inl (spells dump.label dump.slot f image is.whole leaves gate same is.pair.size is.pair.landed))
    (λ (other : selected_by (get_or image.bytes 1 0) ≡ 1 - dump.slot). inr (refl, spells next (1 - dump.slot) f image is.whole leaves gate other is.pair.next.0 is.pair.next.1))
    (same_or_other dump.slot (selected_by (get_or image.bytes 1 0)) is.pair.is_slot (selected_small (get_or image.bytes 1 0)))

first_shown : (next : DumpLabel) (held image : Held) (f : File) → held 1 ≡ Some f → IsBehindGate (dump_text next) f → Leaves held image → ShowsLabel None Offered next image
first_shown next held image f there is leaves = of (get_or shown.0.bytes 0 0 == 1) refl
  where
    shown : (i : File) × (image 1 ≡ Some i) × LeavesFile f i
    shown = leaves_there (held 1) (image 1) f there (leaves 1)

    of : (b : Bool) → (get_or shown.0.bytes 0 0 == 1) ≡ b → ShowsLabel None Offered next image
    of true e = inr (refl, (shown.0, shown.1, spells next 0 f shown.0 is.whole shown.2 (eqb-true (get_or shown.0.bytes 0 0) 1 e) (selected_image f shown.0 1 0 shown.2 is.selected) is.size is.stands))
    of false e = inl (λ file found.
        (let same : shown.0 ≡ file = some_is shown.0 file (sym shown.1 ∙ found) in
        subst (λ (x : File). (0 < length x.bytes) × (get_or x.bytes 0 0 ≢ 1)) same (omega (arith, is.whole.long, shown.2.no_shorter), λ one. absurd (cc (e, eq-eqb (get_or shown.0.bytes 0 0) 1 one)))))

shows : (found : Option SealedDump) (phase : PairPhase) (next : DumpLabel) (held image : Held) → HoldsLabel found phase (dump_text next) held → Leaves held image → ShowsLabel found phase next image
shows None Settled next held image holds leaves = inl (none_shown held image holds leaves)
shows None Written next held image holds leaves = inl (none_shown held image (λ file there. subst IsShut (some_is holds.0 file (sym holds.1 ∙ there)) holds.2.0) leaves)
shows None Offered next held image holds leaves = first_shown next held image holds.0 holds.1 holds.2 leaves
shows (Some dump) phase next held image holds leaves =
    let there = leaves_there (held 1) (image 1) holds.0 holds.1 (leaves 1) in
    ⊎_elim
    (λ (old : SpellsDumpLabel dump.label there.0.bytes). inl (there.0, there.1, old))
    (λ (new : (phase ≡ Offered) × SpellsDumpLabel next there.0.bytes). inr (new.0, (there.0, there.1, new.1)))
    (open_shown dump next holds.0 there.0 phase holds.2 there.2)

settled_open : (dump : SealedDump) (any : List ℕ) (f image : File) → IsOpenWith dump Settled any f → LeavesFile f image → SpellsDumpLabel dump.label image.bytes
settled_open dump any f image is leaves =
    let gate = first_byte image.bytes 1 (stands_image f image 0 (1 ∷ []) (omega arith) leaves is.gate) in
    spells dump.label dump.slot f image is.whole leaves gate (selected_image f image 1 dump.slot leaves is.pair.named) is.pair.size is.pair.landed

settled_shows : (found : Option SealedDump) (held image : Held) → HoldsLabel found Settled [] held → Leaves held image → ShowsFound found image
settled_shows None held image holds leaves = none_shown held image holds leaves
settled_shows (Some dump) held image holds leaves = (let there = leaves_there (held 1) (image 1) holds.0 holds.1 (leaves 1) in (there.0, there.1, settled_open dump [] holds.0 there.0 holds.2 there.2))

-- WHAT THE CALLS LEAVE

-- a device whose label's file has a shut gate has no label
pub shut_after : (held : Held) (f : File) → held 1 ≡ Some f → IsShut f → (file : File) → held 1 ≡ Some file → IsShut file
shut_after held f at is file there = subst IsShut (some_is f file (sym at ∙ there)) is

-- the first label stands behind its gate
pub behind : (label : DumpLabel) (phase : PairPhase) (held : Held) → IsUnderWay phase → HoldsFirst phase (dump_text label) held → IsThere held 1 (IsBehindGate (dump_text label))
behind label Settled held under_way holds = absurd under_way
behind label Written held under_way holds = (holds.0, holds.1, holds.2.1)
behind label Offered held under_way holds = holds

file_put : (at : ℕ) (bytes : List ℕ) (old new : Held) → HasLabelFile old → at ≤ 768 → Put 1 old new at bytes → HasLabelFile new
file_put at bytes old new there le put = (synced (written at bytes there.0), put there.0 there.1, omega (arith, (length-written at bytes there.0 (omega (arith, there.2, le))).0, there.2))

file_left : (at : ℕ) (bytes : List ℕ) (old new : Held) → HasLabelFile old → at ≤ 768 → Left 1 old new at bytes → HasLabelFile new
file_left at bytes old new there le left =
    let l = left there.0 there.1 in
    let keeps = keeps_left at bytes there.0 l.0 (omega (arith, there.2, le)) l.2 in
    (l.0, l.1, omega (arith, keeps.longer, there.2))

-- a write into the label's file leaves it as long
pub file_kept : {T E : Type 0} (r : Result T E) (at : ℕ) (bytes : List ℕ) (old new : Held) → HasLabelFile old → at ≤ 768 → OnOk r (Put 1 old new at bytes) → OnErr r (Left 1 old new at bytes) → HasLabelFile new
file_kept (Ok x) at bytes old new there le put left = file_put at bytes old new there le put
file_kept (Err e) at bytes old new there le put left = file_left at bytes old new there le left

-- what each image of the device says
pub dump_shows : (found : Option SealedDump) (next : Option DumpLabel) (offered : Bool) (held image : Held) → HoldsLabel found (phase_of next offered) (text_of next) held → Leaves held image
    → ShowsFound found image ⊎ ((offered ≡ true) × ((label : DumpLabel) × (next ≡ Some label) × IsThere image 1 (λ f. SpellsDumpLabel label f.bytes)))
dump_shows found None offered held image holds leaves = inl (settled_shows found held image holds leaves)
dump_shows found (Some label) true held image holds leaves =
    ⊎_elim
    (λ (old : ShowsFound found image). inl old)
    (λ (new : (Offered ≡ Offered) × IsThere image 1 (λ f. SpellsDumpLabel label f.bytes)). inr (refl, (label, refl, new.1)))
    (shows found Offered label held image holds leaves)
dump_shows found (Some label) false held image holds leaves =
    ⊎_elim
    (λ (old : ShowsFound found image). inl old)
    (λ (new : (Written ≡ Offered) × IsThere image 1 (λ f. SpellsDumpLabel label f.bytes)). absurd (cc (new.0)))
    (shows found Written label held image holds leaves)

-- WHAT WAS FOUND, AT REST

size_of : (label : DumpLabel) → length (dump_text label) ≡ 256
size_of label = refl

first_is : (bytes : List ℕ) → 0 < length bytes → take 1 (drop 0 bytes) ≡ get_or bytes 0 0 ∷ []
first_is [] some = absurd (omega (arith, some))
first_is (x ∷ xs) some = refl

pins : (f : File) → IsSettled f → (i : ℕ) → i < length f.bytes → IsPinned f i
pins f rests i below = record { synced = omega (arith, rests.synced, below); safe = rests.safe i below }

open_found : (volume : ℕ) (dump : SealedDump) (f : File) → IsSealed volume dump → IsFoundAt volume dump f.bytes → IsSettled f → IsOpenWith dump Settled [] f
open_found volume dump f sealed is rests =
    let long : 768 ≤ length f.bytes = is.spelled.long in
    let size = size_of dump.label in
    record {
      whole = record { long = omega (arith, rests.synced, long); sound = omega (arith, rests.synced) };
      gate = record {
        within = omega (arith, long);
        spelled = subst (λ (b : ℕ). take 1 (drop 0 f.bytes) ≡ b ∷ []) is.spelled.gate (first_is f.bytes (omega (arith, long)));
        pinned = λ i from below. pins f rests i (omega (arith, below, long));
      };
      pair = record {
        is_slot = sealed.slot;
        size = size;
        landed = record {
          within = omega (arith, size, long, sealed.slot);
          spelled = subst (λ (s : ℕ). IsSpelledAt f.bytes (slot_at label_pair s) (dump_text dump.label)) (sym is.slot) is.spelled.shown;
          pinned = λ i from below. pins f rests i (omega (arith, below, size, long, sealed.slot));
        };
        next = tt;
        named = record { pinned = pins f rests 1 (omega (arith, long)); named = sym is.slot };
      };
    }

-- where nothing of the label's file is at risk, each image has what was found
pub held_found : (volume : ℕ) (held : Held) (found : Option SealedDump) → IsFoundDump volume held found → IfSome found (IsSealed volume) → IfThere held 1 (λ f. IsSettled f × (0 < length f.bytes)) → HoldsLabel found Settled [] held
held_found volume held None lost sealed rests = λ f there.
    let r = rests f there in
    record {
      byte = get_or f.bytes 0 0;
      shut = lost f there;
      stands = record { within = omega (arith, r.1); spelled = first_is f.bytes r.1; pinned = λ i from below. pins f r.0 i (omega (arith, below, r.1)) };
    }
held_found volume held (Some dump) is sealed rests = (let r = rests is.0 is.1 in (is.0, is.1, open_found volume dump is.0 sealed is.2 r.0))
