-- Texts that stand in a file, in every image, over what device calls leave of it.
use Rattle.std.proofs.Common.{◌≡◌, ◌⊎◌, inl, inr, ℕ, false, ◌+◌, ◌-◌, ◌<◌, ◌≤◌, List, [], ◌∷◌, ◌++◌, length, get_or, take, drop, refl, sym, ap, ◌∙◌, arith, append_assoc, length-append}
use Rattle.std.proofs.lemmas.Bool.Decides.{nat_tests}
use Rattle.std.proofs.lemmas.List.{ext_get_or, get_or-drop, get_or-take, get_or_append_left, length-take-le, length-drop, drop_at, take_at}
use Rattle.std.proofs.Math.Seq.{get_or-append_right}
use Rattle.disk_model.specs.Held.{File, LeavesFile, is_within, Tears, written, synced}
use Rattle.trail_files.specs.Landed.{IsPinned}
use Rattle.keyed_file.specs.Layout.{IsSpelledAt, bytes_at, selected_by}
use Rattle.block_cache.specs.Pairs.{StandsAt, IsSelected}

-- a range ends before another begins, or begins behind its end
abbrev pub AreApart : ℕ → ℕ → ℕ → ℕ → Type 0
AreApart at size other more = (at + size ≤ other) ⊎ (other + more ≤ at)

pub is_away : (at n i : ℕ) → (i < at) ⊎ (at + n ≤ i) → is_within at n i ≡ false
is_away at n i (inl lt) = grind (arith, nat_tests)
is_away at n i (inr le) = grind (arith, nat_tests)

-- an offset in a range is away from one that is apart
pub apart_away : (at size other more i : ℕ) → AreApart at size other more → at ≤ i → i < at + size → is_within other more i ≡ false
apart_away at size other more i (inl before) from below = is_away other more i (inl (omega arith))
apart_away at size other more i (inr behind) from below = is_away other more i (inr (omega arith))

-- bytes that agree in a range have the same bytes there
pub same_range : (a b : List ℕ) (at n : ℕ) → at + n ≤ length a → at + n ≤ length b → ((i : ℕ) → at ≤ i → i < at + n → get_or a i 0 ≡ get_or b i 0) → bytes_at at n a ≡ bytes_at at n b
same_range a b at n la lb same =
    let long : (c : List ℕ) → at + n ≤ length c → length (bytes_at at n c) ≡ n = λ c le. length-take-le n (drop at c) (omega (arith, length-drop at c)) in
    ext_get_or 0 (bytes_at at n a) (bytes_at at n b) (long a la ∙ sym (long b lb)) (λ i lt.
    let below : i < n = omega (arith, lt, long a la) in
    get_or-take n (drop at a) i 0 below ∙ get_or-drop at a i 0 ∙ same (at + i) (omega arith) (omega (arith, below)) ∙ sym (get_or-drop at b i 0) ∙ sym (get_or-take n (drop at b) i 0 below))

pub length-written : (at : ℕ) (bytes : List ℕ) (file : File) → at ≤ length file.bytes → (length file.bytes ≤ length (written at bytes file).bytes) × (at + length bytes ≤ length (written at bytes file).bytes)
length-written at bytes file le =
    let long : length (written at bytes file).bytes ≡ at + length bytes + (length file.bytes - (at + length bytes)) =
    length-append (take at file.bytes ++ bytes) (drop (at + length bytes) file.bytes) ∙ omega (arith, length-append (take at file.bytes) bytes, length-take-le at file.bytes le, length-drop (at + length bytes) file.bytes) in
    (omega (arith, long), omega (arith, long))

-- a byte away from what was written is as it was
pub get_or-written : (at : ℕ) (bytes : List ℕ) (file : File) (i : ℕ) → at ≤ length file.bytes → (i < at) ⊎ (at + length bytes ≤ i) → get_or (written at bytes file).bytes i 0 ≡ get_or file.bytes i 0
get_or-written at bytes file i le (inl lt) =
    let front = take at file.bytes in
    let long : length front ≡ at = length-take-le at file.bytes le in
    let whole = append_assoc front bytes (drop (at + length bytes) file.bytes) in
    ap (λ (l : List ℕ). get_or l i 0) whole ∙ get_or_append_left front (bytes ++ drop (at + length bytes) file.bytes) 0 i (omega (arith, long)) ∙ get_or-take at file.bytes i 0 lt
get_or-written at bytes file i le (inr behind) =
    let front = take at file.bytes ++ bytes in
    let long : length front ≡ at + length bytes = length-append (take at file.bytes) bytes ∙ omega (arith, length-take-le at file.bytes le) in
    get_or-append_right front (drop (at + length bytes) file.bytes) i 0 (omega (arith, long)) ∙ get_or-drop (at + length bytes) file.bytes (i - length front) 0 ∙ ap (λ (n : ℕ). get_or file.bytes n 0) (omega (arith, long))

-- what was written stands there
pub spelled_written : (at : ℕ) (bytes : List ℕ) (file : File) → at ≤ length file.bytes → IsSpelledAt (written at bytes file).bytes at bytes
spelled_written at bytes file le =
    let front = take at file.bytes in
    let rest = drop (at + length bytes) file.bytes in
    let long : length front ≡ at = length-take-le at file.bytes le in
    ap (λ (l : List ℕ). take (length bytes) (drop at l)) (append_assoc front bytes rest) ∙ at_front front bytes rest at long
  where
    at_front : (front text rest : List ℕ) (at : ℕ) → length front ≡ at → take (length text) (drop at (front ++ (text ++ rest))) ≡ text
    at_front front text rest at long = ap (take (length text)) (drop_at front (text ++ rest) at long) ∙ take_at text rest (length text) refl

-- a byte that is pinned stays so, away from what was written
pub pinned_torn : (at n : ℕ) (old new : File) (i : ℕ) → Tears at n old new → is_within at n i ≡ false → IsPinned old i → IsPinned new i
pinned_torn at n old new i tears away pin = record { synced = rw tears.synced pin.synced; safe = tears.risk i pin.synced away pin.safe }

pub pinned_written : (at : ℕ) (bytes : List ℕ) (file : File) (i : ℕ) → is_within at (length bytes) i ≡ false → IsPinned file i → IsPinned (written at bytes file) i
pinned_written at bytes file i away pin = record { synced = pin.synced; safe = rw (pin.safe, away) refl }

-- after a sync each byte is pinned
pub pinned_synced : (file : File) (i : ℕ) → i < length file.bytes → IsPinned (synced file) i
pinned_synced file i lt = record { synced = lt; safe = refl }

-- A text stays, away from what was written.
pub stands_written : (at : ℕ) (bytes : List ℕ) (file : File) (other : ℕ) (text : List ℕ) → at ≤ length file.bytes → AreApart other (length text) at (length bytes) → StandsAt file other text → StandsAt (written at bytes file) other text
stands_written at bytes file other text le apart stands =
    let long = length-written at bytes file le in
    record {
      within = omega (arith, long.0, stands.within);
      spelled = same_range (written at bytes file).bytes file.bytes other (length text) (omega (arith, long.0, stands.within)) stands.within (λ i from below. get_or-written at bytes file i le (outside (length text) (length bytes) apart i from below)) ∙ stands.spelled;
      pinned = λ i from below. pinned_written at bytes file i (apart_away other (length text) at (length bytes) i apart from below) (stands.pinned i from below);
    }
  where
    outside : (size more : ℕ) → AreApart other size at more → (i : ℕ) → other ≤ i → i < other + size → (i < at) ⊎ (at + more ≤ i)
    outside size more (inl before) i from below = inl (omega arith)
    outside size more (inr behind) i from below = inr (omega arith)

pub stands_torn : (at n : ℕ) (old new : File) (other : ℕ) (text : List ℕ) → Tears at n old new → AreApart other (length text) at n → StandsAt old other text → StandsAt new other text
stands_torn at n old new other text tears apart stands = record {
  within = omega (arith, tears.no_shorter, stands.within);
  spelled = same_range new.bytes old.bytes other (length text) (omega (arith, tears.no_shorter, stands.within)) stands.within (λ i from below. tears.same i (omega (arith, stands.within, below)) (apart_away other (length text) at n i apart from below)) ∙ stands.spelled;
  pinned = λ i from below. pinned_torn at n old new i tears (apart_away other (length text) at n i apart from below) (stands.pinned i from below);
}

-- after a sync what is spelled stands
pub stands_synced : (file : File) (at : ℕ) (text : List ℕ) → at + length text ≤ length file.bytes → IsSpelledAt file.bytes at text → StandsAt (synced file) at text
stands_synced file at text within spelled = record { within = within; spelled = spelled; pinned = λ i from below. pinned_synced file i (omega arith) }

-- what was written and synced stands
pub stands_put : (at : ℕ) (text : List ℕ) (file : File) → at ≤ length file.bytes → StandsAt (synced (written at text file)) at text
stands_put at text file le = stands_synced (written at text file) at text (length-written at text file le).1 (spelled_written at text file le)

-- each image has a text that stands
pub stands_image : (file image : File) (at : ℕ) (text : List ℕ) → 0 < length text → LeavesFile file image → StandsAt file at text → IsSpelledAt image.bytes at text
stands_image file image at text some leaves stands =
    let last : at + length text ≤ file.synced = omega (arith, (stands.pinned (at + length text - 1) (omega arith) (omega arith)).synced, some) in
    same_range image.bytes file.bytes at (length text) (omega (arith, last, leaves.no_shorter)) stands.within (λ i from below. leaves.same i (omega (arith, last, below)) (stands.pinned i from below).safe) ∙ stands.spelled

-- A selector byte stays, away from what was written.
pub selected_written : (at : ℕ) (bytes : List ℕ) (file : File) (selector slot : ℕ) → at ≤ length file.bytes → (selector < at) ⊎ (at + length bytes ≤ selector) → IsSelected file selector slot → IsSelected (written at bytes file) selector slot
selected_written at bytes file selector slot le apart is = record {
  pinned = pinned_written at bytes file selector (is_away at (length bytes) selector apart) is.pinned;
  named = ap selected_by (get_or-written at bytes file selector le apart) ∙ is.named;
}

pub selected_torn : (at n : ℕ) (old new : File) (selector slot : ℕ) → Tears at n old new → selector < length old.bytes → (selector < at) ⊎ (at + n ≤ selector) → IsSelected old selector slot → IsSelected new selector slot
selected_torn at n old new selector slot tears lt apart is = record {
  pinned = pinned_torn at n old new selector tears (is_away at n selector apart) is.pinned;
  named = ap selected_by (tears.same selector lt (is_away at n selector apart)) ∙ is.named;
}

pub selected_synced : (file : File) (selector slot : ℕ) → selector < length file.bytes → selected_by (get_or file.bytes selector 0) ≡ slot → IsSelected (synced file) selector slot
selected_synced file selector slot lt named = record { pinned = pinned_synced file selector lt; named = named }

-- the byte that was written
pub get_or_put : (at byte : ℕ) (file : File) → at ≤ length file.bytes → get_or (written at (byte ∷ []) file).bytes at 0 ≡ byte
get_or_put at byte file le =
    let front = take at file.bytes in
    let long : length front ≡ at = length-take-le at file.bytes le in
    let back : at - length front ≡ 0 = omega (arith, long) in
    ap (λ (l : List ℕ). get_or l at 0) (append_assoc front (byte ∷ []) (drop (at + 1) file.bytes))
    ∙ get_or-append_right front ((byte ∷ []) ++ drop (at + 1) file.bytes) at 0 (omega (arith, long))
    ∙ ap (λ (n : ℕ). get_or ((byte ∷ []) ++ drop (at + 1) file.bytes) n 0) back

-- each image has a selector that is pinned
pub selected_image : (file image : File) (selector slot : ℕ) → LeavesFile file image → IsSelected file selector slot → selected_by (get_or image.bytes selector 0) ≡ slot
selected_image file image selector slot leaves is = ap selected_by (leaves.same selector is.pinned.synced is.pinned.safe) ∙ is.named
