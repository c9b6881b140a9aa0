-- What each device call leaves of a trail's file.
use Rattle.std.proofs.Common.{◌≡◌, ◌≢◌, inl, inr, ℕ, suc, false, ◌+◌, ◌-◌, ◌<◌, ◌≤◌, List, [], ◌∷◌, ◌++◌, length, get_or, take, drop, refl, sym, ap, ◌∙◌, arith, append_assoc, length-append}
use Rattle.std.proofs.lemmas.Bool.{cases_lt}
use Rattle.std.proofs.lemmas.Bool.Decides.{nat_tests}
use Rattle.std.proofs.lemmas.List.{length-take-le, length-drop, get_or_append_left, take_at, drop_at}
use Rattle.disk_model.specs.Held.{File, is_within, Tears, written, synced}
use Rattle.trail_files.specs.Text.{body, batches_text}
use Rattle.trail_files.specs.Landed.{IsPinned, next_place, IsLandedFile, IsOfferedFile, IsLoadedFile}
use Rattle.trail_files.proofs.Images.{starts_with, batches_text-push, offered_parts, length-offered}

pub before_is_away : (at n i : ℕ) → i < at → is_within at n i ≡ false
before_is_away at n i lt = grind (arith, nat_tests)

pub behind_is_away : (at n i : ℕ) → at + n ≤ i → is_within at n i ≡ false
behind_is_away at n i le = grind (arith, nat_tests)

pub other_is_away : (at i : ℕ) → i ≢ at → is_within at 1 i ≡ false
other_is_away at i other = elim (cases_lt i at) [ inl lt ↦ before_is_away at 1 i lt | inr le ↦ behind_is_away at 1 i (omega arith) ]

-- a byte that is pinned stays so, away from what was written
pub pinned_torn : (at n : ℕ) (old new : File) (i : ℕ) → Tears at n old new → is_within at n i ≡ false → IsPinned old i → IsPinned new i
pinned_torn at n old new i tears away pin = record { synced = rw tears.synced pin.synced; safe = tears.risk i pin.synced away pin.safe }

pub pinned_written : (at : ℕ) (bytes : List ℕ) (file : File) (i : ℕ) → is_within at (length bytes) i ≡ false → IsPinned file i → IsPinned (written at bytes file) i
pinned_written at bytes file i away pin = record { synced = pin.synced; safe = rw (pin.safe, away) refl }

-- after a sync each byte is pinned
pub pinned_all : (file : File) (i : ℕ) → i < length file.bytes → IsPinned (synced file) i
pinned_all file i lt = record { synced = lt; safe = refl }

pub length-written : (at : ℕ) (bytes : List ℕ) (file : File) → at ≤ length file.bytes → (length file.bytes ≤ length (written at bytes file).bytes) × (at + length bytes ≤ length (written at bytes file).bytes)
length-written at bytes file le =
    let long : length (written at bytes file).bytes ≡ at + length bytes + (length file.bytes - (at + length bytes)) =
    length-append (take at file.bytes ++ bytes) (drop (at + length bytes) file.bytes) ∙ omega (arith, length-append (take at file.bytes) bytes, length-take-le at file.bytes le, length-drop (at + length bytes) file.bytes) in
    omega (arith, long)

-- a front whose bytes are pinned stays, where a write further on was torn
pub torn_front : (at n : ℕ) (old new : File) (front rest : List ℕ) → old.bytes ≡ front ++ rest → length front ≤ at → Tears at n old new → new.bytes ≡ front ++ drop (length front) new.bytes
torn_front at n old new front rest parts le tears =
    let long : length front ≤ length old.bytes = omega (arith, ap length parts, length-append front rest) in
    starts_with front new.bytes (omega (arith, tears.no_shorter, long)) (λ i lt. tears.same i (omega (arith, long)) (before_is_away at n i (omega arith)) ∙ ap (λ (l : List ℕ). get_or l i 0) parts ∙ get_or_append_left front rest 0 i lt)

module _ {R : Type 0} (text : R → ℕ → List ℕ) (place : ℕ) (landed : List (List R)) where
  pub torn_behind : (at n : ℕ) (old new : File) → at ≡ length (batches_text text place landed) + 1 → IsLandedFile text place landed old → Tears at n old new → IsLandedFile text place landed new
  torn_behind at n old new is has tears =
      let opened = batches_text text place landed in
      let front = opened ++ has.gate ∷ [] in
      let len : length front ≡ length opened + 1 = length-append opened (has.gate ∷ []) in
      let parts : old.bytes ≡ front ++ has.rest = has.parts ∙ sym (append_assoc opened (has.gate ∷ []) has.rest) in
      let whole = torn_front at n old new front has.rest parts (omega (arith, len)) tears in
      record {
        gate = has.gate;
        rest = drop (length front) new.bytes;
        closed = has.closed;
        parts = whole ∙ append_assoc opened (has.gate ∷ []) (drop (length front) new.bytes);
        pinned = λ i le. pinned_torn at n old new i tears (before_is_away at n i (omega arith)) (has.pinned i le);
      }

  -- where the bytes of a write behind the gate stand
  behind : (at : ℕ) (bytes : List ℕ) (file : File) → at ≡ length (batches_text text place landed) + 1 → (has : IsLandedFile text place landed file) → (written at bytes file).bytes ≡ batches_text text place landed ++ has.gate ∷ (bytes ++ drop (at + length bytes) file.bytes)
  behind at bytes file is has =
      let opened = batches_text text place landed in
      let front = opened ++ has.gate ∷ [] in
      let len : length front ≡ length opened + 1 = length-append opened (has.gate ∷ []) in
      let parts : file.bytes ≡ front ++ has.rest = has.parts ∙ sym (append_assoc opened (has.gate ∷ []) has.rest) in
      let before : take at file.bytes ≡ front = ap (take at) parts ∙ take_at front has.rest at (omega (arith, len)) in
      ap (λ (l : List ℕ). l ++ bytes ++ drop (at + length bytes) file.bytes) before ∙ regroup opened has.gate bytes (drop (at + length bytes) file.bytes)
    where
      regroup : (a : List ℕ) (g : ℕ) (b c : List ℕ) → (a ++ g ∷ []) ++ b ++ c ≡ a ++ g ∷ (b ++ c)
      regroup a g b c = simp append_assoc

  pub written_behind : (at : ℕ) (bytes : List ℕ) (file : File) → at ≡ length (batches_text text place landed) + 1 → IsLandedFile text place landed file → IsLandedFile text place landed (written at bytes file)
  written_behind at bytes file is has = record {
    gate = has.gate;
    rest = bytes ++ drop (at + length bytes) file.bytes;
    closed = has.closed;
    parts = behind at bytes file is has;
    pinned = λ i le. pinned_written at bytes file i (before_is_away at (length bytes) i (omega arith)) (has.pinned i le);
  }

  -- a body and a closed gate that were written behind the gate and synced
  pub loaded_behind : (at : ℕ) (batch : List R) (file : File) → at ≡ length (batches_text text place landed) + 1 → IsLandedFile text place landed file → IsLoadedFile text place landed batch (synced (written at (body text (next_place place landed) batch ++ 0 ∷ []) file))
  loaded_behind at batch file is has =
      let opened = batches_text text place landed in
      let bytes = body text (next_place place landed) batch ++ 0 ∷ [] in
      let rest = drop (at + length bytes) file.bytes in
      let new = written at bytes file in
      let parts = behind at bytes file is has in
      let long : length new.bytes ≡ length opened + (1 + (length (body text (next_place place landed) batch) + 1 + length rest)) =
      ap length parts ∙ length-append opened (has.gate ∷ (bytes ++ rest)) ∙ omega (arith, length-append bytes rest, length-append (body text (next_place place landed) batch) (0 ∷ [])) in
      record {
        ready = record { gate = has.gate; rest = bytes ++ rest; closed = has.closed; parts = parts; pinned = λ i le. pinned_all new i (omega (arith, long)) };
        offered = record {
          gate = has.gate;
          next = 0;
          rest = rest;
          closed = λ e. omega (arith, e);
          parts = parts ∙ regroup opened has.gate (body text (next_place place landed) batch) rest;
          pinned = λ i le other. pinned_all new i (omega (arith, long));
        };
      }
    where
      regroup : (a : List ℕ) (g : ℕ) (b c : List ℕ) → a ++ g ∷ ((b ++ 0 ∷ []) ++ c) ≡ a ++ g ∷ b ++ 0 ∷ c
      regroup a g b c = simp append_assoc

  module _ (batch : List R) where
    -- what stands where the gate's byte was written
    at_gate : (bytes : List ℕ) (file : File) → (has : IsOfferedFile text place landed batch file) → take (length (batches_text text place landed)) file.bytes ++ bytes ++ drop (length (batches_text text place landed) + 1) file.bytes ≡ batches_text text place landed ++ bytes ++ body text (next_place place landed) batch ++ has.next ∷ has.rest
    at_gate bytes file has =
        let opened = batches_text text place landed in
        let inner = body text (next_place place landed) batch in
        let e0 : file.bytes ≡ opened ++ (has.gate ∷ inner ++ has.next ∷ has.rest) = has.parts ∙ regroup opened (has.gate ∷ inner) (has.next ∷ has.rest) in
        let e1 : file.bytes ≡ (opened ++ has.gate ∷ []) ++ (inner ++ has.next ∷ has.rest) = has.parts ∙ regroup2 opened has.gate inner (has.next ∷ has.rest) in
        let front : take (length opened) file.bytes ≡ opened = ap (take (length opened)) e0 ∙ take_at opened _ (length opened) refl in
        let back : drop (length opened + 1) file.bytes ≡ inner ++ has.next ∷ has.rest = ap (drop (length opened + 1)) e1 ∙ drop_at (opened ++ has.gate ∷ []) _ (length opened + 1) (length-append opened (has.gate ∷ [])) in
        ap (λ (l : List ℕ). l ++ bytes ++ drop (length opened + 1) file.bytes) front ∙ ap (λ (l : List ℕ). opened ++ bytes ++ l) back ∙ sym (append_assoc (opened ++ bytes) inner (has.next ∷ has.rest))
      where
        regroup : (a b c : List ℕ) → a ++ b ++ c ≡ a ++ (b ++ c)
        regroup a b c = append_assoc a b c

        regroup2 : (a : List ℕ) (g : ℕ) (b c : List ℕ) → a ++ g ∷ b ++ c ≡ (a ++ g ∷ []) ++ (b ++ c)
        regroup2 a g b c = simp append_assoc

    pub gate_parts : (file : File) (has : IsOfferedFile text place landed batch file) → (written (length (batches_text text place landed)) (1 ∷ []) file).bytes ≡ batches_text text place landed ++ 1 ∷ body text (next_place place landed) batch ++ has.next ∷ has.rest
    gate_parts file has = at_gate (1 ∷ []) file has ∙ regroup (batches_text text place landed) (body text (next_place place landed) batch) (has.next ∷ has.rest)
      where
        regroup : (a b c : List ℕ) → a ++ 1 ∷ [] ++ b ++ c ≡ a ++ 1 ∷ b ++ c
        regroup a b c = simp append_assoc

    pub written_gate : (file : File) → IsOfferedFile text place landed batch file → IsOfferedFile text place landed batch (written (length (batches_text text place landed)) (1 ∷ []) file)
    written_gate file has = record {
      gate = 1;
      next = has.next;
      rest = has.rest;
      closed = has.closed;
      parts = gate_parts file has;
      pinned = λ i le other. pinned_written (length (batches_text text place landed)) (1 ∷ []) file i (other_is_away _ i other) (has.pinned i le other);
    }

    pub torn_gate : (old new : File) → IsOfferedFile text place landed batch old → Tears (length (batches_text text place landed)) 1 old new → IsOfferedFile text place landed batch new
    torn_gate old new has tears = record {
      gate = get_or new.bytes (length (batches_text text place landed)) 0;
      next = has.next;
      rest = drop (length (batches_text text place landed) + 1 + (length (body text (next_place place landed) batch) + 1)) new.bytes;
      closed = has.closed;
      parts = offered_parts text place landed batch old new.bytes has (omega (arith, length-offered text place landed batch old has, tears.no_shorter)) (λ i other le. tears.same i (omega (arith, length-offered text place landed batch old has)) (other_is_away _ i other));
      pinned = λ i le other. pinned_torn (length (batches_text text place landed)) 1 old new i tears (other_is_away _ i other) (has.pinned i le other);
    }

    -- the batch lands
    pub landed_gate : (file : File) → IsOfferedFile text place landed batch file → IsLandedFile text place (landed ++ batch ∷ []) (synced (written (length (batches_text text place landed)) (1 ∷ []) file))
    landed_gate file has =
        let opened = batches_text text place landed in
        let inner = body text (next_place place landed) batch in
        let new = written (length opened) (1 ∷ []) file in
        let whole : new.bytes ≡ batches_text text place (landed ++ batch ∷ []) ++ has.next ∷ has.rest = gate_parts file has ∙ ap (λ (l : List ℕ). l ++ has.next ∷ has.rest) (sym (batches_text-push text place landed batch)) in
        let long : length new.bytes ≡ length (batches_text text place (landed ++ batch ∷ [])) + suc (length has.rest) = ap length whole ∙ length-append (batches_text text place (landed ++ batch ∷ [])) (has.next ∷ has.rest) in
        record {
          gate = has.next;
          rest = has.rest;
          closed = has.closed;
          parts = whole;
          pinned = λ i le. pinned_all new i (omega (arith, long));
        }
