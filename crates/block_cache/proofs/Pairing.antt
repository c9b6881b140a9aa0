-- Pairs of slots, over what device calls leave of their file.
use Rattle.std.proofs.Common.{◌≡◌, ◌⊎◌, inl, inr, ℕ, zero, suc, ◌+◌, ◌-◌, ◌<◌, ◌≤◌, List, [], ◌∷◌, length, get_or, refl, sym, ap, subst, ◌∙◌, arith}
use Rattle.disk_model.specs.Held.{File, Tears, written, synced}
use Rattle.keyed_file.specs.Layout.{Pair, selected_by, slot_at}
use Rattle.block_cache.specs.declared.pair.PairPhase.{PairPhase}
use Rattle.block_cache.specs.declared.pair.PairPhase.TheVariants.{Settled, Written, Offered}
use Rattle.block_cache.specs.Pairs.{StandsAt, IsSelected, StandsNext, IsNamed, HoldsPair}
use Rattle.block_cache.proofs.Stands.{AreApart, get_or-written, is_away, length-written, stands_written, stands_torn, stands_synced, stands_put, selected_written, selected_torn, selected_synced, get_or_put}

-- What is left of a file after a range of it was written: all away from that is as it was.
pub record Keeps (at n : ℕ) (old new : File) : Type 0 where
  pub longer : length old.bytes ≤ length new.bytes
  pub bytes : (i : ℕ) → i < length old.bytes → (i < at) ⊎ (at + n ≤ i) → get_or new.bytes i 0 ≡ get_or old.bytes i 0
  pub whole : old.synced ≤ length old.bytes → old.synced ≤ new.synced
  pub sound : old.synced ≤ length old.bytes → new.synced ≤ length new.bytes
  pub stands : (other : ℕ) (text : List ℕ) → AreApart other (length text) at n → StandsAt old other text → StandsAt new other text
  pub selected : (selector slot : ℕ) → selector < length old.bytes → (selector < at) ⊎ (at + n ≤ selector) → IsSelected old selector slot → IsSelected new selector slot

pub keeps_put : (at : ℕ) (bytes : List ℕ) (file : File) → at ≤ length file.bytes → Keeps at (length bytes) file (synced (written at bytes file))
keeps_put at bytes file le =
    let long = length-written at bytes file le in
    record {
      longer = long.0;
      bytes = λ i lt apart. get_or-written at bytes file i le apart;
      whole = λ sound. omega (arith, long.0, sound);
      sound = λ sound. omega arith;
      stands = λ other text apart stands. let now = stands_written at bytes file other text le apart stands in stands_synced (written at bytes file) other text now.within now.spelled;
      selected = λ selector slot lt apart is. let now = selected_written at bytes file selector slot le apart is in selected_synced (written at bytes file) selector slot (omega (arith, lt, long.0)) now.named;
    }

pub keeps_torn : (at n : ℕ) (old new : File) → Tears at n old new → Keeps at n old new
keeps_torn at n old new tears = record {
  longer = tears.no_shorter;
  bytes = λ i lt apart. tears.same i lt (is_away at n i apart);
  whole = λ sound. omega (arith, tears.synced);
  sound = λ sound. omega (arith, tears.synced, tears.no_shorter, sound);
  stands = λ other text apart stands. stands_torn at n old new other text tears apart stands;
  selected = λ selector slot lt apart is. selected_torn at n old new selector slot tears lt apart is;
}

pub keeps_written : (at : ℕ) (bytes : List ℕ) (file : File) → at ≤ length file.bytes → Keeps at (length bytes) file (written at bytes file)
keeps_written at bytes file le =
    let long = length-written at bytes file le in
    record {
      longer = long.0;
      bytes = λ i lt apart. get_or-written at bytes file i le apart;
      whole = λ sound. omega arith;
      sound = λ sound. omega (arith, long.0, sound);
      stands = λ other text apart stands. stands_written at bytes file other text le apart stands;
      selected = λ selector slot lt apart is. selected_written at bytes file selector slot le apart is;
    }

pub keeps_left : (at : ℕ) (bytes : List ℕ) (old new : File) → at ≤ length old.bytes → Tears at (length bytes) old new ⊎ (new ≡ written at bytes old) → Keeps at (length bytes) old new
keeps_left at bytes old new le (inl tears) = keeps_torn at (length bytes) old new tears
keeps_left at bytes old new le (inr is) = subst (Keeps at (length bytes) old) (sym is) (keeps_written at bytes old le)

-- no byte of the pair is in the range
pub record IsApart (pair : Pair) (at n : ℕ) : Type 0 where
  pub selector : (pair.selector < at) ⊎ (at + n ≤ pair.selector)
  pub slots : (slot : ℕ) → slot < 2 → AreApart (slot_at pair slot) pair.size at n

module _ (pair : Pair) (slot : ℕ) (old new : List ℕ) where
  next_keeps : (phase : PairPhase) (at n : ℕ) (f g : File) → Keeps at n f g → IsApart pair at n → slot < 2 → StandsNext phase f (slot_at pair (1 - slot)) pair.size new → StandsNext phase g (slot_at pair (1 - slot)) pair.size new
  next_keeps Settled at n f g keeps apart lt next = tt
  next_keeps Written at n f g keeps apart lt next = (next.0, keeps.stands (slot_at pair (1 - slot)) new (subst (λ (size : ℕ). AreApart (slot_at pair (1 - slot)) size at n) (sym next.0) (apart.slots (1 - slot) (omega arith))) next.1)
  next_keeps Offered at n f g keeps apart lt next = (next.0, keeps.stands (slot_at pair (1 - slot)) new (subst (λ (size : ℕ). AreApart (slot_at pair (1 - slot)) size at n) (sym next.0) (apart.slots (1 - slot) (omega arith))) next.1)

  named_keeps : (phase : PairPhase) (at n : ℕ) (f g : File) → Keeps at n f g → IsApart pair at n → pair.selector < length f.bytes → IsNamed phase f pair.selector slot → IsNamed phase g pair.selector slot
  named_keeps Settled at n f g keeps apart lt named = keeps.selected pair.selector slot lt apart.selector named
  named_keeps Written at n f g keeps apart lt named = keeps.selected pair.selector slot lt apart.selector named
  named_keeps Offered at n f g keeps apart lt named = tt

  -- a pair stays as it was where a range away from it is written
  pub pair_keeps : (phase : PairPhase) (at n : ℕ) (f g : File) → pair.selector < length f.bytes → Keeps at n f g → IsApart pair at n → HoldsPair f pair phase slot old new → HoldsPair g pair phase slot old new
  pair_keeps phase at n f g lt keeps apart holds = record {
    is_slot = holds.is_slot;
    size = holds.size;
    landed = keeps.stands (slot_at pair slot) old (subst (λ (size : ℕ). AreApart (slot_at pair slot) size at n) (sym holds.size) (apart.slots slot holds.is_slot)) holds.landed;
    next = next_keeps phase at n f g keeps apart holds.is_slot holds.next;
    named = named_keeps phase at n f g keeps apart lt holds.named;
  }

-- the selector stands in front of the slots
abbrev pub IsFront : Pair → Type 0
IsFront pair = (pair.selector < pair.first) × (0 < pair.size)

-- Where the other slot is written, the landed content and the selector stay.
module _ (pair : Pair) (slot : ℕ) (old any : List ℕ) (f g : File) (front : IsFront pair) where
  pub apart_slots : (size : ℕ) → size ≡ pair.size → slot < 2 → AreApart (slot_at pair slot) size (slot_at pair (1 - slot)) pair.size
  apart_slots size is lt = which slot lt
    where
      which : (slot : ℕ) → slot < 2 → AreApart (slot_at pair slot) size (slot_at pair (1 - slot)) pair.size
      which zero lt = inl (omega (arith, is))
      which (suc zero) lt = inr (omega (arith, is))
      which (suc (suc n)) lt = absurd (omega arith)

  pub slot_keeps : pair.selector < length f.bytes → Keeps (slot_at pair (1 - slot)) pair.size f g → HoldsPair f pair Settled slot old any → HoldsPair g pair Settled slot old any
  slot_keeps lt keeps holds = record {
    is_slot = holds.is_slot;
    size = holds.size;
    landed = keeps.stands (slot_at pair slot) old (apart_slots (length old) holds.size holds.is_slot) holds.landed;
    next = tt;
    named = keeps.selected pair.selector slot lt (inl (omega (arith, front.0))) holds.named;
  }

-- the other slot has the next content once it was written and synced
pub slot_written : (pair : Pair) (slot : ℕ) (old any bytes : List ℕ) (f : File) → IsFront pair → length bytes ≡ pair.size → pair.selector < length f.bytes → slot_at pair (1 - slot) ≤ length f.bytes → HoldsPair f pair Settled slot old any → HoldsPair (synced (written (slot_at pair (1 - slot)) bytes f)) pair Written slot old bytes
slot_written pair slot old any bytes f front long lt le holds =
    let keeps = subst (λ (n : ℕ). Keeps (slot_at pair (1 - slot)) n f (synced (written (slot_at pair (1 - slot)) bytes f))) long (keeps_put (slot_at pair (1 - slot)) bytes f le) in
    let kept = slot_keeps pair slot old any f (synced (written (slot_at pair (1 - slot)) bytes f)) front lt keeps holds in
    record { is_slot = kept.is_slot; size = kept.size; landed = kept.landed; next = (long, stands_put (slot_at pair (1 - slot)) bytes f le); named = kept.named }

-- a next content that was written, whether it was offered or not
abbrev pub IsUnderWay : PairPhase → Type 0
IsUnderWay Settled = ⊥
IsUnderWay Written = Unit {0}
IsUnderWay Offered = Unit {0}

pub next_of : (phase : PairPhase) (f : File) (at size : ℕ) (text : List ℕ) → IsUnderWay phase → StandsNext phase f at size text → (length text ≡ size) × StandsAt f at text
next_of Settled f at size text is next = absurd is
next_of Written f at size text is next = next
next_of Offered f at size text is next = next

pub selected_other : (slot : ℕ) → slot < 2 → selected_by (1 - slot) ≡ 1 - slot
selected_other zero lt = refl
selected_other (suc zero) lt = refl
selected_other (suc (suc n)) lt = absurd (omega arith)

twice : (slot : ℕ) → slot < 2 → 1 - (1 - slot) ≡ slot
twice slot lt = omega arith

-- Where the selector is written, both slots stay.
module _ (pair : Pair) (slot : ℕ) (old new : List ℕ) (f g : File) (phase : PairPhase) (front : IsFront pair) where
  slots_keep : (text : List ℕ) (which : ℕ) → length text ≡ pair.size → AreApart (slot_at pair which) (length text) pair.selector 1
  slots_keep text which long = inr (omega (arith, front.0))

  pub selector_keeps : IsUnderWay phase → Keeps pair.selector 1 f g → HoldsPair f pair phase slot old new → HoldsPair g pair Offered slot old new
  selector_keeps is keeps holds =
      let next = next_of phase f (slot_at pair (1 - slot)) pair.size new is holds.next in
      record {
        is_slot = holds.is_slot;
        size = holds.size;
        landed = keeps.stands (slot_at pair slot) old (slots_keep old slot holds.size) holds.landed;
        next = (next.0, keeps.stands (slot_at pair (1 - slot)) new (slots_keep new (1 - slot) next.0) next.1);
        named = tt;
      }

-- the other slot's content has landed once the selector that names it was written and synced
pub selector_written : (pair : Pair) (slot : ℕ) (old new any : List ℕ) (f : File) (phase : PairPhase) → IsFront pair → IsUnderWay phase → pair.selector < length f.bytes → HoldsPair f pair phase slot old new → HoldsPair (synced (written pair.selector ((1 - slot) ∷ []) f)) pair Settled (1 - slot) new any
selector_written pair slot old new any f phase front is lt holds =
    let g = synced (written pair.selector ((1 - slot) ∷ []) f) in
    let le : pair.selector ≤ length f.bytes = omega arith in
    let kept = selector_keeps pair slot old new f g phase front is (keeps_put pair.selector ((1 - slot) ∷ []) f le) holds in
    record {
      is_slot = omega arith;
      size = kept.next.0;
      landed = kept.next.1;
      next = tt;
      named = selected_synced (written pair.selector ((1 - slot) ∷ []) f) pair.selector (1 - slot) (omega (arith, (length-written pair.selector ((1 - slot) ∷ []) f le).0, lt))
          (ap selected_by (get_or_put pair.selector (1 - slot) f le) ∙ selected_other slot holds.is_slot);
    }
