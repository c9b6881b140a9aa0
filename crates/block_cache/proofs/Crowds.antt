-- A cache each of whose frames has a block that is to be drawn.
use Rattle.std.proofs.Common.{◌≡◌, ℕ, zero, suc, ◌-◌, ◌<◌, Bool, true, false, List, [], ◌∷◌, length, Option, Some, None, is_some, cond, refl, sym, ap, ◌∙◌, arith}
use Rattle.std.specs.Prelude.{nat_eq, nat_lt, not, slice_get, reverse, find, ◌||◌}
use Rattle.std.specs.List.{list_any}
use Rattle.std.specs.Option.{option_map_or}
use Rattle.std.specs.Map.{keys_of}
use Rattle.std.proofs.lemmas.Option.{slice_get-get_or}
use Rattle.block_cache.specs.Cache.{IsCache, frame_at, is_clean, is_dirty}
use Rattle.block_cache.specs.declared.frame.Frame.{Frame}
use Rattle.block_cache.proofs.Caches.{place_within}
use Rattle.block_cache.proofs.Orders.{any_reversed}

pub not_some : {X : Type 0} (o : Option X) → is_some o ≡ false → o ≡ None
not_some None e = refl
not_some (Some x) e = absurd (true_false e)
  where
    true_false : true ≡ false → ⊥
    true_false e = cc

-- no element passes that stands in a list where none is found
pub unfound : (test : ℕ → Bool) (xs : List ℕ) → find test xs ≡ None → (n : ℕ) → list_any (nat_eq n) xs ≡ true → test n ≡ false
unfound test [] none n any = absurd (false_true any)
  where
    false_true : false ≡ true → ⊥
    false_true e = cc
unfound test (x ∷ xs) none n any = (elim (test x) as (λ (b : Bool). test x ≡ b → test n ≡ false) [
  | true ↦ λ t. absurd (some_none x (sym (ap (λ (b : Bool). cond b (Some x) (find test xs)) t) ∙ none))
  | false ↦ λ t. (elim (nat_eq n x) as (λ (b : Bool). nat_eq n x ≡ b → test n ≡ false) [
    | true ↦ λ e. let same : n ≡ x = grind (arith, e) in ap test same ∙ t
    | false ↦ λ e. unfound test xs (sym (ap (λ (b : Bool). cond b (Some x) (find test xs)) t) ∙ none) n (sym (ap (λ (b : Bool). b || list_any (nat_eq n) xs) e) ∙ any)
  ]) refl
]) refl
  where
    some_none : (x : ℕ) → Some x ≡ None → ⊥
    some_none x e = cc

-- the key of an entry is among the keys
pub key_among : {V : Type 0} (es : List (ℕ × V)) (i : ℕ) (e : ℕ × V) → slice_get es i ≡ Some e → list_any (nat_eq e.0) (keys_of es) ≡ true
key_among {V} [] i e at = absurd (none_some e at)
  where
    none_some : (e : ℕ × V) → None ≡ Some e → ⊥
    none_some e is = cc
key_among {V} (d ∷ es) zero e at =
    let same : d ≡ e = some_entry d e at in
    let eq : nat_eq e.0 d.0 ≡ true = ap (λ (x : ℕ × V). nat_eq e.0 x.0) same ∙ itself e.0 in
    ap (λ (b : Bool). b || list_any (nat_eq e.0) (keys_of es)) eq
  where
    some_entry : (d e : ℕ × V) → Some d ≡ Some e → d ≡ e
    some_entry d e is = cc

    itself : (n : ℕ) → nat_eq n n ≡ true
    itself n = grind arith
key_among {V} (d ∷ es) (suc i) e at = ap (λ (b : Bool). nat_eq e.0 d.0 || b) (key_among es i e at) ∙ or_true (nat_eq e.0 d.0)
  where
    or_true : (b : Bool) → b || true ≡ true
    or_true true = refl
    or_true false = refl

-- a list without a last entry has none
pub last_none : {V : Type 0} (es : List (ℕ × V)) → slice_get es (length es - 1) ≡ None → es ≡ []
last_none [] none = refl
last_none {V} (e ∷ es) none = absurd (some_none _ (sym (slice_get-get_or (e ∷ es) (length (e ∷ es) - 1) e (omega arith)) ∙ none))
  where
    some_none : (x : ℕ × V) → Some x ≡ None → ⊥
    some_none x is = cc

module _ (table : List (Option ℕ)) (frames : List Frame) (entries : List (ℕ × Unit {0})) (is : IsCache (record { table = table; frames = frames; order = keys_of (reverse entries) })) where
  pub frame_within : (e : ℕ × Unit {0}) → slice_get entries (length entries - 1) ≡ Some e → e.0 < length frames
  frame_within e last =
      let any : nat_lt e.0 (length frames) ≡ true = sym (is.ordered e.0) ∙ any_reversed e.0 entries ∙ key_among entries (length entries - 1) e last in
      grind (arith, any)

  pub some_last : slice_get entries (length entries - 1) ≡ None → ⊥
  some_last none =
      let no : list_any (nat_eq 0) (keys_of (reverse entries)) ≡ false = ap (λ (es : List (ℕ × Unit {0})). list_any (nat_eq 0) (keys_of (reverse es))) (last_none entries none) in
      let all : nat_lt 0 (length frames) ≡ false = sym (is.ordered 0) ∙ no in
      let some : 0 < length frames = is.some in
      grind (arith, all, some)

  -- where no frame gives way the last one's block is to be drawn
  pub record IsCrowd (n : ℕ) (f : Frame) (place : ℕ) : Type 0 where
    pub stands : f.place ≡ Some place
    pub within : place < 4352
    pub at : frame_at (record { table = table; frames = frames; order = keys_of (reverse entries) }) place ≡ Some n
    pub dirty : is_clean frames n ≡ false

  pub crowd : find (is_clean frames) (keys_of (reverse entries)) ≡ None → (e : ℕ × Unit {0}) → slice_get entries (length entries - 1) ≡ Some e → (f : Frame) → slice_get frames e.0 ≡ Some f → (place : ℕ) × IsCrowd e.0 f place
  crowd none e last f there =
      let dirty : is_clean frames e.0 ≡ false = unfound (is_clean frames) (keys_of (reverse entries)) none e.0 (any_reversed e.0 entries ∙ key_among entries (length entries - 1) e last) in
      let is_not : not (is_dirty f) ≡ false = sym (ap (λ (o : Option Frame). option_map_or (λ (f : Frame). not (is_dirty f)) o false) there) ∙ dirty in
      (elim f.place as (λ (o : Option ℕ). f.place ≡ o → (place : ℕ) × IsCrowd e.0 f place) [
        | None ↦ λ p. absurd (true_false (sym (ap not ((is.each e.0 f there).free p)) ∙ is_not))
        | Some place ↦ λ p. let at = is.placed e.0 f place there p in (place, record { stands = p; within = omega (arith, place_within (record { table = table; frames = frames; order = keys_of (reverse entries) }) place e.0 at, is.places); at = at; dirty = dirty })
      ]) refl
    where
      true_false : true ≡ false → ⊥
      true_false e = cc
