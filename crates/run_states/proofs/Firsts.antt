-- The position that each disc of a trail gives out next, at the opening.
use Rattle.std.specs.Prelude.{◌≡◌, ◌≢◌, ℕ, zero, suc, ◌+◌, ◌-◌, ◌≤◌, ◌==◌, Bool, true, false, if◌then◌else◌, List, [], ◌∷◌, Option, Some, None, slice_get}
use Rattle.std.specs.Option.{option_map_or}
use Rattle.std.proofs.Common.{refl, sym, ap, subst, ◌∙◌, arith}
use Rattle.std.proofs.lemmas.Bool.{eqb-true}
use Rattle.std.proofs.lemmas.Bool.Decides.{nat_tests}
use Rattle.node_machine.specs.Opening.{Found, VolumeFound, firsts_on}
use Rattle.node_machine.specs.Trail.{first_of, trail_of}
use Rattle.tmf_model.specs.Commits.{numbered}
use Rattle.tmf_model.specs.Config.{IsNumber}
use Rattle.tmf_model.specs.declared.config.Config.{Config}
use Rattle.tmf_model.specs.declared.config.Volume.{Volume}

pub on : (a b : ℕ) → a ≡ b → (a == b) ≡ true
on a b is = grind (arith, nat_tests)

pub off : (a b : ℕ) → a ≢ b → (a == b) ≡ false
off a b ne = by_test (a == b) refl where
  by_test : (t : Bool) → (a == b) ≡ t → (a == b) ≡ false
  by_test true is = absurd (ne (eqb-true a b is))
  by_test false is = is

-- the item with a number, from 1
pub numbered_is : {A : Type 0} (items : List A) (number : ℕ) (item : A) → IsNumber items number item → numbered items number ≡ Some item
numbered_is items zero item is = absurd (let some = is.0 in omega (arith, some))
numbered_is items (suc n) item is = (let same : n ≡ suc n - 1 = omega arith in ap (slice_get items) same ∙ is.1)

-- the trail of a volume
pub trail_is : (config : Config) (volume : ℕ) (line : Volume) → IsNumber config.volumes volume line → trail_of config volume ≡ line.trail
trail_is config volume line is = ap (λ (o : Option Volume). option_map_or (λ v. v.trail) o 0) (numbered_is config.volumes volume line is)

module _ (found : Found) (number : ℕ) where
  abbrev rest_of : ℕ → List (Option VolumeFound) → List (ℕ × ℕ)
  rest_of first volumes = firsts_on found number first volumes

  -- the positions from a volume on, where it is of the trail or not
  abbrev with_first : Bool → ℕ → VolumeFound → List (Option VolumeFound) → List (ℕ × ℕ)
  with_first b first v volumes = if b then (first, v.next) ∷ rest_of (first + 1) volumes else rest_of (first + 1) volumes

  here_on : (first : ℕ) (v entry : VolumeFound) (volumes : List (Option VolumeFound)) → v ≡ entry → trail_of found.config (first + 0) ≡ number → (b : Bool) → (trail_of found.config first == number) ≡ b
      → first_of (with_first b first v volumes) (first + 0) ≡ entry.next
  here_on first v entry volumes same is true test =
      let here : first ≡ first + 0 = omega arith in
      ap (λ (b : Bool). if b then v.next else first_of (rest_of (first + 1) volumes) (first + 0)) (on first (first + 0) here) ∙ ap (λ (x : VolumeFound). x.next) same
  here_on first v entry volumes same is false test =
      let here : first ≡ first + 0 = omega arith in
      absurd (let both : true ≡ false = sym (on (trail_of found.config first) number (ap (trail_of found.config) here ∙ is)) ∙ test in cc (both))

  more_on : (first n : ℕ) (v entry : VolumeFound) (volumes : List (Option VolumeFound)) → first_of (rest_of (first + 1) volumes) (first + suc n) ≡ entry.next → (b : Bool) → first_of (with_first b first v volumes) (first + suc n) ≡ entry.next
  more_on first n v entry volumes more true = ap (λ (b : Bool). if b then v.next else first_of (rest_of (first + 1) volumes) (first + suc n)) (off first (first + suc n) (λ e. absurd (omega (arith, e)))) ∙ more
  more_on first n v entry volumes more false = more

  -- a volume of the trail that was found has its next position among the first ones
  pub first_on : (first : ℕ) (volumes : List (Option VolumeFound)) (place : ℕ) (entry : VolumeFound) → slice_get volumes place ≡ Some (Some entry) → trail_of found.config (first + place) ≡ number
      → first_of (firsts_on found number first volumes) (first + place) ≡ entry.next
  first_on first [] place entry at is = absurd (cc (at))
  first_on first (None ∷ volumes) zero entry at is = absurd (cc (at))
  first_on first (None ∷ volumes) (suc n) entry at is =
      let same : (first + 1) + n ≡ first + suc n = omega arith in
      subst (λ (d : ℕ). first_of (rest_of (first + 1) volumes) d ≡ entry.next) same (first_on (first + 1) volumes n entry at (ap (trail_of found.config) same ∙ is))
  first_on first (Some v ∷ volumes) zero entry at is = here_on first v entry volumes (cc (at)) is (trail_of found.config first == number) refl
  first_on first (Some v ∷ volumes) (suc n) entry at is =
      let same : (first + 1) + n ≡ first + suc n = omega arith in
      more_on first n v entry volumes (subst (λ (d : ℕ). first_of (rest_of (first + 1) volumes) d ≡ entry.next) same (first_on (first + 1) volumes n entry at (ap (trail_of found.config) same ∙ is))) (trail_of found.config first == number)

  -- the position is the next one of a volume of the trail that was found
  pub record IsFirst (first : ℕ) (volumes : List (Option VolumeFound)) (disc position : ℕ) : Type 0 where
    pub place : ℕ
    pub at : first + place ≡ disc
    pub entry : VolumeFound
    pub is : slice_get volumes place ≡ Some (Some entry)
    pub of_trail : trail_of found.config disc ≡ number
    pub next : position ≡ entry.next

  behind : (first : ℕ) (o : Option VolumeFound) (volumes : List (Option VolumeFound)) (disc position : ℕ) → IsFirst (first + 1) volumes disc position → IsFirst first (o ∷ volumes) disc position
  behind first o volumes disc position f =
      let at = f.at in
      record { place = suc f.place; at = omega (arith, at); entry = f.entry; is = f.is; of_trail = f.of_trail; next = f.next }

  here_first : (first : ℕ) (v : VolumeFound) (volumes : List (Option VolumeFound)) (disc : ℕ) → trail_of found.config first ≡ number
      → (1 ≤ first_of (rest_of (first + 1) volumes) disc → IsFirst first (Some v ∷ volumes) disc (first_of (rest_of (first + 1) volumes) disc)) → (b : Bool) → (first == disc) ≡ b
      → 1 ≤ (if b then v.next else first_of (rest_of (first + 1) volumes) disc) → IsFirst first (Some v ∷ volumes) disc (if b then v.next else first_of (rest_of (first + 1) volumes) disc)
  here_first first v volumes disc is more true here some =
      let same : first ≡ disc = eqb-true first disc here in
      record { place = 0; at = omega (arith, same); entry = v; is = refl; of_trail = ap (trail_of found.config) (sym same) ∙ is; next = refl }
  here_first first v volumes disc is more false here some = more some

  more_first : (first : ℕ) (v : VolumeFound) (volumes : List (Option VolumeFound)) (disc : ℕ)
      → (1 ≤ first_of (rest_of (first + 1) volumes) disc → IsFirst first (Some v ∷ volumes) disc (first_of (rest_of (first + 1) volumes) disc)) → (b : Bool) → (trail_of found.config first == number) ≡ b
      → 1 ≤ first_of (with_first b first v volumes) disc → IsFirst first (Some v ∷ volumes) disc (first_of (with_first b first v volumes) disc)
  more_first first v volumes disc more true test some = here_first first v volumes disc (eqb-true (trail_of found.config first) number test) more (first == disc) refl some
  more_first first v volumes disc more false test some = more some

  -- each first position is
  pub on_first : (first : ℕ) (volumes : List (Option VolumeFound)) (disc : ℕ) → 1 ≤ first_of (firsts_on found number first volumes) disc → IsFirst first volumes disc (first_of (firsts_on found number first volumes) disc)
  on_first first [] disc some = absurd (omega (arith, some))
  on_first first (None ∷ volumes) disc some = behind first None volumes disc (first_of (rest_of (first + 1) volumes) disc) (on_first (first + 1) volumes disc some)
  on_first first (Some v ∷ volumes) disc some =
      more_first first v volumes disc (λ more. behind first (Some v) volumes disc (first_of (rest_of (first + 1) volumes) disc) (on_first (first + 1) volumes disc more)) (trail_of found.config first == number) refl some
