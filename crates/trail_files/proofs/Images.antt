-- What images of a trail's file spell.
use Rattle.std.proofs.Common.{◌≡◌, ◌≢◌, ◌⊎◌, inl, inr, ℕ, suc, ◌+◌, ◌<◌, ◌≤◌, List, [], ◌∷◌, ◌++◌, length, sum_by, get_or, set, drop, refl, sym, ap, subst, ◌∙◌, arith, append_assoc, length-append}
use Rattle.std.specs.List.{AllByRecursion}
use Rattle.std.proofs.lemmas.Bool.{cases_eq}
use Rattle.std.proofs.lemmas.List.Sums.{sum_by-cons}
use Rattle.std.proofs.lemmas.List.{append-nil, get_or_append_left, set_at, get_or_at, get_or-set_other}
use Rattle.std.specs.Prelude.{Option, Some, None}
use Rattle.disk_model.specs.Held.{Held, File, IsThere, LeavesFile, LeavesAt, Leaves}
use Rattle.trail_files.specs.Text.{body, batches_text, IsBatchOf, IsText}
use Rattle.trail_files.specs.Format.{Format, text}
use Rattle.trail_files.specs.Landed.{IsPinned, next_place, IsLandedFile, IsOfferedFile}

-- an image has the file too
pub image_there : (held image : Held) (n : ℕ) (file : File) → held n ≡ Some file → Leaves held image → IsThere image n (LeavesFile file)
image_there held image n file is leaves = at (image n) refl (subst (λ o. LeavesAt o (image n)) is (leaves n))
  where
    at : (o : Option File) → image n ≡ o → LeavesAt (Some file) (image n) → IsThere image n (LeavesFile file)
    at None e left = absurd (subst (LeavesAt (Some file)) e left)
    at (Some f) e left = (f, e, subst (LeavesAt (Some file)) e left)

-- bytes that agree with a front begin with it
pub starts_with : (front bytes : List ℕ) → length front ≤ length bytes → ((i : ℕ) → i < length front → get_or bytes i 0 ≡ get_or front i 0) → bytes ≡ front ++ drop (length front) bytes
starts_with [] bytes long same = refl
starts_with (x ∷ front) [] long same = absurd (omega arith)
starts_with (x ∷ front) (b ∷ bytes) long same =
    let here : b ≡ x = same 0 (omega arith) in
    let rest : bytes ≡ front ++ drop (length front) bytes = starts_with front bytes (omega arith) (λ i lt. same (suc i) (omega arith)) in
    ap (λ y. y ∷ bytes) here ∙ ap (λ (l : List ℕ). x ∷ l) rest

-- what a byte of a front is in an image
pub pinned_front : (file image : File) (front rest : List ℕ) → file.bytes ≡ front ++ rest → LeavesFile file image → (i : ℕ) → i < length front → IsPinned file i → get_or image.bytes i 0 ≡ get_or front i 0
pinned_front file image front rest parts left i lt pin = left.same i pin.synced pin.safe ∙ ap (λ (l : List ℕ). get_or l i 0) parts ∙ get_or_append_left front rest 0 i lt

-- bytes that agree with a list at all places of a front but one have that front, but for that place
pub but_one : (opened behind rest old bytes : List ℕ) (g : ℕ) → old ≡ opened ++ g ∷ behind ++ rest → length opened + 1 + length behind ≤ length bytes
    → ((i : ℕ) → i < length opened + 1 + length behind → i ≢ length opened → get_or bytes i 0 ≡ get_or old i 0)
    → bytes ≡ opened ++ get_or bytes (length opened) 0 ∷ behind ++ drop (length opened + 1 + length behind) bytes
but_one opened behind rest old bytes g parts long same =
    let h = get_or bytes (length opened) 0 in
    let front = opened ++ h ∷ behind in
    let before = opened ++ g ∷ behind in
    let len : length front ≡ length opened + 1 + length behind = omega (arith, length-append opened (h ∷ behind)) in
    let len_before : length before ≡ length opened + 1 + length behind = omega (arith, length-append opened (g ∷ behind)) in
    let is_set : front ≡ set before (length opened) h = sym (set_at opened g behind h (length opened) refl) in
    let each : (i : ℕ) → i < length front → get_or bytes i 0 ≡ get_or front i 0 = λ i lt. elim (cases_eq i (length opened)) [
      | inl here ↦ rw here (sym (get_or_at opened h behind 0 (length opened) refl))
      | inr other ↦ same i (omega (arith, len)) other ∙ ap (λ (l : List ℕ). get_or l i 0) (parts ∙ regroup) ∙ get_or_append_left before rest 0 i (omega (arith, len, len_before))
          ∙ sym (get_or-set_other before (length opened) i h 0 other) ∙ ap (λ (l : List ℕ). get_or l i 0) (sym is_set)
    ] in
    let whole = starts_with front bytes (omega (arith, len)) each in
    whole ∙ ap (λ n. front ++ drop n bytes) len ∙ regroup2 h
  where
    regroup : opened ++ g ∷ behind ++ rest ≡ (opened ++ g ∷ behind) ++ rest
    regroup = refl

    regroup2 : (h : ℕ) → (opened ++ h ∷ behind) ++ drop (length opened + 1 + length behind) bytes ≡ opened ++ h ∷ behind ++ drop (length opened + 1 + length behind) bytes
    regroup2 h = refl

pub all-push : {A : Type 0} (P : A → Type 0) (xs : List A) (x : A) → AllByRecursion P xs → P x → AllByRecursion P (xs ++ x ∷ [])
all-push P [] x all p = (p, tt)
all-push P (y ∷ ys) x all p = (all.0, all-push P ys x all.1 p)

module _ {R : Type 0} (text : R → ℕ → List ℕ) where
  pub batches_text-append : (place : ℕ) (xs ys : List (List R)) → batches_text text place (xs ++ ys) ≡ batches_text text place xs ++ batches_text text (place + sum_by length xs) ys
  batches_text-append place [] ys = ap (λ p. batches_text text p ys) (omega arith)
  batches_text-append place (x ∷ xs) ys =
      let p : (place + length x) + sum_by length xs ≡ place + sum_by length (x ∷ xs) = omega (arith, sum_by-cons length x xs) in
      ap (λ (l : List ℕ). (1 ∷ body text place x) ++ l) (batches_text-append (place + length x) xs ys ∙ ap (λ q. batches_text text (place + length x) xs ++ batches_text text q ys) p)
      ∙ sym (append_assoc (1 ∷ body text place x) _ _)

module _ {R : Type 0} (text : R → ℕ → List ℕ) (place : ℕ) where
  -- one batch more
  pub batches_text-push : (landed : List (List R)) (batch : List R) → batches_text text place (landed ++ batch ∷ []) ≡ batches_text text place landed ++ 1 ∷ body text (next_place place landed) batch
  batches_text-push landed batch = batches_text-append text place landed (batch ∷ []) ∙ ap (λ (l : List ℕ). batches_text text place landed ++ l) (append-nil (1 ∷ body text (next_place place landed) batch))

  -- the length of what a loaded batch takes
  pub length-offered : (landed : List (List R)) (batch : List R) (file : File) → (has : IsOfferedFile text place landed batch file) → length file.bytes ≡ length (batches_text text place landed) + (1 + (length (body text (next_place place landed) batch) + 1 + length has.rest))
  length-offered landed batch file has = ap length has.parts ∙ omega (arith, length-append (batches_text text place landed ++ has.gate ∷ body text (next_place place landed) batch) (has.next ∷ has.rest), length-append (batches_text text place landed) (has.gate ∷ body text (next_place place landed) batch))

  -- the gate and all behind it, in bytes that agree with the file but for the gate
  pub offered_parts : (landed : List (List R)) (batch : List R) (file : File) (bytes : List ℕ) → (has : IsOfferedFile text place landed batch file) → length (batches_text text place landed) + 1 + (length (body text (next_place place landed) batch) + 1) ≤ length bytes
      → ((i : ℕ) → i ≢ length (batches_text text place landed) → i ≤ length (batches_text text place landed) + 1 + length (body text (next_place place landed) batch) → get_or bytes i 0 ≡ get_or file.bytes i 0)
      → bytes ≡ batches_text text place landed ++ get_or bytes (length (batches_text text place landed)) 0 ∷ body text (next_place place landed) batch ++ has.next ∷ drop (length (batches_text text place landed) + 1 + (length (body text (next_place place landed) batch) + 1)) bytes
  offered_parts landed batch file bytes has long same =
      let opened = batches_text text place landed in
      let inner = body text (next_place place landed) batch in
      let behind = inner ++ has.next ∷ [] in
      let len : length behind ≡ length inner + 1 = length-append inner (has.next ∷ []) in
      but_one opened behind has.rest file.bytes bytes has.gate (has.parts ∙ regroup opened inner has.gate has.next has.rest) (omega (arith, len, long))
      (λ i lt other. same i other (omega (arith, len)))
      ∙ ap (λ n. opened ++ get_or bytes (length opened) 0 ∷ behind ++ drop (length opened + 1 + n) bytes) len
      ∙ sym (regroup opened inner (get_or bytes (length opened) 0) has.next (drop (length opened + 1 + (length inner + 1)) bytes))
    where
      regroup : (a b : List ℕ) (g n : ℕ) (r : List ℕ) → a ++ g ∷ b ++ n ∷ r ≡ a ++ g ∷ (b ++ n ∷ []) ++ r
      regroup a b g n r = simp append_assoc

module _ {R : Type 0} (format : Format R) where
  pub each-push : (landed : List (List R)) (batch : List R) → AllByRecursion (IsBatchOf format) landed → IsBatchOf format batch → AllByRecursion (IsBatchOf format) (landed ++ batch ∷ [])
  each-push landed batch each is = all-push (IsBatchOf format) landed batch each is

  pub landed_spells : (place : ℕ) (landed : List (List R)) (file image : File) → AllByRecursion (IsBatchOf format) landed → IsLandedFile (text format) place landed file → LeavesFile file image → IsText format place landed image.bytes
  landed_spells place landed file image each has left =
      let open_part = batches_text (text format) place landed in
      let front = open_part ++ has.gate ∷ [] in
      let len : length front ≡ length open_part + 1 = length-append open_part (has.gate ∷ []) in
      let parts : file.bytes ≡ front ++ has.rest = has.parts ∙ sym (append_assoc open_part (has.gate ∷ []) has.rest) in
      let last = has.pinned (length open_part) (omega arith) in
      let whole : image.bytes ≡ front ++ drop (length front) image.bytes =
      starts_with front image.bytes (omega (arith, len, last.synced, left.no_shorter))
      (λ i lt. pinned_front file image front has.rest parts left i lt (has.pinned i (omega (arith, len, lt)))) in
      record { each = each; gate = has.gate; rest = drop (length front) image.bytes; closed = has.closed; parts = whole ∙ append_assoc open_part (has.gate ∷ []) (drop (length front) image.bytes) }

  -- bytes that agree with an offered file but for the gate: without the batch, or with it
  pub offered_bytes : (place : ℕ) (landed : List (List R)) (batch : List R) (bytes : List ℕ) (gate next : ℕ) (rest : List ℕ) → AllByRecursion (IsBatchOf format) landed
      → bytes ≡ batches_text (text format) place landed ++ gate ∷ body (text format) (next_place place landed) batch ++ next ∷ rest
      → IsText format place landed bytes ⊎ (bytes ≡ batches_text (text format) place (landed ++ batch ∷ []) ++ next ∷ rest)
  offered_bytes place landed batch bytes gate next rest each whole =
      let opened = batches_text (text format) place landed in
      let inner = body (text format) (next_place place landed) batch in
      elim (cases_eq gate 1) [
        | inl is_open ↦ inr (whole ∙ ap (λ g. opened ++ g ∷ inner ++ next ∷ rest) is_open ∙ ap (λ (l : List ℕ). l ++ next ∷ rest) (sym (batches_text-push (text format) place landed batch)))
        | inr shut ↦ inl (record { each = each; gate = gate; rest = inner ++ next ∷ rest; closed = shut; parts = whole ∙ regroup opened (gate ∷ inner) (next ∷ rest) })
      ]
    where
      regroup : (a b c : List ℕ) → a ++ b ++ c ≡ a ++ (b ++ c)
      regroup a b c = append_assoc a b c

  pub offered_image : (place : ℕ) (landed : List (List R)) (batch : List R) (file image : File) → AllByRecursion (IsBatchOf format) landed → (has : IsOfferedFile (text format) place landed batch file) → LeavesFile file image
      → (rest : List ℕ) × (IsText format place landed image.bytes ⊎ (image.bytes ≡ batches_text (text format) place (landed ++ batch ∷ []) ++ has.next ∷ rest))
  offered_image place landed batch file image each has left =
      let opened = batches_text (text format) place landed in
      let inner = body (text format) (next_place place landed) batch in
      let rest = drop (length opened + 1 + (length inner + 1)) image.bytes in
      let whole = offered_parts (text format) place landed batch file image.bytes has
      (let last = has.pinned (length opened + 1 + length inner) (omega arith) (omega arith) in omega (arith, last.synced, left.no_shorter))
      (λ i other le. let pin = has.pinned i le other in left.same i pin.synced pin.safe) in
      (rest, offered_bytes place landed batch image.bytes (get_or image.bytes (length opened) 0) has.next rest each whole)
