-- Bytes spell one list of batches at most.
use Rattle.std.proofs.Common.{◌≡◌, ◌≢◌, ◌⊎◌, inl, inr, ℕ, ◌+◌, ◌<◌, ◌^◌, true, List, [], ◌∷◌, ◌++◌, length, sum_by, get_or, take, drop, refl, sym, ap, subst, ◌∙◌, arith, append_assoc, length-append}
use Rattle.std.specs.Int.{w32, to_be_bytes, from_be_bytes}
use Rattle.std.specs.List.{AllByRecursion}
use Rattle.std.proofs.lemmas.List.{append-nil, take_at, drop_at}
use Rattle.std.proofs.lemmas.List.Sums.{sum_by-cons}
use Rattle.std.proofs.lemmas.Nat.{from_be_bytes-to_be_bytes_4}
use Rattle.trail_files.specs.Text.{head, body, records_text, batches_text, IsBatchOf, all_of, rolled}
use Rattle.trail_files.specs.Format.{Format, text, AllValid}
use Rattle.trail_files.proofs.Files.{all_of-cons}
use Rattle.trail_files.proofs.Images.{batches_text-push}

-- two parts of one list, the first as long
pub parts_same : (a b x y : List ℕ) → length a ≡ length b → a ++ x ≡ b ++ y → (a ≡ b) × (x ≡ y)
parts_same a b x y len e =
    (sym (take_at a x (length a) refl) ∙ ap (take (length a)) e ∙ take_at b y (length a) (sym len), sym (drop_at a x (length a) refl) ∙ ap (drop (length a)) e ∙ drop_at b y (length a) (sym len))

pub heads_same : (m n : ℕ) → m < 2 ^ 32 → n < 2 ^ 32 → head m ≡ head n → m ≡ n
heads_same m n m_fits n_fits e =
    let field : to_be_bytes w32 m ≡ to_be_bytes w32 n = ap (λ (l : List ℕ). take 4 (drop 3 l)) e in
    sym (from_be_bytes-to_be_bytes_4 m m_fits) ∙ ap (from_be_bytes w32) field ∙ from_be_bytes-to_be_bytes_4 n n_fits

-- at a place no batch may stand behind these records, with a further byte behind it
abbrev pub NoBatch : {R : Type 0} → Format R → List R → ℕ → List ℕ → Type 0
NoBatch {R = R} format before place tail = (batch : List R) (behind : List ℕ) → IsBatchOf format batch → format.in_order (before ++ batch) ≡ true → 0 < length behind → tail ≢ (1 ∷ body (text format) place batch) ++ behind

still : {A : Type 0} (x : A) (xs : List A) (l : List ℕ) → (0 < length l) ⊎ ((x ∷ xs) ≡ []) → (0 < length l) ⊎ (xs ≡ [])
still x xs l (inl lt) = inl lt
still x xs l (inr e) = absurd cc

module _ {R : Type 0} (format : Format R) where
  -- no batch stands at a closed gate
  pub closed_stops : (before : List R) (place gate : ℕ) (rest : List ℕ) → gate ≢ 1 → NoBatch format before place (gate ∷ rest)
  closed_stops before place gate rest shut batch behind is ordered more e = shut (ap (λ (l : List ℕ). get_or l 0 0) e)

  -- nor at a roll batch
  pub roll_stops : format.most < 2 ^ 32 → (before : List R) (place : ℕ) (rest : List ℕ) → NoBatch format before place ((1 ∷ head 0) ++ rest)
  unfolding body
  roll_stops few before place rest batch behind is ordered more e =
      let e' = e ∙ append_assoc (1 ∷ head (length batch)) (records_text (text format) place batch) behind in
      let first = parts_same (1 ∷ head 0) (1 ∷ head (length batch)) rest (records_text (text format) place batch ++ behind) refl e' in
      let none : 0 ≡ length batch = heads_same 0 (length batch) (omega arith) (omega (arith, is.few, few)) (ap (drop 1) first.0) in
      omega (arith, none, is.some)

  -- the text of a file that was rolled, with its roll batch apart
  pub rolled_parts : (place : ℕ) (batches : List (List R)) (rest : List ℕ) → batches_text (text format) place (rolled batches) ++ rest ≡ batches_text (text format) place batches ++ ((1 ∷ head 0) ++ rest)
  unfolding body
  rolled_parts place batches rest =
      ap (λ (l : List ℕ). l ++ rest) (batches_text-push (text format) place batches [] ∙ ap (λ (l : List ℕ). batches_text (text format) place batches ++ (1 ∷ l)) (append-nil (head 0))) ∙ append_assoc (batches_text (text format) place batches) (1 ∷ head 0) rest

module _ {R : Type 0} (format : Format R) (size : ℕ) (few : format.most < 2 ^ 32) (each : (item : R) (place : ℕ) → length ((text format) item place) ≡ size)
    (one : (a b : R) (place : ℕ) → format.valid a ≡ true → format.valid b ≡ true → (text format) a place ≡ (text format) b place → a ≡ b) where
  pub records_same : (xs ys : List R) (place : ℕ) (r s : List ℕ) → length xs ≡ length ys → AllByRecursion (λ r. format.valid r ≡ true) xs → AllByRecursion (λ r. format.valid r ≡ true) ys → records_text (text format) place xs ++ r ≡ records_text (text format) place ys ++ s → (xs ≡ ys) × (r ≡ s)
  records_same [] [] place r s len vx vy e = (refl, e)
  records_same [] (y ∷ ys) place r s len vx vy e = absurd (omega arith)
  records_same (x ∷ xs) [] place r s len vx vy e = absurd (omega arith)
  records_same (x ∷ xs) (y ∷ ys) place r s len vx vy e =
      let e' = sym (append_assoc ((text format) x place) (records_text (text format) (place + 1) xs) r) ∙ e ∙ append_assoc ((text format) y place) (records_text (text format) (place + 1) ys) s in
      let first = parts_same ((text format) x place) ((text format) y place) (records_text (text format) (place + 1) xs ++ r) (records_text (text format) (place + 1) ys ++ s) (each x place ∙ sym (each y place)) e' in
      let rest = records_same xs ys (place + 1) r s (omega arith) vx.1 vy.1 first.1 in
      (ap (λ h. h ∷ xs) (one x y place vx.0 vy.0 first.0) ∙ ap (λ (l : List R). y ∷ l) rest.0, rest.1)

  -- records that begin with fewer others: the next one stands behind those
  pub records_front : (xs ys : List R) (place : ℕ) (r s : List ℕ) → length xs < length ys → AllValid format xs → AllValid format ys → records_text (text format) place xs ++ r ≡ records_text (text format) place ys ++ s
      → (y : R) × (more : List R) × (ys ≡ xs ++ y ∷ more) × (r ≡ text format y (place + length xs) ++ (records_text (text format) (place + length xs + 1) more ++ s)) × (format.valid y ≡ true)
  records_front [] [] place r s lt vx vy e = absurd (omega arith)
  records_front [] (y ∷ ys) place r s lt vx vy e =
      let here : place ≡ place + 0 = omega arith in
      (y, ys, refl, e ∙ append_assoc (text format y place) (records_text (text format) (place + 1) ys) s ∙ ap (λ n. text format y n ++ (records_text (text format) (n + 1) ys ++ s)) here, vy.0)
  records_front (x ∷ xs) [] place r s lt vx vy e = absurd (omega arith)
  records_front (x ∷ xs) (y ∷ ys) place r s lt vx vy e =
      let e' = sym (append_assoc (text format x place) (records_text (text format) (place + 1) xs) r) ∙ e ∙ append_assoc (text format y place) (records_text (text format) (place + 1) ys) s in
      let first = parts_same (text format x place) (text format y place) (records_text (text format) (place + 1) xs ++ r) (records_text (text format) (place + 1) ys ++ s) (each x place ∙ sym (each y place)) e' in
      let rest = records_front xs ys (place + 1) r s (omega arith) vx.1 vy.1 first.1 in
      let further : (place + 1) + length xs ≡ place + length (x ∷ xs) = omega arith in (
        rest.0,
        rest.1,
        ap (λ (l : List R). y ∷ l) rest.2 ∙ ap (λ h. h ∷ (xs ++ rest.0 ∷ rest.1)) (sym (one x y place vx.0 vy.0 first.0)),
        rest.3 ∙ ap (λ n. text format rest.0 n ++ (records_text (text format) (n + 1) rest.1 ++ s)) further,
        rest.4,
      )

  body_same : (xs ys : List R) (place : ℕ) (r s : List ℕ) → IsBatchOf format xs → IsBatchOf format ys → (1 ∷ body (text format) place xs) ++ r ≡ (1 ∷ body (text format) place ys) ++ s → (xs ≡ ys) × (r ≡ s)
  unfolding body
  body_same xs ys place r s bx by e =
      let e' = sym (append_assoc (1 ∷ head (length xs)) (records_text (text format) place xs) r) ∙ e ∙ append_assoc (1 ∷ head (length ys)) (records_text (text format) place ys) s in
      let first = parts_same (1 ∷ head (length xs)) (1 ∷ head (length ys)) (records_text (text format) place xs ++ r) (records_text (text format) place ys ++ s) refl e' in
      let len : length xs ≡ length ys = heads_same (length xs) (length ys) (omega (arith, bx.few, few)) (omega (arith, by.few, few)) (ap (drop 1) first.0) in
      records_same xs ys place r s len bx.each by.each first.1

  nx_at : (seen : List R) (place : ℕ) (xs : List (List R)) (tail : List ℕ) → xs ≡ [] → NoBatch format (seen ++ all_of xs) (place + sum_by length xs) tail → NoBatch format seen place tail
  nx_at seen place xs tail none stops =
      let here : place + sum_by length xs ≡ place = omega (arith, ap (λ (l : List (List R)). sum_by length l) none) in
      let all : seen ++ all_of xs ≡ seen = ap (λ (l : List (List R)). seen ++ all_of l) none ∙ append-nil seen in
      subst (λ (n : ℕ). NoBatch format seen n tail) here (subst (λ (l : List R). NoBatch format l (place + sum_by length xs) tail) all stops)

  -- a batch stands where none may
  longer : ((xs ys : List R) → format.in_order (xs ++ ys) ≡ true → format.in_order xs ≡ true) → (seen : List R) (place : ℕ) (x : List R) (xs : List (List R)) (r s : List ℕ) → AllByRecursion (IsBatchOf format) (x ∷ xs)
      → format.in_order (seen ++ all_of (x ∷ xs)) ≡ true → (0 < length r) ⊎ ((x ∷ xs) ≡ []) → NoBatch format seen place s → batches_text (text format) place (x ∷ xs) ++ r ≡ s → ⊥
  longer begins seen place x xs r s vx ox lx none e =
      let behind = batches_text (text format) (place + length x) xs ++ r in
      let ordered = begins (seen ++ x) (all_of xs) (ap format.in_order (append_assoc seen x (all_of xs) ∙ ap (λ (l : List R). seen ++ l) (sym (all_of-cons x xs))) ∙ ox) in
      none x behind vx.0 ordered (more (still x xs r lx)) (sym e ∙ append_assoc (1 ∷ body (text format) place x) (batches_text (text format) (place + length x) xs) r)
    where
      more : (0 < length r) ⊎ (xs ≡ []) → 0 < length (batches_text (text format) (place + length x) xs ++ r)
      more h = elim lx [ inl lt ↦ omega (arith, lt, length-append (batches_text (text format) (place + length x) xs) r) | inr e ↦ absurd cc ]

  -- two rows of batches that begin the same bytes, behind each of which no batch may stand
  pub batches_same : ((xs ys : List R) → format.in_order (xs ++ ys) ≡ true → format.in_order xs ≡ true) → (seen : List R) (place : ℕ) (xs ys : List (List R)) (r s : List ℕ) → AllByRecursion (IsBatchOf format) xs → AllByRecursion (IsBatchOf format) ys
      → format.in_order (seen ++ all_of xs) ≡ true → format.in_order (seen ++ all_of ys) ≡ true → (0 < length r) ⊎ (xs ≡ []) → (0 < length s) ⊎ (ys ≡ [])
      → NoBatch format (seen ++ all_of xs) (place + sum_by length xs) r → NoBatch format (seen ++ all_of ys) (place + sum_by length ys) s
      → batches_text (text format) place xs ++ r ≡ batches_text (text format) place ys ++ s → (xs ≡ ys) × (r ≡ s)
  batches_same begins seen place [] [] r s vx vy ox oy lx ly nx ny e = (refl, e)
  batches_same begins seen place [] (y ∷ ys) r s vx vy ox oy lx ly nx ny e = absurd (longer begins seen place y ys s r vy oy ly (nx_at seen place [] r refl nx) (sym e))
  batches_same begins seen place (x ∷ xs) [] r s vx vy ox oy lx ly nx ny e = absurd (longer begins seen place x xs r s vx ox lx (nx_at seen place [] s refl ny) e)
  batches_same begins seen place (x ∷ xs) (y ∷ ys) r s vx vy ox oy lx ly nx ny e =
      let e' = sym (append_assoc (1 ∷ body (text format) place x) (batches_text (text format) (place + length x) xs) r) ∙ e ∙ append_assoc (1 ∷ body (text format) place y) (batches_text (text format) (place + length y) ys) s in
      let first = body_same x y place (batches_text (text format) (place + length x) xs ++ r) (batches_text (text format) (place + length y) ys ++ s) vx.0 vy.0 e' in
      let same = sym first.0 in
      let same_place = ap (λ n. batches_text (text format) (place + n) ys ++ s) (ap length same) in
      let shift_y = ap (λ (l : List R). seen ++ (l ++ all_of ys)) same in
      let count_y : place + sum_by length (y ∷ ys) ≡ (place + length x) + sum_by length ys = omega (arith, sum_by-cons length y ys, ap length same) in
      let count_x : place + sum_by length (x ∷ xs) ≡ (place + length x) + sum_by length xs = omega (arith, sum_by-cons length x xs) in
      let all_x : seen ++ all_of (x ∷ xs) ≡ (seen ++ x) ++ all_of xs = ap (λ (l : List R). seen ++ l) (all_of-cons x xs) ∙ sym (append_assoc seen x (all_of xs)) in
      let all_y : seen ++ all_of (y ∷ ys) ≡ (seen ++ x) ++ all_of ys = ap (λ (l : List R). seen ++ l) (all_of-cons y ys) ∙ shift_y ∙ sym (append_assoc seen x (all_of ys)) in
      let rest = batches_same begins (seen ++ x) (place + length x) xs ys r s vx.1 vy.1 (ap format.in_order (sym all_x) ∙ ox) (ap format.in_order (sym all_y) ∙ oy) (still x xs r lx) (still y ys s ly)
      (subst (λ (n : ℕ). NoBatch format ((seen ++ x) ++ all_of xs) n r) count_x (subst (λ (l : List R). NoBatch format l (place + sum_by length (x ∷ xs)) r) all_x nx))
      (subst (λ (n : ℕ). NoBatch format ((seen ++ x) ++ all_of ys) n s) count_y (subst (λ (l : List R). NoBatch format l (place + sum_by length (y ∷ ys)) s) all_y ny))
      (first.1 ∙ same_place) in
      (ap (λ (l : List R). l ∷ xs) first.0 ∙ ap (λ (l : List (List R)). y ∷ l) rest.0, rest.1)
