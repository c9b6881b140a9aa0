-- Two readings of one trail end in the same place.
use Rattle.std.specs.Prelude.{Option, Some, None, IsSome}
use Rattle.std.proofs.lemmas.Bool.{cases_lt}
use Rattle.std.proofs.Common.{◌≡◌, ◌≢◌, ◌⊎◌, inl, inr, ℕ, ◌+◌, ◌<◌, ◌^◌, true, List, [], ◌∷◌, ◌++◌, length, sum_by, get_or, refl, sym, ap, subst, ◌∙◌, arith, append_assoc}
use Rattle.std.specs.List.{AllByRecursion}
use Rattle.disk_model.specs.Held.{Held, File, IsThere, IsLeast}
use Rattle.trail_files.specs.Format.{Format, text}
use Rattle.trail_files.specs.Text.{head, batches_text, IsBatchOf, all_of, records_of, place_behind, IsRolledText, AreFiles, IsTrailText}
use Rattle.trail_files.proofs.Files.{records_of-cons, length-records_of-cons}
use Rattle.trail_files.proofs.Scans.{at_file}
use Rattle.trail_files.proofs.Unique.{NoBatch, closed_stops, roll_stops, rolled_parts, batches_same}

-- in a file no roll batch stands here with a further byte behind it
abbrev pub NoRoll : ℕ → List ℕ → Type 0
NoRoll file rest = (gate : ℕ) (behind : List ℕ) → file + 1 < 2 ^ 32 → rest ≢ (1 ∷ head 0) ++ gate ∷ behind

-- in a file a trail ends behind these batches: the file is not there, or neither a batch nor a roll batch stands next
abbrev pub Ends : {R : Type 0} → Format R → Held → ℕ → ℕ → List R → List (List R) → Type 0
Ends format held file place before batches =
    ((held file ≡ None) × (batches ≡ []))
    ⊎ IsThere held file (λ f. (rest : List ℕ) × (f.bytes ≡ batches_text (text format) place batches ++ rest) × ((0 < length rest) ⊎ (batches ≡ [])) × NoBatch format before (place + sum_by length batches) rest × NoRoll file rest)

-- what stands from a file on, behind the records seen
pub record Reading {R : Type 0} (format : Format R) (held : Held) (seen : List R) (file place : ℕ) (files : List (List (List R))) (batches : List (List R)) : Type 0 where
  pub n : ℕ
  pub p : ℕ
  pub before : List R
  pub n_is : n ≡ file + length files
  pub p_is : p ≡ place + length (records_of files)
  pub before_is : before ≡ seen ++ (records_of files ++ all_of batches)
  pub in_order : format.in_order before ≡ true
  pub numbers : n < 2 ^ 32
  pub rolled : AreFiles (λ place batches f. IsRolledText format place batches f.bytes) held file place files
  pub each : AllByRecursion (IsBatchOf format) batches
  pub ends : Ends format held n p before batches

module _ {R : Type 0} (format : Format R) (size : ℕ) (few : format.most < 2 ^ 32) (each : (item : R) (place : ℕ) → length (text format item place) ≡ size)
    (one : (a b : R) (place : ℕ) → format.valid a ≡ true → format.valid b ≡ true → text format a place ≡ text format b place → a ≡ b)
    (begins : (xs ys : List R) → format.in_order (xs ++ ys) ≡ true → format.in_order xs ≡ true) where
  regroup : (seen : List R) (x : List (List R)) (xs : List (List (List R))) (a : List (List R)) → seen ++ (records_of (x ∷ xs) ++ all_of a) ≡ (seen ++ all_of x) ++ (records_of xs ++ all_of a)
  regroup seen x xs a = ap (λ (l : List R). seen ++ (l ++ all_of a)) (records_of-cons x xs) ∙ four seen (all_of x) (records_of xs) (all_of a)
    where
      four : (a b c d : List R) → a ++ ((b ++ c) ++ d) ≡ (a ++ b) ++ (c ++ d)
      four a b c d = simp append_assoc

  inner : (held : Held) (seen : List R) (file place : ℕ) (x : List (List R)) (xs : List (List (List R))) (a : List (List R)) → Reading format held seen file place (x ∷ xs) a → Reading format held (seen ++ all_of x) (file + 1) (place + length (all_of x)) xs a
  inner held seen file place x xs a r = record {
    n = r.n;
    p = r.p;
    before = r.before;
    n_is = omega (arith, r.n_is);
    p_is = omega (arith, r.p_is, length-records_of-cons x xs);
    before_is = r.before_is ∙ regroup seen x xs a;
    in_order = r.in_order;
    numbers = r.numbers;
    rolled = r.rolled.1;
    each = r.each;
    ends = r.ends;
  }

  front_order : (held : Held) (seen : List R) (file place : ℕ) (x : List (List R)) (xs : List (List (List R))) (a : List (List R)) → Reading format held seen file place (x ∷ xs) a → format.in_order (seen ++ all_of x) ≡ true
  front_order held seen file place x xs a r = begins (seen ++ all_of x) (records_of xs ++ all_of a) (ap format.in_order (sym (r.before_is ∙ regroup seen x xs a)) ∙ r.in_order)

  -- the first files are the same
  both_rolled : (held : Held) (seen : List R) (file place : ℕ) (x y : List (List R)) (xs ys : List (List (List R))) (a b : List (List R)) → Reading format held seen file place (x ∷ xs) a → Reading format held seen file place (y ∷ ys) b → x ≡ y
  both_rolled held seen file place x y xs ys a b rx ry =
      let f = rx.rolled.0.0 in
      let tx = rx.rolled.0.2 in
      let ty : IsRolledText format place y f.bytes = at_file (held file) f rx.rolled.0.1 ry.rolled.0 in
      (batches_same format size few each one begins seen place x y ((1 ∷ head 0) ++ tx.gate ∷ tx.rest) ((1 ∷ head 0) ++ ty.gate ∷ ty.rest) tx.each ty.each
      (front_order held seen file place x xs a rx) (front_order held seen file place y ys b ry) (inl (omega arith)) (inl (omega arith))
      (roll_stops format few (seen ++ all_of x) (place + sum_by length x) (tx.gate ∷ tx.rest)) (roll_stops format few (seen ++ all_of y) (place + sum_by length y) (ty.gate ∷ ty.rest))
      (sym (tx.parts ∙ rolled_parts format place x (tx.gate ∷ tx.rest)) ∙ ty.parts ∙ rolled_parts format place y (ty.gate ∷ ty.rest))).0

  -- no trail ends in a file that was rolled
  rolled_on : (held : Held) (seen : List R) (file place : ℕ) (y : List (List R)) (ys : List (List (List R))) (a b : List (List R)) → Reading format held seen file place [] a → Reading format held seen file place (y ∷ ys) b → ⊥
  rolled_on held seen file place y ys a b rx ry =
      let n : rx.n ≡ file = omega (arith, rx.n_is) in
      let p : rx.p ≡ place = omega (arith, rx.p_is) in
      let before : rx.before ≡ seen ++ all_of a = rx.before_is in
      let g = ry.rolled.0.0 in
      let ty = ry.rolled.0.2 in
      let here : held rx.n ≡ Some g = ap held n ∙ ry.rolled.0.1 in
      elim rx.ends [
        | inl none ↦ absurd (let wrong : None ≡ Some g = sym none.0 ∙ here in cc)
        | inr there ↦
            let same : there.0 ≡ g = cc in
            let rest = there.2.0 in
            let parts : g.bytes ≡ batches_text (text format) place a ++ rest = ap (λ (f : File). f.bytes) (sym same) ∙ there.2.1 ∙ ap (λ k. batches_text (text format) k a ++ rest) p in
            let stops = subst (λ (k : ℕ). NoBatch format (seen ++ all_of a) (k + sum_by length a) rest) p (subst (λ (l : List R). NoBatch format l (rx.p + sum_by length a) rest) before there.2.3) in
            let both = batches_same format size few each one begins seen place a y rest ((1 ∷ head 0) ++ ty.gate ∷ ty.rest) rx.each ty.each (ap format.in_order (sym before) ∙ rx.in_order) (front_order held seen file place y ys b ry) there.2.2 (inl (omega arith))
            stops (roll_stops format few (seen ++ all_of y) (place + sum_by length y) (ty.gate ∷ ty.rest)) (sym parts ∙ ty.parts ∙ rolled_parts format place y (ty.gate ∷ ty.rest)) in
            there.2.4 ty.gate ty.rest (omega (arith, n, ry.n_is, ry.numbers)) both.1
      ]

  -- two trails that end in one file end behind the same batches
  at_one : (held : Held) (seen : List R) (file place : ℕ) (a b : List (List R)) → Reading format held seen file place [] a → Reading format held seen file place [] b → a ≡ b
  at_one held seen file place a b rx ry =
      let n : rx.n ≡ ry.n = omega (arith, rx.n_is, ry.n_is) in
      let px : rx.p ≡ place = omega (arith, rx.p_is) in
      let py : ry.p ≡ place = omega (arith, ry.p_is) in
      elim rx.ends [
        | inl none ↦ elim ry.ends [
          | inl none' ↦ none.1 ∙ sym none'.1
          | inr there ↦ absurd (let wrong : None ≡ Some there.0 = sym none.0 ∙ ap held n ∙ there.1 in cc)
        ]
        | inr there ↦ elim ry.ends [
          | inl none' ↦ absurd (let wrong : None ≡ Some there.0 = sym none'.0 ∙ ap held (sym n) ∙ there.1 in cc)
          | inr there' ↦
              let some : Some there.0 ≡ Some there'.0 = sym there.1 ∙ ap held n ∙ there'.1 in
              let same : there.0 ≡ there'.0 = cc in
              let stops_x = subst (λ (k : ℕ). NoBatch format (seen ++ all_of a) (k + sum_by length a) there.2.0) px (subst (λ (l : List R). NoBatch format l (rx.p + sum_by length a) there.2.0) rx.before_is there.2.3) in
              let stops_y = subst (λ (k : ℕ). NoBatch format (seen ++ all_of b) (k + sum_by length b) there'.2.0) py (subst (λ (l : List R). NoBatch format l (ry.p + sum_by length b) there'.2.0) ry.before_is there'.2.3) in
              let parts_x : there.0.bytes ≡ batches_text (text format) place a ++ there.2.0 = there.2.1 ∙ ap (λ k. batches_text (text format) k a ++ there.2.0) px in
              let parts_y : there'.0.bytes ≡ batches_text (text format) place b ++ there'.2.0 = there'.2.1 ∙ ap (λ k. batches_text (text format) k b ++ there'.2.0) py in
              (batches_same format size few each one begins seen place a b there.2.0 there'.2.0 rx.each ry.each (ap format.in_order (sym rx.before_is) ∙ rx.in_order) (ap format.in_order (sym ry.before_is) ∙ ry.in_order) there.2.2 there'.2.2 stops_x stops_y (sym parts_x ∙ ap (λ (f : File). f.bytes) same ∙ parts_y)).0
        ]
      ]

  pub same_ends : (held : Held) (seen : List R) (file place : ℕ) (xs ys : List (List (List R))) (a b : List (List R)) → Reading format held seen file place xs a → Reading format held seen file place ys b → (xs ≡ ys) × (a ≡ b)
  same_ends held seen file place [] [] a b rx ry = (refl, at_one held seen file place a b rx ry)
  same_ends held seen file place [] (y ∷ ys) a b rx ry = absurd (rolled_on held seen file place y ys a b rx ry)
  same_ends held seen file place (x ∷ xs) [] a b rx ry = absurd (rolled_on held seen file place x xs b a ry rx)
  same_ends held seen file place (x ∷ xs) (y ∷ ys) a b rx ry =
      let same = both_rolled held seen file place x y xs ys a b rx ry in
      let ry' = subst (λ (z : List (List R)). Reading format held seen file place (z ∷ ys) b) (sym same) ry in
      let rest = same_ends held (seen ++ all_of x) (file + 1) (place + length (all_of x)) xs ys a b (inner held seen file place x xs a rx) (inner held seen file place x ys b ry') in
      (ap (λ z. z ∷ xs) same ∙ ap (λ (l : List (List (List R))). y ∷ l) rest.0, rest.1)

module _ {R : Type 0} (format : Format R) where
  -- the text of a trail ends at its closed gate
  pub text_reading : (held : Held) (least : ℕ) (files : List (List (List R))) (batches : List (List R)) → IsTrailText format held least files batches → format.in_order (records_of files ++ all_of batches) ≡ true → Reading format held [] least 1 files batches
  text_reading held least files batches is ordered =
      let last = is.last.2 in
      record {
        n = least + length files;
        p = place_behind files;
        before = records_of files ++ all_of batches;
        n_is = refl;
        p_is = refl;
        before_is = refl;
        in_order = ordered;
        numbers = is.numbers;
        rolled = is.rolled;
        each = last.each;
        ends = inr (
          is.last.0,
          is.last.1,
          (last.gate ∷ last.rest, last.parts, inl (omega arith), closed_stops format _ _ last.gate last.rest last.closed, λ gate behind lt e. last.closed (ap (λ (l : List ℕ). get_or l 0 0) e)),
        );
      }

pub least_same : (held : Held) (n m : ℕ) → IsLeast held (Some n) → IsLeast held (Some m) → n ≡ m
least_same held n m ln lm = elim (cases_lt n m) [
  | inl lt ↦ absurd (gone (held n) ln.0 (lm.1 n lt))
  | inr le ↦ elim (cases_lt m n) [ inl lt ↦ absurd (gone (held m) lm.0 (ln.1 m lt)) | inr ge ↦ omega (arith, le, ge) ]
]
  where
    gone : (o : Option File) → IsSome o → o ≡ None → ⊥
    gone None some e = absurd cc
    gone (Some f) some e = absurd cc
