-- Reading in steps.
use Rattle.std.proofs.Common.{◌≡◌, ℕ, ◌+◌, ◌<◌, ◌≤◌, true, List, [], ◌∷◌, ◌++◌, length, take, drop, refl, sym, ap, subst, ◌∙◌, arith, append_assoc, length-append}
use Rattle.std.proofs.lemmas.List.{append-nil, nil_from_length, drop-drop, length-drop, take-append-drop}
use Rattle.trail_files.specs.Format.{Format, text, AllValid}
use Rattle.trail_files.specs.Text.{head, body, records_text}
use Rattle.trail_files.specs.Scanned.{AreRecords, IsBatchAt, IsHeadAt}
use Rattle.std.specs.Prelude.{Option, Some}
use Rattle.disk_model.specs.Held.{File}
use Rattle.trail_files.proofs.Images.{all-push}
use Rattle.trail_files.proofs.Texts.{records_text-append}

-- the bytes are so many records, which may stand behind those before, and a rest
pub record Begins {R : Type 0} (format : Format R) (before : List R) (place i : ℕ) (bytes rest : List ℕ) (done : List R) : Type 0 where
  pub count_is : length done ≡ i
  pub parts : bytes ≡ records_text (text format) place done ++ rest
  pub each : AllValid format done
  pub in_order : format.in_order (before ++ done) ≡ true

module _ {R : Type 0} (format : Format R) (before : List R) (place : ℕ) (bytes : List ℕ) where
  pub begins_none : format.in_order before ≡ true → Begins format before place 0 bytes bytes []
  begins_none ordered = record { count_is = refl; parts = refl; each = tt; in_order = ap format.in_order (append-nil before) ∙ ordered }

  pub begins_more : (i : ℕ) (rest front back : List ℕ) (done : List R) (item : R) → Begins format before place i bytes rest done → rest ≡ front ++ back → format.valid item ≡ true → front ≡ text format item (place + i)
      → format.in_order ((before ++ done) ++ item ∷ []) ≡ true → Begins format before place (i + 1) bytes back (done ++ item ∷ [])
  begins_more i rest front back done item is split valid reads ordered = record {
    count_is = omega (arith, is.count_is, length-append done (item ∷ []));
    parts =
        let same : front ≡ records_text (text format) (place + length done) (item ∷ []) = reads ∙ ap (λ n. text format item (place + n)) (sym is.count_is) ∙ sym (append-nil (text format item (place + length done))) in
        is.parts ∙ ap (λ (l : List ℕ). records_text (text format) place done ++ l) (split ∙ ap (λ (l : List ℕ). l ++ back) same)
        ∙ sym (append_assoc (records_text (text format) place done) (records_text (text format) (place + length done) (item ∷ [])) back)
        ∙ ap (λ (l : List ℕ). l ++ back) (sym (records_text-append (text format) place done (item ∷ [])));
    each = all-push (λ r. format.valid r ≡ true) done item is.each valid;
    in_order = ap format.in_order (sym (append_assoc before done (item ∷ []))) ∙ ordered;
  }

  pub begins_all : (count : ℕ) (rest : List ℕ) (done : List R) → length rest ≡ 0 → Begins format before place count bytes rest done → AreRecords format before place count bytes done
  begins_all count rest done none is = record {
    count_is = is.count_is;
    parts = is.parts ∙ ap (λ (l : List ℕ). records_text (text format) place done ++ l) (nil_from_length rest none) ∙ append-nil (records_text (text format) place done);
    each = is.each;
    in_order = is.in_order;
  }

module _ {R : Type 0} (format : Format R) (before : List R) (place at : ℕ) (bytes : List ℕ) where
  -- a head and records that were read
  pub batch_read : (count n : ℕ) (piece : List ℕ) (batch : List R) → 0 < count → count ≤ format.most → IsHeadAt at count bytes → at + 16 + n < length bytes → piece ≡ take n (drop (at + 16) bytes) → AreRecords format before place count piece batch → IsBatchAt format before place at bytes batch
  unfolding body
  batch_read count n piece batch some few is_head longer is_piece are =
      let behind = drop n (drop (at + 16) bytes) in
      let later : drop (at + 16) bytes ≡ records_text (text format) place batch ++ behind = sym (take-append-drop n (drop (at + 16) bytes)) ∙ ap (λ (l : List ℕ). l ++ behind) (sym is_piece ∙ are.parts) in
      let parts : drop at bytes ≡ (1 ∷ head (length batch)) ++ (records_text (text format) place batch ++ behind) =
      sym (take-append-drop 16 (drop at bytes)) ∙ ap (λ (l : List ℕ). l ++ drop 16 (drop at bytes)) (is_head.parts ∙ ap (λ k. 1 ∷ head k) (sym are.count_is)) ∙ ap (λ (l : List ℕ). (1 ∷ head (length batch)) ++ l) (drop-drop 16 at bytes ∙ later) in
      record {
        behind = behind;
        parts = parts ∙ sym (append_assoc (1 ∷ head (length batch)) (records_text (text format) place batch) behind);
        more = omega (arith, length-drop n (drop (at + 16) bytes), length-drop (at + 16) bytes);
        is_batch = record { some = omega (arith, are.count_is); few = omega (arith, are.count_is); each = are.each };
        in_order = are.in_order;
      }

-- what is said of the file that is there, at a file that is there
pub at_file : {P : File → Type 0} → (o : Option File) (file : File) → o ≡ Some file → (f : File) × (o ≡ Some f) × P f → P file
at_file {P = P} o file there is = let same : is.0 ≡ file = cc in subst P same is.2
