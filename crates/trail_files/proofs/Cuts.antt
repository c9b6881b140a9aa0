-- A trail whose first files were removed.
use Rattle.std.specs.Prelude.{IsSome}
use Rattle.std.proofs.lemmas.Bool.{cases_lt}
use Rattle.std.proofs.Common.{◌≡◌, ⊎_elim, inl, inr, ℕ, zero, suc, ◌+◌, ◌-◌, ◌<◌, ◌≤◌, ◌++◌, ◌∷◌, [], List, length, take, drop, true, arith, ap, sym, ◌∙◌, subst, append_assoc, length-append}
use Rattle.std.proofs.lemmas.List.{length-drop, take-append-drop}
use Rattle.std.proofs.lemmas.List.Concat.{flat_map-append}
use Rattle.disk_model.specs.Held.{Held, File}
use Rattle.trail_files.specs.declared.rules.Rules.{Rules}
use Rattle.trail_files.specs.Format.{Format, text, IgnoresPlace}
use Rattle.trail_files.specs.Text.{body, batches_text, all_of, records_of, place_behind, rolled, AreFiles}
use Rattle.trail_files.specs.Landed.{IsRolledFile, IsLandedFile, IsOfferedFile, next_place}
use Rattle.trail_files.specs.Removed.{IsCut}
use Rattle.trail_files.specs.Trail.{View, HasFiles, IsReady, IsOffered, IsRolling, files_from}
use Rattle.trail_files.proofs.Files.{files_map}
use Rattle.trail_files.proofs.Calls.{is_some, body_anywhere, batches_anywhere}

-- the records of the first files, and of the others
records_split : {R : Type 0} (k : ℕ) (files : List (List (List R))) → records_of files ≡ records_of (take k files) ++ records_of (drop k files)
records_split k files = ap records_of (sym (take-append-drop k files)) ∙ flat_map-append all_of (take k files) (drop k files)

-- where no record's bytes tell its place, a text is that at any place
module _ {R : Type 0} (format : Format R) (free : IgnoresPlace format) (place other : ℕ) where
  rolled_anywhere : (batches : List (List R)) (file : File) → IsRolledFile format place batches file → IsRolledFile format other batches file
  rolled_anywhere batches file is = record {
    text = record { each = is.text.each; gate = is.text.gate; rest = is.text.rest; parts = is.text.parts ∙ ap (λ (l : List ℕ). l ++ is.text.gate ∷ is.text.rest) (batches_anywhere format free place other (rolled batches)) };
    settled = is.settled;
  }

  landed_anywhere : (batches : List (List R)) (file : File) → IsLandedFile (text format) place batches file → IsLandedFile (text format) other batches file
  landed_anywhere batches file is =
      let same = batches_anywhere format free place other batches in
      record { gate = is.gate; rest = is.rest; closed = is.closed; parts = is.parts ∙ ap (λ (l : List ℕ). l ++ is.gate ∷ is.rest) same; pinned = λ i le. is.pinned i (omega (arith, le, ap length same)) }

  offered_anywhere : (batches : List (List R)) (batch : List R) (file : File) → IsOfferedFile (text format) place batches batch file → IsOfferedFile (text format) other batches batch file
  offered_anywhere batches batch file is =
      let same = batches_anywhere format free place other batches in
      let body_same = body_anywhere format free (next_place place batches) (next_place other batches) batch in
      record {
        gate = is.gate;
        next = is.next;
        rest = is.rest;
        closed = is.closed;
        parts = is.parts ∙ ap (λ (l : List ℕ). l ++ is.gate ∷ body (text format) (next_place place batches) batch ++ is.next ∷ is.rest) same ∙ ap (λ (l : List ℕ). batches_text (text format) other batches ++ is.gate ∷ l ++ is.next ∷ is.rest) body_same;
        pinned = λ i le other_i. is.pinned i (omega (arith, le, ap length same, ap length body_same)) (λ e. other_i (omega (arith, e, ap length same)));
      }

module _ {R : Type 0} (format : Format R) (free : IgnoresPlace format) (held : Held) where
  files_anywhere : (file place other : ℕ) (files : List (List (List R))) → AreFiles (IsRolledFile format) held file place files → AreFiles (IsRolledFile format) held file other files
  files_anywhere file place other [] are = tt
  files_anywhere file place other (bs ∷ files) are =
      ((are.0.0, are.0.1, rolled_anywhere format free place other bs are.0.0 are.0.2), files_anywhere (file + 1) (place + length (all_of bs)) (other + length (all_of bs)) files are.1)

  -- the files behind the first ones
  files_drop : (k file place other : ℕ) (files : List (List (List R))) → AreFiles (IsRolledFile format) held file place files → AreFiles (IsRolledFile format) held (file + k) other (drop k files)
  files_drop zero file place other files are = subst (λ (n : ℕ). AreFiles (IsRolledFile format) held n other files) (omega arith) (files_anywhere file place other files are)
  files_drop (suc k) file place other [] are = tt
  files_drop (suc k) file place other (bs ∷ files) are = subst (λ (n : ℕ). AreFiles (IsRolledFile format) held n other (drop k files)) (omega arith) (files_drop k (file + 1) (place + length (all_of bs)) other files are.1)

module _ {R : Type 0} (format : Format R) (free : IgnoresPlace format) (any : (n : ℕ) → format.may_begin n ≡ true) (old new : Held) (least file gate places : ℕ) (files : List (List (List R))) (landed : List (List R))
    (is : HasFiles format old least file gate places files landed) (begun left below : ℕ) (cut : IsCut old new begun is.start left below) (low : below ≤ file) where
  -- how many files are gone
  abbrev pub gone : ℕ
  gone = left - is.start

  pub not_above : left ≤ file
  not_above = omega (arith, cut.within, is.counts.file_is, low)

  -- the files from there on are those that are left
  pub left_files : files_from file left files ≡ drop gone files
  left_files = ap (λ k. drop k files) (omega (arith, is.counts.file_is, cut.rises))

  pub front_left : HasFiles format new begun file gate places (drop gone files) landed
  front_left =
      let counts = is.counts in
      let long = length-drop gone files in
      let fewer = ap length (records_split gone files) ∙ length-append (records_of (take gone files)) (records_of (drop gone files)) in
      let same = batches_anywhere format free (place_behind files) (place_behind (drop gone files)) landed in
      let here : is.start + gone ≡ left = omega (arith, cut.rises) in
      record {
        start = left;
        start_is = cut.begins;
        counts = record {
          each = counts.each;
          file_is = omega (arith, counts.file_is, cut.rises, not_above, long);
          offset = counts.offset ∙ ap length same;
          next = inr (free, ⊎_elim (λ e. omega (arith, e, fewer)) (λ more. omega (arith, more.1, fewer)) counts.next);
        };
        numbers = is.numbers;
        is_least = cut.is_least;
        begins = any left;
        rolled = files_map (IsRolledFile format) (IsRolledFile format) old new left 1 (drop gone files) (λ n p bs f le lt there holds. (f, cut.kept n le ∙ there, holds))
            (subst (λ (n : ℕ). AreFiles (IsRolledFile format) old n 1 (drop gone files)) here (files_drop format free old gone is.start 1 1 files is.rolled));
      }

module _ {D R : Type 0} (held : D → Held) (format : Rules → Format R) (t : View D) (free : IgnoresPlace (format t.rules)) (any : (n : ℕ) → (format t.rules).may_begin n ≡ true)
    (ends : (xs ys : List R) → (format t.rules).in_order (xs ++ ys) ≡ true → (format t.rules).in_order ys ≡ true) (new : D) (begun below : ℕ) (low : below ≤ t.file) where
  -- what is left of the records is in order
  pub order_left : (k : ℕ) (files : List (List (List R))) (records more : List R) → (format t.rules).in_order (records_of files ++ (records ++ more)) ≡ true → (format t.rules).in_order ((records_of (drop k files) ++ records) ++ more) ≡ true
  order_left k files records more ordered =
      let first = records_of (take k files) in
      let rest = records_of (drop k files) in
      ends first ((rest ++ records) ++ more) (ap (format t.rules).in_order (ap (λ (l : List R). first ++ l) (append_assoc rest records more) ∙ sym (append_assoc first rest (records ++ more)) ∙ ap (λ (l : List R). l ++ (records ++ more)) (sym (records_split k files))) ∙ ordered)

  module _ (left : ℕ) where
    -- the files that are left
    abbrev pub kept : (files : List (List (List R))) → List (List (List R))
    kept files = files_from t.file left files

    pub ready_left : (files : List (List (List R))) (landed : List (List R)) → (is : IsReady held (format t.rules) t files landed) → IsCut (held t.device) (held new) begun is.front.start left below → IsReady held (format t.rules) (record t { device = new; least = begun }) (kept files) landed
    ready_left files landed is cut =
        let f = format t.rules in
        let same = left_files f free any (held t.device) (held new) t.least t.file t.gate t.places files landed is.front begun left below cut low in
        let front = front_left f free any (held t.device) (held new) t.least t.file t.gate t.places files landed is.front begun left below cut low in
        let le = not_above f free any (held t.device) (held new) t.least t.file t.gate t.places files landed is.front begun left below cut low in
        record {
          front = subst (λ l. HasFiles f (held new) begun t.file t.gate t.places l landed) (sym same) front;
          file = (is.file.0, cut.kept t.file le ∙ is.file.1, landed_anywhere f free (place_behind files) (place_behind (kept files)) landed is.file.0 is.file.2);
        }

    pub offered_left : (files : List (List (List R))) (landed : List (List R)) (batch : List R) → (is : IsOffered held (format t.rules) t files landed batch) → IsCut (held t.device) (held new) begun is.front.start left below → IsOffered held (format t.rules) (record t { device = new; least = begun }) (kept files) landed batch
    offered_left files landed batch is cut =
        let f = format t.rules in
        let same = left_files f free any (held t.device) (held new) t.least t.file t.gate t.places files landed is.front begun left below cut low in
        let front = front_left f free any (held t.device) (held new) t.least t.file t.gate t.places files landed is.front begun left below cut low in
        let le = not_above f free any (held t.device) (held new) t.least t.file t.gate t.places files landed is.front begun left below cut low in
        record {
          front = subst (λ l. HasFiles f (held new) begun t.file t.gate t.places l landed) (sym same) front;
          size = is.size ∙ ap (λ (l : List ℕ). length l + 1) (body_anywhere f free (next_place (place_behind files) landed) (next_place (place_behind (kept files)) landed) batch);
          count = is.count;
          is_batch = is.is_batch;
          file = (is.file.0, cut.kept t.file le ∙ is.file.1, offered_anywhere f free (place_behind files) (place_behind (kept files)) landed batch is.file.0 is.file.2);
        }

    pub rolling_left : (files : List (List (List R))) (landed : List (List R)) → (is : IsRolling held (format t.rules) t files landed) → IsCut (held t.device) (held new) begun is.front.start left below → IsRolling held (format t.rules) (record t { device = new; least = begun }) (kept files) landed
    rolling_left files landed is cut =
        let f = format t.rules in
        let same = left_files f free any (held t.device) (held new) t.least t.file t.gate t.places files landed is.front begun left below cut low in
        let front = front_left f free any (held t.device) (held new) t.least t.file t.gate t.places files landed is.front begun left below cut low in
        let le = not_above f free any (held t.device) (held new) t.least t.file t.gate t.places files landed is.front begun left below cut low in
        record {
          front = subst (λ l. HasFiles f (held new) begun t.file t.gate t.places l landed) (sym same) front;
          phase = is.phase;
          file = (is.file.0, cut.kept t.file le ∙ is.file.1, offered_anywhere f free (place_behind files) (place_behind (kept files)) landed [] is.file.0 is.file.2);
          more = is.more;
          next = cut.kept (t.file + 1) (omega (arith, le)) ∙ is.next;
        }

-- each file that was rolled is there
pub files_there : {R : Type 0} (P : ℕ → List (List R) → File → Type 0) (held : Held) (file place : ℕ) (files : List (List (List R))) → AreFiles P held file place files → (n : ℕ) → file ≤ n → n < file + length files → IsSome (held n)
files_there P held file place [] are n le lt = absurd (omega (arith, le, lt))
files_there P held file place (bs ∷ files) are n le lt = elim (cases_lt file n) [
  | inl further ↦ files_there P held (file + 1) (place + length (all_of bs)) files are.1 n (omega (arith, further)) (omega (arith, lt))
  | inr here ↦ (let same : n ≡ file = omega (arith, le, here) in is_some (held n) are.0.0 (ap held same ∙ are.0.1))
]
