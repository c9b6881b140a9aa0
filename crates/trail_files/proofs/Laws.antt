-- What the devices of trails spell, now and after a crash.
use Rattle.std.specs.Prelude.{Option, Some, None, IsSome}
use Rattle.std.proofs.Common.{◌≡◌, ◌⊎◌, inl, inr, ⊎_elim, ℕ, ◌+◌, ◌<◌, ◌≤◌, ◌^◌, true, List, [], ◌∷◌, ◌++◌, length, drop, refl, sym, ap, subst, ◌∙◌, arith, append_assoc, length-append}
use Rattle.std.proofs.lemmas.Bool.{cases_lt}
use Rattle.std.proofs.lemmas.List.{append-nil}
use Rattle.disk_model.specs.Held.{Held, File, IfThere, IsThere, IsLeast, LeavesFile, LeavesAt, Leaves, created}
use Rattle.trail_files.specs.declared.rules.Rules.{Rules}
use Rattle.trail_files.specs.Format.{Format, text}
use Rattle.trail_files.specs.Text.{batches_text, all_of, records_of, place_behind, rolled, IsText, IsRolledText, AreFiles, IsTrailText, Spells}
use Rattle.trail_files.specs.Landed.{IsSettled, IsRolledFile, IsLandedFile}
use Rattle.trail_files.specs.Trail.{View, Rests, HasFiles, IsReady, IsOffered, IsRolling}
use Rattle.trail_files.proofs.Calls.{is_some}
use Rattle.trail_files.proofs.Ends.{same_ends, text_reading, least_same}
use Rattle.trail_files.proofs.Files.{all_of-push, records_of-push, files_map, files_push}
use Rattle.trail_files.proofs.Images.{starts_with, image_there, each-push, landed_spells, offered_image}
use Rattle.trail_files.proofs.Scans.{at_file}

settled_image : (file image : File) → LeavesFile file image → IsSettled image
settled_image file image left = record { safe = λ i lt. left.settled i; synced = left.synced }

-- nothing of an image is at risk
image_settled : (held image : Held) → Leaves held image → (n : ℕ) → IfThere image n IsSettled
image_settled held image leaves n g there = at (held n) (subst (λ o. LeavesAt (held n) o) there (leaves n))
  where
    at : (o : Option File) → LeavesAt o (Some g) → IsSettled g
    at None left = absurd left
    at (Some f) left = settled_image f g left

least_image : (held image : Held) (least : ℕ) → Leaves held image → IsLeast held (Some least) → IsLeast image (Some least)
least_image held image least leaves is = (there_left (held least) (image least) is.0 (leaves least), λ q lt. none_left (image q) (subst (λ o. LeavesAt o (image q)) (is.1 q lt) (leaves q)))
  where
    none_left : (o : Option File) → LeavesAt None o → o ≡ None
    none_left None left = refl
    none_left (Some f) left = absurd left

    there_left : (o p : Option File) → IsSome o → LeavesAt o p → IsSome p
    there_left None p some left = absurd cc
    there_left (Some f) None some left = absurd left
    there_left (Some f) (Some g) some left = is_some (Some g) g refl

-- an image of settled bytes begins with them
longer_image : (file image : File) → IsSettled file → LeavesFile file image → image.bytes ≡ file.bytes ++ drop (length file.bytes) image.bytes
longer_image file image settled left = starts_with file.bytes image.bytes (omega (arith, settled.synced, left.no_shorter)) (λ i lt. left.same i (omega (arith, settled.synced, lt)) (settled.safe i lt))

-- of each file that was rolled this holds
files_all : {R : Type 0} (P : ℕ → List (List R) → File → Type 0) (S : File → Type 0) (held : Held) → ((p : ℕ) (bs : List (List R)) (f : File) → P p bs f → S f)
    → (file place : ℕ) (files : List (List (List R))) → AreFiles P held file place files → (n : ℕ) → file ≤ n → n < file + length files → IfThere held n S
files_all P S held gives file place [] are n le lt = absurd (omega (arith, le, lt))
files_all P S held gives file place (bs ∷ files) are n le lt = elim (cases_lt file n) [
  | inl further ↦ files_all P S held gives (file + 1) (place + length (all_of bs)) files are.1 n (omega (arith, further)) (omega (arith, lt))
  | inr here ↦
      let same : n ≡ file = omega (arith, le, here) in
      λ f there. gives place bs f (at_file (held file) f (ap held (sym same) ∙ there) are.0)
]

module _ {R : Type 0} (format : Format R) where
  text_image : (place : ℕ) (batches : List (List R)) (file image : File) → IsText format place batches file.bytes → IsSettled file → LeavesFile file image → IsText format place batches image.bytes
  text_image place batches file image is settled left =
      let behind = drop (length file.bytes) image.bytes in
      record {
        each = is.each;
        gate = is.gate;
        rest = is.rest ++ behind;
        closed = is.closed;
        parts = longer_image file image settled left ∙ ap (λ (l : List ℕ). l ++ behind) is.parts ∙ append_assoc (batches_text (text format) place batches) (is.gate ∷ is.rest) behind;
      }

  rolled_image : (place : ℕ) (batches : List (List R)) (file image : File) → IsRolledText format place batches file.bytes → IsSettled file → LeavesFile file image → IsRolledText format place batches image.bytes
  rolled_image place batches file image is settled left =
      let behind = drop (length file.bytes) image.bytes in
      record { each = is.each; gate = is.gate; rest = is.rest ++ behind; parts = longer_image file image settled left ∙ ap (λ (l : List ℕ). l ++ behind) is.parts ∙ append_assoc (batches_text (text format) place (rolled batches)) (is.gate ∷ is.rest) behind }

  -- files that were rolled, in an image
  rolled_files : (held image : Held) (least : ℕ) (files : List (List (List R))) → Leaves held image → AreFiles (IsRolledFile format) held least 1 files → AreFiles (λ place batches f. IsRolledText format place batches f.bytes) image least 1 files
  rolled_files held image least files leaves are =
      files_map (IsRolledFile format) (λ place batches f. IsRolledText format place batches f.bytes) held image least 1 files
      (λ n p bs f le lt there holds. let at = image_there held image n f there leaves in (at.0, at.1, rolled_image p bs f at.0 holds.text holds.settled at.2)) are

  -- and as they are
  pub rolled_now : (held : Held) (least : ℕ) (files : List (List (List R))) → AreFiles (IsRolledFile format) held least 1 files → AreFiles (λ place batches f. IsRolledText format place batches f.bytes) held least 1 files
  rolled_now held least files are = files_map (IsRolledFile format) (λ place batches f. IsRolledText format place batches f.bytes) held held least 1 files (λ n p bs f le lt there holds. (f, there, holds.text)) are

  pub resting : (held image : Held) (records : List R) → Rests format held records → Leaves held image → Rests format image records
  resting held image records is leaves =
      let spells = is.spells in
      let last = spells.text.last in
      let at = image_there held image (spells.least + length spells.files) last.0 last.1 leaves in
      record {
        spells = record {
          least = spells.least;
          files = spells.files;
          batches = spells.batches;
          is_least = least_image held image spells.least leaves spells.is_least;
          begins = spells.begins;
          text = record {
            numbers = spells.text.numbers;
            rolled = files_map (λ place batches f. IsRolledText format place batches f.bytes) (λ place batches f. IsRolledText format place batches f.bytes) held image spells.least 1 spells.files
                (λ n p bs f le lt there holds. let img = image_there held image n f there leaves in (img.0, img.1, rolled_image p bs f img.0 holds (is.settled n le (omega (arith, lt)) f there) img.2)) spells.text.rolled;
            last = (at.0, at.1, text_image (place_behind spells.files) spells.batches last.0 at.0 last.2 (is.settled (spells.least + length spells.files) (omega arith) (omega arith) last.0 last.1) at.2);
          };
          all = spells.all;
          in_order = spells.in_order;
          may_end = spells.may_end;
        };
        settled = λ n le lt. image_settled held image leaves n;
      }

  module _ (size : ℕ) (few : format.most < 2 ^ 32) (each : (item : R) (place : ℕ) → length (text format item place) ≡ size)
      (one : (a b : R) (place : ℕ) → format.valid a ≡ true → format.valid b ≡ true → text format a place ≡ text format b place → a ≡ b)
      (begins : (xs ys : List R) → format.in_order (xs ++ ys) ≡ true → format.in_order xs ≡ true) where
    -- two texts of one trail are of the same records
    pub same_text : (held : Held) (n m : ℕ) (fx fy : List (List (List R))) (bx bz : List (List R)) → IsLeast held (Some n) → IsLeast held (Some m) → IsTrailText format held n fx bx → IsTrailText format held m fy bz
        → format.in_order (records_of fx ++ all_of bx) ≡ true → format.in_order (records_of fy ++ all_of bz) ≡ true → (n ≡ m) × (fx ≡ fy) × (bx ≡ bz)
    same_text held n m fx fy bx bz ln lm tx ty ox oy =
        let least = least_same held n m ln lm in
        let tx' = subst (λ (k : ℕ). IsTrailText format held k fx bx) least tx in
        let same = same_ends format size few each one begins held [] m 1 fx fy bx bz (text_reading format held m fx bx tx' ox) (text_reading format held m fy bz ty oy) in
        (least, same.0, same.1)

    pub same_records : (held : Held) (xs ys : List R) → Spells format held xs → Spells format held ys → xs ≡ ys
    same_records held xs ys sx sy =
        let same = same_text held sx.least sy.least sx.files sy.files sx.batches sy.batches sx.is_least sy.is_least sx.text sy.text (ap format.in_order (sym sx.all) ∙ sx.in_order) (ap format.in_order (sym sy.all) ∙ sy.in_order) in
        sx.all ∙ (λ i. records_of (same.1 i) ++ all_of (same.2 i)) ∙ sym sy.all

module _ {D R : Type 0} (held : D → Held) (format : Rules → Format R) (trail : View D) where
  -- the device of a trail whose batches have landed spells their records
  pub ready_spells : (files : List (List (List R))) (batches : List (List R)) → IsReady held (format trail.rules) trail files batches → (format trail.rules).in_order (records_of files ++ all_of batches) ≡ true → (format trail.rules).may_end (records_of files ++ all_of batches) ≡ true
      → Spells (format trail.rules) (held trail.device) (records_of files ++ all_of batches)
  ready_spells files batches is ordered ends =
      let front = is.front in
      let has = is.file.2 in
      let file_is = front.counts.file_is in
      record {
        least = front.start;
        files = files;
        batches = batches;
        is_least = front.is_least;
        begins = front.begins;
        text = record {
          numbers = omega (arith, front.numbers, file_is);
          rolled = rolled_now (format trail.rules) (held trail.device) front.start files front.rolled;
          last = (is.file.0, ap (held trail.device) (sym file_is) ∙ is.file.1, record { each = front.counts.each; gate = has.gate; rest = has.rest; closed = has.closed; parts = has.parts });
        };
        all = refl;
        in_order = ordered;
        may_end = ends;
      }

  -- a trail whose batches have landed rests, where nothing of its present file is at risk
  pub ready_rests : (files : List (List (List R))) (batches : List (List R)) → IsReady held (format trail.rules) trail files batches → (format trail.rules).in_order (records_of files ++ all_of batches) ≡ true → (format trail.rules).may_end (records_of files ++ all_of batches) ≡ true
      → IsThere (held trail.device) trail.file IsSettled → Rests (format trail.rules) (held trail.device) (records_of files ++ all_of batches)
  ready_rests files batches is ordered ends last =
      let front = is.front in
      let has = is.file.2 in
      let file_is = front.counts.file_is in
      record {
        spells = record {
          least = front.start;
          files = files;
          batches = batches;
          is_least = front.is_least;
          begins = front.begins;
          text = record {
            numbers = omega (arith, front.numbers, file_is);
            rolled = rolled_now (format trail.rules) (held trail.device) front.start files front.rolled;
            last = (is.file.0, ap (held trail.device) (sym file_is) ∙ is.file.1, record { each = front.counts.each; gate = has.gate; rest = has.rest; closed = has.closed; parts = has.parts });
          };
          all = refl;
          in_order = ordered;
          may_end = ends;
        };
        settled = λ n le lt. elim (cases_lt n trail.file) [
          | inl before ↦ files_all (IsRolledFile (format trail.rules)) IsSettled (held trail.device) (λ p bs f holds. holds.settled) front.start 1 files front.rolled n le (omega (arith, before, file_is))
          | inr past ↦
              let here : n ≡ trail.file = omega (arith, lt, past, file_is) in
              λ f there. at_file {P = IsSettled} (held trail.device trail.file) f (ap (held trail.device) (sym here) ∙ there) last
        ];
      }

  image_text : (files : List (List (List R))) (batches : List (List R)) (image : Held) → Leaves (held trail.device) image → HasFiles (format trail.rules) (held trail.device) trail.least trail.file trail.gate trail.places files batches
      → (batches' : List (List R)) → IsThere image trail.file (λ f. IsText (format trail.rules) (place_behind files) batches' f.bytes) → (records : List R) → records ≡ records_of files ++ all_of batches' → (format trail.rules).in_order records ≡ true → (format trail.rules).may_end records ≡ true
      → Rests (format trail.rules) image records
  image_text files batches image leaves front batches' there records all ordered ends =
      let file_is = front.counts.file_is in
      record {
        spells = record {
          least = front.start;
          files = files;
          batches = batches';
          is_least = least_image (held trail.device) image front.start leaves front.is_least;
          begins = front.begins;
          text = record { numbers = omega (arith, front.numbers, file_is); rolled = rolled_files (format trail.rules) (held trail.device) image front.start files leaves front.rolled; last = (there.0, ap image (sym file_is) ∙ there.1, there.2) };
          all = all;
          in_order = ordered;
          may_end = ends;
        };
        settled = λ n le lt. image_settled (held trail.device) image leaves n;
      }

  rolled_rests : (files : List (List (List R))) (batches : List (List R)) (image : Held) → Leaves (held trail.device) image → IsRolling held (format trail.rules) trail files batches
      → IsThere image trail.file (λ f. IsRolledText (format trail.rules) (place_behind files) batches f.bytes) → (records : List R) → records ≡ records_of files ++ all_of batches → (format trail.rules).in_order records ≡ true → (format trail.rules).may_end records ≡ true
      → Rests (format trail.rules) image records
  rolled_rests files batches image leaves is there records all ordered ends =
      let front = is.front in
      let file_is = front.counts.file_is in
      let last : front.start + length (files ++ batches ∷ []) ≡ trail.file + 1 = omega (arith, file_is, length-append files (batches ∷ [])) in
      let place = place_behind (files ++ batches ∷ []) in
      let next = image_there (held trail.device) image (trail.file + 1) created is.next leaves in
      let landed : IsLandedFile (text (format trail.rules)) place [] created = record { gate = 0; rest = []; closed = λ e. omega (arith, e); parts = refl; pinned = λ i le. record { synced = omega (arith, le); safe = refl } } in
      record {
        spells = record {
          least = front.start;
          files = files ++ batches ∷ [];
          batches = [];
          is_least = least_image (held trail.device) image front.start leaves front.is_least;
          begins = front.begins;
          text = record {
            numbers = omega (arith, is.more, last);
            rolled = files_push (λ place batches f. IsRolledText (format trail.rules) place batches f.bytes) image front.start 1 files batches trail.file (place_behind files) file_is refl (rolled_files (format trail.rules) (held trail.device) image front.start files leaves front.rolled) there;
            last = (next.0, ap image last ∙ next.1, landed_spells (format trail.rules) place [] created next.0 tt landed next.2);
          };
          all = all ∙ sym (records_of-push files batches) ∙ sym (append-nil (records_of (files ++ batches ∷ [])));
          in_order = ordered;
          may_end = ends;
        };
        settled = λ n le lt. image_settled (held trail.device) image leaves n;
      }

  -- each image of a trail whose batches have landed
  pub ready_image : (files : List (List (List R))) (batches : List (List R)) (image : Held) → Leaves (held trail.device) image → IsReady held (format trail.rules) trail files batches
      → (format trail.rules).in_order (records_of files ++ all_of batches) ≡ true → (format trail.rules).may_end (records_of files ++ all_of batches) ≡ true → Rests (format trail.rules) image (records_of files ++ all_of batches)
  ready_image files batches image leaves ready ordered ends =
      let at = image_there (held trail.device) image trail.file ready.file.0 ready.file.1 leaves in
      image_text files batches image leaves ready.front batches (at.0, at.1, landed_spells (format trail.rules) (place_behind files) batches ready.file.0 at.0 ready.front.counts.each ready.file.2 at.2) (records_of files ++ all_of batches) refl ordered ends

  -- and where a roll is offered behind them
  pub rolling_image : (files : List (List (List R))) (batches : List (List R)) (image : Held) → Leaves (held trail.device) image → IsRolling held (format trail.rules) trail files batches
      → (format trail.rules).in_order (records_of files ++ all_of batches) ≡ true → (format trail.rules).may_end (records_of files ++ all_of batches) ≡ true → Rests (format trail.rules) image (records_of files ++ all_of batches)
  rolling_image files batches image leaves rolling ordered ends =
      let at = image_there (held trail.device) image trail.file rolling.file.0 rolling.file.1 leaves in
      let counts = rolling.front.counts in
      let either = offered_image (format trail.rules) (place_behind files) batches [] rolling.file.0 at.0 counts.each rolling.file.2 at.2 in
      ⊎_elim (λ without. image_text files batches image leaves rolling.front batches (at.0, at.1, without) (records_of files ++ all_of batches) refl ordered ends)
      (λ with. rolled_rests files batches image leaves rolling (at.0, at.1, record { each = counts.each; gate = rolling.file.2.next; rest = either.0; parts = with }) (records_of files ++ all_of batches) refl ordered ends) either.1

  -- and where a batch is
  pub offered_rests : (files : List (List (List R))) (batches : List (List R)) (batch : List R) (image : Held) → Leaves (held trail.device) image → IsOffered held (format trail.rules) trail files batches batch
      → (format trail.rules).in_order (records_of files ++ all_of batches) ≡ true → (format trail.rules).may_end (records_of files ++ all_of batches) ≡ true
      → (format trail.rules).in_order ((records_of files ++ all_of batches) ++ batch) ≡ true → (format trail.rules).may_end ((records_of files ++ all_of batches) ++ batch) ≡ true
      → Rests (format trail.rules) image (records_of files ++ all_of batches) ⊎ Rests (format trail.rules) image ((records_of files ++ all_of batches) ++ batch)
  offered_rests files batches batch image leaves offered ordered ends ordered' ends' =
      let has = offered.file.2 in
      let counts = offered.front.counts in
      let at = image_there (held trail.device) image trail.file offered.file.0 offered.file.1 leaves in
      let either = offered_image (format trail.rules) (place_behind files) batches batch offered.file.0 at.0 counts.each has at.2 in
      ⊎_elim (λ without. inl (image_text files batches image leaves offered.front batches (at.0, at.1, without) (records_of files ++ all_of batches) refl ordered ends))
      (λ with. inr (image_text files batches image leaves offered.front (batches ++ batch ∷ [])
      (at.0, at.1, record { each = each-push (format trail.rules) batches batch counts.each offered.is_batch; gate = has.next; rest = either.0; closed = has.closed; parts = with }) ((records_of files ++ all_of batches) ++ batch)
      (append_assoc (records_of files) (all_of batches) batch ∙ ap (λ l. records_of files ++ l) (sym (all_of-push batches batch))) ordered' ends'))
      either.1
