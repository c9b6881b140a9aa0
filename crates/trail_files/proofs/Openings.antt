-- How a trail begins, and what its cursor stands in front of.
use Rattle.std.specs.Prelude.{Bool, Some, None}
use Rattle.std.proofs.Common.{◌≡◌, ◌≢◌, ◌⊎◌, ⊎_elim, inl, inr, ℕ, ◌+◌, ◌<◌, ◌≤◌, ◌^◌, true, List, [], ◌∷◌, ◌++◌, length, refl, sym, ap, subst, ◌∙◌, arith, length-append}
use Rattle.std.proofs.lemmas.List.{append-nil}
use Rattle.std.specs.List.{AllByRecursion}
use Rattle.disk_model.specs.Held.{Held, File, IfThere, IsThere, IsLeast, created}
use Rattle.trail_files.specs.declared.rules.Rules.{Rules}
use Rattle.trail_files.specs.declared.cursor.Cursor.{Cursor}
use Rattle.trail_files.specs.Format.{Format, text}
use Rattle.trail_files.specs.Text.{head, batches_text, IsBatchOf, all_of, records_of, place_behind, IsText, IsRolledText, AreFiles, Spells}
use Rattle.trail_files.specs.Landed.{IsSettled, IsRolledFile}
use Rattle.trail_files.specs.Trail.{View, Rests, IsReady, Reads, Ahead, IsWritable, IsCount, StartsAt}
use Rattle.trail_files.specs.Removed.{IsStart}
use Rattle.trail_files.specs.Content.{Placed, in_file, placed_in, records_in}
use Rattle.trail_files.specs.Remains.{GoesOn}
use Rattle.trail_files.specs.Scanned.{IsCounted}
use Rattle.trail_files.proofs.Calls.{is_some, count_more}
use Rattle.trail_files.proofs.Files.{files_map, length-records_of-cons}
use Rattle.trail_files.proofs.Laws.{same_text}
use Rattle.trail_files.proofs.Placing.{records_in-placed, length-records_in}
use Rattle.trail_files.proofs.Unique.{rolled_parts}

pub first_of : {A : Type 0} (xs : List A) → 0 < length xs → (x : A) × (more : List A) × (xs ≡ x ∷ more)
first_of [] lt = absurd (omega arith)
first_of (x ∷ xs) lt = (x, xs, refl)

-- how a file is read from its front on: its batches, and what follows
pub record Runs {R : Type 0} (format : Format R) (held : Held) (last end file place : ℕ) (files : List (List (List R))) (batches : List (List R)) : Type 0 where
  pub here : List (List R)
  pub others : List (List (List R))
  pub f : File
  pub there : held file ≡ Some f
  pub tail : List ℕ
  pub parts : f.bytes ≡ batches_text (text format) place here ++ tail
  pub each : AllByRecursion (IsBatchOf format) here
  pub goes_on : GoesOn format held last end file (length (batches_text (text format) place here)) (place + length (all_of here)) others tail
  pub all : placed_in file files batches ≡ in_file file (all_of here) ++ placed_in (file + 1) others []

-- batches and a gate
pub record IsGated {R : Type 0} (format : Format R) (place end : ℕ) (batches : List (List R)) (bytes : List ℕ) : Type 0 where
  pub each : AllByRecursion (IsBatchOf format) batches
  pub end_is : length (batches_text (text format) place batches) ≡ end
  pub gate : ℕ
  pub rest : List ℕ
  pub parts : bytes ≡ batches_text (text format) place batches ++ gate ∷ rest

module _ {R : Type 0} (format : Format R) (held : Held) where
  runs_from : (end file place : ℕ) (files : List (List (List R))) (batches : List (List R)) (n p : ℕ) → n ≡ file + length files → p ≡ place + length (records_of files) → n < 2 ^ 32
      → AreFiles (λ place batches f. IsRolledText format place batches f.bytes) held file place files → IsThere held n (λ f. IsGated format p end batches f.bytes) → Runs format held n end file place files batches
  runs_from end file place [] batches n p n_is p_is small are last =
      let here : n ≡ file = omega (arith, n_is) in
      let there : p ≡ place = omega (arith, p_is) in
      let is = last.2 in
      record {
        here = batches;
        others = [];
        f = last.0;
        there = ap held (sym here) ∙ last.1;
        tail = is.gate ∷ is.rest;
        parts = is.parts ∙ ap (λ k. batches_text (text format) k batches ++ is.gate ∷ is.rest) there;
        each = is.each;
        goes_on = (is.gate, is.rest, refl, sym here, ap (λ k. length (batches_text (text format) k batches)) (sym there) ∙ is.end_is);
        all = sym (append-nil (in_file file (all_of batches)));
      }
  runs_from end file place (first ∷ files) batches n p n_is p_is small are last =
      let is = are.0.2 in
      let rest = runs_from end (file + 1) (place + length (all_of first)) files batches n p (omega (arith, n_is)) (omega (arith, p_is, length-records_of-cons first files)) small are.1 last in
      record {
        here = first;
        others = rest.here ∷ rest.others;
        f = are.0.0;
        there = are.0.1;
        tail = (1 ∷ head 0) ++ is.gate ∷ is.rest;
        parts = is.parts ∙ rolled_parts format place first (is.gate ∷ is.rest);
        each = is.each;
        goes_on = (is.gate, is.rest, refl, omega (arith, n_is, small), (rest.f, rest.there, (rest.tail, rest.parts, rest.each, rest.goes_on)));
        all = ap (λ (l : List (Placed R)). in_file file (all_of first) ++ l) rest.all;
      }

-- where the first cursor begins
pub starts_at : (held : Held) (least start : ℕ) → IsStart least start → IsLeast held (Some start) → let first : Cursor = record { file = least; at = 0; left = 0; place = 1 } in StartsAt held least first (record { file = start; at = 0; left = 0; place = 1 })
starts_at held least start start_is first =
    ⊎_elim (λ same. inl (ap (λ (n : ℕ). let c : Cursor = record { file = n; at = 0; left = 0; place = 1 } in c) same))
    (λ behind. inr (refl, refl, refl, first.1 least (omega (arith, behind)), ap (λ (n : ℕ). let c : Cursor = record { file = n; at = 0; left = 0; place = 1 } in c) behind)) start_is

-- a trail that was opened over a device that holds these records, and of which nothing is at risk
pub record IsOpen {D R : Type 0} (held : D → Held) (format : Format R) (t : View D) (records : List R) : Type 0 where
  pub files : List (List (List R))
  pub batches : List (List R)
  pub ready : IsReady held format t files batches
  pub all : records ≡ records_of files ++ all_of batches
  pub in_order : format.in_order records ≡ true
  pub settled : IsThere (held t.device) t.file IsSettled

module _ {D R : Type 0} (held : D → Held) (format : Rules → Format R) where
  pub ahead_first : (t : View D) (start : ℕ) (files : List (List (List R))) (batches : List (List R)) → (start ≡ t.least) ⊎ (start ≡ t.least + 1) → IsLeast (held t.device) (Some start) → t.file ≡ start + length files → t.file < 2 ^ 32
      → AreFiles (λ place batches f. IsRolledText (format t.rules) place batches f.bytes) (held t.device) start 1 files → IsThere (held t.device) t.file (λ f. IsGated (format t.rules) (place_behind files) t.gate batches f.bytes)
      → IsCount (format t.rules) t.places (length (records_of files) + length (all_of batches)) → let first : Cursor = record { file = t.least; at = 0; left = 0; place = 1 } in Ahead held format t first (placed_in start files batches)
  ahead_first t start files batches start_is least file_is small are last count =
      let long : length (placed_in start files batches) ≡ length (records_of files) + length (all_of batches) = sym (length-records_in (placed_in start files batches)) ∙ ap length (records_in-placed start files batches) ∙ length-append (records_of files) (all_of batches) in
      let runs = runs_from (format t.rules) (held t.device) t.gate start 1 files batches t.file (place_behind files) file_is refl small are last in
      let place : 1 + length (all_of runs.here) ≡ 1 + 0 + length (all_of runs.here) = omega arith in
      let at : length (batches_text (text (format t.rules)) 1 runs.here) ≡ 0 + 0 + length (batches_text (text (format t.rules)) (1 + 0) runs.here) = omega arith in
      record {
        from = record { file = start; at = 0; left = 0; place = 1 };
        from_is = starts_at (held t.device) t.least start start_is least;
        leads = (
          runs.f,
          runs.there,
          record {
            here = [];
            others = runs.here;
            files = runs.others;
            tail = runs.tail;
            left_is = refl;
            parts = runs.parts;
            goes_on = subst (λ (k : ℕ). GoesOn (format t.rules) (held t.device) t.file t.gate start k (1 + 0 + length (all_of runs.here)) runs.others runs.tail) at
                (subst (λ (k : ℕ). GoesOn (format t.rules) (held t.device) t.file t.gate start (length (batches_text (text (format t.rules)) 1 runs.here)) k runs.others runs.tail) place runs.goes_on);
            each = tt;
            each_other = runs.each;
            records_are = runs.all;
          },
        );
        count = count_more (format t.rules) t.places 1 _ _ (omega (arith, long)) count;
      }

  pub ahead_reads : (t : View D) (records : List R) → Reads held format t records → let first : Cursor = record { file = t.least; at = 0; left = 0; place = 1 } in (placed : List (Placed R)) × (records_in placed ≡ records) × Ahead held format t first placed
  ahead_reads t records is =
      let last = is.text.last in (
        placed_in t.least is.files is.batches,
        records_in-placed t.least is.files is.batches ∙ sym is.all,
        ahead_first t t.least is.files is.batches (inl refl) is.is_least is.counts.file_is (omega (arith, is.counts.file_is, is.text.numbers)) is.text.rolled
            (last.0, ap (held t.device) is.counts.file_is ∙ last.1, record { each = last.2.each; end_is = sym is.counts.offset; gate = last.2.gate; rest = last.2.rest; parts = last.2.parts }) is.counts.next,
      )

  pub writable_same : (tells : D → Bool) (t : View D) (new : D) → tells new ≡ tells t.device → held new ≡ held t.device → IsWritable tells held t → IsWritable tells held (record t { device = new })
  writable_same tells t new telling same is = record {
    gate = λ told. let there = is.gate (sym telling ∙ told) in (there.0, ap (λ h. h t.file) same ∙ there.1, there.2);
    batch = λ told not_ready not_rolling. let there = is.batch (sym telling ∙ told) not_ready not_rolling in (there.0, ap (λ h. h t.file) same ∙ there.1, there.2);
    next = λ told rolling. let there = is.next (sym telling ∙ told) rolling in (there.0, ap (λ h. h (t.file + 1)) same ∙ there.1, there.2);
  }

  pub ready_none : (t : View D) → t.least ≡ 1 → t.file ≡ 1 → t.gate ≡ 0 → t.places ≡ 0 → (format t.rules).may_begin 1 ≡ true → held t.device 1 ≡ Some created → ((n : ℕ) → n ≢ 1 → held t.device n ≡ None) → IsReady held (format t.rules) t [] []
  ready_none t least file gate places begins there others = record {
    front = record {
      start = t.least;
      start_is = inl refl;
      counts = record { each = tt; file_is = omega (arith, least, file); offset = gate; next = inl places };
      numbers = omega (arith, file);
      is_least = subst (λ (n : ℕ). IsLeast (held t.device) (Some n)) (sym least) (is_some (held t.device 1) created there, λ q lt. others q (λ e. omega (arith, e, lt)));
      begins = ap (format t.rules).may_begin least ∙ begins;
      rolled = tt;
    };
    file = (created, ap (held t.device) file ∙ there, record { gate = 0; rest = []; closed = λ e. omega (arith, e); parts = refl; pinned = λ i le. record { synced = omega (arith, le); safe = refl } });
  }

  module _ (t : View D) (size : ℕ) (few : (format t.rules).most < 2 ^ 32) (each : (item : R) (place : ℕ) → length (text (format t.rules) item place) ≡ size)
      (one : (a b : R) (place : ℕ) → (format t.rules).valid a ≡ true → (format t.rules).valid b ≡ true → text (format t.rules) a place ≡ text (format t.rules) b place → a ≡ b)
      (begins : (xs ys : List R) → (format t.rules).in_order (xs ++ ys) ≡ true → (format t.rules).in_order xs ≡ true) where
    -- what was counted is what the device spells
    counted_same : (records : List R) → (spells : Spells (format t.rules) (held t.device) records) → (counted : IsCounted (format t.rules) (held t.device) t.least t.file t.gate t.places) → (t.least ≡ spells.least) × (counted.files ≡ spells.files) × (counted.batches ≡ spells.batches)
    counted_same records spells counted = same_text (format t.rules) size few each one begins (held t.device) t.least spells.least counted.files spells.files counted.batches spells.batches counted.fine.is_least spells.is_least counted.text spells.text counted.fine.in_order (ap (format t.rules).in_order (sym spells.all) ∙ spells.in_order)

    pub opened_reads : (records : List R) → Spells (format t.rules) (held t.device) records → IsCounted (format t.rules) (held t.device) t.least t.file t.gate t.places → Reads held format t records
    opened_reads records spells counted =
        let same = counted_same records spells counted in
        record { files = counted.files; batches = counted.batches; is_least = counted.fine.is_least; counts = counted.counts; text = counted.text; all = spells.all ∙ (λ i. records_of (sym same.1 i) ++ all_of (sym same.2 i)) }

    -- what rests and has been counted has landed, and nothing of the present file is at risk
    pub opened_ready : (records : List R) → Rests (format t.rules) (held t.device) records → IsCounted (format t.rules) (held t.device) t.least t.file t.gate t.places → IsOpen held (format t.rules) t records
    opened_ready records rests counted =
        let same = counted_same records rests.spells counted in
        let counts = counted.counts in
        let last = counted.text.last in
        let is = last.2 in
        let count = ap length same.1 in
        let settled : (n : ℕ) → t.least ≤ n → n ≤ t.least + length counted.files → IfThere (held t.device) n IsSettled = λ n le lt. rests.settled n (omega (arith, le, same.0)) (omega (arith, lt, same.0, count)) in
        let whole : IsSettled last.0 = settled (t.least + length counted.files) (omega arith) (omega arith) last.0 last.1 in
        record {
          files = counted.files;
          batches = counted.batches;
          ready = record {
            front = record {
              start = t.least;
              start_is = inl refl;
              counts = counts;
              numbers = omega (arith, counts.file_is, counted.text.numbers);
              is_least = counted.fine.is_least;
              begins = counted.fine.begins;
              rolled = files_map (λ place batches f. IsRolledText (format t.rules) place batches f.bytes) (IsRolledFile (format t.rules)) (held t.device) (held t.device) t.least 1 counted.files
                  (λ n p bs f le lt there holds. (f, there, record { text = holds; settled = settled n le (omega (arith, lt)) f there })) counted.text.rolled;
            };
            file = (
              last.0,
              ap (held t.device) counts.file_is ∙ last.1,
              record { gate = is.gate; rest = is.rest; closed = is.closed; parts = is.parts; pinned = λ i le. record { synced = within last.0 (place_behind counted.files) counted.batches is i le whole; safe = whole.safe i (within_bytes last.0 (place_behind counted.files) counted.batches is i le) } },
            );
          };
          all = rests.spells.all ∙ (λ i. records_of (sym same.1 i) ++ all_of (sym same.2 i));
          in_order = rests.spells.in_order;
          settled = (last.0, ap (held t.device) counts.file_is ∙ last.1, whole);
        }
      where
        within_bytes : (file : File) (place : ℕ) (batches : List (List R)) → IsText (format t.rules) place batches file.bytes → (i : ℕ) → i ≤ length (batches_text (text (format t.rules)) place batches) → i < length file.bytes
        within_bytes file place batches is i le = omega (arith, ap length is.parts, length-append (batches_text (text (format t.rules)) place batches) (is.gate ∷ is.rest), le)

        within : (file : File) (place : ℕ) (batches : List (List R)) → IsText (format t.rules) place batches file.bytes → (i : ℕ) → i ≤ length (batches_text (text (format t.rules)) place batches) → IsSettled file → i < file.synced
        within file place batches is i le settled = let below = within_bytes file place batches is i le in omega (arith, settled.synced, below)

    pub counted_spells : IsCounted (format t.rules) (held t.device) t.least t.file t.gate t.places → (records : List R) × Spells (format t.rules) (held t.device) records
    counted_spells counted = (
      records_of counted.files ++ all_of counted.batches,
      record { least = t.least; files = counted.files; batches = counted.batches; is_least = counted.fine.is_least; begins = counted.fine.begins; text = counted.text; all = refl; in_order = counted.fine.in_order; may_end = counted.may_end },
    )
