-- What the removal of files leaves of a content.
use Rattle.std.specs.Prelude.{Bool, Some, IsSome, IsTrue, max, min, Result, Ok, Err, OnOk, MatchResult}
use Rattle.std.proofs.Common.{◌≡◌, inl, inr, ℕ, ◌+◌, ◌-◌, ◌≤◌, ◌++◌, List, length, drop, true, false, arith, ap, sym, refl, ◌∙◌, subst, append_assoc}
use Rattle.std.proofs.lemmas.Bool.{cases_lt}
use Rattle.std.proofs.lemmas.List.{length-drop}
use Rattle.disk_model.specs.declared.disk.Disk as disk
use Rattle.disk_model.specs.Held.{Held, IsLeast}
use Rattle.trail_files.specs.declared.rules.Rules.{Rules}
use Rattle.trail_files.specs.Content.{placed_in, Content, Pending, records_in, from_file, batch_of, landed_in, without_below}
use Rattle.trail_files.specs.Content.Pending.{Nothing, Loaded, Offered, Rolling}
use Rattle.trail_files.specs.Format.{Format, IgnoresPlace}
use Rattle.trail_files.specs.Holds.{Holds, Stands, IsPending}
use Rattle.trail_files.specs.Landed.{IsRolledFile}
use Rattle.trail_files.specs.Removed.{IsStart, IsCut, AreThere}
use Rattle.trail_files.specs.Text.{all_of, records_of}
use Rattle.trail_files.specs.Trail.{View, HasFiles, files_from}
use Rattle.trail_files.proofs.Calls.{is_some}
use Rattle.trail_files.proofs.Cuts.{ready_left, offered_left, rolling_left, order_left, files_there}
use Rattle.trail_files.proofs.Ends.{least_same}
use Rattle.trail_files.proofs.Placing.{records_in-placed, placed_left}

module _ {D R : Type 0} (held : D → Held) (format : Format R) (t : View D) (files : List (List (List R))) (batches : List (List R)) where
  -- whatever is pending, the files are there
  pub front_in : (pending : Pending R) → IsPending held format t files batches pending → HasFiles format (held t.device) t.least t.file t.gate t.places files batches × IsSome (held t.device t.file)
  front_in Nothing is = (is.front, is_some (held t.device t.file) is.file.0 is.file.1)
  front_in (Loaded batch) is = (is.0.front, is_some (held t.device t.file) is.0.file.0 is.0.file.1)
  front_in (Offered batch) is = (is.front, is_some (held t.device t.file) is.file.0 is.file.1)
  front_in Rolling is = (is.front, is_some (held t.device t.file) is.file.0 is.file.1)

module _ {D R : Type 0} (held : D → Held) (format : Rules → Format R) (t : View D) (free : IgnoresPlace (format t.rules)) (any : (n : ℕ) → (format t.rules).may_begin n ≡ true)
    (ends : (xs ys : List R) → (format t.rules).in_order (xs ++ ys) ≡ true → (format t.rules).in_order ys ≡ true) (new : D) (begun below : ℕ) (low : below ≤ t.file) where
  module _ (left : ℕ) (files : List (List (List R))) (batches : List (List R)) (cut : (start : ℕ) → IsLeast (held t.device) (Some start) → IsCut (held t.device) (held new) begun start left below) where
    pending_left : (pending : Pending R) → IsPending held (format t.rules) t files batches pending → IsPending held (format t.rules) (record t { device = new; least = begun }) (files_from t.file left files) batches pending
    pending_left Nothing is = ready_left held format t free any ends new begun below low left files batches is (cut is.front.start is.front.is_least)
    pending_left (Loaded batch) is = (
      ready_left held format t free any ends new begun below low left files batches is.0 (cut is.0.front.start is.0.front.is_least),
      offered_left held format t free any ends new begun below low left files batches batch is.1 (cut is.1.front.start is.1.front.is_least),
    )
    pending_left (Offered batch) is = offered_left held format t free any ends new begun below low left files batches batch is (cut is.front.start is.front.is_least)
    pending_left Rolling is = rolling_left held format t free any ends new begun below low left files batches is (cut is.front.start is.front.is_least)

  module _ (c : Content R) (s : Stands held (format t.rules) t c) where
    front : HasFiles (format t.rules) (held t.device) t.least t.file t.gate t.places s.files s.batches
    front = (front_in held (format t.rules) t s.files s.batches c.pending s.stands).0

    stands_left : (left from : ℕ) → left ≡ max s.start from → from ≤ below → left ≤ t.file → IsCut (held t.device) (held new) begun s.start left below → Stands held (format t.rules) (record t { device = new; least = begun }) (without_below begun from c)
    stands_left left from left_is from_low within cut =
        let k = length s.files + left - t.file in
        let k_is : left - s.start ≡ k = omega (arith, s.file_is, left_is) in
        let long = length-drop k s.files in
        let placed : from_file from c.placed ≡ placed_in left (files_from t.file left s.files) s.batches =
        ap (from_file from) s.placed_is ∙ placed_left from s.start left s.files s.batches left_is (omega (arith, from_low, low, s.file_is)) ∙ ap (λ n. placed_in left (drop n s.files) s.batches) k_is in
        let was : landed_in c ≡ records_of s.files ++ all_of s.batches = ap records_in s.placed_is ∙ records_in-placed s.start s.files s.batches in
        let now : records_in (from_file from c.placed) ≡ records_of (files_from t.file left s.files) ++ all_of s.batches = ap records_in placed ∙ records_in-placed left (files_from t.file left s.files) s.batches in
        let batch = batch_of c.pending in
        let same_start : (front).start ≡ s.start = omega (arith, (front).counts.file_is, s.file_is) in
        record {
          files = files_from t.file left s.files;
          batches = s.batches;
          start = left;
          file_is = omega (arith, long, s.file_is, left_is, within);
          stands = pending_left left s.files s.batches (λ start least. subst (λ n. IsCut (held t.device) (held new) begun n left below) (sym same_start ∙ least_same (held t.device) (front).start start (front).is_least least) cut) c.pending s.stands;
          placed_is = placed;
          in_order = ap (λ l. (format t.rules).in_order (l ++ batch)) now
              ∙ order_left held format t free any ends new begun below low k s.files (all_of s.batches) batch (ap (format t.rules).in_order (sym (append_assoc (records_of s.files) (all_of s.batches) batch) ∙ ap (λ l. l ++ batch) (sym was)) ∙ s.in_order);
          settled = λ e. let file = s.settled e in (file.0, cut.kept t.file within ∙ file.1, file.2);
        }

    -- what a call that removes files finds, and what it leaves
    there : AreThere (held t.device) s.start below
    there n le lt =
        let same : (front).start ≡ s.start = omega (arith, (front).counts.file_is, s.file_is) in
        elim (cases_lt n t.file) [
          | inl before ↦ files_there (IsRolledFile (format t.rules)) (held t.device) (front).start 1 s.files (front).rolled n (omega (arith, le, same)) (omega (arith, before, (front).counts.file_is))
          | inr past ↦ (let same : t.file ≡ n = omega (arith, past, lt, low) in subst (λ (k : ℕ). IsSome (held t.device k)) same (front_in held (format t.rules) t s.files s.batches c.pending s.stands).1)
        ]

    pub stands_dropped : {T E : Type 0} (result : Result T E)
        → ((start : ℕ) → IsLeast (held t.device) (Some start) → IsStart t.least start → AreThere (held t.device) start below → (left : ℕ) × IsCut (held t.device) (held new) begun start left below × OnOk result (left ≡ max start below))
        → MatchResult result (λ _. Stands held (format t.rules) (record t { device = new; least = begun }) (without_below begun below c)) (λ _. (from : ℕ) × (from ≤ below) × Stands held (format t.rules) (record t { device = new; least = begun }) (without_below begun from c))
    stands_dropped result removes = at result (removes s.start (subst (λ n. IsLeast (held t.device) (Some n)) same (front).is_least) (subst (IsStart t.least) same (front).start_is) there)
      where
        same : (front).start ≡ s.start
        same = omega (arith, (front).counts.file_is, s.file_is)

        at : {T E : Type 0} (result : Result T E) → (left : ℕ) × IsCut (held t.device) (held new) begun s.start left below × OnOk result (left ≡ max s.start below)
            → MatchResult result (λ _. Stands held (format t.rules) (record t { device = new; least = begun }) (without_below begun below c)) (λ _. (from : ℕ) × (from ≤ below) × Stands held (format t.rules) (record t { device = new; least = begun }) (without_below begun from c))
        at (Ok x) cut = stands_left cut.0 below cut.2 (omega arith) (omega (arith, cut.2, low, s.file_is)) cut.1
        at (Err e) cut = (min cut.0 below, omega arith, stands_left cut.0 (min cut.0 below) (omega (arith, cut.1.rises, cut.1.within)) (omega arith) (omega (arith, cut.1.within, low, s.file_is)) cut.1)

module _ {D R : Type 0} (kind : disk.Ghosts D) (format : Rules → Format R) (t : View D) (free : IgnoresPlace (format t.rules)) (any : (n : ℕ) → (format t.rules).may_begin n ≡ true)
    (ends : (xs ys : List R) → (format t.rules).in_order (xs ++ ys) ≡ true → (format t.rules).in_order ys ≡ true) (new : D) (begun below : ℕ) (low : below ≤ t.file) (telling : kind.tells new ≡ kind.tells t.device) (c : Content R) (is : Holds kind format t c) where
  pub holds_dropped : {T E : Type 0} (result : Result T E)
      → (IsTrue (kind.tells t.device) → (start : ℕ) → IsLeast (kind.held t.device) (Some start) → IsStart t.least start → AreThere (kind.held t.device) start below → (left : ℕ) × IsCut (kind.held t.device) (kind.held new) begun start left below × OnOk result (left ≡ max start below))
      → MatchResult result (λ _. Holds kind format (record t { device = new; least = begun }) (without_below begun below c)) (λ _. (from : ℕ) × (from ≤ below) × Holds kind format (record t { device = new; least = begun }) (without_below begun from c))
  holds_dropped result removes = at (kind.tells t.device) refl result removes
    where
      holds : (from : ℕ) → (IsTrue (kind.tells new) → Stands kind.held (format t.rules) (record t { device = new; least = begun }) (without_below begun from c)) → Holds kind format (record t { device = new; least = begun }) (without_below begun from c)
      holds from stands = record { phase = is.phase; least = refl; file = is.file; some = is.some; more = is.more; told = stands }

      at : {T E : Type 0} (b : Bool) → kind.tells t.device ≡ b → (result : Result T E)
          → (IsTrue (kind.tells t.device) → (start : ℕ) → IsLeast (kind.held t.device) (Some start) → IsStart t.least start → AreThere (kind.held t.device) start below → (left : ℕ) × IsCut (kind.held t.device) (kind.held new) begun start left below × OnOk result (left ≡ max start below))
          → MatchResult result (λ _. Holds kind format (record t { device = new; least = begun }) (without_below begun below c)) (λ _. (from : ℕ) × (from ≤ below) × Holds kind format (record t { device = new; least = begun }) (without_below begun from c))
      at {T} {E} true e (Ok x) removes = let r : Result T E = Ok x in holds below (λ told. stands_dropped kind.held format t free any ends new begun below low c (is.told e) r (removes e))
      at {T} {E} true e (Err x) removes =
          let r : Result T E = Err x in
          let has = stands_dropped kind.held format t free any ends new begun below low c (is.told e) r (removes e) in
          (has.0, has.1, holds has.0 (λ told. has.2))
      at false e (Ok x) removes = holds below (λ told. let wrong : false ≡ true = sym e ∙ sym telling ∙ told in absurd cc)
      at false e (Err x) removes = (0, omega arith, holds 0 (λ told. let wrong : false ≡ true = sym e ∙ sym telling ∙ told in absurd cc))
