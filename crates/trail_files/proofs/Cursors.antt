-- What is left to read, in steps.
use Rattle.std.proofs.Common.{◌≡◌, ◌⊎◌, ⊎_elim, inl, inr, ℕ, ◌+◌, ◌-◌, ◌<◌, ◌≤◌, ◌^◌, true, List, [], ◌∷◌, ◌++◌, length, take, drop, refl, sym, ap, subst, ◌∙◌, arith, append_assoc, length-append}
use Rattle.std.specs.List.{AllByRecursion}
use Rattle.std.proofs.lemmas.List.{nil_from_length, take_at, drop_at, drop-drop, length-drop}
use Rattle.disk_model.specs.Held.{Held, File, IsThere}
use Rattle.std.specs.Prelude.{Option, Some, None, IsSome, IfSome, MatchOption, Result, Ok, Err, IfOk}
use Rattle.trail_files.specs.declared.cursor.Cursor.{Cursor}
use Rattle.trail_files.specs.Cursor.{Leads}
use Rattle.trail_files.specs.Trail.{StartsAt}
use Rattle.trail_files.proofs.Calls.{is_some}
use Rattle.trail_files.specs.Format.{Format, text, AllValid}
use Rattle.trail_files.specs.Text.{head, body, records_text, batches_text, IsBatchOf, all_of}
use Rattle.trail_files.specs.Content.{Placed, in_file, placed_in}
use Rattle.trail_files.specs.Remains.{GoesOn, Remains}
use Rattle.trail_files.specs.Scanned.{IsHeadAt}
use Rattle.trail_files.proofs.Files.{all_of-cons}
use Rattle.trail_files.proofs.Placing.{in_file-append}
use Rattle.trail_files.proofs.Unique.{heads_same}

-- a number has one file
pub same_file : (held : Held) (n : ℕ) (f g : File) → held n ≡ Some f → held n ≡ Some g → f ≡ g
same_file held n f g there here = let both : Some f ≡ Some g = sym there ∙ here in cc

-- a record that stands at an offset, and what remains behind it
pub record IsTaken {R : Type 0} (format : Format R) (held : Held) (last end file : ℕ) (bytes : List ℕ) (size at left place : ℕ) (item : R) (rest : List (Placed R)) : Type 0 where
  pub valid : format.valid item ≡ true
  pub within : at + size ≤ length bytes
  pub reads : take size (drop at bytes) ≡ text format item place
  pub behind : Remains format held last end file bytes (at + size) (left - 1) (place + 1) rest

-- the head of the batch that stands at an offset of a file
pub record HasHead {R : Type 0} (format : Format R) (file : ℕ) (bytes : List ℕ) (at count : ℕ) : Type 0 where
  pub few : count ≤ format.most
  pub rolls : count ≡ 0 → file < 4294967295
  pub is_head : IsHeadAt at count bytes

module _ {R : Type 0} (format : Format R) (held : Held) (last end : ℕ) where
  -- the last file is behind these
  pub goes_last : (file at place : ℕ) (files : List (List (List R))) (tail : List ℕ) → GoesOn format held last end file at place files tail → file + length files ≡ last
  goes_last file at place [] tail on = omega (arith, on.3)
  goes_last file at place (bs ∷ files) tail on = omega (arith, goes_last (file + 1) _ _ files _ on.4.2.3)

module _ {R : Type 0} (format : Format R) (held : Held) (last end file : ℕ) where
  -- what follows the batches of a file has a byte
  goes_some : (at place : ℕ) (files : List (List (List R))) (tail : List ℕ) → GoesOn format held last end file at place files tail → 0 < length tail
  goes_some at place [] tail on = omega (arith, ap length on.2)
  goes_some at place (bs ∷ files) tail on = omega (arith, ap length on.2)

  batches_length : (place : ℕ) (b : List R) (bs : List (List R)) → length (batches_text (text format) place (b ∷ bs)) ≡ 16 + length (records_text (text format) place b) + length (batches_text (text format) (place + length b) bs)
  unfolding body
  batches_length place b bs = omega (arith, length-append (1 ∷ body (text format) place b) (batches_text (text format) (place + length b) bs), length-append (head (length b)) (records_text (text format) place b))

  module _ (bytes : List ℕ) where
    pub remains_within : (at left place : ℕ) (records : List (Placed R)) → Remains format held last end file bytes at left place records → at < length bytes
    remains_within at left place records is =
        omega (arith, length-drop at bytes, ap length is.parts, length-append (records_text (text format) place is.here) (batches_text (text format) (place + length is.here) is.others ++ is.tail), length-append (batches_text (text format) (place + length is.here) is.others) is.tail, goes_some (at + length (records_text (text format) place is.here) + length (batches_text (text format) (place + length is.here) is.others)) (place + length is.here + length (all_of is.others)) is.files is.tail is.goes_on)

    -- a record is taken
    pub take_one : (size : ℕ) → ((item : R) (place : ℕ) → length (text format item place) ≡ size) → (at left place : ℕ) (item : R) (rest : List (Placed R)) → 0 < left → Remains format held last end file bytes at left place ((file, item) ∷ rest) → IsTaken format held last end file bytes size at left place item rest
    take_one size each at left place item rest some is = go is.here is.left_is is.parts is.each is.records_are is.goes_on
      where
        go : (here : List R) → left ≡ length here → drop at bytes ≡ records_text (text format) place here ++ (batches_text (text format) (place + length here) is.others ++ is.tail) → AllValid format here → (file, item) ∷ rest ≡ in_file file here ++ (in_file file (all_of is.others) ++ placed_in (file + 1) is.files [])
            → GoesOn format held last end file (at + length (records_text (text format) place here) + length (batches_text (text format) (place + length here) is.others)) (place + length here + length (all_of is.others)) is.files is.tail → IsTaken format held last end file bytes size at left place item rest
        go [] left_is parts v e on = absurd (omega arith)
        go (x ∷ xs) left_is parts v e on =
            let first : (file, item) ≡ (let p : Placed R = (file, x) in p) = cc in
            let same : item ≡ x = ap (λ p. p.1) first in
            let rest_is : rest ≡ in_file file xs ++ (in_file file (all_of is.others) ++ placed_in (file + 1) is.files []) = cc in
            let behind = records_text (text format) (place + 1) xs ++ (batches_text (text format) (place + length (x ∷ xs)) is.others ++ is.tail) in
            let parts' : drop at bytes ≡ text format x place ++ behind = parts ∙ append_assoc (text format x place) (records_text (text format) (place + 1) xs) (batches_text (text format) (place + length (x ∷ xs)) is.others ++ is.tail) in
            let n : place + length (x ∷ xs) ≡ (place + 1) + length xs = omega arith in
            let offset : at + length (records_text (text format) place (x ∷ xs)) + length (batches_text (text format) (place + length (x ∷ xs)) is.others) ≡ at + size + length (records_text (text format) (place + 1) xs) + length (batches_text (text format) ((place + 1) + length xs) is.others) =
            omega (arith, each x place, length-append (text format x place) (records_text (text format) (place + 1) xs), ap (λ k. length (batches_text (text format) k is.others)) n) in
            record {
              valid = ap format.valid same ∙ v.0;
              within = omega (arith, length-drop at bytes, ap length parts', length-append (text format x place) behind, each x place, remains_within at left place ((file, item) ∷ rest) is);
              reads = ap (take size) parts' ∙ take_at (text format x place) behind size (each x place) ∙ ap (λ y. text format y place) (sym same);
              behind = record {
                here = xs;
                others = is.others;
                files = is.files;
                tail = is.tail;
                left_is = omega (arith, left_is);
                parts = sym (drop-drop size at bytes) ∙ ap (drop size) parts' ∙ drop_at (text format x place) behind size (each x place) ∙ ap (λ k. records_text (text format) (place + 1) xs ++ (batches_text (text format) k is.others ++ is.tail)) n;
                goes_on = subst (λ (j : ℕ). GoesOn format held last end file j ((place + 1) + length xs + length (all_of is.others)) is.files is.tail) offset
                    (subst (λ (k : ℕ). GoesOn format held last end file (at + length (records_text (text format) place (x ∷ xs)) + length (batches_text (text format) (place + length (x ∷ xs)) is.others)) (k + length (all_of is.others)) is.files is.tail) n on);
                each = v.1;
                each_other = is.each_other;
                records_are = rest_is;
              };
            }

    -- a batch's head in front of the rest of the bytes
    head_parts : (at place : ℕ) (b : List R) (bs : List (List R)) (rest : List ℕ) → drop at bytes ≡ batches_text (text format) place (b ∷ bs) ++ rest → drop at bytes ≡ (1 ∷ head (length b)) ++ (records_text (text format) place b ++ (batches_text (text format) (place + length b) bs ++ rest))
    unfolding body
    head_parts at place b bs rest parts = parts ∙ append_assoc (1 ∷ body (text format) place b) (batches_text (text format) (place + length b) bs) rest ∙ append_assoc (1 ∷ head (length b)) (records_text (text format) place b) (batches_text (text format) (place + length b) bs ++ rest)

    head_at : (at n : ℕ) (behind : List ℕ) → drop at bytes ≡ (1 ∷ head n) ++ behind → IsHeadAt at n bytes
    head_at at n behind parts = record {
      within = omega (arith, length-drop at bytes, ap length parts, length-append (1 ∷ head n) behind);
      parts = ap (take 16) parts ∙ take_at (1 ∷ head n) behind 16 refl;
    }

    same_head : (at n m : ℕ) → n < 2 ^ 32 → m < 2 ^ 32 → IsHeadAt at n bytes → IsHeadAt at m bytes → n ≡ m
    same_head at n m fits fits' x y = heads_same n m fits fits' (ap (drop 1) (sym x.parts ∙ y.parts))

    -- what stands at an offset where no record is left of a batch
    pub record Others (at place : ℕ) (records : List (Placed R)) : Type 0 where
      pub others : List (List R)
      pub files : List (List (List R))
      pub tail : List ℕ
      pub parts : drop at bytes ≡ batches_text (text format) place others ++ tail
      pub goes_on : GoesOn format held last end file (at + length (batches_text (text format) place others)) (place + length (all_of others)) files tail
      pub each : AllByRecursion (IsBatchOf format) others
      pub records_are : records ≡ in_file file (all_of others) ++ placed_in (file + 1) files []

    others_at : (at place : ℕ) (records : List (Placed R)) → Remains format held last end file bytes at 0 place records → Others at place records
    others_at at place records is =
        let none : is.here ≡ [] = nil_from_length is.here (sym is.left_is) in
        let at_place : place + 0 ≡ place = omega arith in
        let count : place + length is.here + length (all_of is.others) ≡ place + length (all_of is.others) = omega (arith, ap length none) in
        let offset : at + length (records_text (text format) place is.here) + length (batches_text (text format) (place + length is.here) is.others) ≡ at + length (batches_text (text format) place is.others) =
        omega (arith, ap (λ (l : List R). length (records_text (text format) place l)) none, ap (λ (l : List R). length (batches_text (text format) (place + length l) is.others)) none, ap (λ n. length (batches_text (text format) n is.others)) at_place) in
        record {
          others = is.others;
          files = is.files;
          tail = is.tail;
          parts = is.parts ∙ ap (λ (l : List R). records_text (text format) place l ++ (batches_text (text format) (place + length l) is.others ++ is.tail)) none ∙ ap (λ n. batches_text (text format) n is.others ++ is.tail) at_place;
          goes_on = subst (λ (j : ℕ). GoesOn format held last end file j (place + length (all_of is.others)) is.files is.tail) offset
              (subst (λ (n : ℕ). GoesOn format held last end file (at + length (records_text (text format) place is.here) + length (batches_text (text format) (place + length is.here) is.others)) n is.files is.tail) count is.goes_on);
          each = is.each_other;
          records_are = is.records_are ∙ ap (λ (l : List R). in_file file l ++ (in_file file (all_of is.others) ++ placed_in (file + 1) is.files [])) none;
        }

    -- in front of the end a head stands where no record is left of the present batch
    pub enter_head : (at place : ℕ) (records : List (Placed R)) → Remains format held last end file bytes at 0 place records → (file < last) ⊎ ((file ≡ last) × (at < end)) → (count : ℕ) × HasHead format file bytes at count
    enter_head at place records is before = let o = others_at at place records is in go o.others o.files o.tail o.parts o.goes_on o.each
      where
        go : (others : List (List R)) (files : List (List (List R))) (tail : List ℕ) → drop at bytes ≡ batches_text (text format) place others ++ tail → GoesOn format held last end file (at + length (batches_text (text format) place others)) (place + length (all_of others)) files tail → AllByRecursion (IsBatchOf format) others
            → (count : ℕ) × HasHead format file bytes at count
        go [] [] tail parts on v = absurd (⊎_elim (λ lt. omega (arith, lt, on.3)) (λ here. omega (arith, here.1, on.4)) before)
        go [] (bs ∷ files) tail parts on v = (0, record { few = omega arith; rolls = λ z. omega (arith, on.3); is_head = head_at at 0 (on.0 ∷ on.1) (parts ∙ on.2) })
        go (b ∷ bs) files tail parts on v =
            (length b, record { few = v.0.few; rolls = λ z. omega (arith, z, v.0.some); is_head = head_at at (length b) _ (head_parts at place b bs tail parts) })

    -- nothing is left at the end
    pub left_none : (at place : ℕ) (records : List (Placed R)) → Remains format held last end file bytes at 0 place records → ((file < last) ⊎ ((file ≡ last) × (at < end)) → ⊥) → records ≡ []
    left_none at place records is past = let o = others_at at place records is in go o.others o.files o.tail o.goes_on o.records_are
      where
        go : (others : List (List R)) (files : List (List (List R))) (tail : List ℕ) → GoesOn format held last end file (at + length (batches_text (text format) place others)) (place + length (all_of others)) files tail → records ≡ in_file file (all_of others) ++ placed_in (file + 1) files [] → records ≡ []
        go [] [] tail on e = e
        go others (bs ∷ files) tail on e = absurd (past (inl (omega (arith, goes_last format held last end file (at + length (batches_text (text format) place others)) (place + length (all_of others)) (bs ∷ files) tail on))))
        go (b ∷ bs) [] tail on e = absurd (past (inr (on.3, omega (arith, on.4, batches_length place b bs))))

    -- behind a head with records a batch is entered
    pub enter_batch : format.most < 2 ^ 32 → (at place count : ℕ) (records : List (Placed R)) → 0 < count → count < 2 ^ 32 → IsHeadAt at count bytes → Remains format held last end file bytes at 0 place records → (file < last) ⊎ ((file ≡ last) × (at < end)) → Remains format held last end file bytes (at + 16) count place records
    enter_batch most_fits at place count records some fits is_head is before = let o = others_at at place records is in go o.others o.files o.tail o.parts o.goes_on o.each o.records_are
      where
        go : (others : List (List R)) (files : List (List (List R))) (tail : List ℕ) → drop at bytes ≡ batches_text (text format) place others ++ tail → GoesOn format held last end file (at + length (batches_text (text format) place others)) (place + length (all_of others)) files tail → AllByRecursion (IsBatchOf format) others → records ≡ in_file file (all_of others) ++ placed_in (file + 1) files []
            → Remains format held last end file bytes (at + 16) count place records
        go [] [] tail parts on v e = absurd (⊎_elim (λ lt. omega (arith, lt, on.3)) (λ here. omega (arith, here.1, on.4)) before)
        go [] (bs ∷ files) tail parts on v e = absurd (let none : count ≡ 0 = same_head at count 0 fits (omega arith) is_head (head_at at 0 (on.0 ∷ on.1) (parts ∙ on.2)) in omega (arith, none, some))
        go (b ∷ bs) files tail parts on v e =
            let behind = records_text (text format) place b ++ (batches_text (text format) (place + length b) bs ++ tail) in
            let parts' = head_parts at place b bs tail parts in
            let offset : at + length (batches_text (text format) place (b ∷ bs)) ≡ at + 16 + length (records_text (text format) place b) + length (batches_text (text format) (place + length b) bs) = omega (arith, batches_length place b bs) in
            let place_is : place + length (all_of (b ∷ bs)) ≡ place + length b + length (all_of bs) = omega (arith, ap length (all_of-cons b bs), length-append b (all_of bs)) in
            record {
              here = b;
              others = bs;
              files = files;
              tail = tail;
              left_is = same_head at count (length b) fits (omega (arith, v.0.few, most_fits)) is_head (head_at at (length b) behind parts');
              parts = sym (drop-drop 16 at bytes) ∙ ap (drop 16) parts' ∙ drop_at (1 ∷ head (length b)) behind 16 refl;
              goes_on = subst (λ (j : ℕ). GoesOn format held last end file j (place + length b + length (all_of bs)) files tail) offset (subst (λ (n : ℕ). GoesOn format held last end file (at + length (batches_text (text format) place (b ∷ bs))) n files tail) place_is on);
              each = v.0.each;
              each_other = v.1;
              records_are = e ∙ ap (λ (l : List (Placed R)). l ++ placed_in (file + 1) files []) (ap (in_file file) (all_of-cons b bs) ∙ in_file-append file b (all_of bs)) ∙ append_assoc (in_file file b) (in_file file (all_of bs)) (placed_in (file + 1) files []);
            }

    -- behind a roll batch stands a further byte
    pub roll_within : format.most < 2 ^ 32 → (at place : ℕ) (records : List (Placed R)) → IsHeadAt at 0 bytes → Remains format held last end file bytes at 0 place records → (file < last) ⊎ ((file ≡ last) × (at < end)) → at + 16 < length bytes
    roll_within most_fits at place records is_head is before = let o = others_at at place records is in go o.others o.files o.tail o.parts o.goes_on o.each
      where
        go : (others : List (List R)) (files : List (List (List R))) (tail : List ℕ) → drop at bytes ≡ batches_text (text format) place others ++ tail → GoesOn format held last end file (at + length (batches_text (text format) place others)) (place + length (all_of others)) files tail → AllByRecursion (IsBatchOf format) others → at + 16 < length bytes
        go [] [] tail parts on v = absurd (⊎_elim (λ lt. omega (arith, lt, on.3)) (λ here. omega (arith, here.1, on.4)) before)
        go [] (bs ∷ files) tail parts on v = omega (arith, length-drop at bytes, ap length (parts ∙ on.2), length-append (1 ∷ head 0) (on.0 ∷ on.1))
        go (b ∷ bs) files tail parts on v = absurd (let none : 0 ≡ length b = same_head at 0 (length b) (omega arith) (omega (arith, v.0.few, most_fits)) is_head (head_at at (length b) _ (head_parts at place b bs tail parts)) in omega (arith, none, v.0.some))

    -- behind a head without records the trail goes on in the next file
    pub enter_file : format.most < 2 ^ 32 → (at place : ℕ) (records : List (Placed R)) → IsHeadAt at 0 bytes → Remains format held last end file bytes at 0 place records → (file < last) ⊎ ((file ≡ last) × (at < end)) → IsThere held (file + 1) (λ f. Remains format held last end (file + 1) f.bytes 0 0 place records)
    enter_file most_fits at place records is_head is before = let o = others_at at place records is in go o.others o.files o.tail o.parts o.goes_on o.each o.records_are
      where
        go : (others : List (List R)) (files : List (List (List R))) (tail : List ℕ) → drop at bytes ≡ batches_text (text format) place others ++ tail → GoesOn format held last end file (at + length (batches_text (text format) place others)) (place + length (all_of others)) files tail → AllByRecursion (IsBatchOf format) others → records ≡ in_file file (all_of others) ++ placed_in (file + 1) files []
            → IsThere held (file + 1) (λ f. Remains format held last end (file + 1) f.bytes 0 0 place records)
        go [] [] tail parts on v e = absurd (⊎_elim (λ lt. omega (arith, lt, on.3)) (λ here. omega (arith, here.1, on.4)) before)
        go [] (bs ∷ files) tail parts on v e =
            let next = on.4 in
            let is = next.2 in (
              next.0,
              next.1,
              record {
                here = [];
                others = bs;
                files = files;
                tail = is.0;
                left_is = refl;
                parts = is.1;
                goes_on = subst (λ (j : ℕ). GoesOn format held last end (file + 1) j (place + length (all_of {R = R} []) + length (all_of bs)) files is.0) (omega arith) is.3;
                each = tt;
                each_other = is.2;
                records_are = e;
              },
            )
        go (b ∷ bs) files tail parts on v e = absurd (let none : 0 ≡ length b = same_head at 0 (length b) (omega arith) (omega (arith, v.0.few, most_fits)) is_head (head_at at (length b) _ (head_parts at place b bs tail parts)) in omega (arith, none, v.0.some))

module _ {R : Type 0} (format : Format R) (held : Held) (last end : ℕ) where
  -- where records are left of a batch, the first of them is the next
  pub first_left : (file : ℕ) (bytes : List ℕ) (at left place : ℕ) (records : List (Placed R)) → Remains format held last end file bytes at left place records → 0 < left → (item : R) × (more : List (Placed R)) × (records ≡ (file, item) ∷ more)
  first_left file bytes at left place records is some = go is.here is.left_is is.records_are
    where
      go : (here : List R) → left ≡ length here → records ≡ in_file file here ++ (in_file file (all_of is.others) ++ placed_in (file + 1) is.files []) → (item : R) × (more : List (Placed R)) × (records ≡ (file, item) ∷ more)
      go [] left_is e = absurd (omega (arith, left_is, some))
      go (x ∷ xs) left_is e = (x, in_file file xs ++ (in_file file (all_of is.others) ++ placed_in (file + 1) is.files []), e)

  pub not_past : (file : ℕ) (bytes : List ℕ) (at left place : ℕ) (records : List (Placed R)) → Remains format held last end file bytes at left place records → file ≤ last
  not_past file bytes at left place records is = omega (arith, goes_last format held last end file (at + length (records_text (text format) place is.here) + length (batches_text (text format) (place + length is.here) is.others)) (place + length is.here + length (all_of is.others)) is.files is.tail is.goes_on)

  -- where reading begins
  pub begins_at : (least : ℕ) (self next start : Cursor) (rest : List (Placed R)) → StartsAt held least self start → Leads format held last end start rest → (IsSome (held self.file) → next ≡ self)
      → (held self.file ≡ None → self.file ≡ least → self.at ≡ 0 → self.left ≡ 0 → least < last → next ≡ record self { file = self.file + 1 }) → Leads format held last end next rest
  begins_at least self next start rest near is there away = subst (λ (c : Cursor). Leads format held last end c rest) (sym same) is
    where
      same : next ≡ start
      same = ⊎_elim (λ e. there (is_some (held self.file) is.0 (ap (λ (c : Cursor). held c.file) (sym e) ∙ is.1)) ∙ sym e)
          (λ skips. away skips.3 skips.0 skips.1 skips.2 (omega (arith, skips.0, ap (λ (c : Cursor). c.file) skips.4, not_past start.file is.0.bytes start.at start.left start.place rest is.2)) ∙ sym skips.4) near

-- what is said of what is left behind the next record, said otherwise
pub map_next : {R E : Type 0} (file : ℕ) (P S : List (Placed R) → Type 0) (Q : Type 0) (rest : List (Placed R)) → ((item : R) (more : List (Placed R)) → rest ≡ (file, item) ∷ more → Q → P more → S more)
    → (result : Result (Option R) E) → IfOk result (λ next. MatchOption next (rest ≡ []) (λ item. (more : List (Placed R)) × (rest ≡ (file, item) ∷ more) × P more)) → IfOk result (λ next. IfSome next (λ _. Q))
    → IfOk result (λ next. MatchOption next (rest ≡ []) (λ item. (more : List (Placed R)) × (rest ≡ (file, item) ∷ more) × S more))
map_next file P S Q rest f (Ok (Some item)) is holds = (is.0, is.1, f item is.0 is.1 holds is.2)
map_next file P S Q rest f (Ok None) is holds = is
map_next file P S Q rest f (Err e) is holds = tt

-- what is said of the next record, said otherwise
pub some_weaker : {A E : Type 0} {P Q : A → Type 0} (result : Result (Option A) E) → ((item : A) → P item → Q item) → IfOk result (λ next. IfSome next P) → IfOk result (λ next. IfSome next Q)
some_weaker (Ok (Some item)) f is = f item is
some_weaker (Ok None) f is = tt
some_weaker (Err e) f is = tt
