-- What the calls of the device leave of a trail.
use Rattle.std.specs.Prelude.{Bool, Option, Some, IsSome, IsTrue}
use Rattle.std.proofs.Common.{◌≡◌, ◌≢◌, ◌<◌, ◌≤◌, ⊎_elim, inl, inr, ℕ, ◌+◌, ◌^◌, ◌++◌, ◌∷◌, [], List, length, arith, ap, sym, refl, ◌∙◌, subst, length-append, ◌⊎◌}
use Rattle.std.proofs.lemmas.Bool.{cases_lt}
use Rattle.disk_model.specs.Held.{Held, File, IsThere, IsLeast, Elsewhere, synced, written, Tears, created}
use Rattle.trail_files.specs.declared.rules.Rules.{Rules}
use Rattle.trail_files.specs.declared.trail.TrailPhase.TheVariants.{Ready, Loaded, Offered, RollOffered}
use Rattle.trail_files.specs.Put.{Put, Left}
use Rattle.trail_files.specs.Format.{Format, text, IgnoresPlace}
use Rattle.trail_files.specs.Text.{head, body, records_text, batches_text, all_of, records_of, place_behind}
use Rattle.trail_files.specs.Landed.{IsSettled, IsRolledFile, IsLandedFile, IsOfferedFile, IsLoadedFile, next_place}
use Rattle.trail_files.specs.Trail.{View, HasFiles, IsReady, IsOffered, IsRolling, IsCount, IsWritable}
use Rattle.trail_files.proofs.Files.{length-all_of, all_of-push, records_of-push, files_map, files_push}
use Rattle.trail_files.proofs.Images.{batches_text-push, each-push}
use Rattle.trail_files.proofs.Steps.{length-written, torn_behind, written_behind, loaded_behind, torn_gate, written_gate, landed_gate}

pub is_some : {A : Type 0} (o : Option A) (x : A) → o ≡ Some x → IsSome o
is_some o x e = rw e refl

-- the least file stays the least one, where the files below the present one are as they were and that one is there
pub least_kept : (old new : Held) (least file : ℕ) → least ≤ file → ((q : ℕ) → q < file → new q ≡ old q) → IsSome (new file) → IsLeast old (Some least) → IsLeast new (Some least)
least_kept old new least file le below there is =
    let here : IsSome (new least) = elim (cases_lt least file) [
      | inl lt ↦ subst (λ (o : Option File). IsSome o) (sym (below least lt)) is.0
      | inr ge ↦ let same : file ≡ least = omega (arith, le, ge) in subst (λ (n : ℕ). IsSome (new n)) same there
    ] in
    (here, λ q lt. below q (omega (arith, lt, le)) ∙ is.1 q lt)

pub settled_put : (file : ℕ) (old new : Held) (at : ℕ) (bytes : List ℕ) → Put file old new at bytes → (f : File) → old file ≡ Some f → IsThere new file IsSettled
settled_put file old new at bytes put f there = (synced (written at bytes f), put f there, record { safe = λ i lt. refl; synced = refl })

pub not_ready : Ready ≢ RollOffered
not_ready e = cc

pub not_loaded : Loaded ≢ RollOffered
not_loaded e = cc

pub not_offered : Offered ≢ RollOffered
not_offered e = cc

pub settled_created : IsSettled created
settled_created = record { safe = λ i lt. refl; synced = refl }

module _ {R : Type 0} (format : Format R) where
  pub records_anywhere : IgnoresPlace format → (place other : ℕ) (xs : List R) → records_text (text format) place xs ≡ records_text (text format) other xs
  records_anywhere free place other [] = refl
  records_anywhere free place other (x ∷ xs) = (λ i. free x place other i ++ records_anywhere free (place + 1) (other + 1) xs i)

  -- where no record's bytes tell its place, a batch is written the same at each
  pub body_anywhere : IgnoresPlace format → (place other : ℕ) (xs : List R) → body (text format) place xs ≡ body (text format) other xs
  unfolding body
  body_anywhere free place other xs = ap (λ (l : List ℕ). head (length xs) ++ l) (records_anywhere free place other xs)

  pub batches_anywhere : IgnoresPlace format → (place other : ℕ) (batches : List (List R)) → batches_text (text format) place batches ≡ batches_text (text format) other batches
  batches_anywhere free place other [] = refl
  batches_anywhere free place other (b ∷ bs) = (λ i. (1 ∷ body_anywhere free place other b i) ++ batches_anywhere free (place + length b) (other + length b) bs i)

  -- more records have landed
  pub count_more : (places k n m : ℕ) → m ≡ n + k → IsCount format places n → IsCount format (places + k) m
  count_more places k n m e count = ⊎_elim (λ same. inl (omega (arith, same, e))) (λ free. inr (free.0, omega (arith, free.1, e))) count

module _ {R : Type 0} (format : Format R) (least file gate places : ℕ) (files : List (List (List R))) (landed : List (List R)) where
  pub front_kept : (old new : Held) → ((q : ℕ) → q < file → new q ≡ old q) → IsSome (new file) → HasFiles format old least file gate places files landed → HasFiles format new least file gate places files landed
  front_kept old new below there is =
      let file_is = is.counts.file_is in
      record {
        start = is.start;
        start_is = is.start_is;
        counts = is.counts;
        numbers = is.numbers;
        is_least = least_kept old new is.start file (omega (arith, file_is)) below there is.is_least;
        begins = is.begins;
        rolled = files_map (IsRolledFile format) (IsRolledFile format) old new is.start 1 files (λ n p bs f le lt at holds. (f, below n (omega (arith, lt, file_is)) ∙ at, holds)) is.rolled;
      }

  pub front_elsewhere : (old new : Held) (f : File) → Elsewhere file old new → new file ≡ Some f → HasFiles format old least file gate places files landed → HasFiles format new least file gate places files landed
  front_elsewhere old new f others there is = front_kept old new (λ q lt. others q (λ e. omega (arith, e, lt))) (is_some (new file) f there) is

  -- what is written at the place that the trail counts is what stands behind the landed records
  pub body_of : (batch : List R) → IsCount format places (length (records_of files) + length (all_of landed)) → body (text format) (places + 1) batch ≡ body (text format) (next_place (place_behind files) landed) batch
  body_of batch count = ⊎_elim (λ e. ap (λ n. body (text format) n batch) (omega (arith, e, length-all_of landed))) (λ free. body_anywhere format free.0 (places + 1) (next_place (place_behind files) landed) batch) count

module _ {D R : Type 0} (held : D → Held) (format : Format R) where
  pub load_err : (t : View D) (new : D) (bytes : List ℕ) (files : List (List (List R))) (landed : List (List R)) → IsReady held format t files landed → Elsewhere t.file (held t.device) (held new) → Left t.file (held t.device) (held new) (t.gate + 1) bytes → IsReady held format (record t { device = new }) files landed
  load_err t new bytes files landed is others left =
      let place = place_behind files in
      let at : t.gate + 1 ≡ length (batches_text (text format) place landed) + 1 = ap (λ n. n + 1) is.front.counts.offset in
      let now = left is.file.0 is.file.1 in
      record {
        front = front_elsewhere format t.least t.file t.gate t.places files landed (held t.device) (held new) now.0 others now.1 is.front;
        file = (
          now.0,
          now.1,
          ⊎_elim (torn_behind (text format) place landed _ _ is.file.0 now.0 at is.file.2)
              (λ e. subst (IsLandedFile (text format) place landed) (sym e) (written_behind (text format) place landed _ bytes is.file.0 at is.file.2)) now.2,
        );
      }

  -- a batch, or none, that was written behind the gate and synced
  pub staged : (t : View D) (new : D) (batch : List R) (files : List (List (List R))) (landed : List (List R)) → IsReady held format t files landed → Elsewhere t.file (held t.device) (held new)
      → Put t.file (held t.device) (held new) (t.gate + 1) (body (text format) (t.places + 1) batch ++ 0 ∷ [])
      → IsThere (held new) t.file (IsLoadedFile (text format) (place_behind files) landed batch) × HasFiles format (held new) t.least t.file t.gate t.places files landed
  staged t new batch files landed is others put =
      let place = place_behind files in
      let at : t.gate + 1 ≡ length (batches_text (text format) place landed) + 1 = ap (λ n. n + 1) is.front.counts.offset in
      let next = body_of format t.least t.file t.gate t.places files landed batch is.front.counts.next in
      let now = put is.file.0 is.file.1 ∙ ap (λ b. Some (synced (written (t.gate + 1) (b ++ 0 ∷ []) is.file.0))) next in
      let has = loaded_behind (text format) place landed _ batch is.file.0 at is.file.2 in
      ((_, now, has), front_elsewhere format t.least t.file t.gate t.places files landed (held t.device) (held new) _ others now is.front)

  -- what a failed write of the gate leaves of an offered batch
  torn_offer : (t : View D) (files : List (List (List R))) (landed : List (List R)) (batch : List R) → t.gate ≡ length (batches_text (text format) (place_behind files) landed) → (old new : File) → IsOfferedFile (text format) (place_behind files) landed batch old
      → Tears t.gate 1 old new ⊎ (new ≡ written t.gate (1 ∷ []) old) → IsOfferedFile (text format) (place_behind files) landed batch new
  torn_offer t files landed batch offset old new has outcome =
      let place = place_behind files in
      ⊎_elim (λ tears. torn_gate (text format) place landed batch old new has (subst (λ n. Tears n 1 old new) offset tears))
      (λ e. subst (IsOfferedFile (text format) place landed batch) (sym (e ∙ ap (λ n. written n (1 ∷ []) old) offset)) (written_gate (text format) place landed batch old has)) outcome

  pub gate_err : (t : View D) (new : D) (files : List (List (List R))) (landed : List (List R)) (batch : List R) → IsOffered held format t files landed batch → Elsewhere t.file (held t.device) (held new) → Left t.file (held t.device) (held new) t.gate (1 ∷ []) → IsOffered held format (record t { device = new; phase = Offered }) files landed batch
  gate_err t new files landed batch is others left =
      let now = left is.file.0 is.file.1 in
      record {
        front = front_elsewhere format t.least t.file t.gate t.places files landed (held t.device) (held new) now.0 others now.1 is.front;
        size = is.size;
        count = is.count;
        is_batch = is.is_batch;
        file = (now.0, now.1, torn_offer t files landed batch is.front.counts.offset is.file.0 now.0 is.file.2 now.2);
      }

  pub gate_ok : (t : View D) (new : D) (files : List (List (List R))) (landed : List (List R)) (batch : List R) → IsOffered held format t files landed batch → Elsewhere t.file (held t.device) (held new) → Put t.file (held t.device) (held new) t.gate (1 ∷ [])
      → IsReady held format (record t { device = new; phase = Ready; gate = t.gate + t.size; places = t.places + t.count; size = 0; count = 0 }) files (landed ++ batch ∷ [])
  gate_ok t new files landed batch is others put =
      let place = place_behind files in
      let counts = is.front.counts in
      let now = put is.file.0 is.file.1 ∙ ap (λ n. Some (synced (written n (1 ∷ []) is.file.0))) counts.offset in
      let front = front_elsewhere format t.least t.file t.gate t.places files landed (held t.device) (held new) _ others now is.front in
      record {
        front = record {
          start = front.start;
          start_is = front.start_is;
          counts = record {
            each = each-push format landed batch counts.each is.is_batch;
            file_is = front.counts.file_is;
            offset = omega (arith, counts.offset, is.size, ap length (batches_text-push (text format) place landed batch), length-append (batches_text (text format) place landed) (1 ∷ body (text format) (next_place place landed) batch));
            next = count_more format t.places t.count _ _ (omega (arith, is.count, ap length (all_of-push landed batch), length-append (all_of landed) batch)) counts.next;
          };
          numbers = front.numbers;
          is_least = front.is_least;
          begins = front.begins;
          rolled = front.rolled;
        };
        file = (_, now, landed_gate (text format) place landed batch is.file.0 is.file.2);
      }

  -- the next file comes or goes
  pub ready_elsewhere : (t : View D) (new : D) (files : List (List (List R))) (landed : List (List R)) → IsReady held format t files landed → Elsewhere (t.file + 1) (held t.device) (held new) → IsReady held format (record t { device = new }) files landed
  ready_elsewhere t new files landed is others =
      let there = others t.file (λ e. omega (arith, e)) ∙ is.file.1 in
      record {
        front = front_kept format t.least t.file t.gate t.places files landed (held t.device) (held new) (λ q lt. others q (λ e. omega (arith, e, lt))) (is_some (held new t.file) is.file.0 there) is.front;
        file = (is.file.0, there, is.file.2);
      }

  pub roll_staged : (t : View D) (new : D) (size : ℕ) (files : List (List (List R))) (landed : List (List R)) → IsReady held format t files landed → t.file + 1 < 2 ^ 32 → held t.device (t.file + 1) ≡ Some created → Elsewhere t.file (held t.device) (held new)
      → Put t.file (held t.device) (held new) (t.gate + 1) (body (text format) (t.places + 1) [] ++ 0 ∷ []) → IsRolling held format (record t { device = new; phase = RollOffered; size = size; count = 0 }) files landed
  roll_staged t new size files landed is more next others put =
      let both = staged t new [] files landed is others put in
      record { front = both.1; phase = refl; file = (both.0.0, both.0.1, both.0.2.offered); more = more; next = others (t.file + 1) (λ e. omega (arith, e)) ∙ next }

  pub roll_err : (t : View D) (new : D) (files : List (List (List R))) (landed : List (List R)) → IsRolling held format t files landed → Elsewhere t.file (held t.device) (held new) → Left t.file (held t.device) (held new) t.gate (1 ∷ []) → IsRolling held format (record t { device = new }) files landed
  roll_err t new files landed is others left =
      let now = left is.file.0 is.file.1 in
      record {
        front = front_elsewhere format t.least t.file t.gate t.places files landed (held t.device) (held new) now.0 others now.1 is.front;
        phase = is.phase;
        file = (now.0, now.1, torn_offer t files landed [] is.front.counts.offset is.file.0 now.0 is.file.2 now.2);
        more = is.more;
        next = others (t.file + 1) (λ e. omega (arith, e)) ∙ is.next;
      }

  pub roll_ok : (t : View D) (new : D) (files : List (List (List R))) (landed : List (List R)) → IsRolling held format t files landed → Elsewhere t.file (held t.device) (held new) → Put t.file (held t.device) (held new) t.gate (1 ∷ [])
      → IsReady held format (record t { device = new; phase = Ready; file = t.file + 1; gate = 0; size = 0; count = 0 }) (files ++ landed ∷ []) []
  roll_ok t new files landed is others put =
      let place = place_behind files in
      let counts = is.front.counts in
      let now = put is.file.0 is.file.1 ∙ ap (λ n. Some (synced (written n (1 ∷ []) is.file.0))) counts.offset in
      let front = front_elsewhere format t.least t.file t.gate t.places files landed (held t.device) (held new) _ others now is.front in
      let has = landed_gate (text format) place landed [] is.file.0 is.file.2 in
      let next = others (t.file + 1) (λ e. omega (arith, e)) ∙ is.next in
      record {
        front = record {
          start = front.start;
          start_is = front.start_is;
          counts = record {
            each = tt;
            file_is = omega (arith, front.counts.file_is, length-append files (landed ∷ []));
            offset = refl;
            next = subst (λ n. IsCount format t.places n) (omega (arith, ap length (records_of-push files landed), length-append (records_of files) (all_of landed))) counts.next;
          };
          numbers = is.more;
          is_least = front.is_least;
          begins = front.begins;
          rolled = files_push (IsRolledFile format) (held new) front.start 1 files landed t.file place front.counts.file_is refl front.rolled
              (_, now, record { text = record { each = counts.each; gate = has.gate; rest = has.rest; parts = has.parts }; settled = record { safe = λ i lt. refl; synced = refl } });
        };
        file = (created, next, record { gate = 0; rest = []; closed = λ e. omega (arith, e); parts = refl; pinned = λ i le. record { synced = omega (arith, le); safe = refl } });
      }

-- a call that failed leaves a file no shorter
pub no_shorter : (file : ℕ) (old new : Held) (at : ℕ) (bytes : List ℕ) (end : ℕ) → Left file old new at bytes → IsThere old file (λ f. (end < length f.bytes) × (at ≤ length f.bytes)) → IsThere new file (λ f. end < length f.bytes)
no_shorter file old new at bytes end left is =
    let now = left is.0 is.1 in
    (now.0, now.1, ⊎_elim (λ t. omega (arith, t.no_shorter, is.2.0)) (λ e. omega (arith, ap (λ f. length f.bytes) e, length-written at bytes is.0 is.2.1, is.2.0)) now.2)

-- one that did not leaves it long enough
pub long_enough : (file : ℕ) (old new : Held) (at : ℕ) (bytes : List ℕ) (end : ℕ) → Put file old new at bytes → IsThere old file (λ f. at ≤ length f.bytes) → end < at + length bytes → IsThere new file (λ f. end < length f.bytes)
long_enough file old new at bytes end put is lt = (_, put is.0 is.1, omega (arith, length-written at bytes is.0 is.2))

pub still_long : (file : ℕ) (old new : Held) (at : ℕ) (bytes : List ℕ) (end : ℕ) → Put file old new at bytes → IsThere old file (λ f. (end < length f.bytes) × (at ≤ length f.bytes)) → IsThere new file (λ f. end < length f.bytes)
still_long file old new at bytes end put is = (_, put is.0 is.1, omega (arith, length-written at bytes is.0 is.2.1, is.2.0))

reaches : (bytes front behind rest : List ℕ) (gate next : ℕ) → bytes ≡ (front ++ (gate ∷ behind)) ++ (next ∷ rest) → length front + length behind + 1 < length bytes
reaches bytes front behind rest gate next e = omega (arith, ap length e, length-append front (gate ∷ behind), length-append (front ++ (gate ∷ behind)) (next ∷ rest))

-- what a trail holds may be written on
module _ {D R : Type 0} (tells : D → Bool) (held : D → Held) (format : Rules → Format R) (t : View D) where
  pub ready_writable : t.phase ≡ Ready → (IsTrue (tells t.device) → (files : List (List (List R))) × (batches : List (List R)) × IsReady held (format t.rules) t files batches) → IsWritable tells held t
  ready_writable ready landed = record {
    gate = λ told.
        let is = landed told in
        let file = is.2.file in
        (file.0, file.1, omega (arith, is.2.front.counts.offset, ap length file.2.parts, length-append (batches_text (text (format t.rules)) (place_behind is.0) is.1) (file.2.gate ∷ file.2.rest)));
    batch = λ told not_ready_so not_rolling. absurd (not_ready_so ready);
    next = λ told rolling. absurd (not_ready (sym ready ∙ rolling));
  }

  pub rolling_writable : t.phase ≡ RollOffered → (IsTrue (tells t.device) → (files : List (List (List R))) × (batches : List (List R)) × IsRolling held (format t.rules) t files batches) → IsWritable tells held t
  rolling_writable rolls landed = record {
    gate = λ told.
        let is = landed told in
        let file = is.2.file in
        let front = batches_text (text (format t.rules)) (place_behind is.0) is.1 in
        let behind = body (text (format t.rules)) (next_place (place_behind is.0) is.1) [] in
        (file.0, file.1, omega (arith, is.2.front.counts.offset, reaches file.0.bytes front behind file.2.rest file.2.gate file.2.next file.2.parts));
    batch = λ told not_ready_so not_rolling. absurd (not_rolling rolls);
    next = λ told rolling. (created, (landed told).2.next, omega arith);
  }

  pub offered_writable : (batch : List R) → t.phase ≢ RollOffered → (IsTrue (tells t.device) → (files : List (List (List R))) × (batches : List (List R)) × IsOffered held (format t.rules) t files batches batch) → IsWritable tells held t
  offered_writable batch not_rolling offered =
      let long : IsTrue (tells t.device) → IsThere (held t.device) t.file (λ f. t.gate + t.size < length f.bytes) = λ told.
      let is = offered told in
      let file = is.2.file in
      let text = text (format t.rules) in
      let place = place_behind is.0 in
      let behind = body text (next_place place is.1) batch in (
        file.0,
        file.1,
        omega (arith, is.2.front.counts.offset, is.2.size, reaches file.0.bytes (batches_text text place is.1) behind file.2.rest file.2.gate file.2.next file.2.parts),
      ) in
      record {
        gate = λ told. let is = long told in (is.0, is.1, omega (arith, is.2));
        batch = λ told not_ready_so not_rolling_so. long told;
        next = λ told rolling. absurd (not_rolling rolling);
      }
