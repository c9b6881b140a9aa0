-- How a trail's content begins, and what it says of the trail's device.
use Rattle.std.specs.Prelude.{Bool, Some, None, IsTrue}
use Rattle.std.proofs.Common.{◌≡◌, ◌≢◌, ⊎_elim, inl, inr, ℕ, ◌≤◌, ◌++◌, ◌∷◌, List, [], true, false, ap, sym, refl, ◌∙◌, subst, arith, append_assoc}
use Rattle.std.proofs.lemmas.List.{append-nil}
use Rattle.disk_model.specs.declared.disk.Disk as disk
use Rattle.disk_model.specs.Held.{Held, File, Leaves, created}
use Rattle.trail_files.specs.declared.rules.Rules.{Rules}
use Rattle.trail_files.specs.declared.trail.TrailPhase.TheVariants as phase
use Rattle.trail_files.specs.Content.{placed_in, Placed, below_file, from_file, Content, Pending, IsAtRest, records_in, batch_of, offered_of, phase_of, landed_in, no_content}
use Rattle.trail_files.specs.Content.Pending.{Nothing, Loaded, Offered, Rolling}
use Rattle.trail_files.specs.Format.{Format, text}
use Rattle.trail_files.specs.Holds.{Holds, Stands, IsPending, MaySpell}
use Rattle.trail_files.specs.Landed.{next_place}
use Rattle.trail_files.specs.Text.{Spells, body, batches_text, all_of, records_of, place_behind}
use Rattle.trail_files.specs.declared.cursor.Cursor.{Cursor}
use Rattle.trail_files.specs.Trail.{View, HasFiles, Ahead, Rests, IsReady, IsOffered, IsWritable}
use Rattle.trail_files.proofs.Calls.{not_ready, settled_created, ready_writable, rolling_writable, offered_writable}
use Rattle.trail_files.proofs.Laws.{ready_spells, ready_image, rolling_image, offered_rests, ready_rests, rolled_now}
use Rattle.trail_files.proofs.Openings.{IsOpen, ready_none, ahead_first}
use Rattle.trail_files.proofs.Placing.{records_in-placed, placed_split, placed_within}
use Rattle.trail_files.proofs.Dropping.{front_in}
use Rattle.std.specs.List.{AllByRecursion}

module _ {D R : Type 0} (kind : disk.Ghosts D) (format : Rules → Format R) (t : View D) where
  -- a trail that was opened
  pub holds_opened : (records : List R) → t.phase ≡ phase.Ready → (IsTrue (kind.tells t.device) → IsOpen kind.held (format t.rules) t records) → (c : Content R) × IsAtRest c records × Holds kind format t c
  holds_opened records ready opened = at (kind.tells t.device) refl
    where
      at : (b : Bool) → kind.tells t.device ≡ b → (c : Content R) × IsAtRest c records × Holds kind format t c
      at true e =
          let is = opened e in
          let start = is.ready.front.start in
          let landed : records_in (placed_in start is.files is.batches) ≡ records = records_in-placed start is.files is.batches ∙ sym is.all in
          let c : Content R = record { least = t.least; file = t.file; placed = placed_in start is.files is.batches; pending = Nothing; settled = true } in (
            c,
            record { landed = landed; pending = refl; settled = refl },
            record {
              phase = ready;
              least = refl;
              file = refl;
              some = tt;
              more = λ e. absurd (not_ready (sym ready ∙ e));
              told = λ told. record {
                files = is.files;
                batches = is.batches;
                start = start;
                file_is = is.ready.front.counts.file_is;
                stands = is.ready;
                placed_is = refl;
                in_order = ap (format t.rules).in_order (append-nil _ ∙ landed) ∙ is.in_order;
                settled = λ _. is.settled;
              };
            },
          )
      at false e =
          let c : Content R = record { least = t.least; file = t.file; placed = placed_in t.file [] (records ∷ []); pending = Nothing; settled = true } in
          (c, record { landed = records_in-placed t.file [] (records ∷ []) ∙ append-nil records; pending = refl; settled = refl }, record { phase = ready; least = refl; file = refl; some = tt; more = λ e. absurd (not_ready (sym ready ∙ e)); told = λ told. let wrong : false ≡ true = sym e ∙ told in absurd cc })

  -- a new trail
  pub holds_none : t.phase ≡ phase.Ready → t.least ≡ 1 → t.file ≡ 1 → t.gate ≡ 0 → t.places ≡ 0 → (format t.rules).in_order [] ≡ true → (format t.rules).may_begin 1 ≡ true → (IsTrue (kind.tells t.device) → (kind.held t.device 1 ≡ Some created) × ((n : ℕ) → n ≢ 1 → kind.held t.device n ≡ None))
      → Holds kind format t no_content
  holds_none ready least file gate places ordered begins there = record {
    phase = ready;
    least = least;
    file = file;
    some = tt;
    more = λ e. absurd (not_ready (sym ready ∙ e));
    told = λ told.
        let is = there told in
        record { files = []; batches = []; start = 1; file_is = file; stands = ready_none kind.held format t least file gate places begins is.0 is.1; placed_is = refl; in_order = ordered; settled = λ _. (created, ap (kind.held t.device) file ∙ is.0, settled_created) };
  }

module _ {D R : Type 0} (held : D → Held) (format : Rules → Format R) (begins : (rules : Rules) (xs ys : List R) → (format rules).in_order (xs ++ ys) ≡ true → (format rules).in_order xs ≡ true) (t : View D) (c : Content R) (s : Stands held (format t.rules) t c) where
  all : landed_in c ≡ records_of s.files ++ all_of s.batches
  all = ap records_in s.placed_is ∙ records_in-placed s.start s.files s.batches

  ordered : (format t.rules).in_order (landed_in c) ≡ true
  ordered = begins t.rules (landed_in c) (batch_of c.pending) s.in_order

  -- each image spells what has landed, with the offered batch or without it
  pub stands_image : (image : Held) → Leaves (held t.device) image → (format t.rules).may_end (landed_in c) ≡ true → (format t.rules).may_end (landed_in c ++ offered_of c.pending) ≡ true → MaySpell (format t.rules) c image
  stands_image image leaves ends ends' = at c.pending refl s.stands
    where
      ordered' : (format t.rules).in_order (records_of s.files ++ all_of s.batches) ≡ true
      ordered' = ap (format t.rules).in_order (sym all) ∙ ordered

      ends0 : (format t.rules).may_end (records_of s.files ++ all_of s.batches) ≡ true
      ends0 = ap (format t.rules).may_end (sym all) ∙ ends

      landed : Rests (format t.rules) image (records_of s.files ++ all_of s.batches) → MaySpell (format t.rules) c image
      landed rests = inl (subst (Rests (format t.rules) image) (sym all) rests)

      at : (p : Pending R) → c.pending ≡ p → IsPending held (format t.rules) t s.files s.batches p → MaySpell (format t.rules) c image
      at Nothing e is = landed (ready_image held format t s.files s.batches image leaves is ordered' ends0)
      at (Loaded batch) e is = landed (ready_image held format t s.files s.batches image leaves is.0 ordered' ends0)
      at (Offered batch) e is =
          ⊎_elim landed (λ rests. inr (subst (λ p. Rests (format t.rules) image (landed_in c ++ offered_of p)) (sym e) (subst (λ l. Rests (format t.rules) image (l ++ batch)) (sym all) rests)))
          (offered_rests held format t s.files s.batches batch image leaves is ordered' ends0 (ap (λ l. (format t.rules).in_order (l ++ batch)) (sym all) ∙ subst (λ p. (format t.rules).in_order (landed_in c ++ batch_of p) ≡ true) e s.in_order)
          (ap (λ l. (format t.rules).may_end (l ++ batch)) (sym all) ∙ subst (λ p. (format t.rules).may_end (landed_in c ++ offered_of p) ≡ true) e ends'))
      at Rolling e is = landed (rolling_image held format t s.files s.batches image leaves is ordered' ends0)

  pub stands_spells : c.pending ≡ Nothing → (format t.rules).may_end (landed_in c) ≡ true → Spells (format t.rules) (held t.device) (landed_in c)
  stands_spells none ends =
      let is : IsReady held (format t.rules) t s.files s.batches = subst (IsPending held (format t.rules) t s.files s.batches) none s.stands in
      subst (Spells (format t.rules) (held t.device)) (sym all)
      (ready_spells held format t s.files s.batches is (ap (format t.rules).in_order (sym all) ∙ ordered) (ap (format t.rules).may_end (sym all) ∙ ends))

  pub stands_rests : (records : List R) → IsAtRest c records → (format t.rules).may_end records ≡ true → Rests (format t.rules) (held t.device) records
  stands_rests records rest ends =
      let is : IsReady held (format t.rules) t s.files s.batches = subst (IsPending held (format t.rules) t s.files s.batches) rest.pending s.stands in
      subst (Rests (format t.rules) (held t.device)) (sym all ∙ rest.landed)
      (ready_rests held format t s.files s.batches is (ap (format t.rules).in_order (sym all) ∙ ordered) (ap (format t.rules).may_end (sym all ∙ rest.landed) ∙ ends) (s.settled rest.settled))

module _ {D R : Type 0} (kind : disk.Ghosts D) (format : Rules → Format R) (t : View D) (c : Content R) (is : Holds kind format t c) where
  -- a trail may be written on as long as its device holds its content
  pub holds_writable : IsWritable kind.tells kind.held t
  holds_writable = at c.pending is.phase (λ told. is.told told) (λ s. s.stands)
    where
      at : (p : Pending R) → t.phase ≡ phase_of p → (IsTrue (kind.tells t.device) → Stands kind.held (format t.rules) t c) → ((s : Stands kind.held (format t.rules) t c) → IsPending kind.held (format t.rules) t s.files s.batches p) → IsWritable kind.tells kind.held t
      at Nothing e told pending = ready_writable kind.tells kind.held format t e (λ tells. let s = told tells in (s.files, s.batches, pending s))
      at (Loaded batch) e told pending = offered_writable kind.tells kind.held format t batch (λ e'. let wrong : phase.Loaded ≡ phase.RollOffered = sym e ∙ e' in cc) (λ tells. let s = told tells in (s.files, s.batches, (pending s).1))
      at (Offered batch) e told pending = offered_writable kind.tells kind.held format t batch (λ e'. let wrong : phase.Offered ≡ phase.RollOffered = sym e ∙ e' in cc) (λ tells. let s = told tells in (s.files, s.batches, pending s))
      at Rolling e told pending = rolling_writable kind.tells kind.held format t e (λ tells. let s = told tells in (s.files, s.batches, pending s))

module _ {D R : Type 0} (kind : disk.Ghosts D) (format : Rules → Format R) (t : View D) (c : Content R) (is : Holds kind format t c) where
  -- all of the content lies in front of a new cursor
  pub holds_ahead : IsTrue (kind.tells t.device) → let first : Cursor = record { file = t.least; at = 0; left = 0; place = 1 } in Ahead kind.held format t first c.placed
  holds_ahead told = subst (λ l. let first : Cursor = record { file = t.least; at = 0; left = 0; place = 1 } in Ahead kind.held format t first l) (sym s.placed_is) (at c.pending s.stands)
    where
      s : Stands kind.held (format t.rules) t c
      s = is.told told

      opened : List ℕ
      opened = batches_text (text (format t.rules)) (place_behind s.files) s.batches

      begun : HasFiles (format t.rules) (kind.held t.device) t.least t.file t.gate t.places s.files s.batches → (f : File) → kind.held t.device t.file ≡ Some f → (gate : ℕ) (rest : List ℕ) → f.bytes ≡ opened ++ gate ∷ rest
          → let first : Cursor = record { file = t.least; at = 0; left = 0; place = 1 } in Ahead kind.held format t first (placed_in s.start s.files s.batches)
      begun front f there gate rest parts =
          let same : front.start ≡ s.start = omega (arith, front.counts.file_is, s.file_is) in
          subst (λ n. let first : Cursor = record { file = t.least; at = 0; left = 0; place = 1 } in Ahead kind.held format t first (placed_in n s.files s.batches)) same
          (ahead_first kind.held format t front.start s.files s.batches front.start_is front.is_least front.counts.file_is front.numbers (rolled_now (format t.rules) (kind.held t.device) front.start s.files front.rolled)
          (f, there, record { each = front.counts.each; end_is = sym front.counts.offset; gate = gate; rest = rest; parts = parts }) front.counts.next)

      offered : (batch : List R) → IsOffered kind.held (format t.rules) t s.files s.batches batch → let first : Cursor = record { file = t.least; at = 0; left = 0; place = 1 } in Ahead kind.held format t first (placed_in s.start s.files s.batches)
      offered batch o = let f = o.file in begun o.front f.0 f.1 f.2.gate _ (f.2.parts ∙ append_assoc opened (f.2.gate ∷ body (text (format t.rules)) (next_place (place_behind s.files) s.batches) batch) (f.2.next ∷ f.2.rest))

      at : (p : Pending R) → IsPending kind.held (format t.rules) t s.files s.batches p → let first : Cursor = record { file = t.least; at = 0; left = 0; place = 1 } in Ahead kind.held format t first (placed_in s.start s.files s.batches)
      at Nothing r = begun r.front r.file.0 r.file.1 r.file.2.gate r.file.2.rest r.file.2.parts
      at (Loaded batch) r = let o = r.0 in begun o.front o.file.0 o.file.1 o.file.2.gate o.file.2.rest o.file.2.parts
      at (Offered batch) r = offered batch r
      at Rolling r = let f = r.file in begun r.front f.0 f.1 f.2.gate _ (f.2.parts ∙ append_assoc opened (f.2.gate ∷ body (text (format t.rules)) (next_place (place_behind s.files) s.batches) []) (f.2.next ∷ f.2.rest))

  -- what stands in lower files comes first
  pub holds_split : (from : ℕ) → IsTrue (kind.tells t.device) → c.placed ≡ below_file from c.placed ++ from_file from c.placed
  holds_split from told =
      let s = is.told told in
      subst (λ l. l ≡ below_file from l ++ from_file from l) (sym s.placed_is) (placed_split from s.start s.files s.batches)

  -- each record stands in a file of the trail
  pub holds_within : IsTrue (kind.tells t.device) → AllByRecursion (λ (x : Placed R). (c.least ≤ x.0) × (x.0 ≤ c.file)) c.placed
  holds_within told =
      let s = is.told told in
      let front = (front_in kind.held (format t.rules) t s.files s.batches c.pending s.stands).0 in
      let low : c.least ≤ s.start = ⊎_elim (λ e. omega (arith, is.least, front.counts.file_is, s.file_is, e)) (λ e. omega (arith, is.least, front.counts.file_is, s.file_is, e)) front.start_is in
      subst (AllByRecursion (λ (x : Placed R). (c.least ≤ x.0) × (x.0 ≤ c.file))) (sym s.placed_is) (placed_within c.least s.start c.file s.files s.batches low (sym is.file ∙ s.file_is))
