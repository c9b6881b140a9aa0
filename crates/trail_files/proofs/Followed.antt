-- What a cursor made before a write has in front of it and behind it after that.
use Rattle.std.specs.Prelude.{Some, max}
use Rattle.std.proofs.Common.{◌≡◌, ⊎_elim, inl, inr, ℕ, ◌+◌, ◌-◌, ◌<◌, ◌≤◌, ◌^◌, List, [], ◌∷◌, ◌++◌, length, sum_by, get_or, take, drop, refl, sym, ap, ◌∙◌, subst, arith, append_assoc, length-append}
use Rattle.std.specs.List.{AllByRecursion}
use Rattle.std.proofs.lemmas.List.{append-nil, take-append-drop, take_at, drop_at, length-take-le, length-drop, get_or_append_left}
use Rattle.std.proofs.lemmas.List.Concat.{flat_map-append}
use Rattle.disk_model.specs.Held.{Held, File, IsThere, Elsewhere, written, synced, created}
use Rattle.trail_files.specs.declared.cursor.Cursor.{Cursor}
use Rattle.trail_files.specs.declared.rules.Rules.{Rules}
use Rattle.trail_files.specs.declared.trail.TrailPhase.{TrailPhase}
use Rattle.trail_files.specs.declared.trail.TrailPhase.TheVariants.{Ready}
use Rattle.trail_files.specs.Cursor.{Leads}
use Rattle.trail_files.specs.Content.{Placed, in_file, placed_in}
use Rattle.trail_files.specs.Format.{Format, text}
use Rattle.trail_files.specs.Put.{Put, Left}
use Rattle.trail_files.specs.Remains.{GoesOn}
use Rattle.trail_files.specs.Text.{head, body, records_text, batches_text, IsBatchOf, all_of, records_of, place_behind}
use Rattle.trail_files.specs.Landed.{next_place, IsOfferedFile}
use Rattle.trail_files.specs.Trail.{View, Ahead, StartsAt, IsOffered, IsRolling, IsCount}
use Rattle.trail_files.proofs.Calls.{body_anywhere, body_of, count_more}
use Rattle.trail_files.proofs.Cursors.{goes_last, not_past, remains_within, same_file}
use Rattle.trail_files.proofs.Files.{length-all_of, all_of-push, records_of-cons}
use Rattle.trail_files.proofs.Images.{starts_with, batches_text-append}
use Rattle.trail_files.proofs.Placing.{in_file-append, length-in_file, length-placed_in}
use Rattle.trail_files.proofs.Steps.{length-written, torn_front, gate_parts}

each-append : {A : Type 0} (P : A → Type 0) (xs ys : List A) → AllByRecursion P xs → AllByRecursion P ys → AllByRecursion P (xs ++ ys)
each-append P [] ys all more = more
each-append P (x ∷ xs) ys all more = (all.0, each-append P xs ys all.1 more)

module _ {R : Type 0} (format : Format R) (old new : Held) (last end last' end' : ℕ) where
  -- What stands from the last gate on after a write: more batches, the first record of which has this place, and more files, up to
  -- another last gate.
  pub record Further (place : ℕ) (extra : List (Placed R)) : Type 0 where
    pub g : File
    pub there : new last ≡ Some g
    pub tail : List ℕ
    pub front : (f : File) → old last ≡ Some f → (xs behind : List ℕ) → f.bytes ≡ xs ++ behind → length xs ≡ end → g.bytes ≡ xs ++ tail
    pub more : List (List R)
    pub each : AllByRecursion (IsBatchOf format) more
    pub files : List (List (List R))
    pub behind : List ℕ
    pub parts : tail ≡ batches_text (text format) place more ++ behind
    pub goes_on : GoesOn format new last' end' last (end + length (batches_text (text format) place more)) (place + length (all_of more)) files behind
    pub extra_is : extra ≡ in_file last (all_of more) ++ placed_in (last + 1) files []

  -- what stands from an offset of a file on after it
  record Over (file at place : ℕ) (pre : List ℕ) (records : List (Placed R)) : Type 0 where
    pub here : List (List R)
    pub files : List (List (List R))
    pub g : File
    pub there : new file ≡ Some g
    pub tail : List ℕ
    pub parts : g.bytes ≡ pre ++ (batches_text (text format) place here ++ tail)
    pub each : AllByRecursion (IsBatchOf format) here
    pub goes_on : GoesOn format new last' end' file (at + length (batches_text (text format) place here)) (place + length (all_of here)) files tail
    pub all : in_file file (all_of here) ++ placed_in (file + 1) files [] ≡ records

  module _ (extra : List (Placed R)) (stop : ℕ) (ex : Further stop extra) (from : ℕ) (below : (q : ℕ) → from ≤ q → q < last → new q ≡ old q) where
    over : (files : List (List (List R))) (file at place : ℕ) (pre : List ℕ) (here : List (List R)) (tail : List ℕ) (f : File) → from ≤ file → length pre ≡ at → old file ≡ Some f → f.bytes ≡ pre ++ (batches_text (text format) place here ++ tail) → AllByRecursion (IsBatchOf format) here
        → stop ≡ place + length (all_of here) + length (records_of files) → GoesOn format old last end file (at + length (batches_text (text format) place here)) (place + length (all_of here)) files tail → Over file at place pre ((in_file file (all_of here) ++ placed_in (file + 1) files []) ++ extra)
    over [] file at place pre here tail f le long there parts each stop_is on =
        let same : file ≡ last = on.3 in
        let opened = batches_text (text format) place here in
        let added = batches_text (text format) stop ex.more in
        let new_parts : ex.g.bytes ≡ (pre ++ opened) ++ ex.tail = ex.front f (ap old (sym same) ∙ there) (pre ++ opened) tail (parts ∙ sym (append_assoc pre opened tail)) (omega (arith, length-append pre opened, long, on.4)) in
        let p : place + sum_by length here ≡ stop = omega (arith, stop_is, length-all_of here) in
        let both : batches_text (text format) place (here ++ ex.more) ≡ opened ++ added = batches_text-append (text format) place here ex.more ∙ ap (λ n. opened ++ batches_text (text format) n ex.more) p in
        let all_both : all_of (here ++ ex.more) ≡ all_of here ++ all_of ex.more = flat_map-append (λ b. b) here ex.more in
        let at_is : end + length added ≡ at + length (batches_text (text format) place (here ++ ex.more)) = omega (arith, ap length both, length-append opened added, on.4) in
        let place_is : stop + length (all_of ex.more) ≡ place + length (all_of (here ++ ex.more)) = omega (arith, stop_is, ap length all_both, length-append (all_of here) (all_of ex.more)) in
        record {
          here = here ++ ex.more;
          files = ex.files;
          g = ex.g;
          there = ap new same ∙ ex.there;
          tail = ex.behind;
          parts = new_parts ∙ append_assoc pre opened ex.tail ∙ ap (λ (l : List ℕ). pre ++ l) (ap (λ (l : List ℕ). opened ++ l) ex.parts ∙ sym (append_assoc opened added ex.behind) ∙ ap (λ (l : List ℕ). l ++ ex.behind) (sym both));
          each = each-append (IsBatchOf format) here ex.more each ex.each;
          goes_on = subst (λ (n : ℕ). GoesOn format new last' end' n (at + length (batches_text (text format) place (here ++ ex.more))) (place + length (all_of (here ++ ex.more))) ex.files ex.behind) (sym same)
              (subst (λ (n : ℕ). GoesOn format new last' end' last n (place + length (all_of (here ++ ex.more))) ex.files ex.behind) at_is (subst (λ (n : ℕ). GoesOn format new last' end' last (end + length added) n ex.files ex.behind) place_is ex.goes_on));
          all = ap (λ (l : List (Placed R)). l ++ placed_in (file + 1) ex.files []) (ap (in_file file) all_both ∙ in_file-append file (all_of here) (all_of ex.more)) ∙ append_assoc (in_file file (all_of here)) (in_file file (all_of ex.more)) (placed_in (file + 1) ex.files [])
              ∙ ap (λ (l : List (Placed R)). in_file file (all_of here) ++ l) ((λ i. in_file (same i) (all_of ex.more) ++ placed_in (same i + 1) ex.files []) ∙ sym ex.extra_is) ∙ ap (λ (l : List (Placed R)). l ++ extra) (sym (append-nil (in_file file (all_of here))));
        }
    over (bs ∷ files) file at place pre here tail f le long there parts each stop_is on =
        let next = on.4 in
        let is = next.2 in
        let lt : file < last = omega (arith, goes_last format old last end file (at + length (batches_text (text format) place here)) (place + length (all_of here)) (bs ∷ files) tail on) in
        let sum = ap length (records_of-cons bs files) ∙ length-append (all_of bs) (records_of files) in
        let zero : (n : ℕ) → n ≡ 0 + n = λ n. omega arith in
        let texts = batches_text (text format) (place + length (all_of here)) bs in
        let rec = over files (file + 1) 0 (place + length (all_of here)) [] bs is.0 next.0 (omega (arith, le)) refl next.1 is.1 is.2 (omega (arith, stop_is, sum))
        (subst (λ (n : ℕ). GoesOn format old last end (file + 1) n (place + length (all_of here) + length (all_of bs)) files is.0) (zero (length texts)) is.3) in
        record {
          here = here;
          files = rec.here ∷ rec.files;
          g = f;
          there = below file le lt ∙ there;
          tail = tail;
          parts = parts;
          each = each;
          goes_on = (
            on.0,
            on.1,
            on.2,
            on.3,
            (
              rec.g,
              rec.there,
              (
                rec.tail,
                rec.parts,
                rec.each,
                subst (λ (n : ℕ). GoesOn format new last' end' (file + 1) n (place + length (all_of here) + length (all_of rec.here)) rec.files rec.tail) (sym (zero (length (batches_text (text format) (place + length (all_of here)) rec.here)))) rec.goes_on,
              ),
            ),
          );
          all = ap (λ (l : List (Placed R)). in_file file (all_of here) ++ l) rec.all ∙ sym (append_assoc (in_file file (all_of here)) (placed_in (file + 1) (bs ∷ files) []) extra);
        }

  -- the records in front of a cursor, and those that the write has added
  pub leads_over : (c : Cursor) (rest extra : List (Placed R)) → Leads format old last end c rest → Further (c.place + length rest) extra → ((q : ℕ) → c.file ≤ q → q < last → new q ≡ old q) → Leads format new last' end' c (rest ++ extra)
  leads_over c rest extra lead ex below =
      let f = lead.0 in
      let is = lead.2 in
      let texts = records_text (text format) c.place is.here in
      let front = take c.at f.bytes in
      let at_long : length front ≡ c.at = length-take-le c.at f.bytes (omega (arith, remains_within format old last end c.file f.bytes c.at c.left c.place rest is)) in
      let inner = batches_text (text format) (c.place + length is.here) is.others ++ is.tail in
      let parts : f.bytes ≡ (front ++ texts) ++ inner = sym (take-append-drop c.at f.bytes) ∙ ap (λ (l : List ℕ). front ++ l) is.parts ∙ sym (append_assoc front texts inner) in
      let long : length (front ++ texts) ≡ c.at + length texts = omega (arith, length-append front texts, at_long) in
      let later = placed_in (c.file + 1) is.files [] in
      let mine = in_file c.file (all_of is.others) in
      let sum : length rest ≡ length is.here + (length (all_of is.others) + length (records_of is.files)) =
      omega (arith, ap length is.records_are, length-append (in_file c.file is.here) (mine ++ later), length-append mine later, length-in_file c.file is.here, length-in_file c.file (all_of is.others), length-placed_in (c.file + 1) is.files) in
      let o = over extra (c.place + length rest) ex c.file below is.files c.file (c.at + length texts) (c.place + length is.here) (front ++ texts) is.others is.tail f (omega arith) long lead.1 parts is.each_other
      (omega (arith, sum)) is.goes_on in
      let inner' = batches_text (text format) (c.place + length is.here) o.here ++ o.tail in (
        o.g,
        o.there,
        record {
          here = is.here;
          others = o.here;
          files = o.files;
          tail = o.tail;
          left_is = is.left_is;
          parts = ap (drop c.at) (o.parts ∙ append_assoc front texts inner') ∙ drop_at front (texts ++ inner') c.at at_long;
          goes_on = o.goes_on;
          each = is.each;
          each_other = o.each;
          records_are = ap (λ (l : List (Placed R)). l ++ extra) is.records_are ∙ append_assoc (in_file c.file is.here) (mine ++ later) extra ∙ ap (λ (l : List (Placed R)). in_file c.file is.here ++ l) (sym o.all);
        },
      )

-- a write further on, torn or whole, leaves the front of a file
written_front : (at : ℕ) (bytes : List ℕ) (file : File) (front rest : List ℕ) → file.bytes ≡ front ++ rest → length front ≤ at → at ≤ length file.bytes → (written at bytes file).bytes ≡ front ++ drop (length front) (written at bytes file).bytes
written_front at bytes file front rest parts le within =
    let long = length-written at bytes file within in
    let before = take at file.bytes in
    let before_long : length before ≡ at = length-take-le at file.bytes within in
    let back = drop (at + length bytes) file.bytes in
    starts_with front (written at bytes file).bytes (omega (arith, long.1, le)) (λ i lt.
    get_or_append_left (before ++ bytes) back 0 i (omega (arith, length-append before bytes, before_long, lt, le)) ∙ get_or_append_left before bytes 0 i (omega (arith, before_long, lt, le))
    ∙ sym (get_or_append_left before (drop at file.bytes) 0 i (omega (arith, before_long, lt, le))) ∙ ap (λ (l : List ℕ). get_or l i 0) (take-append-drop at file.bytes ∙ parts) ∙ get_or_append_left front rest 0 i lt)

-- what a call of the device leaves of the last file, up to its gate
pub record KeepsFront (old new : Held) (last end : ℕ) : Type 0 where
  pub g : File
  pub there : new last ≡ Some g
  pub long : end < length g.bytes
  pub front : (f : File) → old last ≡ Some f → (xs behind : List ℕ) → f.bytes ≡ xs ++ behind → length xs ≡ end → g.bytes ≡ xs ++ drop end g.bytes

pub kept_left : (old new : Held) (last end at : ℕ) (bytes : List ℕ) → end ≤ at → IsThere old last (λ f. (end < length f.bytes) × (at ≤ length f.bytes)) → Left last old new at bytes → KeepsFront old new last end
kept_left old new last end at bytes le is left =
    let f = is.0 in
    let now = left f is.1 in
    record {
      g = now.0;
      there = now.1;
      long = ⊎_elim (λ t. omega (arith, t.no_shorter, is.2.0)) (λ e. omega (arith, ap (λ (x : File). length x.bytes) e, length-written at bytes f is.2.1, is.2.0)) now.2;
      front = λ f' there xs behind parts xs_long.
          let same = same_file old last f f' is.1 there in
          let parts' : f.bytes ≡ xs ++ behind = ap (λ (x : File). x.bytes) same ∙ parts in
          ⊎_elim (λ t. torn_front at (length bytes) f now.0 xs behind parts' (omega (arith, xs_long, le)) t ∙ ap (λ n. xs ++ drop n now.0.bytes) xs_long)
          (λ e. ap (λ (x : File). x.bytes) e ∙ written_front at bytes f xs behind parts' (omega (arith, xs_long, le)) is.2.1 ∙ ap (λ n. xs ++ drop n (written at bytes f).bytes) xs_long ∙ ap (λ (x : File). xs ++ drop end x.bytes) (sym e)) now.2;
    }

pub kept_put : (old new : Held) (last end at : ℕ) (bytes : List ℕ) → end ≤ at → IsThere old last (λ f. (end < length f.bytes) × (at ≤ length f.bytes)) → Put last old new at bytes → KeepsFront old new last end
kept_put old new last end at bytes le is put =
    let f = is.0 in
    record {
      g = synced (written at bytes f);
      there = put f is.1;
      long = omega (arith, length-written at bytes f is.2.1, is.2.0);
      front = λ f' there xs behind parts xs_long.
          let parts' : f.bytes ≡ xs ++ behind = ap (λ (x : File). x.bytes) (same_file old last f f' is.1 there) ∙ parts in
          written_front at bytes f xs behind parts' (omega (arith, xs_long, le)) is.2.1 ∙ ap (λ n. xs ++ drop n (written at bytes f).bytes) xs_long;
    }

pub kept_same : (old new : Held) (last end : ℕ) → IsThere old last (λ f. end < length f.bytes) → new last ≡ old last → KeepsFront old new last end
kept_same old new last end is same = record {
  g = is.0;
  there = same ∙ is.1;
  long = is.2;
  front = λ f there xs behind parts xs_long.
      let parts' : is.0.bytes ≡ xs ++ behind = ap (λ (x : File). x.bytes) (same_file old last is.0 f is.1 there) ∙ parts in
      parts' ∙ ap (λ (l : List ℕ). xs ++ l) (sym (ap (drop end) parts' ∙ drop_at xs behind end xs_long));
}

first_byte : (end : ℕ) (bytes : List ℕ) → end < length bytes → (gate : ℕ) × (rest : List ℕ) × (drop end bytes ≡ gate ∷ rest)
first_byte end bytes lt = go (drop end bytes) (length-drop end bytes)
  where
    go : (xs : List ℕ) → length xs ≡ length bytes - end → (gate : ℕ) × (rest : List ℕ) × (xs ≡ gate ∷ rest)
    go [] e = absurd (omega (arith, e, lt))
    go (x ∷ xs) e = (x, xs, refl)

module _ {R : Type 0} (format : Format R) (old new : Held) (last end : ℕ) where
  -- nothing is added
  further_none : (place : ℕ) → KeepsFront old new last end → Further format old new last end last end place []
  further_none place kept =
      let byte = first_byte end kept.g.bytes kept.long in
      record {
        g = kept.g;
        there = kept.there;
        tail = drop end kept.g.bytes;
        front = kept.front;
        more = [];
        each = tt;
        files = [];
        behind = drop end kept.g.bytes;
        parts = refl;
        goes_on = (byte.0, byte.1, byte.2, refl, omega arith);
        extra_is = refl;
      }

  -- the records in front of a cursor, where a write has left the text up to the last gate
  pub leads_kept : (c : Cursor) (rest : List (Placed R)) → KeepsFront old new last end → ((q : ℕ) → c.file ≤ q → q < last → new q ≡ old q) → Leads format old last end c rest → Leads format new last end c rest
  leads_kept c rest kept below is = subst (λ (l : List (Placed R)). Leads format new last end c l) (append-nil rest) (leads_over format old new last end last end c rest [] is (further_none (c.place + length rest) kept) below)

  -- the cursor begins where it began
  pub starts_kept : (least : ℕ) (c from : Cursor) (rest : List (Placed R)) → ((q : ℕ) → q < last → new q ≡ old q) → Leads format old last end from rest → StartsAt old least c from → StartsAt new least c from
  starts_kept least c from rest below is starts =
      let past = not_past format old last end from.file is.0.bytes from.at from.left from.place rest is.2 in
      ⊎_elim inl (λ skips. inr (skips.0, skips.1, skips.2, below c.file (omega (arith, past, ap (λ (x : Cursor). x.file) skips.4)) ∙ skips.3, skips.4)) starts

module _ {D R : Type 0} (held : D → Held) (format : Rules → Format R) (t : View D) (new : D) (phase : TrailPhase) (size count : ℕ) where
  -- a cursor over a write behind the last gate, or one of that gate that has failed
  pub ahead_kept : (c : Cursor) (rest : List (Placed R)) → KeepsFront (held t.device) (held new) t.file t.gate → ((q : ℕ) → q < t.file → held new q ≡ held t.device q) → Ahead held format t c rest → Ahead held format (record t { device = new; phase = phase; size = size; count = count }) c rest
  ahead_kept c rest kept below is = record {
    from = is.from;
    from_is = starts_kept (format t.rules) (held t.device) (held new) t.file t.gate t.least c is.from rest below is.leads is.from_is;
    leads = leads_kept (format t.rules) (held t.device) (held new) t.file t.gate is.from rest kept (λ q le lt. below q lt) is.leads;
    count = is.count;
  }

module _ {R : Type 0} (format : Format R) (old new : Held) (last end p : ℕ) (landed : List (List R)) (batch : List R) (f : File) (there : old last ≡ Some f) (has : IsOfferedFile (text format) p landed batch f) (end_is : end ≡ length (batches_text (text format) p landed)) (put : Put last old new end (1 ∷ [])) where
  opened_tail : List ℕ
  opened_tail = (1 ∷ body (text format) (next_place p landed) batch) ++ (has.next ∷ has.rest)

  -- where the gate was opened
  opened_front : (f' : File) → old last ≡ Some f' → (xs behind : List ℕ) → f'.bytes ≡ xs ++ behind → length xs ≡ end → (synced (written end (1 ∷ []) f)).bytes ≡ xs ++ opened_tail
  unfolding opened_tail
  opened_front f' there' xs behind parts xs_long =
      let opened = batches_text (text format) p landed in
      let inner = body (text format) (next_place p landed) batch in
      let was : f.bytes ≡ xs ++ behind = ap (λ (x : File). x.bytes) (same_file old last f f' there there') ∙ parts in
      let is : f.bytes ≡ opened ++ ((has.gate ∷ inner) ++ (has.next ∷ has.rest)) = has.parts ∙ append_assoc opened (has.gate ∷ inner) (has.next ∷ has.rest) in
      let same : xs ≡ opened = sym (take_at xs behind end xs_long) ∙ ap (take end) (sym was ∙ is) ∙ take_at opened ((has.gate ∷ inner) ++ (has.next ∷ has.rest)) end (sym end_is) in
      ap (λ n. (written n (1 ∷ []) f).bytes) end_is ∙ gate_parts (text format) p landed batch f has ∙ append_assoc opened (1 ∷ inner) (has.next ∷ has.rest) ∙ ap (λ (l : List ℕ). l ++ opened_tail) (sym same)

  -- the offered batch is added
  pub further_batch : (place end' : ℕ) → body (text format) place batch ≡ body (text format) (next_place p landed) batch → IsBatchOf format batch → end' ≡ end + (length (body (text format) (next_place p landed) batch) + 1) → Further format old new last end last end' place (in_file last batch)
  unfolding opened_tail
  further_batch place end' same is_batch end'_is =
      let inner = body (text format) (next_place p landed) batch in
      let texts : batches_text (text format) place (batch ∷ []) ≡ 1 ∷ inner = append-nil (1 ∷ body (text format) place batch) ∙ ap (λ (l : List ℕ). 1 ∷ l) same in
      record {
        g = synced (written end (1 ∷ []) f);
        there = put f there;
        tail = opened_tail;
        front = opened_front;
        more = batch ∷ [];
        each = (is_batch, tt);
        files = [];
        behind = has.next ∷ has.rest;
        parts = ap (λ (l : List ℕ). l ++ (has.next ∷ has.rest)) (sym texts);
        goes_on = (has.next, has.rest, refl, refl, omega (arith, ap length texts, end'_is));
        extra_is = ap (in_file last) (sym (all_of-push [] batch)) ∙ sym (append-nil (in_file last (all_of (batch ∷ []))));
      }

module _ {R : Type 0} (format : Format R) (old new : Held) (last end p : ℕ) (landed : List (List R)) (f : File) (there : old last ≡ Some f) (has : IsOfferedFile (text format) p landed [] f) (end_is : end ≡ length (batches_text (text format) p landed)) (put : Put last old new end (1 ∷ [])) where
  -- a file is added
  pub further_roll : (place : ℕ) → last + 1 < 2 ^ 32 → new (last + 1) ≡ Some created → Further format old new last end (last + 1) 0 place []
  unfolding body opened_tail
  further_roll place more next = record {
    g = synced (written end (1 ∷ []) f);
    there = put f there;
    tail = opened_tail format old new last end p landed [] f there has end_is put;
    front = opened_front format old new last end p landed [] f there has end_is put;
    more = [];
    each = tt;
    files = [] ∷ [];
    behind = opened_tail format old new last end p landed [] f there has end_is put;
    parts = refl;
    goes_on = (has.next, has.rest, ap (λ (l : List ℕ). l ++ (has.next ∷ has.rest)) (append-nil (1 ∷ head 0)), more, (created, next, (0 ∷ [], refl, tt, (0, [], refl, refl, refl))));
    extra_is = refl;
  }

module _ {D R : Type 0} (held : D → Held) (format : Rules → Format R) (t : View D) (new : D) (c : Cursor) (rest : List (Placed R)) (is : Ahead held format t c rest) where
  place_from : is.from.place ≡ c.place
  place_from = ⊎_elim (λ e. ap (λ (x : Cursor). x.place) e) (λ skips. ap (λ (x : Cursor). x.place) skips.4) is.from_is

  -- a cursor over a gate that lands a batch
  pub ahead_gate : (files : List (List (List R))) (batches : List (List R)) (batch : List R) → IsOffered held (format t.rules) t files batches batch → Elsewhere t.file (held t.device) (held new) → Put t.file (held t.device) (held new) t.gate (1 ∷ [])
      → Ahead held format (record t { device = new; phase = Ready; gate = t.gate + t.size; places = t.places + t.count; size = 0; count = 0 }) c (rest ++ in_file t.file batch)
  ahead_gate files batches batch o others put =
      let counts = o.front.counts in
      let f = format t.rules in
      let place = is.from.place + length rest in
      let place_is : place ≡ c.place + length rest = omega (arith, place_from) in
      let first : body (text f) place batch ≡ body (text f) (t.places + 1) batch = ⊎_elim (λ e. ap (λ n. body (text f) n batch) (omega (arith, place_is, e))) (λ free. body_anywhere f free.0 place (t.places + 1) batch) is.count in
      let same = first ∙ body_of f t.least t.file t.gate t.places files batches batch counts.next in
      let further = further_batch f (held t.device) (held new) t.file t.gate (place_behind files) batches batch o.file.0 o.file.1 o.file.2 counts.offset put place (t.gate + t.size) same o.is_batch (omega (arith, o.size)) in
      let below : (q : ℕ) → q < t.file → held new q ≡ held t.device q = λ q lt. others q (λ e. omega (arith, e, lt)) in
      let more = count_more f (t.places + 1) t.count (c.place + length rest) (c.place + length (rest ++ in_file t.file batch)) (omega (arith, length-append rest (in_file t.file batch), length-in_file t.file batch, o.count)) is.count in
      record {
        from = is.from;
        from_is = starts_kept f (held t.device) (held new) t.file t.gate t.least c is.from rest below is.leads is.from_is;
        leads = leads_over f (held t.device) (held new) t.file t.gate t.file (t.gate + t.size) is.from rest (in_file t.file batch) is.leads further (λ q le lt. below q lt);
        count = subst (λ n. IsCount f n (c.place + length (rest ++ in_file t.file batch))) (omega arith) more;
      }

  -- a cursor over a roll
  pub ahead_roll : (files : List (List (List R))) (batches : List (List R)) → IsRolling held (format t.rules) t files batches → Elsewhere t.file (held t.device) (held new) → Put t.file (held t.device) (held new) t.gate (1 ∷ [])
      → Ahead held format (record t { device = new; phase = Ready; file = t.file + 1; gate = 0; size = 0; count = 0 }) c rest
  ahead_roll files batches r others put =
      let f = format t.rules in
      let further = further_roll f (held t.device) (held new) t.file t.gate (place_behind files) batches r.file.0 r.file.1 r.file.2 r.front.counts.offset put (is.from.place + length rest) r.more (others (t.file + 1) (λ e. omega (arith, e)) ∙ r.next) in
      let below : (q : ℕ) → q < t.file → held new q ≡ held t.device q = λ q lt. others q (λ e. omega (arith, e, lt)) in
      record {
        from = is.from;
        from_is = starts_kept f (held t.device) (held new) t.file t.gate t.least c is.from rest below is.leads is.from_is;
        leads = subst (λ (l : List (Placed R)). Leads f (held new) (t.file + 1) 0 is.from l) (append-nil rest) (leads_over f (held t.device) (held new) t.file t.gate (t.file + 1) 0 is.from rest [] is.leads further (λ q le lt. below q lt));
        count = is.count;
      }

  -- the last file reaches past the last gate
  last_there : IsThere (held t.device) t.file (λ f. t.gate < length f.bytes)
  last_there =
      let lead = is.leads in
      let r = lead.2 in
      let f = format t.rules in
      let texts = records_text (text f) is.from.place r.here in
      let opened = batches_text (text f) (is.from.place + length r.here) r.others in
      go r.files is.from.file (is.from.at + length texts + length opened) (is.from.place + length r.here + length (all_of r.others)) lead.0 lead.1 r.tail
      (omega (arith, length-drop is.from.at lead.0.bytes, ap length r.parts, length-append texts (opened ++ r.tail), length-append opened r.tail, remains_within f (held t.device) t.file t.gate is.from.file lead.0.bytes is.from.at is.from.left is.from.place rest r)) r.goes_on
    where
      go : (files : List (List (List R))) (file at place : ℕ) (g : File) → held t.device file ≡ Some g → (tail : List ℕ) → length g.bytes ≡ at + length tail → GoesOn (format t.rules) (held t.device) t.file t.gate file at place files tail → IsThere (held t.device) t.file (λ f. t.gate < length f.bytes)
      go [] file at place g there tail long on = (g, ap (held t.device) (sym on.3) ∙ there, omega (arith, long, on.4, ap length on.2))
      go (bs ∷ files) file at place g there tail long on =
          let next = on.4 in
          let texts = batches_text (text (format t.rules)) place bs in
          go files (file + 1) (length texts) (place + length (all_of bs)) next.0 next.1 next.2.0 (ap length next.2.1 ∙ length-append texts next.2.0) next.2.3

  -- a cursor whose file a removal leaves
  pub ahead_removed : (least file : ℕ) → t.least ≤ least → least ≤ max t.least file → file ≤ c.file → ((n : ℕ) → file ≤ n → held new n ≡ held t.device n) → Ahead held format (record t { device = new; least = least }) c rest
  ahead_removed least file rises within low kept =
      let f = format t.rules in
      let lead = is.leads in
      let r = lead.2 in
      let from = is.from in
      let above : c.file ≤ from.file = ⊎_elim (λ e. omega (arith, ap (λ (x : Cursor). x.file) e)) (λ skips. omega (arith, ap (λ (x : Cursor). x.file) skips.4)) is.from_is in
      let past = not_past f (held t.device) t.file t.gate from.file lead.0.bytes from.at from.left from.place rest r in
      record {
        from = from;
        from_is = ⊎_elim inl (λ skips. inr (omega (arith, skips.0, rises, within, low), skips.1, skips.2, kept c.file low ∙ skips.3, skips.4)) is.from_is;
        leads = leads_kept f (held t.device) (held new) t.file t.gate from rest (kept_same (held t.device) (held new) t.file t.gate last_there (kept t.file (omega (arith, low, above, past)))) (λ q le lt. kept q (omega (arith, low, above, le))) lead;
        count = is.count;
      }
