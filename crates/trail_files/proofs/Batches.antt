-- Going over the batches of a trail in steps.
use Rattle.std.specs.Prelude.{Some, None, if◌then◌else◌}
use Rattle.std.proofs.Common.{◌≡◌, ◌≢◌, ◌⊎◌, inl, inr, ℕ, ◌+◌, ◌-◌, ◌*◌, ◌<◌, ◌≤◌, ◌^◌, true, false, List, [], ◌∷◌, ◌++◌, length, get_or, take, drop, refl, sym, ap, subst, ◌∙◌, arith, append_assoc, length-append}
use Rattle.std.proofs.lemmas.Bool.{ne_eqb}
use Rattle.std.proofs.lemmas.List.{append-nil, take_at, length-take-le, length-drop, take-append-drop, drop_more, drop_all, drop-drop}
use Rattle.std.proofs.Math.Seq.{take-add}
use Rattle.std.specs.Prelude.{Option}
use Rattle.disk_model.specs.Held.{Held, File, IsThere, IsLeast}
use Rattle.trail_files.specs.declared.damage.Damage.{Damage}
use Rattle.trail_files.specs.declared.damage.DamageKind.{DamageKind}
use Rattle.trail_files.specs.declared.damage.DamageKind.TheVariants.{Missing, Short, NoStart}
use Rattle.trail_files.specs.Format.{Format, text}
use Rattle.trail_files.specs.Text.{head, body, records_text, batches_text, all_of, records_of, place_behind, IsRolledText}
use Rattle.trail_files.specs.Landed.{next_place}
use Rattle.trail_files.specs.Damaged.{batch_damage, gate_damage, IsGateDamage, IsFine, IsDamagedAt}
use Rattle.trail_files.specs.Scanned.{IsHeadAt, IsBatchAt, IsRollAt, IsScanned, IsCounted, IsDamageAmong, IsBatchDamage}
use Rattle.trail_files.proofs.Files.{length-all_of, all_of-push, records_of-push, files_push}
use Rattle.trail_files.proofs.Images.{batches_text-push, each-push}
use Rattle.trail_files.proofs.Heads.{count_of_head}
use Rattle.trail_files.proofs.Scans.{at_file}
use Rattle.trail_files.proofs.Texts.{length-records_text}
use Rattle.trail_files.proofs.Unique.{rolled_parts}

module _ {R O : Type 0} (format : Format R) (stands : O → List R → Type 0) (held : Held) (least : ℕ) where
  pub scanned_start : (order : O) (len : ℕ) → IsLeast held (Some least) → format.may_begin least ≡ true → least < 2 ^ 32 → format.in_order [] ≡ true → stands order [] → IsThere held least (λ f. len ≡ length f.bytes) → IsScanned format stands order held least least len 0 0
  scanned_start order len is_least begins small ordered stood there = record {
    files = [];
    batches = [];
    fine = record { is_least = is_least; begins = begins; numbers = omega (arith, small); rolled = tt; each = tt; in_order = ordered };
    file_is = omega arith;
    here = (there.0, there.1, (there.2, omega arith, refl));
    more = inr refl;
    next = refl;
    kept = stood;
  }

  module _ (order : O) (file len gate places : ℕ) (is : IsScanned format stands order held least file len gate places) (f : File) (there : held file ≡ Some f) where
    here_of : (len ≡ length f.bytes) × (gate ≤ length f.bytes) × (take gate f.bytes ≡ batches_text (text format) (place_behind is.files) is.batches)
    here_of = at_file (held file) f there is.here

    pub offset_of : gate ≡ length (batches_text (text format) (place_behind is.files) is.batches)
    offset_of = sym (length-take-le gate f.bytes here_of.1) ∙ ap length here_of.2

    place_of : places + 1 ≡ next_place (place_behind is.files) is.batches
    place_of = omega (arith, is.next, length-append (records_of is.files) (all_of is.batches), length-all_of is.batches)

    split_of : f.bytes ≡ batches_text (text format) (place_behind is.files) is.batches ++ drop gate f.bytes
    split_of = sym (take-append-drop gate f.bytes) ∙ ap (λ (l : List ℕ). l ++ drop gate f.bytes) here_of.2

    pub scanned_more : (new : O) (gate' places' : ℕ) (batch : List R) → IsBatchAt format (records_of is.files ++ all_of is.batches) (places + 1) gate f.bytes batch → gate' ≡ gate + length (body (text format) (places + 1) batch) + 1 → gate' < len → places' ≡ places + length batch
        → stands new ((records_of is.files ++ all_of is.batches) ++ batch) → IsScanned format stands new held least file len gate' places'
    scanned_more new gate' places' batch at gate_is within places_is stood =
        let inner = body (text format) (places + 1) batch in
        let piece : take (length inner + 1) (drop gate f.bytes) ≡ 1 ∷ inner = ap (take (length inner + 1)) at.parts ∙ take_at (1 ∷ inner) at.behind (length inner + 1) (omega arith) in
        let size : gate' ≡ gate + (length inner + 1) = omega (arith, gate_is) in
        let same : (records_of is.files ++ all_of is.batches) ++ batch ≡ records_of is.files ++ all_of (is.batches ++ batch ∷ []) = append_assoc (records_of is.files) (all_of is.batches) batch ∙ ap (λ (l : List R). records_of is.files ++ l) (sym (all_of-push is.batches batch)) in
        let fine = is.fine in
        record {
          files = is.files;
          batches = is.batches ++ batch ∷ [];
          fine = record { is_least = fine.is_least; begins = fine.begins; numbers = fine.numbers; rolled = fine.rolled; each = each-push format is.batches batch fine.each at.is_batch; in_order = ap format.in_order (sym same) ∙ at.in_order };
          file_is = is.file_is;
          here = (
            f,
            there,
            (
              here_of.0,
              omega (arith, within, here_of.0),
              ap (λ n. take n f.bytes) size ∙ take-add gate (length inner + 1) f.bytes ∙ ap (λ (l : List ℕ). l ++ take (length inner + 1) (drop gate f.bytes)) here_of.2
                  ∙ ap (λ (l : List ℕ). batches_text (text format) (place_behind is.files) is.batches ++ l) (piece ∙ ap (λ n. 1 ∷ body (text format) n batch) place_of)
                  ∙ sym (batches_text-push (text format) (place_behind is.files) is.batches batch),
            ),
          );
          more = inl within;
          next = omega (arith, places_is, is.next, ap length same, length-append (records_of is.files ++ all_of is.batches) batch);
          kept = subst (stands new) same stood;
        }

    rolled_text : IsRollAt gate f.bytes → IsRolledText format (place_behind is.files) is.batches f.bytes
    rolled_text at = go at.behind at.parts at.more
      where
        go : (behind : List ℕ) → drop gate f.bytes ≡ (1 ∷ head 0) ++ behind → 0 < length behind → IsRolledText format (place_behind is.files) is.batches f.bytes
        go [] parts more = absurd (omega (arith, more))
        go (g ∷ rest) parts more = record {
          each = is.fine.each;
          gate = g;
          rest = rest;
          parts = split_of ∙ ap (λ (l : List ℕ). batches_text (text format) (place_behind is.files) is.batches ++ l) parts ∙ sym (rolled_parts format (place_behind is.files) is.batches (g ∷ rest));
        }

    all_rolled : records_of is.files ++ all_of is.batches ≡ records_of (is.files ++ is.batches ∷ []) ++ all_of []
    all_rolled = sym (records_of-push is.files is.batches) ∙ sym (append-nil (records_of (is.files ++ is.batches ∷ [])))

    count_files : least + length (is.files ++ is.batches ∷ []) ≡ file + 1
    count_files = omega (arith, is.file_is, length-append is.files (is.batches ∷ []))

    fine_rolled : IsRollAt gate f.bytes → file + 1 < 2 ^ 32 → IsFine format held least (is.files ++ is.batches ∷ []) []
    fine_rolled at lt = record {
      is_least = is.fine.is_least;
      begins = is.fine.begins;
      numbers = omega (arith, lt, count_files);
      rolled = files_push (λ place batches f. IsRolledText format place batches f.bytes) held least 1 is.files is.batches file (place_behind is.files) is.file_is refl is.fine.rolled (f, there, rolled_text at);
      each = tt;
      in_order = ap format.in_order (sym all_rolled) ∙ is.fine.in_order;
    }

    -- the trail goes on in the next file
    pub scanned_roll : (len' : ℕ) → IsRollAt gate f.bytes → file + 1 < 2 ^ 32 → IsThere held (file + 1) (λ g. len' ≡ length g.bytes) → IsScanned format stands order held least (file + 1) len' 0 places
    scanned_roll len' at lt next = record {
      files = is.files ++ is.batches ∷ [];
      batches = [];
      fine = fine_rolled at lt;
      file_is = sym count_files;
      here = (next.0, next.1, (next.2, omega arith, refl));
      more = inr refl;
      next = is.next ∙ ap length all_rolled;
      kept = subst (stands order) all_rolled is.kept;
    }

    -- or it is missing there
    pub scanned_missing : (damage : List R → List ℕ → Option (ℕ × DamageKind)) (size : ℕ) (d : Damage) → IsRollAt gate f.bytes → file + 1 < 2 ^ 32 → held (file + 1) ≡ None → d ≡ record { file = file + 1; at = 0; kind = Missing } → IsDamagedAt format damage size held d
    scanned_missing damage size d at lt none d_is = inr (
      least,
      is.files ++ is.batches ∷ [],
      [],
      fine_rolled at lt,
      ap (λ (x : Damage). x.file) d_is ∙ sym count_files,
      inl (ap (λ (x : Damage). held x.file) d_is ∙ none, refl, ap (λ (x : Damage). x.at) d_is, ap (λ (x : Damage). x.kind) d_is),
    )

    more_of : (0 < length (drop gate f.bytes)) ⊎ (is.batches ≡ [])
    more_of = elim is.more [ inl lt ↦ inl (omega (arith, lt, here_of.0, length-drop gate f.bytes)) | inr zero_is ↦ inr (none is.batches (omega (arith, sym offset_of, zero_is))) ]
      where
        none : (batches : List (List R)) → length (batches_text (text format) (place_behind is.files) batches) ≡ 0 → batches ≡ []
        none [] e = refl
        none (b ∷ bs) e = absurd (omega (arith, e))

    -- a rule that is broken at the gate is the trail's damage
    pub scanned_damage : (damage : List R → List ℕ → Option (ℕ × DamageKind)) (size : ℕ) (d : Damage) (at : ℕ) → d.file ≡ file → d.at ≡ gate + at → IsGateDamage format damage size file (records_of is.files ++ all_of is.batches) (drop gate f.bytes) at d.kind → IsDamagedAt format damage size held d
    scanned_damage damage size d at file_is at_is broken = inr (
      least,
      is.files,
      is.batches,
      is.fine,
      file_is ∙ is.file_is,
      inr (
        f,
        ap held file_is ∙ there,
        (drop gate f.bytes, at, split_of, more_of, at_is ∙ ap (λ n. n + at) offset_of, subst (λ (n : ℕ). IsGateDamage format damage size n (records_of is.files ++ all_of is.batches) (drop gate f.bytes) at d.kind) (sym file_is) broken),
      ),
    )

    pub at_gate : gate < len → drop gate f.bytes ≡ get_or f.bytes gate 0 ∷ drop (gate + 1) f.bytes
    at_gate lt = drop_more f.bytes gate 0 (omega (arith, lt, here_of.0))

    -- no gate is there
    pub scanned_short : (damage : List R → List ℕ → Option (ℕ × DamageKind)) (size : ℕ) (d : Damage) → len ≤ gate → d ≡ record { file = file; at = gate; kind = Short } → IsDamagedAt format damage size held d
    scanned_short damage size d past d_is =
        let none : drop gate f.bytes ≡ [] = drop_all gate f.bytes (omega (arith, past, here_of.0)) in
        scanned_damage damage size d 0 (ap (λ (x : Damage). x.file) d_is) (omega (arith, ap (λ (x : Damage). x.at) d_is))
        (inl (ap (gate_damage (format.may_end (records_of is.files ++ all_of is.batches)) format.most size file) none ∙ ap (λ k. Some (0, k)) (sym (ap (λ (x : Damage). x.kind) d_is))))

    -- the trail may not end there
    pub scanned_unended : (damage : List R → List ℕ → Option (ℕ × DamageKind)) (size : ℕ) (d : Damage) → gate < len → get_or f.bytes gate 0 ≢ 1 → format.may_end (records_of is.files ++ all_of is.batches) ≡ false → d ≡ record { file = file; at = gate; kind = NoStart } → IsDamagedAt format damage size held d
    scanned_unended damage size d lt shut unended d_is =
        let rest = drop (gate + 1) f.bytes in
        let g = get_or f.bytes gate 0 in
        scanned_damage damage size d 0 (ap (λ (x : Damage). x.file) d_is) (omega (arith, ap (λ (x : Damage). x.at) d_is))
        (inl ((λ i. gate_damage (unended i) format.most size file (at_gate lt i)) ∙ ap (λ b. if b then batch_damage format.most size file (g ∷ rest) else Some (0, NoStart)) (ne_eqb g 1 shut) ∙ ap (λ k. Some (0, k)) (sym (ap (λ (x : Damage). x.kind) d_is))))

    -- the batch behind the gate is wrong
    pub scanned_batch : (damage : List R → List ℕ → Option (ℕ × DamageKind)) (size : ℕ) (d : Damage) → gate < len → get_or f.bytes gate 0 ≡ 1 → IsBatchDamage format.most size file gate f.bytes d → IsDamagedAt format damage size held d
    scanned_batch damage size d lt opened wrong =
        let rest = drop (gate + 1) f.bytes in
        let bytes_is : drop gate f.bytes ≡ 1 ∷ rest = at_gate lt ∙ ap (λ g. g ∷ rest) opened in
        scanned_damage damage size d wrong.offset wrong.file_is wrong.at_is
        (inl (ap (gate_damage (format.may_end (records_of is.files ++ all_of is.batches)) format.most size file) bytes_is ∙ ap (batch_damage format.most size file) (sym bytes_is) ∙ wrong.told))

    -- all of the trail has been read
    pub scanned_all : gate < len → get_or f.bytes gate 0 ≢ 1 → format.may_end (records_of is.files ++ all_of is.batches) ≡ true → IsCounted format held least file gate places
    scanned_all lt shut ends = record {
      files = is.files;
      batches = is.batches;
      counts = record { each = is.fine.each; file_is = is.file_is; offset = offset_of; next = inl (is.next ∙ length-append (records_of is.files) (all_of is.batches)) };
      fine = is.fine;
      text = record {
        numbers = is.fine.numbers;
        rolled = is.fine.rolled;
        last = (f, ap held (sym is.file_is) ∙ there, record { each = is.fine.each; gate = get_or f.bytes gate 0; rest = drop (gate + 1) f.bytes; closed = shut; parts = split_of ∙ ap (λ (l : List ℕ). batches_text (text format) (place_behind is.files) is.batches ++ l) (at_gate lt) });
      };
      may_end = ends;
    }

    -- a batch without records is a roll batch
    pub roll_at : (count : ℕ) → count ≡ 0 → IsHeadAt gate count f.bytes → gate + 16 < len → IsRollAt gate f.bytes
    roll_at count none is_head within = record {
      behind = drop 16 (drop gate f.bytes);
      parts = sym (take-append-drop 16 (drop gate f.bytes)) ∙ ap (λ (l : List ℕ). l ++ drop 16 (drop gate f.bytes)) (is_head.parts ∙ ap (λ n. 1 ∷ head n) none);
      more = omega (arith, within, here_of.0, length-drop 16 (drop gate f.bytes), length-drop gate f.bytes);
    }

    -- a record of the batch behind the gate is damaged
    pub scanned_records : (damage : List R → List ℕ → Option (ℕ × DamageKind)) (size : ℕ) → ((item : R) (place : ℕ) → length (text format item place) ≡ size) → (d : Damage) (count : ℕ) → gate < len → get_or f.bytes gate 0 ≡ 1 → batch_damage format.most size file (drop gate f.bytes) ≡ None → IsHeadAt gate count f.bytes → count < 2 ^ 32 → gate + 16 + count * size < len
        → IsDamageAmong format damage size file (gate + 16) count (records_of is.files ++ all_of is.batches) (take (count * size) (drop (gate + 16) f.bytes)) d → IsDamagedAt format damage size held d
    scanned_records damage size each d count lt opened fine is_head small within among =
        let before = records_of is.files ++ all_of is.batches in
        let rest = drop (gate + 1) f.bytes in
        let bytes = drop gate f.bytes in
        let bytes_is : bytes ≡ 1 ∷ rest = at_gate lt ∙ ap (λ g. g ∷ rest) opened in
        let all = drop (gate + 16) f.bytes in
        let behind = drop (count * size) all in
        let long : length (take (count * size) all) ≡ count * size = length-take-le (count * size) all (omega (arith, within, here_of.0, length-drop (gate + 16) f.bytes)) in
        let more : count ≡ ((count - (length among.fine + 1)) + 1) + length among.fine = omega (arith, among.more) in
        let enough : size ≤ length among.rest = omega (arith, ap length among.parts, long, length-append (records_text (text format) (1 + length before) among.fine) among.rest, length-records_text (text format) size each (1 + length before) among.fine, ap (λ n. n * size) more) in
        let piece : take size (among.rest ++ behind) ≡ take size among.rest =
        ap (λ (l : List ℕ). take size (l ++ behind)) (sym (take-append-drop size among.rest)) ∙ ap (take size) (append_assoc (take size among.rest) (drop size among.rest) behind)
        ∙ take_at (take size among.rest) (drop size among.rest ++ behind) size (length-take-le size among.rest enough) in
        scanned_damage damage size d (16 + length among.fine * size + among.offset) among.file_is (omega (arith, among.at_is))
        (inr (
          ap (gate_damage (format.may_end before) format.most size file) bytes_is ∙ ap (batch_damage format.most size file) (sym bytes_is) ∙ fine,
          ap (λ (l : List ℕ). get_or l 0 0) bytes_is,
          record {
            fine = among.fine;
            rest = among.rest ++ behind;
            offset = among.offset;
            more = omega (arith, among.more, count_of_head bytes count small is_head.parts);
            parts = drop-drop 16 gate f.bytes ∙ sym (take-append-drop (count * size) all) ∙ ap (λ (l : List ℕ). l ++ behind) among.parts ∙ append_assoc (records_text (text format) (1 + length before) among.fine) among.rest behind;
            each = among.each;
            in_order = among.in_order;
            told = ap (damage (before ++ among.fine)) piece ∙ among.told;
            at_is = refl;
          },
        ))
