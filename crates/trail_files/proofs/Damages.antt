-- Damage at a gate: what it excludes, and that there is one at most.
use Rattle.std.specs.Prelude.{Option, Some, None, ◌==◌, ◌&&◌, not, nat_lt, if◌then◌else◌, option_map, unwrap_or}
use Rattle.std.proofs.Common.{◌≡◌, ◌≢◌, inl, inr, ℕ, ◌+◌, ◌*◌, ◌<◌, ◌≤◌, ◌^◌, Bool, true, false, List, [], ◌∷◌, ◌++◌, length, sum_by, get_or, take, drop, refl, sym, ap, subst, ◌∙◌, arith, append_assoc, length-append}
use Rattle.std.proofs.lemmas.Bool.{cases_lt, ne_eqb, lt-ltb, le-ltb, le-leb, and_from}
use Rattle.std.proofs.lemmas.List.{take_at}
use Rattle.std.proofs.lemmas.Nat.{from_be_bytes-to_be_bytes_4}
use Rattle.std.specs.List.{AllByRecursion}
use Rattle.std.specs.Option.{option_or}
use Rattle.disk_model.specs.Held.{Held, File}
use Rattle.trail_files.specs.declared.damage.Damage.{Damage}
use Rattle.trail_files.specs.declared.damage.DamageKind.{DamageKind}
use Rattle.trail_files.specs.declared.damage.DamageKind.TheVariants.{Short}
use Rattle.trail_files.specs.Format.{Format, text, AllValid}
use Rattle.trail_files.specs.Text.{head, body, records_text, batches_text, all_of, records_of, place_behind, Spells}
use Rattle.trail_files.specs.Damaged.{first_failed, count_in, is_count, head_checks, batch_damage, gate_damage, IsRecordDamage, IsGateDamage, IsFine, IsDamagedBehind, IsDamagedAt}
use Rattle.trail_files.proofs.Ends.{NoRoll, Reading, same_ends, text_reading, least_same}
use Rattle.trail_files.proofs.Files.{length-all_of}
use Rattle.trail_files.proofs.Texts.{length-records_text}
use Rattle.trail_files.proofs.Unique.{NoBatch, parts_same, records_same, records_front}

-- where each check passes, none fails
pub none_failed : (checks : List ((ℕ × DamageKind) × Bool)) → AllByRecursion (λ check. check.1 ≡ true) checks → first_failed checks ≡ None
none_failed [] fine = refl
none_failed ((at, true) ∷ checks) fine = none_failed checks fine.1
none_failed ((at, false) ∷ checks) fine = absurd cc

-- where none fails, each passes
pub each_passes : (checks : List ((ℕ × DamageKind) × Bool)) → first_failed checks ≡ None → AllByRecursion (λ check. check.1 ≡ true) checks
each_passes [] e = tt
each_passes ((at, true) ∷ checks) e = (refl, each_passes checks e)
each_passes ((at, false) ∷ checks) e = absurd cc

pub is_count_of : (most file n : ℕ) → n ≤ most → (n ≡ 0 → file < 4294967295) → is_count most file n ≡ true
is_count_of most file n le rolls = elim (cases_lt 0 n) [
  | inl lt ↦ and_from _ _ (le-leb n most le) (ap (λ b. not (b && file == 4294967295)) (ne_eqb n 0 (λ e. omega (arith, e, lt))))
  | inr none ↦
      let lt = rolls (omega arith) in
      let other : (file == 4294967295) ≡ false = ne_eqb file 4294967295 (λ e. omega (arith, e, lt)) in
      and_from _ _ (le-leb n most le) (ap (λ b. not (n == 0 && b)) other ∙ unless (n == 0))
]
  where
    unless : (b : Bool) → not (b && false) ≡ true
    unless true = refl
    unless false = refl

-- a head that is right, with room for its records and a gate
pub fine_batch : (most size file n : ℕ) (inner : List ℕ) → n ≤ most → n < 2 ^ 32 → (n ≡ 0 → file < 4294967295) → n * size < length inner → batch_damage most size file ((1 ∷ head n) ++ inner) ≡ None
fine_batch most size file n inner le small rolls room =
    let bytes = (1 ∷ head n) ++ inner in
    let count : count_in bytes ≡ n = from_be_bytes-to_be_bytes_4 n small in
    let front : take 16 bytes ≡ 1 ∷ head n = take_at (1 ∷ head n) inner 16 refl in
    let counts : is_count most file (count_in (1 ∷ head n)) ≡ true = ap (is_count most file) count ∙ is_count_of most file n le rolls in
    let checks : first_failed (head_checks most file (1 ∷ head n)) ≡ None = none_failed (head_checks most file (1 ∷ head n)) (refl, (refl, (refl, (counts, (refl, (refl, (refl, (refl, (refl, (refl, (refl, (refl, tt)))))))))))) in
    let long : nat_lt (length bytes) 16 ≡ false = le-ltb (length bytes) 16 (omega (arith, length-append (1 ∷ head n) inner)) in
    let fits : nat_lt (16 + count_in bytes * size) (length bytes) ≡ true = ap (λ k. nat_lt (16 + k * size) (length bytes)) count ∙ lt-ltb (16 + n * size) (length bytes) (omega (arith, length-append (1 ∷ head n) inner, room)) in
    ap (λ b. if b then Some (0, Short) else option_or (first_failed (head_checks most file (take 16 bytes))) (if nat_lt (16 + count_in bytes * size) (length bytes) then None else Some (0, Short))) long
    ∙ ap (λ l. option_or (first_failed (head_checks most file l)) (if nat_lt (16 + count_in bytes * size) (length bytes) then None else Some (0, Short))) front
    ∙ (λ i. option_or (checks i) (if fits i then None else Some (0, Short)))

pair_same : (a a' : ℕ) (k k' : DamageKind) → ◌≡◌ {A = Option (ℕ × DamageKind)} (Some (a, k)) (Some (a', k')) → (a ≡ a') × (k ≡ k')
pair_same a a' k k' e = (ap (λ (o : Option (ℕ × DamageKind)). unwrap_or (option_map (λ x. x.0) o) 0) e, ap (λ (o : Option (ℕ × DamageKind)). unwrap_or (option_map (λ x. x.1) o) k) e)

not_some : {X : Type 0} (o : Option X) (x : X) → o ≡ None → o ≡ Some x → ⊥
not_some o x none some = let wrong : None ≡ Some x = sym none ∙ some in cc

module _ {R : Type 0} (format : Format R) (damage : List R → List ℕ → Option (ℕ × DamageKind)) (size : ℕ) (few : format.most < 2 ^ 32) (each : (item : R) (place : ℕ) → length (text format item place) ≡ size)
    (one : (a b : R) (place : ℕ) → format.valid a ≡ true → format.valid b ≡ true → text format a place ≡ text format b place → a ≡ b)
    (begins : (xs ys : List R) → format.in_order (xs ++ ys) ≡ true → format.in_order xs ≡ true)
    (undamaged : (before : List R) (item : R) → format.valid item ≡ true → format.in_order (before ++ item ∷ []) ≡ true → damage before (text format item (1 + length before)) ≡ None) where
  -- among records that are fine none is damaged
  none_among : (before fine ys : List R) (offset : ℕ) (kind : DamageKind) (r s : List ℕ) → length fine < length ys → AllValid format fine → AllValid format ys → format.in_order (before ++ ys) ≡ true
      → records_text (text format) (1 + length before) fine ++ r ≡ records_text (text format) (1 + length before) ys ++ s → damage (before ++ fine) (take size r) ≡ Some (offset, kind) → ⊥
  none_among before fine ys offset kind r s lt vf vy ordered e told =
      let next = records_front format size few each one fine ys (1 + length before) r s lt vf vy e in
      let item = next.0 in
      let place : 1 + length before + length fine ≡ 1 + length (before ++ fine) = omega (arith, length-append before fine) in
      let piece : take size r ≡ text format item (1 + length (before ++ fine)) = ap (take size) next.3 ∙ take_at (text format item (1 + length before + length fine)) _ size (each item (1 + length before + length fine)) ∙ ap (text format item) place in
      let whole : before ++ ys ≡ ((before ++ fine) ++ item ∷ []) ++ next.1 = ap (λ (l : List R). before ++ l) next.2 ∙ regroup before fine item next.1 in
      let order = begins ((before ++ fine) ++ item ∷ []) next.1 (ap format.in_order (sym whole) ∙ ordered) in
      not_some _ (offset, kind) (ap (damage (before ++ fine)) piece ∙ undamaged (before ++ fine) item next.4 order) told
    where
      regroup : (a b : List R) (x : R) (c : List R) → a ++ (b ++ x ∷ c) ≡ ((a ++ b) ++ x ∷ []) ++ c
      regroup a b x c = simp append_assoc

  -- where a rule is broken at a gate no batch stands
  pub damage_stops : (file : ℕ) (before : List R) (place : ℕ) (rest : List ℕ) (at : ℕ) (kind : DamageKind) → place ≡ 1 + length before → IsGateDamage format damage size file before rest at kind → NoBatch format before place rest
  unfolding body
  damage_stops file before place rest at kind place_is broken batch behind is ordered more e =
      let n = length batch in
      let inner = records_text (text format) place batch ++ behind in
      let parts : rest ≡ (1 ∷ head n) ++ inner = e ∙ append_assoc (1 ∷ head n) (records_text (text format) place batch) behind in
      let room : n * size < length inner = omega (arith, length-append (records_text (text format) place batch) behind, length-records_text (text format) size each place batch, more) in
      let fine = fine_batch format.most size file n inner is.few (omega (arith, is.few, few)) (λ z. omega (arith, z, is.some)) room in
      elim broken [
        | inl told ↦ not_some _ (at, kind) (ap (gate_damage (format.may_end before) format.most size file) parts ∙ fine) told
        | inr told ↦
            let among = told.2 in
            let count : count_in rest ≡ n = ap count_in parts ∙ from_be_bytes-to_be_bytes_4 n (omega (arith, is.few, few)) in
            let text_is : drop 16 rest ≡ records_text (text format) (1 + length before) batch ++ behind = ap (drop 16) parts ∙ ap (λ p. records_text (text format) p batch ++ behind) place_is in
            none_among before among.fine batch among.offset kind among.rest behind (omega (arith, among.more, count)) among.each is.each ordered (sym among.parts ∙ text_is) among.told
      ]

  -- nor a roll batch
  pub damage_rolls : (file : ℕ) (before : List R) (rest : List ℕ) (at : ℕ) (kind : DamageKind) → IsGateDamage format damage size file before rest at kind → NoRoll file rest
  damage_rolls file before rest at kind broken gate behind lt parts =
      let fine = fine_batch format.most size file 0 (gate ∷ behind) (omega arith) (omega arith) (λ z. omega (arith, lt)) (omega arith) in
      elim broken [
        | inl told ↦ not_some _ (at, kind) (ap (gate_damage (format.may_end before) format.most size file) parts ∙ fine) told
        | inr told ↦
            let count : count_in rest ≡ 0 = ap count_in parts ∙ from_be_bytes-to_be_bytes_4 0 (omega arith) in
            omega (arith, told.2.more, count)
      ]

  -- what is broken at a gate is told once
  pub one_gate_damage : (file : ℕ) (before : List R) (rest : List ℕ) (at at' : ℕ) (kind kind' : DamageKind) → IsGateDamage format damage size file before rest at kind → IsGateDamage format damage size file before rest at' kind' → (at ≡ at') × (kind ≡ kind')
  one_gate_damage file before rest at at' kind kind' x y = elim x [
    | inl told ↦ elim y [
      | inl told' ↦ pair_same at at' kind kind' (sym told ∙ told')
      | inr told' ↦ absurd (not_some _ (at, kind) told'.0 told)
    ]
    | inr told ↦ elim y [
      | inl told' ↦ absurd (not_some _ (at', kind') told.0 told')
      | inr told' ↦ one_record_damage told.2 told'.2
    ]
  ]
    where
      one_record_damage : IsRecordDamage format damage size before rest at kind → IsRecordDamage format damage size before rest at' kind' → (at ≡ at') × (kind ≡ kind')
      one_record_damage a b =
          elim (cases_lt (length a.fine) (length b.fine)) [
            | inl lt ↦ absurd (none_among before a.fine b.fine a.offset kind a.rest b.rest lt a.each b.each b.in_order (sym a.parts ∙ b.parts) a.told)
            | inr le ↦ elim (cases_lt (length b.fine) (length a.fine)) [
              | inl lt ↦ absurd (none_among before b.fine a.fine b.offset kind' b.rest a.rest lt b.each a.each a.in_order (sym b.parts ∙ a.parts) b.told)
              | inr ge ↦
                  let both = records_same format size few each one a.fine b.fine (1 + length before) a.rest b.rest (omega (arith, le, ge)) a.each b.each (sym a.parts ∙ b.parts) in
                  let same : Some (a.offset, kind) ≡ Some (b.offset, kind') = sym a.told ∙ (λ i. damage (before ++ both.0 i) (take size (both.1 i))) ∙ b.told in
                  let both' = pair_same a.offset b.offset kind kind' same in
                  let offset = both'.0 in
                  let length_is = ap length both.0 in
                  (a.at_is ∙ (λ i. 16 + length_is i * size + offset i) ∙ sym b.at_is, both'.1)
            ]
          ]

  fine_reading : (held : Held) (d : Damage) (least : ℕ) (files : List (List (List R))) (batches : List (List R)) → IsFine format held least files batches → d.file ≡ least + length files → IsDamagedBehind format damage size held files batches d → Reading format held [] least 1 files batches
  fine_reading held d least files batches fine file_is broken = record {
    n = d.file;
    p = place_behind files;
    before = records_of files ++ all_of batches;
    n_is = file_is;
    p_is = refl;
    before_is = refl;
    in_order = fine.in_order;
    numbers = omega (arith, file_is, fine.numbers);
    rolled = fine.rolled;
    each = fine.each;
    ends = elim broken [
      | inl none ↦ inl (none.0, none.1)
      | inr there ↦
          let rest = there.2.0 in
          let place : place_behind files + sum_by length batches ≡ 1 + length (records_of files ++ all_of batches) = omega (arith, length-append (records_of files) (all_of batches), length-all_of batches) in
          inr (there.0, there.1, (rest, there.2.2, there.2.3, damage_stops d.file (records_of files ++ all_of batches) _ rest there.2.1 d.kind place there.2.5, damage_rolls d.file (records_of files ++ all_of batches) rest there.2.1 d.kind there.2.5))
    ];
  }

  -- a device that spells records has no damage
  pub spelled_undamaged : (held : Held) (records : List R) (d : Damage) → Spells format held records → IsDamagedAt format damage size held d → ⊥
  spelled_undamaged held records d is broken = elim broken [
    | inl none ↦ let wrong : true ≡ false = sym is.begins ∙ none.0 is.least is.is_least in cc
    | inr (least, files, batches, fine, file_is, behind) ↦
        let least_is : least ≡ is.least = least_same held least is.least fine.is_least is.is_least in
        let ordered = ap format.in_order (sym is.all) ∙ is.in_order in
        let reading = subst (λ (n : ℕ). Reading format held [] n 1 files batches) least_is (fine_reading held d least files batches fine file_is behind) in
        let same = same_ends format size few each one begins held [] is.least 1 files is.files batches is.batches reading (text_reading format held is.least is.files is.batches is.text ordered) in
        let last = is.text.last in
        let number : d.file ≡ is.least + length is.files = file_is ∙ (λ i. least_is i + length (same.0 i)) in
        at_end held d files batches is.files is.batches same.0 same.1 last.0 (ap held number ∙ last.1) last.2.gate last.2.rest last.2.closed last.2.parts (ap format.may_end (sym is.all) ∙ is.may_end) behind
  ]
    where
      at_end : (held : Held) (d : Damage) (files : List (List (List R))) (batches : List (List R)) (files' : List (List (List R))) (batches' : List (List R)) → files ≡ files' → batches ≡ batches' → (f : File) → held d.file ≡ Some f → (gate : ℕ) (tail : List ℕ) → gate ≢ 1
          → f.bytes ≡ batches_text (text format) (place_behind files') batches' ++ gate ∷ tail → format.may_end (records_of files' ++ all_of batches') ≡ true → IsDamagedBehind format damage size held files batches d → ⊥
      at_end held d files batches files' batches' sf sb f there gate tail shut parts ends behind = elim behind [
        | inl none ↦ let wrong : None ≡ Some f = sym none.0 ∙ there in cc
        | inr (g, g_there, (rest, at, g_parts, more, at_is, broken)) ↦
            let some : Some g ≡ Some f = sym g_there ∙ there in
            let same : g ≡ f = cc in
            let front = batches_text (text format) (place_behind files) batches in
            let front' = batches_text (text format) (place_behind files') batches' in
            let fronts : front ≡ front' = λ i. batches_text (text format) (place_behind (sf i)) (sb i) in
            let rests : rest ≡ gate ∷ tail = (parts_same front front' rest (gate ∷ tail) (ap length fronts) (sym g_parts ∙ ap (λ (x : File). x.bytes) same ∙ parts)).1 in
            let ends' : format.may_end (records_of files ++ all_of batches) ≡ true = (λ i. format.may_end (records_of (sf i) ++ all_of (sb i))) ∙ ends in
            let none : gate_damage (format.may_end (records_of files ++ all_of batches)) format.most size d.file rest ≡ None =
            (λ i. gate_damage (ends' i) format.most size d.file (rests i)) ∙ ap (λ b. if b then batch_damage format.most size d.file (gate ∷ tail) else None) (ne_eqb gate 1 shut) in
            elim broken [ inl told ↦ not_some _ (at, d.kind) none told | inr told ↦ shut (ap (λ (l : List ℕ). get_or l 0 0) (sym rests) ∙ told.1) ]
      ]

  -- a device has one damage at most
  pub one_damage : (held : Held) (d e : Damage) → IsDamagedAt format damage size held d → IsDamagedAt format damage size held e → d ≡ e
  one_damage held d e x y = elim x [
    | inl none ↦ elim y [ inl none' ↦ none.1 ∙ sym none'.1 | inr (least, files, batches, fine, file_is, rest) ↦ absurd (let wrong : true ≡ false = sym fine.begins ∙ none.0 least fine.is_least in cc) ]
    | inr (least, files, batches, fine, file_is, behind) ↦ elim y [
      | inl none' ↦ absurd (let wrong : true ≡ false = sym fine.begins ∙ none'.0 least fine.is_least in cc)
      | inr (least', files', batches', fine', file_is', behind') ↦
          let least_is : least ≡ least' = least_same held least least' fine.is_least fine'.is_least in
          let reading = subst (λ (n : ℕ). Reading format held [] n 1 files batches) least_is (fine_reading held d least files batches fine file_is behind) in
          let same = same_ends format size few each one begins held [] least' 1 files files' batches batches' reading (fine_reading held e least' files' batches' fine' file_is' behind') in
          let number : d.file ≡ e.file = file_is ∙ (λ i. least_is i + length (same.0 i)) ∙ sym file_is' in
          same_behind held d e files batches files' batches' same.0 same.1 number behind behind'
    ]
  ]
    where
      made : (d e : Damage) → d.file ≡ e.file → d.at ≡ e.at → d.kind ≡ e.kind → d ≡ e
      made d e f a k = λ i. record { file = f i; at = a i; kind = k i }

      same_behind : (held : Held) (d e : Damage) (files : List (List (List R))) (batches : List (List R)) (files' : List (List (List R))) (batches' : List (List R)) → files ≡ files' → batches ≡ batches' → d.file ≡ e.file
          → IsDamagedBehind format damage size held files batches d → IsDamagedBehind format damage size held files' batches' e → d ≡ e
      same_behind held d e files batches files' batches' sf sb number x y = elim x [
        | inl none ↦ elim y [ inl none' ↦ made d e number (none.2 ∙ sym none'.2) (none.3 ∙ sym none'.3) | inr (g, there, rest) ↦ absurd (let wrong : None ≡ Some g = sym none.0 ∙ ap held number ∙ there in cc) ]
        | inr (f, there, (rest, at, parts, more, at_is, broken)) ↦ elim y [
          | inl none' ↦ absurd (let wrong : None ≡ Some f = sym none'.0 ∙ ap held (sym number) ∙ there in cc)
          | inr (g, there', (rest', at', parts', more', at_is', broken')) ↦
              let some : Some f ≡ Some g = sym there ∙ ap held number ∙ there' in
              let same : f ≡ g = cc in
              let front = batches_text (text format) (place_behind files) batches in
              let front' = batches_text (text format) (place_behind files') batches' in
              let fronts : front ≡ front' = λ i. batches_text (text format) (place_behind (sf i)) (sb i) in
              let rests : rest ≡ rest' = (parts_same front front' rest rest' (ap length fronts) (sym parts ∙ ap (λ (x : File). x.bytes) same ∙ parts')).1 in
              let before : records_of files ++ all_of batches ≡ records_of files' ++ all_of batches' = λ i. records_of (sf i) ++ all_of (sb i) in
              let broken1 = subst (λ (n : ℕ). IsGateDamage format damage size n (records_of files ++ all_of batches) rest at d.kind) number broken in
              let broken2 = subst (λ (l : List R). IsGateDamage format damage size e.file l rest at d.kind) before broken1 in
              let broken3 = subst (λ (l : List ℕ). IsGateDamage format damage size e.file (records_of files' ++ all_of batches') l at d.kind) rests broken2 in
              let told = one_gate_damage e.file (records_of files' ++ all_of batches') rest' at at' d.kind e.kind broken3 broken' in
              made d e number (at_is ∙ (λ i. length (fronts i) + told.0 i) ∙ sym at_is') told.1
        ]
      ]
