-- What was read of a dump label's file.
use Rattle.std.proofs.Common.{◌≡◌, ℕ, ◌+◌, ◌-◌, ◌<◌, ◌≤◌, inl, inr, Bool, true, false, List, [], ◌∷◌, ◌++◌, length, get_or, take, drop, Option, Some, None, Result, Ok, Err, refl, sym, ap, subst, ◌∙◌, arith, length-drop}
use Rattle.std.specs.Prelude.{replicate, slice_index, option_map, nat_lt, ◌==◌, if◌then◌else◌, IfOk, IfErr}
use Rattle.std.proofs.lemmas.Bool.{cases_lt}
use Rattle.std.proofs.lemmas.List.{append-nil, drop_all, ext_get_or, get_or-drop, get_or-take, get_or_append_left, get_or-replicate, length-replicate, length-take, length-take-le}
use Rattle.disk_model.specs.Held.{File, Held, read_of}
use Rattle.keyed_file.specs.declared.dump_label.DumpLabel.{DumpLabel}
use Rattle.keyed_file.specs.Dump.{SpellsDumpLabel}
use Rattle.keyed_file.specs.LabelFormat.{bad_dump_label_at, dump_text}
use Rattle.keyed_file.specs.Layout.{IsSpelledAt, bytes_at, label_pair, selected_by, slot_at}
use Rattle.rollforward.specs.DumpLabels.{TellsDumpLabel, TellsDumpSlot, bad_dump_file, bad_dump_slot}
use Rattle.rollforward.specs.declared.dump_label.DumpFault.{DumpFault}
use Rattle.rollforward.specs.declared.dump_label.DumpFault.TheVariants.{Missing, Damaged, Failed}

-- a text that was cut out stands at its place
pub slot_spelled : (bytes text : List ℕ) (from at : ℕ) → length bytes ≡ 768 → from + 256 ≤ 768 → from ≡ at → take (from + 256 - from) (drop from bytes) ≡ text → IsSpelledAt bytes at text
slot_spelled bytes text from at long within place is =
    let size : from + 256 - from ≡ 256 = omega arith in
    let cut : take 256 (drop from bytes) ≡ text = ap (λ (n : ℕ). take n (drop from bytes)) (sym size) ∙ is in
    let len : length text ≡ 256 = ap length (sym cut) ∙ length-take-le 256 (drop from bytes) (omega (arith, length-drop from bytes, long, within)) in
    subst (λ (n : ℕ). IsSpelledAt bytes n text) place (ap (λ (n : ℕ). take n (drop from bytes)) len ∙ cut)

-- the slot that was decoded is the selected one
pub slot_bad : (volume : ℕ) (bytes : List ℕ) (from : ℕ) (bad : Option ℕ) → from ≡ slot_at label_pair (selected_by (slice_index bytes 1)) → bad_dump_label_at volume (take (from + 256 - from) (drop from bytes)) ≡ bad
    → bad_dump_slot volume bytes ≡ option_map (λ at. from + at) bad
slot_bad volume bytes from bad place is =
    let size : from + 256 - from ≡ 256 = omega arith in
    ap (λ (n : ℕ). option_map (λ at. n + at) (bad_dump_label_at volume (bytes_at n 256 bytes))) (sym place)
    ∙ ap (λ (n : ℕ). option_map (λ at. from + at) (bad_dump_label_at volume (take n (drop from bytes)))) (sym size) ∙ ap (option_map (λ at. from + at)) is

nil_is : (xs : List ℕ) → length xs ≡ 0 → xs ≡ []
nil_is [] e = refl
nil_is (x ∷ xs) e = absurd (omega (arith, e))

not_one : (n : ℕ) → n ≡ 0 → n ≡ 1 → ⊥
not_one n none one = omega (arith, none, one)

is_less : (a b : ℕ) → a < b → nat_lt a b ≡ true
is_less a b lt = grind (arith, lt)

is_not_less : (a b : ℕ) → b ≤ a → nat_lt a b ≡ false
is_not_less a b le = grind (arith, le)

-- nothing was read: the buffer is as it was
no_front : (front : List ℕ) (count : ℕ) (into : List ℕ) → count ≡ length front → into ≡ front ++ drop count (replicate 768 0) → length front ≡ 0 → slice_index into 0 ≡ 0
no_front front count into count_is into_is none =
    ap (λ (l : List ℕ). get_or l 0 0) (into_is ∙ ap (λ (l : List ℕ). l ++ drop count (replicate 768 0)) (nil_is front none) ∙ ap (λ (n : ℕ). drop n (replicate 768 0)) (count_is ∙ none))
    ∙ get_or-drop 0 (replicate 768 0) 0 0 ∙ get_or-replicate 768 0 0 0 (omega arith)

-- an open gate was read of the file
pub gate_read : (o : Option File) (count : ℕ) (into : List ℕ) → count ≡ length (read_of o 0 768) → into ≡ read_of o 0 768 ++ drop count (replicate 768 0) → slice_index into 0 ≡ 1 → (f : File) × (o ≡ Some f) × (slice_index f.bytes 0 ≡ 1)
gate_read None count into count_is into_is gate = absurd (not_one (slice_index into 0) (no_front [] count into count_is into_is refl) gate)
gate_read (Some f) count into count_is into_is gate = elim (cases_lt 0 (length f.bytes)) [
  | inl lt ↦ (
    f,
    refl,
    sym (ap (λ (l : List ℕ). get_or l 0 0) into_is
        ∙ get_or_append_left (take 768 (drop 0 f.bytes)) (drop count (replicate 768 0)) 0 0 (omega (arith, lt, length-take 768 (drop 0 f.bytes), length-drop 0 f.bytes))
        ∙ get_or-take 768 (drop 0 f.bytes) 0 0 (omega arith) ∙ get_or-drop 0 f.bytes 0 0) ∙ gate,
  )
  | inr le ↦ absurd (not_one (slice_index into 0) (no_front (take 768 (drop 0 f.bytes)) count into count_is into_is (omega (arith, le, length-take 768 (drop 0 f.bytes), length-drop 0 f.bytes))) gate)
]

-- a gate that was read closed, or not at all, is not open in the file
pub gate_shut : (o : Option File) (count : ℕ) (into : List ℕ) (f : File) → count ≡ length (read_of o 0 768) → into ≡ read_of o 0 768 ++ drop count (replicate 768 0) → (slice_index into 0 ≡ 1 → ⊥) → o ≡ Some f → slice_index f.bytes 0 ≡ 1 → ⊥
gate_shut o count into f count_is into_is shut is gate =
    let front : into ≡ take 768 (drop 0 f.bytes) ++ drop count (replicate 768 0) = into_is ∙ ap (λ (o : Option File). read_of o 0 768 ++ drop count (replicate 768 0)) is in
    elim (cases_lt 0 (length f.bytes)) [
      | inl lt ↦ shut (ap (λ (l : List ℕ). get_or l 0 0) front
          ∙ get_or_append_left (take 768 (drop 0 f.bytes)) (drop count (replicate 768 0)) 0 0 (omega (arith, lt, length-take 768 (drop 0 f.bytes), length-drop 0 f.bytes))
          ∙ get_or-take 768 (drop 0 f.bytes) 0 0 (omega arith) ∙ get_or-drop 0 f.bytes 0 0 ∙ gate)
      | inr le ↦ not_one (slice_index f.bytes 0) (ap (λ (l : List ℕ). get_or l 0 0) (nil_is f.bytes (omega (arith, le)))) gate
    ]

pub short_read : (o : Option File) (f : File) (count : ℕ) → o ≡ Some f → count ≡ length (read_of o 0 768) → count < 768 → count ≡ length f.bytes
short_read o f count is count_is lt =
    let read = count_is ∙ ap (λ (o : Option File). length (read_of o 0 768)) is in
    omega (arith, read, lt, length-take 768 (drop 0 f.bytes), length-drop 0 f.bytes)

pub long_read : (o : Option File) (f : File) (count : ℕ) → o ≡ Some f → count ≡ length (read_of o 0 768) → 768 ≤ count → 768 ≤ length f.bytes
long_read o f count is count_is le =
    let read = count_is ∙ ap (λ (o : Option File). length (read_of o 0 768)) is in
    omega (arith, read, le, length-take 768 (drop 0 f.bytes), length-drop 0 f.bytes)

-- the whole buffer was filled from the file
pub whole_read : (o : Option File) (f : File) (count : ℕ) (into : List ℕ) → o ≡ Some f → count ≡ length (read_of o 0 768) → into ≡ read_of o 0 768 ++ drop count (replicate 768 0) → 768 ≤ count → into ≡ bytes_at 0 768 f.bytes
whole_read o f count into is count_is into_is whole =
    let front : read_of o 0 768 ≡ bytes_at 0 768 f.bytes = ap (λ (o : Option File). read_of o 0 768) is in
    let none : drop count (replicate 768 0) ≡ [] = drop_all count (replicate 768 0) (omega (arith, length-replicate {A = ℕ} 768 0, whole)) in
    into_is ∙ ap (λ (l : List ℕ). l ++ drop count (replicate 768 0)) front ∙ ap (λ (l : List ℕ). bytes_at 0 768 f.bytes ++ l) none ∙ append-nil (bytes_at 0 768 f.bytes)

same_range : (a b : List ℕ) (at n : ℕ) → at + n ≤ length a → at + n ≤ length b → ((i : ℕ) → at ≤ i → i < at + n → get_or a i 0 ≡ get_or b i 0) → bytes_at at n a ≡ bytes_at at n b
same_range a b at n la lb same =
    let long : (c : List ℕ) → at + n ≤ length c → length (bytes_at at n c) ≡ n = λ c le. length-take-le n (drop at c) (omega (arith, length-drop at c)) in
    ext_get_or 0 (bytes_at at n a) (bytes_at at n b) (long a la ∙ sym (long b lb)) (λ i lt.
    let below : i < n = omega (arith, lt, long a la) in
    get_or-take n (drop at a) i 0 below ∙ get_or-drop at a i 0 ∙ same (at + i) (omega arith) (omega (arith, below)) ∙ sym (get_or-drop at b i 0) ∙ sym (get_or-take n (drop at b) i 0 below))

module _ (into bytes : List ℕ) (is : into ≡ bytes_at 0 768 bytes) (long : 768 ≤ length bytes) where
  front_byte : (i : ℕ) → i < 768 → get_or into i 0 ≡ get_or bytes i 0
  front_byte i lt =
      let same : 0 + i ≡ i = omega arith in
      ap (λ (l : List ℕ). get_or l i 0) is ∙ get_or-take 768 (drop 0 bytes) i 0 lt ∙ get_or-drop 0 bytes i 0 ∙ ap (λ (n : ℕ). get_or bytes n 0) same

  into_long : length into ≡ 768
  into_long = ap length is ∙ omega (arith, long, length-take 768 (drop 0 bytes), length-drop 0 bytes)

  front_range : (at n : ℕ) → at + n ≤ 768 → bytes_at at n into ≡ bytes_at at n bytes
  front_range at n le = same_range into bytes at n (omega (arith, le, into_long)) (omega (arith, le, long)) (λ i from below. front_byte i (omega (arith, below, le)))

  slot_fits : (byte : ℕ) → slot_at label_pair (selected_by byte) + 256 ≤ 768
  slot_fits byte = elim (byte == 1) as (λ (b : Bool). slot_at label_pair (if b then 1 else 0) + 256 ≤ 768) [ true ↦ omega arith | false ↦ omega arith ]

  pub read_spells : (label : DumpLabel) → IsSpelledAt into (slot_at label_pair (selected_by (slice_index into 1))) (dump_text label) → slice_index bytes 0 ≡ 1 → SpellsDumpLabel label bytes
  read_spells label spelled gate =
      let at = slot_at label_pair (selected_by (slice_index into 1)) in
      let fits : at + length (dump_text label) ≤ 768 = omega (arith, into_long, slot_fits (slice_index into 1), ap length spelled, length-take (length (dump_text label)) (drop at into), length-drop at into) in
      let shown : IsSpelledAt bytes at (dump_text label) = sym (front_range at (length (dump_text label)) fits) ∙ spelled in
      record { long = long; gate = gate; shown = subst (λ (b : ℕ). IsSpelledAt bytes (slot_at label_pair (selected_by b)) (dump_text label)) (front_byte 1 (omega arith)) shown }

  same_bad : (volume : ℕ) → bad_dump_slot volume into ≡ bad_dump_slot volume bytes
  same_bad volume =
      ap (λ (byte : ℕ). option_map (λ bad. slot_at label_pair (selected_by byte) + bad) (bad_dump_label_at volume (bytes_at (slot_at label_pair (selected_by byte)) 256 into))) (front_byte 1 (omega arith))
      ∙ ap (λ (text : List ℕ). option_map (λ bad. slot_at label_pair (selected_by (slice_index bytes 1)) + bad) (bad_dump_label_at volume text)) (front_range (slot_at label_pair (selected_by (slice_index bytes 1))) 256 (slot_fits (slice_index bytes 1)))

  whole_bad : (volume : ℕ) → bad_dump_file volume bytes ≡ bad_dump_slot volume bytes
  whole_bad volume =
      let test : nat_lt (length bytes) 768 ≡ false = is_not_less (length bytes) 768 long in
      ap (λ (c : Bool). if c then Some (length bytes) else bad_dump_slot volume bytes) test

  pub fine_file : (volume : ℕ) → bad_dump_slot volume into ≡ None → bad_dump_file volume bytes ≡ None
  fine_file volume none = whole_bad volume ∙ sym (same_bad volume) ∙ none

  pub tells_file : (volume : ℕ) (held : Held) (f : File) → held 1 ≡ Some f → f.bytes ≡ bytes → slice_index bytes 0 ≡ 1 → (e : DumpFault) → TellsDumpSlot volume into e → TellsDumpLabel volume held e
  tells_file volume held f at same gate Missing tells = absurd tells
  tells_file volume held f at same gate (Damaged d) tells =
      (tells.0, tells.1, (f, at, (ap (λ (l : List ℕ). slice_index l 0) same ∙ gate, ap (bad_dump_file volume) same ∙ whole_bad volume ∙ sym (same_bad volume) ∙ tells.2)))
  tells_file volume held f at same gate Failed tells = tt

pub short_bad : (volume : ℕ) (bytes : List ℕ) (count : ℕ) → count ≡ length bytes → count < 768 → bad_dump_file volume bytes ≡ Some count
short_bad volume bytes count is lt =
    let test : nat_lt (length bytes) 768 ≡ true = is_less (length bytes) 768 (omega (arith, is, lt)) in
    ap (λ (c : Bool). if c then Some (length bytes) else bad_dump_slot volume bytes) test ∙ ap Some (sym is)

pub if_err_weaker : {T E : Type 0} (P Q : E → Type 0) (r : Result T E) → ((e : E) → P e → Q e) → IfErr r P → IfErr r Q
if_err_weaker P Q (Ok x) weaker holds = tt
if_err_weaker P Q (Err e) weaker holds = weaker e holds

pub if_ok_four : {T E : Type 0} (P Q S U R : T → Type 0) (r : Result T E) → ((x : T) → P x → Q x → S x → U x → R x) → IfOk r P → IfOk r Q → IfOk r S → IfOk r U → IfOk r R
if_ok_four P Q S U R (Ok x) all p q s u = all x p q s u
if_ok_four P Q S U R (Err e) all p q s u = tt
