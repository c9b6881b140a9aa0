-- What was read of a dump label's file.
use Rattle.std.proofs.Common.{◌≡◌, ℕ, ◌+◌, ◌-◌, ◌*◌, ◌<◌, ◌≤◌, inl, inr, Bool, true, false, List, [], ◌∷◌, ◌++◌, length, get_or, take, drop, Option, Some, None, refl, sym, ap, subst, ◌∙◌, append-nil, arith, length-drop}
use Rattle.std.specs.Prelude.{replicate, slice_index, option_map, nat_lt, ◌==◌, if◌then◌else◌}
use Rattle.std.proofs.lemmas.Bool.{cases_lt}
use Rattle.std.proofs.lemmas.List.{drop_all, ext_get_or, get_or-drop, get_or-take, get_or_append_left, get_or-replicate, length-take, length-take-le}
use Rattle.disk_model.specs.Held.{Held, File, read_of}
use Rattle.keyed_file.specs.declared.dump_label.DumpLabel.{DumpLabel}
use Rattle.keyed_file.specs.LabelFormat.{bad_dump_label_at, dump_text}
use Rattle.keyed_file.specs.Dump.{SpellsDumpLabel}
use Rattle.keyed_file.specs.Layout.{IsSpelledAt, bytes_at, label_pair, selected_by, slot_at}
use Rattle.online_dump.specs.declared.fault.DumperFault.{DumperFault}
use Rattle.online_dump.specs.declared.fault.DumperFault.TheVariants.{Damaged, Failed, NoMemory}
use Rattle.online_dump.specs.Found.{TellsDump, TellsSlot, bad_dump_file, bad_slot}

-- bytes that agree in a range have the same bytes there
same_range : (a b : List ℕ) (at n : ℕ) → at + n ≤ length a → at + n ≤ length b → ((i : ℕ) → at ≤ i → i < at + n → get_or a i 0 ≡ get_or b i 0) → bytes_at at n a ≡ bytes_at at n b
same_range a b at n la lb same =
    let long : (c : List ℕ) → at + n ≤ length c → length (bytes_at at n c) ≡ n = λ c le. length-take-le n (drop at c) (omega (arith, length-drop at c)) in
    ext_get_or 0 (bytes_at at n a) (bytes_at at n b) (long a la ∙ sym (long b lb)) (λ i lt.
    let below : i < n = omega (arith, lt, long a la) in
    get_or-take n (drop at a) i 0 below ∙ get_or-drop at a i 0 ∙ same (at + i) (omega arith) (omega (arith, below)) ∙ sym (get_or-drop at b i 0) ∙ sym (get_or-take n (drop at b) i 0 below))

-- a whole slot was read
pub whole_read : (o : Option File) (f : File) (at size count : ℕ) (old into : List ℕ) → o ≡ Some f → length old ≡ size → count ≡ length (read_of o at (length old)) → into ≡ read_of o at (length old) ++ drop count old → size ≤ count → into ≡ bytes_at at size f.bytes
whole_read o f at size count old into is long count_is into_is whole =
    let front : read_of o at (length old) ≡ bytes_at at size f.bytes = ap (λ (o : Option File). read_of o at (length old)) is ∙ ap (λ (n : ℕ). take n (drop at f.bytes)) long in
    let none : drop count old ≡ [] = drop_all count old (omega (arith, long, whole)) in
    into_is ∙ ap (λ (l : List ℕ). l ++ drop count old) front ∙ ap (λ (l : List ℕ). bytes_at at size f.bytes ++ l) none ∙ append-nil (bytes_at at size f.bytes)

nil_is : (xs : List ℕ) → length xs ≡ 0 → xs ≡ []
nil_is [] e = refl
nil_is (x ∷ xs) e = absurd (omega (arith, e))

not_one : (n : ℕ) → n ≡ 0 → n ≡ 1 → ⊥
not_one n none one = omega (arith, none, one)

is_less : (a b : ℕ) → a < b → nat_lt a b ≡ true
is_less a b lt = grind (arith, lt)

is_not_less : (a b : ℕ) → b ≤ a → nat_lt a b ≡ false
is_not_less a b le = grind (arith, le)

-- nothing was read: the buffer is as it was
no_front : (front : List ℕ) (count : ℕ) (into : List ℕ) → count ≡ length front → into ≡ front ++ drop count (replicate 768 0) → length front ≡ 0 → slice_index into 0 ≡ 0
no_front front count into count_is into_is none =
    ap (λ (l : List ℕ). get_or l 0 0) (into_is ∙ ap (λ (l : List ℕ). l ++ drop count (replicate 768 0)) (nil_is front none) ∙ ap (λ (n : ℕ). drop n (replicate 768 0)) (count_is ∙ none))
    ∙ get_or-drop 0 (replicate 768 0) 0 0 ∙ get_or-replicate 768 0 0 0 (omega arith)

-- an open gate was read of the file
pub gate_read : (o : Option File) (count : ℕ) (into : List ℕ) → count ≡ length (read_of o 0 768) → into ≡ read_of o 0 768 ++ drop count (replicate 768 0) → slice_index into 0 ≡ 1 → (f : File) × (o ≡ Some f) × (slice_index f.bytes 0 ≡ 1)
gate_read None count into count_is into_is gate = absurd (not_one (slice_index into 0) (no_front [] count into count_is into_is refl) gate)
gate_read (Some f) count into count_is into_is gate = elim (cases_lt 0 (length f.bytes)) [
  | inl lt ↦ (
    f,
    refl,
    sym (ap (λ (l : List ℕ). get_or l 0 0) into_is
        ∙ get_or_append_left (take 768 (drop 0 f.bytes)) (drop count (replicate 768 0)) 0 0 (omega (arith, lt, length-take 768 (drop 0 f.bytes), length-drop 0 f.bytes))
        ∙ get_or-take 768 (drop 0 f.bytes) 0 0 (omega arith) ∙ get_or-drop 0 f.bytes 0 0) ∙ gate,
  )
  | inr le ↦ absurd (not_one (slice_index into 0) (no_front (take 768 (drop 0 f.bytes)) count into count_is into_is (omega (arith, le, length-take 768 (drop 0 f.bytes), length-drop 0 f.bytes))) gate)
]

pub short_read : (o : Option File) (f : File) (count : ℕ) → o ≡ Some f → count ≡ length (read_of o 0 768) → count < 768 → count ≡ length f.bytes
short_read o f count is count_is lt =
    let read = count_is ∙ ap (λ (o : Option File). length (read_of o 0 768)) is in
    omega (arith, read, lt, length-take 768 (drop 0 f.bytes), length-drop 0 f.bytes)

pub long_read : (o : Option File) (f : File) (count : ℕ) → o ≡ Some f → count ≡ length (read_of o 0 768) → 768 ≤ count → 768 ≤ length f.bytes
long_read o f count is count_is le =
    let read = count_is ∙ ap (λ (o : Option File). length (read_of o 0 768)) is in
    omega (arith, read, le, length-take 768 (drop 0 f.bytes), length-drop 0 f.bytes)

module _ (into bytes : List ℕ) (is : into ≡ bytes_at 0 768 bytes) (long : 768 ≤ length bytes) where
  front_byte : (i : ℕ) → i < 768 → get_or into i 0 ≡ get_or bytes i 0
  front_byte i lt =
      let same : 0 + i ≡ i = omega arith in
      ap (λ (l : List ℕ). get_or l i 0) is ∙ get_or-take 768 (drop 0 bytes) i 0 lt ∙ get_or-drop 0 bytes i 0 ∙ ap (λ (n : ℕ). get_or bytes n 0) same

  into_long : length into ≡ 768
  into_long = ap length is ∙ omega (arith, long, length-take 768 (drop 0 bytes), length-drop 0 bytes)

  front_range : (at n : ℕ) → at + n ≤ 768 → bytes_at at n into ≡ bytes_at at n bytes
  front_range at n le = same_range into bytes at n (omega (arith, le, into_long)) (omega (arith, le, long)) (λ i from below. front_byte i (omega (arith, below, le)))

  pub read_spells : (label : DumpLabel) (slot : ℕ) → slot ≡ selected_by (slice_index into 1) → slot < 2 → IsSpelledAt into (slot_at label_pair slot) (dump_text label) → slice_index bytes 0 ≡ 1
      → SpellsDumpLabel label bytes × (slot ≡ selected_by (slice_index bytes 1))
  read_spells label slot named small spelled gate =
      let named' : slot ≡ selected_by (slice_index bytes 1) = named ∙ ap selected_by (front_byte 1 (omega arith)) in
      let at = slot_at label_pair slot in
      let fits : at + length (dump_text label) ≤ 768 = omega (arith, small, into_long, ap length spelled, length-take (length (dump_text label)) (drop at into), length-drop at into) in
      let shown : IsSpelledAt bytes at (dump_text label) = sym (front_range at (length (dump_text label)) fits) ∙ spelled in
      (record { long = long; gate = gate; shown = subst (λ (s : ℕ). IsSpelledAt bytes (slot_at label_pair s) (dump_text label)) named' shown }, named')

  slot_fits : (byte : ℕ) → slot_at label_pair (selected_by byte) + 256 ≤ 768
  slot_fits byte = elim (byte == 1) as (λ (b : Bool). slot_at label_pair (if b then 1 else 0) + 256 ≤ 768) [ true ↦ omega arith | false ↦ omega arith ]

  same_bad : (volume : ℕ) → bad_slot volume into ≡ bad_slot volume bytes
  same_bad volume =
      ap (λ (byte : ℕ). option_map (λ bad. slot_at label_pair (selected_by byte) + bad) (bad_dump_label_at volume (bytes_at (slot_at label_pair (selected_by byte)) 256 into))) (front_byte 1 (omega arith))
      ∙ ap (λ (text : List ℕ). option_map (λ bad. slot_at label_pair (selected_by (slice_index bytes 1)) + bad) (bad_dump_label_at volume text)) (front_range (slot_at label_pair (selected_by (slice_index bytes 1))) 256 (slot_fits (slice_index bytes 1)))

  whole_bad : (volume : ℕ) → bad_dump_file volume bytes ≡ bad_slot volume bytes
  whole_bad volume =
      let test : nat_lt (length bytes) 768 ≡ false = is_not_less (length bytes) 768 long in
      ap (λ (c : Bool). if c then Some (length bytes) else bad_slot volume bytes) test

  pub fine_dump : (volume : ℕ) → bad_slot volume into ≡ None → bad_dump_file volume bytes ≡ None
  fine_dump volume none = whole_bad volume ∙ sym (same_bad volume) ∙ none

  pub tells_dump : (volume : ℕ) (held : Held) (f : File) → held 1 ≡ Some f → f.bytes ≡ bytes → slice_index bytes 0 ≡ 1 → (e : DumperFault) → TellsSlot volume into e → TellsDump volume held e
  tells_dump volume held f at same gate (Damaged d) tells = (tells.0, tells.1, (f, at, (ap (λ (l : List ℕ). slice_index l 0) same ∙ gate, ap (bad_dump_file volume) same ∙ whole_bad volume ∙ sym (same_bad volume) ∙ tells.2)))
  tells_dump volume held f at same gate Failed tells = absurd tells
  tells_dump volume held f at same gate NoMemory tells = absurd tells

pub short_bad : (volume : ℕ) (bytes : List ℕ) (count : ℕ) → count ≡ length bytes → count < 768 → bad_dump_file volume bytes ≡ Some count
short_bad volume bytes count is lt =
    let test : nat_lt (length bytes) 768 ≡ true = is_less (length bytes) 768 (omega (arith, is, lt)) in
    ap (λ (c : Bool). if c then Some (length bytes) else bad_slot volume bytes) test ∙ ap Some (sym is)

-- the slot that was decoded is the selected one
pub slot_bad : (volume : ℕ) (bytes : List ℕ) (slot from : ℕ) (bad : Option ℕ) → slot ≡ selected_by (slice_index bytes 1) → from ≡ 256 + 256 * slot → bad_dump_label_at volume (take (from + 256 - from) (drop from bytes)) ≡ bad
    → bad_slot volume bytes ≡ option_map (λ at. from + at) bad
slot_bad volume bytes slot from bad named from_is is =
    let size : from + 256 - from ≡ 256 = omega arith in
    let place : from ≡ slot_at label_pair (selected_by (slice_index bytes 1)) = omega (arith, from_is, named) in
    ap (λ (n : ℕ). option_map (λ at. n + at) (bad_dump_label_at volume (bytes_at n 256 bytes))) (sym place) ∙ ap (λ (n : ℕ). option_map (λ at. from + at) (bad_dump_label_at volume (take n (drop from bytes)))) (sym size) ∙ ap (option_map (λ at. from + at)) is
