-- What a cursor reads next, in steps.
use Rattle.std.proofs.Common.{◌≡◌, ◌⊎◌, ⊎_elim, inl, inr, ℕ, zero, suc, ◌+◌, ◌<◌, ◌∷◌, refl, sym, ap, ◌∙◌, arith}
use Rattle.std.proofs.lemmas.Bool.{cases_lt}
use Rattle.disk_model.specs.Held.{Held, read_of}
use Rattle.trail_files.specs.declared.cursor.Cursor.{Cursor}
use Rattle.trail_files.specs.Text.{head}
use Rattle.trail_files.specs.Next.{RollsTo, IsNextGate, IsNextRecord}

module _ (held : Held) where
  -- one roll batch more
  rolls_on : (rolls file at last gate : ℕ) → RollsTo held rolls file at last gate → read_of (held last) gate 16 ≡ 1 ∷ head 0 → RollsTo held (suc rolls) file at (last + 1) 0
  rolls_on zero file at last gate is reads = (ap (λ n. read_of (held n) at 16) (sym is.0) ∙ ap (λ n. read_of (held last) n 16) (sym is.1) ∙ reads, (omega (arith, is.0), refl))
  rolls_on (suc rolls) file at last gate is reads = (is.0, rolls_on rolls (file + 1) 0 last gate is.1 reads)

  -- where a cursor is that goes into the next batch
  abbrev pub IsEntered : Cursor → Cursor → Type 0
  IsEntered self c = ((0 < c.left) × IsNextRecord held self c.file c.at) ⊎ ((c.left ≡ 0) × IsNextGate held self c.file c.at)

  pub entered_itself : (c : Cursor) → IsEntered c c
  entered_itself c = elim (cases_lt 0 c.left) [ inl some ↦ inl (some, inl (some, refl, refl)) | inr none ↦ (let none : c.left ≡ 0 = omega (arith, none) in inr (none, (none, 0, (refl, refl)))) ]

  -- the gate of a cursor that is not in a batch
  pub entered_gate : (self c : Cursor) → IsEntered self c → c.left ≡ 0 → IsNextGate held self c.file c.at
  entered_gate self c is none = ⊎_elim (λ some. absurd (omega (arith, some.0, none))) (λ gate. gate.1) is

  pub entered_more : (self c next : Cursor) → IsEntered self c → c.left ≡ 0 → read_of (held c.file) c.at 16 ≡ 1 ∷ head next.left → ((next.file ≡ c.file) × (next.at ≡ c.at + 16)) ⊎ ((next.file ≡ c.file + 1) × (next.at ≡ 0) × (next.left ≡ 0))
      → ((next.file ≡ c.file) × (0 < next.left)) ⊎ ((next.file ≡ c.file + 1) × (next.left ≡ 0)) → IsEntered self next
  entered_more self c next is none reads goes further =
      let gate = entered_gate self c is none in
      ⊎_elim
      (λ here. ⊎_elim
      (λ at. inl (here.1, rw here.0 (inr (c.at, next.left, gate, here.1, reads, at.1))))
      (λ at. absurd (omega (arith, at.0, here.0))) goes)
      (λ there. ⊎_elim
      (λ at. absurd (omega (arith, at.0, there.0)))
      (λ at. let on = rolls_on gate.1 self.file self.at c.file c.at gate.2 (reads ∙ ap (λ n. 1 ∷ head n) at.2) in
      inr (at.2, (gate.0, suc gate.1, rw (at.0, at.1) on))) goes) further
