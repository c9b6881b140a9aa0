-- What the loops over a source and a sink keep, portion by portion.
use Rattle.std.proofs.Common.{◌≡◌, ℕ, ◌+◌, ◌-◌, ◌≤◌, Bool, IsTrue, List, ◌++◌, length, take, drop, sym, ap, subst, ◌∙◌, arith, append_assoc, length-append}
use Rattle.std.proofs.Math.Seq.{take-add}
use Rattle.std.proofs.lemmas.List.{take-take, drop-drop, take_at, length-take, length-take-le}
use Rattle.tmf_edges.specs.Moves.{Moves}

-- so much of a piece was given
pub record IsGivenTo (told told_now : Bool) (before now piece : List ℕ) (at faults faults_now : ℕ) : Type 0 where
  pub telling : told_now ≡ told
  pub within : at ≤ length piece
  pub given : IsTrue told → now ≡ before ++ take at piece
  pub later : faults ≤ faults_now

-- so many bytes were read
pub record IsReadTo (told told_now : Bool) (before now bytes : List ℕ) (limit faults faults_now : ℕ) : Type 0 where
  pub telling : told_now ≡ told
  pub within : length bytes ≤ limit
  pub read : IsTrue told → bytes ≡ take (length bytes) before
  pub rest : IsTrue told → now ≡ drop (length bytes) before
  pub later : faults ≤ faults_now

-- what was given of a piece, with what was taken of the rest of the piece
pub given_more : (told told_now told_after : Bool) (before now after piece : List ℕ) (at count faults faults_now faults_after : ℕ)
    → IsGivenTo told told_now before now piece at faults faults_now → told_after ≡ told_now
    → count ≤ length (take (length piece - at) (drop at piece))
    → (IsTrue told_now → after ≡ now ++ take count (take (length piece - at) (drop at piece)))
    → faults_now ≤ faults_after
    → IsGivenTo told told_after before after piece (at + count) faults faults_after
given_more told told_now told_after before now after piece at count faults faults_now faults_after so_far telling within more later =
    let short : count ≤ length piece - at = omega (arith, within, length-take (length piece - at) (drop at piece)) in
    record {
      telling = telling ∙ so_far.telling;
      within = omega (arith, so_far.within, short);
      given = λ tells.
          more (subst IsTrue (sym so_far.telling) tells)
          ∙ ap (λ xs. xs ++ take count (take (length piece - at) (drop at piece))) (so_far.given tells)
          ∙ append_assoc before _ _
          ∙ ap (λ xs. before ++ (take at piece ++ xs)) (take-take count (length piece - at) (drop at piece) short)
          ∙ ap (λ xs. before ++ xs) (sym (take-add at count piece));
      later = omega (arith, so_far.later, later);
    }

-- the front of a portion, after a source moved so many bytes into it
portion_moved : (count wanted : ℕ) (now after portion filled : List ℕ) → Moves count now after (take wanted portion) filled → take count (filled ++ drop wanted portion) ≡ take count now
portion_moved count wanted now after portion filled moves =
    ap (λ xs. take count (xs ++ drop wanted portion)) moves.front
    ∙ ap (take count) (append_assoc (take count now) _ _)
    ∙ take_at (take count now) _ count (length-take-le count now moves.enough)

-- what was read, with what was moved into a portion
pub read_more : (told told_now told_after : Bool) (before now after bytes more portion filled : List ℕ) (limit wanted count faults faults_now faults_after : ℕ)
    → IsReadTo told told_now before now bytes limit faults faults_now → told_after ≡ told_now
    → (IsTrue told_now → Moves count now after (take wanted portion) filled)
    → more ≡ bytes ++ take count (filled ++ drop wanted portion)
    → count ≤ length (take wanted portion) → wanted ≤ limit - length bytes → faults_now ≤ faults_after
    → IsReadTo told told_after before after more limit faults faults_after
read_more told told_now told_after before now after bytes more portion filled limit wanted count faults faults_now faults_after so_far telling moves longer within small later =
    let long : length more ≡ length bytes + length (take count (filled ++ drop wanted portion)) = ap length longer ∙ length-append bytes _ in
    let move = λ (tells : IsTrue told). moves (subst IsTrue (sym so_far.telling) tells) in
    let same = λ (tells : IsTrue told). portion_moved count wanted now after portion filled (move tells) in
    let count_is = λ (tells : IsTrue told). long ∙ ap (λ xs. length bytes + length xs) (same tells) ∙ ap (λ n. length bytes + n) (length-take-le count now (move tells).enough) in
    record {
      telling = telling ∙ so_far.telling;
      within = omega (arith, so_far.within, long, within, small, length-take count (filled ++ drop wanted portion), length-take wanted portion);
      read = λ tells.
          longer
          ∙ ap (λ xs. bytes ++ xs) (same tells)
          ∙ ap (λ xs. bytes ++ take count xs) (so_far.rest tells)
          ∙ ap (λ xs. xs ++ take count (drop (length bytes) before)) (so_far.read tells)
          ∙ sym (take-add (length bytes) count before)
          ∙ ap (λ n. take n before) (sym (count_is tells));
      rest = λ tells.
          (move tells).rest
          ∙ ap (drop count) (so_far.rest tells)
          ∙ drop-drop count (length bytes) before
          ∙ ap (λ n. drop n before) (sym (count_is tells));
      later = omega (arith, so_far.later, later);
    }
