-- What the removal of files leaves of a trail.
use Rattle.std.specs.Prelude.{Option, Some, None, IsSome, max}
use Rattle.std.proofs.Common.{◌≡◌, ◌⊎◌, ⊎_elim, inl, inr, ℕ, ◌+◌, ◌<◌, ◌≤◌, arith, ap, sym, refl, ◌∙◌, subst}
use Rattle.std.proofs.lemmas.Bool.{cases_lt}
use Rattle.disk_model.specs.Held.{Held, File, IsLeast, Elsewhere}
use Rattle.trail_files.specs.Removed.{IsStart, IsCut, AreThere, IsGoneBelow}
use Rattle.trail_files.proofs.Ends.{least_same}

module _ (old mid new : Held) (least start left file at : ℕ) (is : IsCut old mid least start left file) (first : IsLeast mid (Some at)) (others : Elsewhere at mid new) where
  left_is : left ≡ at
  left_is = least_same mid left at is.is_least first

  behind : (n : ℕ) → at + 1 ≤ n → new n ≡ old n
  behind n le = others n (λ e. omega (arith, e, le)) ∙ is.kept n (omega (arith, le, left_is))

  -- the first file is gone
  pub cut_more : (begun : ℕ) → IsStart begun (at + 1) → at < file → AreThere old start file → new at ≡ None → IsCut old new begun start (at + 1) file
  cut_more begun begins lt there gone =
      let same = left_is in record {
        begins = begins;
        is_least = (subst (λ (o : Option File). IsSome o) (sym (behind (at + 1) (omega arith))) (there (at + 1) (omega (arith, is.rises, same)) (omega (arith, lt))), below);
        rises = omega (arith, is.rises, same);
        within = omega (arith, lt);
        kept = behind;
      }
    where
      below : (q : ℕ) → q < at + 1 → new q ≡ None
      below q lt = elim (cases_lt q at) [ inl less ↦ others q (λ e. omega (arith, e, less)) ∙ first.1 q less | inr more ↦ (let same : q ≡ at = omega (arith, lt, more) in ap new same ∙ gone) ]

  -- the first file is there yet
  pub cut_kept : new at ≡ mid at → IsCut old new at start at file
  cut_kept here =
      let same = left_is in
      let all : (n : ℕ) → new n ≡ mid n = λ n. elim (cases_lt n at) [
        | inl less ↦ others n (λ e. omega (arith, e, less))
        | inr more ↦ elim (cases_lt at n) [ inl further ↦ others n (λ e. omega (arith, e, further)) | inr le ↦ (let same : n ≡ at = omega (arith, more, le) in ap new same ∙ here ∙ ap mid (sym same)) ]
      ] in
      record {
        begins = inl refl;
        is_least = (subst (λ (o : Option File). IsSome o) (sym here) first.0, λ q lt. all q ∙ first.1 q lt);
        rises = omega (arith, is.rises, same);
        within = omega (arith, is.within, same);
        kept = λ n le. all n ∙ is.kept n (omega (arith, le, same));
      }

  -- it is not known which
  pub cut_maybe : at < file → AreThere old start file → (new at ≡ mid at) ⊎ (new at ≡ None) → (now : ℕ) × IsCut old new at start now file
  cut_maybe lt there either = ⊎_elim (λ here. (at, cut_kept here)) (λ gone. (at + 1, cut_more at (inr refl) lt there gone)) either

-- the file in front of the first that is left is not there
module _ (old mid new : Held) (least start left file : ℕ) (is : IsCut old mid least start left file) (others : Elsewhere least mid new) where
  pub cut_gone : left ≡ least + 1 → new least ≡ None → (begun : ℕ) → IsStart begun left → IsCut old new begun start left file
  cut_gone at gone begun begins = record {
    begins = begins;
    is_least = (subst (λ (o : Option File). IsSome o) (sym (others left (λ e. omega (arith, e, at)))) is.is_least.0, below);
    rises = is.rises;
    within = is.within;
    kept = λ n le. others n (λ e. omega (arith, e, le, at)) ∙ is.kept n le;
  }
    where
      below : (q : ℕ) → q < left → new q ≡ None
      below q lt = elim (cases_lt q least) [ inl less ↦ others q (λ e. omega (arith, e, less)) ∙ is.is_least.1 q lt | inr more ↦ (let same : q ≡ least = omega (arith, lt, more, at) in ap new same ∙ gone) ]

  first : left ≡ least → IsLeast mid (Some least)
  first same = subst (λ n. IsLeast mid (Some n)) same is.is_least

  -- the trail's least file is gone
  pub cut_next : least < file → AreThere old start file → new least ≡ None → (now : ℕ) × IsCut old new (least + 1) start now file
  cut_next lt there gone =
      ⊎_elim (λ same. (least + 1, cut_more old mid new least start left file least is (first same) others (least + 1) (inl refl) lt there gone))
      (λ at. (left, cut_gone at gone (least + 1) (inl at))) is.begins

  -- it is not known whether it is
  pub cut_refused : least < file → AreThere old start file → (new least ≡ mid least) ⊎ (new least ≡ None) → (now : ℕ) × IsCut old new least start now file
  cut_refused lt there either =
      ⊎_elim (λ same. cut_maybe old mid new least start left file least is (first same) others lt there either)
      (λ at. (left, cut_gone at (⊎_elim (λ kept. kept ∙ is.is_least.1 least (omega (arith, at))) (λ gone. gone) either) least (inr at))) is.begins

-- all the files below the number are gone
pub cut_whole : (old new : Held) (least start left file : ℕ) → IsCut old new least start left file → file ≤ least → left ≡ max start file
cut_whole old new least start left file is le =
    let past : file ≤ left = ⊎_elim (λ e. omega (arith, e, le)) (λ e. omega (arith, e, le)) is.begins in
    omega (arith, past, is.rises, is.within)

-- one file more is gone, or it is not known whether it is
pub gone_or_kept : (old mid new : Held) (at from : ℕ) → IsLeast mid (Some at) → from ≤ at → ((q : ℕ) → from ≤ q → mid q ≡ old q) → Elsewhere at mid new → (new at ≡ mid at) ⊎ (new at ≡ None) → (left : ℕ) × IsGoneBelow old new left
gone_or_kept old mid new at from least le kept others either =
    let below : (n : ℕ) → n < at → new n ≡ None = λ n lt. others n (λ e. omega (arith, e, lt)) ∙ least.1 n lt in
    let above : (n : ℕ) → at + 1 ≤ n → new n ≡ old n = λ n lt. others n (λ e. omega (arith, e, lt)) ∙ kept n (omega (arith, le, lt)) in
    ⊎_elim
    (λ here. (at, record { gone = below; kept = λ n ge. elim (cases_lt at n) [ inl further ↦ above n (omega (arith, further)) | inr same ↦ (let same : n ≡ at = omega (arith, ge, same) in ap new same ∙ here ∙ ap mid (sym same) ∙ kept n (omega (arith, le, ge))) ] }))
    (λ gone. (at + 1, record { gone = λ n lt. elim (cases_lt n at) [ inl less ↦ below n less | inr same ↦ (let same : n ≡ at = omega (arith, lt, same) in ap new same ∙ gone) ]; kept = above })) either
