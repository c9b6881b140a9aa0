-- A text has one answer: it is one script's, or it is refused at one line for one reason.
use Rattle.std.proofs.Common.{◌≡◌, ◌⊎◌, inl, inr, ℕ, ◌+◌, ◌≤◌, List, [], ◌∷◌, ◌++◌, length, Result, Ok, Err, refl, sym, ◌∙◌, ap, subst, length-append, arith}
use Rattle.std.proofs.lemmas.List.{append_assoc, append-nil}
use Rattle.tmf_model.specs.declared.script.Script.{Script}
use Rattle.tmf_script.specs.declared.fault.LineError.{LineError}
use Rattle.tmf_script.specs.declared.fault.LineError.TheVariants as faults
use Rattle.tmf_script.specs.declared.fault.ParseError.{ParseError}
use Rattle.tmf_script.specs.declared.fault.ParseError.TheVariants as errors
use Rattle.tmf_script.specs.declared.fault.Why.{Why}
use Rattle.tmf_script.specs.declared.state.State.{State}
use Rattle.tmf_script.specs.Checks.{Fails, fault_at}
use Rattle.tmf_script.specs.Reading.{most_bytes, IsCause, after_line, after_end, Leads, IsTextOf, FailsAtLine, FailsAtEnd, IsRefused}
use Rattle.tmf_script.specs.State.{start}
use Rattle.tmf_script.specs.Text.{lines_of}

-- an answer, or the number of the line that is refused with the reason
abbrev pub Answer : Type 0 → Type 0
Answer A = Result A (ℕ × Why)

abbrev pub at_line : {A : Type 0} → ℕ → Result A Why → Answer A
at_line number (Ok x) = Ok x
at_line number (Err why) = Err (number, why)

abbrev pub and_then : {A B : Type 0} → Answer A → (A → Answer B) → Answer B
and_then (Ok x) next = next x
and_then (Err fault) next = Err fault

-- what the lines from this one on come to
unfoldable pub answer_of : State → ℕ → List (List ℕ) → Answer Script
answer_of state number [] = at_line number (after_end state)
answer_of state number (line ∷ lines) = and_then (at_line number (after_line state line)) (λ next. answer_of next (number + 1) lines)

pub Leads-push : (before : State) (lines : List (List ℕ)) (mid : State) (line : List ℕ) (after : State)
    → Leads before lines mid → after_line mid line ≡ Ok after → Leads before (lines ++ line ∷ []) after
Leads-push before [] mid line after leads ok = (after, ap (λ s. after_line s line) leads ∙ ok, refl)
Leads-push before (first ∷ lines) mid line after (next, here, rest) ok = (next, here, Leads-push next lines mid line after rest ok)

-- lines that lead on leave the answer to those behind them
answer_of-leads : (before : State) (number : ℕ) (lines behind : List (List ℕ)) (after : State) → Leads before lines after
    → answer_of before number (lines ++ behind) ≡ answer_of after (number + length lines) behind
unfolding answer_of
answer_of-leads before number [] behind after leads =
    let same : number ≡ number + 0 = omega arith in ap (λ s. answer_of s number behind) leads ∙ ap (λ n. answer_of after n behind) same
answer_of-leads before number (line ∷ lines) behind after (next, here, rest) =
    let same : number + 1 + length lines ≡ number + length (line ∷ lines) = omega arith in
    ap (λ r. and_then (at_line number r) (λ s. answer_of s (number + 1) (lines ++ behind))) here
    ∙ answer_of-leads next (number + 1) lines behind after rest
    ∙ ap (λ n. answer_of after n behind) same

pub answer_of-text : (text : List ℕ) (script : Script) → IsTextOf text script → answer_of start 1 (lines_of text) ≡ Ok script
unfolding answer_of
answer_of-text text script is =
    ap (answer_of start 1) (sym (append-nil (lines_of text)))
    ∙ answer_of-leads start 1 (lines_of text) [] is.last is.lines
    ∙ ap (at_line (1 + length (lines_of text))) is.whole

pub answer_of-line : (text : List ℕ) (number : ℕ) (why : Why) → FailsAtLine text number why → answer_of start 1 (lines_of text) ≡ Err (number, why)
unfolding answer_of
answer_of-line text number why fails =
    let same : 1 + length fails.before ≡ number = omega (arith, fails.counted) in
    ap (answer_of start 1) fails.lines
    ∙ answer_of-leads start 1 fails.before (fails.line ∷ fails.behind) fails.state fails.leads
    ∙ ap (λ r. and_then (at_line (1 + length fails.before) r) (λ s. answer_of s (1 + length fails.before + 1) fails.behind)) fails.fails
    ∙ ap (λ n. Err (n, why)) same

pub answer_of-end : (text : List ℕ) (number : ℕ) (why : Why) → FailsAtEnd text number why → answer_of start 1 (lines_of text) ≡ Err (number, why)
unfolding answer_of
answer_of-end text number why fails =
    let same : 1 + length (lines_of text) ≡ number = omega (arith, fails.counted) in
    ap (answer_of start 1) (sym (append-nil (lines_of text)))
    ∙ answer_of-leads start 1 (lines_of text) [] fails.last fails.lines
    ∙ ap (at_line (1 + length (lines_of text))) fails.fails
    ∙ ap (λ n. Err (n, why)) same

-- a text is one of one script at most
pub one_script : (text : List ℕ) (a b : Script) → IsTextOf text a → IsTextOf text b → a ≡ b
one_script text a b ais bis = let one = answer_of-text text a ais in let other = answer_of-text text b bis in cc

same_short : (text : List ℕ) (m n : ℕ) (a b : Why) → answer_of start 1 (lines_of text) ≡ Err (m, a) → answer_of start 1 (lines_of text) ≡ Err (n, b) → (m ≡ n) × (a ≡ b)
same_short text m n a b one other =
    let same : ◌≡◌ {A = ℕ × Why} (m, a) (n, b) = cc in (ap (λ p. p.0) same, ap (λ p. p.1) same)

-- a text is refused at one line at most, and for one reason
pub one_refusal : (text : List ℕ) (m n : ℕ) (a b : Why) → IsRefused text m a → IsRefused text n b → (m ≡ n) × (a ≡ b)
one_refusal text m n a b (inl one) (inl other) = (one.line ∙ sym other.line, one.cause ∙ sym other.cause)
one_refusal text m n a b (inl one) (inr (inl other)) = absurd (omega (arith, one.long, other.short))
one_refusal text m n a b (inl one) (inr (inr other)) = absurd (omega (arith, one.long, other.short))
one_refusal text m n a b (inr (inl one)) (inl other) = absurd (omega (arith, other.long, one.short))
one_refusal text m n a b (inr (inr one)) (inl other) = absurd (omega (arith, other.long, one.short))
one_refusal text m n a b (inr (inl one)) (inr (inl other)) = same_short text m n a b (answer_of-line text m a one) (answer_of-line text n b other)
one_refusal text m n a b (inr (inl one)) (inr (inr other)) = same_short text m n a b (answer_of-line text m a one) (answer_of-end text n b other)
one_refusal text m n a b (inr (inr one)) (inr (inl other)) = same_short text m n a b (answer_of-end text m a one) (answer_of-line text n b other)
one_refusal text m n a b (inr (inr one)) (inr (inr other)) = same_short text m n a b (answer_of-end text m a one) (answer_of-end text n b other)

-- a script's text is not refused
pub not_both : (text : List ℕ) (script : Script) (number : ℕ) (why : Why) → IsTextOf text script → IsRefused text number why → ⊥
not_both text script number why is (inl long) = omega (arith, long.long, is.short)
not_both text script number why is (inr (inl fails)) =
    let one = answer_of-text text script is in let other = answer_of-line text number why fails in cc
not_both text script number why is (inr (inr fails)) =
    let one = answer_of-text text script is in let other = answer_of-end text number why fails in cc

-- the lines before the rest lead to this state, and the next line has this number
pub record HasRead (text rest : List ℕ) (state : State) (number : ℕ) : Type 0 where
  pub before : List (List ℕ)
  pub lines : lines_of text ≡ before ++ lines_of rest
  pub leads : Leads start before state
  pub counted : number ≡ length before + 1

pub read_nothing : (text : List ℕ) → HasRead text text start 1
read_nothing text = record { before = []; lines = refl; leads = refl; counted = omega arith }

pub read_more : (text rest : List ℕ) (state : State) (number : ℕ) → HasRead text rest state number
    → (line after : List ℕ) (next : State) → lines_of rest ≡ line ∷ lines_of after → after_line state line ≡ Ok next
    → HasRead text after next (number + 1)
read_more text rest state number so_far line after next cut ok = record {
  before = so_far.before ++ line ∷ [];
  lines = so_far.lines ∙ ap (λ ls. so_far.before ++ ls) cut ∙ sym (append_assoc so_far.before (line ∷ []) (lines_of after));
  leads = Leads-push start so_far.before state line next so_far.leads ok;
  counted = omega (arith, so_far.counted, length-append so_far.before (line ∷ []));
}

pub fails_at_line : (text rest : List ℕ) (state : State) (number : ℕ) → length text ≤ most_bytes → HasRead text rest state number
    → (line after : List ℕ) (why : Why) → lines_of rest ≡ line ∷ lines_of after → after_line state line ≡ Err why → IsRefused text number why
fails_at_line text rest state number short so_far line after why cut fails = inr (inl (record {
  short = short;
  before = so_far.before;
  line = line;
  behind = lines_of after;
  lines = so_far.lines ∙ ap (λ ls. so_far.before ++ ls) cut;
  counted = so_far.counted;
  state = state;
  leads = so_far.leads;
  fails = fails;
}))

-- where no line is left, all lines have been read
all_read : (text rest : List ℕ) (state : State) (number : ℕ) → HasRead text rest state number → lines_of rest ≡ []
    → (Leads start (lines_of text) state) × (number ≡ length (lines_of text) + 1)
all_read text rest state number so_far none =
    let all : lines_of text ≡ so_far.before = so_far.lines ∙ ap (λ ls. so_far.before ++ ls) none ∙ append-nil so_far.before in
    (subst (λ ls. Leads start ls state) (sym all) so_far.leads, so_far.counted ∙ ap (λ ls. length ls + 1) (sym all))

pub fails_at_end : (text rest : List ℕ) (state : State) (number : ℕ) → length text ≤ most_bytes → HasRead text rest state number
    → lines_of rest ≡ [] → (why : Why) → after_end state ≡ Err why → IsRefused text number why
fails_at_end text rest state number short so_far none why fails =
    let all = all_read text rest state number so_far none in
    inr (inr (record { short = short; last = state; lines = all.0; counted = all.1; fails = fails }))

pub reads_script : (text rest : List ℕ) (state : State) (number : ℕ) → length text ≤ most_bytes → HasRead text rest state number
    → lines_of rest ≡ [] → (script : Script) → after_end state ≡ Ok script → IsTextOf text script
reads_script text rest state number short so_far none script whole =
    let all = all_read text rest state number so_far none in
    record { short = short; last = state; lines = all.0; whole = whole }

-- what parse ensures, at each of its answers

pub only_script : (text : List ℕ) (read : Script) → IsTextOf text read → (script : Script) → IsTextOf text script → read ≡ script
only_script text read found script is = one_script text read script found is

pub only_refused : (text : List ℕ) (error : ParseError) → IsCause text error → (script : Script) → IsTextOf text script → error ≡ errors.NoMemory
only_refused text (errors.Refusal number why) cause script is = absurd (not_both text script number why is cause)
only_refused text errors.NoMemory cause script is = refl

pub refused_same : (text : List ℕ) (error : ParseError) → IsCause text error → (number : ℕ) (why : Why) → IsRefused text number why
    → (error ≡ errors.Refusal number why) ⊎ (error ≡ errors.NoMemory)
refused_same text (errors.Refusal m a) cause number why is =
    let same = one_refusal text m number a why cause is in
    let line : m ≡ number = same.0 in
    let reason : a ≡ why = same.1 in inl cc
refused_same text errors.NoMemory cause number why is = inr refl

pub cause_at_line : (text rest : List ℕ) (state : State) (number : ℕ) → length text ≤ most_bytes → HasRead text rest state number
    → (line after : List ℕ) → lines_of rest ≡ line ∷ lines_of after → (error : LineError) → Fails error (after_line state line) → IsCause text (fault_at number error)
cause_at_line text rest state number short so_far line after cut (faults.Refused why) fails = fails_at_line text rest state number short so_far line after why cut fails
cause_at_line text rest state number short so_far line after cut faults.NoMemory fails = tt
