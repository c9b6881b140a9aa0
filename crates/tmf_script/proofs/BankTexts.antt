-- The lines of the bank workload, one behind the other.
use Rattle.std.proofs.Common.{◌≡◌, ℕ, zero, suc, ◌+◌, List, [], ◌∷◌, ◌++◌, map, codes, refl, sym, ap, ◌∙◌, add-one, arith}
use Rattle.std.specs.List.{flat_map, range_with_len}
use Rattle.std.proofs.lemmas.List.{append_assoc, append-nil, map-append}
use Rattle.std.specs.Fmt.{decimal}
use Rattle.tmf_script.specs.Bank.{written_line, written_lines, account, teller, giver, taker, amount, head_lines, put_account_line, opening_lines, transfer_lines, transfers_lines, worker_lines, end_lines, bank_text}

pub written-append : (xs ys : List (List (List ℕ))) → written_lines (xs ++ ys) ≡ written_lines xs ++ written_lines ys
written-append [] ys = refl
written-append (x ∷ xs) ys = ap (λ t. written_line x ++ t) (written-append xs ys) ∙ sym (append_assoc (written_line x) (written_lines xs) (written_lines ys))

range-next : (n a : ℕ) → range_with_len a (suc n) ≡ range_with_len a n ++ (a + n) ∷ []
range-next zero a = let same : a ≡ a + 0 = omega arith in ap (λ x. x ∷ []) same
range-next (suc n) a =
    let same : a + 1 + n ≡ a + suc n = omega arith in
    ap (λ xs. a ∷ xs) (range-next n (a + 1) ∙ ap (λ x. range_with_len (a + 1) n ++ x ∷ []) same)

-- one line more for the next number
pub lines-next : (f : ℕ → List (List ℕ)) (n : ℕ) → written_lines (map f (range_with_len 0 (n + 1))) ≡ written_lines (map f (range_with_len 0 n)) ++ written_line (f n)
lines-next f n =
    let same : 0 + n ≡ n = omega arith in
    ap (λ k. written_lines (map f (range_with_len 0 k))) (add-one n)
    ∙ ap (λ ns. written_lines (map f ns)) (range-next n 0)
    ∙ ap (λ k. written_lines (map f (range_with_len 0 n ++ k ∷ []))) same
    ∙ ap written_lines (map-append f (range_with_len 0 n) (n ∷ []))
    ∙ written-append (map f (range_with_len 0 n)) (f n ∷ [])
    ∙ ap (λ t. written_lines (map f (range_with_len 0 n)) ++ t) (append-nil (written_line (f n)))

transfers-append : (worker : ℕ) (xs ys : List ℕ) → flat_map (transfer_lines worker) (xs ++ ys) ≡ flat_map (transfer_lines worker) xs ++ flat_map (transfer_lines worker) ys
transfers-append worker [] ys = refl
transfers-append worker (x ∷ xs) ys = ap (λ t. transfer_lines worker x ++ t) (transfers-append worker xs ys)

-- one transfer more
pub transfers-next : (worker n : ℕ) → written_lines (transfers_lines worker (n + 1)) ≡ written_lines (transfers_lines worker n) ++ written_lines (transfer_lines worker (n + 1))
transfers-next worker n =
    let next : 1 + n ≡ n + 1 = omega arith in
    ap (λ k. written_lines (transfers_lines worker k)) (add-one n)
    ∙ ap (λ ns. written_lines (flat_map (transfer_lines worker) ns)) (range-next n 1)
    ∙ ap written_lines (transfers-append worker (range_with_len 1 n) ((1 + n) ∷ []))
    ∙ written-append (transfers_lines worker n) (transfer_lines worker (1 + n))
    ∙ ap (λ k. written_lines (transfers_lines worker n) ++ written_lines (transfer_lines worker k)) next

-- what is added in front of the rest
front : (first part rest : List ℕ) {second last : List ℕ} → second ≡ first ++ part → last ≡ second ++ rest → last ≡ first ++ (part ++ rest)
front first part rest e f = f ∙ ap (λ t. t ++ rest) e ∙ append_assoc first part rest

pub put-added : (worker n : ℕ) (begun t : List ℕ) {a b c : List ℕ} → t ≡ begun ++ written_lines (map (put_account_line worker) (range_with_len 0 n))
    → a ≡ t ++ codes "put ACCT " → b ≡ a ++ account worker n → c ≡ b ++ codes " 1000\n"
    → c ≡ begun ++ written_lines (map (put_account_line worker) (range_with_len 0 (n + 1)))
put-added worker n begun t {a = a} e ea eb ec =
    let key = account worker n in
    front begun (written_lines (map (put_account_line worker) (range_with_len 0 n))) (codes "put ACCT " ++ (key ++ codes " 1000\n")) e
    (front t (codes "put ACCT ") (key ++ codes " 1000\n") ea (front a key (codes " 1000\n") eb ec))
    ∙ ap (λ x. begun ++ x) (sym (lines-next (put_account_line worker) n))

pub opening-added : (worker : ℕ) (t : List ℕ) {a b c d e : List ℕ} → a ≡ t ++ codes "worker\nbegin\n"
    → b ≡ a ++ written_lines (map (put_account_line worker) (range_with_len 0 10)) → c ≡ b ++ codes "put TELLER " → d ≡ c ++ teller worker
    → e ≡ d ++ codes " 0\ncommit\n" → e ≡ t ++ written_lines (opening_lines worker)
opening-added worker t {a = a} {b = b} {c = c} ea eb ec ed ee =
    let puts = written_lines (map (put_account_line worker) (range_with_len 0 10)) in
    let last = teller worker ++ codes " 0\ncommit\n" in
    let rest = codes "put TELLER " ++ last in
    front t (codes "worker\nbegin\n") (puts ++ rest) ea
    (front a puts rest eb (front b (codes "put TELLER ") last ec (front c (teller worker) (codes " 0\ncommit\n") ed ee)))

abbrev change : ℕ → ℕ → List ℕ → ℕ → List ℕ
change worker number sign i = written_line (codes "add" ∷ codes "ACCT" ∷ account worker number ∷ (sign ++ decimal (amount i)) ∷ [])

pub transfer-added : (worker i : ℕ) (t : List ℕ) {a b c d e f : List ℕ} → a ≡ t ++ codes "begin\n"
    → b ≡ a ++ change worker (giver i) (codes "-") i → c ≡ b ++ change worker (taker i) [] i
    → d ≡ c ++ codes "add TELLER " → e ≡ d ++ teller worker → f ≡ e ++ codes " 1\ncommit\n" → f ≡ t ++ written_lines (transfer_lines worker i)
transfer-added worker i t {a = a} {b = b} {c = c} {d = d} ea eb ec ed ee ef =
    let last = teller worker ++ codes " 1\ncommit\n" in
    let rest = codes "add TELLER " ++ last in
    let gives = change worker (giver i) (codes "-") i in
    let takes = change worker (taker i) [] i in
    front t (codes "begin\n") (gives ++ (takes ++ rest)) ea
    (front a gives (takes ++ rest) eb
    (front b takes rest ec (front c (codes "add TELLER ") last ed (front d (teller worker) (codes " 1\ncommit\n") ee ef))))

pub next-transfer-added : (worker n : ℕ) (begun t : List ℕ) {a : List ℕ} → t ≡ begun ++ written_lines (transfers_lines worker n)
    → a ≡ t ++ written_lines (transfer_lines worker (n + 1)) → a ≡ begun ++ written_lines (transfers_lines worker (n + 1))
next-transfer-added worker n begun t e ea =
    front begun (written_lines (transfers_lines worker n)) (written_lines (transfer_lines worker (n + 1))) e ea
    ∙ ap (λ x. begun ++ x) (sym (transfers-next worker n))

pub worker-added : (worker n : ℕ) (t : List ℕ) {a b : List ℕ} → a ≡ t ++ written_lines (opening_lines worker)
    → b ≡ a ++ written_lines (transfers_lines worker n) → b ≡ t ++ written_lines (worker_lines n worker)
worker-added worker n t e eb =
    front t (written_lines (opening_lines worker)) (written_lines (transfers_lines worker n)) e eb
    ∙ ap (λ x. t ++ x) (sym (written-append (opening_lines worker) (transfers_lines worker n)))

grouped : (x y z : List (List (List ℕ))) → written_lines ((x ++ y) ++ z) ≡ written_lines x ++ written_lines (y ++ z)
grouped x y z = ap written_lines (append_assoc x y z) ∙ written-append x (y ++ z)

-- the text by its head, its workers and its end
bank_text-parts : (n : ℕ) → bank_text n
    ≡ written_lines head_lines
    ++ (written_lines (worker_lines n 1) ++ (written_lines (worker_lines n 2) ++ (written_lines (worker_lines n 3) ++ (written_lines (worker_lines n 4) ++ written_lines end_lines))))
unfolding bank_text
bank_text-parts n =
    let a = worker_lines n 1 in
    let b = worker_lines n 2 in
    let c = worker_lines n 3 in
    let d = worker_lines n 4 in
    written-append head_lines ((a ++ (b ++ (c ++ (d ++ [])))) ++ end_lines)
    ∙ ap (λ t. written_lines head_lines ++ t) (
    grouped a (b ++ (c ++ (d ++ []))) end_lines
    ∙ ap (λ t. written_lines a ++ t) (
    grouped b (c ++ (d ++ [])) end_lines
    ∙ ap (λ t. written_lines b ++ t) (
    grouped c (d ++ []) end_lines
    ∙ ap (λ t. written_lines c ++ t) (grouped d [] end_lines))))

pub all-added : (n : ℕ) {t h a b c d e : List ℕ} → t ≡ [] → h ≡ t ++ written_lines head_lines
    → a ≡ h ++ written_lines (worker_lines n 1) → b ≡ a ++ written_lines (worker_lines n 2) → c ≡ b ++ written_lines (worker_lines n 3)
    → d ≡ c ++ written_lines (worker_lines n 4) → e ≡ d ++ codes "end\nrecover\nlist ACCT\nlist TELLER\n" → e ≡ bank_text n
all-added n {t = t} {h = h} {a = a} {b = b} {c = c} none eh ea eb ec ed ee =
    let ends = written_lines end_lines in
    let fourth = written_lines (worker_lines n 4) ++ ends in
    let third = written_lines (worker_lines n 3) ++ fourth in
    let second = written_lines (worker_lines n 2) ++ third in
    let workers = written_lines (worker_lines n 1) ++ second in
    front t (written_lines head_lines) workers eh
    (front h (written_lines (worker_lines n 1)) second ea
    (front a (written_lines (worker_lines n 2)) third eb
    (front b (written_lines (worker_lines n 3)) fourth ec (front c (written_lines (worker_lines n 4)) ends ed ee))))
    ∙ ap (λ x. x ++ (written_lines head_lines ++ workers)) none
    ∙ sym (bank_text-parts n)
