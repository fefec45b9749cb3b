-- The answers with one cast more: receipts of other buckets than that of its address do not change, so the walk along the chain of the bucket
-- is enough. Assumes nothing.
use Prim.Native.Nat.{ℕ, zero, suc, ◌-◌, ◌%◌, ◌≤◌, ◌<◌}
use native.Mathlib.Nat.{not-suc-le-zero}
use native.Mathlib.Decide.{dec_le}
use native.Mathlib.Omega.{arith}
use mathlib.Core.Path.{◌≡◌, sym, ap, ◌∙◌}
use mathlib.Core.Logic.{◌≢◌, by_cases}
use mathlib.Core.Bool.{Bool, true, false, ◌&&◌, and-false}
use mathlib.Core.List.{List}
use lib.ListN.{length, get_or, set}
use lib.Dec.{eqb, ltb}
use borrow.Author.Tests.{eq-eqb, ne_eqb, eqb-false, lt-ltb, le-ltb}
use Rattle.model.specs.Lists.{if◌then◌otherwise◌}
use Rattle.model.specs.Words.{same_words}
use Rattle.model.specs.Codes.{cast_type}
use Rattle.model.specs.History.{Entry, typed}
use Rattle.model.specs.Report.{no_number}
use Rattle.model.specs.Receipts.{receipt_count, receipt_at, matches, cast_of}
use Rattle.model.proofs.Tests.{by-test, passes, and-iff, same-iff}
use Rattle.chains.specs.Chain.{buckets, last_in}
use Rattle.chains.proofs.Laws.{last_in-here, last_in-past}
use Rattle.format.specs.Format.{format_of}
use Rattle.index.specs.declared.Known.{Known}
use Rattle.index.specs.Known.{IsKnown}
use Rattle.index.proofs.Reading.{known-code, known-address}
use Rattle.lookup.specs.Search.{entry_from}
use Rattle.lookup.specs.Buckets.{of_address}
use Rattle.lookup.proofs.Buckets.{first_word}
use Rattle.lookup.proofs.Walk.{Reached}
use Rattle.receipts.specs.Answering.{by_receipt, with_cast}
use Rattle.receipts.proofs.Renewed.{Renewed, renewed-begins, renewed-past, renewed-same, renewed-put, renewed-all, last-old}

-- ---- a receipt's answer with a cast more

-- an entry is the cast of receipt k, from 0 on
abbrev is_cast : (board receipts : List ℕ) → Entry → ℕ → Bool
is_cast board receipts e k = cast_of (receipt_at (format_of board) receipts k) e

abbrev total : (board receipts : List ℕ) → ℕ
total board receipts = receipt_count (format_of board) receipts

module _ (board receipts : List ℕ) (e : Entry) (number : ℕ) (old : List ℕ) where
  abbrev pub new_answer : ℕ → ℕ
  new_answer k = if ltb k (total board receipts) && eqb (get_or old k 0) no_number && is_cast board receipts e k then number otherwise get_or old k 0

  module _ (k : ℕ) where
    pub new-past : total board receipts ≤ k → new_answer k ≡ get_or old k 0
    unfolding if◌then◌otherwise◌
    new-past l = rw (le-ltb k (total board receipts) l)

    pub new-inside : k < total board receipts
        → new_answer k ≡ (if eqb (get_or old k 0) no_number && is_cast board receipts e k then number otherwise get_or old k 0)
    new-inside l = rw (lt-ltb k (total board receipts) l)

    new-answered : get_or old k 0 ≢ no_number → new_answer k ≡ get_or old k 0
    unfolding if◌then◌otherwise◌
    new-answered n = rw (ne_eqb (get_or old k 0) no_number n, and-false)

    new-other : is_cast board receipts e k ≡ false → new_answer k ≡ get_or old k 0
    unfolding if◌then◌otherwise◌
    new-other q = rw (q, and-false)

    new-own : k < total board receipts → get_or old k 0 ≡ no_number → is_cast board receipts e k ≡ true → new_answer k ≡ number
    unfolding if◌then◌otherwise◌
    new-own l n q = rw (lt-ltb k (total board receipts) l, eq-eqb (get_or old k 0) no_number n, q)

-- ---- the items of a chain that a walk passes over are of other buckets

pub skipped : (bucket : ℕ → ℕ) (b m j : ℕ) → last_in bucket b m ≤ j → j < m → bucket (suc j) ≢ b
skipped bucket b zero j l u = absurd (not-suc-le-zero u)
skipped bucket b (suc m) j l u =
    by-test (eqb (bucket (suc m)) b)
    (λ q. let here = last_in-here bucket b m q in absurd (omega arith))
    (λ q.
    let past = last_in-past bucket b m q in
    by_cases (dec_le (suc j) m)
    (λ less. skipped bucket b m j (omega arith) less)
    (λ less.
    let here : j ≡ m = omega arith in
    rw here (eqb-false (bucket (suc m)) b q)))

-- ---- the walk of a cast

module _ {board : List ℕ} {c : Known} (is : IsKnown board (entry_from board c) c) (cast : c.item.head.code ≡ cast_type) (receipts : List ℕ) where
  abbrev pub cast_bucket : ℕ
  cast_bucket = get_or board c.item.address 0 % buckets

  -- a receipt with its words is one of its receipts
  told-cast : (k : ℕ) {r : Bool} → r ≡ matches (receipt_at (format_of board) receipts k) (entry_from board c).item → r ≡ is_cast board receipts (entry_from board c) k
  told-cast k q = q ∙ rw (eq-eqb _ cast_type (sym (known-code is) ∙ cast))

  in-bucket : (k : ℕ) → is_cast board receipts (entry_from board c) k ≡ true → by_receipt board receipts (suc k) ≡ cast_bucket
  unfolding by_receipt
  in-bucket k q =
      let e = entry_from board c in
      let r = receipt_at (format_of board) receipts k in
      let same_address = same_words e.item.address r.address in
      let both = ((and-iff (typed cast_type e) (matches r e.item)).0 (passes q)).1 in
      let same = (same-iff e.item.address r.address).0 ((and-iff same_address (same_words e.item.signature r.signature)).0 both).0 in
      ap of_address (sym same ∙ sym (known-address is)) ∙ ap (λ (w : ℕ). w % buckets) (first_word board board c.item.address)

  not-in-bucket : (k : ℕ) → by_receipt board receipts (suc k) ≢ cast_bucket → is_cast board receipts (entry_from board c) k ≡ false
  not-in-bucket k n = by-test (is_cast board receipts (entry_from board c) k) (λ q. absurd (n (in-bucket k q))) (λ q. q)

  module _ (number : ℕ) (old : List ℕ) where
    abbrev new : ℕ → ℕ
    new = new_answer board receipts (entry_from board c) number old

    over : {m r : ℕ} → Reached (by_receipt board receipts) cast_bucket m r → (j : ℕ) → r ≤ j → j < m → new j ≡ get_or old j 0
    over {m} way j l u =
        new-other board receipts (entry_from board c) number old j
        (not-in-bucket j (skipped (by_receipt board receipts) cast_bucket m j (rw way.is at l) u))

    pub cast-begins : {r : ℕ} → Reached (by_receipt board receipts) cast_bucket (total board receipts) r → Renewed new old r old
    cast-begins way =
        renewed-begins
        (λ j l u.
        by_cases (dec_le (suc j) (total board receipts))
        (λ m. over way j l m)
        (λ m. new-past board receipts (entry_from board c) number old j (omega arith)))

    -- at receipt k, from 1 on: the answers that the walk goes on with
    module _ (k : ℕ) (s : 1 ≤ k) (l : k ≤ total board receipts) {ws : List ℕ} (w : Renewed new old k ws)
        {r : ℕ} (way : Reached (by_receipt board receipts) cast_bucket (k - 1) r) where
      goes : {vs : List ℕ} → Renewed new old (k - 1) vs → Renewed new old r vs
      goes = renewed-past (over way) way.most

      pub cast-answered : get_or ws (k - 1) 0 ≢ no_number → Renewed new old r ws
      cast-answered n =
          goes (renewed-same k s w (new-answered board receipts (entry_from board c) number old (k - 1) (λ q. n (last-old k s w ∙ q))))

      module _ {t : Bool} (told : t ≡ matches (receipt_at (format_of board) receipts (k - 1)) (entry_from board c).item) where
        pub cast-other : t ≡ false → Renewed new old r ws
        cast-other q = goes (renewed-same k s w (new-other board receipts (entry_from board c) number old (k - 1) (sym (told-cast (k - 1) told) ∙ q)))

        pub cast-own : k ≤ length old → get_or ws (k - 1) 0 ≡ no_number → t ≡ true → Renewed new old r (set ws (k - 1) number)
        cast-own m n q =
            let own = sym (told-cast (k - 1) told) ∙ q in
            let none = sym (last-old k s w) ∙ n in
            goes (renewed-put k s w m (new-own board receipts (entry_from board c) number old (k - 1) (omega arith) none own))

    pub cast_ends : {ws : List ℕ} → Renewed new old 0 ws → ws ≡ with_cast board receipts (entry_from board c) number old
    unfolding with_cast
    cast_ends w = renewed-all w
