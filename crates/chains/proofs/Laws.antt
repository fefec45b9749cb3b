-- Laws of chain tables: a table keeps its length, and holds for each bucket its last item, and for each item the one before it in its
-- bucket. Assumes nothing.
use Prim.Native.Nat.{ℕ, zero, suc, ◌+◌, ◌-◌, ◌≤◌, ◌<◌}
use native.Mathlib.Nat.{le_refl, not-suc-le-zero}
use native.Mathlib.Decide.{dec_le}
use native.Mathlib.Omega.{arith}
use mathlib.Core.Path.{◌≡◌, refl, sym, ap, ◌∙◌}
use mathlib.Core.Logic.{◌≢◌, by_cases}
use mathlib.Core.Bool.{true, false}
use mathlib.Core.List.{List}
use lib.ListN.{length, get_or, set, length-set, length-replicate, get_or-replicate}
use lib.Seq.{get_or-set_same, get_or-set_other}
use lib.Dec.{eqb}
use borrow.Author.Tests.{eqb-true, eqb-false}
use Rattle.model.specs.Lists.{if◌then◌otherwise◌}
use Rattle.model.specs.Audit.{item_limit}
use Rattle.model.proofs.Tests.{by-test}
use Rattle.chains.specs.Chain.{buckets, chain_words, linked, chain, last_in}

-- ---- one item more

module _ (t : List ℕ) (b k : ℕ) where
  -- the table with its first store
  abbrev stored : List ℕ
  stored = set t (buckets + k) (get_or t b 0)

  linked-length : length (linked t b k) ≡ length t
  linked-length = length-set stored b k ∙ length-set t (buckets + k) (get_or t b 0)

  linked-last : b < length t → get_or (linked t b k) b 0 ≡ k
  linked-last l = get_or-set_same stored b k 0 (omega (arith, length-set t (buckets + k) (get_or t b 0)))

  linked-behind : b < buckets → buckets + k < length t → get_or (linked t b k) (buckets + k) 0 ≡ get_or t b 0
  linked-behind l m =
      get_or-set_other stored b (buckets + k) k 0 (λ e. omega arith) ∙ get_or-set_same t (buckets + k) (get_or t b 0) 0 m

  linked-other : (j : ℕ) → j ≢ b → j ≢ buckets + k → get_or (linked t b k) j 0 ≡ get_or t j 0
  linked-other j p q = get_or-set_other stored b j k 0 p ∙ get_or-set_other t (buckets + k) j (get_or t b 0) 0 q

module _ (bucket : ℕ → ℕ) where
  pub chain_length : (n : ℕ) → length (chain bucket n) ≡ chain_words
  unfolding chain
  chain_length zero = length-replicate {A = ℕ} chain_words 0
  chain_length (suc n) = linked-length (chain bucket n) (bucket (suc n)) (suc n) ∙ chain_length n

  -- ---- the last item of a bucket

  -- item n + 1 is in the bucket, or is not
  pub last_in-here : (b n : ℕ) → eqb (bucket (suc n)) b ≡ true → last_in bucket b (suc n) ≡ suc n
  unfolding last_in if◌then◌otherwise◌
  last_in-here b n q = rw q

  pub last_in-past : (b n : ℕ) → eqb (bucket (suc n)) b ≡ false → last_in bucket b (suc n) ≡ last_in bucket b n
  unfolding last_in if◌then◌otherwise◌
  last_in-past b n q = rw q

  pub last_in-le : (b n : ℕ) → last_in bucket b n ≤ n
  unfolding last_in
  last_in-le b zero = le_refl 0
  last_in-le b (suc n) =
      by-test (eqb (bucket (suc n)) b) (λ q. omega (arith, last_in-here b n q)) (λ q. omega (arith, last_in-past b n q, last_in-le b n))

  -- it is the last of those up to itself
  pub last_in-self : (b n : ℕ) → last_in bucket b (last_in bucket b n) ≡ last_in bucket b n
  unfolding last_in
  last_in-self b zero = refl
  last_in-self b (suc n) =
      by-test (eqb (bucket (suc n)) b) (λ q. ap (last_in bucket b) (last_in-here b n q)) (λ q. rw (last_in-past b n q) (last_in-self b n))

  -- it is in the bucket
  pub last_in-own : (b k : ℕ) → 1 ≤ k → last_in bucket b k ≡ k → bucket k ≡ b
  last_in-own b zero s e = absurd (not-suc-le-zero s)
  last_in-own b (suc k) s e =
      by-test (eqb (bucket (suc k)) b)
      (λ q. eqb-true (bucket (suc k)) b q)
      (λ q. let less = last_in-le b k in let same = last_in-past b k q in omega arith)

  -- ---- what the table holds

  module _ (small : (k : ℕ) → bucket k < buckets) where
    pub chain-last : (b n : ℕ) → b < buckets → n ≤ item_limit → get_or (chain bucket n) b 0 ≡ last_in bucket b n
    unfolding chain last_in
    chain-last b zero l m = get_or-replicate {A = ℕ} chain_words b 0 0 (omega arith)
    chain-last b (suc n) l m =
        let t = chain bucket n in
        let own = bucket (suc n) in
        by-test (eqb own b)
        (λ q.
        ap (λ (x : ℕ). get_or (linked t own (suc n)) x 0) (sym (eqb-true own b q))
        ∙ linked-last t own (suc n) (omega (arith, small (suc n), chain_length n))
        ∙ sym (last_in-here b n q))
        (λ q.
        linked-other t own (suc n) b (λ e. eqb-false own b q (sym e)) (λ e. omega arith)
        ∙ chain-last b n l (omega arith)
        ∙ sym (last_in-past b n q))

    pub chain-behind : (k n : ℕ) → 1 ≤ k → k ≤ n → n ≤ item_limit → get_or (chain bucket n) (buckets + k) 0 ≡ last_in bucket (bucket k) (k - 1)
    unfolding chain
    chain-behind k zero s l m = omega arith
    chain-behind k (suc n) s l m =
        let t = chain bucket n in
        let own = bucket (suc n) in
        by_cases (dec_le k n)
        (λ less.
        linked-other t own (suc n) (buckets + k) (λ e. omega (arith, small (suc n))) (λ e. omega arith)
        ∙ chain-behind k n s less (omega arith))
        (λ more.
        let same : k ≡ suc n = omega arith in
        let prior : suc n - 1 ≡ n = omega arith in
        rw (same, prior) (linked-behind t own (suc n) (small (suc n)) (omega (arith, chain_length n)) ∙ chain-last own n (small (suc n)) (omega arith)))
