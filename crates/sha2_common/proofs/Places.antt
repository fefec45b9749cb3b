-- Places in blocks of s words: arithmetic with / and % by s, for the two sizes that a block has.
use mathlib.Core.Path.{◌≡◌, refl, sym, subst}
use mathlib.Core.Logic.{◌⊎◌, inl, inr, ⊎_elim}
use Prim.Native.Nat.{ℕ, suc, ◌+◌, ◌-◌, ◌*◌, ◌/◌, ◌%◌, ◌≤◌, ◌<◌}
use native.Mathlib.Nat.{eq-or-lt_of_le}
use native.Mathlib.Omega.{arith}
use Rattle.sha2_common.specs.Blocks.{HashOn}
use Rattle.sha2_common.specs.Sizes.{IsSize}
use Rattle.sha2_common.specs.State.{missing, whole_end}

abbrev pub Sized : {W : Type 0} → HashOn W → Type 0
Sized f = IsSize f.size

-- `omega` divides by a literal alone, so each law is shown at 16 and at 32
abbrev pub Each : (ℕ → Type 0) → Type 0
Each P = (s : ℕ) → IsSize s → P s

by_size : (P : ℕ → Type 0) → P 16 → P 32 → Each P
by_size P a b s (inl e) = subst P (sym e) a
by_size P a b s (inr e) = subst P (sym e) b

-- ---- n words, and m behind them

pub rest-short : Each λ s. (n : ℕ) → n % s < s
rest-short = by_size _ (λ n. omega arith) (λ n. omega arith)

pub size-whole : Each λ s. s % s ≡ 0
size-whole = by_size _ refl refl

pub size-one : Each λ s. s / s ≡ 1
size-one = by_size _ refl refl

pub blocks-within : Each λ s. (n : ℕ) → n / s * s ≤ n
blocks-within = by_size _ (λ n. omega arith) (λ n. omega arith)

pub no_block : Each λ s. (n : ℕ) → n < s → n / s ≡ 0
no_block = by_size _ (λ n p. omega arith) (λ n p. omega arith)

pub blocks-all : Each λ s. (n : ℕ) → n % s ≡ 0 → n ≡ n / s * s
blocks-all = by_size _ (λ n p. omega arith) (λ n p. omega arith)

pub whole-add : Each λ s. (n m : ℕ) → n % s ≡ 0 → m % s ≡ 0 → (n + m) % s ≡ 0
whole-add = by_size _ (λ n m p q. omega arith) (λ n m p q. omega arith)

pub blocks-add : Each λ s. (n m : ℕ) → n % s ≡ 0 → (n + m) / s ≡ n / s + m / s
blocks-add = by_size _ (λ n m p. omega arith) (λ n m p. omega arith)

pub blocks-suc : Each λ s. (n : ℕ) → (n + s) / s ≡ suc (n / s)
blocks-suc = by_size _ (λ n. omega arith) (λ n. omega arith)

-- the blocks of all are those of n words, and those of what is behind them
pub blocks-behind : Each λ s. (n m l : ℕ) → l ≡ n + m - n / s * s → n / s + l / s ≡ (n + m) / s
blocks-behind = by_size _ (λ n m l e. omega arith) (λ n m l e. omega arith)

pub words-behind : Each λ s. (n m : ℕ) → n / s * s + (n % s + m) / s * s ≡ (n + m) / s * s
words-behind = by_size _ (λ n m. omega arith) (λ n m. omega arith)

-- ---- a piece of n words behind k words

pub filling : (l n : ℕ) → (n < l) ⊎ (l ≤ n)
filling l n = ⊎_elim (λ e. inr (omega arith)) (λ e. inl (omega arith)) (eq-or-lt_of_le {n = 0} {m = l - n} (omega arith))

pub missing-fits : Each λ s. (k : ℕ) → (k % s + missing s k ≤ s) × (missing s k < s)
missing-fits = by_size _ (λ k. (omega arith, omega arith)) (λ k. (omega arith, omega arith))

pub missing-ends : Each λ s. (k : ℕ) → ((k + missing s k) % s ≡ 0) × ((k % s + missing s k) % s ≡ 0)
missing-ends = by_size _ (λ k. (omega arith, omega arith)) (λ k. (omega arith, omega arith))

-- the block is empty
pub missing-none : Each λ s. (k : ℕ) → k % s ≡ 0 → missing s k ≡ 0
missing-none = by_size _ (λ k p. omega arith) (λ k p. omega arith)

pub left-all : Each λ s. (k n : ℕ) → k % s ≡ 0 → n < s → whole_end s k n ≡ 0
left-all = by_size _ (λ k n p q. omega arith) (λ k n p q. omega arith)

pub left-none : Each λ s. (k n : ℕ) → k % s ≡ 0 → n % s ≡ 0 → n ≤ whole_end s k n
left-none = by_size _ (λ k n p q. omega arith) (λ k n p q. omega arith)

-- it is not, and the piece does not go beyond it
pub none_left : Each λ s. (k n : ℕ) → 0 < k % s → k % s + n ≤ s → (n ≤ missing s k) × (n ≤ whole_end s k n)
none_left = by_size _ (λ k n p q. (omega arith, omega arith)) (λ k n p q. (omega arith, omega arith))

-- the piece does not fill it
pub room : Each λ s. (k n : ℕ) → n < missing s k
    → (k % s + n ≤ s) × (n < s) × ((k % s + n) / s * s ≡ 0) × ((k + n) % s ≡ k % s + n)
room =
    by_size
    _ (λ k n p. (omega arith, omega arith, omega arith, omega arith)) (λ k n p. (omega arith, omega arith, omega arith, omega arith))

-- it does
pub left-within : Each λ s. (k n : ℕ) → missing s k ≤ n → (missing s k ≤ whole_end s k n) × (whole_end s k n ≤ n)
left-within = by_size _ (λ k n p. (omega arith, omega arith)) (λ k n p. (omega arith, omega arith))

pub left-whole : Each λ s. (k n : ℕ) → missing s k ≤ n → k % s + whole_end s k n ≡ (k % s + n) / s * s
left-whole = by_size _ (λ k n p. omega arith) (λ k n p. omega arith)

pub left-rest : Each λ s. (k n : ℕ) → missing s k ≤ n → ((k + n) % s ≡ n - whole_end s k n) × (n - whole_end s k n < s)
left-rest = by_size _ (λ k n p. (omega arith, omega arith)) (λ k n p. (omega arith, omega arith))

pub between-whole : Each λ s. (k n : ℕ) → (whole_end s k n - missing s k) % s ≡ 0
between-whole = by_size _ (λ k n. omega arith) (λ k n. omega arith)

-- its first x words end a block
pub left_behind : Each λ s. (k x n : ℕ) → (k + x) % s ≡ 0 → (missing s k ≤ x) × (whole_end s k (x + n) ≡ x + n / s * s)
left_behind = by_size _ (λ k x n p. (omega arith, omega arith)) (λ k x n p. (omega arith, omega arith))
