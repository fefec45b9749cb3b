-- The beginning and the end of a board: what the code tests is what the model asks. Assumes nothing.
use Prim.Native.Nat.{ℕ, ◌+◌, ◌%◌}
use mathlib.Core.Path.{◌≡◌}
use mathlib.Core.Bool.{true}
use mathlib.Core.List.{List}
use lib.ListN.{length, get_or}
use lib.Dec.{eqb}
use borrow.Author.Tests.{eq-eqb, ne_eqb}
use Rattle.model.specs.Audit.{is_empty, is_closed}
use Rattle.format.specs.Layout.{head_of}
use Rattle.format.specs.declared.head.Head.{Head}

module _ (board : List ℕ) where
  -- ---- 3

  pub empty-none : length board ≡ 0 → true ≡ is_empty board
  empty-none q = rw (eq-eqb _ _ q)

  pub empty-first : (length board ≡ 0 → ⊥) → (head : Head) → head ≡ head_of (get_or board 0 0) → eqb head.kind 15 ≡ is_empty board
  empty-first q head is = rw (ne_eqb _ _ q, is)

  -- ---- 18

  module _ (n p : ℕ) where
    pub closed-number : (get_or board p 0 % 268435456 ≡ n → ⊥) → eqb (get_or board p 0 % 268435456) n ≡ is_closed board n p
    closed-number q = rw (ne_eqb _ _ q)

    pub closed-alone : get_or board p 0 % 268435456 ≡ n → eqb (p + 1) (length board) ≡ is_closed board n p
    closed-alone q = rw (eq-eqb _ _ q)
