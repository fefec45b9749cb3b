-- What checks 7 to 9 say of an item's address, of the main item before it and of its parent, word for word, for any address width.
-- Paper: "Parent", "Previous", the table of refusals; request (ix). Assumes nothing.
use Prim.Native.Nat.{ℕ, ◌≤◌, ◌<◌}
use mathlib.Core.Path.{◌≡◌, sym, ◌∙◌}
use mathlib.Core.Logic.Iff
use mathlib.Core.Logic.{◌≢◌, ◌↔◌}
use mathlib.Core.Bool.{not, beq}
use mathlib.Core.List.{List}
use lib.ListN.{length, replicate}
use lib.Dec.{T, leb}
use borrow.Author.Tests.{eq-eqb, ne_eqb}
use Rattle.model.specs.Words.{same_words}
use Rattle.model.specs.Format.{Format, Hashes, secp256r1, secp384r1, secp521r1, format_on}
use Rattle.model.specs.Item.{Item, hashed, code, is_main}
use Rattle.model.specs.Types.{ParentRule, zeros, latest_config, of_type, Listed}
use Rattle.model.specs.History.{History, entry, item_no, main, main_item, main_items, end_after, end_address, parent_of, parent_number}
use Rattle.model.specs.Links.{address_ok, previous_ok, parent_ok}
use Rattle.model.proofs.Tests.{passes, if_yes, if_no, beq-eq, eq-beq, and-iff, same-iff}
use Rattle.model.proofs.Numbers.{first-is}
use Rattle.model.proofs.Table.{asks_none, genesis-law}
use Rattle.model.proofs.Entries.{parent-first}
use Rattle.model.proofs.Chain.{end-some}

-- ---- 7, the address

-- two runs of words are the same in either order
turned : (xs ys : List ℕ) → T (same_words xs ys) ↔ (ys ≡ xs)
turned xs ys = Iff.trans (same-iff xs ys) (sym, sym)

module _ (s : Hashes) (w : ℕ) (i : Item) where
  pub address-passes : (T (address_ok (format_on s secp256r1 w) i) ↔ (i.address ≡ s.sha256 (hashed i)))
      × (T (address_ok (format_on s secp384r1 w) i) ↔ (i.address ≡ s.sha384 (hashed i)))
      × (T (address_ok (format_on s secp521r1 w) i) ↔ (i.address ≡ s.sha512 (hashed i)))
  unfolding address_ok
  address-passes = (turned _ _, turned _ _, turned _ _)

-- ---- 8, the previous item

module _ (f : Format) (h : History) (i : Item) where
  previous-main : T (is_main i) → T (previous_ok f h i) ↔ (i.previous ≡ end_address f h)
  unfolding previous_ok
  previous-main t = rw (if_yes (is_main i) (end_address f h) i.parent t) (same-iff i.previous (end_address f h))

  pub previous-none : T (is_main i) → length (main_items h) ≡ 0 → T (previous_ok f h i) ↔ (i.previous ≡ replicate f.address 0)
  unfolding end_address end_after
  previous-none t e = rw e at (previous-main t)

  pub previous-some : T (is_main i) → 1 ≤ length (main_items h)
      → T (previous_ok f h i) ↔ (i.previous ≡ (main_item (main_items h) (length (main_items h))).address)
  unfolding end_address
  previous-some t l = rw (end-some f (main_items h) (length (main_items h)) l) at (previous-main t)

  pub previous-hidden : T (not (is_main i)) → T (previous_ok f h i) ↔ (i.previous ≡ i.parent)
  unfolding previous_ok
  previous-hidden t = rw (if_no (is_main i) (end_address f h) i.parent t) (same-iff i.previous i.parent)

  -- ---- 9, the parent

  zeros-pass : (r : ParentRule) → T (asks_none r) → T (parent_ok f h r i) ↔ (i.parent ≡ replicate f.address 0)
  unfolding parent_ok asks_none
  zeros-pass zeros t = same-iff i.parent (replicate f.address 0)
  zeros-pass latest_config t = absurd t
  zeros-pass (of_type c) t = absurd t

  pub parent-zeros : (l : Listed f i.head) → code i ≡ 1 → T (parent_ok f h l.row.parent i) ↔ (i.parent ≡ replicate f.address 0)
  parent-zeros l c = zeros-pass l.row.parent (passes (genesis-law l ∙ eq-eqb (code i) 1 c))

module _ (h : History) (i : Item) where
  -- item k is of those among which the parent is sought, and has its address
  abbrev Sought : ℕ → Type 0
  Sought k = (1 ≤ k) × (k ≤ length h) × (main (entry h k) ≡ leb (code i) 48) × ((item_no h k).address ≡ i.parent)

  sought : (k : ℕ) → 1 ≤ k → k ≤ length h → T (parent_of i (entry h k)) → Sought k
  sought k one all t =
      let (kind, address) = (and-iff (beq (main (entry h k)) (leb (code i) 48)) (same_words (item_no h k).address i.parent)).0 t in
      (one, all, beq-eq _ _ kind, (same-iff _ _).0 address)

  is-parent : (k : ℕ) → Sought k → T (parent_of i (entry h k))
  is-parent k (one, all, kind, address) =
      (and-iff (beq (main (entry h k)) (leb (code i) 48)) (same_words (item_no h k).address i.parent)).1
      (eq-beq _ _ kind, (same-iff _ _).1 address)

  pub parent-sought : code i ≢ 1 → (k : ℕ) → 1 ≤ k → (parent_number h i ≡ k) ↔ (Sought k × ((j : ℕ) → j < k → Sought j → ⊥))
  parent-sought c =
      rw (parent-first h i (ne_eqb (code i) 1 c))
      (first-is (parent_of i) h Sought (λ k. (λ (one, all, t). sought k one all t, λ s. (s.0, s.1, is-parent k s))))
