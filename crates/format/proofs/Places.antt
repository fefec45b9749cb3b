-- Laws of an item's layout: what stands at the places that `item_of` gives is what the model reads there. Assumes nothing.
use Prim.Native.Nat.{ℕ, ◌+◌, ◌^◌, ◌≤◌, ◌<◌}
use native.Mathlib.Nat.{add_assoc}
use native.Mathlib.Omega.{arith}
use mathlib.Core.Path.{◌≡◌, refl, ap}
use mathlib.Core.List.{List, append_assoc}
use lib.ListN.{length, get_or}
use lib.Seq.{get_or-drop, get_or-take}
use Rattle.model.specs.Lists.{part}
use Rattle.model.specs.Words.{count_of, pair}
use Rattle.model.specs.Format.{time_size}
use Rattle.model.specs.Item.{item_at, item_length, hashed_length, hashed, behind, word, time}
use Rattle.model.proofs.Parts.{part-add, part-one}
use Rattle.format.specs.Format.{format_of, widths_of}
use Rattle.format.specs.Layout.{head_of, item_of}
use Rattle.format.specs.declared.head.Head.{Head}
use Rattle.format.specs.declared.item.Item.{Item}
use Rattle.format.specs.declared.format.Format.{Format}
use Rattle.format.proofs.Traits.{sizes, knows}

-- an item with its head at place p, part by part, where addresses and signatures have so many words
abbrev laid : ℕ → ℕ → ℕ → Head → ℕ → Item
laid a g p h e = record {
  place = p;
  head = h;
  content = p + 1;
  parent = p + 1 + h.count;
  previous = p + 1 + h.count + a;
  time = p + 1 + h.count + a + a;
  signature = p + 1 + h.count + a + a + 2;
  address = p + 1 + h.count + a + a + 2 + g;
  end = e;
}

-- an item's count is below 2 ^ 16, and a format's sizes are small
pub record Small (h : Head) (f : Format) : Type 0 where
  pub count : h.count < 2 ^ 16
  pub address : f.address ≤ 16
  pub signature : f.signature ≤ 33

pub small : (ws : List ℕ) (p : ℕ) {h : Head} {f : Format} → h ≡ head_of (get_or ws p 0) → f ≡ widths_of ws → Small h f
unfolding count_of
small ws p e k =
    let n : _ ≡ count_of (get_or ws p 0) = ap (λ (h : Head). h.count) e in
    let s = sizes ws in
    let w = knows k in
    record { count = omega arith; address = omega arith; signature = omega arith }

pub laid_out : (ws : List ℕ) (p : ℕ) (h : Head) (f : Format) → h ≡ head_of (get_or ws p 0) → f ≡ widths_of ws
    → let a = f.address in let g = f.signature in laid a g p h (p + 1 + h.count + a + a + 2 + g + a) ≡ item_of ws p
unfolding item_of item_length
laid_out ws p h f e k =
    let w = knows k in
    let n : h.count ≡ count_of (get_or ws p 0) = ap (λ (g : Head). g.count) e in
    let last : p + 1 + h.count + f.address + f.address + 2 + f.signature + f.address ≡ behind (format_of ws) ws p = omega arith in
    λ i. laid (w.address i) (w.signature i) p (e i) (last i)

module _ (ws : List ℕ) (p : ℕ) where
  -- the place behind the item
  pub end_is : (item_of ws p).end ≡ behind (format_of ws) ws p
  unfolding item_of
  end_is = refl

  pub place_is : (item_of ws p).place ≡ p
  unfolding item_of
  place_is = refl

  pub head-is : (item_of ws p).head ≡ head_of (item_at (format_of ws) ws p).head
  unfolding item_of item_at
  head-is = refl

  pub count-is : (item_of ws p).head.count ≡ count_of (get_or ws p 0)
  unfolding item_of
  count-is = refl

  -- the parts
  pub content-is : part (item_of ws p).content (item_of ws p).head.count ws ≡ (item_at (format_of ws) ws p).content
  unfolding item_of item_at
  content-is = refl

  pub parent_is : part (item_of ws p).parent (format_of ws).address ws ≡ (item_at (format_of ws) ws p).parent
  unfolding item_of item_at
  parent_is = refl

  pub previous-is : part (item_of ws p).previous (format_of ws).address ws ≡ (item_at (format_of ws) ws p).previous
  unfolding item_of item_at
  previous-is = refl

  pub stamp-is : part (item_of ws p).time time_size ws ≡ (item_at (format_of ws) ws p).stamp
  unfolding item_of item_at
  stamp-is = refl

  pub time-is : pair (part (item_of ws p).time time_size ws) ≡ time (item_at (format_of ws) ws p)
  unfolding item_of item_at
  time-is = refl

  pub signature-is : part (item_of ws p).signature (format_of ws).signature ws ≡ (item_at (format_of ws) ws p).signature
  unfolding item_of item_at
  signature-is = refl

  pub address_is : part (item_of ws p).address (format_of ws).address ws ≡ (item_at (format_of ws) ws p).address
  unfolding item_of item_at
  address_is = refl

  -- the hashed words: from the place up to the signature
  pub hashed-is : (item_of ws p).end ≤ length ws → part p (hashed_length (format_of ws) (item_of ws p).head.count) ws ≡ hashed (item_at (format_of ws) ws p)
  unfolding item_of item_at item_length hashed_length hashed
  hashed-is h = simp (part-add, append_assoc, ← add_assoc, part-one p ws 0 (omega arith))

  pub signature-behind : (item_of ws p).signature ≡ p + hashed_length (format_of ws) (item_of ws p).head.count
  unfolding item_of hashed_length
  signature-behind = omega arith

  -- content word k
  pub word-is : (k : ℕ) → k < (item_of ws p).head.count → word k (item_at (format_of ws) ws p) ≡ get_or ws ((item_of ws p).content + k) 0
  unfolding item_of item_at part
  word-is k h = rw (get_or-take, get_or-drop)

  pub word_at : (k : ℕ) → k < count_of (get_or ws p 0) → word k (item_at (format_of ws) ws p) ≡ get_or ws (p + 1 + k) 0
  unfolding item_at part
  word_at k h = rw (get_or-take, get_or-drop)
