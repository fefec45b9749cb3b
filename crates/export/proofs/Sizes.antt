-- Laws of lengths: the digits of a number, the line of an item from what the code knows of it, and how many bytes a line has at most.
-- Paper: request (xi). Assumes nothing.
use Prim.Native.Nat.{ℕ, ◌+◌, ◌*◌, ◌^◌, ◌≤◌, ◌<◌}
use native.Mathlib.Omega.{arith}
use mathlib.Core.Path.{◌≡◌, ap, ◌∙◌}
use mathlib.Core.List.{List}
use lib.ListN.{length}
use Rattle.model.specs.Lists.{part}
use Rattle.model.specs.Words.{count_of, pair}
use Rattle.model.specs.Item as model
use Rattle.model.specs.Item.{item_at, behind, code, time}
use Rattle.model.specs.Program.{decimal}
use Rattle.model.specs.Sound.{Shaped}
use Rattle.model.proofs.Parts.{part-two}
use Rattle.model.proofs.Parsing.{shaped-at}
use Rattle.model.proofs.Decimal.{length-decimal}
use Rattle.exporting.specs.Export.{line_of}
use Rattle.exporting.specs.Reading.{AreWords}
use Rattle.exporting.proofs.Text.{line-length}
use Rattle.exporting.proofs.Same.{code-digits}
use Rattle.format.specs.declared.item.Item.{Item}
use Rattle.format.specs.Format.{format_of}
use Rattle.format.specs.Layout.{item_of, item_on}
use Rattle.format.proofs.Traits.{sizes}
use Rattle.export.specs.Lines.{Whole, line_limit}
use Rattle.export.proofs.Parts.{width, stands, width-board}

-- ---- the line of an item

-- the item that is read at its place, part by part as the code knows it
record Measured (board : List ℕ) (i : Item) : Type 0 where
  fit : behind (format_of board) board i.place ≤ length board
  code : i.head.code ≡ code (item_on board i.place)
  time : pair (part i.time 2 board) ≡ time (item_on board i.place)
  count : i.head.count ≡ count_of (item_on board i.place).head

measured : {board : List ℕ} {i : Item} → Whole board i → Measured board i
unfolding item_of item_at
measured {board} {i} w =
    let end : behind (format_of board) board i.place ≤ length board = rw w.same at w.within in
    record {
      fit = end;
      code = ap (λ (x : Item). x.head.code) w.same;
      time = ap (λ (x : Item). pair (part x.time 2 board)) w.same;
      count = ap (λ (x : Item). x.head.count) w.same;
    }

module _ {board : List ℕ} {i : Item} (w : Whole board i) where
  abbrev m : Measured board i
  m = measured w

  abbrev item : model.Item
  item = item_on board i.place

  shaped : Shaped (format_of board) item
  shaped = shaped-at (format_of board) board i.place m.fit

  time-small : AreWords board → time item < 10 ^ 20
  unfolding pair
  time-small small =
      rw (← m.time, part-two i.time board 0 (stands w).time) (omega (arith, small i.time, small (i.time + 1)))

  count_small : count_of item.head < 2 ^ 16
  unfolding count_of
  count_small = omega arith

  pub line-few : AreWords board → length (line_of item) ≤ line_limit
  line-few small =
      let b = sizes board in
      let s = shaped in
      let digits = code-digits item.head in
      let times = length-decimal 19 (time item) (time-small small) in
      omega (arith, line-length item, count_small)

  -- the sum that the code makes: c and t digits, of the type and of the time n, and the digits of the words
  abbrev sum_of : ℕ → ℕ → ℕ
  sum_of c t = 70 + (c + t) + 8 * (3 * width i + i.head.count)

  pub line-sum : AreWords board → {c n t : ℕ} → c ≡ length (decimal i.head.code) → n ≡ pair (part i.time 2 board) → t ≡ length (decimal n)
      → (sum_of c t ≡ length (line_of item)) × (sum_of c t ≤ line_limit)
  line-sum small {c} {n} {t} p e q =
      let size : ℕ → ℕ = λ n. length (decimal n) in
      let code-size = p ∙ ap size m.code in
      let time-size = q ∙ ap size (e ∙ m.time) in
      let s = shaped in
      let same : sum_of c t ≡ length (line_of item) = omega (arith, line-length item, m.count, width-board w) in
      (same, rw same (line-few small))
