-- Laws of the export in a buffer: written item by item, and what is answered by the room that there is. Paper: request (xi). Assumes nothing.
use Prim.Native.Nat.{ℕ, ◌+◌, ◌≤◌, ◌<◌}
use native.Mathlib.Omega.{arith}
use mathlib.Core.Path.{◌≡◌, refl, ap, ◌∙◌}
use mathlib.Core.List.{List, []}
use Rattle.std.specs.Prelude.{Option, Some, None}
use lib.ListN.{length}
use borrow.Author.Tests.{lt-ltb, le-ltb, lt-leb, le-leb}
use Rattle.model.specs.Lists.{if◌then◌otherwise◌}
use Rattle.model.specs.History.{History, entry}
use Rattle.model.specs.Audit.{accepted}
use Rattle.model.specs.Above.{buffer_after}
use Rattle.exporting.specs.Export.{export_text, export_outcome, text_after}
use Rattle.text.specs.declared.writer.Writer.{Writer}
use Rattle.text.specs.Put.{Writes}
use Rattle.text.proofs.Placed.{writes-none, writes_then, put-start}
use Rattle.index.specs.Kept.{before}
use Rattle.export.specs.Lines.{entry_text, fits_in, bytes_in}
use Rattle.export.proofs.Items.{export_text-none, export_text-next, length-next, length-grows}

-- an item with no text
pub put-empty : (u : Writer) {text : List ℕ} → text ≡ [] → u.at + length text ≤ length u.out.now → Writes u text u
put-empty u q room = rw q (writes-none u (omega arith))

-- ---- item by item

pub put-begins : (board : List ℕ) (u : Writer) → u.at ≡ 0 → Writes u (export_text (before board 0)) u
put-begins board u e = rw export_text-none (writes-none u (omega arith))

module _ (board : List ℕ) (items : ℕ) {done : ℕ} {u v : Writer} (start : u.at ≡ 0) (so_far : Writes u (export_text (before board done)) v) where
  module _ (less : done < items) where
    -- where there is room for all, there is for one item more
    pub put-room : length (export_text (before board items)) ≤ length u.out.now
        → v.at + length (entry_text (entry (before board items) (done + 1))) ≤ length v.out.now
    put-room room =
        omega (arith, length-next board items done less, length-grows board (done + 1) items (omega arith), so_far.room, so_far.put.behind)

    pub put_item : {w : Writer} → Writes v (entry_text (entry (before board items) (done + 1))) w → Writes u (export_text (before board (done + 1))) w
    put_item p = rw (export_text-next board items done less) (writes_then so_far p)

  pub put-items : done ≡ items → v.out.now ≡ text_after (accepted (before board items)) u.out.now
  unfolding buffer_after
  put-items q =
      let shown = put-start (rw start at so_far.put) in
      shown.bytes ∙ rw (shown.end, q)

-- ---- by the room

-- what is answered, and what the buffer holds
abbrev Answered : List ℕ → History → Option ℕ → List ℕ → Type 0
Answered s h bytes t = (bytes ≡ bytes_in (length s) h) × (t ≡ text_after (export_outcome (length s) (accepted h)) s)

module _ (s : List ℕ) (h : History) {n : ℕ} (size : n ≡ length (export_text h)) where
  pub answered-short : length s < n → Answered s h None s
  unfolding bytes_in fits_in export_outcome if◌then◌otherwise◌ buffer_after
  answered-short l =
      let less = rw size at l in
      rw (lt-ltb (length s) (length (export_text h)) less, lt-leb (length (export_text h)) (length s) less) (refl, refl)

  pub answered-whole : n ≤ length s → {t : List ℕ} → t ≡ text_after (accepted h) s → Answered s h (Some n) t
  unfolding bytes_in fits_in export_outcome if◌then◌otherwise◌
  answered-whole l wrote =
      let room = rw size at l in
      rw (le-ltb (length s) (length (export_text h)) room, le-leb (length (export_text h)) (length s) room) (ap Some size, wrote)
