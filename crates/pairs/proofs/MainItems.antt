-- A main item by its main number is the item that is found by searching for that number. Assumes nothing.
use Prim.Native.Nat.{ℕ, zero, suc, ◌+◌, ◌≤◌}
use native.Mathlib.Nat.{not-suc-le-zero}
use native.Mathlib.Omega.{arith}
use mathlib.Core.Path.{◌≡◌, refl, sym, ap, ◌∙◌}
use mathlib.Core.List.{List, [], ◌∷◌}
use lib.ListN.{length, get_or, drop}
use Rattle.model.specs.Lists.{if◌then◌otherwise◌, count, keep}
use Rattle.model.specs.Item.{item_at}
use Rattle.model.specs.History.{History, Entry, absent, entry, item_no, main, main_items, main_item}
use Rattle.model.proofs.Tests.{by-test}
use Rattle.model.proofs.Lists.{turns}
use Rattle.model.proofs.Unchecked.{length-history}
use Rattle.format.specs.Format.{format_of}
use Rattle.format.specs.Layout.{item_of}
use Rattle.index.specs.declared.Known.{Known}
use Rattle.index.specs.Kept.{before}
use Rattle.index.specs.Known.{IsKnown}
use Rattle.lookup.specs.Search.{main_from, main_entry}
use Rattle.pairs.specs.Reading.{IsItem, Numbered}

-- main item m + 1 of the items es, which stand in h from item number k + 1 on, has the item number x
pub record Found (h : History) (k m : ℕ) (es : History) (x : ℕ) : Type 0 where
  pub some : 1 ≤ x
  pub few : x ≤ k + length es
  pub item : item_no h x ≡ get_or (main_items es) m absent.item

module _ (h : History) where
  found_from : (k m : ℕ) (es : History) → drop k h ≡ es → suc m ≤ count main es → Found h k m es (main_from (suc k) (suc m) es)
  unfolding main_from count keep entry if◌then◌otherwise◌
  found_from k m [] q l = absurd (not-suc-le-zero l)
  found_from k zero (e ∷ es) q l =
      let t = turns h k e es q in
      by-test (main e)
      (λ a. rw a (record { some = omega arith; few = omega arith; item = rw a (ap (λ (x : Entry). x.item) (t.at absent)) }))
      (λ a.
      let f = found_from (suc k) zero es t.after (rw a at l) in
      rw a (record { some = f.some; few = omega arith; item = rw a f.item }))
  found_from k (suc m) (e ∷ es) q l =
      let t = turns h k e es q in
      by-test (main e)
      (λ a.
      let f = found_from (suc k) m es t.after (omega (arith, rw a at l)) in
      rw a (record { some = f.some; few = omega arith; item = rw a f.item }))
      (λ a.
      let f = found_from (suc k) (suc m) es t.after (rw a at l) in
      rw a (record { some = f.some; few = omega arith; item = rw a f.item }))

  pub main-found : (m : ℕ) → 1 ≤ m → m ≤ count main h
      → (1 ≤ main_entry h m) × (main_entry h m ≤ length h) × (main_item (main_items h) m ≡ item_no h (main_entry h m))
  unfolding main_item
  main-found zero s l = absurd (not-suc-le-zero s)
  main-found (suc m) s l = let f = found_from 0 m h refl l in (f.some, omega (arith, f.few), sym f.item)

-- an entry as the code knows it: its item
pub known_read : {board : List ℕ} {e : Entry} {c : Known} → IsKnown board e c → IsItem board e.item c.item
unfolding item_of
known_read {board} {e} {c} is =
    let place : c.item.place ≡ e.place = ap (λ (k : Known). k.item.place) is.same in
    record {
      read = record { same = ap (λ (k : Known). k.item) is.same ∙ ap (item_of board) (sym place); within = is.within };
      item = ap (item_at (format_of board) board) place ∙ sym is.item;
    }

module _ {board : List ℕ} {n number : ℕ} (asked : Numbered board n number) (k : ℕ) (found : k ≡ main_entry (before board n) number) where
  pub main-number-in : (1 ≤ k) × (k ≤ n)
  main-number-in =
      let m = main-found (before board n) number asked.some asked.few in
      (omega arith, omega (arith, length-history (format_of board) board n))

  pub main-item-is : (c : Known) → IsKnown board (entry (before board n) k) c
      → IsItem board (main_item (main_items (before board n)) number) c.item
  main-item-is c is =
      let m = main-found (before board n) number asked.some asked.few in
      rw (m.2, ← found) (known_read is)
