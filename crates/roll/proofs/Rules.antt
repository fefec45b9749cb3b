-- Check 21, by its tests. Assumes nothing.
use Prim.Native.Nat.{ℕ}
use mathlib.Core.Path.{◌≡◌}
use mathlib.Core.Bool.{true}
use mathlib.Core.List.{List}
use Rattle.model.specs.Codes.{session_type}
use Rattle.model.specs.Item.{Item, word}
use Rattle.model.specs.Roll.{Eligibility, on_roll_ok}
use Rattle.index.specs.declared.Known.{Known}
use Rattle.index.specs.Kept.{item_after}
use Rattle.state.specs.declared.State.{State}
use Rattle.state.specs.Stands.{AtItem}
use Rattle.fields.proofs.Words.{of-type, of-other}

module _ {board index : List ℕ} {s : State} {c : Known} (a : AtItem board index s c) (on : Eligibility) where
  abbrev i : Item
  i = item_after board s.items

  pub roll-other : (c.item.head.code ≡ session_type → ⊥) → true ≡ on_roll_ok on i
  unfolding on_roll_ok
  roll-other q = of-other a session_type q _

  pub roll-is : c.item.head.code ≡ session_type → on (word 0 i) (word 1 i) ≡ on_roll_ok on i
  unfolding on_roll_ok
  roll-is q = of-type a session_type q _
