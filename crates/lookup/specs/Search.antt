-- What is searched for among the items of a history. Paper: "Parent". Assumes nothing.
use Rattle.std.specs.Prelude.{Bool, ◌&&◌, List, [], ◌∷◌, ℕ, zero, suc}
use Rattle.std.specs.Bool.{beq}
use Rattle.model.specs.Lists.{if◌then◌otherwise◌, part}
use Rattle.model.specs.Words.{same_words}
use Rattle.model.specs.Item.{item_at}
use Rattle.model.specs.History.{History, Entry, main}
use Rattle.format.specs.Format.{format_of}
use Rattle.index.specs.declared.Known.{Known}

-- the entry that the code's view of an item stands for
abbrev pub entry_from : List ℕ → Known → Entry
entry_from board c = record { place = c.item.place; item = item_at (format_of board) board c.item.place; parent = c.parent; session = c.session }

-- an address of a board's width that stands at a place of some words, and of the board itself
abbrev pub address_in : (board from : List ℕ) → ℕ → List ℕ
address_in board from at = part at (format_of board).address from

abbrev pub address_on : List ℕ → ℕ → List ℕ
address_on board = address_in board board

-- a main item, or a hidden one, with that address
abbrev pub addressed : Bool → List ℕ → Entry → Bool
addressed m address e = beq (main e) m && same_words e.item.address address

-- the item number of main number m, where the items are numbered from k on and the main items from 1; 0 where there is none
unfoldable pub main_from : ℕ → ℕ → History → ℕ
unfolding if◌then◌otherwise◌
main_from k m [] = 0
main_from k zero (e ∷ es) = 0
main_from k (suc zero) (e ∷ es) = if main e then k otherwise main_from (suc k) (suc zero) es
main_from k (suc (suc m)) (e ∷ es) = if main e then main_from (suc k) (suc m) es otherwise main_from (suc k) (suc (suc m)) es

abbrev pub main_entry : History → ℕ → ℕ
main_entry h m = main_from 1 m h
