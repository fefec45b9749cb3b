-- A sound board of genesis alone on every curve and for sets of either width, whatever the hashes, if their digests have 8, 12 and 16 words:
-- so what is claimed of boards on a curve is claimed of something. Paper: request (ix). Assumes nothing.
use Prim.Native.Nat.{ℕ, ◌<◌, ◌≤◌}
use native.Mathlib.Omega.{arith}
use mathlib.Core.Path.{◌≡◌, refl, sym, ap, subst}
use mathlib.Core.List.{List, [], ◌∷◌, ◌++◌}
use lib.ListN.{length, replicate, length-replicate, length-append}
use lib.Dec.{lit≤}
use Rattle.model.specs.Lists.{if◌then◌otherwise◌, ◌⇒◌, part, any, keep}
use Rattle.model.specs.Words.{kind_of, code_of, count_of, pair, closing_word}
use Rattle.model.specs.Format.{Format, Hashes, Curve}
use Rattle.model.specs.Traits.{traits_head, curve_number, format_with, format_of}
use Rattle.model.specs.Item.{Item, item_length, hashed, words_of}
use Rattle.model.specs.Types.{administrator, zeros, from◌to◌, row_of, row_in, table, fits}
use Rattle.model.specs.History.{History, main_item, end_after, end_address, entry_of}
use Rattle.model.specs.Links.{address_ok, previous_ok, parent_ok, time_ok}
use Rattle.model.specs.Phase.{extraction_ok, open_ok, standing_ok, latest_ok, intent_ok, spoiled_ok, phase_ok}
use Rattle.model.specs.Only.{on_board_ok, under_parent_ok, under_ballot_ok, only_ok}
use Rattle.model.specs.Roll.{electors, rising, is_bad_roll, on_roll, on_roll_ok}
use Rattle.model.specs.Keys.{opening, key_of, good_verdict}
use Rattle.model.specs.Sound.{Meets, none, next, Sound}
use Rattle.model.proofs.Tests.{same-iff}
use Rattle.model.proofs.Parsing.{length-words}
use Rattle.model.proofs.Traits.{traits-read, by-curve, Sizes, sizes}
use Rattle.model.proofs.Genesis.{genesis-traits}

-- the digests have as many words as the request says
abbrev DigestWords : Hashes → Type 0
DigestWords s = (m : List ℕ) → (length (s.sha256 m) ≡ 8) × (length (s.sha384 m) ≡ 12) × (length (s.sha512 m) ≡ 16)

module _ (s : Hashes) (words : DigestWords s) (t : ℕ) (known : t < 6) where
  abbrev f : Format
  f = format_with s t

  abbrev content : List ℕ
  content = replicate 17 0 ++ (t ∷ [])

  abbrev unaddressed : Item
  unaddressed = record {
    head = traits_head;
    content = content;
    parent = replicate f.address 0;
    previous = replicate f.address 0;
    stamp = replicate 2 0;
    signature = replicate f.signature 0;
    address = [];
  }

  abbrev genesis : Item
  genesis = record {
    head = traits_head;
    content = content;
    parent = replicate f.address 0;
    previous = replicate f.address 0;
    stamp = replicate 2 0;
    signature = replicate f.signature 0;
    address = f.hash (hashed unaddressed);
  }

  abbrev verdict : List ℕ
  verdict = good_verdict (replicate 8 0)

  address-width : (m : List ℕ) → length (f.hash m) ≡ f.address
  address-width m = by-curve (λ (c : Curve). length (c.hash s m) ≡ c.address) (words m).0 (words m).1 (words m).2 (curve_number t)

  meets : Meets f (on_roll []) [] verdict genesis
  unfolding row_of row_in table fits kind_of code_of count_of address_ok previous_ok parent_ok time_ok phase_ok extraction_ok open_ok standing_ok latest_ok intent_ok spoiled_ok only_ok on_board_ok under_parent_ok under_ballot_ok on_roll_ok key_of opening part end_address end_after main_item any keep hashed ◌⇒◌ if◌then◌otherwise◌ pair
  meets = record {
    listed = record { row = record { code = 1; kind = 1; writer = administrator; parent = zeros; counts = from◌to◌ 17 18 }; found = refl };
    counted = tt;
    shaped = record { content = refl; parent = length-replicate _ _; previous = length-replicate _ _; stamp = refl; signature = length-replicate _ _; address = address-width _ };
    address = (same-iff _ genesis.address).1 refl;
    previous = (same-iff genesis.previous _).1 refl;
    parent = (same-iff genesis.parent _).1 refl;
    time = tt;
    phase = tt;
    only = tt;
    content = (genesis-traits f [] genesis refl).1 known;
    enrolled = tt;
    verdict = refl;
  }

  abbrev board : List ℕ
  board = words_of genesis ++ (closing_word 1 ∷ [])

  abbrev history : History
  history = entry_of [] 0 genesis ∷ []

  format-is : format_of s board ≡ f
  unfolding words_of hashed
  format-is = ap (format_with s) (traits-read board refl known)

  short : length board ≤ 262144
  unfolding item_length count_of
  short =
      let n = length-words f genesis meets.shaped in
      let z = subst (λ (g : Format). Sizes g) format-is (sizes s board) in
      simp length-append (omega arith)

  sound : Sound f board verdict [] history
  unfolding electors rising is_bad_roll
  sound = record { words = words_of genesis; passed = next [] [] [] verdict genesis none meets; good_roll = tt; opened = lit≤ tt; few = lit≤ tt; short = short; closed = refl }

  pub some-board : (ws : List ℕ) × (vs : List ℕ) × (h : History) × (format_of s ws ≡ f) × Sound (format_of s ws) ws vs [] h
  some-board = (board, verdict, history, format-is, subst (λ (g : Format). Sound g board verdict [] history) (sym format-is) sound)
