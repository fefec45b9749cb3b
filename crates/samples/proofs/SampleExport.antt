-- Exports of sample elections, on all three curves: lines as text, how long exports are, and where a buffer is short. So what is proved of exports
-- is proved of boards that have one. Paper: request (xi). Assumes nothing.
use Prim.Native.Nat.{ℕ, suc}
use native.Mathlib.Nat.{le_refl}
use mathlib.Core.Path.{◌≡◌, refl}
use mathlib.Core.List.{[], ◌∷◌}
use lib.ListN.{length, replicate}
use lib.Dec.{lit≤}
use borrow.Author.Tests.{lt-ltb, le-ltb}
use Rattle.model.specs.Lists.{if◌then◌otherwise◌, part, keep}
use Rattle.model.specs.Words.{kind_of, code_of, count_of, pair}
use Rattle.model.specs.Traits.{traits_known, traits_of, set_words, curve_of}
use Rattle.model.specs.Item.{Item, item_length, item_at, hashed, words_of}
use Rattle.model.specs.History.{History, entry_of, place_of, history}
use Rattle.model.specs.Audit.{unread, accepted}
use Rattle.model.specs.Program.{digits, decimal}
use Rattle.exporting.specs.Json.{bytes_of, value_text, member_text, members_text, object_text}
use Rattle.exporting.specs.Export.{hex_text, hex_digits, hex_word, hex_words, members_of, line_of, lines_of, export_text, export_outcome}
use Rattle.model.proofs.Decimal.{enough, digits_same}
use Rattle.samples.proofs.SampleElection.{toy, item, election, words_in, board}
use Rattle.samples.proofs.SampleCurves.{past, larger, largest}

-- ---- words and lines

pub words : (hex_word 0x1234abcd ≡ bytes_of "1234abcd") × (hex_word 0xf ≡ bytes_of "0000000f") × (hex_word 0xffffffff ≡ bytes_of "ffffffff")
    × (hex_words (0 ∷ 0x10 ∷ []) ≡ bytes_of "0000000000000010")
unfolding hex_words hex_word hex_digits hex_text bytes_of
words = (refl, refl, refl, refl)

-- the cast of the sample election: a content of no words
pub cast-line : line_of (item 0x10140000 [] 17 17 18)
    ≡ bytes_of "{\"type\":20,\"time\":18,\"parent\":\"0000001100000011000000110000001100000011000000110000001100000011\",\"previous\":\"0000001100000011000000110000001100000011000000110000001100000011\",\"address\":\"0000001200000012000000120000001200000012000000120000001200000012\",\"content\":\"\"}\n"
unfolding line_of object_text members_text member_text value_text members_of bytes_of hex_words hex_word hex_digits hex_text code_of pair digits if◌then◌otherwise◌
cast-line = refl

-- a genesis: eight digits a word, zeros in front, too
abbrev genesis : Item
genesis = record {
  head = 0x10010011;
  content = 0xdeadbeef ∷ replicate 16 0;
  parent = replicate 8 0;
  previous = replicate 8 0;
  stamp = 0 ∷ 5 ∷ [];
  signature = replicate 16 99;
  address = replicate 8 1;
}

pub genesis-line : line_of genesis
    ≡ bytes_of "{\"type\":1,\"time\":5,\"parent\":\"0000000000000000000000000000000000000000000000000000000000000000\",\"previous\":\"0000000000000000000000000000000000000000000000000000000000000000\",\"address\":\"0000000100000001000000010000000100000001000000010000000100000001\",\"content\":\"deadbeef00000000000000000000000000000000000000000000000000000000000000000000000000000000000000000000000000000000000000000000000000000000\"}\n"
unfolding line_of object_text members_text member_text value_text members_of bytes_of hex_words hex_word hex_digits hex_text code_of pair digits if◌then◌otherwise◌
genesis-line = refl

-- the last time but one that there is: its high word comes first
pub late-time : decimal (pair (0xffffffff ∷ 0xfffffffe ∷ [])) ≡ bytes_of "18446744073709551614"
unfolding pair bytes_of digits if◌then◌otherwise◌
late-time = digits_same 18446744073709551614 19 18446744073709551614 (enough 18446744073709551614) (lit≤ tt)

-- ---- whole exports: 17 of the 21 items are main

pub sizes : (length (export_text (history toy board 21)) ≡ 5780) × (length (export_text (past larger)) ≡ 7676)
    × (length (export_text (past largest)) ≡ 9580)
unfolding election export_text lines_of line_of object_text members_text member_text value_text members_of bytes_of hex_words hex_word hex_digits hex_text code_of pair digits if◌then◌otherwise◌ part keep kind_of count_of traits_of traits_known set_words curve_of words_in words_of hashed item_length item_at entry_of place_of history
sizes = (refl, refl, refl)

-- one byte less is too few
short : (h : History) (n : ℕ) → length (export_text h) ≡ suc n → (export_outcome n (accepted h) ≡ unread 2) × (export_outcome (suc n) (accepted h) ≡ accepted h)
unfolding export_outcome if◌then◌otherwise◌
short h n e = rw (e, lt-ltb n (suc n) (le_refl (suc n)), le-ltb (suc n) (suc n) (le_refl (suc n))) (refl, refl)

pub fits : (export_outcome 5779 (accepted (history toy board 21)) ≡ unread 2) × (export_outcome 5780 (accepted (history toy board 21)) ≡ accepted (history toy board 21))
fits = short (history toy board 21) 5779 sizes.0
