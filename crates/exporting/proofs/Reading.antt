-- What a reader makes of an export: the lines are the objects of the main items, and each object has the members that it was made of.
-- Paper: request (xi). Assumes nothing.
use Prim.Native.Nat.{ℕ, suc}
use native.Mathlib.Omega.{arith}
use mathlib.Core.Path.{◌≡◌, refl, sym, ap, ◌∙◌}
use mathlib.Core.Bool.{Bool, false, not}
use mathlib.Core.List.{List, [], ◌∷◌, ◌++◌, map, append-nil, append_assoc}
use lib.ListN.{length, get_or, drop}
use lib.Dec.{T, eqb}
use borrow.Author.Tests.{not-true}
use Rattle.model.specs.Words.{every_below}
use Rattle.model.specs.Item.{Item}
use Rattle.model.specs.History.{History, main_items}
use Rattle.model.specs.Program.{newline, decimal}
use Rattle.model.proofs.Tests.{is_true, facts, ne→neqb, if_yes, if_no}
use Rattle.model.proofs.Lists.{Every}
use Rattle.model.proofs.Decimal.{decimal-value}
use Rattle.exporting.specs.Json.{bytes_of, quote, Value, number, string, Member, value_text, member_text, members_text, object_text}
use Rattle.exporting.specs.Export.{hex_text, hex_words, members_of, line_of, lines_of, export_text}
use Rattle.exporting.specs.Reading.{lines_from, lines_in, up_to, behind, is_digit, in_string, read_value, behind_value, read_members, members_in}
use Rattle.exporting.proofs.Bytes.{all, all_first, all_map, all-decimal}
use Rattle.exporting.proofs.Hex.{all-hex_words}
use Rattle.exporting.proofs.Text.{plain, plain_byte, object-plain}

-- ---- lines

abbrev in_line : ℕ → Bool
in_line b = not (eqb b newline)

line_read : (begun a rest : List ℕ) → T (all in_line a) → lines_from begun (a ++ (newline ∷ rest)) ≡ (begun ++ a) ∷ lines_from [] rest
unfolding lines_from
line_read begun [] rest t = ap (◌∷ lines_from [] rest) (sym (append-nil begun))
line_read begun (b ∷ a) rest t =
    let (here, others) = all_first in_line b a t in
    if_no (eqb b newline) _ _ here
    ∙ line_read (begun ++ (b ∷ [])) a rest others
    ∙ ap (◌∷ lines_from [] rest) (append_assoc begun (b ∷ []) a)

plain-in_line : (b : ℕ) → T (plain b) → T (in_line b)
plain-in_line b t = let low = (plain_byte b t).0 in ne→neqb b newline (λ e. omega arith)

object-line : (i : Item) → T (all in_line (object_text (members_of i)))
object-line i = all_map plain in_line plain-in_line (object_text (members_of i)) (object-plain i)

lines-read : (is : List Item) → lines_in (lines_of is) ≡ map (λ i. object_text (members_of i)) is
unfolding lines_of line_of lines_from
lines-read [] = refl
lines-read (i ∷ is) =
    let object = object_text (members_of i) in
    ap lines_in (append_assoc object (newline ∷ []) (lines_of is))
    ∙ line_read [] object (lines_of is) (object-line i)
    ∙ ap (object ∷◌) (lines-read is)

pub export-lines : (h : History) → lines_in (export_text h) ≡ map (λ i. object_text (members_of i)) (main_items h)
unfolding export_text
export-lines h = lines-read (main_items h)

-- ---- up to a byte that fails a test

module _ (p : ℕ → Bool) (b : ℕ) (rest : List ℕ) (fails : T (not (p b))) where
  up_to-end : (a : List ℕ) → T (all p a) → up_to p (a ++ (b ∷ rest)) ≡ a
  unfolding up_to
  up_to-end [] t = if_no (p b) _ _ fails
  up_to-end (x ∷ a) t = let (here, others) = all_first p x a t in if_yes (p x) _ _ here ∙ ap (x ∷◌) (up_to-end a others)

  behind-end : (a : List ℕ) → T (all p a) → behind p (a ++ (b ∷ rest)) ≡ b ∷ rest
  unfolding behind
  behind-end [] t = if_no (p b) _ _ fails
  behind-end (x ∷ a) t = let (here, others) = all_first p x a t in if_yes (p x) _ _ here ∙ behind-end a others

-- ---- a value, and a member, before a byte y

-- `:`, `,` and `}`
abbrev colon : ℕ
colon = 58

abbrev comma : ℕ
comma = 44

abbrev close : ℕ
close = 125

-- a string with no quote in it
abbrev Unquoted : Value → Type 0
Unquoted (number n) = Unit {0}
Unquoted (string s) = T (all in_string s)

abbrev Readable : Member → Type 0
Readable m = T (all in_string m.key) × Unquoted m.value

digit-in_string : (b : ℕ) → T (is_digit b) → T (in_string b)
digit-in_string b t = let (low, high) = simp facts at t in ne→neqb b quote (λ e. omega arith)

decimal-digits : (n : ℕ) → T (all is_digit (decimal n))
unfolding every_below
decimal-digits = all-decimal is_digit tt

-- y is no digit and no quote
module _ (y : ℕ) (rest : List ℕ) (end : T (not (is_digit y))) (other : T (in_string y)) where
  digits-open : (ds : List ℕ) → T (all is_digit ds) → T (in_string (get_or (ds ++ (y ∷ rest)) 0 0))
  digits-open [] t = other
  digits-open (d ∷ ds) t = digit-in_string d (all_first is_digit d ds t).0

  -- no quote opens a number
  number-opens : (n : ℕ) → eqb (get_or (decimal n ++ (y ∷ rest)) 0 0) quote ≡ false
  number-opens n = not-true _ (is_true _ (digits-open (decimal n) (decimal-digits n)))

  string-end : (s : List ℕ) → s ++ (quote ∷ []) ++ (y ∷ rest) ≡ s ++ (quote ∷ y ∷ rest)
  string-end s = append_assoc s (quote ∷ []) (y ∷ rest)

  value_read_lem : (v : Value) → Unquoted v → read_value (value_text v ++ (y ∷ rest)) ≡ v
  unfolding read_value value_text
  value_read_lem (number n) u = rw (number-opens n, up_to-end is_digit y rest end (decimal n) (decimal-digits n), decimal-value n)
  value_read_lem (string s) u =
      ap (λ (bs : List ℕ). string (up_to in_string bs)) (string-end s) ∙ ap string (up_to-end in_string quote (y ∷ rest) tt s u)

  value-behind : (v : Value) → Unquoted v → behind_value (value_text v ++ (y ∷ rest)) ≡ y ∷ rest
  unfolding behind_value value_text
  value-behind (number n) u = rw (number-opens n, behind-end is_digit y rest end (decimal n) (decimal-digits n))
  value-behind (string s) u =
      ap (λ (bs : List ℕ). drop 1 (behind in_string bs)) (string-end s) ∙ ap (drop 1) (behind-end in_string quote (y ∷ rest) tt s u)

  member-parts : (m : Member) → member_text m ++ (y ∷ rest) ≡ quote ∷ m.key ++ (quote ∷ colon ∷ value_text m.value ++ (y ∷ rest))
  unfolding member_text bytes_of
  member-parts m = simp append_assoc

  member-read : (n : ℕ) (m : Member) → Readable m → read_members (suc n) (member_text m ++ (y ∷ rest)) ≡ m ∷ read_members n rest
  unfolding read_members
  member-read n m (key, value) =
      let behind_key = colon ∷ value_text m.value ++ (y ∷ rest) in
      let key_read = up_to-end in_string quote behind_key tt m.key key in
      let here = ap (drop 2) (behind-end in_string quote behind_key tt m.key key) in
      let value_read = ap read_value here ∙ value_read_lem m.value value in
      let after = ap behind_value here ∙ value-behind m.value value in
      ap (read_members (suc n)) (member-parts m)
      ∙ (λ j. record { key = key_read j; value = value_read j } ∷ read_members n (drop 1 (after j)))

-- ---- an object

members-read : (ms : List Member) → Every Readable ms → read_members (length ms) (members_text ms ++ bytes_of "}") ≡ ms
unfolding read_members members_text bytes_of
members-read [] r = refl
members-read (m ∷ []) r = member-read close [] tt tt 0 m r.0
members-read (m ∷ n ∷ ms) r =
    let others = members_text (n ∷ ms) ++ bytes_of "}" in
    let regroup : members_text (m ∷ n ∷ ms) ++ bytes_of "}" ≡ member_text m ++ (comma ∷ others) = simp append_assoc in
    ap (read_members (length (m ∷ n ∷ ms))) regroup
    ∙ member-read comma others tt tt (length (n ∷ ms)) m r.0
    ∙ ap (m ∷◌) (members-read (n ∷ ms) r.1)

hex-in_string : (ws : List ℕ) → T (all in_string (hex_words ws))
unfolding every_below hex_text bytes_of
hex-in_string = all-hex_words in_string tt

pub object-read : (i : Item) → members_in (object_text (members_of i)) ≡ members_of i
unfolding object_text members_of bytes_of all
object-read i =
    let hex = hex-in_string in
    members-read (members_of i)
    ((tt, tt), ((tt, tt), ((tt, hex i.parent), ((tt, hex i.previous), ((tt, hex i.address), ((tt, hex i.content), tt))))))
