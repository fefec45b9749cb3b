-- Laws of the text of an export: a line by its parts, its length, its bytes, lines after lines, and what they rest on.
-- Paper: request (xi). Assumes nothing.
use Prim.Native.Nat.{ℕ, ◌+◌, ◌*◌, ◌≤◌, ◌<◌}
use Prim.Native.String.{String}
use native.Mathlib.Omega.{arith}
use mathlib.Core.Path.{◌≡◌, refl, sym, ap, ◌∙◌}
use mathlib.Core.Bool.{Bool, true, not, ◌&&◌}
use mathlib.Core.List.{List, [], ◌∷◌, ◌++◌, map, append_assoc}
use lib.ListN.{length, get_or, length-append}
use lib.Dec.{T, eqb, leb}
use Rattle.model.specs.Words.{between, every_below}
use Rattle.model.specs.Item.{Item, code, time, unsigned}
use Rattle.model.specs.History.{History, main_items}
use Rattle.model.specs.Program.{newline, decimal}
use Rattle.model.proofs.Tests.{is_true, facts}
use Rattle.exporting.specs.Json.{bytes_of, value_text, member_text, members_text, object_text}
use Rattle.exporting.specs.Export.{hex_text, hex_words, members_of, line_of, lines_of, export_text}
use Rattle.exporting.proofs.Bytes.{all, all_append, all-at, all-decimal}
use Rattle.exporting.proofs.Hex.{length-hex_words, all-hex_words}

-- ---- a line

-- a member with a number, and one with a string
abbrev number_part : String → ℕ → List ℕ
number_part key n = bytes_of key ++ decimal n

abbrev string_part : String → List ℕ → List ℕ
string_part key ws = bytes_of key ++ (hex_words ws ++ bytes_of "\"")

line-members : (i : Item) → line_of i
    ≡ bytes_of "{" ++ (number_part "\"type\":" (code i) ++ bytes_of "," ++ (number_part "\"time\":" (time i) ++ bytes_of ","
    ++ (string_part "\"parent\":\"" i.parent ++ bytes_of "," ++ (string_part "\"previous\":\"" i.previous ++ bytes_of ","
    ++ (string_part "\"address\":\"" i.address ++ bytes_of "," ++ string_part "\"content\":\"" i.content))))) ++ bytes_of "}" ++ (newline ∷ [])
unfolding line_of object_text members_of members_text member_text value_text bytes_of
line-members i = refl

-- the opening bracket o, keys t to c, their values a to f, the comma s, the quote q, the closing bracket e, the byte that ends the line z
regroup : (o t a s u b v c q w d x e y f z n : List ℕ) →
    o ++ (t ++ a ++ s ++ (u ++ b ++ s ++ (v ++ (c ++ q) ++ s ++ (w ++ (d ++ q) ++ s ++ (x ++ (e ++ q) ++ s ++ (y ++ (f ++ q))))))) ++ z ++ n
    ≡ (o ++ t) ++ (a ++ ((s ++ u) ++ (b ++ ((s ++ v) ++ (c ++ ((q ++ s ++ w) ++ (d ++ ((q ++ s ++ x) ++ (e ++ ((q ++ s ++ y) ++ (f ++ (q ++ z ++ n))))))))))))
regroup o t a s u b v c q w d x e y f z n = simp append_assoc

-- by what the code writes: fixed bytes, numbers and strings in turns
pub line-parts : (i : Item) → line_of i
    ≡ bytes_of "{\"type\":" ++ (decimal (code i) ++ (bytes_of ",\"time\":" ++ (decimal (time i)
    ++ (bytes_of ",\"parent\":\"" ++ (hex_words i.parent
    ++ (bytes_of "\",\"previous\":\"" ++ (hex_words i.previous
    ++ (bytes_of "\",\"address\":\"" ++ (hex_words i.address
    ++ (bytes_of "\",\"content\":\"" ++ (hex_words i.content ++ bytes_of "\"}\n")))))))))))
unfolding bytes_of
line-parts i =
    line-members i
    ∙ regroup (bytes_of "{") (bytes_of "\"type\":") (decimal (code i)) (bytes_of ",") (bytes_of "\"time\":") (decimal (time i))
    (bytes_of "\"parent\":\"") (hex_words i.parent) (bytes_of "\"") (bytes_of "\"previous\":\"") (hex_words i.previous)
    (bytes_of "\"address\":\"") (hex_words i.address) (bytes_of "\"content\":\"") (hex_words i.content) (bytes_of "}") (newline ∷ [])

pub line-length : (i : Item) → length (line_of i) ≡ 70 + length (decimal (code i)) + length (decimal (time i))
    + 8 * (length i.parent + length i.previous + length i.address + length i.content)
unfolding bytes_of
line-length i = ap length (line-parts i) ∙ simp (length-append, length-hex_words) (omega arith)

-- ---- its bytes

-- printable and no space, no `\`, no capital letter
abbrev pub plain : ℕ → Bool
plain b = leb 33 b && leb b 126 && not (eqb b 92) && not (between 65 90 b)

pub plain_byte : (b : ℕ) → T (plain b) → (33 ≤ b) × (b ≤ 126) × (b ≡ 92 → ⊥) × (65 ≤ b → b ≤ 90 → ⊥)
plain_byte b t = let (((low, high), escape), capital) = simp facts at t in (low, high, escape, λ l m. capital (l, m))

number-plain : (n : ℕ) → all plain (decimal n) ≡ true
unfolding every_below
number-plain n = is_true _ (all-decimal plain tt n)

string-plain : (ws : List ℕ) → all plain (hex_words ws) ≡ true
unfolding every_below hex_text bytes_of
string-plain ws = is_true _ (all-hex_words plain tt ws)

pub object-plain : (i : Item) → T (all plain (object_text (members_of i)))
unfolding object_text members_of members_text member_text value_text bytes_of all
object-plain i = simp (all_append, number-plain, string-plain) tt

pub object-bytes : (i : Item) (k : ℕ) → k < length (object_text (members_of i)) → let b = get_or (object_text (members_of i)) k 0 in
    (33 ≤ b) × (b ≤ 126) × (b ≡ 92 → ⊥) × (65 ≤ b → b ≤ 90 → ⊥)
object-bytes i k l = plain_byte _ (all-at plain (object_text (members_of i)) k (object-plain i) l)

-- ---- lines after lines

pub lines_of-append : (is js : List Item) → lines_of (is ++ js) ≡ lines_of is ++ lines_of js
unfolding lines_of
lines_of-append [] js = refl
lines_of-append (i ∷ is) js = ap (λ (ls : List ℕ). line_of i ++ ls) (lines_of-append is js) ∙ sym (append_assoc (line_of i) (lines_of is) (lines_of js))

-- ---- what it rests on: the main items, signatures left aside

lines-unsigned : (is : List Item) → lines_of (map unsigned is) ≡ lines_of is
unfolding lines_of line_of members_of
lines-unsigned [] = refl
lines-unsigned (i ∷ is) = ap (line_of i ++◌) (lines-unsigned is)

pub export-alone : (g h : History) → map unsigned (main_items g) ≡ map unsigned (main_items h) → export_text g ≡ export_text h
unfolding export_text
export-alone g h e = sym (lines-unsigned (main_items g)) ∙ ap lines_of e ∙ lines-unsigned (main_items h)
