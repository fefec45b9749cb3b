-- Lines of standard input, read one after the other.
use mathlib.Core.Path.{◌≡◌, refl, sym, ap, ◌∙◌}
use Prim.Native.Nat.{ℕ, suc, ◌+◌, ◌-◌, ◌/◌, ◌%◌, ◌≤◌, ◌<◌}
use mathlib.Core.Bool.{Bool, true, false, not, cond, ◌&&◌, and-eq-true_iff}
use mathlib.Core.List.{List, [], ◌∷◌}
use native.Mathlib.Omega.{arith}
use borrow.Author.Tests.{eqb-true, eqb-false, ltb-false, leb-true, eq-eqb, ne_eqb}
use lib.Dec.{eqb, ltb, leb}
use lib.ListN.{length, take, drop, length-drop, drop_of_length-le}
use lib.Seq.{take_all, drop-drop}
use Rattle.std.proofs.Math.Numerals.{one-add}
use Rattle.std.specs.List.{position, position_or_len}
use Rattle.std.specs.Option.{unwrap_or}
use Rattle.std.proofs.lemmas.List.Sums.{prefix_len-le-length}
use Rattle.vectors.specs.Scan.{index_of}
use Rattle.vectors.specs.Hexadecimal.{all_digits, number}
use Rattle.std.proofs.Common.{Option, Some, None, Result, Ok, Err, is_some, is_ok, is_err, ◌^◌}
use Rattle.vectors.specs.declared.input.Hash.{Hash}
use Rattle.vectors.specs.declared.input.Unreadable.{Unreadable}
use Rattle.vectors.specs.Reading.{hash_of, told}
use Rattle.vectors.specs.Input.{none, bits_of, is_hash, is_message, next, begin, lines, all_read}

-- ---- bits

by_test : {X : Type 0} (b : Bool) → (b ≡ true → X) → (b ≡ false → X) → X
by_test true f g = f refl
by_test false f g = g refl

some-hash : (bits : ℕ) → is_some (hash_of bits) ≡ is_hash bits
unfolding hash_of is_hash
some-hash bits =
    by_test (eqb bits 0x256)
    (λ a. rw a refl)
    (λ a. by_test (eqb bits 0x384)
    (λ b. rw (a, b) refl)
    (λ b. by_test (eqb bits 0x512) (λ c. rw (a, b, c) refl) (λ c. rw (a, b, c) refl)))

-- what is told of bits, and of none
told-bits : (bits : ℕ) → (bits ≡ none → ⊥) → Ok (hash_of bits) ≡ told bits
unfolding told
told-bits bits n = rw (ne_eqb bits none) refl

told-none : (bits : ℕ) → bits ≡ none → Err (record {}) ≡ told bits
unfolding told
told-none bits e = rw e refl

-- and the other way round
pub told-ok : (bits : ℕ) {h : Option Hash} → Ok h ≡ told bits → (bits ≡ none → ⊥) × (h ≡ hash_of bits)
unfolding told
told-ok bits {h} e =
    by_test (eqb bits none)
    (λ t. let f : Ok h ≡ Err (record {}) = rw t at e in absurd (cc f))
    (λ t. let f : Ok h ≡ Ok (hash_of bits) = rw t at e in (eqb-false bits none t, cc f))

pub told-err : (bits : ℕ) {u : Unreadable} → Err u ≡ told bits → bits ≡ none
unfolding told
told-err bits {u} e =
    by_test (eqb bits none)
    (λ t. eqb-true bits none t)
    (λ t. let f : Err u ≡ Ok (hash_of bits) = rw t at e in absurd (cc f))

-- ---- a line

module _ (text : List ℕ) {d : Bool} (w : d ≡ all_digits text) where
  pub bits-none : d ≡ false → Err (record {}) ≡ told (bits_of text)
  unfolding bits_of
  bits-none e = told-none (bits_of text) (rw (← w, e) refl)

  pub bits-read : {n : ℕ} {h : Option Hash} → d ≡ true → length text ≡ 3 → n ≡ number text → n < 16 ^ length text → h ≡ hash_of n
      → Ok h ≡ told (bits_of text)
  unfolding bits_of
  bits-read {n} {h} e three q few same =
      let bits : bits_of text ≡ n = rw (← w, e) (sym q) in
      let small : n < 16 ^ 3 = rw three at few in
      rw (same, ← bits) (told-bits (bits_of text) (λ a. omega (arith, bits, small, a)))

pub message-parts : (text : List ℕ) → is_message text ≡ true
    → (length text % 8 ≡ 0) × (length text / 8 ≤ 256) × (all_digits text ≡ true)
unfolding is_message
message-parts text w =
    let a = eqb (length text % 8) 0 in
    let b = leb (length text / 8) 256 in
    let (sizes, digits) = (and-eq-true_iff (a && b) (all_digits text)).0 w in
    let (whole, few) = (and-eq-true_iff a b).0 sizes in
    (eqb-true _ _ whole, leb-true _ _ few, digits)

module _ (bits : ℕ) (line : List ℕ) {h : Option Hash} (stands : h ≡ hash_of bits) where
  pub next-bits : {r : Result (Option Hash) Unreadable} → length line ≡ 3 → r ≡ told (bits_of line) → r ≡ told (next bits line)
  unfolding next
  next-bits e q = rw (eq-eqb (length line) 3) q

  module _ {m : Bool} (n : length line ≡ 3 → ⊥) (w : m ≡ is_message line) where
    pub next-none : m ≡ false → Err (record {}) ≡ told (next bits line)
    unfolding next
    next-none e = told-none (next bits line) (rw (ne_eqb (length line) 3, ← w, e) refl)

    pub next-message : m ≡ true → {k : Hash} → h ≡ Some k → Ok (Some k) ≡ told (next bits line)
    unfolding next is_hash
    next-message e {k} f =
        let known : is_hash bits ≡ true = sym (some-hash bits) ∙ ap is_some (sym stands ∙ f) in
        let same : next bits line ≡ bits = rw (ne_eqb (length line) 3, ← w, e, known) refl in
        rw (same, ← f, stands) (told-bits bits (λ a. let b : is_hash none ≡ true = rw a at known in cc b))

    pub next-unknown : m ≡ true → h ≡ None → Err (record {}) ≡ told (next bits line)
    unfolding next
    next-unknown e f =
        let unknown : is_hash bits ≡ false = sym (some-hash bits) ∙ ap is_some (sym stands ∙ f) in
        told-none (next bits line) (rw (ne_eqb (length line) 3, ← w, e, unknown) refl)

-- ---- lines

-- the first line ends before the first line feed
cut : (cs : List ℕ) (c : ℕ) (t : Bool) → let k = cond (not t) (1 + index_of 0x0a cs) 0 in
    cond t ([] ∷ lines cs) (begin c (lines cs)) ≡ take k (c ∷ cs) ∷ lines (drop (suc k) (c ∷ cs))
unfolding index_of begin lines
cut [] c true = refl
cut [] c false = refl
cut (d ∷ ds) c true = refl
cut (d ∷ ds) c false = rw (one-add (index_of 0x0a (d ∷ ds))) (ap (begin c) (cut ds d (eqb d 0x0a)))

lines-first : (l : List ℕ) → 0 < length l → let k = index_of 0x0a l in lines l ≡ take k l ∷ lines (drop (suc k) l)
unfolding index_of lines
lines-first [] p = absurd (omega arith)
lines-first (c ∷ cs) p = cut cs c (eqb c 0x0a)

-- the place of a byte, or the end of what is left
pub index-few : (c : ℕ) (l : List ℕ) → index_of c l ≤ length l
unfolding index_of
index-few c l = prefix_len-le-length (λ d. not (eqb d c)) l

pub place_or_end : (c : ℕ) (l : List ℕ) {o : Option ℕ} {k : ℕ} → o ≡ position (λ d. eqb d c) l → k ≡ unwrap_or o (length l) → k ≡ index_of c l
unfolding index_of
place_or_end c l {o} {k} e f =
    let here : ℕ = position_or_len (λ d. eqb d c) l in
    let g : k ≡ unwrap_or (cond (ltb here (length l)) (Some here) None) (length l) = f ∙ ap (λ (v : Option ℕ). unwrap_or v (length l)) e in
    by_test (ltb here (length l))
    (λ t. rw t at g)
    (λ t. let end : k ≡ length l = rw t at g in omega (arith, end, ltb-false here (length l) t, prefix_len-le-length (λ d. not (eqb d c)) l))

module _ (text : List ℕ) (bits : ℕ) (from end : ℕ) {t : Result (Option Hash) Unreadable} {r : Bool} (p : from < length text)
    (e : end ≡ from + index_of 0x0a (take (length text - from) (drop from text))) (n : t ≡ told (next bits (take (end - from) (drop from text))))
    (w : r ≡ all_read bits (lines (drop from text))) where
  -- the bits behind the line
  abbrev behind : ℕ
  behind = next bits (take (end - from) (drop from text))

  -- all lines, by the first of those that are left
  first : r ≡ (not (eqb behind none) && all_read behind (lines (drop (end + 1) text)))
  unfolding all_read
  first =
      let l = drop from text in
      let k = index_of 0x0a l in
      let f : end ≡ from + k = e ∙ rw (take_all (length text - from) l (rw length-drop (omega arith))) in
      let here : end - from ≡ k = omega arith in
      let there : end + 1 ≡ from + suc k = omega arith in
      w ∙ ap (all_read bits) (lines-first l (rw length-drop (omega arith))) ∙ rw (drop-drop, here, there)

  pub read_next : {h : Option Hash} → t ≡ Ok h
      → (b : ℕ) × (h ≡ hash_of b) × (r ≡ all_read b (lines (drop (end + 1) text)))
  read_next q = let (known, stands) = told-ok behind (sym q ∙ n) in (behind, stands, first ∙ rw (ne_eqb behind none))

  pub read_none : {u : Unreadable} → t ≡ Err u → false ≡ r
  read_none q = let unknown = told-err behind (sym q ∙ n) in sym (first ∙ rw (eq-eqb behind none))

pub no-ok : {A E : Type 0} (r : Result A E) → is_err r ≡ true → is_ok r ≡ false
no-ok (Ok x) e = absurd (cc e)
no-ok (Err u) e = refl

pub read_all : (text : List ℕ) (bits from : ℕ) {r : Bool} → length text ≤ from → r ≡ all_read bits (lines (drop from text)) → true ≡ r
unfolding lines all_read
read_all text bits from p w = sym (w ∙ rw (drop_of_length-le text p))
