-- Receipts: where they are refused, what is written for them, and that each answer is the main number of the first cast with the receipt's
-- address and signature, in the board cut behind any item too. Paper: request (ii). Assumes nothing.
use Prim.Native.Nat.{ℕ, suc, ◌+◌, ◌-◌, ◌*◌, ◌≤◌, ◌<◌}
use native.Mathlib.Nat.{add-zero, add_assoc, mul-zero, mul_comm, suc-mul, one-mul, mul-le-mul_right}
use native.Mathlib.Decide.{dec_lt}
use native.Mathlib.Omega.{arith}
use mathlib.Core.Path.{◌≡◌, refl, sym, ap, ap₂, subst, ◌∙◌}
use mathlib.Core.Logic.Iff
use mathlib.Core.Logic.{◌≢◌, ◌↔◌, by_cases}
use mathlib.Core.Bool.{not, ◌&&◌}
use mathlib.Core.List.{List, [], ◌∷◌, ◌++◌}
use lib.Arith.{lt→nleb}
use lib.ListN.{length, get_or, take, length-append, length-map, get_or-eq_default}
use lib.Seq.{take-append_seam}
use lib.Dec.{T, eqb, leb, le→leb}
use Rattle.model.specs.Lists.{if◌then◌otherwise◌, part, any, count, tabulate}
use Rattle.model.specs.Words.{same_words}
use Rattle.model.specs.Codes.{cast_type}
use Rattle.model.specs.Refusal.{short_table, bad_receipts}
use Rattle.model.specs.Format.{Format, Hashes}
use Rattle.model.specs.Traits.{format_of}
use Rattle.model.specs.Item.{Item, code}
use Rattle.model.specs.History.{History, Entry, first, typed, main, main_item, main_items, main_number}
use Rattle.model.specs.Roll.{Eligibility}
use Rattle.model.specs.Audit.{Outcome, unread, refused, accepted, audit, item_limit}
use Rattle.model.specs.Report.{no_number, number_word, filled}
use Rattle.model.specs.Sound.{Passed, Sound}
use Rattle.model.specs.Cut.{cut_board, cut_verdicts}
use Rattle.model.specs.Receipts.{Receipt, receipt_limit, receipt_size, receipt_count, receipt_at, matches, cast_of, receipt_answer, is_bad_receipts, receipts_audit, receipt_answers, answers_after}
use Rattle.model.proofs.Tests.{if-then, and-iff, eqb-iff, same-iff}
use Rattle.model.proofs.Lists.{Every, every_map, every_take, count-few, length-tabulate, get_or-tabulate}
use Rattle.model.proofs.Parts.{length_part, part-add, part-part}
use Rattle.model.proofs.Numbers.{entry-snoc, every-entry, main-next, OnlyMain, first-bound}
use Rattle.model.proofs.Entries.{typed-only, orderly}
use Rattle.model.proofs.Acceptance.{not-unread, unread-number}
use Rattle.model.proofs.Tables.{number-some, number-none, number-used, length-filled, get_or-filled}
use Rattle.model.proofs.Above.{checked-none, by-checked, checked-passes, checked-fails, parts-count, parts-good, refuses-bad, buffer-made}
use Rattle.model.proofs.Traits.{sizes}
use Rattle.model.proofs.Receipts.{answer-next}
use Rattle.model.proofs.Cut.{cut-audited}
use Rattle.model.proofs.MainItems.{only, items_alone, mains-count, among-mains, alone-is, alone-none}

-- ---- whole receipts

-- a board's receipts have words
pub receipt-some : (s : Hashes) (ws : List ℕ) → 0 < receipt_size (format_of s ws)
receipt-some s ws = let b = sizes s ws in omega arith

module _ (f : Format) (rs : List ℕ) where
  abbrev size : ℕ
  size = receipt_size f

  pub receipt-words : (n k : ℕ) → length rs ≡ n * size → k < n → let r = receipt_at f rs k in
      (part (k * size) size rs ≡ r.signature ++ r.address) × (length r.signature ≡ f.signature) × (length r.address ≡ f.address)
  unfolding receipt_at
  receipt-words n k e l =
      let place = size * k in
      let inside : place + size ≤ length rs = omega (arith, mul-le-mul_right size l, suc-mul k size, mul_comm k size) in (
        ap (λ (p : ℕ). part p size rs) (mul_comm k size) ∙ part-add place f.signature f.address rs,
        length_part place f.signature rs (omega arith),
        length_part (place + f.signature) f.address rs (omega arith),
      )

  -- a receipt alone is the first of its own words
  receipt-itself : (k : ℕ) → receipt_at f (part (k * size) size rs) 0 ≡ receipt_at f rs k
  unfolding receipt_at
  receipt-itself k =
      let first : k * size + size * 0 ≡ size * k = ap₂ ◌+◌ (mul_comm k size) (mul-zero size) ∙ add-zero (size * k) in
      let later : k * size + (size * 0 + f.signature) ≡ size * k + f.signature =
      sym (add_assoc (k * size) (size * 0) f.signature) ∙ ap (◌+ f.signature) first in
      let none = mul-zero size in
      ap₂ (λ (s a : List ℕ). record { signature = s; address = a })
      (part-part (size * 0) f.signature (k * size) size rs (omega arith) ∙ ap (λ (p : ℕ). part p f.signature rs) first)
      (part-part (size * 0 + f.signature) f.address (k * size) size rs (omega arith) ∙ ap (λ (p : ℕ). part p f.address rs) later)

-- ---- the entry

-- the number of a refusal before the audit
abbrev number_of : Outcome → ℕ
number_of (unread n) = n
number_of (refused n k) = 0
number_of (accepted h) = 0

module _ (f : Format) (some : 0 < receipt_size f) (ws vs roll rs : List ℕ) (index ballots answers : ℕ) where
  abbrev audited : Outcome
  audited = audit f ws vs roll index ballots

  abbrev answering : Outcome
  answering = receipts_audit f ws vs roll rs index ballots answers

  abbrev AreReceipts : ℕ → Type 0
  AreReceipts n = (length rs ≡ n * receipt_size f) × (n ≤ receipt_limit)

  count-is : (n : ℕ) → AreReceipts n → receipt_count f rs ≡ n
  count-is n whole = parts-count (receipt_size f) some rs n whole.0

  are-good : (n : ℕ) → AreReceipts n → T (not (is_bad_receipts f rs))
  are-good = parts-good (receipt_size f) some rs receipt_limit

  -- 22 is no number of the audit
  not-audited : audited ≡ unread bad_receipts → ⊥
  unfolding any
  not-audited e = unread-number f ws vs roll index ballots bad_receipts e

  pub bad-receipts : (answering ≡ unread bad_receipts) ↔ ((n : ℕ) → AreReceipts n → ⊥)
  unfolding receipts_audit
  bad-receipts =
      refuses-bad (receipt_size f) some rs receipt_limit audited 21 _
      (by-checked audited 1 (leb (receipt_count f rs) answers) [] (λ o. o ≡ unread bad_receipts → ⊥)
      (λ t e. not-audited (sym (checked-none audited) ∙ e)) (λ t e. omega (arith, ap number_of e)))

  pub short-answers : (n : ℕ) → AreReceipts n → answers < n → answering ≡ unread short_table
  unfolding receipts_audit
  short-answers n whole l =
      checked-passes audited 21 (not (is_bad_receipts f rs)) _ (are-good n whole)
      ∙ checked-fails audited 1 (leb (receipt_count f rs) answers) [] (lt→nleb (receipt_count f rs) answers (subst (answers <◌) (sym (count-is n whole)) l))

  pub receipts-audited : (n : ℕ) → AreReceipts n → n ≤ answers → answering ≡ audited
  unfolding receipts_audit
  receipts-audited n whole l =
      checked-passes audited 21 (not (is_bad_receipts f rs)) _ (are-good n whole)
      ∙ checked-passes audited 1 (leb (receipt_count f rs) answers) [] (le→leb (receipt_count f rs) answers (subst (◌≤ answers) (sym (count-is n whole)) l))
      ∙ checked-none audited

  -- so of an accepted board the answers buffer has room for all
  answers-fit : (h : History) → answering ≡ accepted h → (n : ℕ) → AreReceipts n → n ≤ answers
  answers-fit h a n whole = by_cases (dec_lt answers n) (λ l. absurd (not-unread (sym (short-answers n whole l) ∙ a))) (λ l. omega arith)

-- ---- what is written

module _ (f : Format) (rs : List ℕ) (h : History) (n : ℕ) (number : receipt_count f rs ≡ n) where
  abbrev word : ℕ → ℕ
  word k = receipt_answer (receipt_at f rs k) h

  written : (o : Outcome) (answers : List ℕ) → o ≡ accepted h → answers_after f rs o answers ≡ filled (length answers) (tabulate word n)
  unfolding receipt_answers
  written o answers a = buffer-made o _ answers a ∙ ap (λ (m : ℕ). filled (length answers) (tabulate word m)) number

  filled-answers : (answers after : List ℕ) → after ≡ filled (length answers) (tabulate word n) → n ≤ length answers
      → (length after ≡ length answers) × ((k : ℕ) → k < n → get_or after k 0 ≡ word k) × ((k : ℕ) → n ≤ k → get_or after k 0 ≡ 0)
  filled-answers answers after e room =
      let size = length-tabulate word n in
      let at : (k : ℕ) → get_or after k 0 ≡ get_or (tabulate word n) k 0 =
      λ k. ap (λ (s : List ℕ). get_or s k 0) e ∙ get_or-filled (length answers) (tabulate word n) k in (
        ap length e ∙ length-filled (length answers) (tabulate word n) (omega arith),
        λ k l. at k ∙ get_or-tabulate word n k 0 l,
        λ k l. at k ∙ get_or-eq_default (tabulate word n) 0 (omega arith),
      )

pub answers-written : (f : Format) → 0 < receipt_size f → (ws vs roll rs : List ℕ) (index ballots : ℕ) (answers : List ℕ) (h : History)
    → let o = receipts_audit f ws vs roll rs index ballots (length answers) in
    o ≡ accepted h → (n : ℕ) → (length rs ≡ n * receipt_size f) × (n ≤ receipt_limit) → let after = answers_after f rs o answers in
    (length after ≡ length answers) × ((k : ℕ) → k < n → get_or after k 0 ≡ receipt_answer (receipt_at f rs k) h) × ((k : ℕ) → n ≤ k → get_or after k 0 ≡ 0)
answers-written f some ws vs roll rs index ballots answers h a n whole =
    let number = parts-count (receipt_size f) some rs n whole.0 in
    filled-answers f rs h n number answers _ (written f rs h n number _ answers a) (answers-fit f some ws vs roll rs index ballots (length answers) h a n whole)

-- ---- the first cast, by its main number

-- the answer, of what is found
found_word : (n m : ℕ) {X : Type 0} → m ≢ no_number → (1 ≤ m → (n ≡ m) ↔ X) → (X → 1 ≤ m) → (number_word n ≡ m) ↔ X
found_word n m ne is some = (
  λ e. let used = number-used n (λ q. ne (sym e ∙ q)) in
      let same : n ≡ m = sym (number-some n (omega arith)) ∙ e in
      (is (omega arith)).0 same,
  λ x. ap number_word ((is (some x)).1 x) ∙ number-some m (some x),
)

none-word : (n : ℕ) → n ≤ item_limit → (number_word n ≡ no_number) ↔ (n ≡ 0)
none-word n few = (
  λ e. by_cases (dec_lt 0 n) (λ l. absurd (omega (arith, number-some n l))) (λ l. omega arith),
  λ z. ap number_word z ∙ number-none,
)

module _ (r : Receipt) where
  cast_is : (i : Item) → T (cast_of r (only i)) ↔ ((code i ≡ cast_type) × ((i.address ≡ r.address) × (i.signature ≡ r.signature)))
  cast_is i =
      Iff.trans (and-iff (eqb (code i) cast_type) (matches r i)) (Iff.and (eqb-iff (code i) cast_type)
      (Iff.trans (and-iff (same_words i.address r.address) (same_words i.signature r.signature))
      (Iff.and (same-iff i.address r.address) (same-iff i.signature r.signature))))

  abbrev IsCastOf : History → ℕ → Type 0
  IsCastOf h m = let i = main_item (main_items h) m in
      (1 ≤ m) × (m ≤ count main h) × (code i ≡ cast_type) × (i.address ≡ r.address) × (i.signature ≡ r.signature)

  module _ {f : Format} {ws vs roll : List ℕ} {h : History} (s : Sound f ws vs roll h) where
    abbrev found : ℕ
    found = first (cast_of r) (items_alone (main_items h))

    -- the first cast is sought among the main items
    answer-alone : receipt_answer r h ≡ number_word found
    unfolding receipt_answer
    answer-alone =
        let casts : OnlyMain (cast_of r) h =
        every_map _ _ (λ e g t. g ((and-iff (typed cast_type e) (matches r e.item)).0 t).0) h (typed-only (orderly s.passed) cast_type (omega arith)) in
        ap number_word (among-mains (cast_of r) (λ e. refl) h casts)

    told : (m : ℕ) → ((1 ≤ m) × (m ≤ length (main_items h)) × T (cast_of r (only (main_item (main_items h) m)))) ↔ IsCastOf h m
    told m = (
      λ (one, all, t). let (kind, (address, signature)) = (cast_is (main_item (main_items h) m)).0 t in
          (one, subst (m ≤◌) (mains-count h) all, kind, address, signature),
      λ (one, all, kind, address, signature).
          (one, subst (m ≤◌) (sym (mains-count h)) all, (cast_is (main_item (main_items h) m)).1 (kind, (address, signature))),
    )

    pub receipt-found : (m : ℕ) → m ≢ no_number → (receipt_answer r h ≡ m) ↔ (IsCastOf h m × ((j : ℕ) → j < m → IsCastOf h j → ⊥))
    receipt-found m ne =
        subst (λ (a : ℕ). (a ≡ m) ↔ (IsCastOf h m × ((j : ℕ) → j < m → IsCastOf h j → ⊥))) (sym answer-alone)
        (found_word found m ne (alone-is (cast_of r) (main_items h) (IsCastOf h) told m) (λ x. x.0.0))

    pub receipt-none : (receipt_answer r h ≡ no_number) ↔ ((m : ℕ) → IsCastOf h m → ⊥)
    receipt-none =
        let few : found ≤ item_limit =
        omega (arith, first-bound (cast_of r) (items_alone (main_items h)), length-map (main_items h) only, mains-count h, count-few main h, s.few) in
        subst (λ (a : ℕ). (a ≡ no_number) ↔ ((m : ℕ) → IsCastOf h m → ⊥)) (sym answer-alone)
        (Iff.trans (none-word found few) (alone-none (cast_of r) (main_items h) (IsCastOf h) told))

  -- so the answer rests on the main items
  pub receipt-alone : {f : Format} {ws vs roll ws' vs' roll' : List ℕ} {h h' : History} → Sound f ws vs roll h → Sound f ws' vs' roll' h'
      → main_items h ≡ main_items h' → receipt_answer r h ≡ receipt_answer r h'
  receipt-alone s t e = answer-alone s ∙ ap (λ (is : List Item). number_word (first (cast_of r) (items_alone is))) e ∙ sym (answer-alone t)

-- ---- one item more

module _ {f : Format} {on : Eligibility} {ws vs : List ℕ} (h : History) (e : Entry) (p : Passed f on ws vs (h ++ (e ∷ []))) where
  abbrev longer : History
  longer = h ++ (e ∷ [])

  abbrev MainCast : Entry → Type 0
  MainCast x = T (typed cast_type x) → T (main x)

  casts : OnlyMain (typed cast_type) longer
  casts = typed-only (orderly p) cast_type (omega arith)

  new-cast : MainCast e
  new-cast = subst MainCast (entry-snoc h e) (every-entry MainCast longer (suc (length h)) casts (omega arith) (omega (arith, length-append h (e ∷ []))))

  -- a new main item's number
  new-number : T (main e) → main_number longer (suc (length h)) ≡ count main h + 1
  new-number t =
      let before : suc (length h) - 1 ≡ length h = omega arith in
      sym (main-next longer (suc (length h)) (subst (λ (x : Entry). T (main x)) (sym (entry-snoc h e)) t))
      ∙ ap (λ (k : ℕ). main_number longer k + 1) before ∙ ap (λ (g : History). count main g + 1) (take-append_seam h (e ∷ []))

  pub receipt-more : length h < item_limit → (r : Receipt)
      → receipt_answer r longer ≡ (if eqb (receipt_answer r h) no_number && cast_of r e then count main h + 1 otherwise receipt_answer r h)
  receipt-more few r =
      let old = receipt_answer r h in
      answer-next r h e (subst (Every MainCast) (take-append_seam h (e ∷ [])) (every_take MainCast (length h) longer casts)) new-cast (omega arith)
      ∙ if-then (eqb old no_number && cast_of r e) _ _ old (λ t. new-number (new-cast
      ((and-iff (typed cast_type e) (matches r e.item)).0 ((and-iff (eqb old no_number) (cast_of r e)).0 t).1).0))

-- ---- each receipt alone

-- of an accepted board with the history g: receipt j alone, as n whole receipts have it, read in the same format by its own words
module _ (f : Format) (some : 0 < receipt_size f) (us ts roll : List ℕ) (index ballots : ℕ) (g : History) (a : audit f us ts roll index ballots ≡ accepted g)
    (rs : List ℕ) (n j : ℕ) (whole : length rs ≡ n * receipt_size f) (l : j < n) where
  abbrev alone : List ℕ
  alone = part (j * receipt_size f) (receipt_size f) rs

  abbrev outcome : Format → Outcome
  outcome f' = receipts_audit f' us ts roll alone index ballots 1

  one-receipt : length alone ≡ 1 * receipt_size f
  one-receipt =
      let size = receipt_size f in
      length_part (j * size) size rs (omega (arith, mul-le-mul_right size l, suc-mul j size)) ∙ sym (one-mul size)

  same_answer : (w : ℕ) → answers_after f alone (accepted g) (w ∷ []) ≡ get_or (receipt_answers f rs g) j 0 ∷ []
  unfolding filled tabulate receipt_answers
  same_answer w =
      let number = parts-count (receipt_size f) some alone 1 one-receipt in
      let all = parts-count (receipt_size f) some rs n whole in
      written f alone g 1 number (accepted g) (w ∷ []) refl
      ∙ ap (◌∷ []) (ap (λ (r : Receipt). receipt_answer r g) (receipt-itself f rs j)
      ∙ sym (get_or-tabulate (λ k. receipt_answer (receipt_at f rs k) g) (receipt_count f rs) j 0 (subst (j <◌) (sym all) l)))

  abbrev Answered : Format → Type 0
  Answered f' = (outcome f' ≡ accepted g) × ((w : ℕ) → answers_after f' alone (outcome f') (w ∷ []) ≡ get_or (receipt_answers f rs g) j 0 ∷ [])

  answered-alone : (f' : Format) → f' ≡ f → Answered f'
  answered-alone f' same =
      subst Answered (sym same)
      (let o = receipts-audited f some us ts roll alone index ballots 1 1 (one-receipt, omega arith) (omega arith) ∙ a in
      (o, λ w. ap (λ (x : Outcome). answers_after f alone x (w ∷ [])) o ∙ same_answer w))

-- so in a board cut behind item k
pub answers-so-far : (s : Hashes) (ws vs roll : List ℕ) (index ballots : ℕ) (h : History) → audit (format_of s ws) ws vs roll index ballots ≡ accepted h
    → (k : ℕ) → 1 ≤ k → k ≤ length h → (rs : List ℕ) (n j : ℕ) → length rs ≡ n * receipt_size (format_of s ws) → j < n
    → let cut = cut_board (format_of s ws) ws k in
    let alone = part (j * receipt_size (format_of s ws)) (receipt_size (format_of s ws)) rs in
    let o = receipts_audit (format_of s cut) cut (cut_verdicts vs k) roll alone index ballots 1 in
    (o ≡ accepted (take k h))
    × ((w : ℕ) → answers_after (format_of s cut) alone o (w ∷ []) ≡ get_or (receipt_answers (format_of s ws) rs (take k h)) j 0 ∷ [])
answers-so-far s ws vs roll index ballots h a k one inside rs n j whole l =
    let f = format_of s ws in
    let cut = cut_board f ws k in
    let (same, accepts) = cut-audited s ws vs roll index ballots h a k one inside in
    answered-alone f (receipt-some s ws) cut (cut_verdicts vs k) roll index ballots (take k h) accepts rs n j whole l (format_of s cut) same
