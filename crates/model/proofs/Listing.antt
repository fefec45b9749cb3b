-- What the ancestry entry answers and leaves: which refusal it gives, and what its list buffer holds.
-- Paper: "One entry lists an item's ancestry". Assumes nothing.
use Prim.Native.Nat.{ℕ, zero, suc, ◌-◌, ◌≤◌, ◌<◌}
use native.Mathlib.Nat.{sub-zero}
use native.Mathlib.Omega.{arith}
use mathlib.Core.Path.{◌≡◌, refl, sym, ap, ap₂, subst, ◌∙◌}
use mathlib.Core.Logic.{◌↔◌, ◌⊎◌, inl, inr, ⊎_elim}
use mathlib.Core.Bool.{not, ◌||◌}
use mathlib.Core.List.{List, []}
use lib.ListN.{length, get_or, replicate}
use lib.Arith.{le→nltb}
use lib.Dec.{T, leb, ltb, leb→le, nleb→lt}
use Rattle.model.specs.Refusal.{too_large, short_table}
use Rattle.model.specs.Format.{Format}
use Rattle.model.specs.History.{History}
use Rattle.model.specs.Roll.{Eligibility}
use Rattle.model.specs.Audit.{Outcome, unread, refused, accepted, audit, is_too_large, is_short, index_need, ballot_need}
use Rattle.model.specs.Report.{report_of, Refuses, NoSuch, filled, table_after, index_after, ballots_after, outside}
use Rattle.model.specs.Sound.{Sound, Passed}
use Rattle.model.specs.Ancestry.{ancestry, list_need, AncestryAnswer, ancestry_audit, unlisted, listed, ancestry_answer, written, list_after, Line, ends, climbs, HoldsAncestry}
use Rattle.model.proofs.Tests.{tests, by-if, if_no, if_yes, neither, not_iff, not-not, or_else}
use Rattle.model.proofs.Acceptance.{not-unread, not-refused, accepted↔sound}
use Rattle.model.proofs.Above.{checked-none, checked-fails, by-checked}
use Rattle.model.proofs.Ancestry.{ancestry-line, line-length}
use Rattle.model.proofs.Tables.{length-filled, get_or-filled}
use Rattle.model.proofs.Report.{Numbered, audit-numbered, filled-rows, filled-rest, table-keeps, table-unchanged, table-zero, table_filled, tables-keep}

-- a refusal is no list
abbrev IsListed : AncestryAnswer → Type 0
IsListed (unlisted n i) = ⊥
IsListed (listed n) = Unit

not_listed : {m i n : ℕ} → unlisted m i ≡ listed n → ⊥
not_listed e = subst IsListed (sym e) tt

-- the number and the items of a refusal
abbrev number_of : AncestryAnswer → ℕ
number_of (unlisted n i) = n
number_of (listed n) = 0

abbrev items_of : AncestryAnswer → ℕ
items_of (unlisted n i) = i
items_of (listed n) = 0

-- ---- the audit of this entry: 1, then 2 for any of the three buffers, then the rest

module _ (f : Format) (ws vs roll : List ℕ) (index ballots list : ℕ) where
  abbrev audited : Outcome
  audited = audit f ws vs roll index ballots

  pub too_large_lem : T (is_too_large ws) → ancestry_audit f ws vs roll index ballots list ≡ unread too_large
  unfolding ancestry_audit
  too_large_lem t = checked-fails audited 0 (not (is_too_large ws)) _ ((not-not (is_too_large ws)).1 t)

  -- a property of every outcome
  by-audit : (P : Outcome → Type 0) → (T (is_too_large ws) → P (unread too_large)) → (T (not (is_too_large ws)) → list < list_need → P (unread short_table))
      → (list_need ≤ list → P (audit f ws vs roll index ballots)) → P (ancestry_audit f ws vs roll index ballots list)
  unfolding ancestry_audit
  by-audit P large short rest =
      by-checked audited 0 (not (is_too_large ws)) _ P
      (λ t. by-checked audited 1 (leb list_need list) _ P
      (λ u. subst P (sym (checked-none audited)) (rest (leb→le list_need list u)))
      (λ u. short t (omega (arith, nleb→lt list_need list u))))
      (λ t. large ((not-not (is_too_large ws)).0 t))

  pub short-buffer : T (not (is_too_large ws)) → T (is_short index ballots || ltb list list_need) → ancestry_audit f ws vs roll index ballots list ≡ unread short_table
  unfolding audit
  short-buffer t u =
      by-audit (λ o. o ≡ unread short_table)
      (λ v. absurd ((not_iff (is_too_large ws)).0 t v))
      (λ v l. refl)
      (λ l. if_no (is_too_large ws) _ _ t ∙ if_yes (is_short index ballots) _ _ (or_else (is_short index ballots) (ltb list list_need) u (le→nltb list list_need l)))

  pub as-audited : list_need ≤ list → ancestry_audit f ws vs roll index ballots list ≡ audit f ws vs roll index ballots
  unfolding audit
  as-audited l =
      by-audit (λ o. o ≡ audited) (λ t. sym (if_yes (is_too_large ws) _ _ t)) (λ t u. absurd (omega arith)) (λ m. refl)

  numbered : Numbered (ancestry_audit f ws vs roll index ballots list)
  numbered = by-audit Numbered (λ t. omega arith) (λ t l. omega arith) (λ l. audit-numbered f ws vs roll index ballots)

  -- accepted exactly where the board is sound and the three buffers are long enough
  pub accepted-listing : (h : History)
      → (ancestry_audit f ws vs roll index ballots list ≡ accepted h) ↔ (Sound f ws vs roll h × (index_need ≤ index) × (ballot_need ≤ ballots) × (list_need ≤ list))
  accepted-listing h = (
    by-audit (λ o. o ≡ accepted h → Sound f ws vs roll h × (index_need ≤ index) × (ballot_need ≤ ballots) × (list_need ≤ list))
        (λ t e. absurd (not-unread e))
        (λ t l e. absurd (not-unread e))
        (λ l e. let (sound, wide, roomy) = (accepted↔sound f ws vs roll index ballots h).0 e in (sound, wide, roomy, l)),
    λ (sound, wide, roomy, l). as-audited l ∙ (accepted↔sound f ws vs roll index ballots h).1 (sound, wide, roomy),
  )

-- ---- the answer

module _ (f : Format) (k n i : ℕ) where
  -- the outcome's own refusal
  named : {o : Outcome} → 1 ≤ (report_of f o).number → unlisted (report_of f o).number (report_of f o).items ≡ unlisted n i → Refuses f o n i
  named some e =
      let same = ap number_of e in
      record { refusal = subst (1 ≤◌) same some; number = same; items = ap items_of e }

  pub unlisted-is : (o : Outcome) → Numbered o → (ancestry_answer o k ≡ unlisted n i) ↔ (Refuses f o n i ⊎ NoSuch length o k n i)
  unfolding ancestry_answer report_of
  unlisted-is (unread m) some = (λ e. inl (named some e), ⊎_elim (λ r. ap₂ unlisted r.number r.items) (λ s. absurd (not-unread s.accepts)))
  unlisted-is (refused m j) some = (λ e. inl (named some e), ⊎_elim (λ r. ap₂ unlisted r.number r.items) (λ s. absurd (not-refused s.accepts)))
  unlisted-is (accepted h) some = (
    by-if (λ r. r ≡ unlisted n i → Refuses f (accepted h) n i ⊎ NoSuch length (accepted h) k n i) (outside k (length h)) _ _
        (λ t e. inr (record { history = h; accepts = refl; is_outside = t; number = sym (ap number_of e); items = sym (ap items_of e) }))
        (λ t e. absurd (not_listed (sym e))),
    ⊎_elim (λ r. absurd (omega arith))
        (λ s. let same : s.history ≡ h = cc in if_yes (outside k (length h)) _ _ (rw same at s.is_outside) ∙ cc),
  )

-- a list is answered of an accepted board's items only
pub lists-only : (o : Outcome) (k n : ℕ) → ancestry_answer o k ≡ listed n → (h : History) × (o ≡ accepted h) × (1 ≤ k) × (k ≤ length h)
unfolding ancestry_answer
lists-only (unread m) k n e = absurd (not_listed e)
lists-only (refused m i) k n e = absurd (not_listed e)
lists-only (accepted h) k n e =
    by-if (λ r. r ≡ listed n → (i : History) × (accepted h ≡ accepted i) × (1 ≤ k) × (k ≤ length i)) (outside k (length h)) _ _
    (λ t q. absurd (not_listed q))
    (λ t q. let m = simp neither at t in (h, refl, omega (arith, tests), omega (arith, tests)))
    e

-- ---- a line of numbers

line_first : {h : History} {k : ℕ} {ks : List ℕ} → Line h k ks → get_or ks 0 0 ≡ k
line_first (ends c) = refl
line_first (climbs l r) = refl

line-some : {h : History} {k : ℕ} {ks : List ℕ} → Line h k ks → 1 ≤ length ks
line-some (ends c) = omega arith
line-some (climbs l r) = omega arith

line-last : {h : History} {k : ℕ} {ks : List ℕ} → Line h k ks → (n : ℕ) → suc n ≡ length ks → get_or ks n 0 ≡ 1
line-last (ends c) zero e = refl
line-last (ends c) (suc n) e = absurd (omega arith)
line-last (climbs l r) zero e = absurd (omega (arith, line-some r))
line-last (climbs l r) (suc n) e = line-last r n (omega arith)

-- ---- the list buffer

module _ (h : History) (k : ℕ) (s : List ℕ) where
  -- zero under 19
  list-zero : T (outside k (length h)) → list_after (accepted h) k s ≡ replicate (length s) 0
  unfolding written filled
  list-zero t =
      table_filled (accepted h) (written k) s refl
      ∙ ap (filled (length s)) (if_yes (outside k (length h)) [] (ancestry h k) t)
      ∙ ap (λ n. replicate n 0) (sub-zero (length s))

  list_written : 1 ≤ k → k ≤ length h → list_after (accepted h) k s ≡ filled (length s) (ancestry h k)
  unfolding written
  list_written one all =
      table_filled (accepted h) (written k) s refl
      ∙ ap (filled (length s)) (if_no (outside k (length h)) _ _ (simp neither (omega (arith, tests))))

module _ {f : Format} {on : Eligibility} {ws vs : List ℕ} {h : History} (p : Passed f on ws vs h) (k : ℕ) (one : 1 ≤ k) (all : k ≤ length h) (s : List ℕ)
    (long : length h ≤ length s) where
  lists : HoldsAncestry h k (length (ancestry h k)) (list_after (accepted h) k s)
  lists =
      let numbers = ancestry h k in
      let line = ancestry-line p k one all in
      let some = line-some line in
      let few = line-length line in
      rw (list_written h k s one all) (record {
        line = rw filled-rows line;
        begins = get_or-filled (length s) numbers 0 ∙ line_first line;
        some = some;
        ends = get_or-filled (length s) numbers (length numbers - 1) ∙ line-last line (length numbers - 1) (omega arith);
        few = few;
        fits = rw (length-filled (length s) numbers (omega arith)) (omega arith);
        rest = rw (length-filled (length s) numbers (omega arith)) (filled-rest (length s) numbers);
      })

-- ---- the entry, from the words of the board and what the three buffers held

module _ (f : Format) (ws vs roll s t l : List ℕ) (k : ℕ) where
  abbrev outcome : Outcome
  outcome = ancestry_audit f ws vs roll (length s) (length t) (length l)

  -- a refusal: the audit's, or 19
  pub unlisted-entry : (n i : ℕ) → (ancestry_answer outcome k ≡ unlisted n i) ↔ (Refuses f outcome n i ⊎ NoSuch length outcome k n i)
  unlisted-entry n i = unlisted-is f k n i outcome (numbered f ws vs roll (length s) (length t) (length l))

  -- an item of an accepted board: its ancestry is listed
  pub listed-entry : {h : History} → outcome ≡ accepted h → 1 ≤ k → k ≤ length h
      → (ancestry_answer outcome k ≡ listed (length (ancestry h k))) × HoldsAncestry h k (length (ancestry h k)) (list_after outcome k l)
  unfolding ancestry_answer
  listed-entry {h} e one all =
      let (sound, wide, roomy, long) = (accepted-listing f ws vs roll (length s) (length t) (length l) h).0 e in
      let few = sound.few in
      rw e (if_no (outside k (length h)) _ _ (simp neither (omega (arith, tests))), lists sound.passed k one all l (omega arith))

  -- the list buffer is unchanged under the word limit and 2
  pub list-unchanged : {n : ℕ} → outcome ≡ unread n → list_after outcome k l ≡ l
  list-unchanged e = table-unchanged outcome (written k) l e

  -- and zero under any other refusal, the audit's and 19
  pub list-cleared : {n i : ℕ} → outcome ≡ refused n i → list_after outcome k l ≡ replicate (length l) 0
  list-cleared e = table-zero outcome (written k) l e

  pub list-cleared-outside : {h : History} → outcome ≡ accepted h → T (outside k (length h)) → list_after outcome k l ≡ replicate (length l) 0
  list-cleared-outside {h} e u = rw e (list-zero h k l u)

  -- the numbers written fit the list buffer
  written-fits : (h : History) → outcome ≡ accepted h → length (written k h) ≤ length l
  unfolding written
  written-fits h e =
      let (sound, wide, roomy, long) = (accepted-listing f ws vs roll (length s) (length t) (length l) h).0 e in
      let few = sound.few in
      by-if (λ (ns : List ℕ). length ns ≤ length l) (outside k (length h)) _ _ (λ u. omega arith)
      λ u.
      let there : (1 ≤ k) × (k ≤ length h) = let n = simp neither at u in omega (arith, tests) in
      omega (arith, line-length (ancestry-line sound.passed k there.0 there.1))

  -- the three buffers keep their lengths
  pub listing-keeps : (length (index_after outcome s) ≡ length s) × (length (ballots_after outcome t) ≡ length t) × (length (list_after outcome k l) ≡ length l)
  unfolding table_after
  listing-keeps = (
    by-audit f ws vs roll (length s) (length t) (length l) (λ o. length (index_after o s) ≡ length s) (λ u. refl) (λ u m. refl) (λ m. (tables-keep f ws vs roll s t).0),
    by-audit f ws vs roll (length s) (length t) (length l) (λ o. length (ballots_after o t) ≡ length t) (λ u. refl) (λ u m. refl) (λ m. (tables-keep f ws vs roll s t).1),
    table-keeps outcome (written k) l written-fits,
  )
