-- The state with one more item stands for the history with it. Assumes nothing.
use Prim.Native.Nat.{ℕ, suc, ◌+◌, ◌/◌, ◌%◌, ◌^◌, ◌≤◌, ◌<◌}
use native.Mathlib.Omega.{arith}
use native.Mathlib.Numerals.{add-one}
use mathlib.Core.Path.{◌≡◌, sym, ◌∙◌}
use mathlib.Core.Bool.{true}
use mathlib.Core.List.{List, [], ◌∷◌, ◌++◌}
use lib.Bits.{bit_or}
use lib.ListN.{length, get_or, set}
use lib.Seq.{get_or-set_same, get_or-set_other}
use lib.Dec.{eqb}
use borrow.Author.Tests.{eq-eqb, ne_eqb, eqb-true, eqb-false}
use Rattle.model.specs.Lists.{if◌then◌otherwise◌, count, keep, latest}
use Rattle.model.specs.Words.{between, main_kind, set_bits}
use Rattle.model.specs.Codes.{contest_type, threshold_type, authorizer_type, round_type, intent_type}
use Rattle.model.specs.Item.{code}
use Rattle.model.specs.History.{Entry, first_from, last_from, main, typed, config, place_of, history, entry_of}
use Rattle.model.specs.Counted.{counted}
use Rattle.model.proofs.Tests.{by-test}
use Rattle.model.proofs.Lists.{count-few}
use Rattle.model.proofs.State.{count-snoc, first-snoc, last_snoc}
use Rattle.model.proofs.Unchecked.{length-history}
use Rattle.format.specs.Format.{format_of}
use Rattle.index.specs.Kept.{before, item_after}
use Rattle.index.specs.Known.{Passing}
use Rattle.index.specs.declared.Known.{Known}
use Rattle.state.specs.Standing.{defined_word, defined_from}
use Rattle.state.specs.declared.State.{State}
use Rattle.state.specs.After.{later, earliest, contests_after, slot_after}
use Rattle.state.specs.Stands.{Stands}
use Rattle.state.proofs.Rounds.{round_at-snoc}
use Rattle.state.proofs.Defined.{defined_word-snoc}
use Rattle.state.proofs.Next.{Next, next-kind, next-code, next-end, passing-next, contest-number, round-number}

-- ---- before the first item

-- no item, no number
pub record Empty (r : State) : Type 0 where
  pub place : r.place ≡ 0
  pub items : r.items ≡ 0
  pub mains : r.mains ≡ 0
  pub last : r.last ≡ 0
  pub config : r.config ≡ 0
  pub threshold : r.threshold ≡ 0
  pub authorizer : r.authorizer ≡ 0
  pub intent : r.intent ≡ 0
  pub contests : (k : ℕ) → k < 8 → get_or r.contests k 0 ≡ 0
  pub rounds : (j : ℕ) → j < 16 → get_or r.rounds j 0 ≡ 0
  pub ballots : r.ballots ≡ 0

pub stands-new : {r : State} → Empty r → (board : List ℕ) → Stands board r
unfolding history place_of count first_from last_from defined_word defined_from counted keep latest
stands-new a board = record {
  place = rw a.items a.place;
  mains = rw a.items a.mains;
  last = rw a.items a.last;
  config = rw a.items a.config;
  threshold = rw a.items a.threshold;
  authorizer = rw a.items a.authorizer;
  intent = rw a.items a.intent;
  contests = λ k l. rw a.items (a.contests k l);
  rounds = λ j l. rw a.items (a.rounds j l);
  ballots = rw a.items a.ballots;
}

-- ---- one more item

-- r is the state s with the item that c knows
pub record Stepped (board : List ℕ) (s : State) (c : Known) (r : State) : Type 0 where
  pub place : r.place ≡ c.item.end
  pub items : r.items ≡ s.items + 1
  pub mains : r.mains ≡ later (eqb c.item.head.kind main_kind) (s.mains + 1) s.mains
  pub last : r.last ≡ later (eqb c.item.head.kind main_kind) (s.items + 1) s.last
  pub config : r.config ≡ later (between 1 6 c.item.head.code) (s.items + 1) s.config
  pub threshold : r.threshold ≡ earliest (eqb c.item.head.code threshold_type) (s.items + 1) s.threshold
  pub authorizer : r.authorizer ≡ later (eqb c.item.head.code authorizer_type) (s.items + 1) s.authorizer
  pub intent : r.intent ≡ earliest (eqb c.item.head.code intent_type) (s.items + 1) s.intent
  pub contests : (k : ℕ) → k < 8 → get_or r.contests k 0 ≡ contests_after k (get_or s.contests k 0) (item_after board s.items)
  pub rounds : (j : ℕ) → j < 16 → get_or r.rounds j 0 ≡ slot_after (get_or s.rounds j 0) s.items j (item_after board s.items)
  pub ballots : r.ballots ≡ length (counted (before board (s.items + 1)))

module _ (board : List ℕ) (n : ℕ) where
  next : Entry
  next = entry_of (before board n) (place_of (format_of board) board n) (item_after board n)

  grows : before board (n + 1) ≡ before board n ++ (next ∷ [])
  unfolding history next
  grows = rw add-one

-- no more main items than items
pub mains-few : (board : List ℕ) (s : State) → Stands board s → s.mains ≤ s.items
mains-few board s stands = omega (arith, stands.mains, count-few main (before board s.items), length-history (format_of board) board s.items)

-- ---- the contests and the rounds

module _ {board index : List ℕ} {n : ℕ} {c : Known} (p : Passing board index n c) where
  pub contests-new : (k old : ℕ) → c.item.head.code ≡ contest_type
      → let j = get_or board c.item.content 0 in (if eqb (j / set_bits) k then bit_or old (2 ^ (j % set_bits)) otherwise old) ≡ contests_after k old (item_after board n)
  unfolding contests_after if◌then◌otherwise◌
  contests-new k old q =
      let (inside, same, small) = contest-number p q in
      rw (same, ← next-code (passing-next p), eq-eqb _ _ q)

  pub contests-old : (k old : ℕ) → (c.item.head.code ≡ contest_type → ⊥) → old ≡ contests_after k old (item_after board n)
  unfolding contests_after if◌then◌otherwise◌
  contests-old k old q = rw (← next-code (passing-next p), ne_eqb _ _ q)

  pub slot-new : (old : List ℕ) (k : ℕ) → c.item.head.code ≡ round_type → length old ≡ 16 → k ≡ get_or board c.item.content 0
      → (j : ℕ) → j < 16 → get_or (set old k (n + 1)) j 0 ≡ slot_after (get_or old j 0) n j (item_after board n)
  unfolding slot_after if◌then◌otherwise◌
  slot-new old k q size is j l =
      let (inside, same, small) = round-number p q in
      let code_is : eqb (code (item_after board n)) round_type ≡ true = rw (← next-code (passing-next p)) (eq-eqb _ _ q) in
      rw (code_is, ← same, ← is)
      (by-test (eqb k j)
      (λ e. rw (e, ← eqb-true k j e, add-one) (get_or-set_same old k (suc n) 0 (omega arith)))
      (λ e. rw e (get_or-set_other old k j (n + 1) 0 (λ d. eqb-false k j e (sym d)))))

  pub slot-old : (old : List ℕ) → (c.item.head.code ≡ round_type → ⊥)
      → (j : ℕ) → j < 16 → get_or old j 0 ≡ slot_after (get_or old j 0) n j (item_after board n)
  unfolding slot_after if◌then◌otherwise◌
  slot-old old q j l = rw (← next-code (passing-next p), ne_eqb _ _ q)

-- ---- the whole

module _ {board : List ℕ} {s r : State} {c : Known}
    (stands : Stands board s) (a : Next board s.items c) (b : Stepped board s c r) where
  pub stands_after : Stands board r
  unfolding next entry_of later earliest contests_after slot_after
  stands_after =
      let h = before board s.items in
      let n = s.items in
      let size : suc (length h) ≡ n + 1 = rw (length-history (format_of board) board n, add-one) in
      record {
        place = b.place ∙ next-end a ∙ rw (b.items, add-one);
        mains = b.mains ∙ rw (b.items, grows board n, count-snoc main h (next board n), next-kind a, stands.mains, add-one);
        last = b.last ∙ rw (b.items, grows board n, last_snoc main h (next board n), next-kind a, stands.last, size);
        config = b.config ∙ rw (b.items, grows board n, last_snoc config h (next board n), next-code a, stands.config, size);
        threshold = b.threshold
            ∙ rw (b.items, grows board n, first-snoc (typed threshold_type) h (next board n), next-code a, stands.threshold, size);
        authorizer = b.authorizer
            ∙ rw (b.items, grows board n, last_snoc (typed authorizer_type) h (next board n), next-code a, stands.authorizer, size);
        intent = b.intent
            ∙ rw (b.items, grows board n, first-snoc (typed intent_type) h (next board n), next-code a, stands.intent, size);
        contests = λ k l. b.contests k l ∙ rw (b.items, grows board n, defined_word-snoc h (next board n) k, stands.contests k l);
        rounds = λ j l. b.rounds j l ∙ rw (b.items, grows board n, round_at-snoc h (next board n) j, stands.rounds j l, size, add-one);
        ballots = b.ballots ∙ rw b.items;
      }
