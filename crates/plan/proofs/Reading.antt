-- The loop over the heads: what holds before each, how it stops, and how it goes on. Assumes nothing.
use Prim.Native.Nat.{ℕ, ◌+◌, ◌*◌, ◌≤◌, ◌<◌, zero-le}
use native.Mathlib.Omega.{arith}
use native.Mathlib.Numerals.{add-one}
use mathlib.Core.Path.{◌≡◌, refl, sym, ap, ◌∙◌}
use mathlib.Core.Bool.{Bool, true, false, not}
use mathlib.Core.List.{List, [], ◌∷◌, ◌++◌}
use lib.ListN.{length, get_or}
use lib.Dec.{T}
use borrow.Author.Tests.{lt-ltb, le-ltb, not-true, not-false}
use Rattle.model.specs.Lists.{if◌then◌otherwise◌}
use Rattle.model.specs.Refusal.{too_large, empty_board, truncated, bad_closing}
use Rattle.model.specs.Words.{kind_of, count_of, is_closing}
use Rattle.model.specs.Item.{item_at, item_length, hashed_length, behind}
use Rattle.model.specs.History.{History, place_of, history, entry_of}
use Rattle.model.specs.Audit.{Outcome, refused, closing, item_limit, word_limit, index_row, is_empty, is_closed}
use Rattle.model.proofs.Tests.{eq→eqb, ne→neqb}
use Rattle.model.proofs.Steps.{reading_from, from-ended, from-closing, from-full, from-refused, from-passed}
use Rattle.model.proofs.Unchecked.{length-history}
use Rattle.format.specs.Format.{format_of, curve_number_of}
use Rattle.format.specs.Layout.{head_of}
use Rattle.format.specs.declared.head.Head.{Head}
use Rattle.format.proofs.Traits.{sizes}
use Rattle.refusal.specs.Number.{number_of}
use Rattle.refusal.specs.declared.Refusal.{Refusal}
use Rattle.refusal.specs.declared.Refused.{Refused}
use Rattle.std.specs.Prelude.{Result, Ok, Err}
use Rattle.refusal.proofs.Laws.{number-some}
use Rattle.planning.specs.Plan as planning
use Rattle.planning.specs.Plan.{head_only, closed_only, heads_read, plan_of, hash_on, blocks_for, sum_of, plan}
use Rattle.plan.specs.declared.Plan.{Plan}
use Rattle.plan.specs.declared.Heads.{Heads}
use Rattle.plan.specs.declared.Seen.{Seen}
use Rattle.plan.specs.Planned.{planned, plan_from, IsLook, Read, closing_read, head_fault, blocks_at}
use Rattle.plan.proofs.Blocks.{blocks-few}

-- ---- before the heads, and what a refusal gives

pub refused-plan : {x : Refusal} {items : ℕ} {r : Refused} (board : List ℕ) → r ≡ record { refusal = x; items = items }
    → planned (Err r) ≡ plan_from board (refused (number_of x) items)
unfolding plan_of
refused-plan board e = rw e

module _ (board : List ℕ) (r : Result Plan Refused) where
  pub plan-large : word_limit < length board → planned r ≡ plan_from board (refused too_large 0) → planned r ≡ plan board
  unfolding plan_of heads_read if◌then◌otherwise◌
  plan-large l told = told ∙ rw (lt-ltb _ _ l)

  pub plan-empty : length board ≤ word_limit → is_empty board ≡ true → planned r ≡ plan_from board (refused empty_board 0) → planned r ≡ plan board
  unfolding plan_of heads_read if◌then◌otherwise◌
  plan-empty l q told = told ∙ rw (le-ltb _ _ l, q)

-- ---- at the closing word

module _ (board : List ℕ) (s : Heads) where
  abbrev h : History
  h = history (format_of board) board s.items

  module _ {b : Bool} (e : b ≡ is_closed board s.items s.place) where
    same-closed : b ≡ closed_only (format_of board) board h s.place
    same-closed = e ∙ rw (length-history (format_of board) board s.items)

    pub close-bad : not b ≡ true → (r : Result Plan Refused) → planned r ≡ plan_from board (refused bad_closing s.items) → planned r ≡ plan_from board (closing_read board s)
    unfolding closing if◌then◌otherwise◌
    close-bad q r told = told ∙ rw (← same-closed, not-true b q, length-history (format_of board) board s.items)

    pub close-good : not b ≡ false → Read board s
        → planned (Ok (record { items = s.items; index_words = index_row * s.items; blocks = s.blocks })) ≡ plan_from board (closing_read board s)
    unfolding closing if◌then◌otherwise◌ plan_of
    close-good q read = rw (← same-closed, not-false b q, length-history (format_of board) board s.items, read.blocks)

-- ---- at the head of the loop

-- the sum with one more at the end
sum-snoc : {A : Type 0} (g : A → ℕ) (xs : List A) (x : A) → sum_of g (xs ++ (x ∷ [])) ≡ sum_of g xs + g x
unfolding sum_of
sum-snoc g [] x = omega arith
sum-snoc g (y ∷ ys) x = let e = sum-snoc g ys x in omega arith

-- a look that passes
passed-look : (board : List ℕ) (p : ℕ) {s : Seen} {found : Result Seen Refusal} → found ≡ Ok s → IsLook board p found
    → IsLook board p (Ok s)
passed-look board p q look = rw q at look

module _ (board : List ℕ) where
  -- what is read of the heads, from n items on
  abbrev from : ℕ → Outcome
  from = reading_from (format_of board) board (closed_only (format_of board) board) (head_only (format_of board) board)

  -- the heads of the first s .items items are read, and the plan is what is read from there on
  pub record Going (s : Heads) : Type 0 where
    pub read : Read board s
    pub same : plan board ≡ plan_from board (from s.items)

  pub going_start : length board ≤ word_limit → is_empty board ≡ false → Going (record { items = 0; place = 0; blocks = 0 })
  unfolding heads_read if◌then◌otherwise◌ history place_of sum_of
  going_start l q = record {
    read = record { few = zero-le; place = refl; blocks = refl; small = zero-le };
    same = rw (le-ltb _ _ l, q);
  }

  module _ {s : Heads} (g : Going s) where
    place_is : s.place ≡ place_of (format_of board) board s.items
    place_is = g.read.place

    place-on : (end : ℕ) → end ≡ behind (format_of board) board s.place → end ≡ place_of (format_of board) board (s.items + 1)
    unfolding place_of
    place-on end ends = ends ∙ rw (add-one, place_is)

    abbrev blocks_in : ℕ → ℕ
    blocks_in n = sum_of (planning.blocks_at (format_of board) (blocks_for (hash_on (curve_number_of board)))) (history (format_of board) board n)

    blocks-on : (blocks : ℕ) → blocks ≡ blocks_at board s.place → s.blocks + blocks ≡ blocks_in (s.items + 1)
    unfolding history entry_of item_at
    blocks-on blocks counted = rw (g.read.blocks, counted, place_is, add-one) (sym (sum-snoc _ (history (format_of board) board s.items) _))

    small-on : (end blocks : ℕ) → end ≡ behind (format_of board) board s.place → blocks ≡ blocks_at board s.place → s.blocks + blocks ≤ end
    unfolding item_length hashed_length
    small-on end blocks ends counted =
        let b = sizes board in
        let few = blocks-few (curve_number_of board) (hashed_length (format_of board) (count_of (get_or board s.place 0))) in
        let small = g.read.small in
        omega arith

    read-on : (end blocks : ℕ) → s.items < item_limit → end ≡ behind (format_of board) board s.place → blocks ≡ blocks_at board s.place
        → Read board (record { items = s.items + 1; place = end; blocks = s.blocks + blocks })
    read-on end blocks few ends counted = record {
      few = omega arith;
      place = place-on end ends;
      blocks = blocks-on blocks counted;
      small = small-on end blocks ends counted;
    }

    stopped : (o : Outcome) → from s.items ≡ o → (r : Result Plan Refused) → planned r ≡ plan_from board o → planned r ≡ plan board
    stopped o e r told = told ∙ ap (plan_from board) (sym e) ∙ sym g.same

    pub stop-ended : length board ≤ s.place → (r : Result Plan Refused) → planned r ≡ plan_from board (refused truncated s.items) → planned r ≡ plan board
    stop-ended l = stopped _ (from-ended (format_of board) board _ _ s.items (rw place_is at l))

    module _ (there : s.place < length board) {head : Head} (is : head ≡ head_of (get_or board s.place 0)) where
      kind-is : head.kind ≡ kind_of (get_or board (place_of (format_of board) board s.items) 0)
      kind-is = ap (λ (h : Head). h.kind) is ∙ rw place_is

      pub stop-closing : head.kind ≡ 15 → (r : Result Plan Refused) → planned r ≡ plan_from board (closing_read board s) → planned r ≡ plan board
      stop-closing k r told =
          stopped _ (from-closing (format_of board) board _ _ s.items (rw place_is at there) (eq→eqb _ _ (sym kind-is ∙ k))) r (rw place_is at told)

      module _ (head-word : head.kind ≡ 15 → ⊥) where
        item-word : T (not (is_closing (get_or board (place_of (format_of board) board s.items) 0)))
        item-word = ne→neqb _ _ (λ q. head-word (kind-is ∙ q))

        pub stop-full : s.items ≡ 2048 → (r : Result Plan Refused) → planned r ≡ plan_from board (refused too_large s.items) → planned r ≡ plan board
        stop-full q = stopped _ (from-full (format_of board) board _ _ s.items (rw place_is at there) item-word (omega arith))

        module _ (few : s.items < item_limit) where
          module _ {found : Result Seen Refusal} (look : IsLook board s.place found) where
            pub stop-refused : (x : Refusal) → found ≡ Err x → (r : Result Plan Refused)
                → planned r ≡ plan_from board (refused (number_of x) s.items) → planned r ≡ plan board
            stop-refused x q =
                let fault : head_fault board s.place ≡ number_of x = rw q at look in
                stopped _ (from-refused (format_of board) board _ _ s.items (rw place_is at there) item-word few (number_of x) (rw place_is at fault)
                (λ n. absurd (omega (arith, number-some x))))

            pub going_on : (seen : Seen) → found ≡ Ok seen
                → Going (record { items = s.items + 1; place = seen.end; blocks = s.blocks + seen.blocks })
            going_on seen q =
                let (fault, behind-it, within, counted) = passed-look board s.place q look in
                record {
                  read = read-on seen.end seen.blocks few behind-it counted;
                  same = g.same ∙ ap (plan_from board)
                      (from-passed (format_of board) board _ _ s.items (rw place_is at there) item-word few (rw place_is at fault) ∙ rw add-one);
                }

            pub blocks-within : (seen : Seen) → found ≡ Ok seen → s.blocks + seen.blocks ≤ length board
            blocks-within seen q =
                let (fault, behind-it, within, counted) = passed-look board s.place q look in
                let small = small-on seen.end seen.blocks behind-it counted in
                omega arith
