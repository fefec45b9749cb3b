-- The loop over the items: what holds at its head, how it stops, and how it goes on. Assumes nothing.
use Prim.Native.Nat.{ℕ, ◌-◌, ◌≤◌, ◌<◌, zero-le}
use native.Mathlib.Omega.{arith}
use native.Mathlib.Numerals.{add-one}
use mathlib.Core.Path.{◌≡◌, refl, sym, ap, ◌∙◌}
use mathlib.Core.Bool.{not}
use mathlib.Core.List.{List, []}
use lib.ListN.{length, get_or}
use lib.Dec.{T}
use Rattle.std.specs.Prelude.{Result, Ok, Err}
use Rattle.model.specs.Lists.{keep, latest}
use Rattle.model.specs.Words.{kind_of, is_closing}
use Rattle.model.specs.Refusal.{no_fault, too_large, truncated}
use Rattle.model.specs.History.{place_of, history}
use Rattle.model.specs.Counted.{counted}
use Rattle.model.specs.Roll.{on_roll}
use Rattle.model.specs.Audit.{Outcome, refused, closing, closing_ok, fault, items, item_limit}
use Rattle.model.specs.Report.{report_of, index_rows, ballot_rows, filled}
use Rattle.model.specs.Sound.{Passed}
use Rattle.model.proofs.Tests.{eq→eqb, ne→neqb, by-if}
use Rattle.model.proofs.Steps.{items_from, from_start, from-ended, from-closing, from-full, from-refused, from-passed}
use Rattle.model.proofs.Unchecked.{length-history}
use Rattle.refusal.specs.Number.{number_of, found_of}
use Rattle.refusal.specs.declared.Refusal.{Refusal}
use Rattle.refusal.specs.declared.Refused.{Refused}
use Rattle.format.specs.Format.{format_of}
use Rattle.format.specs.Layout.{head_of}
use Rattle.format.specs.declared.head.Head.{Head}
use Rattle.index.specs.Kept.{before, Kept}
use Rattle.lookup.specs.Buckets.{parent_chain, session_chain}
use Rattle.state.specs.Stands.{Stands}
use Rattle.state.specs.declared.State.{State}
use Rattle.tally.specs.Tallied.{Tallied}
use Rattle.refusal.proofs.Laws.{number-some}
use Rattle.report.specs.declared.Accepted.{Accepted}
use Rattle.step.specs.Steps.{Reached, Stepped}
use Rattle.report.specs.Reported.{reported}
use Rattle.audit.specs.Tables.{Sized, Zeros, Holds}

abbrev pub Report : Type 0
Report = Result Accepted Refused

-- ---- before the first item

filled_none : (table : List ℕ) → Zeros table → table ≡ filled (length table) []
unfolding filled
filled_none table zeros = let all : length table - 0 ≡ length table = omega arith in rw all zeros

module _ {board index ballots : List ℕ} (sized : Sized board index ballots) where
  kept-none : Zeros index → Kept board index 0
  unfolding history place_of index_rows
  kept-none zeros = record {
    rows = filled_none index zeros;
    verdicts = [];
    passed = Passed.none;
    within = zero-le;
    few = zero-le;
    words = sized.few_words;
    room = sized.wide;
  }

  tallied-none : Zeros ballots → Tallied board ballots 0
  unfolding history counted keep latest ballot_rows
  tallied-none zeros = record { rows = filled_none ballots zeros; room = sized.roomy }

-- ---- at the head of the loop

module _ (board verdicts roll : List ℕ) where
  -- the answer
  abbrev pub answer : Outcome
  answer = items (format_of board) (on_roll roll) board verdicts item_limit [] 0

  -- the audit stands behind the first s .items items, the answer is the same from there on, and the tables keep their lengths
  pub record Going (index₀ ballots₀ parents₀ sessions₀ index ballots parents sessions : List ℕ) (s : State) : Type 0 where
    pub reached : Reached board index ballots parents sessions s
    pub same : answer ≡ items_from (format_of board) (on_roll roll) board verdicts s.items
    pub index-size : length index ≡ length index₀
    pub ballots-size : length ballots ≡ length ballots₀
    pub parents-size : length parents ≡ length parents₀
    pub sessions-size : length sessions ≡ length sessions₀

  pub going_start : {index ballots parents sessions : List ℕ} {s : State} → Sized board index ballots → Zeros index → Zeros ballots
      → (parents ≡ parent_chain board 0) × (sessions ≡ session_chain board 0) → s.items ≡ 0 → Stands board s
      → Going index ballots parents sessions index ballots parents sessions s
  going_start sized zi zb chains none stands = record {
    reached = record {
      kept = rw none (kept-none sized zi);
      stands = stands;
      tallied = rw none (tallied-none sized zb);
      parents = rw none chains.0;
      sessions = rw none chains.1;
    };
    same = rw none (from_start (format_of board) board (closing_ok board verdicts) (fault (format_of board) (on_roll roll) board verdicts));
    index-size = refl;
    ballots-size = refl;
    parents-size = refl;
    sessions-size = refl;
  }

  -- the tables at the closing word
  closing-holds : (index ballots : List ℕ) (n p : ℕ) → Kept board index n → Tallied board ballots n
      → Holds board (closing (closing_ok board verdicts (before board n) p) (before board n)) index ballots
  unfolding closing
  closing-holds index ballots n p kept tallied =
      let Goal : Outcome → Type 0 = λ o. Holds board o index ballots in
      let held : Kept board index (length (before board n)) × Tallied board ballots (length (before board n)) =
      rw (length-history (format_of board) board n) (kept, tallied) in
      by-if Goal (not (closing_ok board verdicts (before board n) p)) _ _ (λ t. held) (λ t. held)

  module _ {index₀ ballots₀ parents₀ sessions₀ index ballots parents sessions : List ℕ} {s : State}
      (g : Going index₀ ballots₀ parents₀ sessions₀ index ballots parents sessions s) where
    -- what `run` ensures
    abbrev Ran : Report → List ℕ → List ℕ → Type 0
    Ran r i b = (reported r ≡ report_of (format_of board) answer) × Holds board answer i b

    stopped : (o : Outcome) → items_from (format_of board) (on_roll roll) board verdicts s.items ≡ o → (r : Report) → reported r ≡ report_of (format_of board) o
        → (i b : List ℕ) → Holds board o i b → Ran r i b
    stopped o e r told i b held =
        let all : answer ≡ o = g.same ∙ e in
        rw all (told, held)

    holds-here : (n : ℕ) → Holds board (refused n s.items) index ballots
    holds-here n = (g.reached.kept, g.reached.tallied)

    place_is : s.place ≡ place_of (format_of board) board s.items
    place_is = g.reached.stands.place

    pub stop-ended : length board ≤ s.place → (r : Report) → reported r ≡ report_of (format_of board) (refused truncated s.items) → Ran r index ballots
    stop-ended l r told =
        stopped _ (from-ended (format_of board) board (closing_ok board verdicts) (fault (format_of board) (on_roll roll) board verdicts) s.items (rw place_is at l)) r told index ballots (holds-here truncated)

    module _ (there : s.place < length board) {head : Head} (is : head ≡ head_of (get_or board s.place 0)) where
      kind-is : head.kind ≡ kind_of (get_or board (place_of (format_of board) board s.items) 0)
      kind-is = ap (λ (h : Head). h.kind) is ∙ rw place_is

      pub stop-closing : head.kind ≡ 15 → (r : Report)
          → reported r ≡ report_of (format_of board) (closing (closing_ok board verdicts (before board s.items) s.place) (before board s.items)) → Ran r index ballots
      stop-closing k r told =
          stopped _ (from-closing (format_of board) board (closing_ok board verdicts) (fault (format_of board) (on_roll roll) board verdicts) s.items (rw place_is at there) (eq→eqb _ _ (sym kind-is ∙ k))) r (rw place_is at told) index ballots
          (closing-holds index ballots s.items _ g.reached.kept g.reached.tallied)

      module _ (head-word : head.kind ≡ 15 → ⊥) where
        item-word : T (not (is_closing (get_or board (place_of (format_of board) board s.items) 0)))
        item-word = ne→neqb _ _ (λ q. head-word (kind-is ∙ q))

        pub stop-full : s.items ≡ 2048 → (r : Report) → reported r ≡ report_of (format_of board) (refused too_large s.items) → Ran r index ballots
        stop-full q r told =
            stopped _ (from-full (format_of board) board (closing_ok board verdicts) (fault (format_of board) (on_roll roll) board verdicts) s.items (rw place_is at there) item-word (omega arith)) r told index ballots (holds-here too_large)

        module _ (few : s.items < item_limit) {index' ballots' parents' sessions' : List ℕ} {step : Result State Refusal}
            (stepped : Stepped board verdicts roll index ballots parents sessions index' ballots' parents' sessions' s step) where
          pub stop-refused : (x : Refusal) → step ≡ Err x → (r : Report) → reported r ≡ report_of (format_of board) (refused (number_of x) s.items)
              → Ran r index' ballots'
          stop-refused x q r told =
              let number : found_of step ≡ number_of x = ap found_of q in
              let fails : number_of x ≡ no_fault → ⊥ = λ n. absurd (omega (arith, number-some x)) in
              let (same_index, same-ballots, same-parents, same-sessions) = stepped.failed x q in
              rw (same_index, same-ballots)
              (stopped _ (from-refused (format_of board) board (closing_ok board verdicts) (fault (format_of board) (on_roll roll) board verdicts) s.items (rw place_is at there) item-word few (number_of x) (rw place_is at (sym stepped.finding ∙ number)) fails)
              r told index ballots (holds-here (number_of x)))

          module _ (next : State) (q : step ≡ Ok next) where
            pub going_on : length index' ≡ length index → length ballots' ≡ length ballots
                → length parents' ≡ length parents → length sessions' ≡ length sessions
                → Going index₀ ballots₀ parents₀ sessions₀ index' ballots' parents' sessions' next
            going_on li lb lp ls =
                let none : found_of step ≡ no_fault = ap found_of q in
                let (more, reached) = stepped.passed next q in
                record {
                  reached = reached;
                  same = g.same ∙ from-passed (format_of board) board (closing_ok board verdicts) (fault (format_of board) (on_roll roll) board verdicts) s.items (rw place_is at there) item-word few (rw place_is at (sym stepped.finding ∙ none)) ∙ rw (more, add-one);
                  index-size = li ∙ g.index-size;
                  ballots-size = lb ∙ g.ballots-size;
                  parents-size = lp ∙ g.parents-size;
                  sessions-size = ls ∙ g.sessions-size;
                }

            pub going_less : item_limit - next.items < item_limit - s.items
            going_less = let more = (stepped.passed next q).0 in omega arith
