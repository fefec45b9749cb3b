-- What the audit answers and writes for a board with one more main item follows from what it answered and wrote for the board without it.
-- Paper: request (xiii). Assumes nothing.
use Prim.Native.Nat.{ℕ, zero, suc, ◌+◌, ◌-◌, ◌*◌, ◌≤◌, ◌<◌}
use native.Mathlib.Numerals.{add-one}
use native.Mathlib.Omega.{arith}
use mathlib.Core.Path.{◌≡◌, refl, sym, ap, ap₂, ◌∙◌}
use mathlib.Core.Logic.{◌≢◌}
use mathlib.Core.Bool.{Bool, true, false, not, ◌&&◌, beq}
use mathlib.Core.List.{List, [], ◌∷◌, ◌++◌, map}
use lib.ListN.{length, get_or, set, take, drop, length-append, length-set, get_or-append}
use lib.Seq.{sets, get_or-set_other, take-append_seam, take_at}
use lib.Dec.{T, eqb, leb, eqb→eq}
use borrow.Author.Tests.{eqb-true, eqb-false, eq-eqb, ne_eqb, le-leb}
use Rattle.model.specs.Lists.{if◌then◌otherwise◌, part, any, count, keep, has, distinct}
use Rattle.model.specs.Words.{same_words}
use Rattle.model.specs.Codes.{ballot_type}
use Rattle.model.specs.Format.{Format, longest_address}
use Rattle.model.specs.Item.{Item, item_at, code, is_main}
use Rattle.model.specs.Types.{in_session}
use Rattle.model.specs.History.{History, Entry, entry, item_no, first_from, main, main_number, end_address, parent_of, parent_number, session_number, cast_or_spoil, entry_of, session_voter, session_weight}
use Rattle.model.specs.Counted.{Vote, vote_of, counted, total_weight, voters, without}
use Rattle.model.specs.Roll.{Elector, electors, rising, names, on_roll, PairAt}
use Rattle.model.specs.Audit.{accepted, item_limit, index_row, ballot_row, index_need, ballot_need}
use Rattle.model.specs.Report.{report_of, mains_column, closer_column, row_place, row_word, no_number, table_after, number_word, row_words, index_row_of, index_rows, ballot_rows, filled}
use Rattle.growth.specs.Growth.{OneMore, Audited, audited, rows_read, first_of, row_item, new_parent, new_session, new_row, closed_index, new_vote, new_ballots, is_new_voter, follow}
use Rattle.model.specs.Sound.{Meets, Sound}
use Rattle.model.proofs.Tests.{by-test, passes, if-both, is_true, and-iff, not_iff, or_left, or_right}
use Rattle.model.proofs.Lists.{Every, turns}
use Rattle.model.proofs.Numbers.{entry-snoc, main-next}
use Rattle.model.proofs.Table.{main-low}
use Rattle.model.proofs.Entries.{parent-first, parent-bound, session-own, session-up, parent-some, parent-main, fine-parent, parent-session, genesis-first, orderly}
use Rattle.model.proofs.Votes.{weight-append, counted-distinct}
use Rattle.model.proofs.State.{count-snoc, end_address-snoc}
use Rattle.model.proofs.Unchecked.{entry-history, sound-history}
use Rattle.model.proofs.Closers.{closer-new, closes-open, closer-closed}
use Rattle.model.proofs.Tables.{length-index_rows, number-some, number-none, length-ballot_rows, ballot_rows-append, get_or-filled, length-filled, filled-append, filled-set}
use Rattle.model.proofs.Rows.{item-here, index-row, index-says}
use Rattle.model.proofs.Roll.{one_right, good-rising, on-roll, session-eligible, counted-enrolled}
use Rattle.model.proofs.Bound.{few-ballots}
use Rattle.model.proofs.OneItem.{counted-other, counted-cast, rows_other, rows-close}
use Rattle.growth.proofs.Longer.{made, longer, meets}

-- ---- the rows and the weight without a voter's row

-- a voter that has no row
had-none : (v : ℕ) (xs : List Vote) → (T (has v (voters xs)) → ⊥) → without v xs ≡ xs
unfolding any keep if◌then◌otherwise◌
had-none v [] n = refl
had-none v (x ∷ xs) n =
    let other = ne_eqb x.voter v (λ q. n (or_left (eqb v x.voter) (has v (voters xs)) (passes (eq-eqb v x.voter (sym q))))) in
    rw (other, had-none v xs (λ t. n (or_right (eqb v x.voter) (has v (voters xs)) t)))

-- a voter that has one: by the roll es, its weight is w
module _ (v w : ℕ) (es : List Elector) (rises : T (rising (map (λ e. e.voter) es))) (named : T (any (names v w) es)) where
  had-row : (xs : List Vote) → T (distinct (voters xs)) → Every (λ x. T (any (names x.voter x.weight) es)) xs → T (has v (voters xs))
      → (suc (length (without v xs)) ≡ length xs) × (total_weight (without v xs) + w ≡ total_weight xs)
  unfolding any keep distinct total_weight if◌then◌otherwise◌
  had-row [] d all t = absurd t
  had-row (x ∷ xs) d all t =
      let (alone, rest) = (and-iff (not (has x.voter (voters xs))) (distinct (voters xs))).0 d in
      by-test (eqb v x.voter)
      (λ q. let same = eqb-true v x.voter q in
      let gone = had-none v xs (λ u. (not_iff (has x.voter (voters xs))).0 alone (rw same at u)) in
      let weight = one_right v x.weight w es rises (rw (← same) at all.0) named in
      rw (eq-eqb x.voter v (sym same), gone) (refl, omega arith))
      (λ q. let other = ne_eqb x.voter v (λ e. eqb-false v x.voter q (sym e)) in
      let (rows, weight) = had-row xs rest all.1 (rw q at t) in
      rw other (omega arith))

-- ---- after a sound board, an item that meets the rules

module _ {f : Format} {ws vs roll : List ℕ} {h : History} (s : Sound f ws vs roll h) {v : List ℕ} {i : Item} (m : Meets f (on_roll roll) h v i) where
  later : eqb (code i) 1 ≡ false
  later = ne_eqb (code i) 1 (λ q. let none = ap length (genesis-first h m (orderly s.passed).opens q) in omega (arith, s.opened))

  parent_in : parent_number h i ≤ length h
  parent_in = parent-bound h i later

  -- the new entry, whose head stands where the closing word stood
  abbrev new : Entry
  new = entry_of h (length ws - 1) i

  abbrev after : History
  after = h ++ (new ∷ [])

  abbrev vote : Vote
  vote = vote_of h new

  module _ (c : code i ≡ 20) where
    session-inside : (1 ≤ session_number h i) × (session_number h i ≤ length h)
    unfolding in_session
    session-inside =
        let other = ne_eqb (code i) 16 (λ q. omega arith) in
        rw (session-up h i later other) (parent-session m (orderly s.passed) (rw c tt) later other, (fine-parent m (orderly s.passed) later).session-in)

    -- the roll has the voter with that weight
    pub cast-enrolled : T (on_roll roll vote.voter vote.weight)
    unfolding vote_of entry_of
    cast-enrolled =
        let other = ne_eqb (code i) 16 (λ q. omega arith) in
        let typed = (fine-parent m (orderly s.passed) later).session-typed (rw (session-up h i later other) at session-inside.0) in
        session-eligible s.passed (session_number h i) (rw (session-up h i later other) (eqb→eq _ 16 typed))

    abbrev others : List Vote
    others = without vote.voter (counted h)

    size : (length (counted after) ≡ length others + 1) × (total_weight (counted after) ≡ total_weight others + vote.weight)
    unfolding total_weight
    size = rw (counted-cast s.passed m (length ws - 1) c) (length-append others (vote ∷ []), omega (arith, weight-append others (vote ∷ [])))

    pub cast-again : T (has vote.voter (voters (counted h)))
        → (length (counted after) ≡ length (counted h)) × (total_weight (counted after) ≡ total_weight (counted h))
    unfolding on_roll
    cast-again t =
        let rises = good-rising roll s.good_roll in
        let (rows, weight) = had-row vote.voter vote.weight (electors roll) rises cast-enrolled (counted h) (counted-distinct h) (counted-enrolled s) t in
        omega (arith, size)

    pub cast-new : (T (has vote.voter (voters (counted h))) → ⊥)
        → (length (counted after) ≡ suc (length (counted h))) × (total_weight (counted after) ≡ total_weight (counted h) + vote.weight)
    cast-new n = let none = had-none vote.voter (counted h) n in let (rows, weight) = rw none at size in (omega arith, weight)

  -- the words of the rows that stood, save one
  words-stay : (q : ℕ) → q < index_row * length h → (T (cast_or_spoil (code i)) → q ≢ row_place (parent_number h i) closer_column)
      → get_or (index_rows after 0 after) q 0 ≡ get_or (index_rows h 0 h) q 0
  words-stay q l other =
      let rows = index_rows h 0 h in
      let row = row_words (entry_of h (length ws - 1) i) (count main h) 0 in
      let place = row_place (parent_number h i) closer_column in
      let long : length rows ≡ index_row * length h = length-index_rows h 0 h in
      by-test (cast_or_spoil (code i))
      (λ c. rw (rows-close s.passed m (length ws - 1) (passes c))
      (get_or-append (set rows place (suc (length h))) row 0 q (simp length-set (omega arith))
      ∙ get_or-set_other rows place q (suc (length h)) 0 (other (passes c))))
      (λ c. rw (rows_other s.passed m (length ws - 1) (rw c tt)) (get_or-append rows row 0 q (omega arith)))

-- ---- the rows of a ballot table, read back

module _ (v : ℕ) where
  read-without : (xs : List Vote) → ballot_rows (without v (rows_read (ballot_rows xs))) ≡ ballot_rows (without v xs)
  unfolding ballot_rows rows_read keep
  read-without [] = refl
  read-without (x ∷ xs) =
      let rest = read-without xs in
      let stays = not (eqb x.voter v) in
      if-both ballot_rows stays (ap (λ (rows : List ℕ). x.ballot ∷ x.voter ∷ x.weight ∷ rows) rest) rest ∙ sym (if-both ballot_rows stays refl refl)

read-voters : (xs : List Vote) → voters (rows_read (ballot_rows xs)) ≡ voters xs
unfolding ballot_rows rows_read
read-voters [] = refl
read-voters (x ∷ xs) = rw (read-voters xs)

-- the rows in use
take-filled : (n : ℕ) (rows : List ℕ) (k : ℕ) → length rows ≡ k → take k (filled n rows) ≡ rows
unfolding filled
take-filled n rows k e = take_at rows _ k e

-- ---- the step, from the tables of a sound board

-- a search over numbers, beside one over entries
first-of : (q : ℕ → Bool) (p : Entry → Bool) (h : History) → ((k : ℕ) → 1 ≤ k → k ≤ length h → q k ≡ p (entry h k)) → (k : ℕ) (es : History) → drop k h ≡ es
    → first_of q (suc k) (length es) ≡ first_from (suc k) p es
unfolding first_of first_from
first-of q p h same k [] e = refl
first-of q p h same k (x ∷ xs) e =
    let (here, all) = item-here h k x xs e in
    let test : q (suc k) ≡ p x = same (suc k) (omega arith) all ∙ ap p here in
    rw (test, first-of q p h same (suc k) xs (turns h k x xs e).after)

module _ {f : Format} {ws vs roll : List ℕ} {h : History} (s : Sound f ws vs roll h) where
  -- an item is read where its entry says
  item-placed : (k : ℕ) → 1 ≤ k → k ≤ length h → item_at f ws (entry h k).place ≡ item_no h k
  unfolding entry_of
  item-placed zero one all = absurd (omega arith)
  item-placed (suc k) one all =
      let made = ap (λ (g : History). entry g (suc k)) (sound-history s) ∙ entry-history f ws (length h) k all in
      ap (λ (e : Entry). item_at f ws e.place) made ∙ sym (ap (λ (e : Entry). e.item) made)

-- in tables of n and b words, for a main item
module _ {f : Format} {ws vs roll : List ℕ} {h : History} (s : Sound f ws vs roll h) {v : List ℕ} {i : Item} (m : Meets f (on_roll roll) h v i)
    (t : T (is_main i)) (n b : ℕ) where
  -- what is answered and written for the board
  abbrev a : Audited
  a = record { report = report_of f (accepted h); index = filled n (index_rows h 0 h); ballots = filled b (ballot_rows (counted h)) }

  row-item : (k : ℕ) → 1 ≤ k → k ≤ length h → row_item f ws a.index k ≡ item_no h k
  row-item k one all = rw (index-says n h k one all).place (item-placed s k one all)

  new-parent : new_parent f ws a i ≡ parent_number h i
  unfolding new_parent report_of
  new-parent =
      let low : leb (code i) 48 ≡ true = le-leb (code i) 48 (omega (arith, main-low m.listed t)) in
      let test : (b : Bool) → beq b true ≡ b = λ b. by-test b (λ q. rw q) (λ q. rw q) in
      first-of _ (parent_of i) h
      (λ k one all. rw (low, test (main (entry h k))) (ap (λ (j : Item). is_main j && same_words j.address i.parent) (row-item k one all)))
      0 h refl
      ∙ sym (parent-first h i (later s m))

  new-session : new_session f ws a i ≡ number_word (session_number h i)
  unfolding new_session report_of if◌then◌otherwise◌
  new-session =
      by-test (eqb (code i) 16)
      (λ q. rw (q, session-own h i (later s m) q, number-some (suc (length h)) (omega arith)))
      (λ q. rw (q, new-parent, session-up h i (later s m) q, (index-says n h (parent_number h i) (parent-some m) (parent_in s m)).session))

  new-row : new_row f ws a i ≡ row_words (new s m) (count main h) 0
  unfolding entry_of report_of
  new-row = rw (new-parent, new-session, number-none)

  -- a row is put behind k words of rows
  put_last : (rows row : List ℕ) (k : ℕ) → length rows ≡ k → k + length row ≤ n → sets (filled n rows) k row ≡ filled n (rows ++ row)
  put_last rows row k e l = rw (← e) (sym (filled-append n rows row (omega arith)))

  new-index : length h < item_limit → index_need ≤ n
      → sets (closed_index f ws a i) (index_row * length h) (new_row f ws a i) ≡ filled n (index_rows (after s m) 0 (after s m))
  unfolding closed_index if◌then◌otherwise◌ report_of
  new-index few room =
      let rows = index_rows h 0 h in
      let row = row_words (new s m) (count main h) 0 in
      let place = row_place (parent_number h i) closer_column in
      let long : length rows ≡ index_row * length h = length-index_rows h 0 h in
      by-test (cast_or_spoil (code i))
      (λ q. let closed = set rows place (suc (length h)) in
      let inside : place < length rows = omega (arith, parent-some m, parent_in s m) in
      let table : closed_index f ws a i ≡ filled n closed = rw (q, new-parent) (sym (filled-set n rows place (suc (length h)) inside)) in
      ap₂ (λ (t r : List ℕ). sets t (index_row * length h) r) table new-row
      ∙ put_last closed row (index_row * length h) (simp length-set long) (omega arith)
      ∙ ap (filled n) (sym (rows-close s.passed m (length ws - 1) (passes q))))
      (λ q. let table : closed_index f ws a i ≡ filled n rows = rw q in
      ap₂ (λ (t r : List ℕ). sets t (index_row * length h) r) table new-row
      ∙ put_last rows row (index_row * length h) long (omega arith)
      ∙ ap (filled n) (sym (rows_other s.passed m (length ws - 1) (rw q tt))))

  module _ (c : code i ≡ 20) where
    session-item : row_item f ws a.index (new_session f ws a i) ≡ item_no h (session_number h i)
    session-item =
        let (one, all) = session-inside s m c in
        ap (row_item f ws a.index) (new-session ∙ number-some (session_number h i) one) ∙ row-item (session_number h i) one all

    ballot-number : row_word a.index (new_parent f ws a i) mains_column + 1 ≡ main_number h (parent_number h i)
    ballot-number =
        rw (new-parent, (index-says n h (parent_number h i) (parent-some m) (parent_in s m)).mains)
        (main-next h (parent_number h i) (parent-main m (later s m) t))

    new-vote : new_vote f ws a i ≡ record { ballot = (vote s m).ballot; voter = (vote s m).voter; weight = (vote s m).weight; content = [] }
    unfolding new_vote vote_of entry_of
    new-vote = λ j. record { ballot = ballot-number j; voter = session_voter (session-item j); weight = session_weight (session-item j); content = [] }

  module _ (roomy : ballot_need ≤ b) where
    -- the rows that stand are read back
    rows-read : take (ballot_row * length (counted h)) (filled b (ballot_rows (counted h))) ≡ ballot_rows (counted h)
    rows-read = take-filled b (ballot_rows (counted h)) _ (length-ballot_rows (counted h))

    new-ballots : new_ballots f ws a i ≡ filled b (ballot_rows (counted (after s m)))
    unfolding new_ballots if◌then◌otherwise◌ report_of ballot_rows
    new-ballots =
        by-test (eqb (code i) 20)
        (λ q. let c = eqb-true (code i) 20 q in
        let size : length (filled b (ballot_rows (counted h))) ≡ b =
        length-filled b (ballot_rows (counted h)) (omega (arith, length-ballot_rows (counted h), few-ballots s.passed s.few)) in
        rw (q, size, rows-read, new-vote c, ballot_rows-append, read-without (vote s m).voter (counted h))
        (ap (filled b) (sym (ap ballot_rows (counted-cast s.passed m (length ws - 1) c) ∙ ballot_rows-append (others s m c) (vote s m ∷ [])))))
        (λ q. rw q (ap (λ (xs : List Vote). filled b (ballot_rows xs)) (sym (counted-other s.passed m (length ws - 1) (eqb-false (code i) 20 q)))))

    is-new : (c : code i ≡ 20) → is_new_voter f ws a i ≡ not (has (vote s m).voter (voters (counted h)))
    unfolding is_new_voter report_of
    is-new c = rw (eq-eqb (code i) 20 c, rows-read, new-vote c, read-voters (counted h))

    not_new : eqb (code i) 20 ≡ false → is_new_voter f ws a i ≡ false
    unfolding is_new_voter
    not_new q = rw q

    -- how many they are, and their weight
    new-totals : (length (counted (after s m)) ≡ (if is_new_voter f ws a i then suc (length (counted h)) otherwise length (counted h)))
        × (total_weight (counted (after s m)) ≡ (if is_new_voter f ws a i then total_weight (counted h) + (new_vote f ws a i).weight otherwise total_weight (counted h)))
    unfolding if◌then◌otherwise◌
    new-totals =
        by-test (eqb (code i) 20)
        (λ q. let c = eqb-true (code i) 20 q in
        by-test (has (vote s m).voter (voters (counted h)))
        (λ had. rw (is-new c, had) (cast-again s m c (passes had)))
        (λ none. rw (is-new c, none, new-vote c) (cast-new s m c (λ t. rw none at t))))
        (λ q. rw (not_new q, counted-other s.passed m (length ws - 1) (eqb-false (code i) 20 q)) (refl, refl))

    new-report : report_of f (accepted (after s m)) ≡ (follow f ws a i).report
    unfolding report_of follow if◌then◌otherwise◌ entry_of
    new-report =
        let new = new s m in
        let yes = is_true (is_main i) t in
        let items : length (after s m) ≡ suc (length h) = rw (length-append h (new ∷ []), add-one) in
        let mains : count main (after s m) ≡ suc (count main h) = rw (count-snoc main h new, yes) in
        let end : end_address f (after s m) ≡ i.address = rw (end_address-snoc h new f, yes) in
        λ j. record {
          number = 0;
          items = items j;
          mains = mains j;
          end = filled longest_address (end j);
          ballots = new-totals.0 j;
          weight = new-totals.1 j;
        }

    -- so the step gives what the audit answers and writes for the longer board
    pub follows : length h < item_limit → index_need ≤ n → let g = after s m in
        record { report = report_of f (accepted g); index = filled n (index_rows g 0 g); ballots = filled b (ballot_rows (counted g)) } ≡ follow f ws a i
    unfolding follow report_of
    follows few room = λ j. record { report = new-report j; index = sym (new-index few room) j; ballots = sym new-ballots j }

-- ---- of two sound boards, and the tables index, ballots of the first and index', ballots' of the second

module _ {f : Format} {ws vs ws' vs' roll : List ℕ} {h h' : History} (o : OneMore ws ws') (s : Sound f ws vs roll h) (s' : Sound f ws' vs' roll h')
    (index ballots index' ballots' : List ℕ) where
  abbrev i : Item
  i = item_at f o.more 0

  abbrev one : Audited
  one = audited f (accepted h) index ballots

  abbrev two : Audited
  two = audited f (accepted h') index' ballots'

  abbrev place : ℕ
  place = length ws - 1

  abbrev last : Entry
  last = entry_of h place i

  met : Meets f (on_roll roll) h (made o s s').verdict i
  met = meets o s s'

  same : h' ≡ h ++ (last ∷ [])
  same = longer o s s'

  pub more-other : code i ≢ 20 → (counted h' ≡ counted h) × (length ballots' ≡ length ballots → two.ballots ≡ one.ballots)
      × (two.report.ballots ≡ one.report.ballots) × (two.report.weight ≡ one.report.weight)
  unfolding table_after report_of
  more-other n = rw (same, counted-other s.passed met place n) (refl, λ q. rw q, refl, refl)

  module _ (c : code i ≡ 20) where
    abbrev cast : Vote
    cast = vote_of h last

    abbrev left : List Vote
    left = without cast.voter (counted h)

    pub more-cast : (counted h' ≡ left ++ (cast ∷ []))
        × (two.ballots ≡ filled (length ballots') (ballot_rows left ++ (cast.ballot ∷ cast.voter ∷ cast.weight ∷ [])))
    unfolding table_after ballot_rows
    more-cast = rw (same, counted-cast s.passed met place c) (refl, ap (filled (length ballots')) (ballot_rows-append left (cast ∷ [])))

    pub more-on-roll : (p : ℕ) × PairAt roll cast.voter cast.weight p
    more-on-roll = (on-roll roll cast.voter cast.weight).0 (cast-enrolled s met c)

    -- all sessions of the voter have that weight
    pub more-weight : (k : ℕ) → code (item_no h' k) ≡ 16 → session_voter (item_no h' k) ≡ cast.voter → session_weight (item_no h' k) ≡ cast.weight
    unfolding on_roll
    more-weight k q same =
        let named : T (on_roll roll cast.voter (session_weight (item_no h' k))) = rw same at (session-eligible s'.passed k q) in
        one_right cast.voter (session_weight (item_no h' k)) cast.weight (electors roll) (good-rising roll s.good_roll) named (cast-enrolled s met c)

    pub more-again : T (has cast.voter (voters (counted h))) → (two.report.ballots ≡ one.report.ballots) × (two.report.weight ≡ one.report.weight)
    unfolding report_of
    more-again t = rw same (cast-again s met c t)

    pub more-new : T (not (has cast.voter (voters (counted h))))
        → (two.report.ballots ≡ one.report.ballots + 1) × (two.report.weight ≡ one.report.weight + cast.weight)
    unfolding report_of
    more-new t = rw (same, add-one) (cast-new s met c ((not_iff (has cast.voter (voters (counted h)))).0 t))

  pub rows_stay : (k c : ℕ) → 1 ≤ k → k ≤ length h → c < index_row → (T (cast_or_spoil (code i)) → k ≡ parent_number h i → c ≢ closer_column)
      → row_word two.index k c ≡ row_word one.index k c
  unfolding table_after
  rows_stay k c least all l other =
      let some = parent-some met in
      rw (same, get_or-filled (length index'), get_or-filled (length index))
      (words-stay s met (row_place k c) (omega arith)
      (λ t q. other t (omega arith) (omega arith)))

  pub row-closed : T (cast_or_spoil (code i)) → let k = parent_number h i in
      (code (item_no h k) ≡ ballot_type) × (row_word one.index k closer_column ≡ no_number) × (row_word two.index k closer_column ≡ length h + 1)
  unfolding table_after
  row-closed t =
      let k = parent_number h i in
      let some = parent-some met in
      let inside = parent_in s met in
      let (ballot, open-now) = closes-open s.passed met place t in
      let now : k ≤ length (h ++ (last ∷ [])) = simp length-append (omega arith) in (
        eqb→eq (code (item_no h k)) ballot_type ballot,
        (index-says (length index) h k some inside).closer ∙ ap number_word open-now ∙ number-none,
        rw (same, add-one)
            ((index-says (length index') (h ++ (last ∷ [])) k some now).closer
            ∙ ap number_word (closer-closed s.passed met place t)
            ∙ number-some (suc (length h)) (omega arith)),
      )

  pub row_new : part (index_row * length h) index_row two.index ≡ row_words last (count main h) 0
  unfolding table_after index_row_of
  row_new =
      let n = length h in
      let all = h ++ (last ∷ []) in
      let before : suc n - 1 ≡ n = omega arith in
      let row = rw (before, entry-snoc, take-append_seam, closer-new s.passed met place)
      at (index-row (length index') all (suc n) (omega arith) (simp length-append (omega arith))) in
      rw same row

  module _ (t : T (is_main i)) (roomy : ballot_need ≤ length ballots) where
    pub report-followed : two.report ≡ (follow f ws one i).report
    unfolding table_after
    report-followed = rw same (new-report s met t (length index) (length ballots) roomy)

    pub followed : index_need ≤ length index → length index' ≡ length index → length ballots' ≡ length ballots → two ≡ follow f ws one i
    unfolding table_after
    followed room p q =
        let few : length h < item_limit = omega (arith, simp length-append at (rw same at s'.few)) in
        rw (same, p, q) (follows s met t (length index) (length ballots) roomy few room)
