-- Main items depend on no hidden item and on no signature: a main item meets each rule after a history exactly where it meets it after the
-- main items alone. So the main items of a sound board alone are a sound board. Paper: request (iv). Assumes nothing.
use Prim.Native.Nat.{ℕ, ◌+◌, ◌≤◌, zero-le}
use native.Mathlib.Nat.{not-suc-le-zero}
use native.Mathlib.Omega.{arith}
use mathlib.Core.Path.{◌≡◌, refl, sym, ap, subst, ◌∙◌}
use mathlib.Core.Bool.{Bool, true, false, not, ◌&&◌, ◌||◌}
use mathlib.Core.List.{List, [], ◌∷◌, ◌++◌, map, map-append}
use lib.ListN.{length, length-map, length-append}
use lib.Dec.{T, eqb, leb, eqb→eq, leb→le}
use Rattle.model.specs.Lists.{if◌then◌otherwise◌, ◌⇒◌, any, count, keep}
use Rattle.model.specs.Words.{between, closing_word}
use Rattle.model.specs.Format.{Format}
use Rattle.model.specs.Item.{Item, code, is_main, time, word, unsigned, words_of}
use Rattle.model.specs.Types.{ParentRule, zeros, latest_config, of_type, Row, Listed}
use Rattle.model.specs.History.{History, Entry, item_no, items_with, main, main_items, main_number, end_address, first, last, typed, config, parent_number, session_number, entry_of, child_of, session_voter}
use Rattle.model.specs.Links.{previous_ok, parent_ok, time_ok}
use Rattle.model.specs.Phase.{same_round, rounds, is_open, session_of, extraction_ok, open_ok, standing_ok, latest_ok, intent_ok, spoiled_ok, phase_ok}
use Rattle.model.specs.Only.{on_board_ok, under_parent_ok, under_ballot_ok, only_ok}
use Rattle.model.specs.Content.{defines, contests_ok, enables, may_vote, genesis_ok, contest_ok, threshold_ok, authorizer_ok, round_ok, session_ok, commitment_ok, ballot_contests, ballot_ok, fingerprint_ok, trustees_ok, content_ok}
use Rattle.model.specs.Roll.{Eligibility}
use Rattle.model.specs.Keys.{key_of, good_verdict}
use Rattle.model.specs.Audit.{checks}
use Rattle.model.specs.Alone.{main_list, replay, MainBoard}
use Rattle.model.specs.Sound.{Meets, Passed, none, next, Sound}
use Rattle.model.proofs.Tests.{by-test, passes, is_true, is_false, and-iff, all_in-ext}
use Rattle.model.proofs.Lists.{Every, every, every_map, count-few, count-keep, keep-keep, any-kept, any-of-map, map-keep, latest-map}
use Rattle.model.proofs.Numbers.{OnlyMain, MainAt, same_number, first-main, first-at, last_found, last-number}
use Rattle.model.proofs.State.{any_last, main_items-snoc}
use Rattle.model.proofs.Table.{main-low, asks_none, genesis-law}
use Rattle.model.proofs.Entries.{parent-at, Opens, Orderly, each-fine, low-main, typed-only, own-session-at, orderly}
use Rattle.model.proofs.Alone.{view, mains, bare, look, parent-same, session-same, counted-mains, same-voter, same_key, replay-mains, item-unsigned, end-alone}

-- ---- tests

-- a test that passes only where another does
both : (a b : Bool) → (T b → T a) → b ≡ (a && b)
both true b g = refl
both false true g = absurd (g tt)
both false false g = refl

-- what is asked only under a premise
implies-same : (a b c : Bool) → (T a → b ≡ c) → (a ⇒ b) ≡ (a ⇒ c)
unfolding ◌⇒◌
implies-same true b c g = g tt
implies-same false b c g = refl

-- a type of those that p passes is no type that it does not pass
other : (p : ℕ → Bool) (c d : ℕ) → p d ≡ false → T (p c) → eqb c d ≡ false
other p c d q t = is_false (eqb c d) (λ u. rw (eqb→eq c d u, q) at t)

most : (lo hi c : ℕ) → T (between lo hi c) → c ≤ hi
most lo hi c t = leb→le c hi ((and-iff (leb lo c) (leb c hi)).0 t).1

some_number : (h : History) (k : ℕ) → MainAt h k → eqb (main_number h k) 0 ≡ eqb k 0
unfolding count
some_number h k m = same_number h k 0 m (λ l. absurd (not-suc-le-zero l))

-- where only main items pass, the last that passes is one, or none is found
last-at : (p : Entry → Bool) (h : History) → OnlyMain p h → MainAt h (last p h)
last-at p h all l =
    let found = is_false (eqb (last p h) 0) (λ u. omega (arith, eqb→eq (last p h) 0 u)) in
    let (t, only) = last_found p (λ e. T (p e) → T (main e)) h all (rw (any_last p h, found) tt) in
    only t

-- ---- questions to a history and to its main items alone

module _ {f : Format} {h : History} (o : Orderly f h) where
  also-only : (c : ℕ) → c ≤ 34 → (p : Entry → Bool) → OnlyMain (λ e. typed c e && p e) h
  also-only c l p = every_map _ _ (λ e g u. g ((and-iff (typed c e) (p e)).0 u).0) h (typed-only o c l)

  config-only : OnlyMain config h
  config-only = each-fine o _ (λ e a u. low-main a (omega (arith, most 1 6 (code e.item) u)))

  -- a test that only main items pass, and that sees no number, place or signature
  module _ (p : Entry → Bool) (same : (e : Entry) → p (view h e) ≡ p e) (only : OnlyMain p h) where
    kept : Every (λ e. p e ≡ (main e && p (view h e))) h
    kept = every_map _ _ (λ e g. both (main e) (p e) g ∙ ap (main e &&◌) (sym (same e))) h only

    any-mains : any p h ≡ any p (mains h)
    any-mains = any-kept main (view h) p p h kept

    items-mains : items_with p (mains h) ≡ map unsigned (items_with p h)
    unfolding view
    items-mains =
        keep-keep main (view h) p (λ e. e.item) p bare h (every_map _ _ (λ e q. (q, λ (u : T (p e)). refl)) h kept)
        ∙ sym (map-keep p (λ e. e.item) unsigned h)

  any-typed : (c : ℕ) → c ≤ 34 → any (typed c) h ≡ any (typed c) (mains h)
  unfolding view
  any-typed c l = any-mains (typed c) (λ e. refl) (typed-only o c l)

  -- the children of a main item: no two main items have one main number
  any-child : (k : ℕ) → MainAt h k → (q : ℕ → Bool) → ((c : ℕ) → T (q c) → c ≤ 34)
      → any (child_of k q) h ≡ any (child_of (main_number h k) q) (mains h)
  unfolding view
  any-child k m q low =
      any-kept main (view h) (child_of (main_number h k) q) (child_of k q) h (each-fine o _ (λ e a. by-test (main e)
      (λ t. rw (t, same_number h e.parent k (λ l. a.parent-main (passes t)) m))
      (λ t. rw (t, is_false (q (code e.item)) (λ u. rw t at (low-main a (low (code e.item) u)))))))

  rounds-mains : rounds (mains h) ≡ map unsigned (rounds h)
  unfolding rounds view
  rounds-mains =
      rw (items-mains (typed 6) (λ e. refl) (typed-only o 6 (omega arith)))
      (latest-map unsigned same_round (items_with (typed 6) h))

  any-round : (p : Item → Bool) → any p (rounds (mains h)) ≡ any (λ r. p (unsigned r)) (rounds h)
  any-round p = rw rounds-mains (any-of-map p unsigned (rounds h))

  main-items : main_items (mains h) ≡ main_list h
  unfolding view
  main-items = items-mains main (λ e. refl) (every _ (λ e u. u) h)

  threshold-same : (item_no h (first (typed 4) h)).content ≡ (item_no (mains h) (first (typed 4) (mains h))).content
  unfolding view
  threshold-same =
      let only = typed-only o 4 (omega arith) in
      rw (← first-main (typed 4) (view h) (λ e. refl) h only)
      (ap (λ (e : Entry). e.item.content) (sym (look h (first (typed 4) h) (first-at (typed 4) h only))))

  contests-same : (w : List ℕ) → contests_ok h w ≡ contests_ok (mains h) w
  unfolding contests_ok view
  contests-same w =
      rw (all_in-ext w (λ j. any (defines j) h) (λ j. any (defines j) (mains h))
      (λ j k u. any-mains (defines j) (λ e. refl) (also-only 3 (omega arith) (λ e. eqb (word 0 e.item) j))))

  -- ---- the rules, for a main item

  module _ (i : Item) (l : Listed f i.head) (t : T (is_main i)) where
    -- a rule says the same after the main items alone. The item need not meet any other rule
    abbrev Same : (History → Item → Bool) → Type 0
    Same rule = rule h i ≡ rule (mains h) (unsigned i)

    -- checks 8 to 10

    previous-same : Same (previous_ok f)
    unfolding previous_ok end_address
    previous-same = rw (is_true (is_main i) t, end-alone f h, main-items)

    parent-rule : (r : ParentRule) → asks_none r ≡ eqb (code i) 1 → Same (λ h i. parent_ok f h r i)
    unfolding parent_ok asks_none view
    parent-rule zeros q = refl
    parent-rule latest_config q =
        let k = parent_number h i in
        let some = parent-at h i l t (sym q) in
        let same = same_number h k (last config h) some (last-at config h config-only) in
        rw (← parent-same h i l t (sym q), ← last-number config (view h) (λ e. refl) h config-only, some_number h k some, same)
    parent-rule (of_type c) q =
        let k = parent_number h i in
        let some = parent-at h i l t (sym q) in
        rw (← parent-same h i l t (sym q), some_number h k some)
        (ap (λ (e : Entry). not (eqb k 0) && eqb (code e.item) c) (sym (look h k some)))

    time-same : Same time_ok
    unfolding time_ok
    time-same =
        rw (is_true (is_main i) t, main-items, length-map (main_items h) unsigned)
        (ap (λ (j : Item). leb (time j) (time i)) (sym (item-unsigned (main_items h) (length (main_items h)))))

    -- check 11

    extraction-same : Same extraction_ok
    unfolding extraction_ok
    extraction-same = rw (any-typed 32 (omega arith))

    open-same : Same open_ok
    unfolding open_ok is_open
    open-same = rw (any-round (is_open (time i)))

    standing-same : Same standing_ok
    unfolding standing_ok
    standing-same = rw (any-typed 4 (omega arith), any-typed 5 (omega arith))

    latest-same : Same latest_ok
    unfolding latest_ok view
    latest-same =
        implies-same (between 17 21 (code i)) _ _ (λ u.
        let q = other (between 17 21) (code i) 1 refl u in
        let s = other (between 17 21) (code i) 16 refl u in
        let n = session_number h i in
        let v = session_voter (item_no h n) in
        let only = also-only 16 (omega arith) (λ e. eqb (session_voter e.item) v) in
        rw (← same-voter o i l t, ← session-same h i l t q s, ← last-number (session_of v) (view h) (λ e. refl) h only)
        (sym (same_number h n (last (session_of v) h) (own-session-at o i q s) (last-at (session_of v) h only))))

    intent-same : Same intent_ok
    unfolding intent_ok
    intent-same = rw (any-typed 4 (omega arith))

    -- no main item is an opening
    spoiled-same : Same spoiled_ok
    unfolding spoiled_ok
    spoiled-same = implies-same (eqb (code i) 50) _ _ (λ u. absurd (omega (arith, main-low l t, eqb→eq (code i) 50 u)))

    phase-same : Same phase_ok
    unfolding phase_ok
    phase-same = rw (extraction-same, open-same, standing-same, latest-same, intent-same, spoiled-same)

    -- check 12

    on-board-same : Same on_board_ok
    unfolding on_board_ok
    on-board-same = rw (any-typed (code i) (main-low l t))

    -- what stands under its parent already
    own-child : (q : ℕ → Bool) → ((c : ℕ) → T (q c) → c ≤ 34) → eqb (code i) 1 ≡ false → Same (λ h i. any (child_of (parent_number h i) q) h)
    own-child q low g = rw (← parent-same h i l t g) (any-child (parent_number h i) (parent-at h i l t g) q low)

    under-parent-same : Same under_parent_ok
    unfolding under_parent_ok
    under-parent-same =
        let once : ℕ → Bool = λ c. between 18 19 c || between 33 34 c || between 48 51 c in
        implies-same (once (code i)) _ _ (λ u.
        ap not (own-child (λ c. eqb c (code i)) (λ c w. omega (arith, main-low l t, eqb→eq c (code i) w)) (other once (code i) 1 refl u)))

    under-ballot-same : Same under_ballot_ok
    unfolding under_ballot_ok
    under-ballot-same =
        let once = between 20 21 in
        implies-same (once (code i)) _ _ (λ u.
        ap not (own-child once (λ c w. omega (arith, most 20 21 c w)) (other once (code i) 1 refl u)))

    only_same : Same only_ok
    unfolding only_ok
    only_same = rw (on-board-same, under-parent-same, under-ballot-same)

    -- check 13

    round_same : Same round_ok
    unfolding round_ok
    round_same = rw contests-same

    session-ok-same : Same session_ok
    unfolding session_ok
    session-ok-same = rw contests-same

    vote-same : (j : ℕ) → Same (λ h i. may_vote h i j)
    unfolding may_vote is_open
    vote-same j = rw (same-voter o i l t, any-round (enables (time i) j))

    ballot-same : Same (ballot_ok f)
    unfolding ballot_ok
    ballot-same = rw (all_in-ext (ballot_contests f i) (may_vote h i) (may_vote (mains h) (unsigned i)) (λ j k u. vote-same j))

    fingerprint-same : Same (fingerprint_ok f)
    unfolding fingerprint_ok
    fingerprint-same = rw (counted-mains o)

    trustees-same : Same trustees_ok
    unfolding trustees_ok
    trustees-same = rw threshold-same

    content-same : Same (content_ok f)
    unfolding content_ok genesis_ok contest_ok threshold_ok authorizer_ok commitment_ok
    content-same = rw (round_same, session-ok-same, ballot-same, fingerprint-same, trustees-same)

-- ---- from one board to another

-- each rule says the same of an item of a listed type after g and after h
record SameRules (f : Format) (g h : History) (i : Item) (r : Row) : Type 0 where
  previous : previous_ok f g i ≡ previous_ok f h i
  parent : parent_ok f g r.parent i ≡ parent_ok f h r.parent i
  time : time_ok g i ≡ time_ok h i
  phase : phase_ok g i ≡ phase_ok h i
  only : only_ok g i ≡ only_ok h i
  content : content_ok f g i ≡ content_ok f h i
  key : key_of g r.writer i ≡ key_of h r.writer i

-- so it is of a main item, after boards with the same main items
module _ {f : Format} {on on' : Eligibility} {ws vs xs ys : List ℕ} {g h : History} (a : Passed f on ws vs g) (b : Passed f on' xs ys h)
    (q : main_list g ≡ main_list h) (i : Item) (t : T (is_main i)) where
  -- what any history and its main items alone tell alike
  across : {X : Type 0} (r : History → Item → X) → ((h : History) → Orderly f h → r h i ≡ r (mains h) (unsigned i)) → r g i ≡ r h i
  across r same =
      let alone : mains g ≡ mains h = sym (replay-mains a) ∙ ap replay q ∙ replay-mains b in
      same g (orderly a) ∙ ap (λ (k : History). r k (unsigned i)) alone ∙ sym (same h (orderly b))

  same-rules : (l : Listed f i.head) → SameRules f g h i l.row
  same-rules l =
      let r = l.row in
      record {
        previous = across (previous_ok f) (λ h o. previous-same o i l t);
        parent = across (λ h i. parent_ok f h r.parent i) (λ h o. parent-rule o i l t r.parent (genesis-law l));
        time = across time_ok (λ h o. time-same o i l t);
        phase = across phase_ok (λ h o. phase-same o i l t);
        only = across only_ok (λ h o. only_same o i l t);
        content = across (content_ok f) (λ h o. content-same o i l t);
        key = across (λ h i. key_of h r.writer i) (λ h o. same_key o i l t r.writer);
      }

  -- the checks of it say the same, each of them
  pub same-checks : (who : Eligibility) (v : List ℕ) (l : Listed f i.head) → checks f who g v l.row i ≡ checks f who h v l.row i
  unfolding checks
  same-checks who v l =
      let s = same-rules l in
      rw (s.previous, s.parent, s.time, s.phase, s.only, s.content, s.key)

  -- and it meets the rules after both or after neither
  pub main-independent : {who : Eligibility} {v : List ℕ} → Meets f who g v i → Meets f who h v i
  main-independent m =
      let s = same-rules m.listed in
      record {
        listed = m.listed;
        counted = m.counted;
        shaped = m.shaped;
        address = m.address;
        previous = subst T s.previous m.previous;
        parent = subst T s.parent m.parent;
        time = subst T s.time m.time;
        phase = subst T s.phase m.phase;
        only = subst T s.only m.only;
        content = subst T s.content m.content;
        enrolled = m.enrolled;
        verdict = m.verdict ∙ ap good_verdict s.key;
      }

-- ---- the main items as a board of their own

-- the main items of a history h, in no more words than its words ws, as a passed history
record MainPart (f : Format) (on : Eligibility) (ws : List ℕ) (h : History) : Type 0 where
  words : List ℕ
  verdicts : List ℕ
  history : History
  passed : Passed f on words verdicts history
  items : map (λ e. e.item) history ≡ main_items h
  mains : main_items history ≡ main_items h
  short : length words ≤ length ws

-- one more item
module _ {f : Format} {on : Eligibility} {us ts v : List ℕ} {g : History} {i : Item} (b : Passed f on us ts g) (m : Meets f on g v i) (p : MainPart f on us g) where
  abbrev new : Entry
  new = entry_of g (length us) i

  with-main : T (is_main i) → MainPart f on (us ++ words_of i) (g ++ (new ∷ []))
  unfolding if◌then◌otherwise◌ entry_of
  with-main t =
      let e = entry_of p.history (length p.words) i in
      let one = is_true (is_main i) t in
      let meets = main-independent b p.passed (ap (map unsigned) (sym p.mains)) i t m in
      record {
        words = p.words ++ words_of i;
        verdicts = p.verdicts ++ v;
        history = p.history ++ (e ∷ []);
        passed = next p.words p.verdicts p.history v i p.passed meets;
        items = rw (map-append, main_items-snoc g new, one, p.items);
        mains = rw (main_items-snoc p.history e, main_items-snoc g new, one, p.mains);
        short = simp length-append (omega (arith, p.short));
      }

  with-hidden : is_main i ≡ false → MainPart f on (us ++ words_of i) (g ++ (new ∷ []))
  unfolding if◌then◌otherwise◌ entry_of
  with-hidden q =
      let same : main_items (g ++ (new ∷ [])) ≡ main_items g = rw (main_items-snoc g new, q) in
      record {
        words = p.words;
        verdicts = p.verdicts;
        history = p.history;
        passed = p.passed;
        items = p.items ∙ sym same;
        mains = p.mains ∙ sym same;
        short = simp length-append (omega (arith, p.short));
      }

-- a board's main items alone pass
main-alone : {f : Format} {on : Eligibility} {ws vs : List ℕ} {h : History} → Passed f on ws vs h → MainPart f on ws h
unfolding keep
main-alone none = record { words = []; verdicts = []; history = []; passed = none; items = refl; mains = refl; short = zero-le }
main-alone (next us ts g v i b m) =
    let p = main-alone b in
    by-test (is_main i) (λ q. with-main b m p (passes q)) (λ q. with-hidden b m p q)

genesis-main : (h : History) → OnlyMain (typed 1) h → Opens h → 1 ≤ length h → 1 ≤ count main h
unfolding count
genesis-main [] all o l = l
genesis-main (e ∷ es) all o l = rw (is_true (main e) (all.0 o)) (omega arith)

-- and those of a sound board are a sound board
pub main-board : {f : Format} {ws vs roll : List ℕ} {h : History} → Sound f ws vs roll h → MainBoard f roll h
main-board {ws} {h} s =
    let p = main-alone s.passed in
    let o = orderly s.passed in
    let item : Entry → Item = λ e. e.item in
    let many : length p.history ≡ count main h = sym (length-map p.history item) ∙ ap length p.items ∙ count-keep main item h in
    let long : length ws ≡ length s.words + 1 = rw s.closed (length-append s.words (closing_word (length h) ∷ [])) in
    record {
      board = p.words ++ (closing_word (length p.history) ∷ []);
      verdicts = p.verdicts;
      history = p.history;
      sound = record {
        words = p.words;
        passed = p.passed;
        good_roll = s.good_roll;
        opened = omega (arith, many, genesis-main h (typed-only o 1 (omega arith)) o.opens s.opened);
        few = omega (arith, many, count-few main h, s.few);
        short = simp length-append (omega (arith, long, p.short, s.short));
        closed = refl;
      };
      items = p.items;
    }
