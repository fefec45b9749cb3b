-- The rules of session, commitments and ballot, by their tests. Assumes nothing.
use Prim.Native.Nat.{ℕ, zero, suc, ◌+◌, ◌-◌, ◌*◌, ◌%◌, ◌^◌, ◌≤◌, ◌<◌}
use native.Mathlib.Nat.{mul-le-mul}
use native.Mathlib.Decide.{dec_le}
use native.Mathlib.Omega.{arith}
use mathlib.Core.Path.{◌≡◌, refl, sym, ap, ◌∙◌}
use mathlib.Core.Logic.{◌≢◌, by_cases}
use mathlib.Core.Bool.{Bool, true, false, ◌&&◌, and-false}
use mathlib.Core.List.{List, []}
use lib.ListN.{length, get_or, take, drop, length-drop}
use lib.Seq.{take_all}
use lib.Dec.{eqb, leb, eqb→eq}
use borrow.Author.Tests.{eq-eqb, ne_eqb}
use Rattle.model.specs.Lists.{◌⇒◌, part, any}
use Rattle.model.specs.Words.{between, pair, member, size, all_in, low_zero}
use Rattle.model.specs.Codes.{session_type, voter_commitment_type, server_commitment_type, ballot_type}
use Rattle.model.specs.Item.{Item, item_length, code, time, word}
use Rattle.model.specs.History.{History, Entry, entry, item_no, session_number}
use Rattle.model.specs.Phase.{rounds}
use Rattle.model.specs.Content.{contests_ok, enables, may_vote, cryptograms_ok, session_ok, commitment_ok, ballot_contests, ballot_ok}
use Rattle.model.proofs.Parts.{length_part, part-part}
use Rattle.model.proofs.Numbers.{entry-none}
use Rattle.model.proofs.Keys.{session-count}
use Rattle.format.specs.Format.{format_of}
use Rattle.format.specs.Layout.{item_of}
use Rattle.format.specs.declared.item.Item as layout
use Rattle.format.specs.declared.format.Format.{Format}
use Rattle.format.proofs.Traits
use Rattle.format.proofs.Traits.{Knows}
use Rattle.sets.proofs.Sets.{all_in-none, all_in-and}
use Rattle.index.specs.declared.Known.{Known}
use Rattle.index.specs.Known.{IsKnown}
use Rattle.index.specs.Kept.{before, item_after}
use Rattle.index.proofs.Counts.{has_words, entry-exactly}
use Rattle.index.proofs.Reading.{known-item}
use Rattle.state.specs.Standing.{enabled_word}
use Rattle.state.specs.declared.State.{State}
use Rattle.state.specs.Stands.{AtItem}
use Rattle.state.proofs.Had.{at-had}
use Rattle.state.proofs.Rounds.{rounds-small}
use Rattle.state.proofs.Defined.{within-enabled}
use Rattle.state.proofs.At as at
use Rattle.state.proofs.At.{at_code, at-session, at-time, at_words, at-content-words, session-in-range}
use Rattle.fields.proofs.Words.{of-type, of-other, content-length, known-content}
use Rattle.voting.specs.Rules.{AtBallot, own_contests}

-- ---- the last word of each cryptogram

-- the words of n cryptograms are few
pub words-few : (n size : ℕ) → n ≤ 256 → size ≤ 34 → n * size ≤ 8704
words-few n size l m = omega (arith, mul-le-mul l m)

module _ (sets each : ℕ) (content : List ℕ) where
  abbrev good : ℕ → Bool
  good k = cryptograms_ok sets each k content

  pub none-yet : good 0 ≡ true
  unfolding cryptograms_ok
  none-yet = refl

  good-step : (k : ℕ) → good (k + 1) ≡ (low_zero 16 (get_or content (sets + (k + 1) * each - 1) 0) && good k)
  unfolding cryptograms_ok
  good-step k = let e : k + 1 ≡ suc k = omega arith in rw e

  module _ (k last : ℕ) (is : last ≡ get_or content (sets + (k + 1) * each - 1) 0) where
    pub one-more : last % 2 ^ 16 ≡ 0 → good k ≡ true → good (k + 1) ≡ true
    unfolding low_zero
    one-more q g = good-step k ∙ rw (← is, eq-eqb _ _ q, g)

    -- one that is not good is among any that are more
    one-bad : (last % 2 ^ 16 ≡ 0 → ⊥) → good (k + 1) ≡ false
    unfolding low_zero
    one-bad q = good-step k ∙ rw (← is, ne_eqb _ _ q)

    pub one-stop : (last % 2 ^ 16 ≡ 0 → ⊥) → (n : ℕ) → k < n → good n ≡ false
    one-stop q zero l = absurd (omega arith)
    one-stop q (suc n) l =
        by_cases (dec_le n k)
        (λ d. let e : suc n ≡ k + 1 = omega arith in rw e (one-bad q))
        (λ d. let e : suc n ≡ n + 1 = omega arith in rw e (good-step n ∙ rw (one-stop q n (omega arith), and-false)))

module _ {board index : List ℕ} {s : State} {c : Known} (a : AtItem board index s c) where
  abbrev h : History
  h = before board s.items

  abbrev i : Item
  i = item_after board s.items

  -- ---- 16, session

  pub session-other : (c.item.head.code ≡ session_type → ⊥) → true ≡ session_ok h i
  unfolding session_ok
  session-other q = of-other a session_type q _

  pub session-words : c.item.head.code ≡ session_type → (content : List ℕ) → content ≡ i.content → (19 ≤ length content) × (length content ≤ 26)
  unfolding has_words
  session-words q content e =
      let words = at_words a session_type 19 26 tt q in
      let long = ap length e ∙ content-length a in
      (omega arith, omega arith)

  -- its contests stand last
  pub session-set : (content : List ℕ) → take (length content - 18) (drop 18 content) ≡ drop 18 content
  session-set content = take_all (length content - 18) (drop 18 content) (simp length-drop (omega arith))

  pub session-is : c.item.head.code ≡ session_type → (content contests : List ℕ) → content ≡ i.content → contests ≡ drop 18 content → (weight : ℕ) → weight ≡ word 1 i
      → (leb 1 weight && contests_ok h contests) ≡ session_ok h i
  unfolding session_ok
  session-is q content contests e k weight d = rw (d, k, e) (of-type a session_type q _)

  -- ---- 17 and 18, commitments

  pub commitment-other : between voter_commitment_type server_commitment_type c.item.head.code ≡ false → true ≡ commitment_ok (format_of board) i
  unfolding commitment_ok ◌⇒◌
  commitment-other q = rw (rw (at_code a) at q)

  pub commitment-is : between voter_commitment_type server_commitment_type c.item.head.code ≡ true → {f : Format} → Knows board f
      → eqb (word (f.commitment - 1) i % f.unit) 0 ≡ commitment_ok (format_of board) i
  unfolding commitment_ok ◌⇒◌ low_zero
  commitment-is q n = rw (rw (at_code a) at q, n.commitment, n.unit)

  -- ---- 19, ballot

  pub ballot-other : (c.item.head.code ≡ ballot_type → ⊥) → true ≡ ballot_ok (format_of board) h i
  unfolding ballot_ok
  ballot-other q = of-other a ballot_type q _

-- a ballot, by what is known of its item
pub ballot-at : {board index : List ℕ} {s : State} {c : Known} {sets : ℕ} → ∥ AtItem board index s c ∥₁ → c.item.head.code ≡ ballot_type
    → sets ≡ (format_of board).sets → AtBallot board index s c sets
ballot-at a q e = record { at = at-had a; type = q; width = e }

module _ {board index : List ℕ} {s : State} {c : Known} {sets : ℕ} (b : AtBallot board index s c sets) where
  abbrev a : AtItem board index s c
  a = b.at

  abbrev contests : List ℕ
  contests = ballot_contests (format_of board) (i a)

  pub sets-few : sets ≤ 8
  sets-few = omega (arith, b.width, Traits.sets-few board)

  pub ballot-words : (content : List ℕ) → content ≡ (i a).content → 18 ≤ length content
  unfolding has_words
  ballot-words content e = let words = at_words a ballot_type 18 8712 tt b.type in omega (arith, ap length e ∙ content-length a)

  -- its contests stand first
  pub contests-words : length contests ≡ sets
  contests-words =
      let words = ballot-words (i a).content refl in
      let few = sets-few in
      length_part 0 (format_of board).sets (i a).content (omega (arith, b.width)) ∙ sym b.width

  -- n contests, each with its cryptogram of so many words, and the voter may vote in all of them
  pub ballot-is : (content cs : List ℕ) → content ≡ (i a).content → cs ≡ part 0 sets content → (each : ℕ) → each ≡ (format_of board).cryptogram
      → (n : ℕ) (may : Bool) → n ≡ size cs → may ≡ all_in cs (may_vote (h a) (i a))
      → (eqb (length content) (sets + n * each) && may && cryptograms_ok sets each n content) ≡ ballot_ok (format_of board) (h a) (i a)
  unfolding ballot_ok
  ballot-is content cs e k each g n may d m = rw (g, d, m, k, e, b.width) (of-type a ballot_type b.type _)

  -- ---- the contests in which the voter may vote: those of the session that an open round enables

  pub own-none : c.session ≡ 0 → eqb (size contests) 0 ≡ all_in contests (member (own_contests board s))
  own-none z =
      let none : (item_no (h a) (session_number (h a) (i a))).content ≡ [] =
      ap (λ (k : ℕ). (item_no (h a) k).content) (sym (at-session a) ∙ z) ∙ ap (λ (e : Entry). e.item.content) (entry-none (h a)) in
      rw none (sym (all_in-none contests))

  not-session : c.item.head.code ≢ session_type
  not-session e = omega (arith, b.type)

  module _ (some : c.session ≢ 0) where
    pub own_range : (1 ≤ c.session) × (c.session ≤ s.items)
    own_range = (omega arith, session-in-range a not-session)

    module _ {e : Known} (is : IsKnown board (entry (h a) c.session) e) where
      -- the session has 18 words and a set
      own-words : e.item.head.count ≡ 18 + sets
      own-words =
          let (low, high) = own_range in
          let typed = eqb→eq (code (item_no (h a) c.session)) session_type (at.session-is a not-session low) in
          let size = entry-exactly a.kept c.session low high session_type (18 + (format_of board).sets) (session-count (format_of board)) typed in
          ap (λ (i : layout.Item). i.head.count) (known-item is) ∙ size ∙ ap (18 +◌) (sym b.width)

      pub own-within : e.item.content + 18 + sets ≤ length board
      unfolding item_of item_length
      own-within =
          let at = ap (λ (i : layout.Item). i.content) (known-item is) in
          let end = ap (λ (i : layout.Item). i.end) (known-item is) in
          let size = ap (λ (i : layout.Item). i.head.count) (known-item is) in
          omega (arith, is.within, own-words)

      pub own-set : part (e.item.content + 18) sets board ≡ own_contests board s
      unfolding part
      own-set =
          let inside : e.item.content + (18 + sets) ≤ length board = let w = own-within in omega arith in
          let session = item_no (h a) c.session in
          let content : part e.item.content (18 + sets) board ≡ session.content = rw (← own-words) (known-content is) in
          let long : length session.content ≡ 18 + sets = ap length (sym content) ∙ length_part e.item.content (18 + sets) board inside in
          let last = take_all sets (drop 18 session.content) (simp length-drop (omega arith)) in
          rw (← at-session a, ← last, ← content) (sym (part-part 18 sets e.item.content (18 + sets) board (omega arith)))

  -- both
  pub may-vote-is : (t : ℕ) (own : Bool) (enabled : List ℕ) → t ≡ pair (part c.item.time 2 board)
      → own ≡ all_in contests (member (own_contests board s)) → ((k : ℕ) → k < 8 → get_or enabled k 0 ≡ enabled_word t (h a) k)
      → (own && all_in contests (member enabled)) ≡ all_in contests (may_vote (h a) (i a))
  unfolding may_vote
  may-vote-is t own enabled d e u =
      let words : length contests ≤ 8 = omega (arith, sets-few, contests-words) in
      let time-is : t ≡ time (i a) = d ∙ at-time a in
      let opened = within-enabled (h a) enabled contests words t (rounds-small a.kept.passed) u in
      rw (e, opened, time-is) (sym (all_in-and contests (member (own_contests board s)) (λ j. any (enables (time (i a)) j) (rounds (h a)))))

  pub not_own : (own : Bool) → own ≡ all_in contests (member (own_contests board s)) → own ≡ false → false ≡ all_in contests (may_vote (h a) (i a))
  unfolding may_vote
  not_own own e q =
      rw (← e, q) at (sym (all_in-and contests (member (own_contests board s)) (λ j. any (enables (time (i a)) j) (rounds (h a)))))
