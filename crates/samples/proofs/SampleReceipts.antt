-- Receipts for sample elections under toy hashes, on all three curves: what is written for casts, a spoil, changed receipts, and for two casts with
-- one address and signature; where the receipts are refused; and the cuts before and behind a cast. So what is proved of receipts is proved of
-- boards that have casts for them. Paper: request (ii). Assumes nothing.
use Prim.Native.Nat.{ℕ, ◌+◌, ◌-◌, ◌*◌, ◌≤◌}
use native.Mathlib.Omega.{arith}
use mathlib.Core.Path.{◌≡◌, refl, sym, ap, subst, subst₂, ◌∙◌}
use mathlib.Core.List.{List, [], ◌∷◌, ◌++◌}
use lib.ListN.{length, get_or, replicate, take, length-replicate}
use lib.Dec.{lit≤}
use lib.Count.{ones_in}
use Rattle.model.specs.Lists.{if◌then◌otherwise◌, ◌⇒◌, part, any, count, keep, latest, tabulate}
use Rattle.model.specs.Words.{kind_of, code_of, count_of, same_words, pair, low_zero, bit, in_words, size, every_below, all_in}
use Rattle.model.specs.Format.{Curve, secp256r1, secp384r1, secp521r1}
use Rattle.model.specs.Traits.{traits_known, traits_of, set_words, curve_of, format_of}
use Rattle.model.specs.Item.{item_length, item_at, hashed, words_of}
use Rattle.model.specs.Types.{row_of, row_in, table, fits}
use Rattle.model.specs.History.{History, entry, first_from, last_from, main_item, end_after, end_address, parent_number, session_number, entry_of, place_of, history}
use Rattle.model.specs.Counted.{vote_of, counted, contents}
use Rattle.model.specs.Links.{address_ok, previous_ok, parent_ok, time_ok}
use Rattle.model.specs.Phase.{rounds, is_open, extraction_ok, open_ok, standing_ok, latest_ok, intent_ok, spoiled_ok, phase_ok}
use Rattle.model.specs.Only.{on_board_ok, under_parent_ok, under_ballot_ok, only_ok}
use Rattle.model.specs.Content.{contests_ok, may_vote, cryptograms_ok, genesis_ok, contest_ok, threshold_ok, authorizer_ok, round_ok, session_ok, commitment_ok, ballot_ok, fingerprint_ok, trustees_ok, content_ok}
use Rattle.model.specs.Roll.{electors, rising, is_bad_roll, on_roll, on_roll_ok}
use Rattle.model.specs.Keys.{opening, key_of, verdict_ok, key_ok, signature_ok}
use Rattle.model.specs.Audit.{Outcome, unread, refused, accepted, first_unmet, checks, fault_in, head_fault, closing, judged, word_at, reading, audit, index_need, ballot_need}
use Rattle.model.specs.Report.{filled, number_word}
use Rattle.model.specs.Above.{checked_first, buffer_after}
use Rattle.model.specs.Cut.{cut_board, cut_verdicts}
use Rattle.model.specs.Receipts.{receipt_size, receipt_at, receipt_answer, receipts_audit, receipt_answers, answers_after}
use Rattle.model.proofs.Unchecked.{length-history}
use Rattle.model.proofs.Answers.{receipt-some, bad-receipts, receipts-audited, answers-so-far}
use Rattle.samples.proofs.SampleElection.{toys, toy, Signed, ◌by◌, item_on, election_on, election, words_in, verdicts_in, board_of, board, verdicts, roll, own_answer, items-in, accepted-by, is-accepted}
use Rattle.samples.proofs.SampleCurves.{format_in, past, larger, larger-accepted}

-- ---- receipts

-- that of the item with the time n
abbrev receipt : Curve → ℕ → List ℕ
receipt c n = replicate c.signature 99 ++ c.hash toys (n ∷ [])

-- for item 18 of the sample election, its cast; for item 12, its spoil; for the cast with another last word of the signature, and of the address; and
-- for the cast again
abbrev asked : Curve → List ℕ
asked c =
    receipt c 18 ++ receipt c 12 ++ (replicate (c.signature - 1) 99 ++ (98 ∷ c.hash toys (18 ∷ [])))
    ++ (replicate c.signature 99 ++ take (c.address - 1) (c.hash toys (18 ∷ [])) ++ (17 ∷ [])) ++ receipt c 18

abbrev no_cast : ℕ
no_cast = 4294967295

-- ---- what is answered and written, with so many words in the answers buffer, which held eights

abbrev outcome : List Signed → List ℕ → ℕ → Outcome
outcome ss rs n = receipts_audit (format_of toys (board_of ss)) (board_of ss) (verdicts_in ss) roll rs index_need ballot_need n

abbrev written : List Signed → List ℕ → ℕ → List ℕ
written ss rs n = answers_after (format_of toys (board_of ss)) rs (outcome ss rs n) (replicate n 8)

-- the audit's answer, where the board is accepted
answers_by : (ss : List Signed) (rs : List ℕ) (h : History) (k n : ℕ) → own_answer ss ≡ accepted h
    → length rs ≡ k * receipt_size (format_of toys (board_of ss)) → k ≤ 512 → k ≤ n → outcome ss rs n ≡ accepted h
answers_by ss rs h k n a whole few room =
    let ws = board_of ss in
    receipts-audited (format_of toys ws) (receipt-some toys ws) ws (verdicts_in ss) roll rs index_need ballot_need n k (whole, few) room ∙ a

-- and what is written is the answers, then zeros
written-by : (ss : List Signed) (rs : List ℕ) (h : History) (n : ℕ) → outcome ss rs n ≡ accepted h
    → written ss rs n ≡ filled n (receipt_answers (format_of toys (board_of ss)) rs h)
unfolding buffer_after
written-by ss rs h n a =
    ap (λ (o : Outcome). answers_after (format_of toys (board_of ss)) rs o (replicate n 8)) a
    ∙ ap (λ (m : ℕ). filled m (receipt_answers (format_of toys (board_of ss)) rs h)) (length-replicate n 8)

-- ---- on today's curve, and on secp384r1: the cast is main item 14

pub today : own_answer election ≡ accepted (history toy board 21)
unfolding traits_of set_words curve_of election words_in words_of hashed if◌then◌otherwise◌
today = is-accepted

today-lengths : length (asked secp256r1) ≡ 5 * receipt_size (format_of toys board)
unfolding traits_of set_words curve_of election words_in words_of hashed if◌then◌otherwise◌
today-lengths = refl

today-answers : receipt_answers (format_of toys board) (asked secp256r1) (history toy board 21) ≡ 14 ∷ no_cast ∷ no_cast ∷ no_cast ∷ 14 ∷ []
unfolding traits_of set_words curve_of election words_in words_of hashed if◌then◌otherwise◌ part count tabulate kind_of code_of count_of same_words item_length item_at first_from entry_of place_of history number_word receipt_at receipt_answer receipt_answers
today-answers = refl

pub today-written : written election (asked secp256r1) 7 ≡ 14 ∷ no_cast ∷ no_cast ∷ no_cast ∷ 14 ∷ 0 ∷ 0 ∷ []
unfolding filled
today-written =
    written-by election (asked secp256r1) _ 7 (answers_by election (asked secp256r1) _ 5 7 today today-lengths (lit≤ tt) (lit≤ tt))
    ∙ ap (filled 7) today-answers

larger-lengths : length (asked secp384r1) ≡ 5 * receipt_size (format_of toys (board_of larger))
unfolding traits_of traits_known set_words curve_of words_in words_of hashed if◌then◌otherwise◌
larger-lengths = refl

larger-answers : receipt_answers (format_in larger) (asked secp384r1) (past larger) ≡ 14 ∷ no_cast ∷ no_cast ∷ no_cast ∷ 14 ∷ []
unfolding traits_of traits_known set_words curve_of words_in words_of hashed if◌then◌otherwise◌ part count tabulate kind_of code_of count_of same_words item_length item_at first_from entry_of place_of history number_word receipt_at receipt_answer receipt_answers
larger-answers = refl

pub larger-written : written larger (asked secp384r1) 5 ≡ 14 ∷ no_cast ∷ no_cast ∷ no_cast ∷ 14 ∷ []
unfolding filled
larger-written =
    written-by larger (asked secp384r1) _ 5 (answers_by larger (asked secp384r1) _ 5 5 larger-accepted larger-lengths (lit≤ tt) (lit≤ tt))
    ∙ ap (filled 5) larger-answers

-- ---- on secp521r1, two casts with one address and signature: the toy hash is of the time alone. The first is answered

-- the sample election up to its first ballot, item 9; a hidden item; another ballot of that session, item 13; and the casts of both at one time
unfoldable pub twice : List Signed
twice =
    let c = secp521r1 in
    let write = item_on c in
    take 9 (election_on c (4 ∷ []) 0 0x80000 [])
    ++ (write 0x20300000 [] 9 9 10 by 2
    ∷ write (0x10110000 + c.commitment) (replicate c.commitment 0) 6 9 11 by 4
    ∷ write (0x10120000 + c.commitment) (replicate c.commitment 0) 11 11 12 by 2
    ∷ write (0x10130001 + c.cryptogram) (1 ∷ replicate c.cryptogram 0) 12 12 13 by 4
    ∷ write 0x10140000 [] 9 13 14 by 4
    ∷ write 0x10140000 [] 13 14 14 by 4
    ∷ [])

twice-accepted : items-in (own_answer twice) ≡ 15
unfolding twice traits_of set_words curve_of words_in verdicts_in words_of hashed if◌then◌otherwise◌ ◌⇒◌ part any count keep latest ones_in kind_of code_of count_of same_words pair low_zero bit in_words size every_below all_in item_length item_at row_of row_in table fits entry first_from last_from main_item end_after end_address parent_number session_number entry_of place_of history vote_of counted contents address_ok previous_ok parent_ok time_ok rounds is_open extraction_ok open_ok standing_ok latest_ok intent_ok spoiled_ok phase_ok on_board_ok under_parent_ok under_ballot_ok only_ok contests_ok may_vote cryptograms_ok genesis_ok traits_known contest_ok threshold_ok authorizer_ok round_ok session_ok commitment_ok ballot_ok fingerprint_ok trustees_ok content_ok electors rising is_bad_roll on_roll on_roll_ok opening key_of verdict_ok key_ok signature_ok first_unmet checks fault_in head_fault closing judged word_at reading audit items-in
twice-accepted = refl

abbrev pub past_twice : History
past_twice = history (format_in twice) (board_of twice) 15

pub both-casts : own_answer twice ≡ accepted past_twice
both-casts = accepted-by (format_in twice) (board_of twice) (verdicts_in twice) roll index_need ballot_need 15 _ refl twice-accepted (lit≤ tt)

twice-length : length (receipt secp521r1 14) ≡ 1 * receipt_size (format_in twice)
unfolding twice traits_of traits_known set_words curve_of words_in words_of hashed if◌then◌otherwise◌
twice-length = refl

-- items 14 and 15 are main items 13 and 14; before item 14 there is no cast
twice-answers : (receipt_answers (format_in twice) (receipt secp521r1 14) past_twice ≡ 13 ∷ [])
    × (receipt_answers (format_in twice) (receipt secp521r1 14) (take 14 past_twice) ≡ 13 ∷ [])
    × (receipt_answers (format_in twice) (receipt secp521r1 14) (take 13 past_twice) ≡ no_cast ∷ [])
unfolding twice traits_of traits_known set_words curve_of words_in words_of hashed if◌then◌otherwise◌ part count tabulate kind_of code_of count_of same_words item_length item_at first_from entry_of place_of history number_word receipt_at receipt_answer receipt_answers
twice-answers = (refl, refl, refl)

pub twice-written : written twice (receipt secp521r1 14) 2 ≡ 13 ∷ 0 ∷ []
unfolding filled
twice-written =
    written-by twice (receipt secp521r1 14) past_twice 2 (answers_by twice (receipt secp521r1 14) past_twice 1 2 both-casts twice-length (lit≤ tt) (lit≤ tt))
    ∙ ap (filled 2) twice-answers.0

-- ---- the cuts behind items 13 and 14 are the boards of the first items, and have these answers of their own

pub cuts : (cut_board (format_in twice) (board_of twice) 13 ≡ board_of (take 13 twice)) × (cut_verdicts (verdicts_in twice) 13 ≡ verdicts_in (take 13 twice))
    × (cut_board (format_in twice) (board_of twice) 14 ≡ board_of (take 14 twice)) × (cut_verdicts (verdicts_in twice) 14 ≡ verdicts_in (take 14 twice))
unfolding twice traits_of traits_known set_words curve_of words_in verdicts_in words_of hashed if◌then◌otherwise◌ count_of item_length place_of cut_board
cuts = (refl, refl, refl, refl)

itself : part (0 * receipt_size (format_in twice)) (receipt_size (format_in twice)) (receipt secp521r1 14) ≡ receipt secp521r1 14
unfolding twice traits_of traits_known set_words curve_of words_in words_of hashed if◌then◌otherwise◌ part
itself = refl

-- what is written of a board for the receipt rs alone
abbrev alone : List ℕ → List ℕ → List ℕ → List ℕ
alone us ts rs = answers_after (format_of toys us) rs (receipts_audit (format_of toys us) us ts roll rs index_need ballot_need 1) (8 ∷ [])

cut_by : (k m : ℕ) → 1 ≤ k → k ≤ 15 → cut_board (format_in twice) (board_of twice) k ≡ board_of (take k twice)
    → cut_verdicts (verdicts_in twice) k ≡ verdicts_in (take k twice)
    → receipt_answers (format_in twice) (receipt secp521r1 14) (take k past_twice) ≡ m ∷ [] → written (take k twice) (receipt secp521r1 14) 1 ≡ m ∷ []
cut_by k m one inside words verdicts answer =
    let rs = receipt secp521r1 14 in
    let all : k ≤ length past_twice = omega (arith, length-history (format_in twice) (board_of twice) 15) in
    let (_, told) = answers-so-far toys (board_of twice) (verdicts_in twice) roll index_need ballot_need past_twice both-casts k one all
    rs 1 0 twice-length (lit≤ tt) in
    subst₂ (λ (us ts : List ℕ). alone us ts rs ≡ m ∷ []) words verdicts
    (subst (λ (r : List ℕ). alone (cut_board (format_in twice) (board_of twice) k) (cut_verdicts (verdicts_in twice) k) r ≡ m ∷ []) itself
    (told 8 ∙ ap (λ (l : List ℕ). get_or l 0 0 ∷ []) answer))

pub cuts-written : (written (take 13 twice) (receipt secp521r1 14) 1 ≡ no_cast ∷ []) × (written (take 14 twice) (receipt secp521r1 14) 1 ≡ 13 ∷ [])
cuts-written = (
  cut_by 13 no_cast (lit≤ tt) (lit≤ tt) cuts.0 cuts.1 twice-answers.2,
  cut_by 14 13 (lit≤ tt) (lit≤ tt) cuts.2 cuts.3 twice-answers.1,
)

-- ---- where they are refused

-- 22: 23 words and 25 are no receipts of 24, 24 none of the 36 words of secp384r1, and 36 none of 24; also before 2 and 3, with no table and no board
pub bad-widths : (outcome election (replicate 23 99) 5 ≡ unread 22) × (outcome election (replicate 25 99) 5 ≡ unread 22)
    × (outcome larger (replicate 24 99) 5 ≡ unread 22) × (outcome election (replicate 36 99) 5 ≡ unread 22)
    × (receipts_audit (format_of toys []) [] [] [] (99 ∷ []) 0 0 0 ≡ unread 22)
unfolding traits_of traits_known set_words curve_of election words_in words_of hashed if◌then◌otherwise◌ first_unmet checked_first receipts_audit
bad-widths = (refl, refl, refl, refl, refl)

-- 2: four words for five receipts; the buffer is as it was
pub short-buffer : (outcome election (asked secp256r1) 4 ≡ unread 2) × (written election (asked secp256r1) 4 ≡ 8 ∷ 8 ∷ 8 ∷ 8 ∷ [])
unfolding traits_of set_words curve_of election words_in words_of hashed if◌then◌otherwise◌ first_unmet checked_first buffer_after receipts_audit
short-buffer = (refl, refl)

-- the audit's: no words are 3, and the buffer is as it was
pub no-board : let o = receipts_audit (format_of toys []) [] [] [] (receipt secp256r1 18) index_need ballot_need 1 in
    (o ≡ refused 3 0) × (answers_after (format_of toys []) (receipt secp256r1 18) o (8 ∷ []) ≡ 8 ∷ [])
unfolding traits_of set_words curve_of if◌then◌otherwise◌ electors rising is_bad_roll first_unmet audit checked_first buffer_after receipts_audit
no-board = (refl, refl)

today-size : receipt_size (format_of toys board) ≡ 24
unfolding traits_of set_words curve_of election words_in words_of hashed if◌then◌otherwise◌
today-size = refl

many : (n : ℕ) → 12312 ≡ n * 24 → n ≤ 512 → ⊥
many n e few = omega arith

-- 513 receipts are too many, 512 are not, and none at all are fine, with no word for an answer
pub limits : (outcome election (replicate 12312 0) 513 ≡ unread 22) × (outcome election (replicate 12288 0) 512 ≡ accepted (history toy board 21))
    × (outcome election [] 0 ≡ accepted (history toy board 21))
limits = (
  (bad-receipts (format_of toys board) (receipt-some toys board) board verdicts roll (replicate 12312 0) index_need ballot_need 513).1
      (λ n (whole, few). many n (sym (length-replicate {A = ℕ} 12312 0) ∙ whole ∙ ap (n *◌) today-size) few),
  answers_by election (replicate 12288 0) _ 512 512 today (length-replicate {A = ℕ} 12288 0 ∙ ap (512 *◌) (sym today-size)) (lit≤ tt) (lit≤ tt),
  answers_by election [] _ 0 0 today (ap (0 *◌) (sym today-size)) (lit≤ tt) (lit≤ tt),
)
