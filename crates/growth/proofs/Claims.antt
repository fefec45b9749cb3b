-- What is claimed of a board and the same board with one more item, in the order of the request. Each claim is proved on the page that its proof names.
-- Nothing is assumed of the format but what a claim says, as on the page `Demands` of model, which has all other claims.
use Prim.Native.Nat.{ℕ, ◌+◌, ◌-◌, ◌*◌, ◌≤◌, ◌<◌}
use mathlib.Core.Path.{◌≡◌, refl}
use mathlib.Core.Logic.{◌≢◌, ◌↔◌}
use mathlib.Core.Bool.{not}
use mathlib.Core.List.{List, [], ◌∷◌, ◌++◌}
use lib.ListN.{length, get_or}
use lib.Dec.{T}
use Rattle.model.specs.Lists.{if◌then◌otherwise◌, part, count, has}
use Rattle.model.specs.Words.{between}
use Rattle.model.specs.Format.{Format, Hashes}
use Rattle.model.specs.Traits.{format_of}
use Rattle.model.specs.Item.{Item, item_at, words_of, code, is_main, word}
use Rattle.model.specs.History.{History, item_no, main, main_number, parent_number, session_number, entry_of}
use Rattle.model.specs.Counted.{Vote, vote_of, counted, voters, without}
use Rattle.model.specs.Roll.{on_roll, PairAt}
use Rattle.model.specs.Audit.{accepted, audit}
use Rattle.model.specs.Report.{number_word, index_rows, ballot_rows, filled}
use Rattle.model.specs.Sound.{Meets, Sound}
use Rattle.model.proofs.Demands.{accepted-sound, or_none, least-item}
use Rattle.growth.specs.Growth.{OneMore, Audited, audited, follow}
use Rattle.growth.proofs.Growth
use Rattle.growth.proofs.Longer
use Rattle.growth.proofs.Follow

-- ---- request (xiii): one more item

-- "for an accepted board and an accepted board with one more main item just before its closing word, whose number goes up by one": the boards ws and
-- ws', with one roll, each with its own verdict words and tables, in any format. But for `report-followed` and `followed` all of it holds of a hidden item, too
module _ (f : Format) (ws vs ws' vs' roll index ballots index' ballots' : List ℕ) (h h' : History) (m : OneMore ws ws')
    (a : audit f ws vs roll (length index) (length ballots) ≡ accepted h) (a' : audit f ws' vs' roll (length index') (length ballots') ≡ accepted h') where
  abbrev s : Sound f ws vs roll h
  s = ((accepted-sound f ws vs roll (length index) (length ballots) h).0 a).0

  abbrev s' : Sound f ws' vs' roll h'
  s' = ((accepted-sound f ws' vs' roll (length index') (length ballots') h').0 a').0

  -- what is answered and written for the first, and for the second
  abbrev one : Audited
  one = audited f (audit f ws vs roll (length index) (length ballots)) index ballots

  abbrev two : Audited
  two = audited f (audit f ws' vs' roll (length index') (length ballots')) index' ballots'

  -- the new item: the words that were added
  abbrev i : Item
  i = item_at f m.more 0

  pub one-item : m.more ≡ words_of i
  one-item = Longer.one-item m s s'

  -- it stands behind all others, its head where the closing word stood
  pub more-history : h' ≡ h ++ (entry_of h (length ws - 1) i ∷ [])
  more-history = Longer.longer m s s'

  -- "unless that item is a cast, counted ballots and weight are the same": also every word of ballot tables of one length
  pub more-other : code i ≢ 20 → (counted h' ≡ counted h) × (length ballots' ≡ length ballots → two.ballots ≡ one.ballots)
      × (two.report.ballots ≡ one.report.ballots) × (two.report.weight ≡ one.report.weight)
  more-other = rw (a, a') (Follow.more-other m s s' index ballots index' ballots')

  -- whose cast it is, and with which weight: as in its session; and the main number of its ballot
  abbrev voter : ℕ
  voter = word 0 (item_no h (session_number h i))

  abbrev weight : ℕ
  weight = word 1 (item_no h (session_number h i))

  abbrev ballot : ℕ
  ballot = main_number h (parent_number h i)

  abbrev vote : Vote
  vote = record { ballot = ballot; voter = voter; weight = weight; content = (item_no h (parent_number h i)).content }

  -- "if it is a cast of voter v, only v's row goes and a row for v is put last"
  pub more-cast : code i ≡ 20 → (counted h' ≡ without voter (counted h) ++ (vote ∷ []))
      × (two.ballots ≡ filled (length ballots') (ballot_rows (without voter (counted h)) ++ (ballot ∷ voter ∷ weight ∷ [])))
  unfolding vote_of entry_of
  more-cast c = rw a' (Follow.more-cast m s s' index ballots index' ballots' c)

  -- "By the roll all sessions of v have one weight": that of v's pair
  pub cast-on-roll : code i ≡ 20 → (p : ℕ) × PairAt roll voter weight p
  unfolding vote_of entry_of
  cast-on-roll = Follow.more-on-roll m s s' index ballots index' ballots'

  pub cast-weight : code i ≡ 20 → (k : ℕ) → code (item_no h' k) ≡ 16 → word 0 (item_no h' k) ≡ voter → word 1 (item_no h' k) ≡ weight
  unfolding vote_of entry_of
  cast-weight = Follow.more-weight m s s' index ballots index' ballots'

  -- "so the total weight is the same where v had a row", and so is the number of rows,
  pub cast-again : code i ≡ 20 → T (has voter (voters (counted h)))
      → (two.report.ballots ≡ one.report.ballots) × (two.report.weight ≡ one.report.weight)
  unfolding vote_of entry_of
  cast-again = rw (a, a') (Follow.more-again m s s' index ballots index' ballots')

  -- "and else grows by v's weight", and there is a row more
  pub cast-new : code i ≡ 20 → T (not (has voter (voters (counted h))))
      → (two.report.ballots ≡ one.report.ballots + 1) × (two.report.weight ≡ one.report.weight + weight)
  unfolding vote_of entry_of
  cast-new = rw (a, a') (Follow.more-new m s s' index ballots index' ballots')

  -- "The matching index rows are unchanged, save the fifth word of the ballot that a cast or spoil closes": word c of row k
  pub rows_stay : (k c : ℕ) → 1 ≤ k → k ≤ length h → c < 5 → (T (between 20 21 (code i)) → k ≡ parent_number h i → c ≢ 4)
      → get_or two.index (5 * (k - 1) + c) 0 ≡ get_or one.index (5 * (k - 1) + c) 0
  rows_stay = rw (a, a') (Follow.rows_stay m s s' index ballots index' ballots')

  -- that was the word of an open ballot, and is the new item's number
  pub row-closed : T (between 20 21 (code i)) → let k = parent_number h i in
      (code (item_no h k) ≡ 19) × (get_or one.index (5 * (k - 1) + 4) 0 ≡ 4294967295) × (get_or two.index (5 * (k - 1) + 4) 0 ≡ length h + 1)
  row-closed = rw (a, a') (Follow.row-closed m s s' index ballots index' ballots')

  -- the new item's row: place, parent, session, main items before it, and nothing closed it
  pub row_new : part (5 * length h) 5 two.index ≡ (length ws - 1) ∷ parent_number h i ∷ or_none (session_number h i) ∷ count main h ∷ 4294967295 ∷ []
  unfolding number_word if◌then◌otherwise◌ entry_of
  row_new = rw a' (Follow.row_new m s s' index ballots index' ballots')

  -- so, for a main item, what is answered and written for the second is `follow` of what was answered and written for the first: the report,
  pub report-followed : T (is_main i) → two.report ≡ (follow f ws one i).report
  report-followed t =
      let (_, room, roomy) = (accepted-sound f ws vs roll (length index) (length ballots) h).0 a in
      rw (a, a') (Follow.report-followed m s s' index ballots index' ballots' t roomy)

  -- and every word of tables of the same lengths
  pub followed : T (is_main i) → length index' ≡ length index → length ballots' ≡ length ballots → two ≡ follow f ws one i
  followed t =
      let (_, room, roomy) = (accepted-sound f ws vs roll (length index) (length ballots) h).0 a in
      rw (a, a') (Follow.followed m s s' index ballots index' ballots' t roomy room)

-- what such a step has to check: after an accepted board, one with more words before its closing word and with the verdict words v more is accepted, with
-- one entry more, exactly where those words are one item, it meets the rules with v after the items that stand, and the limits and tables allow it
pub followed-where : (f : Format) (ws vs ws' v roll : List ℕ) (index ballots index' ballots' : ℕ) (h : History) (m : OneMore ws ws')
    → audit f ws vs roll index ballots ≡ accepted h → let i = item_at f m.more 0 in
    (audit f ws' (vs ++ v) roll index' ballots' ≡ accepted (h ++ (entry_of h (length ws - 1) i ∷ [])))
    ↔ ((m.more ≡ words_of i) × Meets f (on_roll roll) h v i × (length h < 2048) × (length ws' ≤ 262144) × (10240 ≤ index') × (1224 ≤ ballots'))
followed-where f ws vs ws' v roll index ballots index' ballots' h m a =
    let (there, back) = Longer.sound-longer m ((accepted-sound f ws vs roll index ballots h).0 a).0 v refl in
    let both = accepted-sound f ws' (vs ++ v) roll index' ballots' (h ++ (entry_of h (length ws - 1) (item_at f m.more 0) ∷ [])) in (
      λ a'. let (s', room, roomy) = both.0 a' in let (whole, met, few, short) = there s' in (whole, met, few, short, room, roomy),
      λ (whole, met, few, short, room, roomy). both.1 (back (whole, met, few, short), room, roomy),
    )

-- both boards have one format
pub more-format : (s : Hashes) (ws vs ws' roll : List ℕ) (index ballots : ℕ) (h : History) → OneMore ws ws'
    → audit (format_of s ws) ws vs roll index ballots ≡ accepted h → format_of s ws' ≡ format_of s ws
more-format s ws vs ws' roll index ballots h m a =
    Longer.same_format s m ((accepted-sound (format_of s ws) ws vs roll index ballots h).0 a).0 (least-item s ws)

-- under any more items each word of a row that stood stays, save a fifth word that is not in use
pub rows_grow : (h t : History) (k c : ℕ) → 1 ≤ k → k ≤ length h → c < 5 → let place = 5 * (k - 1) + c in
    (c ≡ 4 → get_or (index_rows h 0 h) place 0 ≢ 4294967295) → get_or (index_rows (h ++ t) 0 (h ++ t)) place 0 ≡ get_or (index_rows h 0 h) place 0
rows_grow = Growth.rows_grow
