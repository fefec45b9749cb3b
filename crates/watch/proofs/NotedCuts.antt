-- The cuts of a board behind the items that a watcher's notes mean, if all agree: each is accepted with the same roll and ends with the noted
-- address, so all that demand 3 says of comparing holds of it, as the kept board and as the later one. Paper: request (vi). Assumes nothing.
use Prim.Native.Nat.{ℕ, ◌≤◌, ◌<◌}
use mathlib.Core.Path.{◌≡◌, subst, ◌∙◌}
use mathlib.Core.Logic.Iff
use mathlib.Core.Logic.{◌≢◌, ◌↔◌}
use mathlib.Core.List.{List, map}
use lib.ListN.{length, take}
use Rattle.model.specs.Lists.{count}
use Rattle.model.specs.Format.{Hashes}
use Rattle.model.specs.Traits.{format_of}
use Rattle.model.specs.Item.{Item, unsigned}
use Rattle.model.specs.History.{History, main, main_item, main_items, main_number, end_address}
use Rattle.model.specs.Audit.{accepted, audit, index_need, ballot_need}
use Rattle.model.specs.Compare.{apart, same, Same}
use Rattle.model.specs.Comparing.{ComparingAnswer, compared, comparing_answer, Answered}
use Rattle.model.specs.Cut.{cut_board, cut_verdicts}
use Rattle.watch.specs.Notes.{Note, note_count, note_at, noted_item, all_agree, notes_audit, agreement}
use Rattle.model.proofs.MainItems.{mains-count}
use Rattle.model.proofs.Chain.{main_items-take, end_take}
use Rattle.model.proofs.Comparison.{same-unsigned}
use Rattle.model.proofs.Traits.{one-hash}
use Rattle.model.proofs.Acceptance.{checked-accepts, accepted↔sound}
use Rattle.model.proofs.Cut.{cut-accepted}
use Rattle.model.proofs.Comparing.{answered-audits}
use Rattle.watch.proofs.Notes.{noted-item}

module _ (s : Hashes) (ws vs roll ns : List ℕ) (index ballots : ℕ) (h : History) (a : notes_audit (format_of s ws) ws vs roll ns index ballots ≡ accepted h)
    (all : agreement (format_of s ws) ns (accepted h) ≡ all_agree) (k : ℕ) (inside : k < note_count (format_of s ws) ns) where
  abbrev note : Note
  note = note_at (format_of s ws) ns k

  abbrev item : ℕ
  item = noted_item note h

  abbrev cut_words : List ℕ
  cut_words = cut_board (format_of s ws) ws item

  audited : audit (format_of s ws) ws vs roll index ballots ≡ accepted h
  unfolding notes_audit
  audited = checked-accepts _ _ a

  module _ (room roomy : ℕ) (long : index_need ≤ room) (longs : ballot_need ≤ roomy) where
    pub noted-cut : (format_of s cut_words ≡ format_of s ws) × (audit (format_of s cut_words) cut_words (cut_verdicts vs item) roll room roomy ≡ accepted (take item h))
        × (end_address (format_of s cut_words) (take item h) ≡ note.address)
    noted-cut =
        let f = format_of s ws in
        let (one, most, is, meant, later) = noted-item s ws vs roll ns index ballots h a all k inside in
        let sound = ((accepted↔sound f ws vs roll index ballots h).0 audited).0 in
        let accepts = (accepted↔sound f ws vs roll room roomy h).1 (sound, long, longs) in
        let (format, cut) = cut-accepted s ws vs roll room roomy h accepts item one most in
        (format, cut, end_take (format_of s cut_words) h item meant.one ∙ meant.there)

  module _ (lb lv lr ki kt li lt : List ℕ) (b : ℕ) (long : index_need ≤ length ki) (longs : ballot_need ≤ length kt) (l : History)
      (accepts : audit (format_of s lb) lb lv lr (length li) (length lt) ≡ accepted l) (one : 1 ≤ b) (there : b ≤ count main l) where
    abbrev answer : ComparingAnswer
    answer = comparing_answer (audit (format_of s cut_words) cut_words (cut_verdicts vs item) roll (length ki) (length kt)) (audit (format_of s lb) lb lv lr (length li) (length lt)) b

    pub noted-compared : Answered (format_of s cut_words) (format_of s lb) (take item h) l b answer
        × (end_address (format_of s cut_words) (take item h) ≡ note.address)
    noted-compared =
        let (format, cut, end) = noted-cut (length ki) (length kt) long longs in
        (answered-audits (format_of s cut_words) (format_of s lb) cut_words (cut_verdicts vs item) roll lb lv lr ki kt li lt b (one-hash s cut_words lb) cut accepts one there, end)

    pub noted-apart : (answer ≡ compared apart) ↔ (note.address ≢ (main_item (main_items l) b).address)
    noted-apart =
        let (answered, end) = noted-compared in
        subst (λ (x : List ℕ). (answer ≡ compared apart) ↔ (x ≢ (main_item (main_items l) b).address)) end answered.apart-is

    pub noted-same : (answer ≡ compared same) ↔ (map unsigned (take (main_number h item) (main_items h)) ≡ map unsigned (take b (main_items l)))
    noted-same =
        let inside : b ≤ length (main_items l) = rw (mains-count l) there in
        Iff.trans noted-compared.0.same-is
        (subst (λ (ks : List Item). Same (main_items (take item h)) (main_items l) b ↔ (map unsigned ks ≡ map unsigned (take b (main_items l))))
        (main_items-take h item) (same-unsigned (main_items (take item h)) (main_items l) b one inside))

  -- as the later board
  module _ (kb kv kr ki kt li lt : List ℕ) (b : ℕ) (long : index_need ≤ length li) (longs : ballot_need ≤ length lt) (g : History)
      (accepts : audit (format_of s kb) kb kv kr (length ki) (length kt) ≡ accepted g) (one : 1 ≤ b) (there : b ≤ main_number h item) where
    pub noted-later : Answered (format_of s kb) (format_of s cut_words) g (take item h) b
        (comparing_answer (audit (format_of s kb) kb kv kr (length ki) (length kt))
        (audit (format_of s cut_words) cut_words (cut_verdicts vs item) roll (length li) (length lt)) b)
    noted-later =
        let (format, cut, end) = noted-cut (length li) (length lt) long longs in
        answered-audits (format_of s kb) (format_of s cut_words) kb kv kr cut_words (cut_verdicts vs item) roll ki kt li lt b (one-hash s kb cut_words) accepts cut one there
