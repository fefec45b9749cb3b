-- A cut of a sound board: the words up to an item, a closing word and the verdict words of these items are a sound board of the same format.
-- Paper: requests (ii), (vi). Assumes nothing.
use Prim.Native.Nat.{ℕ, ◌*◌, ◌≤◌, ◌<◌}
use native.Mathlib.Omega.{arith}
use mathlib.Core.Path.{◌≡◌, sym, ap, subst, subst₂, ◌∙◌}
use mathlib.Core.List.{List, [], ◌∷◌, ◌++◌, append_assoc}
use lib.ListN.{length, take, drop, length-append, take-append-drop}
use lib.Seq.{length-take-le, take_at}
use Rattle.model.specs.Words.{closing_word}
use Rattle.model.specs.Format.{Format, Hashes, verdict_size}
use Rattle.model.specs.Traits.{format_of}
use Rattle.model.specs.Item.{item_length}
use Rattle.model.specs.History.{History, place_of}
use Rattle.model.specs.Audit.{accepted, audit}
use Rattle.model.specs.Sound.{Sound}
use Rattle.model.specs.Cut.{cut_board, cut_verdicts}
use Rattle.model.specs.Program.{least_item}
use Rattle.model.proofs.Keys.{length-verdicts}
use Rattle.model.proofs.Acceptance.{accepted↔sound}
use Rattle.model.proofs.Unchecked.{passed-history, words-least}
use Rattle.model.proofs.Beginnings.{sound-beginning}
use Rattle.model.proofs.Traits.{format-front, least-item}

-- the words of the first items g end at the place behind them, and so do their verdict words
cut-behind : {f : Format} {ws vs roll : List ℕ} (g t : History) → Sound f ws vs roll (g ++ t) → 1 ≤ length g
    → Sound f (cut_board f ws (length g)) (cut_verdicts vs (length g)) roll g
unfolding cut_board
cut-behind {f} {ws} {vs} {roll} g t s one =
    let (b, sound) = sound-beginning g t s one in
    let last = closing_word (length (g ++ t)) ∷ [] in
    let all : ws ≡ b.words ++ (b.words_left ++ last) = s.closed ∙ ap (◌++ last) b.of_words ∙ append_assoc b.words b.words_left last in
    let place : place_of f ws (length g) ≡ length b.words =
    ap (λ (us : List ℕ). place_of f us (length g)) all ∙ (passed-history b.passed (b.words_left ++ last)).1 in
    let words : take (place_of f ws (length g)) ws ≡ b.words = ap (take (place_of f ws (length g))) all ∙ take_at b.words _ _ (sym place) in
    let verdicts : take (verdict_size * length g) vs ≡ b.verdicts =
    ap (take (verdict_size * length g)) b.of_verdicts ∙ take_at b.verdicts b.verdicts_left _ (length-verdicts b.passed) in
    subst₂ (λ (us ts : List ℕ). Sound f (us ++ (closing_word (length g) ∷ [])) ts roll g) (sym words) (sym verdicts) sound

module _ {f : Format} {ws vs roll : List ℕ} {h : History} (s : Sound f ws vs roll h) (k : ℕ) (one : 1 ≤ k) (inside : k ≤ length h) where
  cut-sound : Sound f (cut_board f ws k) (cut_verdicts vs k) roll (take k h)
  cut-sound =
      let size = length-take-le k h inside in
      let all : Sound f ws vs roll (take k h ++ drop k h) = subst (Sound f ws vs roll) (sym (take-append-drop k h)) s in
      subst (λ (n : ℕ). Sound f (cut_board f ws n) (cut_verdicts vs n) roll (take k h)) size (cut-behind (take k h) (drop k h) all (omega arith))

  -- the first item's words tell the format
  cut-format : (hs : Hashes) → least_item ≤ item_length f 0 → format_of hs (cut_board f ws k) ≡ format_of hs ws
  unfolding cut_board
  cut-format hs least =
      let p = place_of f ws k in
      let size = length-take-le k h inside in
      let long : 18 < length (take p ws) = omega (arith, words-least least cut-sound.passed, simp length-append at (ap length cut-sound.closed)) in
      format-front hs (take p ws) (closing_word k ∷ []) (drop p ws) long ∙ ap (format_of hs) (take-append-drop p ws)

module _ (s : Hashes) (ws vs roll : List ℕ) (index ballots : ℕ) (h : History) (a : audit (format_of s ws) ws vs roll index ballots ≡ accepted h)
    (k : ℕ) (one : 1 ≤ k) (inside : k ≤ length h) where
  abbrev cut : List ℕ
  cut = cut_board (format_of s ws) ws k

  pub cut-audited : (format_of s cut ≡ format_of s ws) × (audit (format_of s ws) cut (cut_verdicts vs k) roll index ballots ≡ accepted (take k h))
  cut-audited =
      let f = format_of s ws in
      let (sound, room, roomy) = (accepted↔sound f ws vs roll index ballots h).0 a in (
        cut-format sound k one inside s (least-item s ws),
        (accepted↔sound f cut (cut_verdicts vs k) roll index ballots (take k h)).1 (cut-sound sound k one inside, room, roomy),
      )

  -- in its own format
  pub cut-accepted : (format_of s cut ≡ format_of s ws) × (audit (format_of s cut) cut (cut_verdicts vs k) roll index ballots ≡ accepted (take k h))
  cut-accepted =
      let (same, accepts) = cut-audited in
      (same, subst (λ (f : Format). audit f cut (cut_verdicts vs k) roll index ballots ≡ accepted (take k h)) (sym same) accepts)
