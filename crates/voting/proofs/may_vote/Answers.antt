-- `may_vote` meets its contract. Assumes nothing.
use native.Mathlib.Omega.{arith}
use borrow.Author.Rules.{rules}
use mathlib.Core.Path.{◌≡◌, refl, ap, ◌∙◌}
use lib.ListN.{length}
use Rattle.state.proofs.At.{at_places}
use Rattle.voting.proofs.Rules.{ballot-at, sets-few, contests-words, may-vote-is, not_own}
use Rattle.voting.proofs.may_vote.Goals as goal

pub returns-then-not-is_own : goal.returns-then-not-is_own
returns-then-not-is_own c =
    let b = ballot-at c.args.next.now.at_item c.requires.0 refl in
    rw c.requires.1 (not_own b _ (rw c.requires.1 at c.is_own.ensures) c.if-not-is_own.true)

pub pair_at-time-requires : goal.pair_at-time-requires
pair_at-time-requires c = let places = at_places (ballot-at c.args.next.now.at_item c.requires.0 refl).at in omega arith

pub is_within-requires : goal.is_within-requires
is_within-requires c =
    let b = ballot-at c.args.next.now.at_item c.requires.0 refl in
    let eight : length c.enabled-enabled.result ≡ 8 = search rules in
    omega (arith, sets-few b, ap length c.requires.1 ∙ contests-words b)

pub returns : goal.returns
returns c =
    let next = c.args.next.now in
    let b = ballot-at next.at_item c.requires.0 refl in
    let own = rw c.requires.1 at c.is_own.ensures in
    let enabled = rw (c.progress.ensures.board, c.progress.ensures.state) at c.enabled-enabled.ensures in
    rw c.requires.1
    (rw c.requires.1 at c.is_within.ensures
    ∙ rw c.if-not-is_own.false at (may-vote-is b c.pair_at-time.result c.is_own.result c.enabled-enabled.result c.pair_at-time.ensures own enabled))
