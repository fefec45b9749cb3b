-- `is_own` meets its contract. Assumes nothing.
use native.Mathlib.Omega.{arith}
use mathlib.Core.Path.{◌≡◌, refl, ap, ◌∙◌}
use lib.ListN.{length}
use Rattle.format.specs.Format.{format_of}
use Rattle.voting.proofs.Rules.{ballot-at, contests-words, own-none, own_range, own-within, own-set}
use Rattle.voting.proofs.is_own.Goals as goal

pub returns-then-session-eq0 : goal.returns-then-session-eq0
returns-then-session-eq0 c =
    let b = ballot-at c.args.next.now.at_item c.requires.0 refl in
    c.is_empty.ensures ∙ rw c.requires.1 (own-none b c.if-session-eq0.true)

pub entry-requires : goal.entry-requires
entry-requires c = own_range (ballot-at c.args.next.now.at_item c.requires.0 refl) c.if-session-eq0.false

pub overflow_add-item : goal.overflow_add-item
overflow_add-item c =
    let b = ballot-at c.args.next.now.at_item c.requires.0 refl in
    record { fits = omega (arith, own-within b c.if-session-eq0.false c.entry.ensures, b.at.kept.words) }

pub part-own-requires : goal.part-own-requires
part-own-requires c =
    let b = ballot-at c.args.next.now.at_item c.requires.0 refl in
    omega (arith, own-within b c.if-session-eq0.false c.entry.ensures, ap length c.requires.1 ∙ contests-words b)

pub returns : goal.returns
returns c =
    let b = ballot-at c.args.next.now.at_item c.requires.0 refl in
    let words : length c.args.contests.now ≡ (format_of c.args.next.now.board.now).sets = ap length c.requires.1 ∙ contests-words b in
    let own = rw words at c.part-own.ensures.value ∙ own-set b c.if-session-eq0.false c.entry.ensures in
    rw own at c.is_within.ensures
