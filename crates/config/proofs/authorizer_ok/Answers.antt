-- `authorizer_ok` meets its contract. Assumes nothing.
use mathlib.Core.Path.{◌∙◌}
use borrow.Author.Tests.{le-leb, lt-leb}
use Rattle.state.proofs.Had.{at-had}
use Rattle.config.proofs.Rules.{authorizer-other, authorizer-is}
use Rattle.config.proofs.authorizer_ok.Goals as goal

pub returns-then-next-ne-AUTHORIZER : goal.returns-then-next-ne-AUTHORIZER
returns-then-next-ne-AUTHORIZER c = authorizer-other (at-had c.args.next.now.at_item) c.if-next-ne-AUTHORIZER.true

pub returns-then-mode-ge-IDENTITY : goal.returns-then-mode-ge-IDENTITY
returns-then-mode-ge-IDENTITY c =
    let is = rw c.content_of.ensures at c.word-mode.ensures in
    rw (le-leb _ _ c.if-mode-ge-IDENTITY.true) at (authorizer-is (at-had c.args.next.now.at_item) c.if-next-ne-AUTHORIZER.false _ is)

pub returns-else-mode-ge-IDENTITY : goal.returns-else-mode-ge-IDENTITY
returns-else-mode-ge-IDENTITY c =
    let is = rw c.content_of.ensures at c.word-mode.ensures in
    let no = lt-leb _ _ c.if-mode-ge-IDENTITY.false in
    no ∙ rw no at (authorizer-is (at-had c.args.next.now.at_item) c.if-next-ne-AUTHORIZER.false _ is)
