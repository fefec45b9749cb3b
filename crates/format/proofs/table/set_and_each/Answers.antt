-- `table::set_and_each` meets its contract. Assumes nothing.
use mathlib.Core.Path.{◌∙◌}
use borrow.Author.Tests.{ne_eqb}
use Rattle.format.proofs.Fits.{fits-few, fits-none, fits-zero, fits_each, fits_not, some-parts}
use borrow.Author.Rules.{rules}
use Rattle.format.proofs.table.set_and_each.Goals as goal

pub returns-then-n-words : goal.returns-then-n-words
returns-then-n-words c = fits-few _ _ _ c.if-n-words.true

pub returns-then-rest-size : goal.returns-then-rest-size
returns-then-rest-size c = fits-none _ _ _ c.if-n-words.false c.if-rest-size.true

pub returns-then-size-eq0 : goal.returns-then-size-eq0
returns-then-size-eq0 c = fits-zero _ _ _ c.if-n-words.false c.if-rest-size.false c.if-size-eq0.true

pub overflow_sub-result : goal.overflow_sub-result
overflow_sub-result c = some-parts _ _ _ c.if-n-words.false c.if-rest-size.false (search rules)

pub returns-then-rest-size-eq0 : goal.returns-then-rest-size-eq0
returns-then-rest-size-eq0 c = fits_each _ _ _ c.if-n-words.false c.if-rest-size.false (search rules) c.if-rest-size-eq0.true

pub returns-else-rest-size-eq0 : goal.returns-else-rest-size-eq0
returns-else-rest-size-eq0 c =
    ne_eqb _ _ c.if-rest-size-eq0.false ∙ fits_not _ _ _ c.if-n-words.false c.if-rest-size.false c.if-rest-size-eq0.false
