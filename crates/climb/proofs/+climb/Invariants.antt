-- The measure of the recursion is the item number: a parent's is smaller.
use Rattle.climb.proofs.+climb.Given as goal

abbrev pub decreases-climb : goal.decreases-climb
decreases-climb l = l.number
