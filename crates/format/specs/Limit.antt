-- The limits, by the model's names. Paper: "Refusals and their order". Assumes nothing.
use Rattle.model.specs.Audit.{word_limit, item_limit, ballot_limit, index_need, ballot_need}
use Rattle.model.specs.Roll.{roll_limit}
use Rattle.format.specs.declared.limit.Limit.{Limit}

abbrev pub limits : Limit
limits = record {
  words = word_limit;
  items = item_limit;
  counted = ballot_limit;
  index = index_need;
  ballots = ballot_need;
  roll = roll_limit;
}
