-- The code's report as the paper's numbers and values. Paper: "Refusals and their order" ("Acceptance gives 0, items, ..", "A refusal gives
-- its number and the count of items passed so far"). Assumes nothing.
use Rattle.std.specs.Prelude.{Result, Ok, Err, replicate}
use Rattle.model.specs.Refusal.{no_fault}
use Rattle.model.specs.Format.{longest_address}
use Rattle.model.specs.Report as model
use Rattle.refusal.specs.Number.{number_of}
use Rattle.refusal.specs.declared.Refused.{Refused}
use Rattle.report.specs.declared.Accepted.{Accepted}

-- a refusal has every other field 0
abbrev pub reported : Result Accepted Refused → model.Report
reported (Ok a) =
    record { number = no_fault; items = a.items; mains = a.mains; end = a.end; ballots = a.ballots; weight = a.weight }
reported (Err r) =
    record { number = number_of r.refusal; items = r.items; mains = 0; end = replicate longest_address 0; ballots = 0; weight = 0 }
