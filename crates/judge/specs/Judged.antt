-- What is made of the item after those that passed. Paper: "Refusals and their order". Assumes nothing.
use Rattle.std.specs.Prelude.{ℕ, ◌≡◌, List, Result, Ok, Err}
use Rattle.model.specs.Refusal.{no_fault}
use Rattle.model.specs.Roll.{on_roll}
use Rattle.model.specs.Audit.{fault}
use Rattle.refusal.specs.Number.{number_of}
use Rattle.format.specs.Format.{format_of}
use Rattle.index.specs.Kept.{before}
use Rattle.index.specs.Known.{Passing}
use Rattle.state.specs.declared.State.{State}
use Rattle.refusal.specs.declared.Refusal.{Refusal}
use Rattle.index.specs.declared.Known.{Known}

-- the first refusal that applies to it
abbrev pub fault_after : (board verdicts roll : List ℕ) → State → ℕ
fault_after board verdicts roll s = fault (format_of board) (on_roll roll) board verdicts (before board s.items) s.place

-- it passes, and c is what is known of it; or that refusal is named
abbrev pub IsJudged : (board verdicts roll index : List ℕ) → State → Result Known Refusal → Type 0
IsJudged board verdicts roll index s (Ok c) = (fault_after board verdicts roll s ≡ no_fault) × Passing board index s.items c
IsJudged board verdicts roll index s (Err refusal) = fault_after board verdicts roll s ≡ number_of refusal
