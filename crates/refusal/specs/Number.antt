-- The paper's number of each refusal, as the model names it. Paper: "Refusals and their order". Assumes nothing.
use Rattle.std.specs.Prelude.{ℕ, Result, Ok, Err}
use Rattle.model.specs.Refusal as model
use Rattle.refusal.specs.declared.Refusal.{Refusal}
use Rattle.refusal.specs.declared.Refusal.TheVariants.{TooLarge, ShortTable, EmptyBoard, Truncated, UnknownType, WrongCount, WrongAddress, WrongPrevious, WrongParent, EarlierTime, OutOfPhase, Duplicate, BadContent, NoVerdict, WrongKey, BadSignature, BadClosing, NoSuchItem, BadRoll, NotOnRoll, BadReceipts, BadNotes}

abbrev pub number_of : Refusal → ℕ
number_of TooLarge = model.too_large
number_of ShortTable = model.short_table
number_of EmptyBoard = model.empty_board
number_of Truncated = model.truncated
number_of UnknownType = model.unknown_type
number_of WrongCount = model.wrong_count
number_of WrongAddress = model.wrong_address
number_of WrongPrevious = model.wrong_previous
number_of WrongParent = model.wrong_parent
number_of EarlierTime = model.earlier_time
number_of OutOfPhase = model.out_of_phase
number_of Duplicate = model.duplicate
number_of BadContent = model.bad_content
number_of NoVerdict = model.no_verdict
number_of WrongKey = model.wrong_key
number_of BadSignature = model.bad_signature
number_of BadClosing = model.bad_closing
number_of NoSuchItem = model.no_such_item
number_of BadRoll = model.bad_roll
number_of NotOnRoll = model.not_on_roll
number_of BadReceipts = model.bad_receipts
number_of BadNotes = model.bad_notes

-- what is found where there may be a refusal: nothing, or the refusal
abbrev pub found_of : {X : Type 0} → Result X Refusal → ℕ
found_of (Ok _) = model.no_fault
found_of (Err r) = number_of r
