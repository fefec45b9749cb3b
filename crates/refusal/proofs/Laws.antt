-- Every refusal has a number other than 0. Assumes nothing.
use Prim.Native.Nat.{◌≤◌}
use native.Mathlib.Omega.{arith}
use Rattle.refusal.specs.Number.{number_of}
use Rattle.refusal.specs.declared.Refusal.{Refusal}
use Rattle.refusal.specs.declared.Refusal.TheVariants.{TooLarge, ShortTable, EmptyBoard, Truncated, UnknownType, WrongCount, WrongAddress, WrongPrevious, WrongParent, EarlierTime, OutOfPhase, Duplicate, BadContent, NoVerdict, WrongKey, BadSignature, BadClosing, NoSuchItem, BadRoll, NotOnRoll, BadReceipts, BadNotes}

pub number-some : (x : Refusal) → 1 ≤ number_of x
number-some TooLarge = omega arith
number-some ShortTable = omega arith
number-some EmptyBoard = omega arith
number-some Truncated = omega arith
number-some UnknownType = omega arith
number-some WrongCount = omega arith
number-some WrongAddress = omega arith
number-some WrongPrevious = omega arith
number-some WrongParent = omega arith
number-some EarlierTime = omega arith
number-some OutOfPhase = omega arith
number-some Duplicate = omega arith
number-some BadContent = omega arith
number-some NoVerdict = omega arith
number-some WrongKey = omega arith
number-some BadSignature = omega arith
number-some BadClosing = omega arith
number-some NoSuchItem = omega arith
number-some BadRoll = omega arith
number-some NotOnRoll = omega arith
number-some BadReceipts = omega arith
number-some BadNotes = omega arith
