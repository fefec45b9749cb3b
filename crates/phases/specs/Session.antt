-- A session's item number. Paper: "Session of an item". Assumes nothing.
use Rattle.std.specs.Prelude.{◌≡◌, ℕ, ◌≤◌, length}
use Rattle.model.specs.Codes.{session_type}
use Rattle.model.specs.Item.{code}
use Rattle.model.specs.History.{History, item_no}

-- item k of the history is a session, or k is 0
pub record IsSession (h : History) (k : ℕ) : Type 0 where
  pub bound : k ≤ length h
  pub session : 1 ≤ k → code (item_no h k) ≡ session_type
