-- Text put into a caller's bytes. Assumes nothing.
use Rattle.std.specs.Prelude.{ℕ, ◌+◌, ◌≤◌, ◌≡◌, List, ◌++◌, length, drop}
use Rattle.text.specs.declared.writer.Writer.{Writer}
use Rattle.std.proofs.lemmas.List.Edits.{sets}

-- the bytes `before` with the text from place `at` on, every other byte as it was, are `after`; `end` is the place behind the text
pub record Put (before : List ℕ) (at : ℕ) (text after : List ℕ) (end : ℕ) : Type 0 where
  pub fits : at + length text ≤ length before
  pub wrote : after ≡ sets before at text
  pub behind : end ≡ at + length text

-- a writer before and after it wrote a text: the text stands at its place in the same buffer, and the next place is behind it. The length
-- follows, and is said for arithmetic.
pub record Writes (before : Writer) (text : List ℕ) (after : Writer) : Type 0 where
  pub put : Put before.out.now before.at text after.out.now after.at
  pub same : after.out.ghost_name ≡ before.out.ghost_name
  pub room : length after.out.now ≡ length before.out.now

-- the bytes `after` begin with the text, whose length is n, and go on as `before`
pub record Shown (before text after : List ℕ) (n : ℕ) : Type 0 where
  pub end : n ≡ length text
  pub bytes : after ≡ text ++ drop n before
