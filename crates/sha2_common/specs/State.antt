-- The running hash, as a value: nothing fed yet, words fed, and the hash value in the end.
use Rattle.std.specs.Prelude.{◌≡◌, ℕ, ◌+◌, ◌-◌, ◌*◌, ◌/◌, ◌%◌, List, ◌++◌, length, take, drop, replicate}
use Rattle.std.proofs.Math.Seq.{paste}
use Rattle.sha2_common.specs.declared.message.Running as code
use Rattle.sha2_common.specs.Blocks.{HashOn, hash_from, hash_over}

-- the chaining words, the block that is not full yet, and the number of words fed so far. Only as many words of the block as that number
-- modulo the block's size mean something
pub record RunningOn (W : Type 0) : Type 0 where
  pub chain : List W
  pub block : List ℕ
  pub count : ℕ

-- at words that are numbers
abbrev pub Running : Type 0
Running = RunningOn ℕ

-- the code's struct has the same fields
abbrev pub running : {W : Type 0} {S : ℕ} → code.Running W S → RunningOn W
running s = record { chain = s.chain; block = s.block; count = s.count }

-- the block b with the words xs stored in it from the place at on
abbrev pub stored : List ℕ → ℕ → List ℕ → List ℕ
stored b at xs = paste b at xs (length xs)

-- ---- which words are stored
-- Request (iii): "whenever the partly filled block is empty the hashing step shall read each full block that follows from the board's
-- words directly". A piece that is fed behind k words is, in order: words that fill the partly filled block up, whole blocks, and words
-- left over.

-- how many words a block of s words lacks behind k words
abbrev pub missing : ℕ → ℕ → ℕ
missing s k = (s - k % s) % s

-- where the words left over begin in a piece of n words; past its end where it does not fill the block up
abbrev pub whole_end : ℕ → ℕ → ℕ → ℕ
whole_end s k n = missing s k + (n - missing s k) / s * s

module _ {W : Type 0} (f : HashOn W) where
  -- the block b after the piece xs: it has the words that fill it up and those left over, and none of the whole blocks between
  unfoldable pub block_after : List ℕ → ℕ → List ℕ → List ℕ
  block_after b k xs =
      stored (stored b (k % f.size) (take (missing f.size k) xs)) 0 (drop (whole_end f.size k (length xs)) xs)

  -- ---- the running hash

  -- nothing fed yet, from H(0)
  unfoldable pub fresh : List W → RunningOn W
  fresh start = record { chain = start; block = replicate f.size 0; count = 0 }

  -- the words that were fed and not hashed yet
  abbrev pub pending : RunningOn W → List ℕ
  pending s = take (s.count % f.size) s.block

  -- s with the words xs fed to it
  unfoldable pub fed : RunningOn W → List ℕ → RunningOn W
  fed s xs = record {
    chain = hash_over f s.chain (pending s ++ xs);
    block = block_after s.block s.count xs;
    count = s.count + length xs;
  }

  -- the hash value H(N) of what s was fed, with its padding
  unfoldable pub ended : RunningOn W → List W
  ended s = hash_over f s.chain (pending s ++ f.padding s.count)

-- s stands for the message m from H(0) on: its chaining words are those after the whole blocks of m, and the words behind them are pending
pub record Holds {W : Type 0} (f : HashOn W) (start : List W) (s : RunningOn W) (m : List ℕ) : Type 0 where
  pub counted : s.count ≡ length m
  pub chained : s.chain ≡ hash_from f start m (length m / f.size)
  pub sized : length s.block ≡ f.size
  pub filled : pending f s ≡ drop (length m / f.size * f.size) m
