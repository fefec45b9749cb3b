-- FIPS 180-4, 6.2.2 and 6.4.2, for words of any type W: one set of equations over the functions of 4.1, which are those of 4.1.2 on words
-- of 32 bits and those of 4.1.3 on words of 64. The pages Fips of the two hashes have them in the standard's own terms.
use Rattle.std.specs.Prelude.{ℕ, zero, suc, ◌-◌, cond, List, [], ◌∷◌, ◌++◌, nat_lt, slice_index_or}
use Rattle.sha2_common.specs.declared.compression.Working.{Working}

-- what the equations are over: addition modulo 2 ^ w (3.2), the functions of 4.1, the constants of 4.2, how many words of 32
-- bits a block has and how they make its 16 words, and what follows a message of n of them (5.1). `none` is the word 0, which stands for a
-- word past the end of a list
pub record Functions (W : Type 0) : Type 0 where
  pub none : W
  pub sum : W → W → W
  pub ch : W → W → W → W
  pub maj : W → W → W → W
  pub big_sigma0 : W → W
  pub big_sigma1 : W → W
  pub small_sigma0 : W → W
  pub small_sigma1 : W → W
  pub constants : List W
  pub size : ℕ
  pub words : List ℕ → List W
  pub padding : ℕ → List ℕ

module _ {W : Type 0} (f : Functions W) where
  abbrev pub word_at : List W → ℕ → W
  word_at l t = slice_index_or l t f.none

  -- 1: W at t, of the block M and the W before it
  unfoldable pub message_word : List W → List W → ℕ → W
  message_word M W t =
      cond (nat_lt t 16) (word_at M t)
      (f.sum (f.sum (f.sum (f.small_sigma1 (word_at W (t - 2))) (word_at W (t - 7))) (f.small_sigma0 (word_at W (t - 15)))) (word_at W (t - 16)))

  -- 1: the first t words of the message schedule
  unfoldable pub schedule : List W → ℕ → List W
  schedule M zero = []
  schedule M (suc t) = schedule M t ++ (message_word M (schedule M t) t ∷ [])

  -- 2: the working variables from the hash value before
  abbrev pub initialize : List W → Working W
  initialize H = record {
    a = word_at H 0;
    b = word_at H 1;
    c = word_at H 2;
    d = word_at H 3;
    e = word_at H 4;
    f = word_at H 5;
    g = word_at H 6;
    h = word_at H 7;
  }

  -- 3: T1, at the round's constant k and its word w of the schedule
  unfoldable pub t1 : Working W → W → W → W
  t1 v k w = f.sum (f.sum (f.sum (f.sum v.h (f.big_sigma1 v.e)) (f.ch v.e v.f v.g)) k) w

  -- 3: T2
  unfoldable pub t2 : Working W → W
  t2 v = f.sum (f.big_sigma0 v.a) (f.maj v.a v.b v.c)

  -- 3: one round
  unfoldable pub round : Working W → W → W → Working W
  round v k w = record {
    h = v.g;
    g = v.f;
    f = v.e;
    e = f.sum v.d (t1 v k w);
    d = v.c;
    c = v.b;
    b = v.a;
    a = f.sum (t1 v k w) (t2 v);
  }

  -- 3: the first t rounds, over the schedule S
  unfoldable pub rounds : List W → Working W → ℕ → Working W
  rounds S v zero = v
  rounds S v (suc t) = round (rounds S v t) (word_at f.constants t) (word_at S t)

  -- 4: the hash value after the rounds
  unfoldable pub intermediate : List W → Working W → List W
  intermediate H v =
      f.sum v.a (word_at H 0) ∷ f.sum v.b (word_at H 1) ∷ f.sum v.c (word_at H 2) ∷ f.sum v.d (word_at H 3) ∷
      f.sum v.e (word_at H 4) ∷ f.sum v.f (word_at H 5) ∷ f.sum v.g (word_at H 6) ∷ f.sum v.h (word_at H 7) ∷ []

  -- H(i) from H(i - 1) and the block M(i), by n rounds
  unfoldable pub compress : ℕ → List W → List W → List W
  compress n H M = intermediate H (rounds (schedule M n) (initialize H) n)
