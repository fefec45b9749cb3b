-- SHA-384 and SHA-512 as sha2 has a hash: what their equations are over. A block has 16 words of 64 bits, which are 32 of 32 bits.
use Rattle.std.specs.Prelude.{ℕ}
use Rattle.sha2_common.specs.Equations.{Functions}
use Rattle.sha512_block.specs.Fips.{◌⊞◌, ch, maj, big_sigma0, big_sigma1, small_sigma0, small_sigma1, K, padding, from_halves}

abbrev pub sha512_functions : Functions ℕ
sha512_functions = record {
  none = 0;
  sum = ◌⊞◌;
  ch = ch;
  maj = maj;
  big_sigma0 = big_sigma0;
  big_sigma1 = big_sigma1;
  small_sigma0 = small_sigma0;
  small_sigma1 = small_sigma1;
  constants = K;
  size = 32;
  words = from_halves;
  padding = padding;
}
