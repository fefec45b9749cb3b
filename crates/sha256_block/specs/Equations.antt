-- SHA-256 as sha2 has a hash: what its equations are over.
use Rattle.std.specs.Prelude.{ℕ}
use Rattle.sha2_common.specs.Equations.{Functions}
use Rattle.sha256_block.specs.Fips.{◌⊞◌, ch, maj, big_sigma0, big_sigma1, small_sigma0, small_sigma1, K, padding}

abbrev pub sha256_functions : Functions ℕ
sha256_functions = record {
  none = 0;
  sum = ◌⊞◌;
  ch = ch;
  maj = maj;
  big_sigma0 = big_sigma0;
  big_sigma1 = big_sigma1;
  small_sigma0 = small_sigma0;
  small_sigma1 = small_sigma1;
  constants = K;
  size = 16;
  words = λ m. m;
  padding = padding;
}
