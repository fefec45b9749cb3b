-- The standard's own account of its tables: the K hold the first bits, as many as a word has, of the fractional parts of the cube roots of
-- the first primes (4.2.2, 4.2.3), and the H(0) those of the square roots of the first eight (5.3.3, 5.3.5) and of the eight behind them
-- (5.3.4).
use mathlib.Core.Path.{◌≡◌, refl}
use mathlib.Core.Bool.{true}
use lib.ListN.{length, drop}
use Rattle.sha256_block.specs.Fips as sha256
use Rattle.sha512_block.specs.Fips as sha512
use Rattle.sha512_block.specs.Fips.{H0-384, H0-512}
use Rattle.standard.specs.Roots.{primes, is_root, has_root, have_roots}

pub K256-cube-roots : (length sha256.K ≡ 64) × (have_roots 32 3 primes sha256.K ≡ true)
unfolding sha256.K primes is_root has_root have_roots
K256-cube-roots = (refl, refl)

pub H0-256-square-roots : (length sha256.H0 ≡ 8) × (have_roots 32 2 primes sha256.H0 ≡ true)
unfolding sha256.H0 primes is_root has_root have_roots
H0-256-square-roots = (refl, refl)

pub K512-cube-roots : (length sha512.K ≡ 80) × (have_roots 64 3 primes sha512.K ≡ true)
unfolding sha512.K primes is_root has_root have_roots
K512-cube-roots = (refl, refl)

pub H0-384-square-roots : (length H0-384 ≡ 8) × (have_roots 64 2 (drop 8 primes) H0-384 ≡ true)
unfolding H0-384 primes is_root has_root have_roots
H0-384-square-roots = (refl, refl)

pub H0-512-square-roots : (length H0-512 ≡ 8) × (have_roots 64 2 primes H0-512 ≡ true)
unfolding H0-512 primes is_root has_root have_roots
H0-512-square-roots = (refl, refl)
