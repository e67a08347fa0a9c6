-- The operands of a command, written as bytes and read back: numbers, the highest byte first, and a bias in two's complement. By computing the bytes. Assumes nothing.
use mathlib.Core.Path.{◌≡◌}
use Prim.Native.Nat.{ℕ, suc, ◌-◌, ◌≤◌, ◌<◌}
use native.Mathlib.Omega.{arith}
use lib.IntN.{ℤ, pos, negsuc, nat_abs}
use borrow.Author.Tests.{lt-ltb, le-ltb}
use Rattle.codebook.specs.Loading.{big_endian, signed}
use Rattle.codebook.specs.Written.{bytes, complement}

-- ---- numbers

pub one-back : (x : ℕ) → x < 256 → big_endian 0 (bytes 1 x) ≡ x
unfolding big_endian bytes
one-back x h = omega arith

pub two_back : (x : ℕ) → x < 65536 → big_endian 0 (bytes 2 x) ≡ x
unfolding big_endian bytes
two_back x h = omega arith

pub four-back : (x : ℕ) → x < 4294967296 → big_endian 0 (bytes 4 x) ≡ x
unfolding big_endian bytes
four-back x h = omega arith

-- ---- a bias

pub complement-lt : (z : ℤ) → nat_abs z ≤ 1048576 → complement z < 4294967296
unfolding complement
complement-lt (pos x) h = omega arith
complement-lt (negsuc x) h = omega arith

pub signed_back : (z : ℤ) → nat_abs z ≤ 1048576 → signed (complement z) ≡ z
unfolding signed complement
signed_back (pos x) h = rw (lt-ltb x 2147483648 (omega arith))
signed_back (negsuc x) h =
    let e : 4294967296 - (4294967296 - suc x) ≡ suc x = omega arith in
    rw (le-ltb (4294967296 - suc x) 2147483648 (omega arith), e)
