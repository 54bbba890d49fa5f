-- This is promised of the leaves beyond their contracts: where each bit of an index and of a sign stands, that indices, signs and F32 radii come back from their
-- bytes and bytes from them, that a square root is the nearest and the only one, and which dimensions are powers of two. Of what is given only this is asked: a byte
-- is below 256, a float is an f32, and a dimension is below 2^64. Assumes nothing.
use Rattle.std.specs.Prelude.{ℕ, suc, ◌/◌, ◌%◌, ◌^◌, ◌<◌, ◌≡◌, Bool, true, false, not, List, map, T, ℤ, length, get_or, Float}
use Rattle.std.specs.Int.Count.{ones, count_trailing_zeros}
use Rattle.std.specs.Float.{nan, inf, fin, binary32}
use Rattle.std.specs.Float.Ieee.{fits, is_nan}
use Rattle.error.specs.Answer.{value}
use Rattle.digits.specs.Digits.{AreBytes}
use Rattle.float.specs.Bytes.{of_le_bytes, to_le_bytes, AreFloats}
use Rattle.float.specs.SquareRoot.{NearestRoot, square_root}
use Rattle.float.specs.Units.{non_negative, mag}
use Rattle.bitpack.specs.Packing.{pack_indices_of, unpack_indices_of}
use Rattle.bitpack.specs.Signs.{bit_of_sign, pack_signs_of, unpack_signs_of}
use Rattle.radius.specs.Codec.{compress_bytes_of, decompress_of}
use Rattle.radius.specs.declared.Range.{Range}
use Rattle.radius.specs.declared.RadiusCodecProfileV1.TheVariants.{F32}

-- Bytes and indices have the same bits: 'Index i of b bits occupies bits i×b upward, least significant first; bit k is bit k mod 8 of byte k/8.' Behind the last
-- index every bit is 0.
abbrev pub SameBits : ℕ → List ℕ → List ℕ → Type 0
SameBits bits packed indices = (k : ℕ) → get_or packed (k / 8) 0 / 2 ^ (k % 8) % 2 ≡ get_or indices (k / bits) 0 / 2 ^ (k % bits) % 2

-- Bytes and signs have the same bits: 'Sign +1 is bit 1, −1 is bit 0.' Behind the last sign every bit is 0.
abbrev pub SameSigns : List ℕ → List ℤ → Type 0
SameSigns packed signs = (k : ℕ) → get_or packed (k / 8) 0 / 2 ^ (k % 8) % 2 ≡ get_or (map bit_of_sign signs) k 0

-- All promises of the leaves stand here as one claim.
pub record Leaves : Type 0 where
  -- Indices have the bits of their bytes, come back from them, and bytes come back from indices.
  pub pack_bit : (indices : List ℕ) (bits room : ℕ) (packed : List ℕ) → pack_indices_of indices bits room ≡ value packed → SameBits bits packed indices
  pub unpack_bit : (packed : List ℕ) (count bits room : ℕ) (indices : List ℕ) → AreBytes packed → unpack_indices_of packed count bits room ≡ value indices → SameBits bits packed indices
  pub unpack_pack : (indices : List ℕ) (bits room : ℕ) (packed : List ℕ) → pack_indices_of indices bits room ≡ value packed
      → unpack_indices_of packed (length indices) bits (length indices) ≡ value indices
  pub pack_unpack : (packed : List ℕ) (count bits room : ℕ) (indices : List ℕ) → AreBytes packed → unpack_indices_of packed count bits room ≡ value indices
      → pack_indices_of indices bits (length packed) ≡ value packed
  -- Signs have the bits of their bytes, come back from them, and bytes come back from signs.
  pub pack_signs_bit : (signs : List ℤ) (room : ℕ) (packed : List ℕ) → pack_signs_of signs room ≡ value packed → SameSigns packed signs
  pub unpack_signs_bit : (packed : List ℕ) (count room : ℕ) (signs : List ℤ) → AreBytes packed → unpack_signs_of packed count room ≡ value signs → SameSigns packed signs
  pub unpack_pack_signs : (signs : List ℤ) (room : ℕ) (packed : List ℕ) → pack_signs_of signs room ≡ value packed
      → unpack_signs_of packed (length signs) (length signs) ≡ value signs
  pub pack_unpack_signs : (packed : List ℕ) (count room : ℕ) (signs : List ℤ) → AreBytes packed → unpack_signs_of packed count room ≡ value signs
      → pack_signs_of signs (length packed) ≡ value packed
  -- F32 radii come back from their bytes, and bytes from radii.
  pub decompress_compress : (radii : List Float) (room : ℕ) (bytes : List ℕ) (range : Range) → AreFloats radii → compress_bytes_of radii F32 room ≡ value bytes
      → decompress_of F32 (length radii) range bytes (length radii) ≡ value radii
  pub compress_decompress : (count : ℕ) (range : Range) (payload : List ℕ) (room : ℕ) (radii : List Float) → AreBytes payload → decompress_of F32 count range payload room ≡ value radii
      → compress_bytes_of radii F32 (length payload) ≡ value payload
  -- A float comes back from its four bytes, and they from it; a NaN's pattern is not kept.
  pub float_back : (x : Float) → T (fits binary32 x) → of_le_bytes (to_le_bytes x) ≡ x
  pub bytes_back : (bytes : List ℕ) → AreBytes bytes → length bytes ≡ 4 → T (not (is_nan (of_le_bytes bytes))) → to_le_bytes (of_le_bytes bytes) ≡ bytes
  -- 'The root of any f32 is IEEE 754 squareRoot, shown by comparing integer squares: −0.0 gives −0.0, below zero gives NaN.'
  pub root_nearest : (x : Float) → T (fits binary32 x) → T (non_negative x) → 0 < mag x → NearestRoot x (square_root x)
  pub root_unique : (x r s : Float) → NearestRoot x r → NearestRoot x s → r ≡ s
  pub root_zero : (s : Bool) (e : ℤ) → square_root (fin s 0 e) ≡ fin s 0 e
  pub root_below : (m : ℕ) (e : ℤ) → square_root (fin true (suc m) e) ≡ nan
  pub root_below_all : square_root (inf true) ≡ nan
  pub root_infinity : square_root (inf false) ≡ inf false
  pub root_nan : square_root nan ≡ nan
  -- 'A dimension is a power of two exactly when one bit of it is set.'
  pub one_bit : (n : ℕ) → n < 2 ^ 64 → ones n ≡ 1 → n ≡ 2 ^ count_trailing_zeros 64 n
  pub power_bit : (k : ℕ) → ones (2 ^ k) ≡ 1
