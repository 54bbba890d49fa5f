-- These are the seeds of the host's two generators. Document 01: 'the Hadamard generator gets seed + A11CE55ED5A5EED5, the matrix generator
-- seed + CAFEBABE00000001 + DEADBEEF12345678, both sums modulo 2^64; the port supplies these.' Assumes nothing.
use Rattle.std.specs.Prelude.{ℕ, ◌+◌, ◌%◌, ◌^◌}

abbrev pub hadamard_seed_of : ℕ → ℕ
hadamard_seed_of seed = (seed + 0xA11C_E55E_D5A5_EED5) % 2 ^ 64

abbrev pub matrix_seed_of : ℕ → ℕ
matrix_seed_of seed = (seed + 0xCAFE_BABE_0000_0001 + 0xDEAD_BEEF_1234_5678) % 2 ^ 64
