-- The lengths of a setup's tables as numbers of a word: 2 × 2^bits of them fit up to 60 bits, and no slice of floats is as long as that of
-- more; a matrix of at most 4,096 rows and columns has at most 2^24 entries. Assumes nothing.
use Prim.Native.Nat.{ℕ, ◌*◌, ◌%◌, ◌^◌, ◌≤◌, ◌<◌}
use mathlib.Core.Path.{◌≡◌, sym, ◌∙◌}
use mathlib.Core.Bool.{true, false}
use native.Mathlib.Nat.{one-mul, mod-eq_of_lt, mul-le-mul}
use native.Mathlib.Omega.{arith}
use borrow.Author.Tests.{eq-eqb, ne_eqb}
use lib.Dec.{eqb}
use lib.Pow.{pow_mono}

pub entries_fit : (b : ℕ) → b ≤ 60 → 2 * 2 ^ b < 2 ^ 64
entries_fit b h = let l = pow_mono h in omega (arith, l)

-- the shift that the code forms
pub entries-shift : (b : ℕ) → b ≤ 60 → 1 * 2 ^ b % 2 ^ 64 ≡ 2 ^ b
entries-shift b h = let l = entries_fit b h in rw (one-mul (2 ^ b)) (mod-eq_of_lt (omega (arith, l)))

pub entries-beyond : (b long : ℕ) → 60 < b → long * 4 < 2 ^ 63 → long ≡ 2 * 2 ^ b → ⊥
entries-beyond b long h short e = let l = pow_mono h in omega (arith, l, short, e)

pub matrix-fits : (rows columns : ℕ) → rows ≤ 4096 → columns ≤ 4096 → rows * columns ≤ 2 ^ 24
matrix-fits rows columns r c = mul-le-mul r c

-- ---- a length against one that is known by another name

pub length-differs : {found near : ℕ} (needed : ℕ) → near ≡ needed → (found ≡ near → ⊥) → eqb found needed ≡ false
length-differs {found} {near} needed e h = ne_eqb found needed (λ f. h (f ∙ sym e))

pub length_meets : {found near : ℕ} (needed : ℕ) → near ≡ needed → found ≡ near → eqb found needed ≡ true
length_meets {found} {near} needed e h = eq-eqb found needed (h ∙ e)
