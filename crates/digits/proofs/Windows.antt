-- A window of bits: `held` bits as the number `acc`, below what is still to come, `rest`. The whole is acc + 2^held * rest.
-- Bits come in at the top of the window and leave at its bottom. Assumes nothing.
use Prim.Native.Nat.{ℕ, ◌+◌, ◌-◌, ◌*◌, ◌/◌, ◌%◌, ◌^◌, ◌≤◌, ◌<◌}
use mathlib.Core.Path.{◌≡◌, ap, ◌∙◌}
use mathlib.Core.List.{List, ◌++◌}
use native.Mathlib.Nat.{add-mul-mod_self_left, add-mul-div_left, mul_assoc, lt_of_lt_of_le}
use native.Mathlib.Omega.{arith}
use lib.Arith.{digits_lt}
use lib.Pow.{pow-add, pow_pos, pow_mono, shl_exact, shr_lt}
use Rattle.digits.specs.Digits.{digits}
use Rattle.digits.proofs.Laws.{digits_append}
use Rattle.digits.proofs.Digits.{digits_low}

-- ---- bits come in

pub shift_in : (acc held bits x rest : ℕ) → acc + 2 ^ held * (x + 2 ^ bits * rest) ≡ (acc + x * 2 ^ held) + 2 ^ (held + bits) * rest
shift_in acc held bits x rest = rw (pow-add 2 held bits) (omega arith)

pub shift_in-fits : (acc held bits x : ℕ) → acc < 2 ^ held → x < 2 ^ bits → acc + x * 2 ^ held < 2 ^ (held + bits)
shift_in-fits acc held bits x h k = let both = digits_lt k h in rw (pow-add 2 held bits) (omega (arith, both))

-- the same, as the code shifts it in 64 bits
pub shift_in-exact : (held n x : ℕ) → x < 2 ^ n → n + held ≤ 64 → x * 2 ^ held % 2 ^ 64 ≡ x * 2 ^ held
shift_in-exact held n x h k = shl_exact n held 64 h k

pub shift_in-word : (acc held n x : ℕ) → acc < 2 ^ held → x < 2 ^ n → n + held ≤ 64 → acc + x * 2 ^ held % 2 ^ 64 < 2 ^ 64
shift_in-word acc held n x fits h k =
    rw (shift_in-exact held n x h k) (lt_of_lt_of_le (shift_in-fits acc held n x fits h) (pow_mono {j = 64} (omega (arith, k))))

-- ---- bits leave

module _ (n held : ℕ) (enough : n ≤ held) where
  power-parts : 2 ^ held ≡ 2 ^ n * 2 ^ (held - n)
  power-parts = let e : held ≡ n + (held - n) = omega arith in ap (λ (m : ℕ). 2 ^ m) e ∙ pow-add 2 n (held - n)

  pub above : (acc rest : ℕ) → acc + 2 ^ held * rest ≡ acc + 2 ^ n * (2 ^ (held - n) * rest)
  above acc rest = ap (λ (m : ℕ). acc + m) (ap (λ (m : ℕ). m * rest) power-parts ∙ mul_assoc (2 ^ n) (2 ^ (held - n)) rest)

  pub low-out : (acc rest : ℕ) → (acc + 2 ^ held * rest) % 2 ^ n ≡ acc % 2 ^ n
  low-out acc rest = ap (λ (m : ℕ). m % 2 ^ n) (above acc rest) ∙ add-mul-mod_self_left acc (2 ^ n) (2 ^ (held - n) * rest)

  pub shift-out : (acc rest : ℕ) → (acc + 2 ^ held * rest) / 2 ^ n ≡ acc / 2 ^ n + 2 ^ (held - n) * rest
  shift-out acc rest = ap (λ (m : ℕ). m / 2 ^ n) (above acc rest) ∙ add-mul-div_left acc (2 ^ (held - n) * rest) (pow_pos n)

  pub shift-out-fits : (acc : ℕ) → acc < 2 ^ held → acc / 2 ^ n < 2 ^ (held - n)
  shift-out-fits acc h = let e : held - n + n ≡ held = omega arith in shr_lt (held - n) n (rw e h)

-- four bytes leave at once
pub word_out : (n held acc rest : ℕ) → 4 ≤ n → 32 ≤ held → digits 256 n (acc + 2 ^ held * rest) ≡ digits 256 4 acc ++ digits 256 (n - 4) (acc / 2 ^ 32 + 2 ^ (held - 32) * rest)
word_out n held acc rest h k =
    let e : n ≡ 4 + (n - 4) = omega arith in
    let y : ℕ = acc + 2 ^ held * rest in
    ap (λ (m : ℕ). digits 256 m y) e
    ∙ digits_append 256 4 (n - 4) y
    ∙ ap (λ (ds : List ℕ). ds ++ digits 256 (n - 4) (y / 256 ^ 4)) (ap (digits 256 4) (above 32 held k acc rest) ∙ digits_low 256 4 acc (2 ^ (held - 32) * rest) (omega arith))
    ∙ ap (λ (m : ℕ). digits 256 4 acc ++ digits 256 (n - 4) m) (shift-out 32 held k acc rest)
