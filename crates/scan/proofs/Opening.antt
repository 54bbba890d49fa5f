-- Opening a scan, case by case of its length. Assumes nothing.
use Prim.Native.Nat.{ℕ, zero, suc, ◌≤◌}
use mathlib.Core.Path.{◌≡◌, refl, sym, ap, ◌∙◌, subst}
use mathlib.Core.Bool.{true, false}
use borrow.Author.Tests.{eq-eqb, ne_eqb}
use lib.Dec.{ltb}
use mathlib.Core.List.{[]}
use native.Mathlib.Omega.{arith}
use Rattle.error.specs.Answer.{Answer, value, refused, accepted, done, after}
use Rattle.scan.specs.declared.Scan.{Scan}
use Rattle.scan.specs.History.{Led}
use Rattle.scan.proofs.Entering.{opened-led}
use Rattle.scan.specs.Opening.{empty_of, open_of, scan_opened}

pub open_none : (k : ℕ) → k ≡ 0 → open_of k ≡ refused 21 0
unfolding open_of
open_none k e = simp (eq-eqb k 0 e)

pub open-many : (k : ℕ) → (k ≡ 0 → ⊥) → ltb 64 k ≡ true → open_of k ≡ refused 21 0
unfolding open_of
open-many k e h = simp (ne_eqb k 0 e, h)

pub open-passed : (k : ℕ) → (k ≡ 0 → ⊥) → ltb 64 k ≡ false → open_of k ≡ value (empty_of k)
unfolding open_of
open-passed k e h = simp (ne_eqb k 0 e, h)

-- what is answered and the scan beside it
pub open-refused : (k : ℕ) {r : Scan} → open_of k ≡ refused 21 0 → r ≡ empty_of 1 → (refused 21 0 ≡ done (open_of k)) × (r ≡ scan_opened k)
open-refused k e h = (sym (ap done e), h ∙ sym (ap (λ (a : Answer Scan). after a (empty_of 1)) e))

pub open_done : (k : ℕ) {r : Scan} → open_of k ≡ value (empty_of k) → r ≡ empty_of k → (accepted ≡ done (open_of k)) × (r ≡ scan_opened k)
open_done k e h = (sym (ap done e), h ∙ sym (ap (λ (a : Answer Scan). after a (empty_of 1)) e))

-- ---- the history

pub one-or-more : (k : ℕ) → (k ≡ 0 → ⊥) → 1 ≤ k
one-or-more zero h = absurd (h refl)
one-or-more (suc k) h = omega arith

-- a scan with nothing taken is what the empty history leads to
pub empty-led : (k : ℕ) {r : Scan} → 1 ≤ k → k ≤ 64 → r ≡ empty_of k → Led r.tally.length [] r
unfolding empty_of
empty-led k some few e = subst (λ (s : Scan). Led s.tally.length [] s) (sym e) (opened-led k some few)
