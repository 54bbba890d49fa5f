-- `radius_writing::all_kept` meets its contract: where a flag stands, every radius so far passed its test. Assumes nothing.
use Prim.Native.Nat.{ℕ, ◌<◌}
use mathlib.Core.Path.{◌≡◌}
use mathlib.Core.Bool.{true, false}
use lib.Ieee.{binary32, of_bits, lt}
use lib.ListN.{get_or}
use Rattle.float.specs.Constants.{pos_zero}
use Rattle.radius.specs.Linear.{quantize_radius_of, radius_of}
use Rattle.radius_writing.proofs.all_kept.Given as goal

abbrev pub invariant-loop-r : goal.invariant-loop-r
invariant-loop-r l = record {
  above : l.above ≡ true → (k : ℕ) → k < l.r-index → lt (radius_of l.range (quantize_radius_of l.min l.span (get_or l.radii k pos_zero))) pos_zero ≡ false;
  below : l.below ≡ true → (k : ℕ) → k < l.r-index → lt (radius_of l.range (quantize_radius_of l.min l.span (get_or l.radii k pos_zero))) (of_bits binary32 0x7F80_0000) ≡ true;
}
