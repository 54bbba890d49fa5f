-- `radius_writing::write_payload` meets its contract: by the profile; BlockLogU8 has no bytes. Assumes nothing.
use Prim.Native.Nat.{ℕ, ◌*◌}
use mathlib.Core.Path.{◌≡◌, refl, ap, ◌∙◌}
use mathlib.Core.List.{List, [], ◌∷◌, flat_map}
use native.Mathlib.Omega.{arith}
use lib.ListN.{length}
use lib.Ieee.{of_bits}
use Rattle.radius.specs.Linear.{linear_bytes}
use Rattle.radius.specs.declared.Range.{Range}
use Rattle.radius_writing.proofs.write_payload.Goals as goal

-- a list of no bytes for each radius is empty
none : (bytes : List ℕ) (n : ℕ) → length bytes ≡ 0 * n → bytes ≡ []
none [] n e = refl
none (b ∷ bytes) n e = absurd (omega (arith, e))

pub write_floats-requires : goal.write_floats-requires
write_floats-requires c = rw c.in-F32.is at c.requires

pub write_linear-requires : goal.write_linear-requires
write_linear-requires c = rw c.in-BlockLinearU16.is at c.requires

pub returns-in-F32 : goal.returns-in-F32
unfolding of_bits
returns-in-F32 c = rw c.in-F32.is (record { range = refl; bytes = c.write_floats.ensures })

pub returns-in-BlockLinearU16 : goal.returns-in-BlockLinearU16
returns-in-BlockLinearU16 c = rw c.in-BlockLinearU16.is (record { range = c.range_of-range.ensures; bytes = c.write_linear.ensures ∙ ap (λ (range : Range). flat_map (linear_bytes range) c.args.radii.now) c.range_of-range.ensures })

pub returns-in-BlockLogU8 : goal.returns-in-BlockLogU8
unfolding of_bits
returns-in-BlockLogU8 c = rw c.in-BlockLogU8.is (record { range = refl; bytes = none _ _ (rw c.in-BlockLogU8.is at c.requires) })
