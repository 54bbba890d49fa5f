-- The radii of a linear record lie near to those that it was written from, and writing accepted radii that are all below 2 ^ 127 never answers 16. Assumes nothing.
use Prim.Native.Nat.{ℕ, ◌<◌}
use mathlib.Core.Path.{◌≡◌, refl, sym, ◌∙◌, subst}
use mathlib.Core.Bool.{Bool, true, false}
use mathlib.Core.List.{List}
use native.Mathlib.Omega.{arith}
use borrow.Author.Tests.{ltb-true, ltb-false}
use lib.Dec.{T, ltb}
use lib.IntN.{ℤ}
use lib.ListN.{length, get_or, get_or-eq_default}
use lib.Ieee.{Float, nan, inf}
use lib.Ieee.Scale.{finite}
use Rattle.error.specs.Answer.{value}
use Rattle.radius.specs.Firsts.{read_back}
use Rattle.radius.specs.Radii.{range_of}
use Rattle.radius.specs.declared.RadiusCodecProfileV1.TheVariants.{BlockLinearU16}
use Rattle.radius.proofs.RoundTrip.{Floats}
use Rattle.radius_moves.specs.Moves.{BelowLimit, SmallRadii, Moved}
use Rattle.radius_moves.proofs.Moves.{how-far}
use Rattle.packed.specs.declared.Code.{Code}
use Rattle.packed.specs.Reading.{radii_of}
use Rattle.packed_writing.specs.Writing.{write_record_of}
use Rattle.packed_writing.proofs.Written.{length-read_back}
use Rattle.packed_laws.specs.Moves.{RecordMoves}
use Rattle.packed_laws.proofs.Infinite.{written-infinite}
use Rattle.packed_laws.proofs.Inputs.{written}
use Rattle.packed_laws.proofs.Payloads.{radii-written}

record-moved : (code : Code) (radii : List Float) (indices : List ℕ) (signs : List ℤ) (room : ℕ) {bytes : List ℕ} → Floats radii → BelowLimit radii
    → code.profile ≡ BlockLinearU16 → write_record_of code radii indices signs room ≡ value bytes
    → (i : ℕ) → i < length radii → Moved (range_of radii) (get_or radii i nan) (get_or (radii_of bytes) i nan)
record-moved code radii indices signs room floats below linear told i h =
    let w = written code radii indices signs room told in
    let small : SmallRadii radii = record { good = record { fit = floats.at; good = w.radii_good }; below = below } in
    rw (radii-written w floats, linear) ((how-far radii small).moved i h)

-- no radius reads as infinite
none-infinite : (radii : List Float) → SmallRadii radii → (p : ℕ) → get_or (read_back BlockLinearU16 radii) p nan ≡ inf false → ⊥
none-infinite radii small p is = go (ltb p (length radii)) refl
  where
    go : (t : Bool) → ltb p (length radii) ≡ t → ⊥
    go true e = subst (λ (x : Float). T (finite x)) is ((how-far radii small).moved p (ltb-true p (length radii) e)).number
    go false e = nan-infinite (sym (get_or-eq_default (read_back BlockLinearU16 radii) nan (rw (length-read_back BlockLinearU16 radii refl) (ltb-false p (length radii) e))) ∙ is)
      where
        nan-infinite : nan ≡ inf false → ⊥
        nan-infinite same = let z : ◌≡◌ {A = ℕ} 0 1 = cc in omega arith

pub record-moves : RecordMoves
record-moves = record {
  written_moved = λ code radii indices signs room bytes fit below linear told. record-moved code radii indices signs room (record { at = fit }) below linear told;
  never_16 = λ code radii indices signs room p small told. none-infinite radii small p (written-infinite radii small.good code indices signs room p told);
}
