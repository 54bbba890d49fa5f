-- Private functions ask these of their callers: inputs whose earlier checks have passed. No public promise is stated by these. Assumes nothing.
use Rattle.std.specs.Prelude.{ℕ, ◌+◌, ◌*◌, ◌≤◌, ◌≡◌, false, List, ltb, ℤ, length, Float}
use Rattle.error.specs.Answer.{place}
use Rattle.bitpack.specs.Padding.{bytes_for}
use Rattle.error.specs.Checks.{bad_index}
use Rattle.bitpack.specs.Signs.{bad_sketch_sign}
use Rattle.radius.specs.Codec.{bad_profile, width_of}
use Rattle.radius.specs.Radii.{bad_radius}
use Rattle.radius.specs.declared.RadiusCodecProfileV1.{RadiusCodecProfileV1}

-- ---- what the checks of the fields leave: lengths that fit

pub record Codes (bits indices signs : ℕ) : Type 0 where
  pub least : 1 ≤ bits
  pub most : bits ≤ 16
  pub indices_most : indices ≤ 2048
  pub signs_most : signs ≤ 4096

-- ---- what the writing of the payloads asks: values that have passed their checks, and room for them

pub record CodesReady (indices : List ℕ) (bits : ℕ) (signs : List ℤ) (room : ℕ) : Type 0 where
  pub codes : Codes bits (length indices) (length signs)
  pub indices_good : ltb (place (bad_index bits) indices) (length indices) ≡ false
  pub signs_good : ltb (place bad_sketch_sign signs) (length signs) ≡ false
  pub exact : room ≡ bytes_for (length indices * bits) + bytes_for (length signs)

pub record Payloads (radii : List Float) (profile : RadiusCodecProfileV1) (indices : List ℕ) (bits : ℕ) (signs : List ℤ) (room : ℕ) : Type 0 where
  pub known : bad_profile profile ≡ false
  pub radii_most : length radii ≤ 2048
  pub radii_good : ltb (place bad_radius radii) (length radii) ≡ false
  pub rest : ℕ
  pub exact : room ≡ width_of profile * length radii + rest
  pub codes : CodesReady indices bits signs rest
