-- Private functions are held to these. No public promise is stated by these. Assumes nothing.
use Rattle.std.specs.Prelude.{ℕ, List, [], ◌∷◌}
use Rattle.error.specs.Answer.{Check}
use Rattle.radius.specs.Codec.{wrong_profile, wrong_payload, wrong_content}
use Rattle.radius.specs.declared.Range.{Range}
use Rattle.radius.specs.declared.RadiusCodecProfileV1.{RadiusCodecProfileV1}

-- Decompress and restore begin with these checks.
abbrev pub profile_checks : RadiusCodecProfileV1 → ℕ → List ℕ → List Check
profile_checks profile count payload = wrong_profile profile ∷ wrong_payload profile count payload ∷ []

-- These are the checks of decompress before that of the output.
abbrev pub content_checks : RadiusCodecProfileV1 → ℕ → Range → List ℕ → List Check
content_checks profile count range payload = wrong_profile profile ∷ wrong_payload profile count payload ∷ wrong_content profile count range payload ∷ []
