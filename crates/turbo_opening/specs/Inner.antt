-- Private functions of this crate and of `turbo_record` tell this to their callers. No public promise is stated by this. Assumes nothing.
use Rattle.std.specs.Prelude.{ℕ, List}
use Rattle.error.specs.Answer.{Answer, value, first}
use Rattle.setup.specs.declared.Setup.{Setup}
use Rattle.packed.specs.declared.Header.{Header}
use Rattle.packed.specs.Layout.{header_of}
use Rattle.packed.specs.Reading.{unless_withdrawn}
use Rattle.turbo_opening.specs.Opening.{open_checks}

-- This is withdrawn, or 'record reading, 5, 20', with no check of the setup: whoever asks has made those before.
unfoldable pub opened_of : Setup → List ℕ → Answer Header
opened_of s bytes = unless_withdrawn bytes (first (open_checks s bytes) (value (header_of bytes)))
