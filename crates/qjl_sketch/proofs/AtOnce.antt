-- Signs that are written only where all values are finite, if these are judged, and an answer that is written at once or not at all. Assumes nothing.
use mathlib.Core.Path.{◌≡◌, refl, sym, ap, ◌∙◌, subst}
use mathlib.Core.Bool.{Bool, true, false, true≢false, false≢true}
use mathlib.Core.List.{List, map}
use lib.Dec.{ltb}
use lib.IntN.{ℤ}
use lib.ListN.{length}
use lib.Ieee.{Float}
use Rattle.error.specs.Answer.{Answer, value, place}
use Rattle.error.specs.Checks.{bad_value}
use Rattle.error.specs.Inner.{AtOnce}
use Rattle.qjl.specs.Sketch.{sign_of_sum}
use Rattle.qjl_sketch.specs.Inner.{JudgedSigns}

pub judged-left : (judged : Bool) (values : List Float) (old : List ℤ) → judged ≡ true → JudgedSigns judged values old false old
judged-left judged values old is = record { whole = λ e. absurd (true≢false (sym is ∙ e)); clean = λ j e. absurd (false≢true e); signs = λ e. absurd (false≢true e); kept = λ e. refl }

pub signs-made : (judged : Bool) (values : List Float) (old new : List ℤ) → (judged ≡ true → ltb (place bad_value values) (length values) ≡ false) → new ≡ map sign_of_sum values → JudgedSigns judged values old true new
signs-made judged values old new c s = record { whole = λ e. refl; clean = λ j e. c j; signs = λ e. s; kept = λ e. absurd (true≢false e) }

-- of the same values by another name
pub signs_same : {judged : Bool} {values others : List Float} {old new : List ℤ} {wrote : Bool} → values ≡ others → JudgedSigns judged values old wrote new → JudgedSigns judged others old wrote new
signs_same {judged} {values} {others} {old} {new} {wrote} e s = subst (λ (vs : List Float). JudgedSigns judged vs old wrote new) e s

pub at_once-signs : {values : List Float} {old new : List ℤ} {wrote : Bool} (answer : Answer (List ℤ)) → (ltb (place bad_value values) (length values) ≡ false → answer ≡ value (map sign_of_sum values))
    → JudgedSigns true values old wrote new
    → AtOnce answer old wrote new
at_once-signs answer h s = record { made = λ e. h (s.clean refl e) ∙ ap value (sym (s.signs e)); kept = s.kept }
