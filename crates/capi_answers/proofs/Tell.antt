-- Answers that leave by lent numbers: what these hold where an answer is a value, a refusal or withdrawn, and where one answer is another. Assumes nothing.
use Prim.Native.Nat.{ℕ}
use mathlib.Core.Path.{◌≡◌, sym, ap, ◌∙◌}
use Rattle.error.specs.Answer.{Answer, value, refused, withdrawn, after}
use Rattle.capi_answers.specs.Told.{Said, said, withdrawn_number, told, part}

-- ---- by cases of the answer

pub told-value : {A : Type 0} {a : Answer A} {x : A} → a ≡ value x → said 0 0 ≡ told a
told-value e = sym (ap told e)

pub told-refused : {A : Type 0} {a : Answer A} {n p : ℕ} → a ≡ refused n p → said n p ≡ told a
told-refused e = sym (ap told e)

pub told-withdrawn : {A : Type 0} {a : Answer A} → a ≡ withdrawn → said withdrawn_number 0 ≡ told a
told-withdrawn e = sym (ap told e)

pub part-value : {A B : Type 0} (f : A → B) (old : B) {a : Answer A} {x : A} → a ≡ value x → f x ≡ after (part f a) old
part-value {A} f old e = sym (ap (λ (b : Answer A). after (part f b) old) e)

pub part-refused : {A B : Type 0} (f : A → B) (old : B) {a : Answer A} {n p : ℕ} → a ≡ refused n p → old ≡ after (part f a) old
part-refused {A} f old e = sym (ap (λ (b : Answer A). after (part f b) old) e)

pub part-withdrawn : {A B : Type 0} (f : A → B) (old : B) {a : Answer A} → a ≡ withdrawn → old ≡ after (part f a) old
part-withdrawn {A} f old e = sym (ap (λ (b : Answer A). after (part f b) old) e)

-- ---- by the answer that a call promises

pub told-as : {A : Type 0} {s : Said} {a b : Answer A} → s ≡ told a → a ≡ b → s ≡ told b
told-as t e = t ∙ ap told e

pub left_as : {A : Type 0} {x : A} (old : A) {a b : Answer A} → x ≡ after a old → a ≡ b → x ≡ after b old
left_as {A} old t e = t ∙ ap (λ (c : Answer A). after c old) e

pub part-as : {A B : Type 0} {x : B} (f : A → B) (old : B) {a b : Answer A} → x ≡ after (part f a) old → a ≡ b → x ≡ after (part f b) old
part-as {A} f old t e = t ∙ ap (λ (c : Answer A). after (part f c) old) e
