-- Facts in a walk by hand, of a function whose contract has more than one clause: they stand beside what is had, and the first two of three are heard as one. Assumes
-- nothing.
use seplogic.Ra.Ura.{Ura}
use base.Logic.{SProp, ent, sep, emp, via, fst∗, snd∗, emp∗, mono_l, comm∗}
use contract.Monad.{fact, fact_i, fact_use}

module _ {M : Type 1} (𝓤 : Ura M) where
  pub known : {φ : Type 0} → φ → ent 𝓤 (emp 𝓤) (fact 𝓤 φ)
  known {φ} p = fact_i 𝓤 φ (emp 𝓤) p

  pub both : {P Q : SProp 𝓤} → ent 𝓤 (emp 𝓤) P → ent 𝓤 (emp 𝓤) Q → ent 𝓤 (emp 𝓤) (sep 𝓤 P Q)
  both {P} {Q} p q = via 𝓤 Q q (via 𝓤 (sep 𝓤 (emp 𝓤) Q) (emp∗ 𝓤 Q) (mono_l 𝓤 Q p))

  pub beside : {P Q : SProp 𝓤} → ent 𝓤 (emp 𝓤) Q → ent 𝓤 P (sep 𝓤 P Q)
  beside {P} {Q} q = via 𝓤 (sep 𝓤 (emp 𝓤) P) (emp∗ 𝓤 P) (via 𝓤 (sep 𝓤 Q P) (mono_l 𝓤 P q) (comm∗ 𝓤 Q P))

  pub first_two : {φ ψ χ : Type 0} → ent 𝓤 (sep 𝓤 (fact 𝓤 φ) (sep 𝓤 (fact 𝓤 ψ) (fact 𝓤 χ))) (fact 𝓤 (φ × ψ))
  first_two {φ} {ψ} {χ} =
      fact_use 𝓤 φ (fst∗ 𝓤 (fact 𝓤 φ) (sep 𝓤 (fact 𝓤 ψ) (fact 𝓤 χ))) (λ p.
      fact_use 𝓤 ψ (via 𝓤 (sep 𝓤 (fact 𝓤 ψ) (fact 𝓤 χ)) (snd∗ 𝓤 (fact 𝓤 φ) (sep 𝓤 (fact 𝓤 ψ) (fact 𝓤 χ))) (fst∗ 𝓤 (fact 𝓤 ψ) (fact 𝓤 χ))) (λ q.
      fact_i 𝓤 (φ × ψ) (sep 𝓤 (fact 𝓤 φ) (sep 𝓤 (fact 𝓤 ψ) (fact 𝓤 χ))) (p, q)))
