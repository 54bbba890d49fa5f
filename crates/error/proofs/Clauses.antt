-- Two facts at once are the two clauses of a contract, under their names. Assumes nothing.
module _ {A B : Type 0} where
  pub said_left : A × B → record { said : A; left : B }
  said_left p = record { said = p.0; left = p.1 }

  pub answer_left : A × B → record { answer : A; left : B }
  answer_left p = record { answer = p.0; left = p.1 }
