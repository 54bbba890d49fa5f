-- The hits of a scan are ranked: the numbered records answer what the history's numbered answers are, so each hit has its record's score, and demand 3 is that of the
-- records' scores. Assumes nothing.
use Prim.Native.Nat.{ℕ, ◌<◌}
use mathlib.Core.Path.{◌≡◌, refl, sym, ap, ◌∙◌}
use mathlib.Core.Bool.{true, false}
use mathlib.Core.List.{List, [], ◌∷◌, map, reverse}
use mathlib.Core.Logic.{⊎_elim}
use native.Mathlib.Omega.{arith}
use borrow.Author.Tests.{ltb-true, ltb-false}
use lib.Dec.{leb, ltb}
use lib.ListN.{length, get_or}
use lib.Ieee.{Float}
use Rattle.error.specs.Answer.{Answer, value, refused, withdrawn}
use Rattle.ranking.specs.declared.Hit.{Hit}
use Rattle.scan.specs.Entering.{most}
use Rattle.scan.specs.Events.{Event}
use Rattle.scan.specs.History.{numbered_by, numbered}
use Rattle.ranking.proofs.Ranking.{either}
use Rattle.scan.proofs.Histories.{answer_at, finite-accepted, reversed-older, reversed-newest}
use Rattle.scan.proofs.Hits.{hit-answered, hits-before}
use Rattle.setup.specs.Lent.{Lent}
use Rattle.setup.specs.declared.Setup.{Setup}
use Rattle.turbo.specs.Order.{IsScored}
use Rattle.turbo.proofs.Phased.{phased-scored}
use Rattle.scan_taking.specs.Taking.{Taking, by_query, event_of}
use Rattle.scan_taking.specs.Ranks.{numbered_taking, numbered_takings, hits_by, hit_by, event_at, Ranks}
use Rattle.scan_taking.proofs.Taking.{finite-takings}

-- the records that took a number, and their answers
record Alike (ts : List Taking) (answers : List (Answer Float)) : Type 0 where
  many : length ts ≡ length answers
  each : (n : ℕ) (none : Taking) → n < length answers → event_of (get_or (reverse ts) n none) ≡ value (answer_at answers n)

alike-more : (t : Taking) (a : Answer Float) (ts : List Taking) (answers : List (Answer Float)) → event_of t ≡ value a → Alike ts answers → Alike (t ∷ ts) (a ∷ answers)
alike-more t a ts answers e was =
    record {
      many = omega (arith, was.many);
      each = λ n none l.
          ⊎_elim
          (λ (b : ltb n (length answers) ≡ true). let m = ltb-true n (length answers) b in
          ap event_of (reversed-older t ts none n (omega (arith, m, was.many))) ∙ was.each n none m ∙ ap value (sym (reversed-older a answers withdrawn n m)))
          (λ (b : ltb n (length answers) ≡ false). let m : n ≡ length answers = omega (arith, l, ltb-false n (length answers) b) in
          ap (λ (i : ℕ). event_of (get_or (reverse (t ∷ ts)) i none)) (m ∙ sym was.many) ∙ ap event_of (reversed-newest t ts none) ∙ e
          ∙ ap value (sym (ap (answer_at (a ∷ answers)) m ∙ reversed-newest a answers withdrawn)))
          (either (ltb n (length answers)));
    }

alike_next : (e : Event) (t : Taking) (ts : List Taking) (answers : List (Answer Float)) → event_of t ≡ e → Alike ts answers → Alike (numbered_taking e t ts) (numbered_by e answers)
alike_next (value a) t ts answers e was =
    let same : leb most (length ts) ≡ leb most (length answers) = ap (leb most) was.many in
    ⊎_elim
    (λ (b : leb most (length answers) ≡ true). simp (same ∙ b, b) was)
    (λ (b : leb most (length answers) ≡ false). simp (same ∙ b, b) (alike-more t a ts answers e was))
    (either (leb most (length answers)))
alike_next (refused n p) t ts answers e was = was
alike_next withdrawn t ts answers e was = was

alike : (takings : List Taking) → Alike (numbered_takings takings) (numbered (map event_of takings))
unfolding numbered_takings numbered
alike [] = record { many = refl; each = λ n none l. absurd (omega arith) }
alike (t ∷ takings) = alike_next (event_of t) t (numbered_takings takings) (numbered (map event_of takings)) refl (alike takings)

module _ (k : ℕ) (takings : List Taking) (noHit : Hit) (noTaking : Taking) where
  hit-scored : (i : ℕ) → i < length (hits_by k takings) → event_at noTaking takings (hit_by noHit k takings i) ≡ value (value (hit_by noHit k takings i).score)
  hit-scored i l =
      let h = hit-answered k (map event_of takings) i noHit l in
      (alike takings).each (hit_by noHit k takings i).number noTaking h.older ∙ ap value h.answer

  -- a hit whose record answers what it answers by a query is scored by that query
  hit_by-query : (s : Setup) (l : Lent) (query : List Float) (i : ℕ) (bytes : List ℕ) → i < length (hits_by k takings)
      → event_at noTaking takings (hit_by noHit k takings i) ≡ event_of (by_query s l query bytes) → IsScored s l query bytes (hit_by noHit k takings i).score
  hit_by-query s l query i bytes h e = phased-scored s l query bytes (sym e ∙ hit-scored i h)

  pub ranks : Ranks k takings noHit noTaking
  ranks =
      record {
        taken = λ i l. omega (arith, (hit-answered k (map event_of takings) i noHit l).older, (alike takings).many);
        scored = hit-scored;
        standing = λ i j l m. hits-before k (map event_of takings) (finite-accepted (map event_of takings) (finite-takings takings)) i j noHit l m;
        within = λ s l query demand i bytes h e. demand.within bytes (hit_by noHit k takings i).score (hit_by-query s l query i bytes h e);
        ordered = λ s l query demand i j high low h g e f u.
            demand.ordered low high (hit_by noHit k takings j).score (hit_by noHit k takings i).score (hit_by-query s l query j low g f) (hit_by-query s l query i high h e) u;
      }
