-- A list that `chunks_exact` takes apart: where a block begins, what it has and what is left behind it, and the rest behind the last block. Assumes nothing.
use Rattle.std.proofs.Common.{◌≡◌, ℕ, ◌+◌, ◌-◌, ◌<◌, ◌≤◌, List, ◌++◌, length, get_or, drop, sym, ap, ◌∙◌, arith}
use Rattle.std.proofs.Math.Seq.{drop-append_seam}
use Rattle.std.proofs.lemmas.List.{length-append, length-drop, get_or_append_left, get_or-drop, drop-drop}

-- the block of w items from n on
pub record BlockAt {A : Type 0} (xs block after : List A) (w n : ℕ) : Type 0 where
  pub begins : length xs - (w + length after) ≡ n
  pub inside : n + w ≤ length xs
  pub item : (j : ℕ) (d : A) → j < w → get_or block j d ≡ get_or xs (n + j) d
  pub left : after ≡ drop (n + w) xs

module _ {A : Type 0} where
  pub block-at : (xs before block after : List A) (w n : ℕ) → n ≤ length xs → before ≡ drop n xs → before ≡ block ++ after → length block ≡ w → BlockAt xs block after w n
  block-at xs before block after w n h e f l =
      let cut : drop n xs ≡ block ++ after = sym e ∙ f in
      let long : length xs - n ≡ w + length after = sym (length-drop n xs) ∙ ap length cut ∙ length-append block after ∙ ap (λ (k : ℕ). k + length after) l in
      record {
        begins = omega arith;
        inside = omega arith;
        item = λ j d g. sym (get_or_append_left block after d j (omega arith)) ∙ ap (λ (ys : List A). get_or ys j d) (sym cut) ∙ get_or-drop n xs j d;
        left = sym (drop-append_seam block after) ∙ ap (λ (k : ℕ). drop k (block ++ after)) l ∙ ap (drop w) (sym cut) ∙ drop-drop w n xs;
      }

  -- the items behind the last block
  pub rest_item : (xs rest : List A) (n : ℕ) → n ≤ length xs → rest ≡ drop n xs → (j : ℕ) (d : A) → get_or rest j d ≡ get_or xs (length xs - length rest + j) d
  rest_item xs rest n h e j d =
      let long = ap length e ∙ length-drop n xs in
      let begins : length xs - length rest ≡ n = omega (arith, long) in
      rw begins (ap (λ (ys : List A). get_or ys j d) e ∙ get_or-drop n xs j d)
