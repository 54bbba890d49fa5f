-- Private functions ask some of these of their callers and ensure the others; no public promise is stated by these. They are about one block of butterflies, done in
-- place, about two stages of them in one pass, and about the lengths that these take. Assumes nothing.
use Rattle.std.specs.Prelude.{ℕ, ◌+◌, ◌*◌, ◌^◌, ◌≤◌, ◌<◌, ◌≡◌, List, ◌≢◌, length, get_or, Float}
use Rattle.std.specs.Float.{nan, binary32}
use Rattle.std.specs.Float.Ieee.{add, sub}

abbrev pub entry_at : List Float → ℕ → Float
entry_at xs i = get_or xs i nan

-- The list xs has become ys when the pairs (start + o, start + h + o) with o < done are through: each holds the sum and the difference of the two.
pub record Partly (h start done : ℕ) (xs ys : List Float) : Type 0 where
  pub long : length ys ≡ length xs
  pub sums : (o : ℕ) → o < done → entry_at ys (start + o) ≡ add binary32 (entry_at xs (start + o)) (entry_at xs (start + o + h))
  pub differences : (o : ℕ) → o < done → entry_at ys (start + o + h) ≡ sub binary32 (entry_at xs (start + o)) (entry_at xs (start + o + h))
  pub before : (i : ℕ) → i < start → entry_at ys i ≡ entry_at xs i
  pub lows : (o : ℕ) → done ≤ o → o < h → entry_at ys (start + o) ≡ entry_at xs (start + o)
  pub highs : (o : ℕ) → done ≤ o → entry_at ys (start + o + h) ≡ entry_at xs (start + o + h)

-- All h pairs of the block are through.
abbrev pub BlockDone : ℕ → ℕ → List Float → List Float → Type 0
BlockDone h start xs ys = Partly h start h xs ys

-- The four entries of ys that are h apart, the first of them at `place`, hold what two stages make of those of xs.
pub record Fused (h place : ℕ) (xs ys : List Float) : Type 0 where
  pub first : entry_at ys place ≡ add binary32 (add binary32 (entry_at xs place) (entry_at xs (place + h))) (add binary32 (entry_at xs (place + h + h)) (entry_at xs (place + h + h + h)))
  pub second : entry_at ys (place + h) ≡ add binary32 (sub binary32 (entry_at xs place) (entry_at xs (place + h))) (sub binary32 (entry_at xs (place + h + h)) (entry_at xs (place + h + h + h)))
  pub third : entry_at ys (place + h + h) ≡ sub binary32 (add binary32 (entry_at xs place) (entry_at xs (place + h))) (add binary32 (entry_at xs (place + h + h)) (entry_at xs (place + h + h + h)))
  pub fourth : entry_at ys (place + h + h + h) ≡ sub binary32 (sub binary32 (entry_at xs place) (entry_at xs (place + h))) (sub binary32 (entry_at xs (place + h + h)) (entry_at xs (place + h + h + h)))

-- The place i is none of those four.
pub record Apart (h place i : ℕ) : Type 0 where
  pub first : i ≢ place
  pub second : i ≢ place + h
  pub third : i ≢ place + h + h
  pub fourth : i ≢ place + h + h + h

-- The list xs has become ys: the four at `place` are through, and no other is touched.
pub record FourDone (h place : ℕ) (xs ys : List Float) : Type 0 where
  pub long : length ys ≡ length xs
  pub fused : Fused h place xs ys
  pub rest : (i : ℕ) → Apart h place i → entry_at ys i ≡ entry_at xs i

-- The same for the fours at start + o with o < done.
pub record FoursDone (h start done : ℕ) (xs ys : List Float) : Type 0 where
  pub long : length ys ≡ length xs
  pub fused : (o : ℕ) → o < done → Fused h (start + o) xs ys
  pub rest : (i : ℕ) → ((o : ℕ) → o < done → Apart h (start + o) i) → entry_at ys i ≡ entry_at xs i

-- The length is a whole number of blocks, each of so many entries, of which there is one at least.
pub record Stepped (width long : ℕ) : Type 0 where
  pub above : 0 < width
  pub blocks : ℕ
  pub whole : long ≡ blocks * width

-- So many stages, the first with this step, end with a step of half the length.
pub record Steps (step count long : ℕ) : Type 0 where
  pub above : 0 < step
  pub whole : long ≡ step * 2 ^ count
