-- This is the order in which hits stand, and the full sort of a list of hits by it. Document 02, request a): 'Hits stand by falling score; equal scores, both zeros
-- included, stand by number.' Assumes nothing.
use Rattle.std.specs.Prelude.{Bool, not, ◌&&◌, ◌||◌, cond, List, [], ◌∷◌, ltb}
use Rattle.std.specs.Float.Ieee.{lt}
use Rattle.ranking.specs.declared.Hit.{Hit}

-- The first hit has the greater score. Both zeros are equal: neither is greater.
unfoldable pub beats : Hit → Hit → Bool
beats x y = lt y.score x.score

-- The first hit stands before the second: by a greater score, or by an equal one and a smaller number.
unfoldable pub before : Hit → Hit → Bool
before x y = beats x y || (not (beats y x) && ltb x.number y.number)

-- A hit is put in before the first one that it stands before.
unfoldable pub placed : Hit → List Hit → List Hit
placed h [] = h ∷ []
placed h (y ∷ ys) = cond (before h y) (h ∷ y ∷ ys) (y ∷ placed h ys)

-- This is the 'full sort': hit by hit is put in its place.
unfoldable pub sorted : List Hit → List Hit
sorted [] = []
sorted (h ∷ hs) = placed h (sorted hs)
