-- 01, "Sound entries": "Vertex x with h = head(x) is sound when h < n; depth(h) ≤ depth(x) < n; id(h) ≤ id(x) < n; id(x)−id(h) =
-- depth(x)−depth(h); and either h has no parent and depth 0, or its parent p is below n, depth(p)+1 = depth(h) and id(p) < id(h)."
use Rattle.std.specs.Prelude.{ℕ, ◌+◌, ◌-◌, Bool, eqb, leb, ltb}
use Rattle.sums.specs.Sum.{at}
use Rattle.answers.specs.Limits.{no_parent}
use Rattle.tables.specs.Tables.{Six}
use Rattle.answers.specs.Choice.{pick, both}
use Rattle.climb.specs.declared.places.Place.{Place}

-- the entries of a vertex
abbrev pub parent_in : Six → ℕ → ℕ
parent_in t x = at t.parent x

abbrev pub depth_in : Six → ℕ → ℕ
depth_in t x = at t.depth x

abbrev pub head_in : Six → ℕ → ℕ
head_in t x = at t.head x

abbrev pub id_in : Six → ℕ → ℕ
id_in t x = at t.id x

-- a head without parent and with depth 0, or with a parent p that is one less deep and has a smaller number
abbrev pub hung? : ℕ → Six → ℕ → ℕ → Bool
hung? n t h p =
    pick (eqb p no_parent) (eqb (depth_in t h) 0) (both (ltb p n) (both (eqb (depth_in t p + 1) (depth_in t h)) (ltb (id_in t p) (id_in t h))))

-- x with the head h
abbrev pub sound_under? : ℕ → Six → ℕ → ℕ → Bool
sound_under? n t x h =
    both (ltb h n)
    (both (leb (depth_in t h) (depth_in t x))
    (both (ltb (depth_in t x) n)
    (both (leb (id_in t h) (id_in t x))
    (both (ltb (id_in t x) n)
    (both (eqb (id_in t x - id_in t h) (depth_in t x - depth_in t h)) (hung? n t h (parent_in t h)))))))

unfoldable pub sound? : ℕ → Six → ℕ → Bool
sound? n t x = sound_under? n t x (head_in t x)

-- what is read of a vertex: its own depth and number, its head with the head's depth and number, and the head's parent
abbrev pub place_of : Six → ℕ → Place
place_of t x =
    record {
      vertex = x;
      depth = depth_in t x;
      id = id_in t x;
      head = head_in t x;
      top = depth_in t (head_in t x);
      first = id_in t (head_in t x);
      up = parent_in t (head_in t x);
    }

-- where a query stands: on a sound vertex with what was read of it, or on none
pub data Stood : Type 0 where
  On : Place → Stood
  Unsound : Stood

-- "Each vertex a query stands on must be sound"
abbrev pub stand_on : ℕ → Six → ℕ → Stood
stand_on n t x = pick (sound? n t x) (On (place_of t x)) Unsound
