-- 01: what each query answers on any six lent tables; "n is the parent table's length".
use Rattle.std.specs.Prelude.{ℕ, zero, suc, ◌+◌, ◌-◌, ◌*◌, Bool, [], ◌∷◌, eqb, leb, ltb, Ok, Err}
use Rattle.sums.specs.Sum.{at}
use Rattle.answers.specs.Limits.{no_parent}
use Rattle.numbering.specs.Log.{log2}
use Rattle.tables.specs.Tables.{Six}
use Rattle.answers.specs.Choice.{pick, both}
use Rattle.climb.specs.Asked.{size_of, asked}
use Rattle.climb.specs.Sound.{depth_in, id_in, sound?, stand_on, On, Unsound}
use Rattle.climb.specs.Climbing.{climb_to, ancestor_of}
use Rattle.climb.specs.declared.places.Place.{Place}
use Rattle.answers.specs.declared.answer.Refusal.TheVariants.{BadTable, TooFar}
use Rattle.answers.specs.Answers.{Answer, Interval}

-- vertex_count
abbrev pub vertex_count : Six → Answer
vertex_count t = asked t [] Err (Ok (size_of t))

-- "`root` is order entry 0, which must be below n and sound"
abbrev pub root_of : Six → Answer
root_of t = asked t [] Err (pick (both (ltb (at t.order 0) (size_of t)) (sound? (size_of t) t (at t.order 0))) (Ok (at t.order 0)) (Err BadTable))

abbrev pub depth_of : Six → ℕ → Answer
depth_of t v = asked t (v ∷ []) Err (pick (sound? (size_of t) t v) (Ok (depth_in t v)) (Err BadTable))

abbrev pub vertex_id : Six → ℕ → Answer
vertex_id t v = asked t (v ∷ []) Err (pick (sound? (size_of t) t v) (Ok (id_in t v)) (Err BadTable))

-- "A size used must be 1 or more with id+size ≤ n"
abbrev pub size_sound? : ℕ → Six → ℕ → Bool
size_sound? n t v = both (leb 1 (at t.size v)) (leb (id_in t v + at t.size v) n)

abbrev pub subtree_range : Six → ℕ → Interval
subtree_range t v =
    asked t (v ∷ []) Err
    (pick (both (sound? (size_of t) t v) (size_sound? (size_of t) t v)) (Ok (id_in t v, id_in t v + at t.size v)) (Err BadTable))

-- distance: both depths less twice that of the ancestor
abbrev pub distance_in : ℕ → Six → ℕ → ℕ → Answer
distance_in n t u v =
    elim (climb_to n t u v) [ Ok c ↦ Ok (depth_in t u + depth_in t v - 2 * (ancestor_of c).depth) | Err e ↦ Err e ]

abbrev pub distance : Six → ℕ → ℕ → Answer
distance t u v = asked t (u ∷ v ∷ []) Err (distance_in (size_of t) t u v)

-- "of the candidates for (u,v), (r,u), (r,v) the last deepest"
abbrev pub deeper : Place → Place → Place
deeper a b = pick (leb a.depth b.depth) b a

abbrev pub lca_in : ℕ → Six → ℕ → ℕ → ℕ → Answer
lca_in n t r u v =
    elim (climb_to n t u v) [
      | Ok a ↦ elim (climb_to n t r u) [
        | Ok b ↦ elim (climb_to n t r v) [
          | Ok c ↦ Ok (deeper (deeper (ancestor_of a) (ancestor_of b)) (ancestor_of c)).vertex
          | Err e ↦ Err e
        ]
        | Err e ↦ Err e
      ]
      | Err e ↦ Err e
    ]

abbrev pub lca : Six → ℕ → ℕ → ℕ → Answer
lca t r u v = asked t (r ∷ u ∷ v ∷ []) Err (lca_in (size_of t) t r u v)

-- "`kth_ancestor` needs its order entry below n, with the id looked up and the depth climbed to; it need not be sound itself"
abbrev pub entry_at : ℕ → Six → ℕ → ℕ → Answer
entry_at n t i d =
    pick (both (ltb (at t.order i) n) (both (eqb (id_in t (at t.order i)) i) (eqb (depth_in t (at t.order i)) d)))
    (Ok (at t.order i))
    (Err BadTable)

-- k steps up from a place: on its chain, or from its head's parent with fewer steps left; `chains` may still be left
unfoldable pub ancestor_from : ℕ → ℕ → Six → Place → ℕ → Answer
ancestor_from zero n t p k =
    pick (leb k (p.depth - p.top)) (entry_at n t (p.id - k) (p.depth - k)) (pick (eqb p.up no_parent) (Err TooFar) (Err BadTable))
ancestor_from (suc chains) n t p k =
    pick (leb k (p.depth - p.top)) (entry_at n t (p.id - k) (p.depth - k))
    (pick (eqb p.up no_parent) (Err TooFar)
    (elim (stand_on n t p.up) [ On r ↦ ancestor_from chains n t r (k - (p.depth - p.top + 1)) | Unsound ↦ Err BadTable ]))

abbrev pub ancestor_in : ℕ → Six → ℕ → ℕ → Answer
ancestor_in n t v k = elim (stand_on n t v) [ On p ↦ ancestor_from (log2 n) n t p k | Unsound ↦ Err BadTable ]

abbrev pub kth_ancestor : Six → ℕ → ℕ → Answer
kth_ancestor t v k = asked t (v ∷ []) Err (ancestor_in (size_of t) t v k)

-- jump: up from u to the ancestor, then down to v; "`jump` climbs to the ancestor first (9), then k above the distance gives 10"
abbrev pub jump_in : ℕ → Six → ℕ → ℕ → ℕ → Answer
jump_in n t u v k =
    elim (climb_to n t u v) [
      | Ok c ↦
          pick (leb k (depth_in t u - (ancestor_of c).depth)) (ancestor_in n t u k)
          (pick (leb k (depth_in t u - (ancestor_of c).depth + (depth_in t v - (ancestor_of c).depth)))
          (ancestor_in n t v (depth_in t u - (ancestor_of c).depth + (depth_in t v - (ancestor_of c).depth) - k))
          (Err TooFar))
      | Err e ↦ Err e
    ]

abbrev pub jump : Six → ℕ → ℕ → ℕ → Answer
jump t u v k = asked t (u ∷ v ∷ []) Err (jump_in (size_of t) t u v k)

-- the vertices that are not below the child towards r
abbrev pub without_child : ℕ → Six → Answer → Answer
without_child n t (Ok y) = pick (size_sound? n t y) (Ok (n - at t.size y)) (Err BadTable)
without_child n t (Err r) = Err r

-- re-rooted size: all for r itself, v's own size where r lies outside v's range, else all but the subtree of the child towards r; "a re-rooted size
-- needs depth(r) > depth(v) where r ≠ v lies in v's range"
abbrev pub re_rooted_size : ℕ → Six → ℕ → ℕ → Answer
re_rooted_size n t r v =
    pick (size_sound? n t v)
    (pick (both (leb (id_in t v) (id_in t r)) (ltb (id_in t r) (id_in t v + at t.size v)))
    (pick (ltb (depth_in t v) (depth_in t r)) (without_child n t (ancestor_in n t r (depth_in t r - depth_in t v - 1))) (Err BadTable))
    (Ok (at t.size v)))
    (Err BadTable)

abbrev pub subtree_size : Six → ℕ → ℕ → Answer
subtree_size t r v =
    asked t (r ∷ v ∷ []) Err
    (pick (both (sound? (size_of t) t r) (sound? (size_of t) t v)) (pick (eqb r v) (Ok (size_of t)) (re_rooted_size (size_of t) t r v)) (Err BadTable))
