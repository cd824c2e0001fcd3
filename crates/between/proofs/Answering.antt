-- Laws of the queries that climb: what each answers, by how its climbs end.
use Rattle.std.specs.Prelude.{Result, Ok, Err}
use Prim.Native.Nat.{ℕ, ◌+◌, ◌-◌, ◌*◌, ◌≤◌, ◌<◌}
use mathlib.Core.Path.{◌≡◌, refl, sym, ap, ◌∙◌}
use mathlib.Core.Bool.{Bool, true, false}
use lib.Dec.{leb}
use borrow.Author.Tests.{le-leb, lt-leb}
use Rattle.tables.specs.Tables.{Six}
use Rattle.answers.specs.Choice.{pick}
use Rattle.climb.specs.Asked.{size_of}
use Rattle.climb.specs.Sound.{depth_in}
use Rattle.climb.specs.Inner.{ReachedOn}
use Rattle.climb.specs.Climbing.{Climbed, climb_to, ancestor_of}
use Rattle.queries.specs.Queries.{distance_in, deeper, lca_in, ancestor_in, jump_in}
use Rattle.between.specs.Inner.{candidate_of, climb_end, deeper_candidate}
use Rattle.between.specs.declared.lca.Candidate.{Candidate}
use Rattle.climb.specs.declared.places.Place.{Place}
use Rattle.climb.specs.declared.places.Climb.{Climb}
use Rattle.answers.specs.declared.answer.Refusal.{Refusal}
use Rattle.answers.specs.declared.answer.Refusal.TheVariants.{TooFar}
use Rattle.answers.specs.Answers.{Answer}
use Rattle.climb.proofs.Reaching.{reached_vertex, reached_bad}
use Rattle.climb.proofs.Climbs.{climb_bad}
use Rattle.climb.proofs.Handed.{lost_u}

module _ (n : ℕ) (t : Six) (u v : ℕ) where
  pub distance_lost : {e : Refusal} → Err e ≡ climb_to n t u v → Err e ≡ distance_in n t u v
  distance_lost f = rw (distance_in, sym f)

  -- du and dv are the depths that were read of u and v
  pub distance_met : {du dv : ℕ} → du ≡ depth_in t u → dv ≡ depth_in t v → {c : Climb} → Ok c ≡ climb_to n t u v → {w : Place} → w ≡ ancestor_of c
      → Ok (du + dv - 2 * w.depth) ≡ distance_in n t u v
  distance_met {du} {dv} is-du is-dv e {w} f =
      ap (λ (d : ℕ). Ok (d + dv - 2 * w.depth)) is-du
      ∙ (ap (λ (d : ℕ). Ok (depth_in t u + d - 2 * w.depth)) is-dv
      ∙ (ap (λ (a : Place). Ok (depth_in t u + depth_in t v - 2 * a.depth)) f ∙ rw (distance_in, sym e)))

-- The LCA: its candidates are the ends of the three climbs.

-- choosing between candidates is choosing between their places
deeper_candidate_lem : (a b : Place) → deeper_candidate (candidate_of a) (candidate_of b) ≡ candidate_of (deeper a b)
deeper_candidate_lem a b = chosen (leb a.depth b.depth)
  where
    chosen : (c : Bool) → pick c (candidate_of b) (candidate_of a) ≡ candidate_of (pick c b a)
    chosen true = refl
    chosen false = refl

-- what `lca` answers by the ends of its climbs
abbrev lca_by : Result Candidate Refusal → Result Candidate Refusal → Result Candidate Refusal → Answer
lca_by a b c =
    elim a [
      | Ok x ↦ elim b [
        | Ok y ↦ elim c [ Ok z ↦ Ok (deeper_candidate (deeper_candidate x y) z).vertex | Err e ↦ Err e ]
        | Err e ↦ Err e
      ]
      | Err e ↦ Err e
    ]

-- and by the climbs themselves, as it is defined
abbrev lca_of : Climbed → Climbed → Climbed → Answer
lca_of a b c =
    elim a [
      | Ok x ↦ elim b [
        | Ok y ↦ elim c [ Ok z ↦ Ok (deeper (deeper (ancestor_of x) (ancestor_of y)) (ancestor_of z)).vertex | Err e ↦ Err e ]
        | Err e ↦ Err e
      ]
      | Err e ↦ Err e
    ]

-- which is the same
lca-ends : (a b c : Climbed) → lca_by (climb_end a) (climb_end b) (climb_end c) ≡ lca_of a b c
lca-ends (Err e) b c = refl
lca-ends (Ok x) (Err e) c = refl
lca-ends (Ok x) (Ok y) (Err e) = refl
lca-ends (Ok x) (Ok y) (Ok z) =
    ap (λ (d : Candidate). Ok (deeper_candidate d (candidate_of (ancestor_of z))).vertex) (deeper_candidate_lem (ancestor_of x) (ancestor_of y))
    ∙ ap (λ (d : Candidate). Ok d.vertex) (deeper_candidate_lem (deeper (ancestor_of x) (ancestor_of y)) (ancestor_of z))

module _ (n : ℕ) (t : Six) (r u v : ℕ) where
  -- where the climb from x and y ends
  abbrev end : ℕ → ℕ → Result Candidate Refusal
  end x y = climb_end (climb_to n t x y)

  lca_by_lem : lca_by (end u v) (end r u) (end r v) ≡ lca_in n t r u v
  lca_by_lem = lca-ends (climb_to n t u v) (climb_to n t r u) (climb_to n t r v)

  pub lca_lost_1 : {e : Refusal} → Err e ≡ end u v → Err e ≡ lca_in n t r u v
  lca_lost_1 f = ap (λ (x : Result Candidate Refusal). lca_by x (end r u) (end r v)) f ∙ lca_by_lem

  module _ {a : Candidate} (uv : Ok a ≡ end u v) where
    lca_second : lca_by (Ok a) (end r u) (end r v) ≡ lca_in n t r u v
    lca_second = ap (λ (x : Result Candidate Refusal). lca_by x (end r u) (end r v)) uv ∙ lca_by_lem

    pub lca_lost_2 : {e : Refusal} → Err e ≡ end r u → Err e ≡ lca_in n t r u v
    lca_lost_2 f = ap (λ (x : Result Candidate Refusal). lca_by (Ok a) x (end r v)) f ∙ lca_second

    module _ {b : Candidate} (ru : Ok b ≡ end r u) where
      lca_third : lca_by (Ok a) (Ok b) (end r v) ≡ lca_in n t r u v
      lca_third = ap (λ (x : Result Candidate Refusal). lca_by (Ok a) x (end r v)) ru ∙ lca_second

      pub lca_lost_3 : {e : Refusal} → Err e ≡ end r v → Err e ≡ lca_in n t r u v
      lca_lost_3 f = ap (λ (x : Result Candidate Refusal). lca_by (Ok a) (Ok b) x) f ∙ lca_third

      -- d is the deeper of the first two, w the deeper of it and the third
      pub lca_met : {c d w : Candidate} → Ok c ≡ end r v → d ≡ deeper_candidate a b → w ≡ deeper_candidate d c → Ok w.vertex ≡ lca_in n t r u v
      lca_met {c} e f g =
          ap (λ (x : Candidate). Ok x.vertex) (g ∙ ap (λ (x : Candidate). deeper_candidate x c) f)
          ∙ (ap (λ (x : Result Candidate Refusal). lca_by (Ok a) (Ok b) x) e ∙ lca_third)

-- a climb that is refused ends in no candidate
pub end_lost : {e : Refusal} {x : Climbed} → Err e ≡ x → Err e ≡ climb_end x
end_lost f = ap climb_end f

-- where r was not reached, the second climb is refused if the first is not; each refusal of a climb is one for bad tables
pub lca_off_r : {t : Six} {r : ℕ} (u v : ℕ) {e : Refusal} → ReachedOn t r (Err e) → Err e ≡ lca_in (size_of t) t r u v
lca_off_r {t} {r} u v {e} off = first (climb_to (size_of t) t u v) refl
  where
    first : (x : Climbed) → climb_to (size_of t) t u v ≡ x → Err e ≡ lca_in (size_of t) t r u v
    first (Err d) f = ap Err (reached_bad off ∙ sym (climb_bad (size_of t) t u v f)) ∙ lca_lost_1 (size_of t) t r u v (ap climb_end (sym f))
    first (Ok c) f = lca_lost_2 (size_of t) t r u v (ap climb_end (sym f)) (ap climb_end (lost_u u off))

-- where u and v were reached, the climb from there ends where the climb from u and v does
pub ended_there : {t : Six} {u v : ℕ} {p q : Place} → ReachedOn t u (Ok p) → ReachedOn t v (Ok q) → {r : Result Candidate Refusal}
    → r ≡ climb_end (climb_to (size_of t) t p.vertex q.vertex) → r ≡ climb_end (climb_to (size_of t) t u v)
ended_there {t} {u} {v} {p} {q} f g e =
    e
    ∙ (ap (λ (k : ℕ). climb_end (climb_to (size_of t) t k q.vertex)) (reached_vertex f)
    ∙ ap (λ (k : ℕ). climb_end (climb_to (size_of t) t u k)) (reached_vertex g))

-- Jumps.

-- by way of an ancestor: `up` steps above u, and `all` steps from u to v
abbrev jump_by : ℕ → Six → ℕ → ℕ → (up all k : ℕ) → Answer
jump_by n t u v up all k = pick (leb k up) (ancestor_in n t u k) (pick (leb k all) (ancestor_in n t v (all - k)) (Err TooFar))

module _ (n : ℕ) (t : Six) (u v k : ℕ) where
  pub jump_lost : {e : Refusal} → Err e ≡ climb_to n t u v → Err e ≡ jump_in n t u v k
  jump_lost f = rw (jump_in, sym f)

  -- du and dv are the depths that were read of u and v
  module _ {du dv : ℕ} (is-du : du ≡ depth_in t u) (is-dv : dv ≡ depth_in t v) {c : Climb} (met : Ok c ≡ climb_to n t u v) {w : Place} (is : w ≡ ancestor_of c) where
    jump_met : jump_by n t u v (du - w.depth) (du - w.depth + (dv - w.depth)) k ≡ jump_in n t u v k
    jump_met =
        ap (λ (d : ℕ). jump_by n t u v (d - w.depth) (d - w.depth + (dv - w.depth)) k) is-du
        ∙ (ap (λ (d : ℕ). jump_by n t u v (depth_in t u - w.depth) (depth_in t u - w.depth + (d - w.depth)) k) is-dv
        ∙ (ap (λ (a : Place). jump_by n t u v (depth_in t u - a.depth) (depth_in t u - a.depth + (depth_in t v - a.depth)) k) is ∙ rw (jump_in, sym met)))

    -- on the way up
    pub jump_up : k ≤ du - w.depth → ancestor_in n t u k ≡ jump_in n t u v k
    jump_up h = rw (le-leb k (du - w.depth) h) at jump_met

    module _ (h : du - w.depth < k) where
      -- beyond v
      pub jump_far : du - w.depth + (dv - w.depth) < k → Err TooFar ≡ jump_in n t u v k
      jump_far g = rw (lt-leb k (du - w.depth) h, lt-leb k (du - w.depth + (dv - w.depth)) g) at jump_met

      -- on the way down
      pub jump_down : k ≤ du - w.depth + (dv - w.depth) → ancestor_in n t v (du - w.depth + (dv - w.depth) - k) ≡ jump_in n t u v k
      jump_down g = rw (lt-leb k (du - w.depth) h, le-leb k (du - w.depth + (dv - w.depth)) g) at jump_met

-- where u and v were reached, the jump from there is the jump from u to v
pub jump_there : {t : Six} {u v : ℕ} {p q : Place} (k : ℕ) → ReachedOn t u (Ok p) → ReachedOn t v (Ok q)
    → jump_in (size_of t) t p.vertex q.vertex k ≡ jump_in (size_of t) t u v k
jump_there {t} {u} {v} {p} {q} k f g =
    ap (λ (z : ℕ). jump_in (size_of t) t z q.vertex k) (reached_vertex f) ∙ ap (λ (z : ℕ). jump_in (size_of t) t u z k) (reached_vertex g)
