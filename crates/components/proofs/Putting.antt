-- The loop over one vertex's list: entering what is left of it gives the whole.
use Prim.Native.Nat.{ℕ, ◌+◌, ◌≤◌, ◌<◌}
use native.Mathlib.Omega.{arith}
use native.Mathlib.Numerals.{add-one}
use mathlib.Core.Path.{◌≡◌, sym, ap, subst, ◌∙◌}
use mathlib.Core.Bool.{Bool, true}
use mathlib.Core.List.{List, [], ◌∷◌, map}
use lib.ListN.{length, drop, set, drop_of_length-le}
use lib.Seq.{sets, length-sets}
use Rattle.sums.specs.Sum.{at}
use Rattle.graph.specs.Lent.{list_of}
use Rattle.graph.specs.Work.{Only}
use Rattle.graph.proofs.Frames.{only_trans, only_set}
use Rattle.graph.proofs.Neighbours.{entry-below}
use Rattle.paths.specs.Lists.{keep}
use Rattle.centroid.specs.Regions.{queue_from, met_from, queue_at, level_of_at}
use Rattle.centroid.proofs.Adding.{rest_gone, rest_new}
use Rattle.components.specs.Entering.{leads, level_in, beyond, notes, EnterAsks, Entered, left, new, led_to, ListAsks, Put, ListAnswers}
use Rattle.components.proofs.Passing.{leads_same}

-- of the list `all`, to stand from place t on, what is left is to stand from place m on
pub record Putting (n c x d b t : ℕ) (all : List ℕ) (vs₀ ds₀ bs₀ w₀ : List ℕ) (rest : List ℕ) (vs ds bs w : List ℕ) (m : ℕ) : Type 0 where
  pub total : m + length rest ≡ t + length all
  pub vertices : sets vs m rest ≡ sets vs₀ t all
  pub distances : sets ds m (map (λ y. d) rest) ≡ sets ds₀ t (map (λ y. d) all)
  pub branches : sets bs m (map (beyond c x b) rest) ≡ sets bs₀ t (map (beyond c x b) all)
  pub backs : notes n x rest w ≡ notes n x all w₀
  pub only : Only (queue_from n) (met_from n) w₀ w

-- a list that gives the same when written over is as long
same_long : (l l₀ r r₀ : List ℕ) (m t : ℕ) → sets l m r ≡ sets l₀ t r₀ → length l ≡ length l₀
same_long l l₀ r r₀ m t e = sym (length-sets l m r) ∙ ap length e ∙ length-sets l₀ t r₀

module _ {n c x d b t : ℕ} {all vs₀ ds₀ bs₀ w₀ : List ℕ} where
  -- the lists and work are as long as before
  put_long : {rest vs ds bs w : List ℕ} {m : ℕ} → Putting n c x d b t all vs₀ ds₀ bs₀ w₀ rest vs ds bs w m
      → (length vs ≡ length vs₀) × (length ds ≡ length ds₀) × (length bs ≡ length bs₀) × (length w ≡ length w₀)
  put_long {rest} {vs} {ds} {bs} {m = m} P = (
    same_long vs vs₀ rest all m t P.vertices,
    same_long ds ds₀ (map (λ y. d) rest) (map (λ y. d) all) m t P.distances,
    same_long bs bs₀ (map (beyond c x b) rest) (map (beyond c x b) all) m t P.branches,
    P.only.same_length,
  )

  -- the next one is put
  put_one : {y : ℕ} {rest vs ds bs w : List ℕ} {m : ℕ} → y < n → Putting n c x d b t all vs₀ ds₀ bs₀ w₀ (y ∷ rest) vs ds bs w m
      → Putting n c x d b t all vs₀ ds₀ bs₀ w₀ rest (set vs m y) (set ds m d) (set bs m (beyond c x b y)) (set w (queue_at n y) x) (m + 1)
  put_one {y} {rest} {vs} {ds} {bs} {w} {m} hy P = record {
    total = (let e = P.total in omega arith);
    vertices = ap (λ (k : ℕ). sets (set vs m y) k rest) (add-one m) ∙ P.vertices;
    distances = ap (λ (k : ℕ). sets (set ds m d) k (map (λ y. d) rest)) (add-one m) ∙ P.distances;
    branches = ap (λ (k : ℕ). sets (set bs m (beyond c x b y)) k (map (beyond c x b) rest)) (add-one m) ∙ P.branches;
    backs = P.backs;
    only = only_trans P.only (only_set w (queue_at n y) x (omega arith) (omega arith));
  }

  -- all stand there
  put_all : {vs ds bs w : List ℕ} {m : ℕ} → Putting n c x d b t all vs₀ ds₀ bs₀ w₀ [] vs ds bs w m → Put n c x d b t all vs₀ ds₀ bs₀ w₀ vs ds bs w m
  put_all P = record {
    count = (let e = P.total in omega arith);
    vertices = P.vertices;
    distances = P.distances;
    branches = P.branches;
    backs = P.backs;
  }

-- of the list of the vertex at place i the first k entries were looked at, and m places are taken
abbrev pub Loop : (os ts : List ℕ) (n c i t : ℕ) (vs₀ ds₀ bs₀ w₀ vs ds bs w : List ℕ) (m k : ℕ) → Type 0
Loop os ts n c i t vs₀ ds₀ bs₀ w₀ vs ds bs w m k =
    Putting n c (at vs₀ i) (at ds₀ i + 1) (at bs₀ i) t (led_to os ts n c w₀ (at vs₀ i)) vs₀ ds₀ bs₀ w₀
    (keep (leads (level_in n w₀) c (at w₀ (queue_at n (at vs₀ i)))) (drop k (list_of os ts (at vs₀ i)))) vs ds bs w m

-- the loop at its start and after k entries
module _ {os ts : List ℕ} {n c i t : ℕ} {vs₀ ds₀ bs₀ w₀ : List ℕ} (a : ListAsks os ts n c i t vs₀ ds₀ bs₀ w₀) where
  module _ {vs ds bs w : List ℕ} (k : ℕ) {m : ℕ} (P : Loop os ts n c i t vs₀ ds₀ bs₀ w₀ vs ds bs w m k) where
    -- all were
    pub put-done : length (list_of os ts (at vs₀ i)) ≤ k → ListAnswers os ts n c i t vs₀ ds₀ bs₀ w₀ vs ds bs w m
    put-done h =
        put_all (subst (λ (r : List ℕ). Putting n c (at vs₀ i) (at ds₀ i + 1) (at bs₀ i) t (led_to os ts n c w₀ (at vs₀ i)) vs₀ ds₀ bs₀ w₀ r vs ds bs w m)
        (ap (keep (leads (level_in n w₀) c (at w₀ (queue_at n (at vs₀ i))))) (drop_of_length-le (list_of os ts (at vs₀ i)) h)) P)

    module _ (hk : k < length (list_of os ts (at vs₀ i))) where
      -- the next entry, and the test by the levels as the loop began
      abbrev y : ℕ
      y = at (list_of os ts (at vs₀ i)) k

      abbrev g : ℕ → Bool
      g = leads (level_in n w₀) c (at w₀ (queue_at n (at vs₀ i)))

      -- the next entry is a vertex
      next-below : y < n
      next-below =
          omega (arith, a.tree.size, entry-below os ts a.tree.offsets a.tree.targets (at vs₀ i) k (omega (arith, a.tree.size, a.vertex)) hk)

      -- the levels in work are as they were
      same_test : leads (level_in n w) c (at w₀ (queue_at n (at vs₀ i))) y ≡ g y
      same_test =
          let hy = next-below in
          leads_same (level_in n w₀) c (at w₀ (queue_at n (at vs₀ i))) y (level_in n w)
          (P.only.after (level_of_at n c) (omega (arith, a.centre))) (P.only.after (level_of_at n y) (omega arith))

      -- where the next one is entered there is room for it
      next_asks : EnterAsks n c (at vs₀ i) (at w₀ (queue_at n (at vs₀ i))) y m vs ds bs w
      next_asks =
          let more : g y ≡ true → m < t + length (led_to os ts n c w₀ (at vs₀ i))
          = λ q. omega (arith, ap length (rest_new g (list_of os ts (at vs₀ i)) k hk q), P.total) in
          record {
            small = a.tree.small;
            centre = a.centre;
            vertex = a.vertex;
            neighbour = next-below;
            room = omega (arith, a.room, put_long P);
            fits = λ q.
                (let r = more (sym same_test ∙ q) in
                (omega (arith, put_long P, a.vertex_room), omega (arith, put_long P, a.distance_room), omega (arith, put_long P, a.branch_room)));
          }

      -- what is left of the list, with the next entry or without it
      rest_are : {r : List ℕ} → keep g (drop k (list_of os ts (at vs₀ i))) ≡ r
          → Putting n c (at vs₀ i) (at ds₀ i + 1) (at bs₀ i) t (led_to os ts n c w₀ (at vs₀ i)) vs₀ ds₀ bs₀ w₀ r vs ds bs w m
      rest_are e = subst (λ (r : List ℕ). Putting n c (at vs₀ i) (at ds₀ i + 1) (at bs₀ i) t (led_to os ts n c w₀ (at vs₀ i)) vs₀ ds₀ bs₀ w₀ r vs ds bs w m) e P

      -- it was looked at
      next_put : {vs' ds' bs' w' : List ℕ} {r : ℕ}
          → Entered n c (at vs₀ i) (at w₀ (queue_at n (at vs₀ i))) (at ds₀ i + 1) (at bs₀ i) y m vs ds bs w vs' ds' bs' w' r
          → Loop os ts n c i t vs₀ ds₀ bs₀ w₀ vs' ds' bs' w' r (k + 1)
      next_put (left off p q s u z) = rw (p, q, s, u, z) (rest_are (rest_gone g (list_of os ts (at vs₀ i)) k hk (sym same_test ∙ off)))
      next_put (new on p q s u z) =
          rw (p, q, s, u, z) (put_one next-below (rest_are (rest_new g (list_of os ts (at vs₀ i)) k hk (sym same_test ∙ on))))

    -- the same over the list l as the code holds it
    module _ {l : List ℕ} (e : l ≡ list_of os ts (at vs₀ i)) (hk : k < length l) where
      pub put_asks : EnterAsks n c (at vs₀ i) (at w₀ (queue_at n (at vs₀ i))) (at l k) m vs ds bs w
      put_asks =
          subst (λ (z : List ℕ). k < length z → EnterAsks n c (at vs₀ i) (at w₀ (queue_at n (at vs₀ i))) (at z k) m vs ds bs w) (sym e) next_asks hk

      pub put_next : {vs' ds' bs' w' : List ℕ} {r : ℕ}
          → Entered n c (at vs₀ i) (at w₀ (queue_at n (at vs₀ i))) (at ds₀ i + 1) (at bs₀ i) (at l k) m vs ds bs w vs' ds' bs' w' r
          → Loop os ts n c i t vs₀ ds₀ bs₀ w₀ vs' ds' bs' w' r (k + 1)
      put_next {vs'} {ds'} {bs'} {w'} {r} =
          subst (λ (z : List ℕ). k < length z
          → Entered n c (at vs₀ i) (at w₀ (queue_at n (at vs₀ i))) (at ds₀ i + 1) (at bs₀ i) (at z k) m vs ds bs w vs' ds' bs' w' r
          → Loop os ts n c i t vs₀ ds₀ bs₀ w₀ vs' ds' bs' w' r (k + 1)) (sym e) (λ h. next_put h) hk
