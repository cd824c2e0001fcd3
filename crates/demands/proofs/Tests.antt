-- The codes of queries, of ranges and of range room are those of the first test that is not passed.
use Rattle.std.specs.Prelude.{Ok, Err}
use Prim.Native.Nat.{ℕ, zero, suc, ◌-◌, ◌+◌, ◌*◌, ◌≤◌}
use native.Mathlib.Omega.{arith}
use mathlib.Core.Path.{◌≡◌, refl, sym, ◌∙◌, subst}
use mathlib.Core.Logic.{inl, inr, ◌≢◌}
use mathlib.Core.Bool.{Bool, true, false, true≢false}
use mathlib.Core.List.{List, [], ◌∷◌}
use lib.Dec.{eqb, leb, ltb}
use lib.ListN.{length}
use borrow.Author.Tests.{ltb-true, lt-ltb, leb-true, leb-false, le-leb, eqb-true, eq-eqb}
use Rattle.paths.specs.Walk.{Below}
use Rattle.sums.specs.Sum.{at}
use Rattle.numbering.specs.Log.{log2}
use Rattle.answers.specs.Limits.{max_vertices, no_parent}
use Rattle.answers.specs.Codes.{bad_size, no_room, bad_vertex, bad_table}
use Rattle.answers.specs.Choice.{pick, both}
use Rattle.answers.specs.Asked.{sized?, vertices?, asked_of}
use Rattle.answers.specs.Answers.{answer_code, interval_code, listed_code, Answer, Interval, Listed}
use Rattle.answers.specs.declared.answer.Refusal.{Refusal}
use Rattle.answers.specs.declared.answer.Refusal.TheVariants.{BadSize, NoRoom, BadVertex, BadTable, TooFar}
use Rattle.answers.proofs.Choices.{both_true, all_in, in_all}
use Rattle.answers.proofs.Passed.{sizes}
use Rattle.graph.specs.Judgement.{Test, test, First}
use Rattle.tables.specs.Tables.{Six}
use Rattle.climb.specs.Asked.{size_of, others_of, asked}
use Rattle.climb.specs.Sound.{depth_in, id_in, sound?, Stood, On, Unsound, stand_on}
use Rattle.climb.specs.Climbing.{Climbed, climb_to, ancestor_of}
use Rattle.climb.proofs.Climbs.{climb_bad}
use Rattle.climb.specs.declared.places.Place.{Place}
use Rattle.climb.specs.declared.places.Climb.{Climb}
use Rattle.queries.specs.Queries.{entry_at, size_sound?, deeper, ancestor_from, ancestor_in, distance_in, lca_in, jump_in, without_child, re_rooted_size, vertex_count, root_of, depth_of, vertex_id, subtree_range, kth_ancestor, subtree_size, distance, lca, jump}
use Rattle.ranges.specs.Calls.{Answered, refused, listed, ranges_of, range_room, from_found}
use Rattle.ranges.specs.Ranges.{Found, lost, found, path_ranges}
use Rattle.ranges.specs.declared.kinds.Kind.{Kind}
use Rattle.ranges.specs.declared.kinds.PathRange.{PathRange}
use Rattle.centroid.specs.Reads.{read_of}
use Rattle.demands.specs.Tests.{Lengths, asking, answering, Queried, QueriedTwo, QueriedEnds, RangesAsked}

-- The tests 1 and 4 as they are computed, and what they say.

-- the tests of limits and lengths pass exactly if n is within its limits and every table has n entries
pub sized_lengths : (n : ℕ) (ls : List ℕ) → sized? n ls ≡ true → Lengths n ls
sized_lengths n ls e =
    let s = sizes n ls e in
    record { some = s.some; few = s.few; same = λ l h. eqb-true l n (all_in (λ x. eqb x n) l ls s.same h) }

pub lengths_sized : (n : ℕ) (ls : List ℕ) → Lengths n ls → sized? n ls ≡ true
lengths_sized n ls p =
    rw (le-leb 1 n p.some, le-leb n max_vertices p.few) (in_all (λ x. eqb x n) ls (λ l h. eq-eqb l n (p.same l h)))

vertices-below : (n : ℕ) (vs : List ℕ) → vertices? n vs ≡ true → Below n vs
vertices-below n [] e = tt
vertices-below n (v ∷ vs) e = let b = both_true (ltb v n) (vertices? n vs) e in (ltb-true v n b.0, vertices-below n vs b.1)

below-vertices : (n : ℕ) (vs : List ℕ) → Below n vs → vertices? n vs ≡ true
below-vertices n [] p = refl
below-vertices n (v ∷ vs) p = rw (lt-ltb v n p.0) (below-vertices n vs p.1)

-- A call that is asked: 1, then 4, then what is its own. `code` gives the number of each of its answers.
module _ {X : Type 0} (code : X → ℕ) (f : Refusal → X) (size : code (f BadSize) ≡ bad_size) (vertex : code (f BadVertex) ≡ bad_vertex) (own : X → List Test)
    (n : ℕ) (ls vs : List ℕ) (x : X) (fits : First (own x) (code x)) where
  from_tests : (b c : Bool) → sized? n ls ≡ b → vertices? n vs ≡ c
      → let a = pick b (pick c x (f BadVertex)) (f BadSize) in First (asking n ls vs (own a)) (code a)
  from_tests false c e g = inl (λ p. true≢false (sym (lengths_sized n ls p) ∙ e), size)
  from_tests true false e g = inr (sized_lengths n ls e, inl (λ p. true≢false (sym (below-vertices n vs p) ∙ g), vertex))
  from_tests true true e g = inr (sized_lengths n ls e, inr (vertices-below n vs g, fits))

  pub asked_first : let a = asked_of n ls vs f x in First (asking n ls vs (own a)) (code a)
  asked_first = from_tests (sized? n ls) (vertices? n vs) refl refl

-- What a query answers once it is asked: a value, 10 or 9.

data Own : Answer → Type 0 where
  is : (x : ℕ) → Own (Ok x)
  far : Own (Err TooFar)
  bad : Own (Err BadTable)

own_first : (a : Answer) → Own a → First (answering a) (answer_code a)
own_first a (is x) =
    inr (λ e. absurd (cc), inr (λ e. absurd (cc), refl))
own_first a far = inr (λ e. absurd (cc), inl (λ h. h refl, refl))
own_first a bad = inl (λ h. h refl, refl)

own-pick : (b : Bool) {x y : Answer} → Own x → Own y → Own (pick b x y)
own-pick true p q = p
own-pick false p q = q

own-climb : (n : ℕ) (t : Six) (u v : ℕ) (f : Climb → Answer) → ((c : Climb) → Own (f c)) → Own (elim (climb_to n t u v) [ Ok c ↦ f c | Err e ↦ Err e ])
own-climb n t u v f h = told (climb_to n t u v) refl
  where
    told : (r : Climbed) → climb_to n t u v ≡ r → Own (elim r [ Ok c ↦ f c | Err e ↦ Err e ])
    told (Ok c) e = h c
    told (Err x) e = subst (λ (y : Refusal). Own (Err y)) (sym (climb_bad n t u v e)) bad

own_stood : (s : Stood) (f : Place → Answer) → ((p : Place) → Own (f p)) → Own (elim s [ On p ↦ f p | Unsound ↦ Err BadTable ])
own_stood (On p) f h = h p
own_stood Unsound f h = bad

own_entry : (n : ℕ) (t : Six) (i d : ℕ) → Own (entry_at n t i d)
own_entry n t i d =
    let x = at t.order i in
    own-pick (both (ltb x n) (both (eqb (id_in t x) i) (eqb (depth_in t x) d))) (is x) bad

own-from : (chains n : ℕ) (t : Six) (p : Place) (k : ℕ) → Own (ancestor_from chains n t p k)
unfolding ancestor_from
own-from zero n t p k =
    own-pick (leb k (p.depth - p.top)) (own_entry n t (p.id - k) (p.depth - k)) (own-pick (eqb p.up no_parent) far bad)
own-from (suc chains) n t p k =
    own-pick (leb k (p.depth - p.top)) (own_entry n t (p.id - k) (p.depth - k))
    (own-pick (eqb p.up no_parent) far
    (own_stood (stand_on n t p.up) (λ r. ancestor_from chains n t r (k - (p.depth - p.top + 1)))
    (λ r. own-from chains n t r (k - (p.depth - p.top + 1)))))

own_ancestor : (n : ℕ) (t : Six) (v k : ℕ) → Own (ancestor_in n t v k)
own_ancestor n t v k = own_stood (stand_on n t v) (λ p. ancestor_from (log2 n) n t p k) (λ p. own-from (log2 n) n t p k)

own-lca : (n : ℕ) (t : Six) (r u v : ℕ) → Own (lca_in n t r u v)
own-lca n t r u v =
    own-climb n t u v _
    (λ a. own-climb n t r u _
    (λ b. own-climb n t r v _ (λ c. is (deeper (deeper (ancestor_of a) (ancestor_of b)) (ancestor_of c)).vertex)))

own-jump : (n : ℕ) (t : Six) (u v k : ℕ) → Own (jump_in n t u v k)
own-jump n t u v k =
    own-climb n t u v _
    (λ c.
    let up = depth_in t u - (ancestor_of c).depth in
    let down = depth_in t v - (ancestor_of c).depth in
    own-pick (leb k up) (own_ancestor n t u k) (own-pick (leb k (up + down)) (own_ancestor n t v (up + down - k)) far))

own-without : (n : ℕ) (t : Six) (a : Answer) → Own a → Own (without_child n t a)
own-without n t a (is y) = own-pick (size_sound? n t y) (is (n - at t.size y)) bad
own-without n t a far = far
own-without n t a bad = bad

own_size : (n : ℕ) (t : Six) (r v : ℕ) → Own (re_rooted_size n t r v)
own_size n t r v =
    let child = ancestor_in n t r (depth_in t r - depth_in t v - 1) in
    own-pick (size_sound? n t v)
    (own-pick (both (leb (id_in t v) (id_in t r)) (ltb (id_in t r) (id_in t v + at t.size v)))
    (own-pick (ltb (depth_in t v) (depth_in t r)) (own-without n t child (own_ancestor n t r (depth_in t r - depth_in t v - 1))) bad)
    (is (at t.size v)))
    bad

-- Each query.

module _ (t : Six) where
  queried : (vs : List ℕ) (x : Answer) → Own x → Queried t vs (asked t vs Err x)
  queried vs x p = asked_first answer_code Err refl refl answering (size_of t) (others_of t) vs x (own_first x p)

  pub vertex-count_code : Queried t [] (vertex_count t)
  vertex-count_code = queried [] (Ok (size_of t)) (is (size_of t))

  pub root_code : Queried t [] (root_of t)
  root_code =
      let x = at t.order 0 in
      queried [] (pick (both (ltb x (size_of t)) (sound? (size_of t) t x)) (Ok x) (Err BadTable))
      (own-pick (both (ltb x (size_of t)) (sound? (size_of t) t x)) (is x) bad)

  -- a number that is read of a sound vertex
  read_code : (v x : ℕ) → Queried t (v ∷ []) (asked t (v ∷ []) Err (pick (sound? (size_of t) t v) (Ok x) (Err BadTable)))
  read_code v x = queried (v ∷ []) (pick (sound? (size_of t) t v) (Ok x) (Err BadTable)) (own-pick (sound? (size_of t) t v) (is x) bad)

  pub depth_code : (v : ℕ) → Queried t (v ∷ []) (depth_of t v)
  depth_code v = read_code v (depth_in t v)

  pub vertex_id_code : (v : ℕ) → Queried t (v ∷ []) (vertex_id t v)
  vertex_id_code v = read_code v (id_in t v)

  pub distance_code : (u v : ℕ) → Queried t (u ∷ v ∷ []) (distance t u v)
  distance_code u v =
      queried (u ∷ v ∷ []) (distance_in (size_of t) t u v)
      (own-climb (size_of t) t u v _ (λ c. is (depth_in t u + depth_in t v - 2 * (ancestor_of c).depth)))

  pub lca_code : (r u v : ℕ) → Queried t (r ∷ u ∷ v ∷ []) (lca t r u v)
  lca_code r u v = queried (r ∷ u ∷ v ∷ []) (lca_in (size_of t) t r u v) (own-lca (size_of t) t r u v)

  pub kth_ancestor_code : (v k : ℕ) → Queried t (v ∷ []) (kth_ancestor t v k)
  kth_ancestor_code v k = queried (v ∷ []) (ancestor_in (size_of t) t v k) (own_ancestor (size_of t) t v k)

  pub jump_code : (u v k : ℕ) → Queried t (u ∷ v ∷ []) (jump t u v k)
  jump_code u v k = queried (u ∷ v ∷ []) (jump_in (size_of t) t u v k) (own-jump (size_of t) t u v k)

  pub subtree_size_code : (r v : ℕ) → Queried t (r ∷ v ∷ []) (subtree_size t r v)
  subtree_size_code r v =
      let n = size_of t in
      queried (r ∷ v ∷ []) (pick (both (sound? n t r) (sound? n t v)) (pick (eqb r v) (Ok n) (re_rooted_size n t r v)) (Err BadTable))
      (own-pick (both (sound? n t r) (sound? n t v)) (own-pick (eqb r v) (is n) (own_size n t r v)) bad)

  ends_first : (b : Bool) (x y : ℕ) → let i : Interval = pick b (Ok (x, y)) (Err BadTable) in First (test bad_table (i ≢ Err BadTable) ∷ []) (interval_code i)
  ends_first true x y = inr (λ e. absurd (cc), refl)
  ends_first false x y = inl (λ h. h refl, refl)

  pub subtree-range_code : (v : ℕ) → QueriedEnds t (v ∷ []) (subtree_range t v)
  subtree-range_code v =
      let n = size_of t in
      let b = both (sound? n t v) (size_sound? n t v) in
      asked_first interval_code Err refl refl (λ i. test bad_table (i ≢ Err BadTable) ∷ []) n (others_of t) (v ∷ [])
      (pick b (Ok (id_in t v, id_in t v + at t.size v)) (Err BadTable)) (ends_first b (id_in t v) (id_in t v + at t.size v))

-- a read of a decomposition
pub read-two_code : (table other : List ℕ) (v : ℕ) → QueriedTwo table other v (read_of table other v)
read-two_code table other v =
    asked_first answer_code Err refl refl answering (length table) (length other ∷ []) (v ∷ []) (Ok (at table v)) (own_first (Ok (at table v)) (is (at table v)))

-- range room
pub range_room_code : (n : ℕ) → First (test bad_size (Lengths n []) ∷ []) (answer_code (range_room n))
range_room_code n = told (both (leb 1 n) (leb n max_vertices)) refl
  where
    told : (b : Bool) → both (leb 1 n) (leb n max_vertices) ≡ b → First (test bad_size (Lengths n []) ∷ []) (answer_code (pick b (Ok (2 * log2 n + 1)) (Err BadSize)))
    told true e =
        let h = both_true (leb 1 n) (leb n max_vertices) e in
        inr (record { some = leb-true 1 n h.0; few = leb-true n max_vertices h.1; same = λ l i. absurd i }, refl)
    told false e = inl (λ p. true≢false (sym (rw (le-leb 1 n p.some) (le-leb n max_vertices p.few)) ∙ e), refl)

-- The calls for ranges: k ranges take `need k` entries of the list.

module _ (need : ℕ → ℕ) (room : ℕ) where
  -- the answer of a call for a list with so much room
  abbrev pub answer_for : Answered → Listed
  answer_for (refused x) = Err x
  answer_for (listed l) = pick (leb (need (length l)) room) (Ok (length l)) (Err NoRoom)

  abbrev range_tests : Answered → List Test
  range_tests a = test bad_table (a ≢ refused BadTable) ∷ test no_room ((l : List PathRange) → a ≡ listed l → need (length l) ≤ room) ∷ []

  listed_first : (l : List PathRange) → First (range_tests (listed l)) (listed_code (answer_for (listed l)))
  listed_first l = told (leb (need (length l)) room) refl
    where
      told : (b : Bool) → leb (need (length l)) room ≡ b → First (range_tests (listed l)) (listed_code (pick b (Ok (length l)) (Err NoRoom)))
      told true e = inr (λ h. absurd (cc), inr (λ m h. (let z : m ≡ l = cc in rw z (leb-true (need (length l)) room e)), refl))
      told false e =
          inr (λ h. absurd (cc), inl (λ h. (let a : need (length l) ≤ room = h l refl in let b = leb-false (need (length l)) room e in omega arith), refl))

  found_first : (f : Found) → First (range_tests (from_found f)) (listed_code (answer_for (from_found f)))
  found_first lost = inl (λ h. h refl, refl)
  found_first (found l) = listed_first l

  pub ranges_code : (kind : Kind) (t : Six) (u v : ℕ) → RangesAsked t (u ∷ v ∷ []) (ranges_of kind t u v) need room (listed_code (answer_for (ranges_of kind t u v)))
  unfolding ranges_of
  ranges_code kind t u v =
      let f = path_ranges kind (size_of t) t u v in
      asked_first (λ a. listed_code (answer_for a)) refused refl refl range_tests (size_of t) (others_of t) (u ∷ v ∷ []) (from_found f) (found_first f)
