-- The levels found in work, where work is taken apart for the search and the levels by vertex.
use Prim.Native.Nat.{ℕ, ◌+◌, ◌-◌}
use native.Mathlib.Omega.{arith}
use mathlib.Core.Path.{◌≡◌, ap, ◌∙◌, subst}
use mathlib.Core.List.{List, ◌++◌}
use lib.ListN.{length, drop, length-append, length-drop, get_or-append}
use lib.Seq.{get_or-drop}
use Rattle.std.proofs.lemmas.List.{get_or-append_right}
use Rattle.sums.specs.Sum.{at}
use Rattle.centroid.specs.Decomposition.{DecompositionOf}
use Rattle.centroid.specs.Regions.{regions_end, level_of_at}
use Rattle.centroid.specs.Parting.{Decomposed}
use Rattle.components.specs.Levels.{FindAsks, LevelsFound}
use Rattle.components.proofs.Held.{levels_same}

-- work is s', the levels l', and what was behind them
pub found : {os ts : List ℕ} {n : ℕ} {w r s s' l' t : List ℕ} → FindAsks os ts n w → r ≡ drop (regions_end n) w
    → length s' ≡ regions_end n → length l' ≡ n → Decomposed os ts n t l' s s' → LevelsFound os ts n w (s' ++ (l' ++ drop n r))
found {n = n} {w = w} {r = r} {s' = s'} {l' = l'} a er es el d =
    let rest : List ℕ = l' ++ drop n r in
    let long : length (s' ++ rest) ≡ length w
    = omega (arith, length-append s' rest, length-append l' (drop n r), length-drop n r, ap length er, length-drop (regions_end n) w, a.room) in
    record {
      up = d.up;
      decomposition = subst (DecompositionOf n _ d.up)
          (levels_same n (s' ++ rest) l' (omega (arith, long, a.room)) el (λ v h.
          get_or-append_right s' rest (regions_end n) (level_of_at n v) 0 es (omega arith)
          ∙ get_or-append l' (drop n r) 0 (level_of_at n v - regions_end n) (omega arith)
          ∙ ap (at l') (omega arith)))
          d.tables;
      only = record {
        same_length = long;
        before = λ i h. absurd (omega arith);
        after = λ i h.
            get_or-append_right s' rest (regions_end n) i 0 es (omega arith)
            ∙ get_or-append_right l' (drop n r) n (i - regions_end n) 0 el (omega arith)
            ∙ get_or-drop n r (i - regions_end n - n) 0
            ∙ ap (λ (x : List ℕ). at x (n + (i - regions_end n - n))) er
            ∙ get_or-drop (regions_end n) w (n + (i - regions_end n - n)) 0
            ∙ ap (at w) (omega arith);
      };
    }
