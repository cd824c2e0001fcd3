-- On the tables of a numbering, the calls for ranges answer what the climb finds.
use Prim.Native.Nat.{ℕ, ◌<◌}
use native.Mathlib.Omega.{arith}
use mathlib.Core.Path.{◌≡◌, sym, ap, ◌∙◌}
use mathlib.Core.Logic.{◌≢◌, ⊎_elim}
use mathlib.Core.List.{List, [], ◌∷◌}
use Rattle.paths.specs.Walk.{Stands, Simple}
use Rattle.answers.specs.declared.answer.Refusal.TheVariants.{BadVertex, BadTable}
use Rattle.tables.specs.Tables.{Six}
use Rattle.pathlaws.specs.Given.{Given}
use Rattle.climb.specs.Asked.{size_of}
use Rattle.pathlaws.proofs.Standing.{answered, asked_or_refused}
use Rattle.ranges.specs.Ranges.{found, path_ranges}
use Rattle.ranges.specs.Calls.{refused, listed, from_found, ranges_of}
use Rattle.ranges.specs.declared.kinds.PathRange.{PathRange}
use Rattle.ranges.specs.declared.kinds.Kind.{Kind}
use Rattle.ranges.proofs.Few.{answer_found}
use Rattle.readings.proofs.Found.{ranges_found}
use Rattle.readings.proofs.SimpleReadings.{simple_last}

module _ {n root : ℕ} {A : ℕ → List ℕ} {t : Six} {kids : ℕ → List ℕ} (G : Given n A root t kids) where
  -- what is asked between two vertices is what the climb finds
  asked_found : (kind : Kind) {u v : ℕ} → u < n → v < n → ranges_of kind t u v ≡ from_found (path_ranges kind n t u v)
  unfolding ranges_of
  asked_found kind {u} {v} hu hv = answered G (u ∷ v ∷ []) refused (λ m. from_found (path_ranges kind m t u v)) (hu, (hv, tt))

  -- ranges that are answered were found
  pub ranges_of_lem : (kind : Kind) {u v : ℕ} → u < n → v < n → {l : List PathRange} → ranges_of kind t u v ≡ listed l → path_ranges kind n t u v ≡ found l
  ranges_of_lem kind {u} {v} hu hv {l} e = answer_found (path_ranges kind n t u v) l (sym (asked_found kind hu hv) ∙ e)

  -- ranges that are found are answered
  pub ranges_there : (kind : Kind) {u v : ℕ} → u < n → v < n → (l : List PathRange) × (ranges_of kind t u v ≡ listed l)
  ranges_there kind hu hv = let f = ranges_found G kind hu hv in (f.0, asked_found kind hu hv ∙ ap from_found f.1)

  -- those of a simple path, as they are answered and as they are found
  pub ranges_along_lem :
      (kind : Kind) {u v : ℕ} {P : List ℕ} → Simple n (Stands A) u v P
      → (l : List PathRange) × (ranges_of kind t u v ≡ listed l) × (path_ranges kind n t u v ≡ found l)
  ranges_along_lem kind s =
      let hu = s.below.0 in
      let hv = simple_last s in
      let f = ranges_there kind hu hv in
      (f.0, f.1, ranges_of_lem kind hu hv f.1)

  -- whatever is asked for, 9 is not answered
  pub ranges_no_nine : (kind : Kind) (u v : ℕ) → ranges_of kind t u v ≢ refused BadTable
  unfolding ranges_of
  ranges_no_nine kind u v e =
      ⊎_elim
      (λ b.
      let f = ranges_there kind b.0 b.1.0 in
      let z : listed f.0 ≡ refused BadTable = sym f.1 ∙ e in
      let c : ◌≡◌ {A = ℕ} 0 1 = cc in
      absurd (omega arith))
      (λ a.
      let z : refused BadVertex ≡ refused BadTable = sym a ∙ e in
      let c : ◌≡◌ {A = ℕ} 0 1 = cc in
      absurd (omega arith))
      (asked_or_refused G (u ∷ v ∷ []) refused (from_found (path_ranges kind (size_of t) t u v)))
