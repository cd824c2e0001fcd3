-- What the contract of `report` says: one report for each file, and its lines for a bad file, a refused tree and a good one.
use Prim.Native.Nat.{ℕ, ◌-◌, ◌≤◌, ◌<◌}
use native.Mathlib.Omega.{arith}
use native.Mathlib.Decide.{dec_le}
use mathlib.Core.Path.{◌≡◌, refl, sym, ap, ap₂, ◌∙◌}
use mathlib.Core.Logic.{by_cases, ◌↔◌}
use mathlib.Core.List.{List, [], ◌∷◌, ◌++◌, head-eq_of_cons-eq}
use lib.ListN.{length, drop, length-append}
use Rattle.sums.proofs.Sums.{equal_or_not}
use Rattle.answers.specs.Codes.{done}
use Rattle.graph.specs.Judgement.{First}
use Rattle.graph.specs.Lent.{vertices, list_of}
use Rattle.graph.proofs.Judging.{first_one}
use Rattle.tables.specs.Tables.{Six, TablesOf}
use Rattle.hld.proofs.Meaning.{tables-one}
use Rattle.treefile.specs.File.{TreeFile, Parsed, bad_file, file, parse_file}
use Rattle.treefile.specs.Report.{decimal, newline, fields, tree_word, tree_line, query_lines, bad_report, file_report, report}
use Rattle.paths.specs.Lists.{front}
use Rattle.treefile.specs.Inputs.{Holds}
use Rattle.treefile.proofs.Report.{tree_refused, tree_built}
use Rattle.treefile.proofs.Inputs.{holds_read, none_bad}
use Rattle.treereport.specs.Reports.{report_room, tree_tests, Judged, Written, Reports}
use Rattle.treereport.proofs.Files.{long_bad}
use Rattle.treereport.proofs.Telling.{refused-report, built-report}

-- two judgements of a file's tree give one text
judged-one : (f : TreeFile) {c₁ c₂ : ℕ} {t₁ t₂ : Six} → Judged f.tree c₁ t₁ → Judged f.tree c₂ t₂ → file_report c₁ t₁ f ≡ file_report c₂ t₂ f
judged-one f {c₁} {c₂} {t₁} {t₂} j₁ j₂ =
    let same : c₁ ≡ c₂ = first_one (tree_tests f.tree) j₁.first j₂.first in
    equal_or_not c₁ 0
    (λ z. ap₂ (λ (c : ℕ) (t : Six). file_report c t f) same (tables-one (j₁.built z) (j₂.built (sym same ∙ z))))
    (λ d. refused-report c₁ t₁ f d
    ∙ ap (λ (c : ℕ). tree_line c (length f.tree.offsets - 1) f.tree.root) same
    ∙ sym (refused-report c₂ t₂ f (λ z. d (same ∙ z))))

text-one : (p : Parsed) {out o₁ o₂ : List ℕ} {r₁ r₂ : ℕ} (a : Written p out o₁ r₁) (b : Written p out o₂ r₂)
    → report p a.code a.tables ≡ report p b.code b.tables
text-one bad_file a b = refl
text-one (file f) a b = judged-one f (a.judged f refl) (b.judged f refl)

-- two results allowed by the contract coincide
pub report-one : (bytes : List ℕ) {out o₁ o₂ : List ℕ} {r₁ r₂ : ℕ} → Reports bytes out o₁ r₁ → Reports bytes out o₂ r₂ → (o₁ ≡ o₂) × (r₁ ≡ r₂)
report-one bytes {out} a b =
    by_cases (dec_le report_room (length out))
    (λ h.
    let same = text-one (parse_file bytes) (a.whole h) (b.whole h) in (
      (a.whole h).bytes ∙ ap (λ (l : List ℕ). front l out) same ∙ sym (b.whole h).bytes,
      (a.whole h).count ∙ ap length same ∙ sym (b.whole h).count,
    ))
    (λ n.
    let x = a.short (omega arith) in
    let y = b.short (omega arith) in
    (x.0 ∙ sym y.0, x.1 ∙ sym y.1))

-- the count lies within the bytes that were lent
pub report_fits : (bytes : List ℕ) {out out' : List ℕ} {r : ℕ} → Reports bytes out out' r → r ≤ length out'
report_fits bytes {out} w =
    by_cases (dec_le report_room (length out))
    (λ h.
    let text : List ℕ = report (parse_file bytes) (w.whole h).code (w.whole h).tables in
    omega (arith, (w.whole h).count, ap length (w.whole h).bytes, length-append text (drop (length text) out)))
    (λ n. let x = (w.short (omega arith)).1 in omega arith)

-- out begins with the text now, and r is its length
abbrev pub Begins : (out out' : List ℕ) → ℕ → List ℕ → Type 0
Begins out out' r text = (out' ≡ front text out) × (r ≡ length text)

module _ (bytes : List ℕ) {out out' : List ℕ} {r : ℕ} (w : Reports bytes out out' r) (room : report_room ≤ length out) where
  as_text : (p : Parsed) (text : List ℕ) → parse_file bytes ≡ p → report p (w.whole room).code (w.whole room).tables ≡ text → Begins out out' r text
  as_text p text e is =
      let both = ap (λ (x : Parsed). report x (w.whole room).code (w.whole room).tables) e ∙ is in
      ((w.whole room).bytes ∙ ap (λ (l : List ℕ). front l out) both, (w.whole room).count ∙ ap length both)

  -- "BadFile, printed as `file 11` alone"
  pub report_bad : parse_file bytes ≡ bad_file → Begins out out' r bad_report
  report_bad e = as_text bad_file bad_report e refl

  -- and that exactly for the inputs that 01 names: those that hold no file
  pub report_eleven : Begins out out' r bad_report ↔ ((f : TreeFile) → Holds bytes f → ⊥)
  report_eleven = (
    λ b f h.
        let text : List ℕ = file_report (w.whole room).code (w.whole room).tables f in
        let other : out' ≡ front text out = (as_text (file f) text (holds_read bytes f h) refl).0 in
        let letters : ◌≡◌ {A = ℕ} 102 116 = head-eq_of_cons-eq (sym b.0 ∙ other) in
        absurd (omega arith),
    λ none. report_bad (none_bad bytes none),
  )

  -- more bytes than the largest file has are a bad file, whatever they are
  pub report_long : 6_668 < length bytes → Begins out out' r bad_report
  report_long h = report_bad (long_bad bytes h)

  module _ (f : TreeFile) (e : parse_file bytes ≡ file f) where
    as_judged : {c : ℕ} {t : Six} (text : List ℕ) → Judged f.tree c t → file_report c t f ≡ text → Begins out out' r text
    as_judged text j is = as_text (file f) text e (judged-one f ((w.whole room).judged f e) j ∙ is)

    -- "A refused tree prints `tree` and its code"
    pub report_refused : (c : ℕ) → (c ≡ done → ⊥) → First (tree_tests f.tree) c
        → Begins out out' r (tree_word ++ (decimal c ++ newline))
    report_refused c d first =
        let t : Six = (w.whole room).tables in
        let j : Judged f.tree c t = record { first = first; built = λ z. absurd (d z) } in
        as_judged (tree_word ++ (decimal c ++ newline)) j (refused-report c t f d ∙ tree_refused c (length f.tree.offsets - 1) f.tree.root d)

    -- "Else the first line is `tree`, code, n, root; then for each query" its line, with the answer that the calls give on the tree's tables
    pub report_built : (t : Six) → First (tree_tests f.tree) done
        → TablesOf (vertices f.tree.offsets) (list_of f.tree.offsets f.tree.targets) f.tree.root t
        → Begins out out' r ((tree_word ++ (fields (0 ∷ vertices f.tree.offsets ∷ f.tree.root ∷ []) ++ newline)) ++ query_lines t 1 f.queries)
    report_built t first tables =
        let n : ℕ = vertices f.tree.offsets in
        let j : Judged f.tree done t = record { first = first; built = λ z. tables } in
        as_judged ((tree_word ++ (fields (0 ∷ n ∷ f.tree.root ∷ []) ++ newline)) ++ query_lines t 1 f.queries) j
        (built-report done t f refl ∙ ap (λ (l : List ℕ). l ++ query_lines t 1 f.queries) (tree_built done n f.tree.root refl))
