-- Laws of a file's bytes: the parts that `parse` copied are the file's own, and what `report` leaves in each case.
use Prim.Native.Nat.{ℕ, ◌+◌, ◌≤◌, ◌<◌}
use native.Mathlib.Omega.{arith}
use mathlib.Core.Path.{◌≡◌, refl, sym, ap, ◌∙◌, subst}
use mathlib.Core.List.{List, []}
use lib.ListN.{length, take, drop, length-append}
use lib.Seq.{take_at}
use Rattle.std.specs.Prelude.{Option, None, Some}
use Rattle.paths.specs.Lists.{front}
use Rattle.tables.specs.Tables.{Six, six}
use Rattle.treefile.specs.declared.page.Page.{Page}
use Rattle.treefile.specs.declared.parse.Shape.{Shape}
use Rattle.treefile.specs.declared.query.Query.{Query}
use Rattle.treefile.specs.File.{TreeFile, narrow, Parsed, bad_file, file, parse_file, max_offsets, max_file_targets, max_queries}
use Rattle.treefile.specs.Report.{bad_report}
use Rattle.treefile.specs.Parsing.{shape_of, offsets_of, targets_of, queries_of, Buffers, Parses}
use Rattle.treefile.specs.Writing.{Puts, Prints}
use Rattle.treefile.proofs.FileNumbers.{numbers-length}
use Rattle.treefile.proofs.Inputs.{file_read, file_numbers-length}
use Rattle.treefile.proofs.Trees.{clash}
use Rattle.treereport.specs.Reports.{report_room, Written, Reports}
use Rattle.treereport.specs.Filing.{FileAsks, Filed}
use Rattle.treereport.proofs.Telling.{front_puts, written}

-- a part that was put in front is there
there : {A : Type 0} (s lent : List A) {l : List A} {k : ℕ} → k ≡ length s → l ≡ front s lent → k ≤ length l
there s lent e is = let n = ap length is ∙ length-append s (drop (length s) lent) in omega arith

abbrev file_from : List ℕ → List ℕ → ℕ → List Query → TreeFile
file_from os ts root qs = record { tree = record { offsets = os; targets = ts; root = root }; queries = qs }

same_parts : (os ts : List ℕ) (root : ℕ) (qs : List Query) {os' ts' : List ℕ} {root' : ℕ} {qs' : List Query} → os ≡ os' → ts ≡ ts' → root ≡ root' → qs ≡ qs'
    → file (file_from os ts root qs) ≡ file (file_from os' ts' root' qs')
same_parts os ts root qs a b c d = cc

-- the front of what was copied is the part itself
front_taken : {A : Type 0} (s lent : List A) {l : List A} {k : ℕ} → k ≡ length s → l ≡ front s lent → take k l ≡ s
front_taken s lent {l} {k} e is = ap (take k) is ∙ take_at s (drop (length s) lent) k (sym e)

-- the parts of the buffers that a shape names are there, and are the file's
pub record Back (p : Parsed) (r : Shape) (os ts : List ℕ) (qs : List Query) : Type 0 where
  pub offsets : r.offsets ≤ length os
  pub targets : r.targets ≤ length ts
  pub queries : r.queries ≤ length qs
  pub same : p ≡ file (file_from (take r.offsets os) (take r.targets ts) r.root (take r.queries qs))

back : (p : Parsed) (r : Shape) (os ts : List ℕ) (qs : List Query) {os' ts' : List ℕ} {qs' : List Query} → Some r ≡ shape_of p
    → os' ≡ front (offsets_of p) os → ts' ≡ front (targets_of p) ts → qs' ≡ front (queries_of p) qs → Back p r os' ts' qs'
back bad_file r os ts qs e eo et eq = clash cc
back (file f) r os ts qs {os'} {ts'} {qs'} e eo et eq =
    let is : r ≡ record { offsets = length f.tree.offsets; targets = length f.tree.targets; root = f.tree.root; queries = length f.queries } = cc in
    let o = ap (λ (x : Shape). x.offsets) is in
    let t = ap (λ (x : Shape). x.targets) is in
    let q = ap (λ (x : Shape). x.queries) is in
    record {
      offsets = there f.tree.offsets os o eo;
      targets = there f.tree.targets ts t et;
      queries = there f.queries qs q eq;
      same =
          sym (same_parts (take r.offsets os') (take r.targets ts') r.root (take r.queries qs')
          (front_taken f.tree.offsets os o eo)
          (front_taken f.tree.targets ts t et)
          (ap (λ (x : Shape). x.root) is)
          (front_taken f.queries qs q eq));
    }

-- the program's own buffers hold any well-formed file
pub own_buffers : (os ts : List ℕ) (qs : List Query) → length os ≡ 1_025 → length ts ≡ 2_048 → length qs ≡ 64 → Buffers os ts qs
unfolding max_offsets max_file_targets max_queries
own_buffers os ts qs eo et eq = record { offsets = omega arith; targets = omega arith; queries = omega arith }

module _ {bytes os ts : List ℕ} {qs : List Query} {os' ts' : List ℕ} {qs' : List Query} {s : Option Shape} {r : Shape} (p : Parses narrow bytes os ts qs os' ts' qs' s) (is : s ≡ Some r) where
  pub read_back : Back (parse_file bytes) r os' ts' qs'
  read_back = back (parse_file bytes) r os ts qs (sym is ∙ p.shape) p.offsets p.targets p.queries

  -- a page that holds every report holds this one's
  pub file_asks : {page : Page} → page.at + report_room ≤ length page.out.now
      → FileAsks (file_from (take r.offsets os') (take r.targets ts') r.root (take r.queries qs')) page
  file_asks room =
      let f = file_read narrow bytes _ read_back.same in
      record { few_offsets = f.few_offsets; few_targets = f.few_targets; few_queries = f.few_queries; room = room }

  -- the report of the parts is that of the bytes
  pub reports_file : {page page' : Page} {out' : List ℕ} → page.at ≡ 0 → report_room ≤ length page.out.now
      → Filed (file_from (take r.offsets os') (take r.targets ts') r.root (take r.queries qs')) page page'
      → out' ≡ page'.out.now → Reports bytes page.out.now out' page'.at
  reports_file {page} {page'} z room w e =
      let back : Written (parse_file bytes) page.out.now page'.out.now page'.at =
      subst (λ (x : Parsed). Written x page.out.now page'.out.now page'.at) (sym read_back.same) (written z w) in
      record {
        whole = λ h. subst (λ (o : List ℕ). Written (parse_file bytes) page.out.now o page'.at) (sym e) back;
        short = λ h. absurd (omega arith);
      }

-- too short a list of bytes is left alone
pub reports_short : (bytes out : List ℕ) → length out < report_room → Reports bytes out out 0
reports_short bytes out h = record { whole = λ g. absurd (omega arith); short = λ g. (refl, refl) }

no_tables : Six
no_tables = six [] [] [] [] [] []

bad-written : {out out' : List ℕ} {n : ℕ} → report_room ≤ length out → Puts bad_report 0 out out' n → Written bad_file out out' n
unfolding report_room
bad-written {out} {out'} {n} room w =
    let fits : n ≤ length out = omega (arith, w.next) in
    record {
      code = 0;
      tables = no_tables;
      judged = λ f e. clash cc;
      bytes = (front_puts bad_report w fits).0;
      count = (front_puts bad_report w fits).1;
      fits = fits;
    }

no_shape : (p : Parsed) → None ≡ shape_of p → bad_file ≡ p
no_shape bad_file e = refl
no_shape (file f) e = clash cc

-- a bad file's report is `file 11`
pub reports_bad : (bytes : List ℕ) {page page' : Page} {out' : List ℕ} → page.at ≡ 0 → None ≡ shape_of (parse_file bytes) → report_room ≤ length page.out.now
    → Prints bad_report page page' → out' ≡ page'.out.now → Reports bytes page.out.now out' page'.at
reports_bad bytes {page} {page'} z none room w e =
    let text = subst (λ (k : ℕ). Puts bad_report k page.out.now page'.out.now page'.at) z w.puts in
    let bad : Written (parse_file bytes) page.out.now page'.out.now page'.at =
    subst (λ (p : Parsed). Written p page.out.now page'.out.now page'.at) (no_shape (parse_file bytes) none) (bad-written room text) in
    record {
      whole = λ h. subst (λ (o : List ℕ). Written (parse_file bytes) page.out.now o page'.at) (sym e) bad;
      short = λ h. absurd (omega arith);
    }

-- no well-formed file has more than 6,668 bytes
pub long_bad : (bytes : List ℕ) → 6_668 < length bytes → parse_file bytes ≡ bad_file
unfolding max_offsets max_file_targets max_queries
long_bad bytes h = go (parse_file bytes) refl
  where
    go : (p : Parsed) → parse_file bytes ≡ p → p ≡ bad_file
    go bad_file e = refl
    go (file f) e =
        let r = file_read narrow bytes f e in
        let n = ap length r.sections in
        absurd (omega (arith, r.whole, r.few_offsets, r.few_targets, r.few_queries, numbers-length narrow bytes, file_numbers-length f))
