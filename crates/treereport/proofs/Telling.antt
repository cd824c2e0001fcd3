-- Laws of the report of a well-formed file: its lines in their places, and that they fit.
use Prim.Native.Nat.{ℕ, ◌+◌, ◌-◌, ◌≤◌}
use native.Mathlib.Omega.{arith}
use mathlib.Core.Path.{◌≡◌, refl, sym, ap, ◌∙◌, subst}
use mathlib.Core.Bool.{Bool, true, false}
use mathlib.Core.List.{List, [], ◌++◌, append-nil}
use lib.ListN.{length, drop}
use lib.Seq.{sets-eq}
use borrow.Author.Tests.{eq-eqb, ne_eqb}
use Rattle.std.specs.Prelude.{Result, Ok, Err, is_err}
use Rattle.answers.specs.Answers.{code_of}
use Rattle.answers.specs.declared.answer.Refusal.{Refusal}
use Rattle.graph.specs.Lent.{vertices}
use Rattle.graph.proofs.Judging.{refused_code as never_done}
use Rattle.tables.specs.Tables.{Six}
use Rattle.hld.specs.Build.{Builds}
use Rattle.answers.specs.Choice.{pick}
use Rattle.treefile.specs.File.{TreeFile, file, max_queries}
use Rattle.treefile.specs.Report.{tree_line, query_lines, file_report}
use Rattle.treefile.specs.Flat.{ShortLists}
use Rattle.treefile.specs.Sizes.{file_ranges, range_digits, report_size}
use Rattle.paths.specs.Lists.{front}
use Rattle.treefile.specs.declared.page.Page.{Page}
use Rattle.treefile.specs.Writing.{Room, Puts, Prints}
use Rattle.treefile.proofs.Writing.{prints_then, prints_as, room_then}
use Rattle.treefile.proofs.Report.{tree_line_room, report_room_lem}
use Rattle.querylines.specs.Lines.{LinesAsk}
use Rattle.treereport.specs.Reports.{report_room, Judged, Written}
use Rattle.treereport.specs.Filing.{FileAsks, TreeAsks, Filed}
use Rattle.treereport.proofs.Building.{short_lists, few_vertices, judged}

-- the line of the tree
abbrev line_of : ℕ → TreeFile → List ℕ
line_of code f = tree_line code (length f.tree.offsets - 1) f.tree.root

-- the report of a refused tree is its line, that of another has the lines of the queries behind it
pub refused-report : (code : ℕ) (t : Six) (f : TreeFile) → (code ≡ 0 → ⊥)
    → file_report code t f ≡ tree_line code (length f.tree.offsets - 1) f.tree.root
refused-report code t f ne = ap (λ (b : Bool). line_of code f ++ pick b (query_lines t 1 f.queries) []) (ne_eqb code 0 ne) ∙ append-nil (line_of code f)

pub built-report : (code : ℕ) (t : Six) (f : TreeFile) → code ≡ 0
    → file_report code t f ≡ tree_line code (length f.tree.offsets - 1) f.tree.root ++ query_lines t 1 f.queries
built-report code t f e = ap (λ (b : Bool). line_of code f ++ pick b (query_lines t 1 f.queries) []) (eq-eqb code 0 e)

-- a refusal has a code of its own, and what is answered has 0
pub refused_code : (r : Result Unit Refusal) → true ≡ is_err r → code_of r ≡ 0 → ⊥
refused_code (Ok x) e z = cc
refused_code (Err r) e z = never_done r z

pub answered_code : (r : Result Unit Refusal) → false ≡ is_err r → code_of r ≡ 0
answered_code (Ok x) e = refl
answered_code (Err r) e = cc

-- the largest report fits
room_enough : report_size range_digits file_ranges max_queries ≤ report_room
unfolding max_queries report_room
room_enough = omega arith

-- the line of a tree fits
pub line_room : {f : TreeFile} {page : Page} → FileAsks f page → (code n root : ℕ) → Room (tree_line code n root) page
unfolding report_room
line_room a code n root = record { fits = omega (arith, tree_line_room code n root, a.room) }

module _ {f : TreeFile} {t t' : Six} {w w' : List ℕ} {page page' : Page} {c : ℕ} (a : TreeAsks f t page) (long : 10_240 ≤ length w) (b : Builds f.tree.offsets f.tree.targets f.tree.root t w t' w' c) (p : Prints (tree_line c (vertices f.tree.offsets) f.tree.root) page page') where
  pub told_refused : (c ≡ 0 → ⊥) → Filed f page page'
  unfolding report_room
  told_refused ne =
      record {
        code = c;
        tables = t';
        judged = judged f a long b;
        text = prints_as (sym (refused-report c t' f ne)) p;
        fits = omega (arith, p.puts.next, tree_line_room c (vertices f.tree.offsets) f.tree.root, a.file.room);
      }

  short : c ≡ 0 → ShortLists t'
  short e = short_lists (b.written e) (few_vertices a.file)

  whole_room : c ≡ 0 → Room (tree_line c (vertices f.tree.offsets) f.tree.root ++ query_lines t' 1 f.queries) page
  unfolding report_room
  whole_room e =
      let m = ap length (built-report c t' f e) in
      let most = report_room_lem c t' f (short e) a.file.few_queries in
      record { fits = omega (arith, room_enough, a.file.room) }

  -- behind the line of the tree there is room for the queries
  pub lines_ask : c ≡ 0 → LinesAsk t' f.queries page'
  lines_ask e = record { short = short e; room = room_then p (whole_room e) }

  pub told_built : {page'' : Page} → c ≡ 0 → Prints (query_lines t' 1 f.queries) page' page'' → Filed f page page''
  told_built e q =
      let both = prints_then p q in
      record {
        code = c;
        tables = t';
        judged = judged f a long b;
        text = prints_as (sym (built-report c t' f e)) both;
        fits = omega (arith, both.puts.next, (whole_room e).fits);
      }

same_file : {f g : TreeFile} → file f ≡ file g → f ≡ g
same_file e = cc

-- a text that fits, put at index 0, stands at the front
pub front_puts : (text : List ℕ) {out out' : List ℕ} {r : ℕ} → Puts text 0 out out' r → r ≤ length out → (out' ≡ front text out) × (r ≡ length text)
front_puts text {out} {out'} {r} p fits =
    let z : 0 + length text ≡ length text = omega arith in
    (p.bytes ∙ sets-eq text out 0 (omega (arith, p.next)) ∙ ap (λ (k : ℕ). text ++ drop k out) z, p.next ∙ z)

-- at the front of the page it is the whole report
pub written : {f : TreeFile} {page page' : Page} → page.at ≡ 0 → Filed f page page' → Written (file f) page.out.now page'.out.now page'.at
written {f} {page} {page'} z w =
    let text : List ℕ = file_report w.code w.tables f in
    let puts = subst (λ (k : ℕ). Puts text k page.out.now page'.out.now page'.at) z w.text.puts in
    record {
      code = w.code;
      tables = w.tables;
      judged = λ g e. subst (λ (x : TreeFile). Judged x.tree w.code w.tables) (same_file e) w.judged;
      bytes = (front_puts text puts w.fits).0;
      count = (front_puts text puts w.fits).1;
      fits = w.fits;
    }
