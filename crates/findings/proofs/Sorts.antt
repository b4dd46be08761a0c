-- Cut at line feeds and at tabs, a text of findings has each of them as a line, whose fifth field is its sort. Assumes nothing.
use mathlib.Core.Path.{◌≡◌, refl}
use mathlib.Core.Bool.{Bool, true, false}
use mathlib.Core.List.{List, [], ◌∷◌, ◌++◌, append_assoc}
use Prim.Native.Nat.{ℕ, ◌+◌}
use native.Mathlib.Omega.{arith}
use borrow.Author.Tests.{eq-eqb}
use lib.Dec.{eqb}
use Rattle.chars.specs.Pick.{pick}
use Rattle.chars.specs.Ascii.{ascii}
use Rattle.chars.proofs.Cases.{of_test}
use Rattle.puts.specs.Numbers.{decimal}
use Rattle.verdicts.specs.declared.Verdict.{Verdict}
use Rattle.headers.specs.declared.RowFault.{RowFault}
use Rattle.findings.specs.declared.Column.{Column}
use Rattle.findings.specs.Escapes.{escaped, quoted}
use Rattle.findings.specs.Words.{is_said, sort, message, row_words}
use Rattle.findings.specs.Lines.{finding, verdict_line, column_name, date_line, six_text, six_line, bad_row_line, summary}
use Rattle.findings.specs.Sorts.{before_parts, cut_at, line_sort, is_same, count_sort, lines_of_sort}
use Rattle.findings.proofs.Shape.{occurs, occurs-append, visible, Seen, seen_none, none, decimal-seen, escaped-seen, quoted-seen, sort-seen, message-seen, row_seen, column-seen, six-seen, summary-untabbed}
use Rattle.findings.proofs.Shape.Seen.{seen}

-- a text without a byte has no other at its front
other-first : (b x : ℕ) (s : List ℕ) → occurs b (x ∷ s) ≡ 0 → (eqb x b ≡ false) × (occurs b s ≡ 0)
unfolding occurs pick
other-first b x s e = of_test (eqb x b) (λ q. let f : 1 + occurs b s ≡ 0 = rw q at e in absurd (omega arith)) (λ q. let f : 0 + occurs b s ≡ 0 = rw q at e in (q, omega arith))

-- a text is cut behind the first part of it
pub cut-first : (b : ℕ) (s rest : List ℕ) → occurs b s ≡ 0 → cut_at b (s ++ (b ∷ rest)) ≡ s ∷ cut_at b rest
unfolding cut_at before_parts
cut-first b [] rest e = rw (eq-eqb b b refl)
cut-first b (x ∷ s) rest e = let p = other-first b x s e in rw (p.0, cut-first b s rest p.1)

-- where the byte does not stand it is not cut
pub cut-none : (b : ℕ) (s : List ℕ) → occurs b s ≡ 0 → cut_at b s ≡ s ∷ []
unfolding cut_at before_parts
cut-none b [] e = refl
cut-none b (x ∷ s) e = let p = other-first b x s e in rw (p.0, cut-none b s p.1)

-- a text is one line, of this sort
pub record OfSort (kind t : List ℕ) : Type 0 where
  -- the line
  pub line : List ℕ
  -- a line feed stands behind it
  pub is : t ≡ line ++ (10 ∷ [])
  -- and none in it
  pub unbroken : occurs 10 line ≡ 0
  -- its fifth field
  pub sort_is : line_sort line ≡ kind

-- it counts for its own sort
pub sort-counts : {kind t : List ℕ} → OfSort kind t → (k rest : List ℕ) → lines_of_sort k (t ++ rest) ≡ pick (is_same k kind) 1 0 + lines_of_sort k rest
unfolding lines_of_sort count_sort
sort-counts o k rest = rw (o.is, append_assoc o.line (10 ∷ []) rest, cut-first 10 o.line rest o.unbroken, o.sort_is)

pub sort-feeds : {kind t : List ℕ} → OfSort kind t → occurs 10 t ≡ 1
unfolding occurs pick
sort-feeds o = let l = occurs-append 10 o.line (10 ∷ []) in let h = o.unbroken in rw o.is (omega arith)

-- ---- lines

-- a finding whose fields are seen
module _ (line : ℕ) (key column text kind words : List ℕ) (sc : Seen column) (st : Seen text) (sk : Seen kind) (sw : Seen words) where
  finding-sort : OfSort kind (finding line key column text kind words)
  unfolding finding line_sort occurs pick
  finding-sort =
      record {
        line = decimal 1 line ++ (9 ∷ (escaped key ++ (9 ∷ (column ++ (9 ∷ (text ++ (9 ∷ (kind ++ (9 ∷ words)))))))));
        is = simp append_assoc;
        unbroken =
            let a = seen_none 10 (omega arith) (decimal-seen 1 line) in
            let b = seen_none 10 (omega arith) (escaped-seen key) in
            let c = seen_none 10 (omega arith) sc in
            let d = seen_none 10 (omega arith) st in
            let e = seen_none 10 (omega arith) sk in
            let f = seen_none 10 (omega arith) sw in
            simp occurs-append (omega arith);
        sort_is =
            rw (
              cut-first 9 (decimal 1 line) _ (seen_none 9 (omega arith) (decimal-seen 1 line)),
              cut-first 9 (escaped key) _ (seen_none 9 (omega arith) (escaped-seen key)),
              cut-first 9 column _ (seen_none 9 (omega arith) sc),
              cut-first 9 text _ (seen_none 9 (omega arith) st),
              cut-first 9 kind words (seen_none 9 (omega arith) sk),
            );
      }

verdict-sort : (line : ℕ) (key column text : List ℕ) (v : Verdict) (windowed : Bool) → Seen column → Seen text → is_said v ≡ true → OfSort (sort v) (verdict_line line key column text v windowed)
unfolding verdict_line pick
verdict-sort line key column text v windowed sc st e =
    rw e (finding-sort line key column text (sort v) (message v windowed) sc st (sort-seen v) (message-seen v windowed))

-- what is said of a date in one cell is a line of its verdict's sort
pub date-sort : (line : ℕ) (key : List ℕ) (column : Column) (cell : List ℕ) (v : Verdict) (windowed : Bool) → is_said v ≡ true → OfSort (sort v) (date_line line key column cell v windowed)
unfolding date_line
date-sort line key column cell v windowed e =
    verdict-sort line key (column_name column) (quoted cell) v windowed (column-seen column) (quoted-seen cell) e

-- of one in six cells
pub six-sort : (line : ℕ) (key year month day end_year end_month end_day : List ℕ) (v : Verdict) → is_said v ≡ true → OfSort (sort v) (six_line line key year month day end_year end_month end_day v)
unfolding six_line visible
six-sort line key year month day end_year end_month end_day v e =
    verdict-sort line key (ascii "year") (six_text year month day end_year end_month end_day) v false (seen refl) (six-seen year month day end_year end_month end_day) e

-- of a row that can not be used
pub bad-row-sort : (line : ℕ) (fault : RowFault) → OfSort (ascii "bad row") (bad_row_line line fault)
unfolding bad_row_line visible
bad-row-sort line fault = finding-sort line [] [] [] (ascii "bad row") (row_words fault) none none (seen refl) (row_seen fault)

-- ---- the lines at the end

-- no tab stands in these lines
data Untabbed : List (List ℕ) → Type 0 where
  no_line : Untabbed []
  and : {line : List ℕ} {lines : List (List ℕ)} → occurs 9 line ≡ 0 → Untabbed lines → Untabbed (line ∷ lines)

before-untabbed : (b : Bool) (x : ℕ) {lines : List (List ℕ)} → eqb x 9 ≡ false → Untabbed lines → Untabbed (before_parts b x lines)
unfolding before_parts occurs pick
before-untabbed true x e u = and refl u
before-untabbed false x e no_line = no_line
before-untabbed false x e (and {line} h u) = and {line = x ∷ line} (rw e (omega (arith, h))) u

cut-untabbed : (b : ℕ) (s : List ℕ) → occurs 9 s ≡ 0 → Untabbed (cut_at b s)
unfolding cut_at occurs
cut-untabbed b [] e = and refl no_line
cut-untabbed b (x ∷ s) e = let p = other-first 9 x s e in before-untabbed (eqb x b) x p.0 (cut-untabbed b s p.1)

untabbed-none : (kind : List ℕ) {lines : List (List ℕ)} → is_same kind [] ≡ false → Untabbed lines → count_sort kind lines ≡ 0
unfolding count_sort line_sort pick
untabbed-none kind e no_line = refl
untabbed-none kind e (and {line} h u) = rw (cut-none 9 line h, e) (omega (arith, untabbed-none kind e u))

-- the lines at the end have no sort
pub summary-sorts : (kind : List ℕ) → is_same kind [] ≡ false → (rows strict otherwise refused bad : ℕ) → lines_of_sort kind (summary rows strict otherwise refused bad) ≡ 0
unfolding lines_of_sort
summary-sorts kind e rows strict otherwise refused bad =
    untabbed-none kind e (cut-untabbed 10 (summary rows strict otherwise refused bad) (summary-untabbed rows strict otherwise refused bad))
