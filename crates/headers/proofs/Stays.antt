-- A header that is told before the file's end stays as it is whatever follows, and none is waited for at the end. Assumes nothing.
use mathlib.Core.Path.{◌≡◌, refl, sym, ◌∙◌}
use mathlib.Core.Bool.{Bool, true, false, false≢true}
use mathlib.Core.List.{List, [], ◌∷◌, ◌++◌}
use Prim.Native.Nat.{◌+◌, ℕ, ◌-◌, ◌≤◌, ◌<◌}
use native.Mathlib.Omega.{arith}
use borrow.Author.Tests.{le-leb, le-ltb, ltb-false, leb-true, leb-false}
use lib.Dec.{eqb, leb, ltb}
use lib.ListN.{length, get_or, take, drop, length-append, length-drop}
use lib.Seq.{take-append-le, drop-append-le}
use Rattle.chars.specs.Pick.{pick}
use Rattle.chars.proofs.Cases.{by-test, of_test}
use Rattle.csv_rows.specs.declared.RowRead.{RowRead}
use Rattle.csv_rows.specs.declared.RowRead.TheVariants.{Row, Faulty, Endless, More, Nothing}
use Rattle.csv_rows.specs.declared.Separator.{Separator}
use Rattle.csv_rows.specs.declared.Separator.TheVariants.{Comma, Semicolon, Tab}
use Rattle.csv_rows.specs.Reader.{byte_of, Place}
use Rattle.csv_rows.specs.Answers.{answer, line_of, InOrder}
use Rattle.csv_rows.specs.Answers.InOrder.{then_cell}
use Rattle.csv_rows.specs.Bytes.{utf8_end}
use Rattle.csv_rows.specs.Texts.{own_bytes}
use Rattle.csv_rows.proofs.Stable.{stays}
use Rattle.csv_rows.proofs.Moves.{row-advances, more-short, cells-inside}
use Rattle.headers.specs.declared.Unusable.{Unusable}
use Rattle.headers.specs.declared.Columns.{Columns}
use Rattle.std.specs.Prelude.{Option, Some, None}
use Rattle.headers.specs.declared.Header.{Header}
use Rattle.headers.specs.declared.Header.TheVariants.{Wait, Without, With}
use Rattle.headers.specs.Columns.{checked, chosen, columns_of, twice}
use Rattle.headers.specs.Header.{header, header_behind, header_by, header_in, header_row, mark_len, names_by, names_in, on_names, own_of, row_cells, with_cells, with_row}
use Rattle.headers.proofs.Moves.{mark-in}

-- the own bytes of cells within a block are there whatever follows it
own-append : (s t : List ℕ) (c : Place) → c.start ≤ c.stop → c.stop ≤ length s → own_bytes (s ++ t) c ≡ own_bytes s c
unfolding own_bytes
own-append s t c h k =
    let d = length-drop c.start s in
    rw (drop-append-le c.start s t (omega arith), take-append-le (c.stop - c.start) (drop c.start s) t (omega arith))

cells-append : (s t : List ℕ) {low : ℕ} (cs : List Place) → InOrder low (length s) cs → own_of (s ++ t) cs ≡ own_of s cs
unfolding own_of
cells-append s t {low = low} [] i = refl
cells-append s t {low = low} (c ∷ cs) (then_cell p q r i) = rw (own-append s t c q r, cells-append s t {low = c.stop + 1} cs i)

-- the cells of a row that is answered
pub cells_stay : (sep : Separator) (s : List ℕ) → (answer (byte_of sep) false s ≡ More → ⊥) → (last : Bool) (t : List ℕ) → row_cells sep last (s ++ t) ≡ row_cells sep false s
unfolding row_cells
cells_stay sep s n last t = rw (stays (byte_of sep) s n last t).same_line (cells-append s t (line_of (byte_of sep) false s).cells (cells-inside (byte_of sep) false s))

-- the names by a separator
names_more : (sep : Separator) (s : List ℕ) → answer (byte_of sep) false s ≡ More → names_by sep false s ≡ None
unfolding names_by names_in
names_more sep s e = rw e

names-stay : (sep : Separator) (s : List ℕ) (last : Bool) (t : List ℕ) → (names_by sep false s ≡ None → ⊥) → names_by sep last (s ++ t) ≡ names_by sep false s
unfolding names_by
names-stay sep s last t h =
    let n : answer (byte_of sep) false s ≡ More → ⊥ = λ e. h (names_more sep s e) in
    rw ((stays (byte_of sep) s n last t).same_answer, cells_stay sep s n last t)

-- the header by a separator
module _ (n : ℕ) (sep : Separator) (s : List ℕ) where
  by_more : answer (byte_of sep) false s ≡ More → header_by n sep false s ≡ Wait
  unfolding header_by header_in
  by_more e = rw e

  in-stays : (t : List ℕ) (r : RowRead) (cs : List (List ℕ)) → answer (byte_of sep) false s ≡ r → header_in n sep (s ++ t) r cs ≡ header_in n sep s r cs
  unfolding header_in with_row
  in-stays t (Row end count) cs e = let a = row-advances (byte_of sep) false s e in rw (take-append-le end s t a.1)
  in-stays t (Faulty end f) cs e = refl
  in-stays t (Endless f) cs e = refl
  in-stays t More cs e = refl
  in-stays t Nothing cs e = refl

  by-stays : (last : Bool) (t : List ℕ) → (header_by n sep false s ≡ Wait → ⊥) → header_by n sep last (s ++ t) ≡ header_by n sep false s
  unfolding header_by
  by-stays last t h =
      let m : answer (byte_of sep) false s ≡ More → ⊥ = λ e. h (by_more e) in
      rw ((stays (byte_of sep) s m last t).same_answer, cells_stay sep s m last t) (in-stays t (answer (byte_of sep) false s) (row_cells sep false s) refl)

many-told : {k : ℕ} → Some k ≡ None → ⊥
many-told e = let z : ◌≡◌ {A = ℕ} 0 1 = cc in omega arith

names-on : (m m' : Option ℕ) (go go' : ℕ → Header) → ((m ≡ None → ⊥) → m' ≡ m) → ((k : ℕ) → (go k ≡ Wait → ⊥) → go' k ≡ go k)
    → (on_names m go ≡ Wait → ⊥) → on_names m' go' ≡ on_names m go
unfolding on_names
names-on (Some k) m' go go' f g h = rw (f many-told) (g k h)
names-on None m' go go' f g h = absurd (h refl)

row_stays : (n : ℕ) (s : List ℕ) (last : Bool) (t : List ℕ) → (header_row n false s ≡ Wait → ⊥) → header_row n last (s ++ t) ≡ header_row n false s
unfolding header_row
row_stays n s last t h =
    names-on (names_by Comma false s) (names_by Comma last (s ++ t)) _ _ (names-stay Comma s last t)
    (λ comma. names-on (names_by Semicolon false s) (names_by Semicolon last (s ++ t)) _ _ (names-stay Semicolon s last t)
    (λ semicolon. names-on (names_by Tab false s) (names_by Tab last (s ++ t)) _ _ (names-stay Tab s last t)
    (λ tab. by-stays n (chosen comma semicolon tab) s last t)))
    h

-- the byte order mark is that of the first three bytes
mark-stays : (s t : List ℕ) → 3 ≤ length s → mark_len (s ++ t) ≡ mark_len s
unfolding mark_len pick
mark-stays [] t h = absurd (omega arith)
mark-stays (a ∷ []) t h = absurd (omega arith)
mark-stays (a ∷ b ∷ []) t h = absurd (omega arith)
mark-stays (a ∷ b ∷ c ∷ s) t h =
    let l = length-append (a ∷ b ∷ c ∷ s) t in
    rw (le-leb 3 (length (a ∷ b ∷ c ∷ s ++ t)) (omega arith), le-leb 3 (length (a ∷ b ∷ c ∷ s)) h)

behind-stays : (s : List ℕ) (last : Bool) (t : List ℕ) → 3 ≤ length s → (header_behind false s ≡ Wait → ⊥) → header_behind last (s ++ t) ≡ header_behind false s
unfolding header_behind
behind-stays s last t l h =
    rw (mark-stays s t l, drop-append-le (mark_len s) s t (mark-in s)) (row_stays (mark_len s) (drop (mark_len s) s) last t h)

header-full : (last : Bool) (s : List ℕ) → 3 ≤ length s → header last s ≡ header_behind last s
unfolding header pick
header-full true s h = refl
header-full false s h = rw (le-ltb (length s) 3 h)

header-short : (s : List ℕ) → ltb (length s) 3 ≡ true → header false s ≡ Wait
unfolding header pick
header-short s h = rw h

-- a header other than `Wait` is the header whatever follows, and wherever the file ends
pub header-stays : (s : List ℕ) → (header false s ≡ Wait → ⊥) → (last : Bool) (t : List ℕ) → header last (s ++ t) ≡ header false s
header-stays s n last t =
    of_test (ltb (length s) 3) (λ q. absurd (n (header-short s q)))
    (λ q.
    let h = ltb-false (length s) 3 q in
    let a = length-append s t in
    let e = header-full false s h in
    header-full last (s ++ t) (omega arith) ∙ behind-stays s last t h (λ z. n (e ∙ z)) ∙ sym e)

-- at the file's end
none-waits : {why : Unusable} → Without why ≡ Wait → ⊥
none-waits e = let z : ◌≡◌ {A = ℕ} 0 1 = cc in omega arith

some-waits : {bytes cells : ℕ} {sep : Separator} {c : Columns} → With bytes sep c cells ≡ Wait → ⊥
some-waits e = let z : ◌≡◌ {A = ℕ} 0 1 = cc in omega arith

abbrev Told : Header → Type 0
Told h = h ≡ Wait → ⊥

cells_told : (n : ℕ) (sep : Separator) (end count : ℕ) (cs : List (List ℕ)) → Told (with_cells n sep end count cs)
unfolding with_cells
cells_told n sep end count cs = by-test Told (twice cs) (λ _. none-waits) (λ _. by-test Told (eqb (checked (columns_of cs)) 0) (λ _. none-waits) (λ _. some-waits))

in_told : (n : ℕ) (sep : Separator) (s : List ℕ) (r : RowRead) (cs : List (List ℕ)) → (r ≡ More → ⊥) → Told (header_in n sep s r cs)
unfolding header_in with_row
in_told n sep s (Row end count) cs h = by-test Told (ltb (utf8_end (take end s)) end) (λ _. none-waits) (λ _. cells_told n sep end count cs)
in_told n sep s (Faulty end f) cs h = none-waits
in_told n sep s (Endless f) cs h = none-waits
in_told n sep s More cs h = absurd (h refl)
in_told n sep s Nothing cs h = none-waits

no_more : (sep : ℕ) (s : List ℕ) → answer sep true s ≡ More → ⊥
no_more sep s e = false≢true (sym (more-short sep true s e).0)

names-in-told : (r : RowRead) (cs : List (List ℕ)) → (r ≡ More → ⊥) → names_in r cs ≡ None → ⊥
unfolding names_in
names-in-told (Row end count) cs h = many-told
names-in-told (Faulty end f) cs h = many-told
names-in-told (Endless f) cs h = many-told
names-in-told More cs h = absurd (h refl)
names-in-told Nothing cs h = many-told

names-told : (sep : Separator) (last : Bool) (s : List ℕ) → (answer (byte_of sep) last s ≡ More → ⊥) → names_by sep last s ≡ None → ⊥
unfolding names_by
names-told sep last s = names-in-told (answer (byte_of sep) last s) (row_cells sep last s)

on-told : (m : Option ℕ) (go : ℕ → Header) → (m ≡ None → ⊥) → ((k : ℕ) → Told (go k)) → Told (on_names m go)
unfolding on_names
on-told (Some k) go h g = g k
on-told None go h g = absurd (h refl)

-- a header is told where by each separator a row is
row_told : (n : ℕ) (last : Bool) (s : List ℕ) → ((sep : ℕ) → answer sep last s ≡ More → ⊥) → Told (header_row n last s)
unfolding header_row header_by
row_told n last s m =
    on-told (names_by Comma last s) _ (names-told Comma last s (m (byte_of Comma)))
    (λ comma. on-told (names_by Semicolon last s) _ (names-told Semicolon last s (m (byte_of Semicolon)))
    (λ semicolon. on-told (names_by Tab last s) _ (names-told Tab last s (m (byte_of Tab)))
    (λ tab.
    let sep = chosen comma semicolon tab in
    in_told n sep s (answer (byte_of sep) last s) (row_cells sep last s) (m (byte_of sep)))))

-- no header is waited for at the file's end
pub header-decides : (s : List ℕ) → header true s ≡ Wait → ⊥
unfolding header header_behind pick
header-decides s = row_told (mark_len s) true (drop (mark_len s) s) (λ sep. no_more sep (drop (mark_len s) s))

-- nor of a block that is longer than a row behind a byte order mark
mark-most : (s : List ℕ) → mark_len s ≤ 3
unfolding mark_len
mark-most s =
    by-test Few (leb 3 (length s))
    (λ _. by-test Few (eqb (get_or s 0 0) 0xEF) (λ _. by-test Few (eqb (get_or s 1 0) 0xBB) (λ _. by-test Few (eqb (get_or s 2 0) 0xBF) (λ _. omega arith) (λ _. omega arith)) (λ _. omega arith)) (λ _. omega arith))
    (λ _. omega arith)
  where
    Few : ℕ → Type 0
    Few n = n ≤ 3

long-told : (s : List ℕ) → 65539 < length s → header false s ≡ Wait → ⊥
unfolding header_behind
long-told s h e =
    let rest = drop (mark_len s) s in
    let m = mark-most s in
    let l = length-drop (mark_len s) s in
    row_told (mark_len s) false rest (λ sep q. let k = (more-short sep false rest q).1 in omega arith) (sym (header-full false s (omega arith)) ∙ e)

-- so one is waited for only before the file's end, and of a short block
pub header-waits : (last : Bool) (s : List ℕ) → header last s ≡ Wait → (last ≡ false) × (length s ≤ 65539)
header-waits true s e = absurd (header-decides s e)
header-waits false s e = (refl, of_test (leb (length s) 65539) (λ q. leb-true (length s) 65539 q) (λ q. absurd (long-told s (leb-false (length s) 65539 q) e)))
