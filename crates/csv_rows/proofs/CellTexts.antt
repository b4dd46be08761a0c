-- The texts that the grammar gives to cells are those that are copied; a text has at most one row at its front. Assumes nothing.
use mathlib.Core.Path.{◌≡◌, refl, sym, ap, ◌∙◌}
use mathlib.Core.Bool.{true, false}
use mathlib.Core.List.{List, [], ◌∷◌, ◌++◌, append_assoc}
use Prim.Native.Nat.{ℕ, ◌+◌, ◌-◌}
use native.Mathlib.Omega.{arith}
use lib.Dec.{eqb}
use lib.ListN.{length, take, drop, length-append}
use lib.Seq.{take-append_seam, drop-append_seam}
use Rattle.chars.specs.Pick.{pick}
use Rattle.csv_rows.specs.declared.Separator.{Separator}
use Rattle.csv_rows.specs.Reader.{byte_of, Place, Line, line}
use Rattle.csv_rows.specs.Texts.{undoubled, own_bytes, text_of, texts_of}
use Rattle.csv_rows.specs.Grammar.{Plain, none, byte, Inner, nothing, other, doubled, OneCell, plain, quoted, Cells, one, more, LineEnd, feed, return_feed, file_end, RowAt, row}
use Rattle.csv_rows.proofs.Pieces.{plain-no-quote, apart}
use Rattle.csv_rows.specs.declared.Ending.TheVariants.{Through}
use Rattle.csv_rows.specs.Answers.{end_len}
use Rattle.csv_rows.proofs.Exact.{cells-read, end-ends, end-no-sep}

undoubled-other : (b : ℕ) (t : List ℕ) → eqb b 34 ≡ false → undoubled (b ∷ t) ≡ b ∷ undoubled t
unfolding undoubled pick
undoubled-other b [] h = refl
undoubled-other b (c ∷ t) h = rw h

pub inner-text : {s t : List ℕ} → Inner s t → undoubled s ≡ t
unfolding undoubled pick
inner-text nothing = refl
inner-text (other {b} {s} h i) = undoubled-other b s h ∙ ap (λ (l : List ℕ). b ∷ l) (inner-text i)
inner-text (doubled i) = ap (λ (l : List ℕ). 34 ∷ l) (inner-text i)

pub plain-text : {sep : ℕ} {s : List ℕ} → Plain sep s → undoubled s ≡ s
unfolding undoubled
plain-text none = refl
plain-text {sep} (byte {b} {s} h p) = undoubled-other b s (plain-no-quote sep b h) ∙ ap (λ (l : List ℕ). b ∷ l) (plain-text p)

-- own bytes between others
between : (p s u : List ℕ) (at n : ℕ) → at ≡ length p → n ≡ length s → take n (drop at (p ++ (s ++ u))) ≡ s
between p s u at n e f = rw (e, f, drop-append_seam p (s ++ u), take-append_seam s u)

pub one-text : {sep at : ℕ} {s t : List ℕ} {c : Place} (p u : List ℕ) → at ≡ length p → OneCell sep at s c t → text_of (p ++ (s ++ u)) c ≡ t
unfolding text_of own_bytes
one-text {sep} {at} {s} p u e (plain d) = ap undoubled (between p s u at (at + length s - at) e (omega arith)) ∙ plain-text d
one-text {sep} {at} p u e (quoted {s} d) =
    let l : at + 1 ≡ length (p ++ 34 ∷ []) = let z = length-append p (34 ∷ []) in omega arith in
    let f : p ++ ((34 ∷ s ++ 34 ∷ []) ++ u) ≡ (p ++ 34 ∷ []) ++ (s ++ (34 ∷ u)) =
    ap (λ (r : List ℕ). p ++ r) (append_assoc (34 ∷ s) (34 ∷ []) u) ∙ sym (append_assoc p (34 ∷ []) (s ++ (34 ∷ u)))
    in
    rw f (ap undoubled (between (p ++ 34 ∷ []) s (34 ∷ u) (at + 1) (at + 1 + length s - (at + 1)) l (omega arith)) ∙ inner-text d)

pub cells-text : {sep at : ℕ} {s : List ℕ} {cs : List Place} {ts : List (List ℕ)} (p u : List ℕ) → at ≡ length p → Cells sep at s cs ts → texts_of (p ++ (s ++ u)) cs ≡ ts
unfolding texts_of
cells-text p u e (one o) = rw (one-text p u e o)
cells-text {sep} {at} p u e (more {s = s} {t = t} {u = v} {c = c} {cs = cs} {ts = ts} o d) =
    let f : p ++ ((s ++ sep ∷ v) ++ u) ≡ p ++ (s ++ (sep ∷ (v ++ u))) = ap (λ (r : List ℕ). p ++ r) (append_assoc s (sep ∷ v) u) in
    let q = p ++ (s ++ sep ∷ []) in
    let g : p ++ (s ++ (sep ∷ (v ++ u))) ≡ q ++ (v ++ u) =
    ap (λ (r : List ℕ). p ++ r) (sym (append_assoc s (sep ∷ []) (v ++ u))) ∙ sym (append_assoc p (s ++ sep ∷ []) (v ++ u))
    in
    let n : at + length s + 1 ≡ length q = let y = length-append p (s ++ sep ∷ []) in let z = length-append s (sep ∷ []) in omega arith in
    let a : text_of (p ++ ((s ++ sep ∷ v) ++ u)) c ≡ t = rw f (one-text p (sep ∷ (v ++ u)) e o) in
    let b : texts_of (p ++ ((s ++ sep ∷ v) ++ u)) cs ≡ ts = rw (f, g) (cells-text q u n d) in
    rw (a, b)

-- the texts of a row
pub row-texts : {sep : ℕ} {s r : List ℕ} {cs : List Place} {ts : List (List ℕ)} → RowAt sep s r cs ts → texts_of s cs ≡ ts
row-texts (row {e = e} d l) = cells-text [] e refl d

line_after : {e r : List ℕ} → LineEnd e r → drop (end_len e) e ≡ r
unfolding end_len pick
line_after feed = refl
line_after return_feed = refl
line_after file_end = refl

-- what is read of a row that is derived
row-parts : (k : Separator) {s r : List ℕ} {cs : List Place} {ts : List (List ℕ)} → RowAt (byte_of k) s r cs ts → (n : ℕ) × ((line true (byte_of k) s ≡ record { cells = cs; ending = Through n }) × (drop (end_len (drop n s)) (drop n s) ≡ r))
unfolding line
row-parts k (row {s} {e} d l) =
    let z : 0 + length s ≡ length s = omega arith in
    (length s, (cells-read (apart k) true d e (end-ends (byte_of k) l) (end-no-sep (apart k) l) ∙ rw z, rw (drop-append_seam s e) (line_after l)))

-- a text has at most one row at its front
pub unique : (k : Separator) {s r r' : List ℕ} {cs cs' : List Place} {ts ts' : List (List ℕ)} → RowAt (byte_of k) s r cs ts → RowAt (byte_of k) s r' cs' ts' → (r ≡ r') × (cs ≡ cs') × (ts ≡ ts')
unique k {s} {r} {r'} {cs} {cs'} {ts} {ts'} d e =
    let p = row-parts k d in
    let q = row-parts k e in
    let l = sym p.1.0 ∙ q.1.0 in
    let c : cs ≡ cs' = ap (λ (i : Line). i.cells) l in
    let m : Through p.0 ≡ Through q.0 = ap (λ (i : Line). i.ending) l in
    let n : p.0 ≡ q.0 = cc in
    (sym p.1.1 ∙ ap (λ (i : ℕ). drop (end_len (drop i s)) (drop i s)) n ∙ q.1.1, c, sym (row-texts d) ∙ ap (λ (i : List Place). texts_of s i) c ∙ row-texts e)
